-- What was read, as parts side by side.
use Rattle.std.specs.Prelude.{ℕ, false, Ok, Err, Result}
use Rattle.wire.specs.declared.message.Message.{Message}
use Rattle.wire.specs.declared.message.Message.TheVariants.{Ask, Give, Word, Telling, Answer, Round, Reply, Complete}
use Rattle.wire.specs.declared.refusal.Refusal.{Refusal}
use Rattle.wire.specs.Refusals.{number_of}
use Rattle.exports.specs.declared.said.Said.{Said}

abbrev pub refused : ℕ → Said
refused k = record { refusal = k; kind = 0; by = 0; from = 0; to = 0; calm = false; count = 0; object = 0; stamp = 0; census = 0; round = 0; tally = 0 }

abbrev pub said_of : Message → Said
said_of (Ask o by to) = record { refusal = 0; kind = 1; by = by.0; from = 0; to = to.0; calm = false; count = 0; object = o.0; stamp = 0; census = 0; round = 0; tally = 0 }
said_of (Give o to s) = record { refusal = 0; kind = 2; by = 0; from = 0; to = to.0; calm = false; count = 0; object = o.0; stamp = s.0; census = 0; round = 0; tally = 0 }
said_of (Word from to s p) = record { refusal = 0; kind = 3; by = 0; from = from.0; to = to.0; calm = false; count = p.count; object = 0; stamp = s.0; census = 0; round = 0; tally = 0 }
said_of (Telling c o from) = record { refusal = 0; kind = 4; by = 0; from = from.0; to = 0; calm = false; count = 0; object = o.0; stamp = 0; census = c.0; round = 0; tally = 0 }
said_of (Answer c o from) = record { refusal = 0; kind = 5; by = 0; from = from.0; to = 0; calm = false; count = 0; object = o.0; stamp = 0; census = c.0; round = 0; tally = 0 }
said_of (Round c r) = record { refusal = 0; kind = 6; by = 0; from = 0; to = 0; calm = false; count = 0; object = 0; stamp = 0; census = c.0; round = r.0; tally = 0 }
said_of (Reply c r from calm t) = record { refusal = 0; kind = 7; by = 0; from = from.0; to = 0; calm = calm; count = 0; object = 0; stamp = 0; census = c.0; round = r.0; tally = t.0 }
said_of (Complete c) = record { refusal = 0; kind = 8; by = 0; from = 0; to = 0; calm = false; count = 0; object = 0; stamp = 0; census = c.0; round = 0; tally = 0 }

abbrev pub said : Result Message Refusal → Said
said (Ok m) = said_of m
said (Err e) = refused (number_of e)
