-- What becomes of an order, and what is sent in an answer.
use Rattle.std.specs.Prelude.{◌≡◌, Bool, false, ℕ, ◌%◌, map, length, option_map, Some, None, Ok, Err, Option, Result, Vec, ◌==◌}
use Rattle.std.specs.declared.alloc.Global.{Global}
use Rattle.wire.specs.declared.refusal.Refusal.{Refusal}
use Rattle.wire.specs.declared.refusal.Refusal.TheVariants.{Malformed}
use Rattle.text.specs.Hex.{hex_of}
use Rattle.text.specs.Lines.{Said, call, got}
use Rattle.objects.specs.declared.fault.Fault.TheVariants.{Refused, NoMemory}
use Rattle.rules.specs.House.{House}
use Rattle.rules.specs.Step.{Event, came, event_of, refused}
use Rattle.node.specs.Shown.{Answer, Answers, Gives, letters}
use Rattle.store.specs.Sending.{bytes_of, contents}

-- the event that an order is; none where its digits spell no bytes
abbrev pub event_in : Said → Option Event
event_in (call c) = Some (event_of c)
event_in (got ds) = option_map came (hex_of ds)

-- an order that gives bytes by their digits, which are even in number
abbrev pub spells : Said → Bool
spells (call c) = false
spells (got ds) = length ds % 2 == 0

-- what is answered to it, and the house afterwards
abbrev pub Follows : Answer → Option Event → House → House → Type 0
Follows a None before after = Gives false a (refused Malformed before) before after
Follows a (Some e) before after = Answers a e before after

-- messages are handed on, or the refusal
abbrev pub Sends : Answer → Result (Vec (Vec ℕ Global) Global) Refusal → Type 0
Sends (Ok s) (Ok v) = contents v ≡ map bytes_of (letters s)
Sends (Ok s) (Err e) = ⊥
Sends (Err (Refused e)) (Ok v) = ⊥
Sends (Err (Refused e)) (Err f) = f ≡ e
Sends (Err NoMemory) r = ⊥
