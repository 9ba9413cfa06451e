-- What the rounds in memory stand for, and what their answers say.
use Rattle.std.specs.Prelude.{ℕ, Bool, cond, List, map, Ok, Err, Result}
use Rattle.wire.specs.declared.names.RoundNumber.{RoundNumber}
use Rattle.wire.specs.declared.refusal.Refusal.{Refusal}
use Rattle.rounds.specs.declared.desk.Answers.{Answers}
use Rattle.rounds.specs.declared.desk.Desk.{Desk}
use Rattle.rounds.specs.declared.desk.Noted.{Noted}
use Rattle.rounds.specs.declared.desk.Noted.TheVariants.{Ignored, Kept, Completes}
use Rattle.rounds.specs.Slots.{slot}
use Rattle.rounds.specs.Model as model

abbrev pub slots_of : Answers → List model.Slot
slots_of a = map slot a.slots

abbrev pub desk_of : Desk → model.Desk
desk_of d = record { round = d.round.0; now = slots_of d.answers; before = slots_of d.before }

-- a round's number, or why there is none
abbrev pub number_of : Result RoundNumber Refusal → Result ℕ Refusal
number_of (Ok r) = Ok r.0
number_of (Err e) = Err e

-- whether it is noted, and whether it completes the census
abbrev pub verdict : Bool → Bool → Noted
verdict notes completes = cond notes (cond completes Completes Kept) Ignored
