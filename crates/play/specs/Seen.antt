-- What the relation of steps sees of the houses and of what was sent.
use Rattle.std.specs.Prelude.{ℕ, cond, List, [], ◌∷◌, ◌++◌, Ok, Err, Result}
use Rattle.wire.specs.declared.refusal.Refusal.{Refusal}
use Rattle.wire.specs.declared.message.Message.{Message}
use Rattle.wire.specs.declared.message.Message.TheVariants as message
use Rattle.wire.specs.Format.{decode, numbers, part_of}
use Rattle.lines.specs.Stamping.{given_to, seen_from, heard_from}
use Rattle.census.specs.Model.{Told, names}
use Rattle.census.specs.Model as census
use Rattle.rounds.specs.Model as rounds
use Rattle.rules.specs.House as rules
use Rattle.promise.specs.House.{House}
use Rattle.promise.specs.Net.{Msg, Ask, Give, Word, Mark, Sweep}
use Rattle.promise.specs.Rounds.{Part, Slot, none, some, Desk, Note, Answer, Round, Reply}
use Rattle.promise.specs.Rounds as promise
use Rattle.play.specs.Play.{World}

abbrev pub house_seen : rules.House → House
house_seen h =
    record {
      roots = h.heap.roots;
      objects = h.heap.objects;
      list = h.list;
      given = given_to h.stamps;
      seen = seen_from h.stamps;
      heard = heard_from h.stamps;
      census = h.part.census;
    }

-- those whose telling was answered
abbrev pub answered_names : List Told → List ℕ
answered_names [] = []
answered_names (t ∷ ts) = cond t.answered (t.name ∷ answered_names ts) (answered_names ts)

abbrev pub part_seen : census.Part → Part
part_seen p = record { told = names p.told; answered = answered_names p.told; tally = p.tally; polled = p.polled; stirred = p.stirred }

abbrev pub slot_seen : rounds.Slot → Slot
slot_seen rounds.silent = none
slot_seen (rounds.said calm t) = some calm t

abbrev pub desk_seen : rounds.Desk → Desk
desk_seen d = record { round = d.round; now = λ i. slot_seen (rounds.slot_of i d.now); before = λ i. slot_seen (rounds.slot_of i d.before) }

-- a message of the references, or of the census: with a word's objects beside it
abbrev pub msg_of : Message → List ℕ → List Msg
msg_of (message.Ask o by to) part = Ask o.0 by.0 to.0 ∷ []
msg_of (message.Give o to s) part = Give o.0 to.0 s.0 ∷ []
msg_of (message.Word from to s p) part = Word from.0 to.0 (numbers part) s.0 ∷ []
msg_of (message.Telling c o from) part = Mark c.0 o.0 from.0 ∷ []
msg_of (message.Answer c o from) part = []
msg_of (message.Round c r) part = []
msg_of (message.Reply c r from calm t) part = []
msg_of (message.Complete c) part = Sweep c.0 ∷ []

-- a message of the rounds
abbrev pub note_of : Message → List Note
note_of (message.Ask o by to) = []
note_of (message.Give o to s) = []
note_of (message.Word from to s p) = []
note_of (message.Telling c o from) = []
note_of (message.Answer c o from) = Answer c.0 o.0 from.0 ∷ []
note_of (message.Round c r) = Round c.0 r.0 ∷ []
note_of (message.Reply c r from calm t) = Reply c.0 r.0 from.0 calm t.0 ∷ []
note_of (message.Complete c) = []

abbrev pub msg_in : Result Message Refusal → List ℕ → List Msg
msg_in (Ok m) bs = msg_of m (part_of m bs)
msg_in (Err e) bs = []

abbrev pub note_in : Result Message Refusal → List Note
note_in (Ok m) = note_of m
note_in (Err e) = []

abbrev pub msgs_seen : ℕ → List (List ℕ) → List Msg
msgs_seen n [] = []
msgs_seen n (bs ∷ rest) = msg_in (decode n bs) bs ++ msgs_seen n rest

abbrev pub notes_seen : ℕ → List (List ℕ) → List Note
notes_seen n [] = []
notes_seen n (bs ∷ rest) = note_in (decode n bs) ++ notes_seen n rest

-- a world among n houses, as the relation sees it
abbrev pub seen : ℕ → World → promise.World
seen n w =
    record {
      net = record { house = λ i. house_seen (w.house i); sent = msgs_seen n w.sent; made = λ i. (w.house i).heap.made };
      part = λ i. part_seen (w.house i).part;
      desk = desk_seen (w.house 0).desk;
      said = notes_seen n w.sent;
    }
