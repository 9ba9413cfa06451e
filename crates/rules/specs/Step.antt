-- What a house does at each call and each message: the answer, the messages that it sends, and all its tables afterwards.
use Rattle.std.specs.Prelude.{ℕ, ◌+◌, max, Bool, cond, not, ◌&&◌, ◌||◌, List, [], ◌∷◌, ◌++◌, map, length, Ok, Err, Result, ◌==◌, nat_le, nat_lt}
use Rattle.wire.specs.declared.call.Call.{Call}
use Rattle.wire.specs.declared.call.Call.TheVariants as call
use Rattle.wire.specs.declared.message.Message.{Message}
use Rattle.wire.specs.declared.message.Message.TheVariants.{Ask, Give, Word, Telling, Answer, Round, Reply, Complete}
use Rattle.wire.specs.declared.refusal.Refusal.{Refusal}
use Rattle.wire.specs.declared.refusal.Refusal.TheVariants.{Malformed, Misdelivered, NotRoot, NotHere, NotHolder, OldStamp, OtherCensus, NoRoom, OutOfNumbers, WrongHouse}
use Rattle.wire.specs.Names.{home, house, name}
use Rattle.wire.specs.Format.{bytes4, decode, numbers, part_of}
use Rattle.tables.specs.Model.{Heap, is_in, present}
use Rattle.objects.specs.Calls.{make_answer, after_make, link_answer, after_link, unlink_answer, after_unlink, load_answer, after_load, drop_answer, after_drop, keep_answer, after_keep, take_answer, after_take, malformed}
use Rattle.objects.specs.Executed.{collected, names_in_use, references_of}
use Rattle.lines.specs.Listed.{Listed, listed, listed_in, entered, fits, belongs, marked, joined, heard_of, swept, objects_listed, objects_in}
use Rattle.lines.specs.Stamping.{stamp, given_to, seen_from, heard_from, with_given, with_seen, with_heard, next_for}
use Rattle.census.specs.Model.{asks, fresh, counting, stirring, hearing, telling, due_of, replying, replied}
use Rattle.rounds.specs.Model.{idle, beginning, begun, noted, completes}
use Rattle.lines.specs.declared.stamps.Stamps.{Stamps}
use Rattle.wire.specs.declared.names.Stamp.{Stamp}
use Rattle.rules.specs.House.{House, self, houses, census, with_heap, with_list, with_stamps, with_part, with_desk}

-- a message with a word's objects beside it
abbrev pub Letter : Type 0
Letter = Message × List ℕ

-- the messages to send, or why nothing was done
abbrev pub Said : Type 0
Said = Result (List Letter) Refusal

-- an answer, and the house afterwards
pub record Outcome : Type 0 where
  pub answer : Said
  pub house : House

-- what may happen at a house: a call, or that these bytes come
pub data Event : Type 0 where
  make : ℕ → Event
  link unlink load : ℕ → ℕ → Event
  drop : ℕ → Event
  ask : ℕ → ℕ → Event
  collect : Event
  word : ℕ → Event
  join : ℕ → Event
  tell : Event
  round : Event
  came : List ℕ → Event

-- a refusal changes nothing
abbrev pub refused : Refusal → House → Outcome
refused e h = record { answer = Err e; house = h }

-- a refusal, or what the rest of the rule says: so the lowest number is given
abbrev pub refuse_if : Bool → Refusal → House → Outcome → Outcome
refuse_if test e h rest = cond test (refused e h) rest

-- these messages are sent, and the house becomes this
abbrev pub sends : List Letter → House → Outcome
sends ls h = record { answer = Ok ls; house = h }

-- what the objects answered, and nothing to send
abbrev pub quietly : {X : Type 0} → Result X Refusal → Heap → House → Outcome
quietly (Ok x) after h = sends [] (with_heap after h)
quietly (Err e) after h = refused e h

abbrev pub letter : Message → Letter
letter m = (m, [])

-- the far references that are in use: met from the roots and from the objects of lines with the house's census
abbrev pub used : House → List ℕ
used h = names_in_use (objects_in (census h) h.list) h.heap

-- names as a word has them
abbrev pub bytes_of : List ℕ → List ℕ
bytes_of [] = []
bytes_of (o ∷ os) = bytes4 o ++ bytes_of os

abbrev pub asked : ℕ → ℕ → House → Outcome
asked o j h =
    refuse_if (malformed o h.heap || nat_le (houses h) j) Malformed h (
    refuse_if (not (is_in o h.heap.roots)) NotRoot h (
    sends (letter (Ask (name o) (house (self h)) (house j)) ∷ []) h))

abbrev pub worded : ℕ → House → Outcome
worded j h =
    refuse_if (nat_le (houses h) j) Malformed h (
    refuse_if (j == self h) WrongHouse h (
    sends ((Word (house (self h)) (house j) (stamp (seen_from h.stamps j)) (record { at = 9; count = length (references_of j h.heap) }), bytes_of (references_of j h.heap)) ∷ []) h))

-- a census above the own: lines that may still be on their way get its number, and all of the house's part and its rounds begin anew
abbrev pub in_census : ℕ → House → House
in_census c h = record { heap = h.heap; list = joined c (heard_from h.stamps) h.list; stamps = h.stamps; part = fresh c; desk = idle }

abbrev pub joins : ℕ → House → Outcome
joins c h = refuse_if (nat_le c (census h) || nat_lt 4294967295 c) OutOfNumbers h (sends [] (in_census c h))

-- a message of a higher census is joined first
abbrev pub caught_up : ℕ → House → House
caught_up c h = cond (nat_lt (census h) c) (in_census c h) h

abbrev pub telling_of : House → ℕ → Letter
telling_of h o = letter (Telling (record { 0 = census h }) (name o) (house (self h)))

abbrev pub tells : House → Outcome
tells h = sends (map (telling_of h) (due_of (used h) h.part)) (with_part (telling (used h) h.part) h)

-- the home hands its object on if the asker is the home itself and has it as a root, or holds it by a line of the home's census
abbrev pub authorised : ℕ → ℕ → House → Bool
authorised o by h = (by == self h && is_in o h.heap.roots) || listed_in (census h) o by h.list

-- the line of the object and the house is made or found, and gets the next stamp and the home's census
abbrev pub stamped : Result Stamp Refusal → ℕ → ℕ → House → Outcome
stamped (Err e) o j h = refused e h
stamped (Ok s) o j h =
    refuse_if (not (belongs (self h) (houses h) o j)) Malformed h (
    sends (letter (Give (name o) (house j) s) ∷ []) (with_stamps (with_given h.stamps j (given_to h.stamps j + 1)) (with_list (entered o j s.0 (census h) h.list) h)))

abbrev pub gives : ℕ → ℕ → House → Outcome
gives o j h = refuse_if (not (fits o j h.list 2048)) NoRoom h (stamped (next_for j h.stamps) o j h)

abbrev pub handed : ℕ → ℕ → ℕ → House → Outcome
handed o by j h =
    refuse_if (not (home o == self h)) Misdelivered h (
    refuse_if (not (present o h.heap.objects)) NotHere h (
    refuse_if (not (authorised o by h)) NotHolder h (
    cond (j == self h) (quietly (keep_answer o h.heap) (after_keep o h.heap) h) (gives o j h))))

-- the reference is a root, and its stamp is seen
abbrev pub took_it : Result (Unit {0}) Refusal → ℕ → ℕ → House → Outcome
took_it (Err e) o s h = refused e h
took_it (Ok u) o s h = sends [] (record { heap = after_take o h.heap; list = h.list; stamps = with_seen h.stamps (home o) s; part = stirring h.part; desk = h.desk })

abbrev pub takes : ℕ → ℕ → ℕ → House → Outcome
takes o j s h =
    refuse_if (not (j == self h) || home o == self h) Misdelivered h (
    refuse_if (nat_le s (seen_from h.stamps (home o))) OldStamp h (
    took_it (take_answer o h.heap) o s h))

abbrev pub heard_stamp : ℕ → ℕ → Stamps → Stamps
heard_stamp j s st = cond (nat_lt j 16) (with_heard st j (max (heard_from st j) s)) st

abbrev pub hears : ℕ → ℕ → ℕ → List ℕ → House → Outcome
hears from to s held h =
    refuse_if (not (to == self h)) Misdelivered h (
    sends [] (with_stamps (heard_stamp from s h.stamps) (with_list (heard_of from held s h.list) h)))

-- the line of an object and a house that had another number
abbrev pub newly : ℕ → ℕ → ℕ → List Listed → ℕ
newly c o j es = cond (listed o j es && not (listed_in c o j es)) 1 0

abbrev pub marks : ℕ → ℕ → ℕ → House → House
marks c o from h = with_part (counting (newly c o from h.list) h.part) (with_list (marked c o from h.list) h)

abbrev pub told : ℕ → ℕ → ℕ → House → Outcome
told c o from h =
    refuse_if (not (home o == self h)) Misdelivered h (
    refuse_if (nat_lt c (census h)) OtherCensus h (
    sends (letter (Answer (record { 0 = c }) (name o) (house from)) ∷ []) (marks c o from (caught_up c h))))

abbrev pub settles : ℕ → ℕ → ℕ → House → Outcome
settles c o from h =
    refuse_if (not (from == self h)) Misdelivered h (
    refuse_if (not (c == census h)) OtherCensus h (
    sends [] (with_part (hearing c o h.part) h)))

-- what the house says to a round of its own census
abbrev pub replies : Result Message Refusal → ℕ → ℕ → House → Outcome
replies (Err e) c r h = refused e h
replies (Ok m) c r h = sends (letter m ∷ []) (with_part (replied c r h.part) h)

abbrev pub replies_to : ℕ → ℕ → House → Outcome
replies_to c r h = replies (replying (house (self h)) c r (used h) h.part) c r h

abbrev pub polled : ℕ → ℕ → House → Outcome
polled c r h = refuse_if (nat_lt c (census h)) OtherCensus h (replies_to c r (caught_up c h))

abbrev pub sweeps : ℕ → House → Outcome
sweeps c h = refuse_if (not (c == census h)) OtherCensus h (sends [] (with_list (swept c h.list) h))

-- the house that asks begins the next round, or sends the present one again
abbrev pub begins : Result ℕ Refusal → House → Outcome
begins (Err e) h = refused e h
begins (Ok r) h = sends (letter (Round (record { 0 = census h }) (record { 0 = r })) ∷ []) (with_desk (begun (houses h) h.desk) h)

abbrev pub rounds : House → Outcome
rounds h = refuse_if (not (asks (self h))) WrongHouse h (begins (beginning (houses h) h.desk) h)

-- an answer to a round is noted; if with it two rounds agree, the census is complete
abbrev pub noting : ℕ → ℕ → ℕ → Bool → ℕ → House → Outcome
noting c r i calm t h =
    refuse_if (not (asks (self h))) Misdelivered h (
    refuse_if (not (c == census h)) OtherCensus h (
    sends (cond (completes (houses h) r i calm t h.desk) (letter (Complete (record { 0 = c })) ∷ []) []) (with_desk (noted r i calm t h.desk) h)))

-- a message with its objects' part
abbrev pub receives : Message → List ℕ → House → Outcome
receives (Ask o by j) part h = handed o.0 by.0 j.0 h
receives (Give o j s) part h = takes o.0 j.0 s.0 h
receives (Word from to s p) part h = hears from.0 to.0 s.0 (numbers part) h
receives (Telling c o from) part h = told c.0 o.0 from.0 h
receives (Answer c o from) part h = settles c.0 o.0 from.0 h
receives (Round c r) part h = polled c.0 r.0 h
receives (Reply c r from calm t) part h = noting c.0 r.0 from.0 calm t.0 h
receives (Complete c) part h = sweeps c.0 h

-- bytes that came: a message, or not of the right form
abbrev pub read_as : Result Message Refusal → List ℕ → House → Outcome
read_as (Err e) bs h = refused e h
read_as (Ok m) bs h = receives m (part_of m bs) h

-- THE STEP: whatever comes to a house, this is what it answers, sends and becomes.
abbrev pub step : House → Event → Outcome
step h (make k) = quietly (make_answer k h.heap) (after_make k h.heap) h
step h (link o p) = quietly (link_answer o p h.heap) (after_link o p h.heap) h
step h (unlink o p) = quietly (unlink_answer o p h.heap) (after_unlink o p h.heap) h
step h (load o p) = quietly (load_answer o p h.heap) (after_load o p h.heap) h
step h (drop o) = quietly (drop_answer o h.heap) (after_drop o h.heap) h
step h (ask o j) = asked o j h
step h collect = sends [] (with_heap (collected (objects_listed h.list) h.heap) h)
step h (word j) = worded j h
step h (join c) = joins c h
step h tell = tells h
step h round = rounds h
step h (came bs) = read_as (decode (houses h) bs) bs h

-- the event that a call is
abbrev pub event_of : Call → Event
event_of (call.Make k) = make k
event_of (call.Link o p) = link o.0 p.0
event_of (call.Unlink o p) = unlink o.0 p.0
event_of (call.Load o p) = load o.0 p.0
event_of (call.Drop o) = drop o.0
event_of (call.Ask o j) = ask o.0 j.0
event_of call.Collect = collect
event_of (call.Word j) = word j.0
event_of (call.Join c) = join c
event_of call.Tell = tell
event_of call.Round = round
