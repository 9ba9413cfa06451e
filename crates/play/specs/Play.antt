-- Houses over a network that loses, repeats, delays and reorders: any list of calls, and of deliveries of what was sent.
use Rattle.std.specs.Prelude.{ℕ, Bool, true, false, cond, ◌&&◌, List, [], ◌∷◌, ◌++◌, map, length, Ok, Err, Result, ◌==◌, nat_lt, slice_index_or}
use Rattle.wire.specs.declared.call.Call.{Call}
use Rattle.wire.specs.declared.call.Call.TheVariants as call
use Rattle.wire.specs.declared.message.Message.{Message}
use Rattle.wire.specs.declared.message.Message.TheVariants as message
use Rattle.wire.specs.declared.refusal.Refusal.{Refusal}
use Rattle.wire.specs.declared.refusal.Refusal.TheVariants.{Malformed}
use Rattle.wire.specs.Format.{encode, decode}
use Rattle.rules.specs.House.{House, empty}
use Rattle.rules.specs.Step.{Letter, Said, Event, came, step, event_of}

-- the houses, and the bytes of all that was ever sent, in the order of sending
pub record World : Type 0 where
  pub house : ℕ → House
  pub sent : List (List ℕ)

-- A call at a house, or the delivery to a house of a message that was sent, counted from 0. Each may come at any time and any number of times: a message that is lost is one that nobody delivers.
pub data Entry : Type 0 where
  calls : (house : ℕ) → Call → Entry
  delivers : (house message : ℕ) → Entry

-- n houses with nothing in them
abbrev pub begin : ℕ → World
begin n = record { house = λ i. empty i n; sent = [] }

-- house i becomes h, the others stay
abbrev pub put : {A : Type 0} → ℕ → A → (ℕ → A) → ℕ → A
put i h f j = cond (j == i) h (f j)

abbrev pub bytes_of : Letter → List ℕ
bytes_of l = encode l.0 l.1

-- what an answer adds to all that was sent
abbrev pub written : Said → List (List ℕ)
written (Ok ls) = map bytes_of ls
written (Err e) = []

-- something happens at house i
abbrev pub happens : ℕ → Event → World → World
happens i e w = record { house = put i (step (w.house i) e).house w.house; sent = w.sent ++ written (step (w.house i) e).answer }

-- One entry. A house that is none of the n, and a message that was never sent, change nothing.
abbrev pub play : ℕ → Entry → World → World
play n (calls i c) w = cond (nat_lt i n) (happens i (event_of c) w) w
play n (delivers i m) w = cond (nat_lt i n && nat_lt m (length w.sent)) (happens i (came (slice_index_or w.sent m [])) w) w

-- what the house answers to an entry; where there is no such house or message, 1
abbrev pub answered : ℕ → Entry → World → Said
answered n (calls i c) w = cond (nat_lt i n) (step (w.house i) (event_of c)).answer (Err Malformed)
answered n (delivers i m) w = cond (nat_lt i n && nat_lt m (length w.sent)) (step (w.house i) (came (slice_index_or w.sent m []))).answer (Err Malformed)

-- entries one after the other
abbrev pub plays : ℕ → List Entry → World → World
plays n [] w = w
plays n (e ∷ es) w = plays n es (play n e w)

-- the worlds that some list of entries leads to
pub data Reach (n : ℕ) : World → Type 0 where
  start : Reach n (begin n)
  more : {w : World} → Reach n w → (e : Entry) → Reach n (play n e w)

-- the calls of the collector
abbrev pub of_collector : Call → Bool
of_collector (call.Make k) = false
of_collector (call.Link o p) = false
of_collector (call.Unlink o p) = false
of_collector (call.Load o p) = false
of_collector (call.Drop o) = false
of_collector (call.Ask o j) = false
of_collector call.Collect = true
of_collector (call.Word j) = true
of_collector (call.Join c) = true
of_collector call.Tell = true
of_collector call.Round = true

-- and its messages: all but those that hand a reference on
abbrev pub for_collector : Result Message Refusal → Bool
for_collector (Ok (message.Ask o by to)) = false
for_collector (Ok (message.Give o to s)) = false
for_collector (Ok (message.Word from to s p)) = true
for_collector (Ok (message.Telling c o from)) = true
for_collector (Ok (message.Answer c o from)) = true
for_collector (Ok (message.Round c r)) = true
for_collector (Ok (message.Reply c r from calm t)) = true
for_collector (Ok (message.Complete c)) = true
for_collector (Err e) = true

-- an entry with which no program has anything to do
abbrev pub cleaning : ℕ → Entry → World → Bool
cleaning n (calls i c) w = of_collector c
cleaning n (delivers i m) w = for_collector (decode n (slice_index_or w.sent m []))
