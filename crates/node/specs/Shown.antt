-- What a house in memory stands for, and what its answers say.
use Rattle.std.specs.Prelude.{◌≡◌, ℕ, Bool, true, false, ◌||◌, List, [], ◌∷◌, map, is_ok, Ok, Err, vec_items, Result}
use Rattle.wire.specs.declared.refusal.Refusal.{Refusal}
use Rattle.wire.specs.declared.message.Message.TheVariants as message
use Rattle.objects.specs.declared.fault.Fault.{Fault}
use Rattle.objects.specs.declared.fault.Fault.TheVariants.{Refused, NoMemory}
use Rattle.wire.specs.Names.{name}
use Rattle.tables.specs.Shown.{numbers}
use Rattle.objects.specs.declared.store.Objects.{Objects}
use Rattle.objects.specs.Calls.{heap_of}
use Rattle.objects.specs.Executed.{references_of}
use Rattle.lines.specs.declared.table.Lines.{Lines}
use Rattle.lines.specs.Lists.{lines, Lent}
use Rattle.census.specs.Model.{due_of}
use Rattle.census.specs.Standings.{part_of}
use Rattle.rounds.specs.Shown.{desk_of}
use Rattle.node.specs.declared.head.Head.{Head}
use Rattle.node.specs.declared.sent.Sent.{Sent}
use Rattle.node.specs.declared.sent.Sent.TheVariants.{Nothing, One, Word, Tellings}
use Rattle.node.specs.declared.lent.Tables.{Tables}
use Rattle.rules.specs.House.{House}
use Rattle.rules.specs.Step.{Letter, Outcome, letter, Event, word, tell, used, step}

abbrev pub house_of : Head → Objects → Lines → House
house_of h os ls = record { heap = heap_of os; list = lines ls; stamps = h.stamps; part = part_of h.standing; desk = desk_of h.desk }

-- the house whose tables are lent together
abbrev pub house_lent : Head → Tables → House
house_lent h t = house_of h t.objects.now t.list.now

-- u lies in the memory that t lies in, and is of the same house
pub record SameLoan (t u : Tables) : Type 0 where
  pub objects : u.objects.ghost_name ≡ t.objects.ghost_name
  pub list : u.list.ghost_name ≡ t.list.ghost_name
  pub columns : Lent t.list.now u.list.now

abbrev pub letters : Sent → List Letter
letters Nothing = []
letters (One m) = letter m ∷ []
letters (Word m objects) = (m, vec_items objects) ∷ []
letters (Tellings c from objects) = map (λ o. letter (message.Telling c (name o) from)) (numbers (vec_items objects))

-- the messages to send, or why nothing was done
abbrev pub Answer : Type 0
Answer = Result Sent Fault

-- the answer and the house afterwards are those of the outcome; only a step that asks for memory, and is not refused, may find none, and leaves the house as it was
abbrev pub Gives : Bool → Answer → Outcome → House → House → Type 0
Gives allocates (Ok s) x before after = x ≡ record { answer = Ok (letters s); house = after }
Gives allocates (Err (Refused e)) x before after = x ≡ record { answer = Err e; house = after }
Gives allocates (Err NoMemory) x before after = (allocates ≡ true) × (is_ok x.answer ≡ true) × (after ≡ before)

-- there is something to be listed
abbrev pub is_listed : List ℕ → Bool
is_listed [] = false
is_listed (o ∷ os) = true

-- the steps that ask for memory: a word, where there is a reference to list, and a telling, where something is in use of others or waits for its answer
abbrev pub allocates : Event → House → Bool
allocates (word j) h = is_listed (references_of j h.heap)
allocates tell h = is_listed (used h) || is_listed (due_of (used h) h.part)
allocates e h = false

abbrev pub never : House → Bool
never h = false

-- the answer and the house afterwards are those of the step at an event
abbrev pub Answers : Answer → Event → House → House → Type 0
Answers a e before after = Gives (allocates e before) a (step before e) before after

-- a call of the objects that sends nothing
abbrev pub quieted : Result (Unit {0}) Refusal → Answer
quieted (Ok u) = Ok Nothing
quieted (Err e) = Err (Refused e)

-- What a method of head h did with tables t: the head and the answer that it hands back, with the tables u as they are then, are the outcome of the rule; it asks for memory only where the test says so.
pub record Does (asks : House → Bool) (rule : House → Outcome) (h : Head) (t : Tables) (r : Head × Answer) (u : Tables) : Type 0 where
  pub step : Gives (asks (house_lent h t)) r.1 (rule (house_lent h t)) (house_lent h t) (house_lent r.0 u)
  pub lent : SameLoan t u

-- the step at an event, as a rule
abbrev pub by : Event → House → Outcome
by e h = step h e

-- what a method handed back is the step of a house at an event
abbrev pub Steps : Head × Answer → Event → House → Objects → Lines → Type 0
Steps r e before os ls = Answers r.1 e before (house_of r.0 os ls)
