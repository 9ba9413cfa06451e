-- A house's part in a census, with names, census numbers and tallies as plain numbers, and what each call makes of it.
use Rattle.std.specs.Prelude.{ℕ, ◌+◌, min, Bool, false, cond, not, ◌&&◌, ◌||◌, List, [], ◌∷◌, map, length, Ok, Err, Result, ◌==◌, nat_le, nat_lt}
use Rattle.wire.specs.declared.message.Message.{Message}
use Rattle.wire.specs.declared.message.Message.TheVariants.{Reply}
use Rattle.wire.specs.declared.names.House.{House}
use Rattle.wire.specs.declared.refusal.Refusal.{Refusal}
use Rattle.wire.specs.declared.refusal.Refusal.TheVariants.{OtherCensus, OutOfNumbers}
use Rattle.tables.specs.Model.{is_in}

-- a far reference that was told in this census, and whether the telling was answered
pub record Told : Type 0 where
  pub name : ℕ
  pub answered : Bool

-- the census that the house is in; the far references told in it, rising; how many lines were newly marked in it; polled: round 1 was answered; stirred: a reference was taken since
pub record Part : Type 0 where
  pub census : ℕ
  pub told : List Told
  pub tally : ℕ
  pub polled : Bool
  pub stirred : Bool

-- the house that asks the rounds
abbrev pub asker : ℕ
asker = 0

abbrev pub asks : ℕ → Bool
asks i = i == asker

-- the part in a census that has just begun
abbrev pub fresh : ℕ → Part
fresh c = record { census = c; told = []; tally = 0; polled = false; stirred = false }

abbrev pub with_told : List Told → Part → Part
with_told ts p = record { census = p.census; told = ts; tally = p.tally; polled = p.polled; stirred = p.stirred }

abbrev pub name_of : Told → ℕ
name_of t = t.name

abbrev pub names : List Told → List ℕ
names ts = map name_of ts

-- a census above the own is joined, and all begins anew
abbrev pub joined : ℕ → Part → Part
joined c p = cond (nat_le c p.census) p (fresh c)

abbrev pub joining : ℕ → Part → Result (Unit {0}) Refusal
joining c p = cond (nat_le c p.census) (Err OutOfNumbers) (Ok tt)

-- so many lines were newly marked; a tally goes to 4294967295 and no further
abbrev pub counting : ℕ → Part → Part
counting n p = record { census = p.census; told = p.told; tally = min (p.tally + n) 4294967295; polled = p.polled; stirred = p.stirred }

-- a reference was taken
abbrev pub stirring : Part → Part
stirring p = record { census = p.census; told = p.told; tally = p.tally; polled = p.polled; stirred = p.stirred || p.polled }

-- the telling of o was answered
abbrev pub settle : ℕ → Told → Told
settle o t = record { name = t.name; answered = t.name == o || t.answered }

abbrev pub settled : ℕ → List Told → List Told
settled o ts = map (settle o) ts

-- an answer to a telling of o in census c came
abbrev pub hearing : ℕ → ℕ → Part → Part
hearing c o p = cond (c == p.census) (with_told (settled o p.told) p) p

-- a message of another census changes nothing
abbrev pub within : ℕ → Part → Result (Unit {0}) Refusal
within c p = cond (c == p.census) (Ok tt) (Err OtherCensus)

-- o was told, and the telling was answered
abbrev pub answered_in : ℕ → List Told → Bool
answered_in o [] = false
answered_in o (t ∷ ts) = (t.name == o && t.answered) || answered_in o ts

-- of these names those that were not told
abbrev pub untold : List ℕ → List Told → List ℕ
untold [] ts = []
untold (u ∷ us) ts = cond (is_in u (names ts)) (untold us ts) (u ∷ untold us ts)

-- what was told and is not answered
abbrev pub unanswered : List Told → List ℕ
unanswered [] = []
unanswered (t ∷ ts) = cond t.answered (unanswered ts) (t.name ∷ unanswered ts)

-- nothing in use is untold
abbrev pub all_told : List ℕ → Part → Bool
all_told us p = length (untold us p.told) == 0

-- nothing told is unanswered
abbrev pub all_answered : Part → Bool
all_answered p = length (unanswered p.told) == 0

abbrev pub calm : List ℕ → Part → Bool
calm us p = all_told us p && all_answered p

-- what the house says to round r: whether it is calm, but to round 2 a stirred house says no
abbrev pub says_calm : ℕ → List ℕ → Part → Bool
says_calm r us p = not (r == 2 && p.stirred) && calm us p

-- round r was answered
abbrev pub polling : ℕ → Part → Part
polling r p = record { census = p.census; told = p.told; tally = p.tally; polled = p.polled || (r == 1); stirred = p.stirred }

-- round r of census c came
abbrev pub replied : ℕ → ℕ → Part → Part
replied c r p = cond (c == p.census) (polling r p) p

abbrev pub replying : House → ℕ → ℕ → List ℕ → Part → Result Message Refusal
replying from c r us p = cond (c == p.census) (Ok (Reply (record { 0 = c }) (record { 0 = r }) from (says_calm r us p) (record { 0 = p.tally }))) (Err OtherCensus)

-- o is told, in its place, unless it was
abbrev pub entered : ℕ → List Told → List Told
entered o [] = record { name = o; answered = false } ∷ []
entered o (t ∷ ts) = cond (nat_lt t.name o) (t ∷ entered o ts) (cond (t.name == o) (t ∷ ts) (record { name = o; answered = false } ∷ t ∷ ts))

abbrev pub entered_all : List ℕ → List Told → List Told
entered_all [] ts = ts
entered_all (u ∷ us) ts = entered_all us (entered u ts)

-- all in use is told
abbrev pub telling : List ℕ → Part → Part
telling us p = with_told (entered_all us p.told) p

-- what is sent then: all that is not answered
abbrev pub due_of : List ℕ → Part → List ℕ
due_of us p = unanswered (entered_all us p.told)
