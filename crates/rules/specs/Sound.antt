-- The limits, the order and the ranges of all tables of a house, which every step keeps.
use Rattle.std.specs.Prelude.{◌≡◌, ℕ, ◌+◌, ◌*◌, ◌/◌, ◌^◌, ◌<◌, ◌≤◌, true, false, cond, List, [], ◌∷◌, length, ◌==◌, ◌≢◌}
use mathlib.Core.List.{Memᴰ}
use Rattle.std.specs.List.{AllByRecursion}
use Rattle.wire.specs.Names.{home, name}
use Rattle.wire.specs.Laws.{Bytes, Named}
use Rattle.tables.specs.Model.{Object, Heap, is_in, present, names, rising}
use Rattle.tables.specs.Met.{everywhere}
use Rattle.lines.specs.Listed.{Listed, listed}
use Rattle.lines.specs.Stamping.{given_to, seen_from, heard_from}
use Rattle.lines.specs.declared.stamps.Stamps.{Stamps}
use Rattle.census.specs.Model.{Part}
use Rattle.census.specs.Laws as told
use Rattle.rounds.specs.Model.{Desk}
use Rattle.rules.specs.House.{House, self, houses, census}
use Rattle.rules.specs.Step.{Event, make, link, unlink, load, drop, ask, collect, word, join, tell, round, came, step}

-- the name of an object of house `here`, one of so many houses, whose highest number is `made`
pub record Own (here houses made o : ℕ) : Type 0 where
  pub lives : home o ≡ here
  pub named : Named houses (name o)
  pub numbered : o / 16 ≤ made

-- an object has at most eight fields
abbrev pub Small : Object → Type 0
Small y = length y.fields ≤ 8

pub record SoundHeap (x : Heap) : Type 0 where
  pub sixteen : x.houses ≤ 16
  pub inside : x.home < x.houses
  pub order : rising (names x.objects) ≡ true
  pub few : length x.objects ≤ 1024
  pub own : (o : ℕ) → present o x.objects ≡ true → Own x.home x.houses x.made o
  pub fields : (o : ℕ) → is_in o (everywhere x.objects) ≡ true → Named x.houses (name o)
  pub small : AllByRecursion Small x.objects
  pub roots_order : rising x.roots ≡ true
  pub roots_few : length x.roots ≤ 256
  pub roots : (o : ℕ) → is_in o x.roots ≡ true → Named x.houses (name o)
  pub made : x.made * 16 + x.home < 2 ^ 32

-- a line of house `here`, one of so many houses, in census c
pub record SoundLine (here houses c : ℕ) (e : Listed) : Type 0 where
  pub own : home e.object ≡ here
  pub named : Named houses (name e.object)
  pub near : e.holder < houses
  pub apart : e.holder ≡ here → ⊥
  pub stamp : e.stamp < 2 ^ 32
  pub census : e.census ≤ c

-- at most one line for an object and a holder
abbrev pub Single : List Listed → Type 0
Single [] = Unit {0}
Single (e ∷ es) = (listed e.object e.holder es ≡ false) × Single es

pub record SoundList (here houses c : ℕ) (es : List Listed) : Type 0 where
  pub few : length es ≤ 2048
  pub lines : (e : Listed) → Memᴰ e es → SoundLine here houses c e
  pub once : Single es

pub record SoundStamps (st : Stamps) : Type 0 where
  pub given_long : length st.given ≡ 16
  pub seen_long : length st.seen ≡ 16
  pub heard_long : length st.heard ≡ 16
  pub given : (j : ℕ) → given_to st j < 2 ^ 32
  pub seen : (j : ℕ) → seen_from st j < 2 ^ 32
  pub heard : (j : ℕ) → heard_from st j < 2 ^ 32

pub record SoundPart (here houses : ℕ) (p : Part) : Type 0 where
  pub census : p.census < 2 ^ 32
  pub order : told.Sound p
  pub named : (o : ℕ) → told.IsTold o p → Named houses (name o)
  pub far : (o : ℕ) → told.IsTold o p → home o ≢ here

pub record SoundDesk (d : Desk) : Type 0 where
  pub round : d.round < 2 ^ 32
  pub now : length d.now ≡ 16
  pub before : length d.before ≡ 16

-- how many lines have another number than c
abbrev pub stale : ℕ → List Listed → ℕ
stale c [] = 0
stale c (e ∷ es) = cond (e.census == c) 0 1 + stale c es

-- counted: a mark makes one line of the own census more, so the tally stays far below its end
pub record Sound (h : House) : Type 0 where
  pub heap : SoundHeap h.heap
  pub list : SoundList (self h) (houses h) (census h) h.list
  pub stamps : SoundStamps h.stamps
  pub part : SoundPart (self h) (houses h) h.part
  pub desk : SoundDesk h.desk
  pub counted : h.part.tally + stale (census h) h.list ≤ 2048

-- what comes as bytes is bytes; numbers of calls may be any
abbrev pub Typed : Event → Type 0
Typed (make k) = Unit {0}
Typed (link o p) = Unit {0}
Typed (unlink o p) = Unit {0}
Typed (load o p) = Unit {0}
Typed (drop o) = Unit {0}
Typed (ask o j) = Unit {0}
Typed collect = Unit {0}
Typed (word j) = Unit {0}
Typed (join c) = Unit {0}
Typed tell = Unit {0}
Typed round = Unit {0}
Typed (came bs) = Bytes bs

-- Whatever happens to a sound house leaves it sound.
abbrev pub KeepsSound : Type 0
KeepsSound = (h : House) (e : Event) → Sound h → Typed e → Sound (step h e).house
