-- What is promised of the collector's entries: what they leave is exactly what matters.
use Rattle.std.specs.Prelude.{◌≡◌, ℕ, ◌<◌, ◌≤◌, true, List, [], ◌∷◌}
use mathlib.Core.List.{Memᴰ}
use Rattle.tables.specs.Model.{present}
use Rattle.lines.specs.Listed.{Listed}
use Rattle.census.specs.Model.{fresh}
use Rattle.rounds.specs.Model.{idle}
use Rattle.rules.specs.House.{census}
use Rattle.play.specs.Play.{World, Entry, play, plays, Reach, cleaning}
use Rattle.play.specs.Promise.{Has, There, SameMatters}
use Rattle.play.specs.Settle.{settling}

-- all houses have joined census c, and nothing was told or asked in it yet
pub record Joined (n c : ℕ) (w : World) : Type 0 where
  pub census : (i : ℕ) → i < n → census (w.house i) ≡ c
  pub part : (i : ℕ) → i < n → (w.house i).part ≡ fresh c
  pub desk : (w.house 0).desk ≡ idle

-- all houses are in census c, and so is every line
abbrev pub Swept : ℕ → ℕ → World → Type 0
Swept n c w = (i : ℕ) → i < n → (census (w.house i) ≡ c) × ((e : Listed) → Memᴰ e (w.house i).list → e.census ≡ c)

-- what is present matters
abbrev pub Exactly : ℕ → World → Type 0
Exactly n w = (i o : ℕ) → i < n → present o (w.house i).heap.objects ≡ true → (j : ℕ) × Has n w j o

-- every line is of a reference that matters
abbrev pub LinesMatter : ℕ → World → Type 0
LinesMatter n w = (k : ℕ) → k < n → (e : Listed) → Memᴰ e (w.house k).list → Has n w e.holder e.object

-- from w to v: what is present matters, and so does every line; the same references matter as before, and whatever matters is there
pub record Settles (n : ℕ) (w v : World) : Type 0 where
  pub exact : Exactly n v
  pub lines : LinesMatter n v
  pub same : SameMatters n w v
  pub there : (j o : ℕ) → Has n v j o → There v j o

-- the collector's entries leave exactly what matters, from every world in which a census number above all is left
abbrev pub AlwaysSettles : Type 0
AlwaysSettles =
    (n : ℕ) → 0 < n → n ≤ 16 → (w : World) → Reach n w → ((i : ℕ) → i < n → census (w.house i) < 4294967295) → Settles n w (plays n (settling n w) w)

-- and nothing, where nothing matters
abbrev pub NothingLeft : Type 0
NothingLeft =
    (n : ℕ) → 0 < n → n ≤ 16 → (w : World) → Reach n w → ((i : ℕ) → i < n → census (w.house i) < 4294967295) →
    ((j o : ℕ) → Has n w j o → ⊥) → (i : ℕ) → i < n → ((plays n (settling n w) w).house i).heap.objects ≡ []

-- each of these entries is the collector's, in the world where it is played
abbrev pub AllCleaning : ℕ → List Entry → World → Type 0
AllCleaning n [] w = Unit {0}
AllCleaning n (e ∷ es) w = (cleaning n e w ≡ true) × AllCleaning n es (play n e w)

-- settling plays none but the collector's
abbrev pub OnlyCleans : Type 0
OnlyCleans = (n : ℕ) → n ≤ 16 → (w : World) → Reach n w → AllCleaning n (settling n w) w
