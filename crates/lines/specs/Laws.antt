-- What holds of the list whatever is in it, in the words of its use.
use Rattle.std.specs.Prelude.{◌≡◌, ℕ, ◌<◌, ◌≤◌, cond, List, [], ◌∷◌, length, ◌≢◌, nat_lt}
use mathlib.Core.List.{Memᴰ}
use Rattle.std.specs.List.{AllZip, AllByRecursion}
use Rattle.wire.specs.Names.{home}
use Rattle.lines.specs.Listed.{Listed, line, heard_of, joined}

-- Hearing the same word twice is hearing it once: after it, it takes no more away.
abbrev pub Again : ℕ → List ℕ → ℕ → List Listed → Type 0
Again j held upto es = heard_of j held upto es ≡ es

-- A line with a stamp after the word's is still there when the word was heard.
abbrev pub Survives : ℕ → List Listed → List Listed → Type 0
Survives upto es fs = (e : Listed) → upto < e.stamp → Memᴰ e es → Memᴰ e fs

-- A line entered after the word's stamp survives the word, whatever it says.
abbrev pub Outlives : ℕ → ℕ → ℕ → ℕ → List Listed → Type 0
Outlives o j s c es = (held : List ℕ) (upto : ℕ) → upto < s → Memᴰ (line o j s c) (heard_of j held upto es)

-- the same line, with a number that is no lower
pub record Raised (e f : Listed) : Type 0 where
  pub same : f ≡ line e.object e.holder e.stamp f.census
  pub number : e.census ≤ f.census

-- A join never lowers a line's number, where none is above that of the census, and changes nothing else of a line.
abbrev pub Raises : ℕ → List Listed → List Listed → Type 0
Raises c es fs = AllByRecursion (λ e. e.census ≤ c) es → AllZip Raised es fs

-- the lines not yet heard: with a stamp above what is heard of the holder
unfoldable pub unheard : (ℕ → ℕ) → List Listed → List Listed
unheard heard [] = []
unheard heard (e ∷ es) = cond (nat_lt (heard e.holder) e.stamp) (e ∷ unheard heard es) (unheard heard es)

-- A sweep after a join and no marks leaves exactly the lines not yet heard, with the number of the census.
abbrev pub LeavesUnheard : ℕ → List Listed → List Listed → Type 0
LeavesUnheard c es fs = (heard : ℕ → ℕ) (before : List Listed) → AllByRecursion (λ e. e.census < c) before → es ≡ joined c heard before → fs ≡ joined c heard (unheard heard before)

-- What holds of every list of a house: at most one line for an object and a holder, at most 2,048 in all, every object lives here, and every holder is another of the houses.
pub record Kept (here houses : ℕ) (es : List Listed) : Type 0 where
  pub one : (e f : Listed) → Memᴰ e es → Memᴰ f es → e.object ≡ f.object → e.holder ≡ f.holder → e ≡ f
  pub few : length es ≤ 2048
  pub own : (e : Listed) → Memᴰ e es → home e.object ≡ here
  pub apart : (e : Listed) → Memᴰ e es → e.holder ≢ here
  pub below : (e : Listed) → Memᴰ e es → e.holder < houses
