-- How much the collector's entries make the houses send.
use Rattle.std.specs.Prelude.{◌≡◌, ℕ, zero, suc, ◌+◌, ◌-◌, ◌*◌, ◌<◌, ◌≤◌, Bool, true, false, cond, List, [], ◌∷◌, length}
use Rattle.wire.specs.declared.call.Call.{Call}
use Rattle.wire.specs.declared.call.Call.TheVariants as call
use Rattle.rules.specs.House.{census}
use Rattle.play.specs.Play.{World, Entry, calls, delivers, plays, Reach}
use Rattle.play.specs.Settle.{settling}

-- how many lines the houses below k have
abbrev pub line_count : ℕ → World → ℕ
line_count zero w = 0
line_count (suc k) w = line_count k w + length (w.house k).list

-- a list has room for 2048
abbrev pub FewLines : Type 0
FewLines = (n : ℕ) → n ≤ 16 → (w : World) → Reach n w → line_count n w ≤ 2048 * n

-- A word of each house to each other; a telling and its answer for each line at most, however many passes there are; two rounds, each with the question and an answer of each house; and the news that the census is complete.
abbrev pub most : ℕ → ℕ → ℕ
most n lines = n * (n - 1) + 2 * lines + 2 * (1 + n) + 1

-- from every world in which a census number above all is left, so much is sent at most
abbrev pub Bounded : Type 0
Bounded =
    (n : ℕ) → 0 < n → n ≤ 16 → (w : World) → Reach n w → ((i : ℕ) → i < n → census (w.house i) < 4294967295) → length (plays n (settling n w) w).sent ≤ length w.sent + most n (line_count n w)

-- how many calls of a kind stand in a list of entries
abbrev pub calls_in : (Call → Bool) → List Entry → ℕ
calls_in kind [] = 0
calls_in kind (calls i c ∷ es) = cond (kind c) 1 0 + calls_in kind es
calls_in kind (delivers i m ∷ es) = calls_in kind es

abbrev pub is_round : Call → Bool
is_round (call.Make k) = false
is_round (call.Link o p) = false
is_round (call.Unlink o p) = false
is_round (call.Load o p) = false
is_round (call.Drop o) = false
is_round (call.Ask o j) = false
is_round call.Collect = false
is_round (call.Word j) = false
is_round (call.Join c) = false
is_round call.Tell = false
is_round call.Round = true

abbrev pub is_tell : Call → Bool
is_tell (call.Make k) = false
is_tell (call.Link o p) = false
is_tell (call.Unlink o p) = false
is_tell (call.Load o p) = false
is_tell (call.Drop o) = false
is_tell (call.Ask o j) = false
is_tell call.Collect = false
is_tell (call.Word j) = false
is_tell (call.Join c) = false
is_tell call.Tell = true
is_tell call.Round = false

-- two rounds are asked, from whatever world
abbrev pub TwoRounds : Type 0
TwoRounds = (n : ℕ) (w : World) → calls_in is_round (settling n w) ≡ 2

-- each house tells once for each line, and once more, at most: so many passes there are
abbrev pub FewPasses : Type 0
FewPasses = (n : ℕ) → 0 < n → n ≤ 16 → (w : World) → Reach n w → ((i : ℕ) → i < n → census (w.house i) < 4294967295) → calls_in is_tell (settling n w) ≤ n * suc (line_count n w)
