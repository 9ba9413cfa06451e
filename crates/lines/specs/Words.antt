-- The objects of a word, in rising order.
use Rattle.std.specs.Prelude.{ℕ, ◌<◌, List, length, slice_index}

-- each is above all before it
abbrev pub Ascending : List ℕ → Type 0
Ascending xs = (i k : ℕ) → i < k → k < length xs → slice_index xs i < slice_index xs k
