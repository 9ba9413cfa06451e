-- A list of lines in four columns.
use Rattle.std.specs.Prelude.{◌≡◌, ℕ, ◌<◌, ◌≤◌, min, List, map, length, ◌≢◌, slice_index}
use Rattle.std.specs.List.{range_with_len}
use Rattle.wire.specs.Names.{home}
use Rattle.lines.specs.Listed.{Listed, line}

abbrev pub row : List ℕ → List ℕ → List ℕ → List ℕ → ℕ → Listed
row os hs ss cs i = line (slice_index os i) (slice_index hs i) (slice_index ss i) (slice_index cs i)

-- n rows from place i on
abbrev pub rows : (ℕ → Listed) → ℕ → ℕ → List Listed
rows f i n = map f (range_with_len i n)

abbrev pub model : List ℕ → List ℕ → List ℕ → List ℕ → ℕ → List Listed
model os hs ss cs n = rows (row os hs ss cs) 0 n

-- how many lines there is room for
abbrev pub room_in : List ℕ → List ℕ → List ℕ → List ℕ → ℕ
room_in os hs ss cs = min (min (min (min (length os) (length hs)) (length ss)) (length cs)) 2048

-- each column has room for this many lines
abbrev pub Roomy : ℕ → List ℕ → List ℕ → List ℕ → List ℕ → Type 0
Roomy room os hs ss cs = (room ≤ length os) × (room ≤ length hs) × (room ≤ length ss) × (room ≤ length cs)

-- no object and holder stand in two of the first n lines
abbrev pub Alone : List ℕ → List ℕ → ℕ → Type 0
Alone os hs n = (i k : ℕ) → (i < k) × (k < n) × (slice_index os i ≡ slice_index os k) × (slice_index hs i ≡ slice_index hs k) → ⊥

-- the objects of the first n lines live here
abbrev pub Own : ℕ → List ℕ → ℕ → Type 0
Own here os n = (k : ℕ) → k < n → home (slice_index os k) ≡ here

-- the holders of the first n lines are other houses
abbrev pub Far : ℕ → ℕ → List ℕ → ℕ → Type 0
Far here houses hs n = (k : ℕ) → k < n → (slice_index hs k ≢ here) × (slice_index hs k < houses)
