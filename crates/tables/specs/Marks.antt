-- Marks on objects, by places.
use Rattle.std.specs.Prelude.{ℕ, zero, suc, ◌+◌, ◌<◌, Bool, false, cond, ◌||◌, List, [], ◌∷◌, map, length, Decides, ◌==◌, slice_index, slice_index_or}
use Rattle.tables.specs.declared.object.Object.{Object}
use Rattle.tables.specs.Met.{Met}
use Rattle.tables.specs.Shown.{object_of, objects_of, names_in}

abbrev pub fields_in : Object → List ℕ
fields_in x = (object_of x).fields

abbrev pub field_lists : List Object → List (List ℕ)
field_lists xs = map fields_in xs

unfoldable pub count : List Bool → ℕ
count [] = 0
count (m ∷ ms) = cond m 1 0 + count ms

-- the object named p is marked
unfoldable pub noted : ℕ → List ℕ → List Bool → List Bool
noted p [] ms = ms
noted p (n ∷ ns) [] = []
noted p (n ∷ ns) (m ∷ ms) = (m || n == p) ∷ noted p ns ms

unfoldable pub noted_all : List ℕ → List ℕ → List Bool → List Bool
noted_all [] ns ms = ms
noted_all (p ∷ ps) ns ms = noted_all ps ns (noted p ns ms)

-- what the object at place i adds, if it is marked
abbrev pub grown : List ℕ → List (List ℕ) → ℕ → List Bool → List Bool
grown ns fss i ms = cond (slice_index_or ms i false) (noted_all (slice_index_or fss i []) ns ms) ms

-- one pass, from place i on, over n objects
unfoldable pub passed : List ℕ → List (List ℕ) → ℕ → ℕ → List Bool → List Bool
passed ns fss i zero ms = ms
passed ns fss i (suc n) ms = passed ns fss (i + 1) n (grown ns fss i ms)

-- those with a mark
abbrev pub kept_by : {X : Type 0} → List Bool → List X → List X
kept_by [] xs = []
kept_by (m ∷ ms) [] = []
kept_by (m ∷ ms) (x ∷ xs) = cond m (x ∷ kept_by ms xs) (kept_by ms xs)

-- the marks are on exactly the objects that are met
abbrev pub Marked : List Object → List ℕ → List Bool → Type 0
Marked xs from ms = (k : ℕ) → k < length xs → Decides (slice_index_or ms k false) (Met (objects_of xs) from (slice_index (names_in xs) k))
