-- The tables of a house as text.
use Rattle.std.specs.Prelude.{ℕ, List, [], ◌∷◌, ◌++◌, codes, decimal, flat_map}
use Rattle.tables.specs.Model.{Object}
use Rattle.lines.specs.Listed.{Listed}
use Rattle.rules.specs.House.{House, census}

abbrev pub field_text : ℕ → List ℕ
field_text f = codes " " ++ decimal f

-- an object with its fields in order
abbrev pub object_text : Object → List ℕ
object_text x = codes "object " ++ (decimal x.name ++ (flat_map field_text x.fields ++ (10 ∷ [])))

abbrev pub root_text : ℕ → List ℕ
root_text r = codes "root " ++ (decimal r ++ (10 ∷ []))

-- a line of the list: object, holder, stamp, census
abbrev pub line_text : Listed → List ℕ
line_text e = codes "line " ++ (decimal e.object ++ (codes " " ++ (decimal e.holder ++ (codes " " ++ (decimal e.stamp ++ (codes " " ++ (decimal e.census ++ (10 ∷ []))))))))

abbrev pub head_text : ℕ → ℕ → List ℕ
head_text i c = codes "house " ++ (decimal i ++ (codes " census " ++ (decimal c ++ (10 ∷ []))))

-- the house and its census, then each object, each root, and each line, in their order
abbrev pub tables_text : ℕ → House → List ℕ
tables_text i h = head_text i (census h) ++ (flat_map object_text h.heap.objects ++ (flat_map root_text h.heap.roots ++ flat_map line_text h.list))
