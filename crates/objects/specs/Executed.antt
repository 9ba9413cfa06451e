-- What is met, computed, and what follows from it.
use Rattle.std.specs.Prelude.{ℕ, zero, suc, Bool, cond, not, List, [], ◌∷◌, ◌++◌, length, Some, None, Option, ◌==◌, nat_eq}
use Rattle.wire.specs.Names.{home}
use Rattle.tables.specs.Model.{Object, Heap, is_in, added}
use Rattle.tables.specs.Met.{everywhere}
use Rattle.objects.specs.Calls.{with_objects}

abbrev pub behind : Object → Option (Object × List Object) → Option (Object × List Object)
behind x None = None
behind x (Some p) = Some (p.0, x ∷ p.1)

-- the first object that is named in a list, and the others
unfoldable pub picked : List ℕ → List Object → Option (Object × List Object)
picked from [] = None
picked from (x ∷ xs) = cond (is_in x.name from) (Some (x, xs)) (behind x (picked from xs))

-- each object that is named gives its fields, once: n objects at most
unfoldable pub spread : ℕ → List Object → List ℕ → List ℕ
spread zero xs from = from
spread (suc n) xs from = elim (picked from xs) [ None ↦ from | Some p ↦ spread n p.1 (p.0.fields ++ from) ]

-- the names that are met from some names
abbrev pub met_from : List Object → List ℕ → List ℕ
met_from xs from = spread (length xs) xs from

-- the objects that are named in a list, in their order
unfoldable pub kept_in : List ℕ → List Object → List Object
kept_in os [] = []
kept_in os (x ∷ xs) = cond (is_in x.name os) (x ∷ kept_in os xs) (kept_in os xs)

-- a collection keeps the objects that are met from the roots and the listed names
abbrev pub collected : List ℕ → Heap → Heap
collected listed h = with_objects (kept_in (met_from h.objects (h.roots ++ listed)) h.objects) h

-- those of some names that pass a test, each once, rising
unfoldable pub sorted_by : (ℕ → Bool) → List ℕ → List ℕ
sorted_by p [] = []
sorted_by p (o ∷ os) = cond (p o) (added o (sorted_by p os)) (sorted_by p os)

-- the far references that are met from the roots and some names, rising
abbrev pub names_in_use : List ℕ → Heap → List ℕ
names_in_use from h = sorted_by (λ o. not (home o == h.home)) (met_from h.objects (h.roots ++ from))

-- the names of a house's objects that are roots or in fields here, rising
abbrev pub references_of : ℕ → Heap → List ℕ
references_of j h = sorted_by (λ o. nat_eq (home o) j) (h.roots ++ everywhere h.objects)
