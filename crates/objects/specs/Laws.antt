-- What follows of a collection, in words of the house.
use Rattle.std.specs.Prelude.{◌≡◌, ℕ, ◌+◌, ◌≤◌, true, false, cond, List, [], ◌∷◌, ◌==◌}
use Rattle.tables.specs.Model.{Object, Heap, is_in, present, fields_of}
use Rattle.wire.specs.Names.{name, well_formed}
use Rattle.tables.specs.Met.{Collected, Lists, everywhere}

pub record Lasting (before : Heap) (from : List ℕ) (after : Heap) : Type 0 where
  -- collecting twice is collecting once
  pub again : (next : Heap) → Collected after from next → next ≡ after
  -- there is one outcome
  pub sole : (other : Heap) → Collected before from other → other ≡ after
  -- the object of a root stays, and so does one that is listed
  pub roots : (o : ℕ) → is_in o before.roots ≡ true → present o before.objects ≡ true → present o after.objects ≡ true
  pub listed : (o : ℕ) → is_in o from ≡ true → present o before.objects ≡ true → present o after.objects ≡ true
  -- what stays keeps its fields, and the own objects that these name stay too
  pub same : (o : ℕ) → present o after.objects ≡ true → fields_of o after.objects ≡ fields_of o before.objects
  pub fields : (o p : ℕ) → present o after.objects ≡ true → is_in p (fields_of o after.objects) ≡ true → present p before.objects ≡ true → present p after.objects ≡ true

-- no field names it, and it is not listed
abbrev pub Lone : ℕ → List ℕ → Heap → Type 0
Lone o listed h = (is_in o (everywhere h.objects) ≡ false) × (is_in o listed ≡ false)

-- a lone object that is no root goes
abbrev pub Frees : ℕ → Heap → Type 0
Frees o h = (listed : List ℕ) (after : Heap) → Lone o listed h → Collected h listed after → present o after.objects ≡ false

abbrev pub count_of : ℕ → List Object → ℕ
count_of o [] = 0
count_of o (x ∷ xs) = cond (x.name == o) 1 0 + count_of o xs

-- a name is in at most one place
abbrev pub Single : Heap → Type 0
Single h = (o : ℕ) → count_of o h.objects ≤ 1

-- and a list is told by what it lists
abbrev pub Sole : List ℕ → (ℕ → Type 0) → Type 0
Sole os P = (qs : List ℕ) → Lists qs P → qs ≡ os

-- each can be the name of an object in one of the houses
abbrev pub Well : Heap → List ℕ → Type 0
Well h os = (o : ℕ) → is_in o os ≡ true → well_formed h.houses (name o) ≡ true
