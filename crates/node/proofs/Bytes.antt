-- Names as numbers and as bytes.
use Rattle.std.proofs.Common.{◌≡◌, ℕ, ◌+◌, ◌<◌, List, [], ◌∷◌, ◌++◌, map, length, get_or, take, IfOk, Ok, Err, vec_items, Result, Vec, sym, refl, ap, ◌∙◌, append_assoc}
use Rattle.std.proofs.lemmas.List.{take_more, map-append}
use Rattle.wire.specs.declared.names.Name.{Name}
use Rattle.wire.specs.Names.{name}
use Rattle.wire.specs.Format.{bytes4}
use Rattle.tables.specs.Shown.{numbers}
use Rattle.std.specs.declared.alloc.AllocError.{AllocError}
use Rattle.std.specs.declared.alloc.Global.{Global}
use Rattle.tables.specs.Met.{Lists}
use Rattle.objects.specs.Laws.{Sole}
use Rattle.wire.specs.declared.names.Census.{Census}
use Rattle.lines.specs.Listed.{objects_in}
use Rattle.objects.specs.Executed.{names_in_use}
use Rattle.rules.specs.House.{House, census}
use Rattle.rules.specs.Step.{bytes_of, used}

numbers_names : (os : List ℕ) → numbers (map name os) ≡ os
numbers_names [] = refl
numbers_names (o ∷ os) = ap (λ ns. o ∷ ns) (numbers_names os)

-- names that are those of these numbers
pub back : (xs : List Name) (os : List ℕ) → xs ≡ map name os → numbers xs ≡ os
back xs os e = ap numbers e ∙ numbers_names os

bytes_of_append : (xs ys : List ℕ) → bytes_of (xs ++ ys) ≡ bytes_of xs ++ bytes_of ys
bytes_of_append [] ys = refl
bytes_of_append (x ∷ xs) ys = ap (λ bs. bytes4 x ++ bs) (bytes_of_append xs ys) ∙ sym (append_assoc (bytes4 x) (bytes_of xs) (bytes_of ys))

-- one name more
pub bytes_more :
    (ns : List Name) (i : ℕ) (d : Name) (out more bs : List ℕ) → i < length ns → out ≡ bytes_of (numbers (take i ns)) → more ≡ out ++ bs → bs ≡ bytes4 (get_or ns i d).0 → more ≡ bytes_of (numbers (take (i + 1) ns))
bytes_more ns i d out more bs h e f g = rw (f, take_more ns i d h, map-append, bytes_of_append, e, g)

-- the references that a call found are those of the definition: there is one such list
pub found : (r : Result (Vec Name Global) AllocError) (P : ℕ → Type 0) (os : List ℕ) → IfOk r (λ v. Sole (numbers (vec_items v)) P) → Lists os P → IfOk r (λ v. numbers (vec_items v) ≡ os)
found (Ok v) P os sole l = sym (sole os l)
found (Err e) P os sole l = tt

-- what is met from the roots and the objects of the lines with the house's census is what is in use
pub in_use_of : (h : House) (c : Census) (ns : List Name) → c.0 ≡ census h → ns ≡ map name (objects_in c.0 h.list) → names_in_use (numbers ns) h.heap ≡ used h
in_use_of h c ns e f = ap (λ l. names_in_use l h.heap) (back ns (objects_in c.0 h.list) f ∙ ap (λ k. objects_in k h.list) e)

-- and so are the names that were listed so
pub listed_in_use : (h : House) (c : Census) (ns us vs : List Name) → c.0 ≡ census h → ns ≡ map name (objects_in c.0 h.list) → numbers us ≡ names_in_use (numbers ns) h.heap → vs ≡ us → numbers vs ≡ used h
listed_in_use h c ns us vs e f g k = ap numbers k ∙ g ∙ in_use_of h c ns e f
