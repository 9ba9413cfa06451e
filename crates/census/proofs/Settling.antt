-- An answer to a telling.
use Rattle.std.proofs.Common.{◌≡◌, ℕ, true, false, eqb, List, [], ◌∷◌, refl, ap, ◌∙◌}
use Rattle.std.proofs.lemmas.Bool.{or_parts}
use Rattle.tables.specs.Model.{is_in}
use Rattle.census.specs.Model.{Told, names, settle, settled}

pub names_settled : (o : ℕ) (ts : List Told) → names (settled o ts) ≡ names ts
names_settled o [] = refl
names_settled o (t ∷ ts) = ap (λ r. t.name ∷ r) (names_settled o ts)

pub settle_other : (o : ℕ) (t : Told) → eqb t.name o ≡ false → settle o t ≡ t
settle_other o t e = rw e

-- what was not told changes nothing
pub settled_out : (o : ℕ) (ts : List Told) → is_in o (names ts) ≡ false → settled o ts ≡ ts
settled_out o [] h = refl
settled_out o (t ∷ ts) h =
    let p = or_parts (eqb t.name o) (is_in o (names ts)) h in
    ap (λ x. x ∷ settled o ts) (settle_other o t p.0) ∙ ap (λ r. t ∷ r) (settled_out o ts p.1)

abbrev pub done : ℕ → Told
done o = record { name = o; answered = true }
