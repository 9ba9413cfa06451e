-- The table of tellings and what it stands for.
use Rattle.std.proofs.Common.{◌≡◌, ℕ, zero, suc, ◌<◌, Bool, true, false, cond, not, ◌&&◌, eqb, List, [], ◌∷◌, length, get_or, set, take, drop, ◌++◌, count_by, sym, refl, ap, ◌∙◌, subst, ⊎_elim, arith}
use Rattle.std.specs.List.{insert, list_all}
use Rattle.std.proofs.lemmas.Bool.{and_parts, cases_Bool, eq-eqb, ne_eqb}
use Rattle.std.proofs.lemmas.List.Recursion.{is_count_by}
use Rattle.std.proofs.lemmas.List.{map-append, map-set, take-map, drop-map}
use Rattle.wire.specs.declared.names.Name.{Name}
use Rattle.census.specs.declared.telling.Told as table
use Rattle.tables.specs.Model.{is_in, above, rising, below}
use Rattle.tables.specs.Shown.{numbers}
use Rattle.tables.proofs.Places.{above_at, above_out}
use Rattle.census.specs.Model.{Told, names, settle, settled, untold, unanswered, entered}
use Rattle.census.specs.Shown.{told_of, shown, names_in, is_answered}
use Rattle.census.proofs.Settling.{done, settle_other, settled_out}
use Rattle.census.proofs.Entering.{awaited, entered_out}

pub names_told : (ts : List table.Told) → names (told_of ts) ≡ names_in ts
names_told [] = refl
names_told (t ∷ ts) = ap (λ r. t.object.0 ∷ r) (names_told ts)

-- how many are untold, and how many unanswered
pub count_untold : (ns : List Name) (ts : List Told) → length (untold (numbers ns) ts) ≡ count_by (λ n. not (is_in n.0 (names ts))) ns
count_untold ns ts =
    is_count_by (λ xs. length (untold (numbers xs) ts)) (λ n. not (is_in n.0 (names ts))) refl
    (λ n xs. ⊎_elim (λ e. rw e) (λ e. rw e (omega arith)) (cases_Bool (is_in n.0 (names ts)))) ns

pub count_unanswered : (ts : List table.Told) → length (unanswered (told_of ts)) ≡ count_by (λ t. not (is_answered t.state)) ts
count_unanswered ts =
    is_count_by (λ xs. length (unanswered (told_of xs))) (λ t. not (is_answered t.state)) refl
    (λ t xs. ⊎_elim (λ e. rw e) (λ e. rw e (omega arith)) (cases_Bool (is_answered t.state))) ts

-- the write at the place of o
settled_set : (o k : ℕ) (ts : List Told) → rising (names ts) ≡ true → k < length (names ts) → get_or (names ts) k 0 ≡ o → set ts k (done o) ≡ settled o ts
settled_set o k [] r h e = absurd (omega arith)
settled_set o zero (t ∷ ts) r h e =
    let p = and_parts (above t.name (names ts)) (rising (names ts)) r in
    let same : settle o t ≡ done o = rw (eq-eqb t.name o e, e) in
    let out : is_in o (names ts) ≡ false = above_out o t.name (names ts) p.0 (omega (arith, e)) in
    ap (λ x. x ∷ ts) (sym same) ∙ ap (λ r. settle o t ∷ r) (sym (settled_out o ts out))
settled_set o (suc k) (t ∷ ts) r h e =
    let p = and_parts (above t.name (names ts)) (rising (names ts)) r in
    let l = above_at t.name (names ts) k p.0 (omega arith) in
    let ne : eqb t.name o ≡ false = ne_eqb t.name o (λ q. omega arith) in
    ap (λ r. t ∷ r) (settled_set o k ts p.1 (omega arith) e) ∙ ap (λ x. x ∷ settled o ts) (sym (settle_other o t ne))

module _ (o k : ℕ) (ts : List table.Told) (x : table.Told) where
  pub table_settled : rising (names_in ts) ≡ true → k < length (names_in ts) → get_or (names_in ts) k 0 ≡ o → shown x ≡ done o → told_of (set ts k x) ≡ settled o (told_of ts)
  table_settled r h e s =
      let n = names_told ts in
      map-set shown ts k x ∙ ap (set (told_of ts) k) s ∙ settled_set o k (told_of ts) (ap rising n ∙ r) (subst (λ xs. k < length xs) (sym n) h) (ap (λ xs. get_or xs k 0) n ∙ e)

  pub table_entered : shown x ≡ awaited o → is_in o (names (told_of ts)) ≡ false → k ≡ below o (names_in ts) → told_of (insert ts k x) ≡ entered o (told_of ts)
  table_entered e out b =
      map-append shown (take k ts) (x ∷ drop k ts)
      ∙ ap (λ xs. xs ++ shown x ∷ told_of (drop k ts)) (sym (take-map shown k ts))
      ∙ ap (λ xs. take k (told_of ts) ++ shown x ∷ xs) (sym (drop-map shown k ts))
      ∙ ap (λ y. insert (told_of ts) k y) e
      ∙ ap (λ j. insert (told_of ts) j (awaited o)) (b ∙ ap (below o) (sym (names_told ts)))
      ∙ entered_out o (told_of ts) out

-- nothing in use is untold if all of it stands among the names of what was told
pub told_all : (us : List ℕ) (ts : List Told) → list_all (λ u. is_in u (names ts)) us ≡ eqb (length (untold us ts)) 0
told_all [] ts = refl
told_all (u ∷ us) ts = go (is_in u (names ts)) (told_all us ts)
  where
    go : (b : Bool) → list_all (λ v. is_in v (names ts)) us ≡ eqb (length (untold us ts)) 0 → (b && list_all (λ v. is_in v (names ts)) us) ≡ eqb (length (cond b (untold us ts) (u ∷ untold us ts))) 0
    go true e = e
    go false e = sym (ne_eqb (suc (length (untold us ts))) 0 (λ z. omega arith))
