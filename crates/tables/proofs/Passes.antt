-- Marks on the objects of several names, and of a pass.
use Rattle.std.proofs.Common.{◌≡◌, ℕ, zero, suc, ◌+◌, ◌<◌, ◌≤◌, Bool, true, false, eqb, ◌⊎◌, List, [], ◌∷◌, length, get_or, sym, refl, ap, ◌∙◌, subst, inl, inr, ⊎_elim, add-zero, add-one, arith}
use Rattle.std.proofs.lemmas.Bool.{eq-eqb, eqb-true, cases_Bool, cases_eq, or_cases, or_left, or_right, cond-true, cond-false}
use Rattle.tables.specs.Model.{is_in}
use Rattle.tables.specs.Marks.{count, noted, noted_all, grown, passed}
use Rattle.tables.proofs.Noted.{length_noted, count_noted, noted_keeps, noted_marks, noted_why, noted_still}

module _ (ns : List ℕ) where
  pub length_noted_all : (ps : List ℕ) (ms : List Bool) → length (noted_all ps ns ms) ≡ length ms
  unfolding noted_all
  length_noted_all [] ms = refl
  length_noted_all (p ∷ ps) ms = length_noted_all ps (noted p ns ms) ∙ length_noted p ns ms

  pub count_noted_all : (ps : List ℕ) (ms : List Bool) → count ms ≤ count (noted_all ps ns ms)
  unfolding noted_all
  count_noted_all [] ms = omega arith
  count_noted_all (p ∷ ps) ms = omega (arith, count_noted p ns ms, count_noted_all ps (noted p ns ms))

  pub noted_all_keeps : (ps : List ℕ) (ms : List Bool) (k : ℕ) → get_or ms k false ≡ true → get_or (noted_all ps ns ms) k false ≡ true
  unfolding noted_all
  noted_all_keeps [] ms k e = e
  noted_all_keeps (p ∷ ps) ms k e = noted_all_keeps ps (noted p ns ms) k (noted_keeps p ns ms k e)

  pub noted_all_marks : (ps : List ℕ) (ms : List Bool) (k : ℕ) → k < length ns → k < length ms → is_in (get_or ns k 0) ps ≡ true → get_or (noted_all ps ns ms) k false ≡ true
  unfolding noted_all
  noted_all_marks [] ms k h l e = absurd (let z : ◌≡◌ {A = Bool} true false = sym e in let y : ◌≡◌ {A = ℕ} 0 1 = cc in omega arith)
  noted_all_marks (p ∷ ps) ms k h l e =
      ⊎_elim
      (λ t. noted_all_keeps ps (noted p ns ms) k (noted_marks p ns ms k h l (sym (eqb-true p (get_or ns k 0) t))))
      (λ t. noted_all_marks ps (noted p ns ms) k h (omega (arith, length_noted p ns ms)) t)
      (or_cases (eqb p (get_or ns k 0)) (is_in (get_or ns k 0) ps) e)

  pub noted_all_why : (ps : List ℕ) (ms : List Bool) (k : ℕ) → get_or (noted_all ps ns ms) k false ≡ true → (get_or ms k false ≡ true) ⊎ (is_in (get_or ns k 0) ps ≡ true)
  unfolding noted_all
  noted_all_why [] ms k e = inl e
  noted_all_why (p ∷ ps) ms k e =
      ⊎_elim
      (λ t. ⊎_elim (λ u. inl u) (λ u. inr (or_left (eqb p (get_or ns k 0)) (is_in (get_or ns k 0) ps) (eq-eqb p (get_or ns k 0) (sym u)))) (noted_why p ns ms k t))
      (λ t. inr (or_right (eqb p (get_or ns k 0)) (is_in (get_or ns k 0) ps) t))
      (noted_all_why ps (noted p ns ms) k e)

  pub noted_all_still : (ps : List ℕ) (ms : List Bool) → count (noted_all ps ns ms) ≤ count ms → noted_all ps ns ms ≡ ms
  unfolding noted_all
  noted_all_still [] ms h = refl
  noted_all_still (p ∷ ps) ms h =
      let s : noted p ns ms ≡ ms = noted_still p ns ms (omega (arith, count_noted_all ps (noted p ns ms))) in
      let g : count (noted_all ps ns ms) ≤ count ms = subst (λ x. count (noted_all ps ns x) ≤ count ms) s h in
      ap (noted_all ps ns) s ∙ noted_all_still ps ms g

module _ (ns : List ℕ) (fss : List (List ℕ)) where
  abbrev pub step : ℕ → List Bool → List Bool
  step i ms = grown ns fss i ms

  length_step : (i : ℕ) (ms : List Bool) → length (step i ms) ≡ length ms
  length_step i ms = ⊎_elim
      (λ t. ap length (cond-true (get_or ms i false) (noted_all (get_or fss i []) ns ms) ms t) ∙ length_noted_all ns (get_or fss i []) ms)
      (λ f. ap length (cond-false (get_or ms i false) (noted_all (get_or fss i []) ns ms) ms f))
      (cases_Bool (get_or ms i false))

  count_step : (i : ℕ) (ms : List Bool) → count ms ≤ count (step i ms)
  count_step i ms = ⊎_elim
      (λ t. omega (arith, ap count (cond-true (get_or ms i false) (noted_all (get_or fss i []) ns ms) ms t), count_noted_all ns (get_or fss i []) ms))
      (λ f. omega (arith, ap count (cond-false (get_or ms i false) (noted_all (get_or fss i []) ns ms) ms f)))
      (cases_Bool (get_or ms i false))

  step_still : (i : ℕ) (ms : List Bool) → count (step i ms) ≤ count ms → step i ms ≡ ms
  step_still i ms h = ⊎_elim
      (λ t. let e = cond-true (get_or ms i false) (noted_all (get_or fss i []) ns ms) ms t in e ∙ noted_all_still ns (get_or fss i []) ms (omega (arith, ap count e)))
      (λ f. cond-false (get_or ms i false) (noted_all (get_or fss i []) ns ms) ms f)
      (cases_Bool (get_or ms i false))

  -- a pass over one object more
  pub passed_push : (i n : ℕ) (ms : List Bool) → passed ns fss i (suc n) ms ≡ step (i + n) (passed ns fss i n ms)
  unfolding passed
  passed_push i zero ms = ap (λ k. step k ms) (sym (add-zero i))
  passed_push i (suc n) ms =
      let e : (i + 1) + n ≡ i + suc n = omega arith in
      passed_push (i + 1) n (step i ms) ∙ ap (λ k. step k (passed ns fss (i + 1) n (step i ms))) e

  pub passed_from : (ms : List Bool) → ms ≡ passed ns fss 0 0 ms
  unfolding passed
  passed_from ms = refl

  pub length_passed : (i n : ℕ) (ms : List Bool) → length (passed ns fss i n ms) ≡ length ms
  unfolding passed
  length_passed i zero ms = refl
  length_passed i (suc n) ms = length_passed (i + 1) n (step i ms) ∙ length_step i ms

  pub count_passed : (i n : ℕ) (ms : List Bool) → count ms ≤ count (passed ns fss i n ms)
  unfolding passed
  count_passed i zero ms = omega arith
  count_passed i (suc n) ms = omega (arith, count_step i ms, count_passed (i + 1) n (step i ms))

  pub passed_still : (i n : ℕ) (ms : List Bool) → count (passed ns fss i n ms) ≤ count ms → (passed ns fss i n ms ≡ ms) × ((k : ℕ) → i ≤ k → k < i + n → step k ms ≡ ms)
  unfolding passed
  passed_still i zero ms h = (refl, λ k a b. absurd (omega arith))
  passed_still i (suc n) ms h =
      let s : step i ms ≡ ms = step_still i ms (omega (arith, count_passed (i + 1) n (step i ms))) in
      let g : count (passed ns fss (i + 1) n ms) ≤ count ms = subst (λ x. count (passed ns fss (i + 1) n x) ≤ count ms) s h in
      let r = passed_still (i + 1) n ms g in (
        ap (passed ns fss (i + 1) n) s ∙ r.0,
        λ k a b. ⊎_elim (λ e. subst (λ x. step x ms ≡ ms) e s) (λ e. r.1 k (omega arith) (omega arith)) (cases_eq i k),
      )

  -- one turn of a pass
  pub pass_turn : (m0 ms new : List Bool) (i : ℕ) → ms ≡ passed ns fss 0 i m0 → new ≡ step i ms → new ≡ passed ns fss 0 (i + 1) m0
  pass_turn m0 ms new i inv e =
      let z : 0 + i ≡ i = omega arith in
      e ∙ ap (step i) inv ∙ ap (λ k. step k (passed ns fss 0 i m0)) (sym z) ∙ sym (passed_push 0 i m0) ∙ ap (λ k. passed ns fss 0 k m0) (sym (add-one i))

  pub rise : (i : ℕ) (ms new : List Bool) → new ≡ step i ms → count ms ≤ count new
  rise i ms new e = omega (arith, ap count e, count_step i ms)

  -- what a pass marks has a property that fields hand on
  pub step_sound : (P : ℕ → Type 0) → ((i k : ℕ) → i < length ns → k < length ns → P i → is_in (get_or ns k 0) (get_or fss i []) ≡ true → P k)
      → (i : ℕ) (ms : List Bool) → i < length ns → ((k : ℕ) → k < length ns → get_or ms k false ≡ true → P k) → (k : ℕ) → k < length ns → get_or (step i ms) k false ≡ true → P k
  step_sound P hands i ms h all k l e = ⊎_elim
      (λ t. ⊎_elim (λ u. all k l u) (λ u. hands i k h l (all i h t) u)
      (noted_all_why ns (get_or fss i []) ms k (subst (λ x. get_or x k false ≡ true) (cond-true (get_or ms i false) (noted_all (get_or fss i []) ns ms) ms t) e)))
      (λ f. all k l (subst (λ x. get_or x k false ≡ true) (cond-false (get_or ms i false) (noted_all (get_or fss i []) ns ms) ms f) e))
      (cases_Bool (get_or ms i false))

  pub passed_sound : (P : ℕ → Type 0) → ((i k : ℕ) → i < length ns → k < length ns → P i → is_in (get_or ns k 0) (get_or fss i []) ≡ true → P k)
      → (i n : ℕ) (ms : List Bool) → i + n ≤ length ns → ((k : ℕ) → k < length ns → get_or ms k false ≡ true → P k) → (k : ℕ) → k < length ns → get_or (passed ns fss i n ms) k false ≡ true → P k
  unfolding passed
  passed_sound P hands i zero ms h all k l e = all k l e
  passed_sound P hands i (suc n) ms h all k l e = passed_sound P hands (i + 1) n (step i ms) (omega arith) (step_sound P hands i ms (omega arith) all) k l e

  pub step_keeps : (i : ℕ) (ms : List Bool) (k : ℕ) → get_or ms k false ≡ true → get_or (step i ms) k false ≡ true
  step_keeps i ms k e = ⊎_elim
      (λ t. subst (λ x. get_or x k false ≡ true) (sym (cond-true (get_or ms i false) (noted_all (get_or fss i []) ns ms) ms t)) (noted_all_keeps ns (get_or fss i []) ms k e))
      (λ f. subst (λ x. get_or x k false ≡ true) (sym (cond-false (get_or ms i false) (noted_all (get_or fss i []) ns ms) ms f)) e)
      (cases_Bool (get_or ms i false))

  pub passed_keeps : (i n : ℕ) (ms : List Bool) (k : ℕ) → get_or ms k false ≡ true → get_or (passed ns fss i n ms) k false ≡ true
  unfolding passed
  passed_keeps i zero ms k e = e
  passed_keeps i (suc n) ms k e = passed_keeps (i + 1) n (step i ms) k (step_keeps i ms k e)
