-- Laws of places: a search, and what is found or new.
use Rattle.std.proofs.Common.{◌≡◌, ℕ, zero, suc, ◌+◌, ◌<◌, ◌≤◌, true, false, cond, ◌||◌, eqb, ◌≢◌, List, [], ◌∷◌, ◌++◌, length, set, is_some, Some, None, sym, refl, ap, ◌∙◌, ⊎_elim, arith, get_or-set_other, get_or-set_same}
use Rattle.std.proofs.lemmas.Bool.{eq-eqb, eqb-true, and_parts, cases_Bool, cases_eq, cond-true, cond-false}
use Rattle.std.proofs.lemmas.Iterator.Adapters.{position_from-zero}
use Rattle.std.specs.List.{position, position_from, range_with_len}
use Rattle.lines.specs.Listed.{Listed, line, is_of, listed, place, entered}
use Rattle.lines.specs.Columns.{row, rows, model}
use Rattle.lines.proofs.Rows.{rows_same, line_same}

module _ (o j : ℕ) where
  pub listed_place : (k : ℕ) (es : List Listed) → is_some (place o j k es) ≡ listed o j es
  unfolding place listed
  listed_place k [] = refl
  listed_place k (e ∷ es) =
      elim (is_of o j e) as (λ b. is_some (cond b (Some k) (place o j (k + 1) es)) ≡ (b || listed o j es)) [ true ↦ refl | false ↦ listed_place (k + 1) es ]

  pub entered_none : (s c k : ℕ) (es : List Listed) → place o j k es ≡ None → entered o j s c es ≡ es ++ line o j s c ∷ []
  unfolding place entered
  entered_none s c k [] e = refl
  entered_none s c k (x ∷ es) e =
      ⊎_elim
      (λ t.
      let u : Some k ≡ None = sym (cond-true (is_of o j x) (Some k) (place o j (k + 1) es) t) ∙ e in
      let z : ◌≡◌ {A = ℕ} 0 1 = cc in absurd (omega arith))
      (λ t.
      let u = sym (cond-false (is_of o j x) (Some k) (place o j (k + 1) es) t) ∙ e in
      cond-false (is_of o j x) (line o j s c ∷ es) (x ∷ entered o j s c es) t ∙ ap (λ r. x ∷ r) (entered_none s c (k + 1) es u))
      (cases_Bool (is_of o j x))

  pub record Placed (f : ℕ → Listed) (i n k : ℕ) : Type 0 where
    pub from : i ≤ k
    pub below : k < i + n
    pub object : (f k).object ≡ o
    pub holder : (f k).holder ≡ j

  pub placed : (f : ℕ → Listed) (i n k : ℕ) → place o j i (rows f i n) ≡ Some k → Placed f i n k
  unfolding place
  placed f i zero k e = let z : ◌≡◌ {A = ℕ} 0 1 = cc in absurd (omega arith)
  placed f i (suc n) k e =
      ⊎_elim
      (λ t.
      let s : Some i ≡ Some k = sym (cond-true (is_of o j (f i)) (Some i) (place o j (i + 1) (rows f (i + 1) n)) t) ∙ e in
      let s' : i ≡ k = cc in
      let w = and_parts (eqb (f i).object o) (eqb (f i).holder j) t in
      let a : (f i).object ≡ o = eqb-true (f i).object o w.0 in
      let b : (f i).holder ≡ j = eqb-true (f i).holder j w.1 in
      record { from = omega arith; below = omega arith; object = rw s' at a; holder = rw s' at b })
      (λ t.
      let s = sym (cond-false (is_of o j (f i)) (Some i) (place o j (i + 1) (rows f (i + 1) n)) t) ∙ e in
      let w = placed f (i + 1) n k s in
      record { from = omega arith; below = omega arith; object = w.object; holder = w.holder })
      (cases_Bool (is_of o j (f i)))

  -- nothing is passed over where nothing is found
  pub unplaced : (f : ℕ → Listed) (i n k : ℕ) → place o j i (rows f i n) ≡ None → i ≤ k → k < i + n → (f k).object ≡ o → (f k).holder ≡ j → ⊥
  unfolding place
  unplaced f i zero k e a b p q = omega arith
  unplaced f i (suc n) k e a b p q =
      ⊎_elim
      (λ t.
      let s : Some i ≡ None = sym (cond-true (is_of o j (f i)) (Some i) (place o j (i + 1) (rows f (i + 1) n)) t) ∙ e in
      let z : ◌≡◌ {A = ℕ} 0 1 = cc in omega arith)
      (λ t.
      let s = sym (cond-false (is_of o j (f i)) (Some i) (place o j (i + 1) (rows f (i + 1) n)) t) ∙ e in
      ⊎_elim
      (λ m.
      let y : is_of o j (f i) ≡ true = rw (eq-eqb (f i).object o (ap (λ x. (f x).object) m ∙ p), eq-eqb (f i).holder j (ap (λ x. (f x).holder) m ∙ q)) in
      let z : true ≡ false = sym y ∙ t in
      let z' : ◌≡◌ {A = ℕ} 0 1 = cc in omega arith)
      (λ m. unplaced f (i + 1) n k s (omega arith) (omega arith) p q)
      (cases_eq i k))
      (cases_Bool (is_of o j (f i)))

  pub entered_found : (s c : ℕ) (f g : ℕ → Listed) (i n k : ℕ) → place o j i (rows f i n) ≡ Some k → g k ≡ line o j s c → ((x : ℕ) → x ≢ k → f x ≡ g x) → rows g i n ≡ entered o j s c (rows f i n)
  unfolding place entered
  entered_found s c f g i zero k e at other = let z : ◌≡◌ {A = ℕ} 0 1 = cc in absurd (omega arith)
  entered_found s c f g i (suc n) k e at other =
      ⊎_elim
      (λ t.
      let u : Some i ≡ Some k = sym (cond-true (is_of o j (f i)) (Some i) (place o j (i + 1) (rows f (i + 1) n)) t) ∙ e in
      let u' : i ≡ k = cc in
      let b : rows f (i + 1) n ≡ rows g (i + 1) n = rows_same f g (i + 1) n (λ x p q. other x (λ y. omega arith)) in
      let a : g i ≡ line o j s c = ap g u' ∙ at in
      let r = cond-true (is_of o j (f i)) (line o j s c ∷ rows f (i + 1) n) (f i ∷ entered o j s c (rows f (i + 1) n)) t in
      cc)
      (λ t.
      let u = sym (cond-false (is_of o j (f i)) (Some i) (place o j (i + 1) (rows f (i + 1) n)) t) ∙ e in
      let w = placed f (i + 1) n k u in
      let b : rows g (i + 1) n ≡ entered o j s c (rows f (i + 1) n) = entered_found s c f g (i + 1) n k u at other in
      let a : f i ≡ g i = other i (λ y. omega (arith, w.from)) in
      let r = cond-false (is_of o j (f i)) (line o j s c ∷ rows f (i + 1) n) (f i ∷ entered o j s c (rows f (i + 1) n)) t in
      cc)
      (cases_Bool (is_of o j (f i)))

  place_rows : (f : ℕ → Listed) (k i n : ℕ) → position_from (λ x. is_of o j (f x)) k (range_with_len i n) ≡ place o j k (rows f i n)
  unfolding place
  place_rows f k i zero = refl
  place_rows f k i (suc n) = ap (cond (is_of o j (f i)) (Some k)) (place_rows f (k + 1) (i + 1) n)

  -- the first of the places that passes
  pub place_found : (f : ℕ → Listed) (n : ℕ) → position (λ x. is_of o j (f x)) (range_with_len 0 n) ≡ place o j 0 (rows f 0 n)
  place_found f n = position_from-zero (λ x. is_of o j (f x)) (range_with_len 0 n) ∙ place_rows f 0 0 n

-- a found line in its columns
module _ (os hs ss cs : List ℕ) (n : ℕ) (ls : n ≤ length ss) (lc : n ≤ length cs) (o j s c : ℕ) where
  pub model_found : (k : ℕ) → k < n → place o j 0 (model os hs ss cs n) ≡ Some k → model os hs (set ss k s) (set cs k c) n ≡ entered o j s c (model os hs ss cs n)
  model_found k h e =
      let w = placed o j (row os hs ss cs) 0 n k e in
      entered_found o j s c (row os hs ss cs) (row os hs (set ss k s) (set cs k c)) 0 n k e
      (line_same w.object w.holder (get_or-set_same ss k s 0 (omega arith)) (get_or-set_same cs k c 0 (omega arith)))
      (λ x ne. line_same refl refl (sym (get_or-set_other ss k x s 0 ne)) (sym (get_or-set_other cs k x c 0 ne)))
