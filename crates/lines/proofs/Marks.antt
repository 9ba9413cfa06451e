-- Laws of joining and marking in place, and of what is held in a census.
use Rattle.std.proofs.Common.{◌≡◌, ℕ, zero, suc, ◌+◌, ◌-◌, ◌<◌, ◌≤◌, Bool, true, false, cond, not, ◌&&◌, ◌||◌, eqb, ltb, ◌≢◌, List, [], ◌∷◌, ◌++◌, get_or, set, is_some, Some, None, sym, refl, ap, ◌∙◌, ⊎_elim, append_assoc, arith, get_or-set_other, get_or-set_same}
use Rattle.std.proofs.lemmas.List.{append-nil}
use Rattle.std.proofs.lemmas.Bool.{eqb-true, and_parts, and_left, cases_Bool, cond-true, cond-false, or_parts}
use Rattle.lines.specs.Listed.{Listed, line, is_of, listed, listed_in, place, marked, joined}
use Rattle.lines.specs.Columns.{row, rows}
use Rattle.lines.proofs.Rows.{rows_more, rows_none, rows_same, rows_end, line_same}
use Rattle.lines.specs.Lists.{lines, row_of, Numbered}
use Rattle.lines.specs.declared.table.Lines.{Lines}
use Rattle.lines.proofs.Places.{placed, listed_place}

-- the first i rows have joined, the others have yet to
module _ (c : ℕ) (heard : ℕ → ℕ) where
  pub join_more : (A : List Listed) (f g : ℕ → Listed) (i n : ℕ) → i < n → ((x : ℕ) → x ≢ i → f x ≡ g x) → g i ≡ cond (ltb (heard (f i).holder) (f i).stamp) (line (f i).object (f i).holder (f i).stamp c) (f i)
      → A ≡ rows f 0 i ++ joined c heard (rows f i (n - i)) → A ≡ rows g 0 (i + 1) ++ joined c heard (rows g (i + 1) (n - (i + 1)))
  unfolding joined
  join_more A f g i n h other here inv =
      let front : rows f 0 i ≡ rows g 0 i = rows_same f g 0 i (λ x a b. other x (λ q. omega arith)) in
      let back : rows f (i + 1) (n - (i + 1)) ≡ rows g (i + 1) (n - (i + 1)) = rows_same f g (i + 1) (n - (i + 1)) (λ x a b. other x (λ q. omega arith)) in
      let J = joined c heard (rows g (i + 1) (n - (i + 1))) in
      inv ∙ ap (λ r. rows f 0 i ++ joined c heard r) (rows_more f i n h) ∙ ap (λ r. rows f 0 i ++ r ∷ joined c heard (rows f (i + 1) (n - (i + 1)))) (sym here)
      ∙ ap (λ r. r ++ g i ∷ joined c heard (rows f (i + 1) (n - (i + 1)))) front ∙ ap (λ r. rows g 0 i ++ g i ∷ joined c heard r) back
      ∙ sym (append_assoc (rows g 0 i) (g i ∷ []) J) ∙ ap (λ r. r ++ J) (sym (rows_end g i))

  pub join_none : (f : ℕ → Listed) (n : ℕ) → joined c heard (rows f 0 n) ≡ rows f 0 0 ++ joined c heard (rows f 0 (n - 0))
  join_none f n = let z : n ≡ n - 0 = omega arith in ap (λ k. joined c heard (rows f 0 k)) z

  pub join_all : (A : List Listed) (f : ℕ → Listed) (i n : ℕ) → n ≤ i → i ≤ n → A ≡ rows f 0 i ++ joined c heard (rows f i (n - i)) → rows f 0 n ≡ A
  unfolding joined
  join_all A f i n h l inv =
      let e : i ≡ n = omega arith in
      sym (inv ∙ ap (λ r. rows f 0 i ++ joined c heard r) (rows_none f i n h) ∙ append-nil (rows f 0 i) ∙ ap (rows f 0) e)

module _ (c o j : ℕ) where
  pub marked_found : (f g : ℕ → Listed) (i n k : ℕ) → place o j i (rows f i n) ≡ Some k → g k ≡ line o j (f k).stamp c → ((x : ℕ) → x ≢ k → f x ≡ g x) → rows g i n ≡ marked c o j (rows f i n)
  unfolding place marked
  marked_found f g i zero k e at other = let z : ◌≡◌ {A = ℕ} 0 1 = cc in absurd (omega arith)
  marked_found f g i (suc n) k e at other =
      ⊎_elim
      (λ t.
      let u : Some i ≡ Some k = sym (cond-true (is_of o j (f i)) (Some i) (place o j (i + 1) (rows f (i + 1) n)) t) ∙ e in
      let u' : i ≡ k = cc in
      let b : rows f (i + 1) n ≡ rows g (i + 1) n = rows_same f g (i + 1) n (λ x p q. other x (λ y. omega arith)) in
      let a : g i ≡ line o j (f i).stamp c = ap g u' ∙ at ∙ ap (λ x. line o j (f x).stamp c) (sym u') in
      let r = cond-true (is_of o j (f i)) (line o j (f i).stamp c ∷ rows f (i + 1) n) (f i ∷ marked c o j (rows f (i + 1) n)) t in
      cc)
      (λ t.
      let u = sym (cond-false (is_of o j (f i)) (Some i) (place o j (i + 1) (rows f (i + 1) n)) t) ∙ e in
      let w = placed o j f (i + 1) n k u in
      let b : rows g (i + 1) n ≡ marked c o j (rows f (i + 1) n) = marked_found f g (i + 1) n k u at other in
      let a : f i ≡ g i = other i (λ y. omega (arith, w.from)) in
      let r = cond-false (is_of o j (f i)) (line o j (f i).stamp c ∷ rows f (i + 1) n) (f i ∷ marked c o j (rows f (i + 1) n)) t in
      cc)
      (cases_Bool (is_of o j (f i)))

  pub marked_none : (k : ℕ) (es : List Listed) → place o j k es ≡ None → marked c o j es ≡ es
  unfolding place marked
  marked_none k [] e = refl
  marked_none k (x ∷ es) e =
      ⊎_elim
      (λ t.
      let u : Some k ≡ None = sym (cond-true (is_of o j x) (Some k) (place o j (k + 1) es) t) ∙ e in
      let z : ◌≡◌ {A = ℕ} 0 1 = cc in absurd (omega arith))
      (λ t.
      let u = sym (cond-false (is_of o j x) (Some k) (place o j (k + 1) es) t) ∙ e in
      cond-false (is_of o j x) (line o j x.stamp c ∷ es) (x ∷ marked c o j es) t ∙ ap (λ r. x ∷ r) (marked_none (k + 1) es u))
      (cases_Bool (is_of o j x))

  -- no line of o and j, so none in this census
  pub listed_in_none : (es : List Listed) → listed o j es ≡ false → listed_in c o j es ≡ false
  unfolding listed listed_in
  listed_in_none [] e = refl
  listed_in_none (x ∷ es) e =
      let w = or_parts (is_of o j x) (listed o j es) e in
      rw w.0 (listed_in_none es w.1)

  listed_not : (f : ℕ → Listed) (i n : ℕ) → ((x : ℕ) → i ≤ x → x < i + n → (f x).object ≡ o → (f x).holder ≡ j → ⊥) → listed o j (rows f i n) ≡ false
  unfolding listed
  listed_not f i zero h = refl
  listed_not f i (suc n) h =
      ⊎_elim
      (λ t.
      let w = and_parts (eqb (f i).object o) (eqb (f i).holder j) t in
      absurd (h i (omega arith) (omega arith) (eqb-true _ _ w.0) (eqb-true _ _ w.1)))
      (λ t. rw t (listed_not f (i + 1) n (λ x a b. h x (omega arith) (omega arith))))
      (cases_Bool (is_of o j (f i)))

  -- of the one line of o and j
  pub listed_in_found : (f : ℕ → Listed) (i n k : ℕ) → place o j i (rows f i n) ≡ Some k → ((x : ℕ) → k < x → x < i + n → (f x).object ≡ o → (f x).holder ≡ j → ⊥) → listed_in c o j (rows f i n) ≡ eqb (f k).census c
  unfolding place listed_in
  listed_in_found f i zero k e alone = let z : ◌≡◌ {A = ℕ} 0 1 = cc in absurd (omega arith)
  listed_in_found f i (suc n) k e alone =
      ⊎_elim
      (λ t.
      let u : Some i ≡ Some k = sym (cond-true (is_of o j (f i)) (Some i) (place o j (i + 1) (rows f (i + 1) n)) t) ∙ e in
      let u' : i ≡ k = cc in
      let r : listed_in c o j (rows f (i + 1) n) ≡ false = listed_in_none (rows f (i + 1) n) (listed_not f (i + 1) n (λ x a b. alone x (omega arith) (omega arith))) in
      let b : (eqb (f i).census c || false) ≡ eqb (f i).census c = or_false (eqb (f i).census c) in
      rw (t, r) (b ∙ ap (λ x. eqb (f x).census c) u'))
      (λ t.
      let u = sym (cond-false (is_of o j (f i)) (Some i) (place o j (i + 1) (rows f (i + 1) n)) t) ∙ e in
      rw t (listed_in_found f (i + 1) n k u (λ x a b. alone x a (omega arith))))
      (cases_Bool (is_of o j (f i)))
    where
      or_false : (b : Bool) → (b || false) ≡ b
      or_false true = refl
      or_false false = refl

module _ (t : Lines) (c o j : ℕ) where
  pub held_none : None ≡ place o j 0 (lines t) → false ≡ listed_in c o j (lines t)
  held_none e = sym (listed_in_none c o j (lines t) (sym (listed_place o j 0 (lines t)) ∙ ap is_some (sym e)))

  -- a list has at most one line of o and j, so the first that is found decides
  pub held_found : (k : ℕ) → Some k ≡ place o j 0 (lines t) → eqb (get_or t.censuses.now k 0) c ≡ listed_in c o j (lines t)
  held_found k e =
      let w = placed o j (row_of t) 0 t.len k (sym e) in
      sym (listed_in_found c o j (row_of t) 0 t.len k (sym e) (λ x a b p q. t.alone k x (a, omega arith, w.object ∙ sym p, w.holder ∙ sym q)))

  pub mark_none : None ≡ place o j 0 (lines t) → false ≡ (listed o j (lines t) && not (listed_in c o j (lines t)))
  mark_none e = sym (and_left _ _ (sym (listed_place o j 0 (lines t)) ∙ ap is_some (sym e)))

  pub mark_found : (k : ℕ) → Some k ≡ place o j 0 (lines t) → not (eqb (get_or t.censuses.now k 0) c) ≡ (listed o j (lines t) && not (listed_in c o j (lines t)))
  mark_found k e =
      let l : listed o j (lines t) ≡ true = sym (listed_place o j 0 (lines t)) ∙ ap is_some (sym e) in
      ap not (held_found k e) ∙ ap (λ b. b && not (listed_in c o j (lines t))) (sym l)

  pub marked_old : (u : Lines) (k : ℕ) → Some k ≡ place o j 0 (lines t) → k < t.len → Numbered t k c u → lines u ≡ marked c o j (lines t)
  marked_old u k e h v =
      let r = t.roomy in
      let i = t.within in
      let w = placed o j (row_of t) 0 t.len k (sym e) in
      rw (v.objects, v.holders, v.stamps, v.censuses, v.len)
      (marked_found c o j (row_of t) (row t.objects.now t.holders.now t.stamps.now (set t.censuses.now k c)) 0 t.len k (sym e)
      (line_same w.object w.holder refl (get_or-set_same t.censuses.now k c 0 (omega arith)))
      (λ x ne. line_same refl refl refl (sym (get_or-set_other t.censuses.now k x c 0 ne))))

  pub marked_new : None ≡ place o j 0 (lines t) → lines t ≡ marked c o j (lines t)
  marked_new e = sym (marked_none c o j 0 (lines t) (sym e))
