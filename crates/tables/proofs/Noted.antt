-- Marks on the objects of a name, of several, and of a pass.
use Rattle.std.proofs.Common.{◌≡◌, ℕ, zero, suc, ◌+◌, ◌<◌, ◌≤◌, Bool, true, false, ◌||◌, eqb, ltb, ◌⊎◌, List, [], ◌∷◌, length, get_or, set, sym, refl, ap, ◌∙◌, inl, inr, ⊎_elim, arith}
use Rattle.std.proofs.lemmas.List.{set-get_or}
use Rattle.std.proofs.lemmas.Bool.{eq-eqb, ne_eqb, eqb-true, cases_Bool, cases_eq, and_parts, or_parts, ltb-true, ltb-false, lt-ltb, or_cases, or_left, or_right}
use Rattle.tables.specs.Model.{is_in, rising, above}
use Rattle.tables.proofs.Places.{above_at, above_out}
use Rattle.tables.specs.Marks.{count, noted}

or_true : (m : Bool) → (m || true) ≡ true
or_true true = refl
or_true false = refl

or_false : (m : Bool) → (m || false) ≡ m
or_false true = refl
or_false false = refl

-- whether marks were added, from step to step
pub added_or : (a b c : ℕ) (old now : Bool) → a ≤ b → b ≤ c → old ≡ ltb a b → now ≡ ltb b c → (old || now) ≡ ltb a c
added_or a b c true now h k e f = sym (lt-ltb a c (omega (arith, ltb-true a b (sym e))))
added_or a b c false now h k e f = let s : a ≡ b = omega (arith, ltb-false a b (sym e)) in f ∙ ap (λ n. ltb n c) (sym s)

pub count_bound : (ms : List Bool) → count ms ≤ length ms
unfolding count
count_bound [] = omega arith
count_bound (true ∷ ms) = omega (arith, count_bound ms)
count_bound (false ∷ ms) = omega (arith, count_bound ms)

pub count_set : (ms : List Bool) (i : ℕ) → i < length ms → get_or ms i false ≡ false → count (set ms i true) ≡ suc (count ms)
unfolding count
count_set [] i h e = absurd (omega arith)
count_set (m ∷ ms) zero h e = rw e (omega arith)
count_set (m ∷ ms) (suc i) h e = omega (arith, count_set ms i (omega arith) e)

module _ (p : ℕ) where
  pub noted_done : (ns : List ℕ) (ms : List Bool) → ((k : ℕ) → k < length ns → get_or ns k 0 ≡ p → get_or ms k false ≡ true) → noted p ns ms ≡ ms
  unfolding noted
  noted_done [] ms h = refl
  noted_done (n ∷ ns) [] h = refl
  noted_done (n ∷ ns) (m ∷ ms) h =
      let rest : noted p ns ms ≡ ms = noted_done ns ms (λ k l e. h (suc k) (omega arith) e) in
      let here : (m || eqb n p) ≡ m = ⊎_elim
      (λ e. let t : m ≡ true = h 0 (omega arith) e in ap (λ b. m || b) (eq-eqb n p e) ∙ or_true m ∙ sym t)
      (λ e. ap (λ b. m || b) (ne_eqb n p e) ∙ or_false m)
      (cases_eq n p) in
      cc

  pub length_noted : (ns : List ℕ) (ms : List Bool) → length (noted p ns ms) ≡ length ms
  unfolding noted
  length_noted [] ms = refl
  length_noted (n ∷ ns) [] = refl
  length_noted (n ∷ ns) (m ∷ ms) = ap suc (length_noted ns ms)

  pub count_noted : (ns : List ℕ) (ms : List Bool) → count ms ≤ count (noted p ns ms)
  unfolding noted count
  count_noted [] ms = omega arith
  count_noted (n ∷ ns) [] = omega arith
  count_noted (n ∷ ns) (true ∷ ms) = omega (arith, count_noted ns ms)
  count_noted (n ∷ ns) (false ∷ ms) = omega (arith, count_noted ns ms)

  -- what has a mark keeps it
  pub noted_keeps : (ns : List ℕ) (ms : List Bool) (k : ℕ) → get_or ms k false ≡ true → get_or (noted p ns ms) k false ≡ true
  unfolding noted
  noted_keeps [] ms k e = e
  noted_keeps (n ∷ ns) [] k e = e
  noted_keeps (n ∷ ns) (m ∷ ms) zero e = or_left m (eqb n p) e
  noted_keeps (n ∷ ns) (m ∷ ms) (suc k) e = noted_keeps ns ms k e

  pub noted_marks : (ns : List ℕ) (ms : List Bool) (k : ℕ) → k < length ns → k < length ms → get_or ns k 0 ≡ p → get_or (noted p ns ms) k false ≡ true
  unfolding noted
  noted_marks [] ms k h l e = absurd (omega arith)
  noted_marks (n ∷ ns) [] k h l e = absurd (omega arith)
  noted_marks (n ∷ ns) (m ∷ ms) zero h l e = or_right m (eqb n p) (eq-eqb n p e)
  noted_marks (n ∷ ns) (m ∷ ms) (suc k) h l e = noted_marks ns ms k (omega arith) (omega arith) e

  pub noted_why : (ns : List ℕ) (ms : List Bool) (k : ℕ) → get_or (noted p ns ms) k false ≡ true → (get_or ms k false ≡ true) ⊎ (get_or ns k 0 ≡ p)
  unfolding noted
  noted_why [] ms k e = inl e
  noted_why (n ∷ ns) [] k e = inl e
  noted_why (n ∷ ns) (m ∷ ms) zero e = ⊎_elim (λ t. inl t) (λ t. inr (eqb-true n p t)) (or_cases m (eqb n p) e)
  noted_why (n ∷ ns) (m ∷ ms) (suc k) e = noted_why ns ms k e

  -- a note that adds nothing changes nothing
  pub noted_still : (ns : List ℕ) (ms : List Bool) → count (noted p ns ms) ≤ count ms → noted p ns ms ≡ ms
  unfolding noted count
  noted_still [] ms h = refl
  noted_still (n ∷ ns) [] h = refl
  noted_still (n ∷ ns) (true ∷ ms) h = ap (λ r. true ∷ r) (noted_still ns ms (omega arith))
  noted_still (n ∷ ns) (false ∷ ms) h =
      ⊎_elim
      (λ t. absurd (let g : 1 + count (noted p ns ms) ≤ 0 + count ms = rw t at h in omega (arith, count_noted ns ms)))
      (λ f. let g : count (noted p ns ms) ≤ count ms = omega (arith, rw f at h) in
      let r : noted p ns ms ≡ ms = noted_still ns ms g in
      cc)
      (cases_Bool (eqb n p))

-- a mark that is set, and the others, stay
pub later : (ms : List Bool) (i : ℕ) → i < length ms → get_or (set ms i true) i false ≡ true
later [] i h = absurd (omega arith)
later (m ∷ ms) zero h = refl
later (m ∷ ms) (suc i) h = later ms i (omega arith)

-- a name that no object has marks nothing
pub noted_out : (p : ℕ) (ns : List ℕ) (ms : List Bool) → is_in p ns ≡ false → noted p ns ms ≡ ms
unfolding noted
noted_out p [] ms f = refl
noted_out p (n ∷ ns) [] f = refl
noted_out p (n ∷ ns) (m ∷ ms) f =
    let q = or_parts (eqb n p) (is_in p ns) f in
    let here : (m || eqb n p) ≡ m = ap (λ b. m || b) q.0 ∙ or_false m in
    let rest : noted p ns ms ≡ ms = noted_out p ns ms q.1 in
    cc

pub noted_at : (p : ℕ) (ns : List ℕ) (ms : List Bool) (i : ℕ) → rising ns ≡ true → i < length ns → i < length ms → get_or ns i 0 ≡ p → set ms i true ≡ noted p ns ms
unfolding noted
noted_at p [] ms i r h l e = absurd (omega arith)
noted_at p (n ∷ ns) [] i r h l e = absurd (omega arith)
noted_at p (n ∷ ns) (m ∷ ms) zero r h l e =
    let q = and_parts (above n ns) (rising ns) r in
    let here : (m || eqb n p) ≡ true = ap (λ b. m || b) (eq-eqb n p e) ∙ or_true m in
    let rest : noted p ns ms ≡ ms = noted_out p ns ms (above_out p n ns q.0 (omega arith)) in
    cc
noted_at p (n ∷ ns) (m ∷ ms) (suc i) r h l e =
    let q = and_parts (above n ns) (rising ns) r in
    let a = above_at n ns i q.0 (omega arith) in
    let here : (m || eqb n p) ≡ m = ap (λ b. m || b) (ne_eqb n p (λ z. omega arith)) ∙ or_false m in
    let rest : set ms i true ≡ noted p ns ms = noted_at p ns ms i q.1 (omega arith) (omega arith) e in
    cc

pub set_same : (ms : List Bool) (i : ℕ) → get_or ms i false ≡ true → set ms i true ≡ ms
set_same ms i e = ap (set ms i) (sym e) ∙ set-get_or ms i false
