-- A name that is told.
use Rattle.std.proofs.Common.{◌≡◌, ℕ, suc, ◌+◌, ◌<◌, ◌≤◌, Bool, true, false, ◌||◌, eqb, ltb, List, [], ◌∷◌, length, sym, refl, ap, ◌∙◌, ⊎_elim, arith}
use Rattle.std.specs.List.{insert}
use Rattle.std.proofs.lemmas.Bool.{ltb-true, ltb-false, eqb-true, eqb-false, lt-ltb, le-ltb, and_parts, and_from, or_parts, or_right, or_from, both_ways, cond-true, cond-false, cond_both, cases_lt, cases_Bool, ne_eqb}
use Rattle.tables.specs.Model.{is_in, above, rising, below}
use Rattle.census.specs.Model.{Told, names, entered, entered_all, untold, unanswered}
use Rattle.tables.proofs.Places.{above_out, above_less}

abbrev pub awaited : ℕ → Told
awaited o = record { name = o; answered = false }

strictly : (a b : ℕ) → b ≤ a → (a ≡ b → ⊥) → b < a
strictly a b l ne = omega arith

-- the three ways of `entered`
module _ (o : ℕ) (t : Told) (ts : List Told) where
  pub entered_past : t.name < o → entered o (t ∷ ts) ≡ t ∷ entered o ts
  entered_past l = cond-true (ltb t.name o) _ _ (lt-ltb t.name o l)

  pub entered_before : o < t.name → entered o (t ∷ ts) ≡ awaited o ∷ t ∷ ts
  entered_before l = cond-false (ltb t.name o) _ _ (le-ltb t.name o (omega arith)) ∙ cond-false (eqb t.name o) _ _ (ne_eqb t.name o (λ e. omega arith))

  -- what holds on each of them
  pub entered_ways : (P : List Told → Type 0) → (t.name < o → P (t ∷ entered o ts)) → (t.name ≡ o → P (t ∷ ts)) → (o < t.name → P (awaited o ∷ t ∷ ts)) → P (entered o (t ∷ ts))
  entered_ways P past same before =
      cond_both (ltb t.name o) _ _ P
      (λ e. past (ltb-true t.name o e))
      (λ e. cond_both (eqb t.name o) _ _ P
      (λ f. same (eqb-true t.name o f))
      (λ f. before (strictly t.name o (ltb-false t.name o e) (eqb-false t.name o f))))

-- what is told already changes nothing
pub entered_in : (o : ℕ) (ts : List Told) → rising (names ts) ≡ true → is_in o (names ts) ≡ true → entered o ts ≡ ts
entered_in o [] r h = absurd (both_ways false refl h)
entered_in o (t ∷ ts) r h =
    let p = and_parts (above t.name (names ts)) (rising (names ts)) r in
    entered_ways o t ts (λ xs. xs ≡ t ∷ ts)
    (λ l. let ne : eqb t.name o ≡ false = ne_eqb t.name o (λ e. omega arith) in
    let there : is_in o (names ts) ≡ true = rw ne at h in
    ap (λ xs. t ∷ xs) (entered_in o ts p.1 there))
    (λ e. refl)
    (λ l. absurd (both_ways (is_in o (names (t ∷ ts)))
    (or_from (eqb t.name o) (is_in o (names ts)) (ne_eqb t.name o (λ e. omega arith)) (above_out o t.name (names ts) p.0 (omega arith))) h))

-- what was not told is put into its place
pub entered_out : (o : ℕ) (ts : List Told) → is_in o (names ts) ≡ false → insert ts (below o (names ts)) (awaited o) ≡ entered o ts
entered_out o [] h = refl
entered_out o (t ∷ ts) h =
    let p = or_parts (eqb t.name o) (is_in o (names ts)) h in
    ⊎_elim
    (λ l.
    let b : below o (names (t ∷ ts)) ≡ suc (below o (names ts)) = cond-true (ltb t.name o) (suc (below o (names ts))) 0 (lt-ltb t.name o l) in
    ap (λ k. insert (t ∷ ts) k (awaited o)) b ∙ ap (λ xs. t ∷ xs) (entered_out o ts p.1) ∙ sym (entered_past o t ts l))
    (λ l.
    let b : below o (names (t ∷ ts)) ≡ 0 = cond-false (ltb t.name o) (suc (below o (names ts))) 0 (le-ltb t.name o l) in
    ap (λ k. insert (t ∷ ts) k (awaited o)) b ∙ sym (entered_before o t ts (strictly t.name o l (eqb-false t.name o p.0))))
    (cases_lt t.name o)

or_over : (a b c : Bool) → (a || (b || c)) ≡ (b || (a || c))
or_over true true c = refl
or_over true false c = refl
or_over false true c = refl
or_over false false c = refl

or_again : (a c : Bool) → (a || c) ≡ (a || (a || c))
or_again true c = refl
or_again false c = refl

-- what is told then: o, and what was told before
pub is_in_entered : (q o : ℕ) (ts : List Told) → is_in q (names (entered o ts)) ≡ (eqb o q || is_in q (names ts))
is_in_entered q o [] = refl
is_in_entered q o (t ∷ ts) =
    entered_ways o t ts (λ xs. is_in q (names xs) ≡ (eqb o q || is_in q (names (t ∷ ts))))
    (λ l. ap (λ b. eqb t.name q || b) (is_in_entered q o ts) ∙ or_over (eqb t.name q) (eqb o q) (is_in q (names ts)))
    (λ e. rw e (or_again (eqb o q) (is_in q (names ts))))
    (λ l. refl)

above_entered : (x o : ℕ) (ts : List Told) → x < o → above x (names ts) ≡ true → above x (names (entered o ts)) ≡ true
above_entered x o [] l a = and_from (ltb x o) true (lt-ltb x o l) refl
above_entered x o (t ∷ ts) l a =
    let p = and_parts (ltb x t.name) (above x (names ts)) a in
    entered_ways o t ts (λ xs. above x (names xs) ≡ true)
    (λ h. and_from (ltb x t.name) _ p.0 (above_entered x o ts l p.1))
    (λ e. a)
    (λ h. and_from (ltb x o) _ (lt-ltb x o l) a)

pub rising_entered : (o : ℕ) (ts : List Told) → rising (names ts) ≡ true → rising (names (entered o ts)) ≡ true
rising_entered o [] r = refl
rising_entered o (t ∷ ts) r =
    let p = and_parts (above t.name (names ts)) (rising (names ts)) r in
    entered_ways o t ts (λ xs. rising (names xs) ≡ true)
    (λ l. and_from _ _ (above_entered t.name o ts l p.0) (rising_entered o ts p.1))
    (λ e. r)
    (λ l. and_from _ _ (and_from (ltb o t.name) _ (lt-ltb o t.name l) (above_less o t.name (names ts) (omega arith) p.0)) r)

pub rising_entered_all : (us : List ℕ) (ts : List Told) → rising (names ts) ≡ true → rising (names (entered_all us ts)) ≡ true
rising_entered_all [] ts r = r
rising_entered_all (u ∷ us) ts r = rising_entered_all us (entered u ts) (rising_entered u ts r)

-- one name more at most
length_out : (o : ℕ) (ts : List Told) → is_in o (names ts) ≡ false → length (entered o ts) ≡ length ts + 1
length_out o [] h = refl
length_out o (t ∷ ts) h =
    let p = or_parts (eqb t.name o) (is_in o (names ts)) h in
    entered_ways o t ts (λ xs. length xs ≡ length (t ∷ ts) + 1)
    (λ l. omega (arith, length_out o ts p.1))
    (λ e. absurd (eqb-false t.name o p.0 e))
    (λ l. omega arith)

pub length_entered : (o : ℕ) (ts : List Told) → rising (names ts) ≡ true → length (entered o ts) ≡ length ts + length (untold (o ∷ []) ts)
length_entered o ts r =
    cond_both (is_in o (names ts)) [] (o ∷ []) (λ xs. length (entered o ts) ≡ length ts + length xs)
    (λ e. rw (entered_in o ts r e) (omega arith))
    (λ e. length_out o ts e)

unanswered_one : (o : ℕ) (ts : List Told) → length (unanswered (entered o ts)) ≤ length (unanswered ts) + 1
unanswered_one o [] = omega arith
unanswered_one o (t ∷ ts) =
    let i = unanswered_one o ts in
    entered_ways o t ts (λ xs. length (unanswered xs) ≤ length (unanswered (t ∷ ts)) + 1)
    (λ l. ⊎_elim (λ e. rw e i) (λ e. rw e (omega arith)) (cases_Bool t.answered))
    (λ e. omega arith)
    (λ l. omega arith)

-- what is told more is at most what was untold
pub unanswered_entered : (o : ℕ) (ts : List Told) → rising (names ts) ≡ true → length (unanswered (entered o ts)) ≤ length (unanswered ts) + length (untold (o ∷ []) ts)
unanswered_entered o ts r =
    cond_both (is_in o (names ts)) [] (o ∷ []) (λ xs. length (unanswered (entered o ts)) ≤ length (unanswered ts) + length xs)
    (λ e. rw (entered_in o ts r e) (omega arith))
    (λ e. unanswered_one o ts)

-- what is left untold
pub untold_cons : (u : ℕ) (us : List ℕ) (ts : List Told) → length (untold (u ∷ us) ts) ≡ length (untold (u ∷ []) ts) + length (untold us ts)
untold_cons u us ts = ⊎_elim (λ e. rw e (omega arith)) (λ e. rw e (omega arith)) (cases_Bool (is_in u (names ts)))

pub untold_less : (o : ℕ) (us : List ℕ) (ts : List Told) → length (untold us (entered o ts)) ≤ length (untold us ts)
untold_less o [] ts = omega arith
untold_less o (u ∷ us) ts =
    let i = untold_less o us ts in
    let s = is_in_entered u o ts in
    ⊎_elim
    (λ e. let f : is_in u (names (entered o ts)) ≡ true = s ∙ or_right (eqb o u) _ e in rw (e, f) i)
    (λ e. rw e (cond_both (is_in u (names (entered o ts))) _ _ (λ xs. length xs ≤ suc (length (untold us ts))) (λ _. omega arith) (λ _. omega arith)))
    (cases_Bool (is_in u (names ts)))

pub unanswered_all : (us : List ℕ) (ts : List Told) → rising (names ts) ≡ true → length (unanswered (entered_all us ts)) ≤ length (unanswered ts) + length (untold us ts)
unanswered_all [] ts r = omega arith
unanswered_all (u ∷ us) ts r =
    let i = unanswered_all us (entered u ts) (rising_entered u ts r) in
    let a = unanswered_entered u ts r in
    let b = untold_less u us ts in
    let d = untold_cons u us ts in
    omega arith

pub untold_one : (o : ℕ) (ts : List Told) → is_in o (names ts) ≡ false → length (untold (o ∷ []) ts) ≡ 1
untold_one o ts e = rw e
