-- Each reference that a house has told has a line of that house at its home, so there are no more of them than lines.
use Rattle.std.proofs.Common.{◌≡◌, ℕ, zero, suc, ◌+◌, ◌<◌, ◌≤◌, true, false, cond, eqb, ltb, List, [], ◌∷◌, ◌++◌, length, sym, refl, ap, ◌∙◌, subst, ⊎_elim, arith, length-append}
use Rattle.std.proofs.lemmas.Bool.{cond_both, and_parts, or_cases, or_left, or_right, both_ways, eqb-true, eq-eqb, ltb-true, cases_eq}
use Rattle.lines.specs.Listed.{Listed, is_of, listed}
use Rattle.tables.specs.Model.{is_in, above, rising, without_first}
use Rattle.play.specs.Play.{World}
use Rattle.play.specs.Bound.{line_count}
use Rattle.play.proofs.BoundTells.{sum, sum_same}

-- a rising list of names that are all in another is no longer than it
above_all : (x q : ℕ) (xs : List ℕ) → above x xs ≡ true → is_in q xs ≡ true → x < q
above_all x q [] a m = absurd (both_ways false refl m)
above_all x q (y ∷ ys) a m =
    let p = and_parts (ltb x y) (above x ys) a in
    ⊎_elim (λ e. subst (λ (z : ℕ). x < z) (eqb-true y q e) (ltb-true x y p.0)) (λ e. above_all x q ys p.1 e) (or_cases (eqb y q) (is_in q ys) m)

one_less : (o : ℕ) (ys : List ℕ) → is_in o ys ≡ true → length ys ≡ suc (length (without_first o ys))
one_less o [] m = absurd (both_ways false refl m)
one_less o (y ∷ ys) m =
    cond_both (eqb y o) ys (y ∷ without_first o ys) (λ zs. suc (length ys) ≡ suc (length zs)) (λ _. refl)
    (λ f. ap suc (one_less o ys (⊎_elim (λ e. absurd (both_ways (eqb y o) f e)) (λ e. e) (or_cases (eqb y o) (is_in o ys) m))))

still_in : (q o : ℕ) (ys : List ℕ) → (o ≡ q → ⊥) → is_in q ys ≡ true → is_in q (without_first o ys) ≡ true
still_in q o [] a m = m
still_in q o (y ∷ ys) a m =
    cond_both (eqb y o) ys (y ∷ without_first o ys) (λ zs. is_in q zs ≡ true)
    (λ t. ⊎_elim (λ e. absurd (a (sym (eqb-true y o t) ∙ eqb-true y q e))) (λ e. e) (or_cases (eqb y q) (is_in q ys) m))
    (λ _. ⊎_elim (λ e. or_left (eqb y q) (is_in q (without_first o ys)) e) (λ e. or_right (eqb y q) (is_in q (without_first o ys)) (still_in q o ys a e)) (or_cases (eqb y q) (is_in q ys) m))

no_longer : (xs ys : List ℕ) → rising xs ≡ true → ((o : ℕ) → is_in o xs ≡ true → is_in o ys ≡ true) → length xs ≤ length ys
no_longer [] ys r f = omega arith
no_longer (x ∷ xs) ys r f =
    let p = and_parts (above x xs) (rising xs) r in
    more (no_longer xs (without_first x ys) p.1 (λ o m. still_in o x ys (λ e. apart (above_all x o xs p.0 m) e) (f o (or_right (eqb x o) (is_in o xs) m))))
    (one_less x ys (f x (or_left (eqb x x) (is_in x xs) (eq-eqb x x refl))))
  where
    apart : {a b : ℕ} → a < b → a ≡ b → ⊥
    apart l e = omega arith

    more : {a b c : ℕ} → a ≤ b → c ≡ suc b → suc a ≤ c
    more l e = omega arith

-- the objects of the lines of holder i
abbrev held_by : ℕ → List Listed → List ℕ
held_by i [] = []
held_by i (e ∷ es) = cond (eqb e.holder i) (e.object ∷ held_by i es) (held_by i es)

listed_held : (o i : ℕ) (es : List Listed) → listed o i es ≡ true → is_in o (held_by i es) ≡ true
unfolding listed
listed_held o i [] m = absurd (both_ways false refl m)
listed_held o i (e ∷ es) m =
    cond_both (eqb e.holder i) (e.object ∷ held_by i es) (held_by i es) (λ os. is_in o os ≡ true)
    (λ t. ⊎_elim (λ z. or_left (eqb e.object o) (is_in o (held_by i es)) (and_parts (eqb e.object o) (eqb e.holder i) z).0) (λ z. or_right (eqb e.object o) (is_in o (held_by i es)) (listed_held o i es z)) (or_cases (is_of o i e) (listed o i es) m))
    (λ f. ⊎_elim (λ z. absurd (both_ways (eqb e.holder i) f (and_parts (eqb e.object o) (eqb e.holder i) z).1)) (λ z. listed_held o i es z) (or_cases (is_of o i e) (listed o i es) m))

abbrev held_in : List Listed → ℕ → ℕ
held_in es i = length (held_by i es)

-- a line has one holder
module _ (e : Listed) (es : List Listed) where
  held_not : (i : ℕ) → (e.holder ≡ i → ⊥) → held_in (e ∷ es) i ≡ held_in es i
  held_not i a = cond_both (eqb e.holder i) (e.object ∷ held_by i es) (held_by i es) (λ os. length os ≡ held_in es i) (λ t. absurd (a (eqb-true e.holder i t))) (λ _. refl)

  held_own : (i : ℕ) → held_in (e ∷ es) i ≤ suc (held_in es i)
  held_own i = cond_both (eqb e.holder i) (e.object ∷ held_by i es) (held_by i es) (λ os. length os ≤ suc (held_in es i)) (λ _. omega arith) (λ _. omega arith)

  held_more : (k : ℕ) → sum k (held_in (e ∷ es)) ≤ suc (sum k (held_in es))
  held_more zero = omega arith
  held_more (suc k) =
      ⊎_elim (λ q. here (sum_same k (held_in es) (held_in (e ∷ es)) (λ j l. held_not j (λ z. apart l (sym z ∙ q)))) (held_own k)) (λ q. later (held_more k) (held_not k q)) (cases_eq e.holder k)
    where
      apart : {a b : ℕ} → a < b → a ≡ b → ⊥
      apart l z = omega arith

      here : {a b x y : ℕ} → a ≡ b → x ≤ suc y → a + x ≤ suc (b + y)
      here p q = omega arith

      later : {a b x y : ℕ} → a ≤ suc b → x ≡ y → a + x ≤ suc (b + y)
      later p q = omega arith

sum_none : (k : ℕ) → sum k (held_in []) ≡ 0
sum_none zero = refl
sum_none (suc k) = let z = sum_none k in omega arith

held_all : (k : ℕ) (es : List Listed) → sum k (held_in es) ≤ length es
held_all k [] = let z = sum_none k in omega arith
held_all k (e ∷ es) = let z = held_all k es in let y = held_more e es k in omega arith

sum_less : (k : ℕ) (f g : ℕ → ℕ) → ((j : ℕ) → j < k → f j ≤ g j) → sum k f ≤ sum k g
sum_less zero f g e = omega arith
sum_less (suc k) f g e = let x = sum_less k f g (λ j l. e j (omega arith)) in let y = e k (omega arith) in omega arith

-- the lines of all houses below k
abbrev all_lines : ℕ → World → List Listed
all_lines zero w = []
all_lines (suc k) w = all_lines k w ++ (w.house k).list

all_long : (k : ℕ) (w : World) → length (all_lines k w) ≡ line_count k w
all_long zero w = refl
all_long (suc k) w = let z = length-append (all_lines k w) (w.house k).list in let y = all_long k w in omega arith

listed_left : (o i : ℕ) (es fs : List Listed) → listed o i es ≡ true → listed o i (es ++ fs) ≡ true
unfolding listed
listed_left o i [] fs m = absurd (both_ways false refl m)
listed_left o i (e ∷ es) fs m = ⊎_elim (λ z. or_left (is_of o i e) (listed o i (es ++ fs)) z) (λ z. or_right (is_of o i e) (listed o i (es ++ fs)) (listed_left o i es fs z)) (or_cases (is_of o i e) (listed o i es) m)

listed_right : (o i : ℕ) (es fs : List Listed) → listed o i fs ≡ true → listed o i (es ++ fs) ≡ true
unfolding listed
listed_right o i [] fs m = m
listed_right o i (e ∷ es) fs m = or_right (is_of o i e) (listed o i (es ++ fs)) (listed_right o i es fs m)

listed_all : (o i j k : ℕ) (w : World) → j < k → listed o i (w.house j).list ≡ true → listed o i (all_lines k w) ≡ true
listed_all o i j zero w l m = absurd (omega arith)
listed_all o i j (suc k) w l m =
    ⊎_elim (λ e. listed_right o i (all_lines k w) (w.house k).list (subst (λ (x : ℕ). listed o i (w.house x).list ≡ true) e m)) (λ e. listed_left o i (all_lines k w) (w.house k).list (listed_all o i j k w (earlier l e) m)) (cases_eq j k)
  where
    earlier : j < suc k → (j ≡ k → ⊥) → j < k
    earlier p q = omega arith

-- names, rising for each house, each with a line of that house somewhere
pub held_few : (n : ℕ) (w : World) (f : ℕ → List ℕ) → ((i : ℕ) → i < n → rising (f i) ≡ true) → ((i o : ℕ) → i < n → is_in o (f i) ≡ true → (j : ℕ) × (j < n) × (listed o i (w.house j).list ≡ true)) →
    sum n (λ i. length (f i)) ≤ line_count n w
held_few n w f r there =
    both (sum_less n (λ i. length (f i)) (held_in (all_lines n w)) (λ i l. no_longer (f i) (held_by i (all_lines n w)) (r i l) (λ o m. let z = there i o l m in listed_held o i (all_lines n w) (listed_all o i z.0 n w z.1 z.2))))
    (held_all n (all_lines n w)) (all_long n w)
  where
    both : {a b c d : ℕ} → a ≤ b → b ≤ c → c ≡ d → a ≤ d
    both p q e = omega arith
