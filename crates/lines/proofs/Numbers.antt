-- The numbers of a part, four bytes each, and the search among numbers that rise.
use Rattle.std.proofs.Common.{◌≡◌, ℕ, zero, suc, ◌%◌, ◌<◌, ◌≤◌, true, false, eqb, ltb, List, [], ◌∷◌, map, length, get_or, Result, Ok, Err, is_ok, sym, refl, ap, ◌∙◌, ⊎_elim, arith}
use Rattle.std.specs.List.Sorted.{IsSearchInRange, IsBinarySearchResult, IsNonDecreasingBy}
use Rattle.std.specs.Ordering.{nat_cmp, ordering_index}
use Rattle.std.proofs.lemmas.Bool.{eq-eqb, ne_eqb, ltb-true, and_parts, or_left, or_right, or_from, cases_lt}
use Rattle.std.proofs.lemmas.Bool.Decides.{nat_tests}
use Rattle.std.proofs.lemmas.Cmp.{ranked}
use Rattle.std.proofs.lemmas.List.{length-map, get_or-map}
use Rattle.std.proofs.lemmas.List.Sorted.{IsNonDecreasingBy-from_default}
use Rattle.wire.specs.Format.{rising}
use Rattle.lines.specs.Listed.{is_in}
use Rattle.lines.specs.Words.{Ascending}

rising_above : (to low : ℕ) (xs : List ℕ) → rising to low xs ≡ true → (k : ℕ) → k < length xs → low < get_or xs k 0
unfolding rising
rising_above to low [] e k h = absurd (omega arith)
rising_above to low (x ∷ xs) e zero h = ltb-true low x (and_parts (ltb low x) _ e).0
rising_above to low (x ∷ xs) e (suc k) h =
    let w = and_parts (ltb low x) _ e in
    let v = and_parts (eqb (x % 16) to) _ w.1 in
    let a : low < x = ltb-true low x w.0 in
    let b : x < get_or xs k 0 = rising_above to x xs v.1 k (omega arith) in
    omega arith

pub rising_ascends : (to low : ℕ) (xs : List ℕ) → rising to low xs ≡ true → Ascending xs
unfolding rising
rising_ascends to low [] e i k h l = absurd (omega arith)
rising_ascends to low (x ∷ xs) e i zero h l = absurd (omega arith)
rising_ascends to low (x ∷ xs) e zero (suc k) h l =
    let w = and_parts (ltb low x) _ e in
    let v = and_parts (eqb (x % 16) to) _ w.1 in
    rising_above to x xs v.1 k (omega arith)
rising_ascends to low (x ∷ xs) e (suc i) (suc k) h l =
    let w = and_parts (ltb low x) _ e in
    let v = and_parts (eqb (x % 16) to) _ w.1 in
    rising_ascends to x xs v.1 i k (omega arith) (omega arith)

pub is_in_at : (o : ℕ) (xs : List ℕ) (k : ℕ) → k < length xs → get_or xs k 0 ≡ o → is_in o xs ≡ true
unfolding is_in
is_in_at o [] k h e = absurd (omega arith)
is_in_at o (x ∷ xs) zero h e = or_left _ _ (eq-eqb x o e)
is_in_at o (x ∷ xs) (suc k) h e = or_right _ _ (is_in_at o xs k (omega arith) e)

pub is_in_none : (o : ℕ) (xs : List ℕ) → ((k : ℕ) → k < length xs → get_or xs k 0 ≡ o → ⊥) → is_in o xs ≡ false
unfolding is_in
is_in_none o [] h = refl
is_in_none o (x ∷ xs) h = or_from _ _ (ne_eqb x o (h 0 (omega arith))) (is_in_none o xs (λ k l. h (suc k) (omega arith)))

-- a binary search by key ends at the number, or where all before are below it and all after are above
pub searched : {X : Type 0} (key : X → ℕ) (o : ℕ) (xs : List X) (d : X) (r : Result ℕ ℕ) → Ascending (map key xs) → IsSearchInRange r (length xs) → IsBinarySearchResult (λ x. nat_cmp (key x) o) xs r →
    is_ok r ≡ is_in o (map key xs)
searched key o xs d (Ok at) up within equal =
    let l = length-map xs key in
    sym (is_in_at o (map key xs) at (omega arith) (get_or-map key xs at d 0 within ∙ ranked _ o _ (sym (equal d))))
searched key o xs d (Err at) up within parted =
    let l = length-map xs key in
    let is : (k : ℕ) → k < length xs → get_or (map key xs) k 0 ≡ key (get_or xs k d) = λ k h. get_or-map key xs k d 0 h in
    let rise : IsNonDecreasingBy (λ x. ordering_index (nat_cmp (key x) o)) xs = IsNonDecreasingBy-from_default (λ x. ordering_index (nat_cmp (key x) o)) xs d (λ i j le h.
    let below : key (get_or xs i d) ≤ key (get_or xs j d) = grind (arith, up i j, is i, is j, λ (same : i ≡ j). ap (λ n. key (get_or xs n d)) same) in
    grind (arith, nat_tests)) in
    let found = parted rise in
    sym (is_in_none o (map key xs) (λ k h e.
    ⊎_elim
    (λ q. omega (arith, is k (omega arith), ranked (key (get_or xs k d)) o _ (sym (found.0 k d (omega arith) q))))
    (λ q. omega (arith, is k (omega arith), ranked (key (get_or xs k d)) o _ (sym (found.1 k d q (omega arith)))))
    (cases_lt k at)))
