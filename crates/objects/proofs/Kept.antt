-- What a collection leaves.
use Rattle.std.proofs.Common.{◌≡◌, ℕ, zero, suc, ◌<◌, ◌≤◌, Bool, true, false, eqb, ltb, List, [], ◌∷◌, map, length, get_or, replicate, refl, ap, ⊎_elim, arith}
use Rattle.std.proofs.lemmas.Bool.{or_cases, or_left, or_right, and_parts, and_from, both_ways, eqb-true, eq-eqb}
use Rattle.tables.specs.Model as model
use Rattle.tables.specs.Model.{is_in, present, names, rising, above, is_own, all_own}
use Rattle.tables.specs.Met.{Some, end, kept, left}
use Rattle.tables.specs.Marks.{kept_by}

pub clear_all : (n k : ℕ) → get_or (replicate n false) k false ≡ false
clear_all zero k = refl
clear_all (suc n) zero = refl
clear_all (suc n) (suc k) = clear_all n k

module _ {X Y : Type 0} (f : X → Y) where
  pub map_kept : (ms : List Bool) (xs : List X) → map f (kept_by ms xs) ≡ kept_by ms (map f xs)
  map_kept [] xs = refl
  map_kept (m ∷ ms) [] = refl
  map_kept (true ∷ ms) (x ∷ xs) = ap (λ r. f x ∷ r) (map_kept ms xs)
  map_kept (false ∷ ms) (x ∷ xs) = map_kept ms xs

pub length_kept : {X : Type 0} (ms : List Bool) (xs : List X) → length (kept_by ms xs) ≤ length xs
length_kept [] xs = omega arith
length_kept (m ∷ ms) [] = omega arith
length_kept (true ∷ ms) (x ∷ xs) = omega (arith, length_kept ms xs)
length_kept (false ∷ ms) (x ∷ xs) = omega (arith, length_kept ms xs)

above_kept : (x : ℕ) (ms : List Bool) (xs : List ℕ) → above x xs ≡ true → above x (kept_by ms xs) ≡ true
above_kept x [] xs a = refl
above_kept x (m ∷ ms) [] a = refl
above_kept x (true ∷ ms) (y ∷ xs) a =
    let p = and_parts (ltb x y) (above x xs) a in
    and_from (ltb x y) (above x (kept_by ms xs)) p.0 (above_kept x ms xs p.1)
above_kept x (false ∷ ms) (y ∷ xs) a = above_kept x ms xs (and_parts (ltb x y) (above x xs) a).1

pub rising_kept : (ms : List Bool) (xs : List ℕ) → rising xs ≡ true → rising (kept_by ms xs) ≡ true
rising_kept [] xs r = refl
rising_kept (m ∷ ms) [] r = refl
rising_kept (true ∷ ms) (x ∷ xs) r =
    let p = and_parts (above x xs) (rising xs) r in
    and_from (above x (kept_by ms xs)) (rising (kept_by ms xs)) (above_kept x ms xs p.0) (rising_kept ms xs p.1)
rising_kept (false ∷ ms) (x ∷ xs) r = rising_kept ms xs (and_parts (above x xs) (rising xs) r).1

pub own_kept : (home made : ℕ) (ms : List Bool) (xs : List ℕ) → all_own home made xs ≡ true → all_own home made (kept_by ms xs) ≡ true
own_kept home made [] xs r = refl
own_kept home made (m ∷ ms) [] r = refl
own_kept home made (true ∷ ms) (x ∷ xs) r =
    let p = and_parts (is_own home made x) (all_own home made xs) r in
    and_from (is_own home made x) (all_own home made (kept_by ms xs)) p.0 (own_kept home made ms xs p.1)
own_kept home made (false ∷ ms) (x ∷ xs) r = own_kept home made ms xs (and_parts (is_own home made x) (all_own home made xs) r).1

pub some_kept : (ms : List Bool) (xs : List model.Object) → length xs ≤ length ms → Some (kept_by ms xs) xs
some_kept [] [] l = end
some_kept [] (x ∷ xs) l = absurd (omega arith)
some_kept (m ∷ ms) [] l = end
some_kept (true ∷ ms) (x ∷ xs) l = kept (some_kept ms xs (omega arith))
some_kept (false ∷ ms) (x ∷ xs) l = left (some_kept ms xs (omega arith))

-- what is kept had a mark
pub kept_why : (o : ℕ) (ms : List Bool) (ns : List ℕ) → is_in o (kept_by ms ns) ≡ true → (k : ℕ) × (k < length ns) × (get_or ms k false ≡ true) × (get_or ns k 0 ≡ o)
kept_why o [] ns e = absurd (both_ways false refl e)
kept_why o (m ∷ ms) [] e = absurd (both_ways false refl e)
kept_why o (true ∷ ms) (n ∷ ns) e = ⊎_elim
    (λ t. (0, omega arith, refl, eqb-true n o t))
    (λ t. let q = kept_why o ms ns t in (suc q.0, omega (arith, q.1), q.2, q.3))
    (or_cases (eqb n o) (is_in o (kept_by ms ns)) e)
kept_why o (false ∷ ms) (n ∷ ns) e = let q = kept_why o ms ns e in (suc q.0, omega (arith, q.1), q.2, q.3)

-- and what has one is kept
pub kept_in_place : (o : ℕ) (ms : List Bool) (ns : List ℕ) (k : ℕ) → k < length ns → get_or ms k false ≡ true → get_or ns k 0 ≡ o → is_in o (kept_by ms ns) ≡ true
kept_in_place o [] ns k h m e = absurd (both_ways false refl m)
kept_in_place o (m' ∷ ms) [] k h m e = absurd (omega arith)
kept_in_place o (true ∷ ms) (n ∷ ns) zero h m e = or_left (eqb n o) (is_in o (kept_by ms ns)) (eq-eqb n o e)
kept_in_place o (false ∷ ms) (n ∷ ns) zero h m e = absurd (both_ways false refl m)
kept_in_place o (true ∷ ms) (n ∷ ns) (suc k) h m e = or_right (eqb n o) (is_in o (kept_by ms ns)) (kept_in_place o ms ns k (omega arith) m e)
kept_in_place o (false ∷ ms) (n ∷ ns) (suc k) h m e = kept_in_place o ms ns k (omega arith) m e
