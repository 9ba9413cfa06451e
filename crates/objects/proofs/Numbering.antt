-- A new object's name.
use Rattle.std.proofs.Common.{◌≡◌, ℕ, ◌+◌, ◌*◌, ◌/◌, ◌%◌, ◌<◌, ◌≤◌, Bool, true, false, cond, ◌&&◌, ◌||◌, eqb, ltb, leb, List, [], ◌∷◌, ◌++◌, Ok, Err, Result, refl, ◌∙◌, ⊎_elim, arith}
use Rattle.std.proofs.lemmas.Bool.{eqb-true, eq-eqb, ne_eqb, leb-true, leb-false, le-leb, lt-ltb, lt-leb, and_parts, and_from, or_from, cond-true, cond-false, cases_Bool}
use Rattle.wire.specs.declared.names.House.{House}
use Rattle.wire.specs.declared.names.Name.{Name}
use Rattle.wire.specs.declared.refusal.Refusal.{Refusal}
use Rattle.wire.specs.declared.refusal.Refusal.TheVariants.{Malformed, OutOfNumbers}
use Rattle.wire.specs.Names.{named, name}
use Rattle.tables.specs.Model.{rising, above, is_own, all_own}

Named : Type 0
Named = Result Name Refusal

ok_err : (n : Name) (e : Refusal) → ◌≡◌ {A = Result Name Refusal} (Ok n) (Err e) → ⊥
ok_err n e q = let z : ◌≡◌ {A = ℕ} 0 1 = cc in omega arith

err_ok : (n : Name) (e : Refusal) → ◌≡◌ {A = Result Name Refusal} (Err e) (Ok n) → ⊥
err_ok n e q = let z : ◌≡◌ {A = ℕ} 0 1 = cc in omega arith

ok_same : (m n : Name) → ◌≡◌ {A = Result Name Refusal} (Ok m) (Ok n) → m ≡ n
ok_same m n q = cc

err_same : (d e : Refusal) → ◌≡◌ {A = Result Name Refusal} (Err d) (Err e) → d ≡ e
err_same d e q = cc

module _ (k : ℕ) (h : House) where
  bad : Bool
  bad = eqb k 0 || leb 16 h.0

  pub named_ok : (n : Name) → Ok n ≡ named k h → (n ≡ name (k * 16 + h.0)) × (k < 268435456)
  named_ok n e = ⊎_elim
      (λ t. absurd (ok_err n Malformed (e ∙ cond-true (eqb k 0 || leb 16 h.0) (Err Malformed) (cond (leb 268435456 k) (Err OutOfNumbers) (Ok (name (k * 16 + h.0)))) t)))
      (λ f. let e2 : Ok n ≡ cond (leb 268435456 k) (Err OutOfNumbers) (Ok (name (k * 16 + h.0))) = e ∙ cond-false (eqb k 0 || leb 16 h.0) (Err Malformed) (cond (leb 268435456 k) (Err OutOfNumbers) (Ok (name (k * 16 + h.0)))) f in
      ⊎_elim
      (λ t. absurd (ok_err n OutOfNumbers (e2 ∙ cond-true (leb 268435456 k) (Err OutOfNumbers) (Ok (name (k * 16 + h.0))) t)))
      (λ g. (ok_same n (name (k * 16 + h.0)) (e2 ∙ cond-false (leb 268435456 k) (Err OutOfNumbers) (Ok (name (k * 16 + h.0))) g), leb-false 268435456 k g))
      (cases_Bool (leb 268435456 k)))
      (cases_Bool (eqb k 0 || leb 16 h.0))

  pub named_err : (d : Refusal) → (k ≡ 0 → ⊥) → h.0 < 16 → Err d ≡ named k h → (268435456 ≤ k) × (d ≡ OutOfNumbers)
  named_err d z l e =
      let f : (eqb k 0 || leb 16 h.0) ≡ false = or_from (eqb k 0) (leb 16 h.0) (ne_eqb k 0 z) (lt-leb 16 h.0 l) in
      let e2 : Err d ≡ cond (leb 268435456 k) (Err OutOfNumbers) (Ok (name (k * 16 + h.0))) = e ∙ cond-false (eqb k 0 || leb 16 h.0) (Err Malformed) (cond (leb 268435456 k) (Err OutOfNumbers) (Ok (name (k * 16 + h.0)))) f in
      ⊎_elim
      (λ t. (leb-true 268435456 k t, err_same d OutOfNumbers (e2 ∙ cond-true (leb 268435456 k) (Err OutOfNumbers) (Ok (name (k * 16 + h.0))) t)))
      (λ g. absurd (err_ok (name (k * 16 + h.0)) d (e2 ∙ cond-false (leb 268435456 k) (Err OutOfNumbers) (Ok (name (k * 16 + h.0))) g)))
      (cases_Bool (leb 268435456 k))

above_push : (x n : ℕ) (xs : List ℕ) → above x xs ≡ true → x < n → above x (xs ++ n ∷ []) ≡ true
above_push x n [] a h = and_from (ltb x n) true (lt-ltb x n h) refl
above_push x n (y ∷ xs) a h =
    let p = and_parts (ltb x y) (above x xs) a in
    and_from (ltb x y) (above x (xs ++ n ∷ [])) p.0 (above_push x n xs p.1 h)

-- what was made here before has a smaller name
own_below : (home made x k : ℕ) → is_own home made x ≡ true → made < k → x < k * 16 + home
own_below home made x k o h =
    let p = and_parts (eqb (x % 16) home && leb 1 (x / 16)) (leb (x / 16) made) o in
    let q = and_parts (eqb (x % 16) home) (leb 1 (x / 16)) p.0 in
    let a = eqb-true (x % 16) home q.0 in
    let b = leb-true (x / 16) made p.1 in
    omega arith

pub rising_made : (home made k : ℕ) (xs : List ℕ) → rising xs ≡ true → all_own home made xs ≡ true → made < k → rising (xs ++ (k * 16 + home) ∷ []) ≡ true
rising_made home made k [] r o h = refl
rising_made home made k (x ∷ xs) r o h =
    let p = and_parts (above x xs) (rising xs) r in
    let q = and_parts (is_own home made x) (all_own home made xs) o in
    and_from (above x (xs ++ (k * 16 + home) ∷ [])) (rising (xs ++ (k * 16 + home) ∷ []))
    (above_push x (k * 16 + home) xs p.0 (own_below home made x k q.0 h))
    (rising_made home made k xs p.1 q.1 h)

own_new : (home k : ℕ) → home < 16 → 1 ≤ k → is_own home k (k * 16 + home) ≡ true
own_new home k l h =
    let a : (k * 16 + home) % 16 ≡ home = omega arith in
    let b : (k * 16 + home) / 16 ≡ k = omega arith in
    and_from (eqb ((k * 16 + home) % 16) home && leb 1 ((k * 16 + home) / 16)) (leb ((k * 16 + home) / 16) k)
    (and_from (eqb ((k * 16 + home) % 16) home) (leb 1 ((k * 16 + home) / 16)) (eq-eqb ((k * 16 + home) % 16) home a) (le-leb 1 ((k * 16 + home) / 16) (omega arith)))
    (le-leb ((k * 16 + home) / 16) k (omega arith))

own_later : (home made k x : ℕ) → made ≤ k → is_own home made x ≡ true → is_own home k x ≡ true
own_later home made k x h o =
    let p = and_parts (eqb (x % 16) home && leb 1 (x / 16)) (leb (x / 16) made) o in
    let b = leb-true (x / 16) made p.1 in
    and_from (eqb (x % 16) home && leb 1 (x / 16)) (leb (x / 16) k) p.0 (le-leb (x / 16) k (omega arith))

pub own_made : (home made k : ℕ) (xs : List ℕ) → home < 16 → made < k → all_own home made xs ≡ true → all_own home k (xs ++ (k * 16 + home) ∷ []) ≡ true
own_made home made k [] l h o = and_from (is_own home k (k * 16 + home)) true (own_new home k l (omega arith)) refl
own_made home made k (x ∷ xs) l h o =
    let q = and_parts (is_own home made x) (all_own home made xs) o in
    and_from (is_own home k x) (all_own home k (xs ++ (k * 16 + home) ∷ [])) (own_later home made k x (omega arith) q.0) (own_made home made k xs l h q.1)
