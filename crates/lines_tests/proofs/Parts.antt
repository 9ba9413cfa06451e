-- The numbers of a part one by one.
use Rattle.std.proofs.Common.{◌≡◌, ℕ, ◌-◌, ◌%◌, ◌<◌, ◌≤◌, true, false, ◌&&◌, eqb, ltb, List, [], ◌∷◌, length, take, drop, sym, refl, ap, ◌∙◌, arith}
use Rattle.std.proofs.lemmas.List.{take_all}
use Rattle.std.proofs.lemmas.Bool.{eq-eqb, ne_eqb, lt-ltb, le-ltb, and_left, and_right}
use Rattle.wire.specs.Format.{number, numbers, rising, u32_at}

pub numbers_more : (xs : List ℕ) → 4 ≤ length xs → numbers xs ≡ u32_at xs 0 ∷ numbers (take (length xs - 4) (drop 4 xs))
unfolding numbers
numbers_more [] h = absurd (omega arith)
numbers_more (a ∷ []) h = absurd (omega arith)
numbers_more (a ∷ b ∷ []) h = absurd (omega arith)
numbers_more (a ∷ b ∷ c ∷ []) h = absurd (omega arith)
numbers_more (a ∷ b ∷ c ∷ d ∷ rest) h =
    let f : take (length (a ∷ b ∷ c ∷ d ∷ rest) - 4) rest ≡ rest = take_all _ rest (omega arith) in
    ap (λ r. number a b c d ∷ numbers r) (sym f)

pub numbers_none : (xs : List ℕ) → length xs < 4 → numbers xs ≡ []
unfolding numbers
numbers_none [] h = refl
numbers_none (a ∷ []) h = refl
numbers_none (a ∷ b ∷ []) h = refl
numbers_none (a ∷ b ∷ c ∷ []) h = refl
numbers_none (a ∷ b ∷ c ∷ d ∷ rest) h = absurd (omega arith)

module _ (j low o : ℕ) (xs : List ℕ) (h : 4 ≤ length xs) (is : o ≡ u32_at xs 0) where
  rising_step : rising j low (numbers xs) ≡ (ltb low o && (eqb (o % 16) j && rising j o (numbers (take (length xs - 4) (drop 4 xs)))))
  unfolding rising
  rising_step = ap (rising j low) (numbers_more xs h) ∙ rw is

  pub rising_low : o ≤ low → rising j low (numbers xs) ≡ false
  rising_low e = rising_step ∙ and_left _ _ (le-ltb low o e)

  pub rising_far : (o % 16 ≡ j → ⊥) → rising j low (numbers xs) ≡ false
  rising_far e = rising_step ∙ and_right _ _ (and_left _ _ (ne_eqb (o % 16) j e))

  pub rising_more : low < o → o % 16 ≡ j → rising j low (numbers xs) ≡ rising j o (numbers (take (length xs - 4) (drop 4 xs)))
  rising_more e f = rising_step ∙ rw (lt-ltb low o e, eq-eqb (o % 16) j f)

pub rising_none : (j low : ℕ) (xs : List ℕ) → length xs < 4 → rising j low (numbers xs) ≡ true
unfolding rising
rising_none j low xs h = ap (rising j low) (numbers_none xs h)
