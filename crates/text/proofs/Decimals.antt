-- Digits one by one, and numbers that are out of every range.
use Rattle.std.proofs.Common.{◌≡◌, ℕ, suc, ◌+◌, ◌-◌, ◌*◌, ◌<◌, ◌≤◌, min, true, false, cond, List, [], ◌∷◌, length, get_or, drop, Some, None, refl, ap, ◌∙◌, arith, drop-cons}
use Rattle.std.proofs.lemmas.Bool.Decides.{nat_tests}
use native.Mathlib.Nat.{min-eq_left}
use Rattle.std.proofs.lemmas.List.{drop_all}
use Rattle.std.specs.Char.{IsDigitOf, NotDecimalDigitIn}
use Rattle.text.specs.Numbers.{is_digit, digits, capped, most}

more : (a b d : ℕ) → min a most ≡ min b most → min (a * 10 + d) most ≡ min (b * 10 + d) most
more a b d e = omega arith

least : (a m : ℕ) → m ≡ min a most → min a most ≡ min m most
least a m e = omega arith

same_capped : (cs : List ℕ) (a b : ℕ) → min a most ≡ min b most → capped (digits a cs) ≡ capped (digits b cs)
unfolding digits
same_capped [] a b e = ap Some e
same_capped (c ∷ cs) a b e =
    elim (is_digit c) as (λ t. capped (cond t (digits (a * 10 + (c - 48)) cs) None) ≡ capped (cond t (digits (b * 10 + (c - 48)) cs) None))
    [ true ↦ same_capped cs (a * 10 + (c - 48)) (b * 10 + (c - 48)) (more a b (c - 48) e) | false ↦ refl ]

digits_cons : (n c : ℕ) (cs : List ℕ) → digits n (c ∷ cs) ≡ cond (is_digit c) (digits (n * 10 + (c - 48)) cs) None
unfolding digits
digits_cons n c cs = refl

module _ (w : List ℕ) (i n : ℕ) where
  step : i < length w → digits n (drop i w) ≡ cond (is_digit (get_or w i 0)) (digits (n * 10 + (get_or w i 0 - 48)) (drop (i + 1) w)) None
  step h =
      let place : suc i ≡ i + 1 = omega arith in
      ap (digits n) (drop-cons w i 0 h ∙ ap (λ j. get_or w i 0 ∷ drop j w) place) ∙ digits_cons n (get_or w i 0) (drop (i + 1) w)

  pub digits_bad : i < length w → is_digit (get_or w i 0) ≡ false → capped (digits n (drop i w)) ≡ None
  digits_bad h e = let f : digits n (drop i w) ≡ None = step h ∙ rw e in ap capped f

  pub digits_more : (m : ℕ) → i < length w → is_digit (get_or w i 0) ≡ true → m ≡ min (n * 10 + (get_or w i 0 - 48)) most → capped (digits n (drop i w)) ≡ capped (digits m (drop (i + 1) w))
  digits_more m h is e =
      let f : digits n (drop i w) ≡ digits (n * 10 + (get_or w i 0 - 48)) (drop (i + 1) w) = step h ∙ rw is in
      ap capped f ∙ same_capped (drop (i + 1) w) (n * 10 + (get_or w i 0 - 48)) m (least _ m e)

  pub digits_end : length w ≤ i → n ≤ most → capped (digits n (drop i w)) ≡ Some n
  unfolding digits
  digits_end h l = ap (λ cs. capped (digits n cs)) (drop_all i w h) ∙ ap Some (min-eq_left l)

-- what the library says of a byte that is no digit, and of one that is
pub no_digit : (c : ℕ) → NotDecimalDigitIn 10 c → is_digit c ≡ false
no_digit c h = grind (arith, nat_tests)

pub a_digit : (c d : ℕ) → IsDigitOf c d → d < 10 → (is_digit c ≡ true) × (d ≡ c - 48)
a_digit c d h l = grind (arith, nat_tests)
