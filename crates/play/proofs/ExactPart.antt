-- What the collector's entries leave, and how much they send, where only a part of what was sent is left: as where all of it is.
use Rattle.std.proofs.Common.{◌≡◌, ℕ, zero, suc, ◌+◌, ◌*◌, ◌≤◌, List, ◌++◌, length, sym, refl, ap, ◌∙◌, subst, arith, length-append}
use Rattle.rules.specs.House.{House}
use Rattle.play.specs.Play.{World, plays}
use Rattle.play.specs.Settle.{settling}
use Rattle.play.specs.Apart.{PartOf}
use Rattle.play.specs.Exact.{Settles}
use Rattle.play.specs.Bound.{line_count, most}
use Rattle.play.specs.ExactPart.{Beside, AlwaysSettlesPart, OnlyCleansPart, BoundedPart, FewPassesPart, FewLinesPart}
use Rattle.play.proofs.FairPump.{only_cleans}
use Rattle.play.proofs.Exactness.{always_settles}
use Rattle.play.proofs.Bounds.{bounded, few_passes, few_lines}
use Rattle.play.proofs.Shifted.{world, Shifted, shifted_count, shifted_cleaning, shifted_settling, beside_first, settles_alike}

-- how many lines there are is read off the houses
lines_same : (k : ℕ) (h : ℕ → House) (s t : List (List ℕ)) → line_count k (world h s) ≡ line_count k (world h t)
lines_same zero h s t = refl
lines_same (suc k) h s t = ap (λ (z : ℕ). z + length (h k).list) (lines_same k h s t)

-- with what is left of the messages, and with all of them
module _ (n : ℕ) (w : World) (p : PartOf n w) where
  abbrev whole : World
  whole = world w.house p.all

  first : Beside w.sent p.all w whole
  first = beside_first n w.sent p.all w.house

  both : Beside w.sent p.all (plays n (settling n w) w) (plays n (settling n whole) whole)
  both = settles_alike n w.house w.sent p.all

  shifted : Shifted (length w.sent) (length p.all) (settling n w) (settling n whole)
  shifted = shifted_settling n w.sent p.all w whole first

pub settles_part : AlwaysSettlesPart
settles_part n some few w p low =
    let b = both n w p in
    record {
      all = p.all;
      new = b.new;
      reached = p.reached;
      among = p.among;
      grown = ap (λ (u : World). u.sent) b.left;
      settles = subst (λ (h : ℕ → House). Settles n (whole n w p) (world h (p.all ++ b.new))) (sym (ap (λ (u : World). u.house) b.left))
          (subst (Settles n (whole n w p)) b.right (always_settles n some few (whole n w p) p.reached low));
    }

pub cleans_part : OnlyCleansPart
cleans_part n few w p = shifted_cleaning n w.sent p.all (shifted n w p) w (whole n w p) (first n w p) (only_cleans n few (whole n w p) p.reached)

pub bounded_part : BoundedPart
bounded_part n some few w p low =
    let b = both n w p in
    less _ _ _ _ _ _ _ (ap (λ (u : World). length u.sent) b.left ∙ length-append w.sent b.new) (ap (λ (u : World). length u.sent) b.right ∙ length-append p.all b.new) (bounded n some few (whole n w p) p.reached low)
    (ap (most n) (lines_same n w.house p.all w.sent))
  where
    less : (a b s t x c d : ℕ) → a ≡ s + x → b ≡ t + x → b ≤ t + c → c ≡ d → a ≤ s + d
    less a b s t x c d e f g h = omega arith

pub passes_part : FewPassesPart
passes_part n some few w p low =
    let z = few_passes n some few (whole n w p) p.reached low in
    less _ _ _ _ (shifted_count _ (shifted n w p)) z (ap (λ (k : ℕ). n * suc k) (lines_same n w.house p.all w.sent))
  where
    less : (a b c d : ℕ) → a ≡ b → b ≤ c → c ≡ d → a ≤ d
    less a b c d e f g = omega arith

pub lines_part : FewLinesPart
lines_part n few w p = subst (λ (k : ℕ). k ≤ 2048 * n) (lines_same n w.house p.all w.sent) (few_lines n few (whole n w p) p.reached)
