-- A message after each house, one house more.
use Rattle.std.proofs.Common.{◌≡◌, ℕ, suc, ◌+◌, List, ◌++◌, refl, ap, ◌∙◌, sym, append_assoc, append-nil, arith}
use Rattle.wire.specs.Names.{house}
use Rattle.text.specs.Output.{send_line}
use Rattle.console.specs.Forms.{sends_to_all}

pub sends_none : (bs out : List ℕ) → out ≡ out ++ sends_to_all 0 bs
unfolding sends_to_all
sends_none bs out = sym (append-nil out)

sends_next : (n : ℕ) (bs : List ℕ) → sends_to_all (suc n) bs ≡ sends_to_all n bs ++ send_line (house n) bs
unfolding sends_to_all
sends_next n bs = refl

-- what was printed for n houses, and then the line of the next
pub sends_more : (n : ℕ) (bs out before after : List ℕ) → before ≡ out ++ sends_to_all n bs → after ≡ before ++ send_line (house n) bs → after ≡ out ++ sends_to_all (n + 1) bs
sends_more n bs out before after e f =
    let s : suc n ≡ n + 1 = omega arith in
    f ∙ ap (λ t. t ++ send_line (house n) bs) e ∙ append_assoc out (sends_to_all n bs) (send_line (house n) bs) ∙ ap (λ t. out ++ t) (sym (sends_next n bs)) ∙ ap (λ k. out ++ sends_to_all k bs) s
