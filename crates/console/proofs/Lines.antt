-- The lines of a list as text, one line more.
use Rattle.std.proofs.Common.{◌≡◌, ℕ, zero, suc, ◌+◌, ◌<◌, List, [], ◌∷◌, ◌++◌, length, take, Some, None, ap, ◌∙◌, sym, arith}
use Rattle.std.specs.Prelude.{flat_map}
use Rattle.std.proofs.lemmas.List.{flat_map_more}
use Rattle.std.proofs.lemmas.Option.{none-some, same_Some}
use Rattle.lines.specs.declared.line.Line.{Line}
use Rattle.lines.specs.Listed.{Listed}
use Rattle.lines.specs.Lists.{line_at, listing, shown}
use Rattle.console.specs.Showing.{line_text}

-- there is a line at each place of the list
pub line_there : (i : ℕ) (es : List Listed) → i < length es → line_at i es ≡ None → ⊥
unfolding line_at
line_there i [] h e = absurd (omega arith)
line_there zero (x ∷ es) h e = none-some (shown x) (sym e)
line_there (suc i) (x ∷ es) h e = line_there i es (omega arith) e

take_line : (i : ℕ) (es : List Listed) (x : Line) → line_at i es ≡ Some x → take (suc i) es ≡ take i es ++ listing x ∷ []
unfolding line_at
take_line i [] x e = absurd (none-some x e)
take_line zero (y ∷ es) x e = ap (λ z. listing z ∷ []) (same_Some (shown y) x e)
take_line (suc i) (y ∷ es) x e = ap (λ t. y ∷ t) (take_line i es x e)

-- what was printed of the first i lines, and then the text of the next
pub line_more : (i : ℕ) (es : List Listed) (x : Line) (out before after : List ℕ) → line_at i es ≡ Some x → before ≡ out ++ flat_map line_text (take i es) → after ≡ before ++ line_text (listing x) → after ≡ out ++ flat_map line_text (take (i + 1) es)
line_more i es x out before after there e f =
    let s : suc i ≡ i + 1 = omega arith in
    f ∙ ap (λ t. t ++ line_text (listing x)) e ∙ flat_map_more line_text out (take i es) (listing x) ∙ ap (λ t. out ++ flat_map line_text t) (sym (take_line i es x there) ∙ ap (λ k. take k es) s)
