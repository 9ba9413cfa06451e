use Rattle.std.proofs.Common.{vec_items, sym, refl, ap, ◌∙◌}
use Rattle.text.specs.Hex.{after}
use Rattle.text.proofs.Hexes.{spelled, after_nothing, even, odd, bad, both, ended}
use Rattle.text.proofs.hex.read_hex.Goals as goal

pub returns-then-not-is_empty : goal.returns-then-not-is_empty
returns-then-not-is_empty c = record { value = sym (odd c.args.digits.now _ c.as_chunks.ensures.back_len c.if-not-is_empty.ensures); odd = λ _. refl }

pub loop-high-init : goal.loop-high-init
loop-high-init c =
    even c.args.digits.now _ c.as_chunks.ensures.back_len c.if-not-is_empty.ensures
    ∙ ap spelled (sym c.as_chunks.ensures.front)
    ∙ sym (after_nothing (spelled c.as_chunks.result.0.now))
    ∙ ap (λ o. after o (spelled c.as_chunks.result.0.now)) (sym c.new-out.ensures.items)

pub returns-in_default : goal.returns-in_default
returns-in_default c =
    record { value = sym (c.loop-high.invariant ∙ bad (vec_items c.loop-high.out) c.as_chunks.result.0.now c.loop-high.high-index c.loop-high-test.true (sym c.in_default.ensures)); odd = λ _. refl }

pub loop-high-preserved : goal.loop-high-preserved
loop-high-preserved c =
    c.loop-high.invariant
    ∙ both (vec_items c.loop-high.out) c.as_chunks.result.0.now c.loop-high.high-index (vec_items c.push.new.self) c.in-Some.byte c.loop-high-test.true (sym c.in-Some.ensures) c.in_ok-push.ensures.items

pub returns : goal.returns
returns c = record { value = sym (c.loop-high.invariant ∙ ended (vec_items c.loop-high.out) c.as_chunks.result.0.now c.loop-high.high-index c.loop-high-test.false); odd = λ _. refl }
