use Rattle.std.proofs.Common.{◌≡◌, sym, ap, subst}
use Rattle.lines.specs.Laws.{Raises}
use Rattle.lines.specs.Listed.{joined}
use Rattle.lines.specs.Lists.{lines, listing}
use Rattle.lines.proofs.Laws.{raises}
use Rattle.lines.specs.Stamping.{heard_from}
use Rattle.lines.proofs.Joining.{joining_none, joining_above, joining_heard, joining_all}
use Rattle.lines.proofs.table.Lines.join.Goals as goal
use Rattle.lines.proofs.table.Lines.join.Goals.{then-is_unheard, else-is_unheard}

pub loop-i-init : goal.loop-i-init
loop-i-init c = joining_none

pub loop-i-preserved : goal.loop-i-preserved
loop-i-preserved c =
    let e = listing c.row-line.result in
    let is = ap listing c.row-line.ensures in
    elim c.if-is_unheard.branch [
      | then-is_unheard w ↦ joining_above c.loop-i.invariant c.loop-i-test.true _ _ w.self-is w.renumber.ensures.numbered w.renumber.ensures.lent e is w.if-is_unheard.ensures
      | else-is_unheard w ↦ joining_heard c.loop-i.invariant c.loop-i-test.true _ w.self-is e is w.if-is_unheard.ensures
    ]

pub returns : goal.returns
returns c =
    let n = c.args.census.0 in
    let heard = heard_from c.args.stamps.now in
    let es = lines c.args.self.now in
    let e : lines c.loop-i.self ≡ joined n heard es = joining_all c.loop-i.invariant c.loop-i-test.false c.loop-i.auto.i-end in
    record { after = e; raises = subst (λ fs. Raises n es fs) (sym e) (raises n heard es); lent = c.loop-i.invariant.lent }
