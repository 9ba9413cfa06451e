use Rattle.std.proofs.Common.{refl, ap, subst, sym}
use Rattle.lines.specs.Lists.{listing, Ready, Pushed}
use Rattle.lines.proofs.Closing.{turn_none, turn_gone, turn_kept, turn_ready, turn_all}
use Rattle.lines.proofs.table.Lines.retain.Goals as goal
use Rattle.lines.proofs.table.Lines.retain.Goals.{then-stays, else-stays}

pub loop-i-init : goal.loop-i-init
loop-i-init g c = turn_none refl

pub push-requires : goal.push-requires
push-requires g c =
    let a = c.args.self.now in
    subst (Ready c.loop-i.self) (sym (ap listing c.row-line.ensures)) (turn_ready c.loop-i.invariant c.loop-i-test.true a.within a.own a.far)

pub loop-i-preserved : goal.loop-i-preserved
loop-i-preserved g c =
    let a = c.args.self.now in
    elim c.if-stays.branch [
      | then-stays w ↦
          turn_kept c.loop-i.invariant c.loop-i-test.true _ _ w.self-is _ c.row-line.ensures w.if-stays.ensures
          (subst (λ e. Pushed c.loop-i.self e w.push.new.self) (ap listing c.row-line.ensures) w.push.ensures.pushed)
          w.push.ensures.lent a.within a.alone
      | else-stays w ↦ turn_gone c.loop-i.invariant c.loop-i-test.true _ w.self-is _ c.row-line.ensures w.if-stays.ensures
    ]

pub returns-clause-after : goal.returns-clause-after
returns-clause-after g c = λ p decided. turn_all c.loop-i.invariant c.loop-i-test.false c.loop-i.auto.i-end p decided
