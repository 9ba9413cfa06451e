use Rattle.std.proofs.Common.{arith}
use Rattle.lines.proofs.Gathering.{gathering_more, gathering_same, gathering_all}
use Rattle.lines.proofs.table.Lines.objects_where.Goals as goal
use Rattle.lines.proofs.table.Lines.objects_where.Goals.{then-takes, else-takes}

pub loop-i-preserved : goal.loop-i-preserved
loop-i-preserved g c =
    let t = c.args.self.now in
    elim c.if-takes.branch [
      | then-takes w ↦ rw (w.into-is, w.count-is) (gathering_more c.loop-i.invariant _ c.row-line.ensures (omega (arith, t.most, t.within, c.loop-i-test.true)) w.if-takes.ensures)
      | else-takes w ↦ rw (w.into-is, w.count-is) (gathering_same c.loop-i.invariant _ c.row-line.ensures w.if-takes.ensures)
    ]

pub returns-clause-after : goal.returns-clause-after
returns-clause-after g c = λ p decided. gathering_all c.args.self.now.len c.loop-i.invariant c.loop-i-test.false c.loop-i.auto.i-end p decided
