use Rattle.lines.specs.Lists.{row_of}
use Rattle.lines.proofs.Gathering.{Gathering}
use Rattle.lines.proofs.table.Lines.objects_where.Given as goal

abbrev pub invariant-loop-i : goal.invariant-loop-i
invariant-loop-i g l = Gathering (goal.F-post g l.takes) (row_of l.self) l.i l.count l.into
