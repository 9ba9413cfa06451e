use Rattle.lines.specs.Stamping.{heard_from}
use Rattle.lines.proofs.Joining.{Joining}
use Rattle.lines.proofs.table.Lines.join.Given as goal

abbrev pub invariant-loop-i : goal.invariant-loop-i
invariant-loop-i l = Joining l.census.0 (heard_from l.stamps) l.initial.self l.i l.self
