use Rattle.lines.proofs.Closing.{Turn}
use Rattle.lines.proofs.table.Lines.retain.Given as goal

abbrev pub invariant-loop-i : goal.invariant-loop-i
invariant-loop-i g l = Turn (goal.F-post g l.stays) l.initial.self l.len l.i l.self
