use Rattle.std.proofs.Common.{refl}
use Rattle.lines.proofs.table.Lines.new.Goals as goal

pub returns-clause-empty : goal.returns-clause-empty
returns-clause-empty c = refl
