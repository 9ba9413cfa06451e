use Rattle.std.proofs.Common.{rules}
use Rattle.rounds.proofs.Laws.{laws}
use Rattle.rounds.proofs.desk.Desk.new.Goals as goal

pub returns : goal.returns
returns c = record { value = search rules; lawful = laws }
