use Rattle.std.proofs.Common.{rules}
use Rattle.census.proofs.Laws.{laws}
use Rattle.census.proofs.standing.Standing.new.Goals as goal

pub returns : goal.returns
returns c = record { value = search rules; lawful = laws }
