use Rattle.std.proofs.Common.{vec_items, sym, ap, ◌∙◌}
use Rattle.census.specs.Shown.{names_in}
use Rattle.census.proofs.Tabled.{names_told}
use Rattle.census.proofs.standing.Standing.told.Goals as goal

pub returns-clause-names : goal.returns-clause-names
returns-clause-names c = ap names_in c.entries.ensures.value ∙ sym (names_told (vec_items c.args.self.now.told.entries))
