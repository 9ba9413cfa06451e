use Rattle.std.proofs.Common.{true, ◌∙◌, rules}
use Rattle.lines.specs.Lists.{lines}
use Rattle.lines.proofs.Gathering.{names_listed}
use Rattle.lines.proofs.table.Lines.objects.Goals as goal

pub returns-clause-after : goal.returns-clause-after
returns-clause-after c = c.objects_where.ensures.after (λ e. true) (λ e b k. search rules) ∙ names_listed (lines c.args.self.now)
