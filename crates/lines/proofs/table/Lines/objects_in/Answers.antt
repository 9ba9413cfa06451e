use Rattle.std.proofs.Common.{◌==◌, ◌∙◌, rules, tests}
use Rattle.lines.specs.Lists.{lines}
use Rattle.lines.proofs.Gathering.{names_in}
use Rattle.lines.proofs.table.Lines.objects_in.Goals as goal

pub returns-clause-after : goal.returns-clause-after
returns-clause-after c = c.objects_where.ensures.after (λ e. e.census == c.args.census.0) (λ e b k. search (rules, tests)) ∙ names_in c.args.census.0 (lines c.args.self.now)
