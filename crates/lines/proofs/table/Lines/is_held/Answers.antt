use Rattle.std.proofs.Common.{◌∙◌}
use Rattle.lines.proofs.Marks.{held_none, held_found}
use Rattle.lines.proofs.table.Lines.is_held.Goals as goal

pub returns-in_default : goal.returns-in_default
returns-in_default c = held_none c.args.self.now c.args.census.0 c.args.object.0 c.args.holder.0 c.in_default.ensures.place

pub returns : goal.returns
returns c = c.eq.ensures ∙ held_found c.args.self.now c.args.census.0 c.args.object.0 c.args.holder.0 c.in-Some.at c.in-Some.ensures.place
