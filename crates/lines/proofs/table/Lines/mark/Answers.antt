use Rattle.std.proofs.Common.{◌∙◌}
use Rattle.lines.proofs.Marks.{mark_none, mark_found, marked_new, marked_old}
use Rattle.lines.proofs.table.Lines.mark.Goals as goal

pub returns-in_default-clause-value : goal.returns-in_default-clause-value
returns-in_default-clause-value c = mark_none c.args.self.now c.args.census.0 c.args.object.0 c.args.holder.0 c.in_default.ensures.place

pub returns-in_default-clause-after : goal.returns-in_default-clause-after
returns-in_default-clause-after c = marked_new c.args.self.now c.args.census.0 c.args.object.0 c.args.holder.0 c.in_default.ensures.place

pub returns-clause-value : goal.returns-clause-value
returns-clause-value c = c.renumber.ensures.value ∙ mark_found c.args.self.now c.args.census.0 c.args.object.0 c.args.holder.0 c.in-Some.at c.in-Some.ensures.place

pub returns-clause-after : goal.returns-clause-after
returns-clause-after c =
    marked_old c.args.self.now c.args.census.0 c.args.object.0 c.args.holder.0 c.renumber.new.self c.in-Some.at c.in-Some.ensures.place c.in-Some.ensures.within c.renumber.ensures.numbered
