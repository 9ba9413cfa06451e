use Rattle.std.proofs.Common.{◌≡◌, not, sym, ◌∙◌, subst, rules, tests}
use Rattle.wire.specs.Format.{numbers}
use Rattle.lines.specs.Laws.{Again, Survives}
use Rattle.lines.specs.Listed.{goes, heard_of}
use Rattle.lines.specs.Lists.{lines}
use Rattle.lines.proofs.Laws.{again, survives}
use Rattle.lines.proofs.Closing.{heard_kept}
use Rattle.lines.proofs.Numbers.{rising_ascends}
use Rattle.lines.proofs.table.Lines.hear.Goals as goal

pub retain-requires : goal.retain-requires
retain-requires c = let up = rising_ascends _ _ _ c.requires in search rules

pub returns : goal.returns
returns c =
    let j = c.args.from.0 in
    let held = numbers c.args.objects.now in
    let upto = c.args.stamp.0 in
    let es = lines c.args.self.now in
    let e : lines c.retain.new.self ≡ heard_of j held upto es = c.retain.ensures.after (λ e. not (goes j held upto e)) (λ e b k. search (rules, tests)) ∙ heard_kept j held upto es in
    record {
      after = e;
      again = subst (Again j held upto) (sym e) (again j held upto es);
      survives = subst (Survives upto es) (sym e) (survives j held upto es);
      lent = c.retain.ensures.lent;
    }
