use Rattle.std.proofs.Common.{◌≡◌, ◌==◌, sym, ◌∙◌, subst, rules, tests}
use Rattle.lines.specs.Laws.{LeavesUnheard}
use Rattle.lines.specs.Listed.{swept}
use Rattle.lines.specs.Lists.{lines}
use Rattle.lines.proofs.Laws.{leaves_unheard}
use Rattle.lines.proofs.Closing.{swept_kept}
use Rattle.lines.proofs.table.Lines.sweep.Goals as goal

pub returns : goal.returns
returns c =
    let n = c.args.census.0 in
    let es = lines c.args.self.now in
    let e : lines c.retain.new.self ≡ swept n es = c.retain.ensures.after (λ e. e.census == n) (λ e b k. search (rules, tests)) ∙ swept_kept n es in
    record { after = e; leaves = subst (LeavesUnheard n es) (sym e) (leaves_unheard n es); lent = c.retain.ensures.lent }
