use Rattle.std.proofs.Common.{◌<◌, sym, ap, subst, ◌∙◌, string_bytes}
use Rattle.store.specs.Stores.{house_in}
use Rattle.console.proofs.Lines.{line_there, line_more}
use Rattle.console.proofs.showing.write_lines.Goals as goal
use Rattle.console.proofs.showing.write_lines.Goals.{in-Some+in_ok-write_line, in_default}

pub loop-i-preserved : goal.loop-i-preserved
loop-i-preserved c = elim c.match-line.branch [
  | in-Some+in_ok-write_line w ↦ line_more c.loop-i.i (house_in c.args.store.now).list w.in-Some.line (string_bytes c.args.out.now) (string_bytes c.loop-i.out) (string_bytes c.match-line.out) (sym c.line.ensures ∙ w.in-Some.is) c.loop-i.invariant (ap string_bytes w.out-is ∙ w.in_ok-write_line.ensures)
  | in_default w ↦ absurd (line_there c.loop-i.i (house_in c.args.store.now).list (subst (λ n. c.loop-i.i < n) c.line_count-i-end.ensures c.loop-i-test.true) (sym c.line.ensures ∙ w.in_default.is))
]
