use Rattle.std.proofs.Common.{◌≡◌, ◌+◌, Some, sym, ap, ◌∙◌, arith}
use Rattle.lines.specs.Lists.{shown, row_of}
use Rattle.lines.proofs.Rows.{line_at_none, line_at_row}
use Rattle.lines.proofs.table.Lines.line.Goals as goal

pub returns-then-i-self : goal.returns-then-i-self
returns-then-i-self c = sym (line_at_none _ 0 _ c.args.i c.if-i-self.true)

pub returns : goal.returns
returns c =
    let t = c.args.self.now in
    let z : 0 + c.args.i ≡ c.args.i = omega arith in
    ap Some c.row.ensures ∙ sym (line_at_row (row_of t) 0 t.len c.args.i c.if-i-self.false ∙ ap (λ k. Some (shown (row_of t k))) z)
