use Rattle.std.proofs.Common.{rules, false, ◌+◌, ◌*◌, is_ok}
use Rattle.play.specs.Settle.{and_then, passes, rounding}
use Rattle.net.specs.Settling.{Script}
use Rattle.net.proofs.SettlingParts.{along_then, along_front, along_off}
use Rattle.net.proofs.net.Net.complete.Goals as goal

abbrev told : Script
told n w = passes (2048 * n + 1) n w

abbrev round : Script
round n w = rounding n w

abbrev rounds : Script
rounds n w = and_then n w (rounding n w) (λ u. rounding n u)

pub returns : goal.returns
returns c =
    let r = is_ok c.calling-2.result in
    along_then r told rounds c.args.self.now c.passes.new.self c.calling-2.new.self c.in_ok-passes.ensures (along_then r round round c.passes.new.self c.calling.new.self c.calling-2.new.self c.in_ok-calling.ensures c.calling-2.ensures)

pub returns-in_err-passes : goal.returns-in_err-passes
returns-in_err-passes c = along_off (is_ok c.from_residual.result) _ c.args.self.now c.passes.new.self (search rules) (along_front told rounds c.args.self.now c.passes.new.self c.in_err-passes.ensures)

pub returns-in_err-calling : goal.returns-in_err-calling
returns-in_err-calling c =
    along_off (is_ok c.from_residual-in_err-calling.result) _ c.args.self.now c.calling.new.self (search rules)
    (along_then false told rounds c.args.self.now c.passes.new.self c.calling.new.self c.in_ok-passes.ensures (along_front round round c.passes.new.self c.calling.new.self c.in_err-calling.ensures))
