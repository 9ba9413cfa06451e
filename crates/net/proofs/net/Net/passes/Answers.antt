use Rattle.std.proofs.Common.{rules, is_ok, ◌≡◌, ◌+◌, ◌-◌, ◌*◌, ℕ, arith, subst}
use Rattle.play.specs.Settle.{passes}
use Rattle.net.proofs.SettlingParts.{Rest}
use Rattle.net.proofs.SettlingParts.{along_off, passes_off, passes_end, passes_on}
use Rattle.net.proofs.net.Net.passes.Goals as goal

pub returns-then-marked-before : goal.returns-then-marked-before
returns-then-marked-before c =
    passes_end (λ n w. passes (2048 * n + 1) n w) (2048 * c.from.result + 1 - c.loop.counter) c.args.self.now c.loop.self c.calling_each.new.self c.loop.invariant (search rules) c.in_ok-calling_each.ensures c.marked-before.result c.marked.result
    c.marked-before.ensures c.marked.ensures c.if-marked-before.true

pub loop-preserved : goal.loop-preserved
loop-preserved c =
    let left = 2048 * c.from.result + 1 - c.loop.counter in
    let less : left - 1 ≡ 2048 * c.from.result + 1 - (c.loop.counter + 1) = omega arith in
    subst (λ (k : ℕ). Rest (λ n w. passes (2048 * n + 1) n w) (λ n w. passes k n w) c.args.self.now c.calling_each.new.self) less
    (passes_on (λ n w. passes (2048 * n + 1) n w) left c.args.self.now c.loop.self c.calling_each.new.self c.loop.invariant (search rules) c.in_ok-calling_each.ensures c.marked-before.result c.marked.result c.marked-before.ensures c.marked.ensures c.if-marked-before.false)

pub returns-in_err-calling_each : goal.returns-in_err-calling_each
returns-in_err-calling_each c =
    along_off (is_ok c.from_residual.result) _ c.args.self.now c.calling_each.new.self (search rules)
    (passes_off (λ n w. passes (2048 * n + 1) n w) (2048 * c.from.result + 1 - c.loop.counter) c.args.self.now c.loop.self c.calling_each.new.self c.loop.invariant (search rules) c.in_err-calling_each.ensures)
