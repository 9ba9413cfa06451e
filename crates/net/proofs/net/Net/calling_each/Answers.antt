use Rattle.std.proofs.Common.{rules, is_ok}
use Rattle.play.specs.Settle.{calling}
use Rattle.net.proofs.SettlingParts.{along_each, along_off, each_off}
use Rattle.net.proofs.net.Net.calling_each.Goals as goal

pub loop-at-preserved : goal.loop-at-preserved
loop-at-preserved c = along_each (λ n i v. calling n i c.args.call v) c.loop-at.at c.args.self.now c.loop-at.self c.calling.new.self c.loop-at.invariant c.in_ok-calling.ensures

pub returns-in_err-calling : goal.returns-in_err-calling
returns-in_err-calling c =
    along_off (is_ok c.from_residual.result) _ c.args.self.now c.calling.new.self (search rules)
    (each_off (λ n i v. calling n i c.args.call v) c.loop-at.at c.args.self.now c.loop-at.self c.calling.new.self (search rules) c.loop-at.invariant c.in_err-calling.ensures)
