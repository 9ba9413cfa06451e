use Rattle.std.proofs.Common.{rules, is_ok, ◌+◌, ◌-◌}
use Rattle.play.specs.Settle.{pump, deliveries}
use Rattle.net.specs.Nets.{count, world}
use Rattle.net.proofs.SettlingParts.{along_off, rest_off, rest_step, rest_end, pump_more}
use Rattle.play.proofs.SettledWord.{pump_off}
use Rattle.net.proofs.net.Net.pump.Goals as goal

pub returns-else-next-message_count : goal.returns-else-next-message_count
returns-else-next-message_count c =
    rest_end (λ n w. pump c.args.most n c.args.from w) (λ n w. pump c.loop-left.left n c.loop-left.next w) c.args.self.now c.loop-left.self
    (pump_off c.loop-left.left (count c.args.self.now) c.loop-left.next (world c.loop-left.self) (search rules)) c.loop-left.invariant

pub loop-left-preserved : goal.loop-left-preserved
loop-left-preserved c =
    rest_step (λ n w. pump c.args.most n c.args.from w) (λ n w. pump c.loop-left.left n c.loop-left.next w) (λ n w. deliveries n c.loop-left.next w) (λ n w. pump (c.loop-left.left - 1) n (c.loop-left.next + 1) w)
    c.args.self.now c.loop-left.self c.deliver_message.new.self c.loop-left.invariant c.in_ok-deliver_message.ensures
    (pump_more c.loop-left.left (count c.args.self.now) c.loop-left.next (world c.loop-left.self) c.loop-left-test.true (search rules))

pub returns-in_err-deliver_message : goal.returns-in_err-deliver_message
returns-in_err-deliver_message c =
    along_off (is_ok c.from_residual.result) _ c.args.self.now c.deliver_message.new.self (search rules)
    (rest_off (λ n w. pump c.args.most n c.args.from w) (λ n w. pump c.loop-left.left n c.loop-left.next w) (λ n w. deliveries n c.loop-left.next w) (λ n w. pump (c.loop-left.left - 1) n (c.loop-left.next + 1) w)
    c.args.self.now c.loop-left.self c.deliver_message.new.self c.loop-left.invariant c.in_err-deliver_message.ensures
    (pump_more c.loop-left.left (count c.args.self.now) c.loop-left.next (world c.loop-left.self) c.loop-left-test.true (search rules)))
