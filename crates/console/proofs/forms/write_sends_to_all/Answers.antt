use Rattle.std.proofs.Common.{string_bytes}
use Rattle.console.proofs.Sends.{sends_none, sends_more}
use Rattle.console.proofs.forms.write_sends_to_all.Goals as goal

pub loop-house-init : goal.loop-house-init
loop-house-init c = sends_none c.args.bytes.now (string_bytes c.args.out.now)

pub loop-house-preserved : goal.loop-house-preserved
loop-house-preserved c = sends_more c.loop-house.house c.args.bytes.now (string_bytes c.args.out.now) (string_bytes c.loop-house.out) (string_bytes c.write_send.new.out) c.loop-house.invariant c.in_ok-write_send.ensures
