use Rattle.std.proofs.Common.{is_ok}
use Rattle.play.specs.Play.{calls}
use Rattle.net.proofs.SettlingParts.{along_one}
use Rattle.net.proofs.net.Net.calls.Goals as goal

pub returns : goal.returns
returns c =
    along_one (is_ok c.with_memory.result) c.call.result (calls c.args.house.0 c.args.call) c.args.self.now c.call.new.self c.with_memory.ensures c.call.ensures.plays c.call.ensures.faithful c.call.ensures.count
