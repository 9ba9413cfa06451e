use Rattle.std.proofs.Common.{is_ok}
use Rattle.play.specs.Play.{delivers}
use Rattle.net.proofs.SettlingParts.{along_one}
use Rattle.net.proofs.net.Net.delivers.Goals as goal

pub returns : goal.returns
returns c =
    along_one (is_ok c.with_memory.result) c.deliver.result (delivers c.args.house.0 c.args.message) c.args.self.now c.deliver.new.self c.with_memory.ensures c.deliver.ensures.plays c.deliver.ensures.faithful c.deliver.ensures.count
