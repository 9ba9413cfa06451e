use Rattle.std.proofs.Common.{is_ok}
use Rattle.net.proofs.SettlingWhole.{above_in, along_joins}
use Rattle.net.proofs.net.Net.join_all.Goals as goal

pub returns : goal.returns
returns c =
    along_joins (is_ok c.calling_each.result) c.above-census.result c.args.self.now c.calling_each.new.self (above_in c.above-census.result c.args.self.now c.deref.result.now c.deref.ensures.value c.above-census.ensures) c.calling_each.ensures
