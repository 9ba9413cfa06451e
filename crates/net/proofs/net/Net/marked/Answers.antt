use Rattle.net.proofs.SettlingWhole.{tallies_in}
use Rattle.net.proofs.net.Net.marked.Goals as goal

pub returns : goal.returns
returns c = tallies_in c.tallies.result c.args.self.now c.deref.result.now c.deref.ensures.value c.tallies.ensures
