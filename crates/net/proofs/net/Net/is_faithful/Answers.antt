use Rattle.net.proofs.SettlingWhole.{keeps}
use Rattle.net.proofs.net.Net.is_faithful.Goals as goal

pub returns-clause-promise : goal.returns-clause-promise
returns-clause-promise c = keeps c.args.self.now
