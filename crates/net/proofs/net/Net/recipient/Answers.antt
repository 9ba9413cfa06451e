use Rattle.std.proofs.Common.{rules}
use Rattle.net.proofs.SettlingReads.{receivers_are, bytes}
use Rattle.net.proofs.net.Net.recipient.Goals as goal

pub returns : goal.returns
returns c = search (bytes, receivers_are, rules)
