-- From every world that entries lead to, the collector's own entries leave exactly what matters.
use Rattle.play.specs.Exact.{AlwaysSettles, NothingLeft}
use Rattle.play.proofs.Completes.{completes}
use Rattle.play.proofs.Settled.{settles, nothing_left}

pub always_settles : AlwaysSettles
always_settles = settles completes

pub always_left : NothingLeft
always_left = nothing_left always_settles
