use Rattle.std.proofs.Common.{true}
use Rattle.play.specs.Settle.{calling, each}
use Rattle.net.specs.Settling.{Along}
use Rattle.net.proofs.net.Net.calling_each.Given as goal

abbrev pub invariant-loop-at : goal.invariant-loop-at
invariant-loop-at l = Along true (λ n w. each n (λ i v. calling n i l.call v) l.at w) l.initial.self l.self
