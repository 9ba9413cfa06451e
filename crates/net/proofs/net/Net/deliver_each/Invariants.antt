use Rattle.std.proofs.Common.{true, [], ◌∷◌}
use Rattle.play.specs.Play.{delivers}
use Rattle.play.specs.Settle.{each}
use Rattle.net.specs.Settling.{Along}
use Rattle.net.proofs.net.Net.deliver_each.Given as goal

abbrev pub invariant-loop-to : goal.invariant-loop-to
invariant-loop-to l = Along true (λ n w. each n (λ i v. delivers i l.message ∷ []) l.to w) l.initial.self l.self
