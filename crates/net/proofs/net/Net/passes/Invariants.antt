use Rattle.std.proofs.Common.{◌+◌, ◌*◌, ◌-◌}
use Rattle.play.specs.Settle.{passes}
use Rattle.net.proofs.SettlingParts.{Rest}
use Rattle.net.proofs.net.Net.passes.Given as goal

abbrev pub invariant-loop : goal.invariant-loop
invariant-loop l = Rest (λ n w. passes (2048 * n + 1) n w) (λ n w. passes (l.end - l.counter) n w) l.initial.self l.self
