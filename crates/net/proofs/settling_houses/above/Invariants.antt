use Rattle.std.proofs.Common.{◌≡◌, []}
use Rattle.play.specs.Settle.{above}
use Rattle.net.specs.Worlds.{world_of}
use Rattle.net.proofs.settling_houses.above.Given as goal

abbrev pub invariant-loop-house : goal.invariant-loop-house
invariant-loop-house l = l.census ≡ above l.house-index (world_of l.houses [])
