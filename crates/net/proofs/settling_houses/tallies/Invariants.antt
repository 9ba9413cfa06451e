use Rattle.std.proofs.Common.{◌≡◌, ◌*◌, ◌≤◌, []}
use Rattle.play.specs.Settle.{tallies}
use Rattle.net.specs.Worlds.{world_of}
use Rattle.net.proofs.settling_houses.tallies.Given as goal

abbrev pub invariant-loop-house : goal.invariant-loop-house
invariant-loop-house l = (l.sum ≡ tallies l.house-index (world_of l.houses [])) × (l.sum ≤ 4294967295 * l.house-index)
