use Rattle.std.proofs.Common.{◌≡◌, drop, map, w32}
use Rattle.std.specs.Int.{from_be_bytes}
use Rattle.wire.specs.Format.{rising, numbers}
use Rattle.wire.proofs.reading.rises.Given as goal

abbrev pub invariant-loop-number : goal.invariant-loop-number
invariant-loop-number l = rising l.to 15 (numbers l.objects) ≡ rising l.to l.low (map (from_be_bytes w32) (drop l.number-index l.numbers))
