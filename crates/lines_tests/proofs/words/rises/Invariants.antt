use Rattle.std.proofs.Common.{◌≡◌, length}
use Rattle.wire.specs.Format.{rising, numbers}
use Rattle.lines_tests.proofs.words.rises.Given as goal

abbrev pub invariant-loop-rest : goal.invariant-loop-rest
invariant-loop-rest l = rising l.home.0 15 (numbers l.objects) ≡ rising l.home.0 l.low (numbers l.rest)

abbrev pub decreases-loop-rest : goal.decreases-loop-rest
decreases-loop-rest l = length l.rest
