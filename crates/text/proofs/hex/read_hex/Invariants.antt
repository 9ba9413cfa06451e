use Rattle.std.proofs.Common.{◌≡◌, drop, vec_items}
use Rattle.text.specs.Hex.{hex_of, after}
use Rattle.text.proofs.Hexes.{spelled}
use Rattle.text.proofs.hex.read_hex.Given as goal

abbrev pub invariant-loop-high : goal.invariant-loop-high
invariant-loop-high l = hex_of l.digits ≡ after (vec_items l.out) (spelled (drop l.high-index l.pairs))
