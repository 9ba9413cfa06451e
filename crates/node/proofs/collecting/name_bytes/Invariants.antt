use Rattle.std.proofs.Common.{◌≡◌, take, vec_items}
use Rattle.tables.specs.Shown.{numbers}
use Rattle.rules.specs.Step.{bytes_of}
use Rattle.node.proofs.collecting.name_bytes.Given as goal

abbrev pub invariant-loop-name : goal.invariant-loop-name
invariant-loop-name l = vec_items l.out ≡ bytes_of (numbers (take l.name-index l.names))
