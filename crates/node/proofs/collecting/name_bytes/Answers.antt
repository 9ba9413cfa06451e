use Rattle.wire.specs.Names.{name}
use Rattle.node.proofs.Bytes.{bytes_more}
use Rattle.node.proofs.collecting.name_bytes.Goals as goal

pub loop-name-preserved : goal.loop-name-preserved
loop-name-preserved c = bytes_more c.args.names.now c.loop-name.name-index (name 0) _ _ _ c.loop-name-test.true c.loop-name.invariant c.in_ok-extend_from_slice.ensures.items c.to_be_bytes.ensures
