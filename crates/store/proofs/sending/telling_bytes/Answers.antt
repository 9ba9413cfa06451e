use Rattle.wire.specs.Names.{name}
use Rattle.store.proofs.Tellings.{told_more}
use Rattle.store.proofs.sending.telling_bytes.Goals as goal

pub loop-object-preserved : goal.loop-object-preserved
loop-object-preserved c =
    told_more c.args.census c.args.from c.args.names.now c.loop-object.object-index (name 0) c.loop-object.out c.push.new.self c.in_ok-message_bytes.field-0 c.loop-object-test.true c.loop-object.invariant c.in_ok-push.ensures.items c.in_ok-message_bytes.ensures
