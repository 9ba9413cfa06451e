use Rattle.rules.specs.Step.{link, unlink, load, drop}
use Rattle.node.proofs.Ties.{still_tied}
use Rattle.node.proofs.head.Head.call.Goals as goal

pub invariant_of-tables-in-Link : goal.invariant_of-tables-in-Link
invariant_of-tables-in-Link c = record { tied = still_tied (link c.in-Link.object.0 c.in-Link.target.0) c.args.self _ c.link.new.objects c.args.tables.now.list.now c.link.result c.args.tables.now.tied c.link.ensures }

pub invariant_of-tables-in-Unlink : goal.invariant_of-tables-in-Unlink
invariant_of-tables-in-Unlink c = record { tied = still_tied (unlink c.in-Unlink.object.0 c.in-Unlink.target.0) c.args.self _ c.unlink.new.objects c.args.tables.now.list.now c.unlink.result c.args.tables.now.tied c.unlink.ensures }

pub invariant_of-tables-in-Load : goal.invariant_of-tables-in-Load
invariant_of-tables-in-Load c = record { tied = still_tied (load c.in-Load.object.0 c.in-Load.target.0) c.args.self _ c.load.new.objects c.args.tables.now.list.now c.load.result c.args.tables.now.tied c.load.ensures }

pub invariant_of-tables-in-Drop : goal.invariant_of-tables-in-Drop
invariant_of-tables-in-Drop c = record { tied = still_tied (drop c.in-Drop.object.0) c.args.self _ c.release.new.objects c.args.tables.now.list.now c.release.result c.args.tables.now.tied c.release.ensures }
