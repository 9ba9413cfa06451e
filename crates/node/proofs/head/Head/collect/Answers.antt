use Rattle.std.proofs.Common.{[], sym, ap, ◌∙◌, take}
use Rattle.tables.specs.Shown.{numbers}
use Rattle.objects.specs.Calls.{heap_of}
use Rattle.objects.specs.Executed.{collected}
use Rattle.objects.proofs.Reached.{collects, ordered}
use Rattle.lines.specs.Listed.{objects_listed}
use Rattle.lines.specs.Lists.{lines}
use Rattle.rules.specs.House.{with_heap}
use Rattle.node.specs.Shown.{house_of}
use Rattle.rules.specs.Step.{sends}
use Rattle.node.proofs.Bytes.{back}
use Rattle.node.proofs.head.Head.collect.Goals as goal

pub returns : goal.returns
returns c =
    let h = house_of c.args.self c.args.objects.now c.args.list.now in
    let t = c.args.objects.now in
    let from = numbers (take c.objects-count.result c.objects-count.new.into) in
    let here = collects (heap_of t) from (ordered t) in
    ap (λ x. sends [] (with_heap x h))
    (ap (λ l. collected l (heap_of t)) (sym (back _ (objects_listed (lines c.args.list.now)) c.objects-count.ensures.after))
    ∙ c.collect.ensures.lasting.sole (collected from (heap_of t)) here)
