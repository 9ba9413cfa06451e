use Rattle.tables.specs.Met.{FarInUse}
use Rattle.tables.specs.Shown.{numbers}
use Rattle.objects.specs.Calls.{heap_of}
use Rattle.objects.specs.Executed.{names_in_use}
use Rattle.objects.proofs.Reached.{in_use, ordered}
use Rattle.node.proofs.Bytes.{found}
use Rattle.node.proofs.Wants.{wants_listed}
use Rattle.node.proofs.collecting.met_from.Goals as goal

pub returns : goal.returns
returns c =
    let t = c.args.objects.now in
    let from = numbers c.args.names.now in
    let here = in_use (heap_of t) from (ordered t) in
    record {
      names = found c.in_use.result (FarInUse (heap_of t) from) (names_in_use from (heap_of t)) c.in_use.ensures.sole here;
      asks = wants_listed c.in_use.result (names_in_use from (heap_of t)) (FarInUse (heap_of t) from) here c.in_use.ensures.none;
    }
