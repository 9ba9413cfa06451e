use Rattle.std.proofs.Common.{◌+◌, ◌<◌, length, take, set, ap, ◌∙◌, arith}
use Rattle.std.proofs.lemmas.List.{take_more_set, map_push}
use Rattle.tables.specs.Shown.{number, numbers}
use Rattle.tables.specs.Model.{with_fields}
use Rattle.tables.specs.Shown.{object_of}
use Rattle.tables.proofs.object.Object.link.Goals as goal

pub returns : goal.returns
returns c =
    let x = c.args.self.now in
    let h : x.count < length x.slots = omega arith in
    ap (λ k. with_fields (object_of x) (numbers (take (x.count + 1) (set x.slots k c.args.p)))) c.from.ensures
    ∙ ap (with_fields (object_of x)) (ap numbers (take_more_set x.slots x.count c.args.p h) ∙ map_push number (take x.count x.slots) c.args.p)
