use Rattle.std.proofs.Common.{◌∙◌, refl, arith, rules, tests}
use Rattle.std.proofs.lemmas.Iterator.{YieldsList-from_range}
use Rattle.std.proofs.lemmas.Iterator.Search.{position_from_yields_List}
use Rattle.lines.specs.Listed.{is_of}
use Rattle.lines.specs.Lists.{row_of}
use Rattle.lines.proofs.Places.{place_found}
use Rattle.lines.proofs.table.Lines.find.Goals as goal

pub returns-clause-place : goal.returns-clause-place
returns-clause-place c =
    let t = c.args.self.now in
    position_from_yields_List (λ i. is_of c.args.object.0 c.args.holder.0 (row_of t i)) _ _ c.position.result c.position.ensures.ran
    (YieldsList-from_range 0 t.len t.len refl (omega arith)) (λ x b q k. search (rules, tests))
    ∙ place_found c.args.object.0 c.args.holder.0 (row_of t) t.len
