use Rattle.std.proofs.Common.{drop, map, length, sym, ap, ◌∙◌, arith, rules}
use Rattle.std.proofs.lemmas.List.{drop_all}
use Rattle.std.proofs.lemmas.Slice.Zip.{zip_end}
use Rattle.tables.specs.Gathered.{all_there}
use Rattle.tables.specs.Marks.{kept_by}
use Rattle.tables.specs.Met.{everywhere}
use Rattle.tables.specs.Shown.{objects_of}
use Rattle.tables.proofs.Edits.{kept_none}
use Rattle.tables.proofs.gathering.all_fields_stand.Goals as goal

pub returns : goal.returns
returns g c =
    let w = c.args.which in
    let ts = map g.X.Named.called c.args.table.now in
    let ms = c.args.marks.now in
    let n = length c.loop-x.yielded in
    let t = zip_end c.args.objects.now ms c.loop-x.yielded c.into_iter-x-iterator.result c.loop-x.x-iterator c.next.new.self _ (search rules) (search rules) c.loop-x.yielded_by c.in-None.is c.next.ensures.steps in
    sym (c.loop-x.invariant
    ∙ ap (λ r. all_there w ts (everywhere (kept_by (drop n ms) (objects_of r)))) (drop_all n c.args.objects.now (omega (arith, t, c.requires.room)))
    ∙ ap (λ r. all_there w ts (everywhere r)) (kept_none (drop n ms)))
