use Rattle.std.proofs.Common.{true, [], replicate, vec_items, refl, arith}
use Rattle.std.proofs.lemmas.List.{length-map}
use Rattle.std.proofs.lemmas.Result.{IfOk-weaker}
use Rattle.tables.specs.Marks.{kept_by}
use Rattle.tables.specs.Met.{Lists, Refers, everywhere}
use Rattle.tables.specs.Gathered.{Found, gathered}
use Rattle.tables.specs.declared.which.Which.TheVariants.{Of}
use Rattle.tables.specs.Shown.{numbers, object_of}
use Rattle.objects.specs.Calls.{heap_of}
use Rattle.objects.specs.Laws.{Sole, Well}
use Rattle.objects.proofs.Laws.{sole, refers_well}
use Rattle.objects.proofs.Sought.{refers_lists}
use Rattle.objects.proofs.store.Objects.references_of.Goals as goal

pub returns : goal.returns
returns c =
    let s = c.args.self.now in
    let lists = IfOk-weaker c.references.result (λ v. Found (Of c.args.house) (heap_of s) [] (replicate 1024 true) (numbers (vec_items v))) (λ v. Lists (numbers (vec_items v)) (Refers (heap_of s) c.args.house.0))
    (λ v f. refers_lists (heap_of s) c.args.house 1024 (numbers (vec_items v)) (omega (arith, length-map (vec_items s.objects) object_of, s.objects.ok.0, s.few)) f)
    c.references.ensures.value in
    let all = gathered (Of c.args.house) (everywhere (kept_by (replicate 1024 true) (heap_of s).objects)) (gathered (Of c.args.house) [] (gathered (Of c.args.house) (heap_of s).roots [])) in
    record {
      names = lists;
      well = IfOk-weaker c.references.result (λ v. Lists (numbers (vec_items v)) (Refers (heap_of s) c.args.house.0)) (λ v. Well (heap_of s) (numbers (vec_items v))) (λ v l o e. refers_well (heap_of s) s.well_roots s.well_fields o (l.only o e).1) lists;
      sole = IfOk-weaker c.references.result (λ v. Lists (numbers (vec_items v)) (Refers (heap_of s) c.args.house.0)) (λ v. Sole (numbers (vec_items v)) (Refers (heap_of s) c.args.house.0)) (λ v l. sole (numbers (vec_items v)) (Refers (heap_of s) c.args.house.0) l) lists;
      few = c.references.ensures.few;
      none = λ l. c.references.ensures.none (sole all (Refers (heap_of s) c.args.house.0) (refers_lists (heap_of s) c.args.house 1024 all (omega (arith, length-map (vec_items s.objects) object_of, s.objects.ok.0, s.few)) refl) [] l);
    }
