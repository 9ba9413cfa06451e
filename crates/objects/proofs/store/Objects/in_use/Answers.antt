use Rattle.std.proofs.Common.{[], ◌++◌, vec_items, refl}
use Rattle.std.proofs.lemmas.Result.{IfOk-weaker}
use Rattle.tables.specs.Marks.{Marked, kept_by}
use Rattle.tables.specs.Met.{Lists, FarInUse, everywhere}
use Rattle.tables.specs.Gathered.{Found, gathered}
use Rattle.tables.specs.declared.which.Which.TheVariants.{NotOf}
use Rattle.tables.specs.Shown.{numbers}
use Rattle.objects.specs.Calls.{heap_of}
use Rattle.objects.specs.Laws.{Sole, Well}
use Rattle.objects.proofs.Laws.{sole, met_well}
use Rattle.objects.proofs.Sought.{far_lists}
use Rattle.objects.proofs.store.Objects.in_use.Goals as goal

pub returns : goal.returns
returns c =
    let s = c.args.self.now in
    let xs = vec_items s.objects in
    let from = numbers c.args.from.now in
    let ms = c.met.result in
    let marked : Marked xs ((heap_of s).roots ++ from) ms = c.met.ensures in
    let lists = IfOk-weaker c.references.result (λ v. Found (NotOf s.home) (heap_of s) from ms (numbers (vec_items v))) (λ v. Lists (numbers (vec_items v)) (FarInUse (heap_of s) from))
    (λ v f. far_lists (heap_of s) s.home xs from ms (numbers (vec_items v)) refl refl s.ordered marked f)
    c.references.ensures.value in
    let all = gathered (NotOf s.home) (everywhere (kept_by ms (heap_of s).objects)) (gathered (NotOf s.home) from (gathered (NotOf s.home) (heap_of s).roots [])) in
    record {
      names = lists;
      well = IfOk-weaker c.references.result (λ v. Lists (numbers (vec_items v)) (FarInUse (heap_of s) from)) (λ v. Well (heap_of s) from → Well (heap_of s) (numbers (vec_items v))) (λ v l w o e. met_well (heap_of s) from s.well_roots s.well_fields w o (l.only o e).1) lists;
      sole = IfOk-weaker c.references.result (λ v. Lists (numbers (vec_items v)) (FarInUse (heap_of s) from)) (λ v. Sole (numbers (vec_items v)) (FarInUse (heap_of s) from)) (λ v l. sole (numbers (vec_items v)) (FarInUse (heap_of s) from) l) lists;
      none = λ l. c.references.ensures.none (sole all (FarInUse (heap_of s) from) (far_lists (heap_of s) s.home xs from ms all refl refl s.ordered marked refl) [] l);
    }
