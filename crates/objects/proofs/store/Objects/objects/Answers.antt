use Rattle.std.proofs.Common.{vec_items, ap, ◌∙◌}
use Rattle.tables.specs.Model.{names, rising}
use Rattle.tables.specs.Shown.{objects_of}
use Rattle.objects.proofs.Laws.{single}
use Rattle.tables.proofs.Places.{names_in_place}
use Rattle.objects.proofs.store.Objects.objects.Goals as goal

pub returns : goal.returns
returns c =
    let s = c.args.self.now in
    record {
      value = ap objects_of c.deref.ensures.value;
      rises = ap (λ xs. rising (names (objects_of xs))) c.deref.ensures.value ∙ ap rising (names_in_place (vec_items s.objects)) ∙ s.ordered;
      single = λ o. single o (objects_of (vec_items s.objects)) (ap rising (names_in_place (vec_items s.objects)) ∙ s.ordered);
    }
