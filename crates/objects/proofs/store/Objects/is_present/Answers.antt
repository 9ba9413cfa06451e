use Rattle.std.proofs.Common.{is_some, vec_items, sym, ap, ◌∙◌}
use Rattle.tables.specs.Model.{is_in}
use Rattle.tables.specs.Shown.{names_in}
use Rattle.tables.proofs.Places.{names_in_place, is_some_place}
use Rattle.objects.proofs.store.Objects.is_present.Goals as goal

pub returns : goal.returns
returns c =
    let o = c.args.o.0 in
    let items = vec_items c.args.self.now.objects in
    c.is_some.ensures ∙ ap is_some c.find.ensures.value ∙ is_some_place o (names_in c.deref.result.now) ∙ ap (λ xs. is_in o (names_in xs)) c.deref.ensures.value ∙ ap (is_in o) (sym (names_in_place items))
