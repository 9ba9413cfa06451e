use Rattle.std.proofs.Common.{◌≡◌, true, false, ◌||◌, vec_items, sym, ap, ◌∙◌, rules}
use Rattle.std.specs.Option.{ok_or}
use Rattle.wire.specs.declared.refusal.Refusal.TheVariants.{NotRoot}
use Rattle.objects.specs.Calls.{heap_of, malformed}
use Rattle.tables.specs.Model.{is_in, place_of, names, present, below}
use Rattle.tables.specs.Shown.{names_in}
use Rattle.tables.proofs.Places.{names_in_place}
use Rattle.objects.proofs.Helds.{held_found}
use Rattle.objects.proofs.store.Objects.held.Goals as goal

pub returns-clause-value : goal.returns-clause-value
returns-clause-value c =
    let o = c.args.o.0 in
    let p = c.args.p.0 in
    let h = heap_of c.args.self.now in
    let items = vec_items c.args.self.now.objects in
    let found : c.find.result ≡ place_of o (names h.objects) = c.find.ensures.value ∙ ap (λ xs. place_of o (names_in xs)) c.deref.ensures.value ∙ ap (place_of o) (sym (names_in_place items)) in
    let named : (malformed o h || malformed p h) ≡ false = search rules in
    let root : is_in o h.roots ≡ true = search rules in
    c.ok_or.ensures.value ∙ ap (λ q. ok_or q NotRoot) found ∙ held_found (malformed o h || malformed p h) (is_in o h.roots) (present o h.objects) (below o (names h.objects)) named root
