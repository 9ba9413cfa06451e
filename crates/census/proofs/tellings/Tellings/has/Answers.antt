use Rattle.std.proofs.Common.{is_some, sym, ap, ◌∙◌}
use Rattle.tables.specs.Model.{is_in, place_of}
use Rattle.tables.proofs.Places.{is_some_place}
use Rattle.census.specs.Shown.{names_in}
use Rattle.census.proofs.Tabled.{names_told}
use Rattle.census.proofs.tellings.Tellings.has.Goals as goal

pub returns : goal.returns
returns c =
    let ts = c.args.self.now.entries.items in
    let o = c.args.o.0 in
    c.is_some.ensures
    ∙ ap is_some c.find.ensures.value
    ∙ ap (λ xs. is_some (place_of o (names_in xs))) c.deref.ensures.value
    ∙ is_some_place o (names_in ts)
    ∙ ap (is_in o) (sym (names_told ts))
