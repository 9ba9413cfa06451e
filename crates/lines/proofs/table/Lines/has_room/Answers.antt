use Rattle.std.proofs.Common.{◌≡◌, Bool, true, false, ◌||◌, ltb, length, is_some, sym, refl, ap, ◌∙◌}
use Rattle.std.proofs.lemmas.Bool.{lt-ltb, le-ltb, or_right}
use Rattle.lines.specs.Listed.{listed}
use Rattle.lines.specs.Lists.{lines}
use Rattle.std.proofs.lemmas.List.FromFn.{length-map-range_with_len}
use Rattle.lines.proofs.Places.{listed_place}
use Rattle.lines.proofs.table.Lines.has_room.Goals as goal

or_false : (b : Bool) → (b || false) ≡ b
or_false true = refl
or_false false = refl

pub returns-then-self : goal.returns-then-self
returns-then-self c =
    let t = c.args.self.now in
    lt-ltb t.len t.room c.if-self.true ∙ sym (or_right _ _ (lt-ltb (length (lines t)) t.room (rw length-map-range_with_len c.if-self.true)))

pub returns-else-self : goal.returns-else-self
returns-else-self c =
    let t = c.args.self.now in
    let o = c.args.object.0 in
    let j = c.args.holder.0 in
    let full : ltb (length (lines t)) t.room ≡ false = le-ltb (length (lines t)) t.room (rw length-map-range_with_len c.if-self.false) in
    c.is_some.ensures ∙ ap is_some c.find.ensures.place ∙ listed_place o j 0 (lines t) ∙ sym (or_false (listed o j (lines t))) ∙ ap (λ b. listed o j (lines t) || b) (sym full)
