use Rattle.std.proofs.Common.{◌≤◌, ◌≡◌, false, ltb, [], get_or, refl, sym, ap, ◌∙◌, arith}
use Rattle.std.proofs.lemmas.List.{get_or-map}
use Rattle.std.proofs.lemmas.Bool.{cond-true, cond-false, le-ltb}
use Rattle.tables.specs.Marks.{count, fields_in, field_lists, noted_all}
use Rattle.tables.specs.Shown.{names_in, numbers}
use Rattle.tables.proofs.Noted.{added_or}
use Rattle.tables.proofs.Passes.{passed_from, pass_turn, rise, step}
use Rattle.tables.proofs.marking.Marking.pass.Goals as goal
use Rattle.tables.proofs.marking.Marking.pass.Goals.{then-self-i, else-self-i}

pub loop-i-init : goal.loop-i-init
loop-i-init c =
    let s = c.args.self.now in
    record { kept = refl; same_reference = refl; after = passed_from (names_in s.objects.now) (field_lists s.objects.now) s.marks.now; rises = omega arith; added = sym (le-ltb (count s.marks.now) (count s.marks.now) (omega arith)) }

pub loop-i-preserved : goal.loop-i-preserved
loop-i-preserved c =
    let s0 = c.args.self.now in
    let xs = s0.objects.now in
    let ns = names_in xs in
    let fss = field_lists xs in
    let inv = c.loop-i.invariant in
    let ms = c.loop-i.self.marks.now in
    let i = c.loop-i.i in
    let x = c.index-objects-i.result in
    let after = c.if-self-i.self in
    let turn : record {
      kept : after.objects ≡ s0.objects;
      same_reference : after.marks.ghost_name ≡ s0.marks.ghost_name;
      grown : after.marks.now ≡ step ns fss i ms;
      added : c.if-self-i.added ≡ ltb (count ms) (count after.marks.now);
    } = elim c.if-self-i.branch [
      | then-self-i w ↦ (
          let fs : numbers w.fields.result.now ≡ get_or fss i [] = w.fields.ensures.value ∙ sym (get_or-map fields_in xs i x [] c.loop-i-test.true ∙ ap fields_in (sym c.index-objects-i.is)) in
          record {
            kept = ap (λ t. t.objects) w.self-is ∙ w.spread.ensures.kept ∙ inv.kept;
            same_reference = ap (λ t. t.marks.ghost_name) w.self-is ∙ w.spread.ensures.same_reference ∙ inv.same_reference;
            grown = ap (λ t. t.marks.now) w.self-is ∙ w.spread.ensures.after ∙ ap (λ o. noted_all (numbers w.fields.result.now) (names_in o.now) ms) inv.kept ∙ ap (λ ps. noted_all ps ns ms) fs
                ∙ sym (cond-true (get_or ms i false) (noted_all (get_or fss i []) ns ms) ms w.if-self-i.true);
            added = w.added-is ∙ w.spread.ensures.added ∙ ap (λ t. ltb (count ms) (count t.marks.now)) (sym w.self-is);
          })
      | else-self-i w ↦ record {
        kept = ap (λ t. t.objects) w.self-is ∙ inv.kept;
        same_reference = ap (λ t. t.marks.ghost_name) w.self-is ∙ inv.same_reference;
        grown = ap (λ t. t.marks.now) w.self-is ∙ sym (cond-false (get_or ms i false) (noted_all (get_or fss i []) ns ms) ms w.if-self-i.false);
        added = w.added-is ∙ w.if-self-i.false ∙ sym (le-ltb (count ms) (count ms) (omega arith)) ∙ ap (λ t. ltb (count ms) (count t.marks.now)) (sym w.self-is);
      }
    ] in
    let up : count ms ≤ count after.marks.now = rise ns fss i ms after.marks.now turn.grown in
    record {
      kept = turn.kept;
      same_reference = turn.same_reference;
      after = pass_turn ns fss s0.marks.now ms after.marks.now i inv.after turn.grown;
      rises = omega (arith, up, inv.rises);
      added = added_or (count s0.marks.now) (count ms) (count after.marks.now) c.loop-i.added c.if-self-i.added inv.rises up inv.added turn.added;
    }
