use Rattle.std.proofs.Common.{◌+◌, ◌≤◌, ◌≡◌, get_or, drop, sym, ap, ◌∙◌, arith}
use Rattle.std.proofs.lemmas.List.{drop_more, drop_all}
use Rattle.wire.specs.Names.{name}
use Rattle.tables.specs.Marks.{noted, noted_all, count}
use Rattle.tables.specs.Shown.{numbers, names_in}
use Rattle.tables.proofs.Noted.{count_noted, added_or}
use Rattle.tables.proofs.marking.Marking.spread.Goals as goal

pub loop-p-preserved : goal.loop-p-preserved
unfolding noted_all
loop-p-preserved c =
    let inv = c.loop-p.invariant in
    let ms = c.loop-p.self.marks.now in
    let new = c.note-added.new.self.marks.now in
    let ps = c.args.names.now in
    let ns = names_in c.args.self.now.objects.now in
    let i = c.loop-p.p-index in
    let p = (get_or ps i (name 0)).0 in
    let e : new ≡ noted p ns ms = c.note-added.ensures.after ∙ ap (λ o. noted p (names_in o.now) ms) inv.kept in
    let rise : count ms ≤ count new = rw e (count_noted p ns ms) in
    record {
      kept = c.note-added.ensures.kept ∙ inv.kept;
      same_reference = c.note-added.ensures.same_reference ∙ inv.same_reference;
      left = inv.left ∙ ap (λ r. noted_all (numbers r) ns ms) (drop_more ps i (name 0) c.loop-p-test.true) ∙ ap (noted_all (numbers (drop (i + 1) ps)) ns) (sym e);
      rises = omega (arith, rise, inv.rises);
      added = added_or (count c.args.self.now.marks.now) (count ms) (count new) c.loop-p.added c.note-added.result inv.rises rise inv.added c.note-added.ensures.added;
    }

pub returns : goal.returns
unfolding noted_all
returns c =
    let inv = c.loop-p.invariant in
    record {
      kept = inv.kept;
      same_reference = inv.same_reference;
      after = sym (inv.left ∙ ap (λ r. noted_all (numbers r) (names_in c.args.self.now.objects.now) c.loop-p.self.marks.now) (drop_all c.loop-p.p-index c.args.names.now c.loop-p-test.false));
      added = inv.added;
    }
