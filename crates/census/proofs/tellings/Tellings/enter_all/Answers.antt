use Rattle.std.proofs.Common.{◌≡◌, ◌+◌, ◌≤◌, length, get_or, drop, sym, ap, ◌∙◌, subst, arith}
use Rattle.std.proofs.lemmas.List.{at_drop_more, at_drop_all, length-map}
use Rattle.wire.specs.Names.{name}
use Rattle.tables.specs.Model.{rising}
use Rattle.tables.specs.Shown.{numbers}
use Rattle.census.specs.Model.{untold, unanswered, entered, entered_all}
use Rattle.census.specs.Shown.{told_of, shown}
use Rattle.census.proofs.Entering.{length_entered, untold_cons, untold_less, unanswered_all}
use Rattle.census.proofs.Tabled.{names_told}
use Rattle.census.proofs.tellings.Tellings.enter_all.Goals as goal

pub loop-o-preserved : goal.loop-o-preserved
loop-o-preserved c =
    let us = c.args.in_use.now in
    let v = c.loop-o.self.entries in
    let ts = told_of v.items in
    let n = c.enter.new.self.entries in
    let i = c.loop-o.o-index in
    let u = (get_or us i (name 0)).0 in
    let rest = numbers (drop (i + 1) us) in
    let a : told_of n.items ≡ entered u ts = c.enter.ensures.after in
    let e = at_drop_more (λ xs. length (untold (numbers xs) ts)) us i (name 0) c.loop-o-test.true in
    let d = untold_cons u rest ts in
    let l = length_entered u ts (ap rising (names_told v.items) ∙ c.loop-o.self.ordered) in
    let m : length n.items ≡ length (entered u ts) = sym (length-map n.items shown) ∙ ap length a in
    let k : length ts ≡ length v.items = length-map v.items shown in
    let s = untold_less u rest ts in
    let t : length (untold rest (told_of n.items)) ≡ length (untold rest (entered u ts)) = ap (λ x. length (untold rest x)) a in (
      ap (entered_all rest) a ∙ sym (at_drop_more (λ xs. entered_all (numbers xs) ts) us i (name 0) c.loop-o-test.true) ∙ c.loop-o.invariant.0,
      omega (arith, n.ok.0, v.ok.0, c.enter.ensures.room, c.loop-o.invariant.1),
    )

pub returns-clause-few : goal.returns-clause-few
returns-clause-few c =
    let us = c.args.in_use.now in
    let old = told_of c.args.self.now.entries.items in
    let after = sym (at_drop_all (λ xs. entered_all (numbers xs) (told_of c.loop-o.self.entries.items)) us c.loop-o.o-index c.loop-o-test.false) ∙ c.loop-o.invariant.0 in
    subst (λ x. length (unanswered x) ≤ length (unanswered old) + length (untold (numbers us) old)) (sym after)
    (unanswered_all (numbers us) old (ap rising (names_told c.args.self.now.entries.items) ∙ c.args.self.now.ordered))
