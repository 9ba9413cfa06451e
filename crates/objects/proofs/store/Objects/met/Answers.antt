use Rattle.std.proofs.Common.{◌++◌, ap, ◌∙◌, subst, arith}
use Rattle.tables.specs.Model.{rising}
use Rattle.tables.specs.Marks.{Marked}
use Rattle.tables.specs.Shown.{numbers, names_in}
use Rattle.objects.specs.Calls.{heap_of}
use Rattle.objects.proofs.Kept.{clear_all}
use Rattle.objects.proofs.store.Objects.met.Goals as goal

pub mark-requires : goal.mark-requires
mark-requires c =
    let s = c.args.self.now in
    record {
      ordered = ap (λ xs. rising (names_in xs)) c.deref.ensures.value ∙ s.ordered;
      room = omega (arith, c.deref.ensures.len, s.few);
      clear = λ k. clear_all 1024 k;
    }

pub returns : goal.returns
returns c =
    let s = c.args.self.now in
    let from = numbers c.args.from.now in
    let ms = c.mark.new.marks in
    subst (λ ys. Marked ys ((heap_of s).roots ++ from) ms) c.deref.ensures.value (subst (λ rs. Marked c.deref.result.now (numbers rs ++ from) ms) c.deref-2.ensures.value c.mark.ensures)
