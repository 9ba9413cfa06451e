use Rattle.std.proofs.Common.{◌≡◌, true, false, [], length, vec_items, refl, ap, ◌∙◌, arith}
use Rattle.std.proofs.lemmas.Bool.{both_ways}
use Rattle.tables.specs.Gathered.{gathered}
use Rattle.tables.specs.Marks.{kept_by}
use Rattle.tables.specs.Met.{everywhere}
use Rattle.tables.specs.Model.{rising}
use Rattle.tables.specs.Shown.{numbers}
use Rattle.tables.proofs.Gathers.{rising_gathered, gathered_grows}
use Rattle.objects.specs.Calls.{heap_of}
use Rattle.objects.proofs.store.Objects.references.Goals as goal

pub gather-requires-2 : goal.gather-requires-2
gather-requires-2 c =
    let w = c.args.which in
    let rs = numbers c.deref.result.now in
    let os = numbers (vec_items c.new-out.result) in
    let r0 : rising os ≡ true = ap (λ xs. rising (numbers xs)) c.new-out.ensures.items in
    ap rising c.in_ok-gather.ensures.value ∙ rising_gathered w rs os r0

pub gather_fields-requires : goal.gather_fields-requires
gather_fields-requires c =
    let w = c.args.which in
    let rs = numbers c.deref.result.now in
    let os = numbers (vec_items c.new-out.result) in
    let r0 : rising os ≡ true = ap (λ xs. rising (numbers xs)) c.new-out.ensures.items in
    let r1 : rising (numbers (vec_items c.gather.new.out)) ≡ true = ap rising c.in_ok-gather.ensures.value ∙ rising_gathered w rs os r0 in
    record {
      ordered = ap rising c.in_ok-gather-2.ensures.value ∙ rising_gathered w (numbers c.args.from.now) (numbers (vec_items c.gather.new.out)) r1;
      room = omega (arith, c.deref-2.ensures.len, c.args.self.now.few, c.requires);
    }

pub returns-in_err-gather-clause-none : goal.returns-in_err-gather-clause-none
returns-in_err-gather-clause-none c = λ f.
    let w = c.args.which in
    let h = heap_of c.args.self.now in
    let from = numbers c.args.from.now in
    let os = numbers (vec_items c.new-out.result) in
    let one = gathered w h.roots [] in
    let same : gathered w (numbers c.deref.result.now) os ≡ one = ap (λ xs. gathered w (numbers xs) os) c.deref.ensures.value ∙ ap (λ xs. gathered w h.roots (numbers xs)) c.new-out.ensures.items in
    absurd (both_ways false refl (c.in_err-gather.ensures.succeeds (omega (arith, ap length same, ap length f, gathered_grows w (everywhere (kept_by c.args.marks.now h.objects)) (gathered w from one), gathered_grows w from one))))

pub returns-in_err-gather-2-clause-none : goal.returns-in_err-gather-2-clause-none
returns-in_err-gather-2-clause-none c = λ f.
    let w = c.args.which in
    let h = heap_of c.args.self.now in
    let from = numbers c.args.from.now in
    let os = numbers (vec_items c.new-out.result) in
    let one = gathered w h.roots [] in
    let same : numbers (vec_items c.gather.new.out) ≡ one = c.in_ok-gather.ensures.value ∙ ap (λ xs. gathered w (numbers xs) os) c.deref.ensures.value ∙ ap (λ xs. gathered w h.roots (numbers xs)) c.new-out.ensures.items in
    absurd (both_ways false refl (c.in_err-gather-2.ensures.succeeds (omega (arith, ap (λ l. length (gathered w from l)) same, ap length f, gathered_grows w (everywhere (kept_by c.args.marks.now h.objects)) (gathered w from one)))))
