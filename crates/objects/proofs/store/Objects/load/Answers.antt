use Rattle.std.proofs.Common.{◌≡◌, true, false, Err, sym, ap, ◌∙◌, rules}
use Rattle.wire.specs.declared.refusal.Refusal.TheVariants.{NoField}
use Rattle.tables.specs.Model.{fields_of, is_in}
use Rattle.objects.specs.Calls.{heap_of, load_answer, root_answer, rooted, unless_refused}
use Rattle.tables.proofs.Places.{first_none, first_there}
use Rattle.objects.proofs.Helds.{held_facts, held_fields, refused_so, missed, hit}
use Rattle.objects.proofs.store.Objects.load.Goals as goal

pub returns-in_err-ok_or : goal.returns-in_err-ok_or
returns-in_err-ok_or c =
    let s = c.args.self.now in
    let o = c.args.o.0 in
    let p = c.args.p.0 in
    let h = held_facts s o p c.in_ok-at.at c.in_ok-at.ensures.value in
    let f = held_fields s o p c.in_ok-at.at h c.index.result.now c.index.ensures in
    let named = h.named in
    let held = h.held in
    let q = missed c.first.result NoField _ (sym c.in_err-ok_or.was ∙ c.ok_or.ensures.value) in
    let out : is_in p (fields_of o (heap_of s).objects) ≡ false = ap (is_in p) (f ∙ sym c.fields.ensures.value) ∙ first_none p c.fields.result.now (q.0 ∙ c.first.ensures) in
    let v : Err NoField ≡ load_answer o p (heap_of s) = search rules in
    let w : Err c.in_err-ok_or.field-0.0 ≡ load_answer o p (heap_of s) = ap Err q.1 ∙ v in
    record { value = search rules; after = refused_so (load_answer o p (heap_of s)) NoField (rooted p (heap_of s)) (heap_of s) v }

pub returns : goal.returns
returns c =
    let s = c.args.self.now in
    let o = c.args.o.0 in
    let p = c.args.p.0 in
    let h = held_facts s o p c.in_ok-at.at c.in_ok-at.ensures.value in
    let f = held_fields s o p c.in_ok-at.at h c.index.result.now c.index.ensures in
    let named = h.named in
    let held = h.held in
    let t = first_there p c.fields.result.now _ (hit c.first.result NoField _ (sym c.in_ok-ok_or.was ∙ c.ok_or.ensures.value) ∙ c.first.ensures) in
    let there : is_in p (fields_of o (heap_of s).objects) ≡ true = ap (is_in p) (f ∙ sym c.fields.ensures.value) ∙ t.1 in
    let e : root_answer p (heap_of s) ≡ load_answer o p (heap_of s) = search rules in
    record {
      value = c.add_root.ensures.value ∙ e;
      after = c.add_root.ensures.after ∙ ap (λ r. unless_refused r (rooted p (heap_of s)) (heap_of s)) (c.add_root.ensures.value ∙ e);
    }
