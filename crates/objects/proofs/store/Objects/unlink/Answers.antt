use Rattle.std.proofs.Common.{◌≡◌, true, false, Ok, Err, sym, ap, ◌∙◌, rules}
use Rattle.std.specs.List.{remove}
use Rattle.wire.specs.declared.refusal.Refusal.TheVariants.{NoField}
use Rattle.tables.specs.Model.{rising, all_own, fields_of, is_in, changed, without_first, all_well}
use Rattle.tables.specs.Shown.{object_of, numbers}
use Rattle.objects.specs.Calls.{heap_of, with_objects, unlink_answer, unlinked_from}
use Rattle.tables.proofs.Places.{first_none, first_there}
use Rattle.tables.proofs.Well.{well_removed, well_fields}
use Rattle.objects.proofs.Helds.{held_facts, held_fields, accepted, refused_so, missed, hit, set_names, set_objects, set_well}
use Rattle.objects.proofs.store.Objects.unlink.Goals as goal

pub returns-in_err-place : goal.returns-in_err-place
returns-in_err-place c =
    let s = c.args.self.now in
    let o = c.args.o.0 in
    let p = c.args.p.0 in
    let h = held_facts s o p c.in_ok-at.at c.in_ok-at.ensures.value in
    let f = held_fields s o p c.in_ok-at.at h c.index.result.now c.index.ensures in
    let named = h.named in
    let held = h.held in
    let q = missed c.first.result NoField _ (sym c.in_err-place.was ∙ c.ok_or.ensures.value) in
    let out : is_in p (fields_of o (heap_of s).objects) ≡ false = ap (is_in p) (f ∙ sym c.fields.ensures.value) ∙ first_none p c.fields.result.now (q.0 ∙ c.first.ensures) in
    let v : Err NoField ≡ unlink_answer o p (heap_of s) = search rules in
    let w : Err c.in_err-place.field-0.0 ≡ unlink_answer o p (heap_of s) = ap Err q.1 ∙ v in
    record { value = search rules; after = refused_so (unlink_answer o p (heap_of s)) NoField (unlinked_from o p (heap_of s)) (heap_of s) v }

pub invariant_of-self : goal.invariant_of-self
invariant_of-self c =
    let s = c.args.self.now in
    let o = c.args.o.0 in
    let p = c.args.p.0 in
    let x = c.index_mut.result.now in
    let at = c.in_ok-at.at in
    let h = held_facts s o p at c.in_ok-at.ensures.value in
    let f = held_fields s o p at h x c.index_mut.ensures.value in
    let fs = remove (object_of x).fields c.in_ok-place.place in
    let e = set_names s o p at h x c.unlink.new.self fs c.index_mut.ensures.value c.unlink.ensures in
    let well : all_well s.houses fs ≡ true = well_removed s.houses (object_of x).fields c.in_ok-place.place (ap (all_well s.houses) (sym f) ∙ well_fields s.houses o (heap_of s).objects s.well_fields) in
    record {
      sixteen = s.sixteen;
      inside = s.inside;
      few = s.few;
      room = s.room;
      ordered = ap rising e ∙ s.ordered;
      own = ap (all_own s.home.0 s.made) e ∙ s.own;
      few_roots = s.few_roots;
      room_roots = s.room_roots;
      ordered_roots = s.ordered_roots;
      well_roots = s.well_roots;
      well_fields = set_well s o p at h x c.unlink.new.self fs c.index_mut.ensures.value c.unlink.ensures well;
    }

pub returns : goal.returns
returns c =
    let s = c.args.self.now in
    let o = c.args.o.0 in
    let p = c.args.p.0 in
    let x = c.index_mut.result.now in
    let at = c.in_ok-at.at in
    let place = c.in_ok-place.place in
    let h = held_facts s o p at c.in_ok-at.ensures.value in
    let f = held_fields s o p at h x c.index_mut.ensures.value in
    let named = h.named in
    let held = h.held in
    let ns = c.fields.result.now in
    let same : numbers ns ≡ fields_of o (heap_of s).objects = c.fields.ensures.value ∙ sym (held_fields s o p at h c.index.result.now c.index.ensures) in
    let t = first_there p ns place (hit c.first.result NoField place (sym c.in_ok-place.was ∙ c.ok_or.ensures.value) ∙ c.first.ensures) in
    let there : is_in p (fields_of o (heap_of s).objects) ≡ true = ap (is_in p) (sym same) ∙ t.1 in
    let v : Ok tt ≡ unlink_answer o p (heap_of s) = search rules in
    record {
      value = v;
      after =
          ap (λ xs. with_objects xs (heap_of s)) (set_objects s o p at h x c.unlink.new.self (remove (object_of x).fields place) c.index_mut.ensures.value c.unlink.ensures)
          ∙ ap (λ fs. with_objects (changed o fs (heap_of s).objects) (heap_of s)) (ap (λ fs. remove fs place) (sym f ∙ sym same) ∙ sym t.2 ∙ ap (without_first p) same)
          ∙ accepted (unlink_answer o p (heap_of s)) tt (unlinked_from o p (heap_of s)) (heap_of s) v;
    }
