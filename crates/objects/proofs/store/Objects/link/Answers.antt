use Rattle.std.proofs.Common.{◌≡◌, true, false, leb, [], ◌∷◌, ◌++◌, length, Ok, Err, sym, ap, ◌∙◌, rules}
use Rattle.wire.specs.declared.refusal.Refusal.TheVariants.{NoRoom}
use Rattle.tables.specs.Model.{rising, all_own, fields_of, changed, all_well}
use Rattle.tables.specs.Shown.{object_of}
use Rattle.objects.specs.Calls.{heap_of, with_objects, link_answer, linked_to}
use Rattle.tables.proofs.Well.{well_append, well_one, well_fields}
use Rattle.objects.proofs.Helds.{held_facts, held_fields, accepted, refused_so, set_names, set_objects, set_well}
use Rattle.objects.proofs.store.Objects.link.Goals as goal

full : (c : goal.Then-is_full) → Err NoRoom ≡ link_answer c.args.o.0 c.args.p.0 (heap_of c.args.self.now)
full c =
    let s = c.args.self.now in
    let o = c.args.o.0 in
    let h = held_facts s o c.args.p.0 c.in_ok-at.at c.in_ok-at.ensures.value in
    let f = held_fields s o c.args.p.0 c.in_ok-at.at h c.index.result.now c.index.ensures in
    let named = h.named in
    let held = h.held in
    let full : leb 8 (length (fields_of o (heap_of s).objects)) ≡ true = ap (λ fs. leb 8 (length fs)) f ∙ sym c.is_full.ensures ∙ c.if-is_full.true in
    search rules

pub returns-then-is_full-clause-value : goal.returns-then-is_full-clause-value
returns-then-is_full-clause-value c = full c

pub returns-then-is_full-clause-after : goal.returns-then-is_full-clause-after
returns-then-is_full-clause-after c =
    let h = heap_of c.args.self.now in
    refused_so (link_answer c.args.o.0 c.args.p.0 h) NoRoom (linked_to c.args.o.0 c.args.p.0 h) h (full c)

pub invariant_of-self : goal.invariant_of-self
invariant_of-self c =
    let s = c.args.self.now in
    let o = c.args.o.0 in
    let p = c.args.p.0 in
    let x = c.index_mut.result.now in
    let at = c.in_ok-at.at in
    let h = held_facts s o p at c.in_ok-at.ensures.value in
    let f = held_fields s o p at h x c.index_mut.ensures.value in
    let fs = (object_of x).fields ++ p ∷ [] in
    let e = set_names s o p at h x c.link.new.self fs c.index_mut.ensures.value c.link.ensures in
    let well : all_well s.houses fs ≡ true = well_append s.houses (object_of x).fields (p ∷ []) (ap (all_well s.houses) (sym f) ∙ well_fields s.houses o (heap_of s).objects s.well_fields) (well_one s.houses p (search rules)) in
    record {
      sixteen = s.sixteen;
      inside = s.inside;
      few = s.few;
      room = s.room;
      ordered = ap rising e ∙ s.ordered;
      own = ap (all_own s.home.0 s.made) e ∙ s.own;
      few_roots = s.few_roots;
      room_roots = s.room_roots;
      ordered_roots = s.ordered_roots;
      well_roots = s.well_roots;
      well_fields = set_well s o p at h x c.link.new.self fs c.index_mut.ensures.value c.link.ensures well;
    }

done : (c : goal.After-self-2-1) → Ok tt ≡ link_answer c.args.o.0 c.args.p.0 (heap_of c.args.self.now)
done c =
    let s = c.args.self.now in
    let o = c.args.o.0 in
    let h = held_facts s o c.args.p.0 c.in_ok-at.at c.in_ok-at.ensures.value in
    let f = held_fields s o c.args.p.0 c.in_ok-at.at h c.index.result.now c.index.ensures in
    let named = h.named in
    let held = h.held in
    let free : leb 8 (length (fields_of o (heap_of s).objects)) ≡ false = ap (λ fs. leb 8 (length fs)) f ∙ sym c.is_full.ensures ∙ c.if-is_full.false in
    search rules

pub returns-clause-value : goal.returns-clause-value
returns-clause-value c = done c

pub returns-clause-after : goal.returns-clause-after
returns-clause-after c =
    let s = c.args.self.now in
    let o = c.args.o.0 in
    let p = c.args.p.0 in
    let x = c.index_mut.result.now in
    let at = c.in_ok-at.at in
    let h = held_facts s o p at c.in_ok-at.ensures.value in
    let f = held_fields s o p at h x c.index_mut.ensures.value in
    ap (λ xs. with_objects xs (heap_of s)) (set_objects s o p at h x c.link.new.self ((object_of x).fields ++ p ∷ []) c.index_mut.ensures.value c.link.ensures ∙ ap (λ fs. changed o (fs ++ p ∷ []) (heap_of s).objects) (sym f))
    ∙ accepted (link_answer o p (heap_of s)) tt (linked_to o p (heap_of s)) (heap_of s) (done c)
