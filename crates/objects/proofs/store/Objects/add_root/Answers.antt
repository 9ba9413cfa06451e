use Rattle.std.proofs.Common.{◌≡◌, ◌<◌, ◌≤◌, true, false, not, ◌||◌, length, is_ok, Ok, Err, vec_items, vec_len, sym, refl, ap, ◌∙◌, arith}
use Rattle.std.proofs.lemmas.List.{length-map}
use Rattle.std.proofs.lemmas.Bool.{cond-true, cond-false, or_left, or_right, or_from, ltb-true, not_from_true, not_from_false}
use Rattle.wire.specs.declared.refusal.Refusal.TheVariants.{NoRoom}
use Rattle.objects.specs.Calls.{heap_of, with_roots, roomy}
use Rattle.tables.specs.Model.{rising, added, is_in, all_well}
use Rattle.tables.specs.Shown.{number, numbers}
use Rattle.objects.proofs.Helds.{roomy_len}
use Rattle.tables.proofs.Well.{well_added}
use Rattle.tables.proofs.Places.{added_in, rising_added, length_added}
use Rattle.objects.proofs.store.Objects.add_root.Goals as goal

pub returns-then-is_root : goal.returns-then-is_root
returns-then-is_root c =
    let o = c.args.o.0 in
    let s = c.args.self.now in
    let there : is_in o (heap_of s).roots ≡ true = sym c.is_root.ensures ∙ c.if-is_root.true in
    record {
      value = sym (cond-false (not (is_in o (heap_of s).roots || roomy (heap_of s))) (Err NoRoom) (Ok tt) (not_from_true (is_in o (heap_of s).roots || roomy (heap_of s)) (or_left (is_in o (heap_of s).roots) (roomy (heap_of s)) there)));
      after = ap (λ os. with_roots os (heap_of s)) (sym (added_in o (heap_of s).roots s.ordered_roots there));
    }

pub returns-then-not-has_room : goal.returns-then-not-has_room
returns-then-not-has_room c =
    let o = c.args.o.0 in
    let s = c.args.self.now in
    let out : is_in o (heap_of s).roots ≡ false = sym c.is_root.ensures ∙ c.if-is_root.false in
    let full : roomy (heap_of s) ≡ false = sym (roomy_len s) ∙ sym c.has_room.ensures ∙ c.if-not-has_room.true in
    record {
      value = sym (cond-true (not (is_in o (heap_of s).roots || roomy (heap_of s))) (Err NoRoom) (Ok tt) (not_from_false (is_in o (heap_of s).roots || roomy (heap_of s)) (or_from (is_in o (heap_of s).roots) (roomy (heap_of s)) out full)));
      after = refl;
    }

-- what is entered where there is room
room : (c : goal.After-enter) → (vec_len c.args.self.now.roots < 256) × (numbers (vec_items c.enter.new.table) ≡ added c.args.o.0 (numbers (vec_items c.args.self.now.roots)))
room c =
    let o = c.args.o.0 in
    let s = c.args.self.now in
    let b : roomy (heap_of s) ≡ true = sym (roomy_len s) ∙ sym c.has_room.ensures ∙ c.if-not-has_room.false in
    let l : length (heap_of s).roots < 256 = ltb-true (length (heap_of s).roots) 256 b in
    let n = length-map (vec_items s.roots) number in
    let lt : vec_len s.roots < 256 = omega (arith, s.roots.ok.0) in
    (lt, c.enter.ensures.items ∙ cond-true (is_ok c.enter.result) (added o (heap_of s).roots) (heap_of s).roots (c.enter.ensures.succeeds (omega (arith, s.room_roots))))

pub invariant_of-self : goal.invariant_of-self
invariant_of-self c =
    let s = c.args.self.now in
    let o = c.args.o.0 in
    let r = room c in
    let few : vec_len c.enter.new.table ≤ 256 =
    omega (arith, c.enter.new.table.ok.0, length-map (vec_items c.enter.new.table) number, ap length r.1, length_added o (heap_of s).roots, length-map (vec_items s.roots) number, s.roots.ok.0, r.0) in
    record {
      sixteen = s.sixteen;
      inside = s.inside;
      few = s.few;
      room = s.room;
      ordered = s.ordered;
      own = s.own;
      few_roots = few;
      room_roots = omega (arith, s.room_roots, c.enter.ensures.capacity);
      ordered_roots = ap rising r.1 ∙ rising_added o (heap_of s).roots s.ordered_roots;
      well_roots = ap (all_well s.houses) r.1 ∙ well_added s.houses o (heap_of s).roots c.requires s.well_roots;
      well_fields = s.well_fields;
    }

pub returns : goal.returns
returns c =
    let s = c.args.self.now in
    let o = c.args.o.0 in
    let b : roomy (heap_of s) ≡ true = sym (roomy_len s) ∙ sym c.has_room.ensures ∙ c.if-not-has_room.false in
    let l : length (heap_of s).roots < 256 = ltb-true (length (heap_of s).roots) 256 b in
    let n = length-map (vec_items s.roots) number in
    record {
      value = sym (cond-false (not (is_in o (heap_of s).roots || roomy (heap_of s))) (Err NoRoom) (Ok tt) (not_from_true (is_in o (heap_of s).roots || roomy (heap_of s)) (or_right (is_in o (heap_of s).roots) (roomy (heap_of s)) b)));
      after = ap (λ os. with_roots os (heap_of s)) (c.enter.ensures.items ∙ cond-true (is_ok c.enter.result) (added o (heap_of s).roots) (heap_of s).roots (c.enter.ensures.succeeds (omega (arith, s.roots.ok.0, s.room_roots))));
    }
