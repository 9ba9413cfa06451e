use Rattle.std.proofs.Common.{◌≡◌, true, Some, Ok, vec_items, sym, ap, ◌∙◌, arith, rules}
use Rattle.wire.specs.declared.refusal.Refusal.TheVariants.{NotRoot}
use Rattle.tables.specs.Model.{is_in, without, rising, place_of, all_well}
use Rattle.tables.specs.Shown.{number, numbers}
use Rattle.objects.specs.Calls.{heap_of, with_roots, drop_answer, unrooted}
use Rattle.tables.proofs.Well.{well_without}
use Rattle.tables.proofs.Places.{place_facts, removed_without, rising_without}
use Rattle.tables.proofs.Edits.{map_removed}
use Rattle.objects.proofs.Laws.{frees, without_gone}
use Rattle.objects.proofs.Helds.{accepted, hit}
use Rattle.objects.proofs.store.Objects.release.Goals as goal

-- the root is there, and goes
gone : (c : goal.After-remove) → (is_in c.args.o.0 (numbers (vec_items c.args.self.now.roots)) ≡ true) × (numbers (vec_items c.remove.new.self) ≡ without c.args.o.0 (numbers (vec_items c.args.self.now.roots)))
gone c =
    let s = c.args.self.now in
    let o = c.args.o.0 in
    let at = c.in_ok-at.at in
    let ns = numbers (vec_items s.roots) in
    let e : Some at ≡ place_of o ns = hit c.find.result NotRoot c.in_ok-at.at (sym c.in_ok-at.was ∙ c.ok_or.ensures.value) ∙ c.find.ensures.value ∙ ap (λ xs. place_of o (numbers xs)) c.deref.ensures.value in
    let f = place_facts o ns at s.ordered_roots e in
    (f.0, ap numbers c.remove.ensures.items ∙ map_removed number (vec_items s.roots) at ∙ removed_without o ns at s.ordered_roots f.1 f.2)

pub invariant_of-self : goal.invariant_of-self
invariant_of-self c =
    let s = c.args.self.now in
    let g = gone c in
    record {
      sixteen = s.sixteen;
      inside = s.inside;
      few = s.few;
      room = s.room;
      ordered = s.ordered;
      own = s.own;
      few_roots = omega (arith, c.remove.ensures.len, s.few_roots);
      room_roots = omega (arith, c.remove.ensures.capacity, s.room_roots);
      ordered_roots = ap rising g.1 ∙ rising_without c.args.o.0 (numbers (vec_items s.roots)) s.ordered_roots;
      well_roots = ap (all_well s.houses) g.1 ∙ well_without s.houses c.args.o.0 (numbers (vec_items s.roots)) s.well_roots;
      well_fields = s.well_fields;
    }

pub returns : goal.returns
returns c =
    let s = c.args.self.now in
    let o = c.args.o.0 in
    let at = c.in_ok-at.at in
    let ns = numbers (vec_items s.roots) in
    let e : Some at ≡ place_of o ns = hit c.find.result NotRoot c.in_ok-at.at (sym c.in_ok-at.was ∙ c.ok_or.ensures.value) ∙ c.find.ensures.value ∙ ap (λ xs. place_of o (numbers xs)) c.deref.ensures.value in
    let f = place_facts o ns at s.ordered_roots e in
    let there : is_in o (heap_of s).roots ≡ true = f.0 in
    let v : Ok tt ≡ drop_answer o (heap_of s) = search rules in
    record {
      value = v;
      after = ap (λ os. with_roots os (heap_of s)) (ap numbers c.remove.ensures.items ∙ map_removed number (vec_items s.roots) at ∙ removed_without o ns at s.ordered_roots f.1 f.2) ∙ accepted (drop_answer o (heap_of s)) tt (unrooted o (heap_of s)) (heap_of s) v;
      frees = frees o (with_roots (numbers (vec_items c.remove.new.self)) (heap_of s)) (ap (is_in o) (ap numbers c.remove.ensures.items ∙ map_removed number (vec_items s.roots) at ∙ removed_without o ns at s.ordered_roots f.1 f.2) ∙ without_gone o ns);
    }
