use Rattle.std.proofs.Common.{◌≡◌, ◌++◌, length, take, drop, vec_items, sym, refl, ap, ◌∙◌, subst, arith, rules}
use Rattle.std.proofs.lemmas.List.{length-map, take_at}
use Rattle.tables.specs.Model.{rising, all_own, names, is_in, fields_well}
use Rattle.tables.specs.Marks.{kept_by, Marked}
use Rattle.tables.specs.Met.{Some, Met, Collected}
use Rattle.tables.specs.Shown.{numbers, object_of, objects_of, names_in, name_in}
use Rattle.objects.specs.Calls.{heap_of}
use Rattle.tables.proofs.Well.{kept_well}
use Rattle.tables.proofs.Places.{names_in_place}
use Rattle.tables.proofs.Reach.{place_present}
use Rattle.objects.proofs.Kept.{map_kept, length_kept, rising_kept, own_kept, some_kept, kept_why, kept_in_place}
use Rattle.objects.proofs.Laws.{lasting}
use Rattle.objects.proofs.store.Objects.collect.Goals as goal

pub invariant_of-self : goal.invariant_of-self
invariant_of-self c =
    let s = c.args.self.now in
    let xs = vec_items s.objects in
    let ms = c.met-marks.result in
    let ws = c.close_up-kept.new.objects in
    let r = c.close_up-kept.result in
    let lw : length ws ≡ s.objects.len = c.close_up-kept.auto.objects ∙ c.deref_mut.ensures.len in
    let e : vec_items c.truncate.new.self ≡ kept_by ms xs =
    c.truncate.ensures.items ∙ ap (take r) (take_at ws (drop (length ws) s.objects.items) s.objects.len lw) ∙ c.close_up-kept.ensures.front ∙ ap (kept_by ms) c.deref_mut.ensures.value in
    let ns : names_in (vec_items c.truncate.new.self) ≡ kept_by ms (names_in xs) = ap names_in e ∙ map_kept name_in ms xs in
    record {
      sixteen = s.sixteen;
      inside = s.inside;
      few = omega (arith, c.truncate.new.self.ok.0, ap length e, length_kept ms xs, s.objects.ok.0, s.few);
      room = omega (arith, c.truncate.ensures.capacity, s.room);
      ordered = ap rising ns ∙ rising_kept ms (names_in xs) s.ordered;
      own = ap (all_own s.home.0 s.made) ns ∙ own_kept s.home.0 s.made ms (names_in xs) s.own;
      few_roots = s.few_roots;
      room_roots = s.room_roots;
      ordered_roots = s.ordered_roots;
      well_roots = s.well_roots;
      well_fields = ap (fields_well s.houses) (ap objects_of e ∙ map_kept object_of ms xs) ∙ kept_well s.houses ms (objects_of xs) s.well_fields;
    }

pub returns : goal.returns
returns c =
    let s = c.args.self.now in
    let xs = vec_items s.objects in
    let ms = c.met-marks.result in
    let from = numbers (vec_items s.roots) ++ numbers c.args.listed.now in
    let ws = c.close_up-kept.new.objects in
    let r = c.close_up-kept.result in
    let lw : length ws ≡ s.objects.len = c.close_up-kept.auto.objects ∙ c.deref_mut.ensures.len in
    let e : vec_items c.truncate.new.self ≡ kept_by ms xs =
    c.truncate.ensures.items ∙ ap (take r) (take_at ws (drop (length ws) s.objects.items) s.objects.len lw) ∙ c.close_up-kept.ensures.front ∙ ap (kept_by ms) c.deref_mut.ensures.value in
    let marked : Marked xs from ms = c.met-marks.ensures in
    let lm : length ms ≡ 1024 = search rules in
    let ln = length-map xs name_in in
    let os : objects_of (vec_items c.truncate.new.self) ≡ kept_by ms (objects_of xs) = ap objects_of e ∙ map_kept object_of ms xs in
    let ns : names (objects_of (vec_items c.truncate.new.self)) ≡ kept_by ms (names_in xs) = names_in_place (vec_items c.truncate.new.self) ∙ ap names_in e ∙ map_kept name_in ms xs in
    let done : Collected (heap_of s) (numbers c.args.listed.now) (record { home = s.home.0; houses = s.houses; made = s.made; objects = objects_of (vec_items c.truncate.new.self); roots = numbers (vec_items s.roots) }) =
    record {
      home = refl;
      houses = refl;
      made = refl;
      roots = refl;
      some = subst (λ ys. Some ys (objects_of xs)) (sym os) (some_kept ms (objects_of xs) (omega (arith, length-map xs object_of, s.few, s.objects.ok.0)));
      stays = λ o here m.
          let q = place_present xs s.ordered o here in
          ap (is_in o) ns ∙ kept_in_place o ms (names_in xs) q.0 (omega (arith, q.1)) ((marked q.0 q.1).1 (subst (Met (objects_of xs) from) (sym q.2) m)) q.2;
      only = λ o here.
          let q = kept_why o ms (names_in xs) (sym (ap (is_in o) ns) ∙ here) in
          subst (Met (objects_of xs) from) q.3 ((marked q.0 (omega (arith, q.1))).0 q.2);
    } in
    record {
      done = done;
      lasting = lasting (heap_of s) (numbers c.args.listed.now) (record { home = s.home.0; houses = s.houses; made = s.made; objects = objects_of (vec_items c.truncate.new.self); roots = numbers (vec_items s.roots) }) done (ap rising (names_in_place xs) ∙ s.ordered) (ap rising ns ∙ rising_kept ms (names_in xs) s.ordered);
    }
