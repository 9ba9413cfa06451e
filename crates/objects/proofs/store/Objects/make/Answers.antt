use Rattle.std.proofs.Common.{◌≡◌, ◌+◌, ◌*◌, ◌<◌, ◌≤◌, true, false, ◌&&◌, ◌||◌, eqb, ltb, leb, [], ◌∷◌, ◌++◌, length, is_ok, Ok, Err, vec_items, vec_len, sym, ap, ◌∙◌, arith, rules}
use Rattle.std.proofs.lemmas.List.{length-map}
use Rattle.std.proofs.lemmas.Bool.{cond-true, ne_eqb, le-leb, lt-leb, lt-ltb, le-ltb, ltb-true, and_left, and_right, and_from, or_left, or_right, or_from}
use Rattle.wire.specs.declared.refusal.Refusal.TheVariants.{NoRoom, OutOfNumbers}
use Rattle.wire.specs.Names.{name, well_formed}
use Rattle.tables.specs.Model.{rising, all_own, all_well, fields_well, added, bare}
use Rattle.tables.specs.Shown.{number, numbers, object_of, objects_of, names_in}
use Rattle.objects.specs.Calls.{heap_of, make_answer, made_new, roomy}
use Rattle.tables.proofs.Well.{well_added, well_made, pushed_well}
use Rattle.tables.proofs.Places.{rising_added, length_added}
use Rattle.objects.proofs.Numbering.{named_ok, named_err, rising_made, own_made}
use Rattle.objects.proofs.Helds.{roomy_len, accepted, refused_so}
use Rattle.tables.proofs.Table.{pushed_names, pushed_objects}
use Rattle.objects.proofs.store.Objects.make.Goals as goal
use Rattle.objects.proofs.store.Objects.make.Goals.{then-len-ge1024-via-then-len-ge1024, then-len-ge1024-via-else-len-ge1024+then-not-has_room}

pub returns-then-len-ge1024 : goal.returns-then-len-ge1024
returns-then-len-ge1024 c =
    let s = c.args.self.now in
    let k = c.args.number in
    let h = heap_of s in
    let z : eqb k 0 ≡ false = ne_eqb k 0 c.if-number-eq0.false in
    let full : (ltb (length h.objects) 1024 && roomy h) ≡ false = elim c.then-len-ge1024.branch [
      | then-len-ge1024-via-then-len-ge1024 w ↦ and_left (ltb (length h.objects) 1024) (roomy h) (le-ltb (length h.objects) 1024 (omega (arith, w.if-len-ge1024.true, c.len.ensures, s.objects.ok.0, length-map (vec_items s.objects) object_of)))
      | then-len-ge1024-via-else-len-ge1024+then-not-has_room w ↦ and_right (ltb (length h.objects) 1024) (roomy h) (sym (roomy_len s) ∙ sym w.has_room.ensures ∙ w.if-not-has_room.true)
    ] in
    let v : Err NoRoom ≡ make_answer k h = search rules in
    record { value = v; after = refused_so (make_answer k h) NoRoom (made_new k h) h v }

pub returns-then-number-from : goal.returns-then-number-from
returns-then-number-from c =
    let s = c.args.self.now in
    let k = c.args.number in
    let h = heap_of s in
    let z : eqb k 0 ≡ false = ne_eqb k 0 c.if-number-eq0.false in
    let free : (ltb (length h.objects) 1024 && roomy h) ≡ true = and_from (ltb (length h.objects) 1024) (roomy h) (lt-ltb (length h.objects) 1024 (omega (arith, c.if-len-ge1024.false, c.len.ensures, s.objects.ok.0, length-map (vec_items s.objects) object_of))) (sym (roomy_len s) ∙ sym c.has_room.ensures ∙ c.if-not-has_room.false) in
    let low : (leb k h.made || ltb 4294967295 (k * 16 + h.home)) ≡ true = or_left (leb k h.made) (ltb 4294967295 (k * 16 + h.home)) (le-leb k h.made (omega (arith, c.if-number-from.true, c.from.ensures))) in
    let v : Err OutOfNumbers ≡ make_answer k h = search rules in
    record { value = v; after = refused_so (make_answer k h) OutOfNumbers (made_new k h) h v }

pub returns-in_err-name : goal.returns-in_err-name
returns-in_err-name c =
    let s = c.args.self.now in
    let k = c.args.number in
    let h = heap_of s in
    let z : eqb k 0 ≡ false = ne_eqb k 0 c.if-number-eq0.false in
    let free : (ltb (length h.objects) 1024 && roomy h) ≡ true = and_from (ltb (length h.objects) 1024) (roomy h) (lt-ltb (length h.objects) 1024 (omega (arith, c.if-len-ge1024.false, c.len.ensures, s.objects.ok.0, length-map (vec_items s.objects) object_of))) (sym (roomy_len s) ∙ sym c.has_room.ensures ∙ c.if-not-has_room.false) in
    let big = named_err k s.home c.in_err-name.field-0.0 c.if-number-eq0.false (omega (arith, s.inside, s.sixteen)) (sym c.in_err-name.was ∙ c.new.ensures.value) in
    let out : (leb k h.made || ltb 4294967295 (k * 16 + h.home)) ≡ true = or_right (leb k h.made) (ltb 4294967295 (k * 16 + h.home)) (lt-ltb 4294967295 (k * 16 + h.home) (omega (arith, big.0))) in
    let v : Err OutOfNumbers ≡ make_answer k h = search rules in
    let w : Err c.in_err-name.field-0.0 ≡ make_answer k h = ap Err big.1 ∙ v in
    record { value = search rules; after = refused_so (make_answer k h) OutOfNumbers (made_new k h) h v }

pub invariant_of-self : goal.invariant_of-self
invariant_of-self c =
    let s = c.args.self.now in
    let k = c.args.number in
    let o = k * 16 + s.home.0 in
    let xs = vec_items s.objects in
    let q = named_ok k s.home c.in_ok-name.name c.in_ok-name.ensures.value in
    let on : c.in_ok-name.name.0 ≡ o = ap number q.0 in
    let kn : c.number-self.result ≡ k = c.number-self.ensures ∙ c.in_ok-name.ensures.parts.number in
    let ns = pushed_names xs (vec_items c.push_reserved.new.self) c.new-2.result o c.push_reserved.ensures.items (c.new-2.ensures ∙ ap bare on) in
    let os = pushed_objects xs (vec_items c.push_reserved.new.self) c.new-2.result o c.push_reserved.ensures.items (c.new-2.ensures ∙ ap bare on) in
    let up : s.made < k = omega (arith, c.if-number-from.false, c.from.ensures) in
    let l16 : s.home.0 < 16 = omega (arith, s.inside, s.sixteen) in
    let free : vec_len s.roots < 256 = ltb-true (vec_len s.roots) 256 (sym c.has_room.ensures ∙ c.if-not-has_room.false) in
    let rs : numbers (vec_items c.enter.new.table) ≡ added c.in_ok-name.name.0 (numbers (vec_items s.roots)) = c.enter.ensures.items ∙ cond-true (is_ok c.enter.result) (added c.in_ok-name.name.0 (numbers (vec_items s.roots))) (numbers (vec_items s.roots)) (c.enter.ensures.succeeds (omega (arith, s.room_roots))) in
    let few : vec_len c.enter.new.table ≤ 256 =
    omega (arith, c.enter.new.table.ok.0, length-map (vec_items c.enter.new.table) number, ap length rs, length_added c.in_ok-name.name.0 (numbers (vec_items s.roots)), length-map (vec_items s.roots) number, s.roots.ok.0) in
    record {
      sixteen = s.sixteen;
      inside = s.inside;
      few = omega (arith, c.push_reserved.ensures.len, c.if-len-ge1024.false, c.len.ensures);
      room = omega (arith, c.push_reserved.ensures.capacity, s.room);
      ordered = ap rising ns ∙ rising_made s.home.0 s.made k (names_in xs) s.ordered s.own up;
      own = ap (all_own s.home.0 c.number-self.result) ns ∙ ap (λ m. all_own s.home.0 m (names_in xs ++ o ∷ [])) kn ∙ own_made s.home.0 s.made k (names_in xs) l16 up s.own;
      few_roots = few;
      room_roots = omega (arith, c.enter.ensures.capacity, s.room_roots);
      ordered_roots = ap rising rs ∙ rising_added c.in_ok-name.name.0 (numbers (vec_items s.roots)) s.ordered_roots;
      well_roots = ap (all_well s.houses) rs ∙ well_added s.houses c.in_ok-name.name.0 (numbers (vec_items s.roots)) (ap (λ y. well_formed s.houses (name y)) on ∙ well_made s.houses k s.home.0 (omega arith) l16 s.inside) s.well_roots;
      well_fields = ap (fields_well s.houses) os ∙ pushed_well s.houses o (objects_of xs) s.well_fields;
    }

pub returns : goal.returns
returns c =
    let s = c.args.self.now in
    let k = c.args.number in
    let h = heap_of s in
    let o = k * 16 + s.home.0 in
    let xs = vec_items s.objects in
    let q = named_ok k s.home c.in_ok-name.name c.in_ok-name.ensures.value in
    let on : c.in_ok-name.name.0 ≡ o = ap number q.0 in
    let kn : c.number-self.result ≡ k = c.number-self.ensures ∙ c.in_ok-name.ensures.parts.number in
    let os = pushed_objects xs (vec_items c.push_reserved.new.self) c.new-2.result o c.push_reserved.ensures.items (c.new-2.ensures ∙ ap bare on) in
    let have : vec_len s.roots < 256 = ltb-true (vec_len s.roots) 256 (sym c.has_room.ensures ∙ c.if-not-has_room.false) in
    let rs : numbers (vec_items c.enter.new.table) ≡ added o h.roots = c.enter.ensures.items ∙ cond-true (is_ok c.enter.result) (added c.in_ok-name.name.0 h.roots) h.roots (c.enter.ensures.succeeds (omega (arith, s.room_roots))) ∙ ap (λ n. added n h.roots) on in
    let z : eqb k 0 ≡ false = ne_eqb k 0 c.if-number-eq0.false in
    let free : (ltb (length h.objects) 1024 && roomy h) ≡ true = and_from (ltb (length h.objects) 1024) (roomy h) (lt-ltb (length h.objects) 1024 (omega (arith, c.if-len-ge1024.false, c.len.ensures, s.objects.ok.0, length-map (vec_items s.objects) object_of))) (sym (roomy_len s) ∙ sym c.has_room.ensures ∙ c.if-not-has_room.false) in
    let inside : (leb k h.made || ltb 4294967295 (k * 16 + h.home)) ≡ false = or_from (leb k h.made) (ltb 4294967295 (k * 16 + h.home)) (lt-leb k h.made (omega (arith, c.if-number-from.false, c.from.ensures))) (le-ltb 4294967295 (k * 16 + h.home) (omega (arith, q.1, s.inside, s.sixteen))) in
    let v : Ok (name o) ≡ make_answer k h = search rules in
    record {
      value = ap Ok q.0 ∙ v;
      after =
          ap (λ m. record { home = h.home; houses = h.houses; made = m; objects = objects_of (vec_items c.push_reserved.new.self); roots = numbers (vec_items c.enter.new.table) }) kn
          ∙ ap (λ ys. record { home = h.home; houses = h.houses; made = k; objects = ys; roots = numbers (vec_items c.enter.new.table) }) os
          ∙ ap (λ rr. record { home = h.home; houses = h.houses; made = k; objects = h.objects ++ bare o ∷ []; roots = rr }) rs
          ∙ accepted (make_answer k h) (name o) (made_new k h) h v;
    }
