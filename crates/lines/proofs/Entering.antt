-- What `enter` answers and makes of the list, by what it finds.
use Rattle.std.proofs.Common.{◌≡◌, ℕ, ◌<◌, ◌≤◌, true, false, cond, eqb, ltb, length, is_some, Some, None, Ok, Err, sym, ap, ◌∙◌, arith}
use Rattle.std.proofs.lemmas.Bool.{lt-ltb, le-ltb, or_from, or_left, or_right, and_parts, eqb-true, eqb-false, ltb-true, not-true}
use Rattle.wire.specs.declared.refusal.Refusal.TheVariants.{NoRoom}
use Rattle.wire.specs.Names.{home}
use Rattle.lines.specs.Listed.{belongs, fits, listed, line, place, entered}
use Rattle.lines.specs.Lists.{lines, row_of, entering, Pushed, Ready, Changed}
use Rattle.lines.specs.declared.table.Lines.{Lines}
use Rattle.std.proofs.lemmas.List.FromFn.{length-map-range_with_len}
use Rattle.lines.proofs.Rows.{pushed_lines, fresh_ready}
use Rattle.lines.proofs.Places.{listed_place, entered_none, unplaced, model_found}

module _ (t : Lines) (o j : ℕ) (in' : true ≡ belongs t.home.0 t.houses o j) where
  answer : entering t.home.0 t.houses t.room o j (lines t) ≡ cond (fits o j (lines t) t.room) (Ok tt) (Err NoRoom)
  answer = rw (sym in')

  pub enter_full : None ≡ place o j 0 (lines t) → t.room ≤ t.len → Err NoRoom ≡ entering t.home.0 t.houses t.room o j (lines t)
  enter_full e h =
      let l : listed o j (lines t) ≡ false = sym (listed_place o j 0 (lines t)) ∙ ap is_some (sym e) in
      let f : fits o j (lines t) t.room ≡ false = or_from _ _ l (le-ltb (length (lines t)) t.room (rw length-map-range_with_len h)) in
      sym (answer ∙ ap (λ b. cond b (Ok tt) (Err NoRoom)) f)

  pub enter_new : t.len < t.room → Ok tt ≡ entering t.home.0 t.houses t.room o j (lines t)
  enter_new h =
      let f : fits o j (lines t) t.room ≡ true = or_right _ _ (lt-ltb (length (lines t)) t.room (rw length-map-range_with_len h)) in
      sym (answer ∙ ap (λ b. cond b (Ok tt) (Err NoRoom)) f)

  pub enter_found : (k : ℕ) → Some k ≡ place o j 0 (lines t) → Ok tt ≡ entering t.home.0 t.houses t.room o j (lines t)
  enter_found k e =
      let l : listed o j (lines t) ≡ true = sym (listed_place o j 0 (lines t)) ∙ ap is_some (sym e) in
      let f : fits o j (lines t) t.room ≡ true = or_left _ _ l in
      sym (answer ∙ ap (λ b. cond b (Ok tt) (Err NoRoom)) f)

  pub enter_ready : (s c : ℕ) → None ≡ place o j 0 (lines t) → t.len < t.room → Ready t (line o j s c)
  enter_ready s c e h =
      let w = and_parts (eqb (home o) t.home.0) _ (sym in') in
      let v = and_parts _ (ltb j t.houses) w.1 in
      fresh_ready t (line o j s c) (record {
        room = h;
        own = eqb-true _ _ w.0;
        apart = eqb-false _ _ (not-true _ v.0);
        below = ltb-true _ _ v.1;
        alone = λ k h p q. unplaced o j (row_of t) 0 t.len k (sym e) (omega arith) (omega arith) p q;
      })

module _ (t : Lines) (o j s c : ℕ) where
  pub entered_new : (u : Lines) → None ≡ place o j 0 (lines t) → Pushed t (line o j s c) u → t.len < t.room → lines u ≡ entered o j s c (lines t)
  entered_new u e w h = pushed_lines t u (line o j s c) w h ∙ sym (entered_none o j s c 0 (lines t) (sym e))

  pub entered_old : (u : Lines) (k : ℕ) → Some k ≡ place o j 0 (lines t) → k < t.len → Changed t k s c u → lines u ≡ entered o j s c (lines t)
  entered_old u k e h w =
      let r = t.roomy in
      let i = t.within in
      rw (w.objects, w.holders, w.stamps, w.censuses, w.len) (model_found _ _ _ _ t.len (omega arith) (omega arith) o j s c k h (sym e))
