use Rattle.std.proofs.Common.{◌≡◌, ◌<◌, ◌≤◌, true, false, ◌||◌, ◌++◌, length, get_or, sym, refl, ap, ◌∙◌, subst, ⊎_elim, arith, rules, ℕ}
use Rattle.std.proofs.lemmas.List.{length-map}
use Rattle.std.proofs.lemmas.Bool.{ltb-true, ltb-false, both_ways, or_left, or_right, or_cases}
use Rattle.tables.specs.Model.{is_in}
use Rattle.tables.specs.Met.{Met, start}
use Rattle.tables.specs.Marks.{noted_all, passed, count, field_lists}
use Rattle.tables.specs.Shown.{numbers, objects_of, names_in, name_in}
use Rattle.tables.proofs.Noted.{count_bound}
use Rattle.tables.proofs.Passes.{noted_all_why, noted_all_marks, noted_all_keeps, length_noted_all, passed_still, length_passed}
use Rattle.tables.proofs.Reach.{sound_passed, begun_passed, met_marked, Sound, Begun, is_in_append}
use Rattle.tables.proofs.marking.mark.Goals as goal

pub passes-init : goal.passes-init
passes-init c =
    let xs = c.args.objects.now in
    let ns = names_in xs in
    let rs = numbers c.args.roots.now in
    let ls = numbers c.args.listed.now in
    let m0 = c.args.marks.now in
    let ms = c.spread-2.new.self.marks.now in
    let e : ms ≡ noted_all ls ns (noted_all rs ns m0) = c.spread-2.ensures.after ∙ ap (λ o. noted_all ls (names_in o.now) c.spread.new.self.marks.now) c.spread.ensures.kept ∙ ap (noted_all ls ns) c.spread.ensures.after in
    let both : (o : ℕ) → is_in o (rs ++ ls) ≡ (is_in o rs || is_in o ls) = λ o. is_in_append o rs ls in
    record {
      kept = ap (λ o. o.now) (c.spread-2.ensures.kept ∙ c.spread.ensures.kept);
      same_reference = refl;
      sound = λ k h t. ⊎_elim
          (λ t. ⊎_elim
          (λ u. absurd (both_ways (get_or m0 k false) (c.requires.clear k) u))
          (λ u. start (both (get_or ns k 0) ∙ or_left (is_in (get_or ns k 0) rs) (is_in (get_or ns k 0) ls) u))
          (noted_all_why ns rs m0 k t))
          (λ t. start (both (get_or ns k 0) ∙ or_right (is_in (get_or ns k 0) rs) (is_in (get_or ns k 0) ls) t))
          (noted_all_why ns ls (noted_all rs ns m0) k (subst (λ x. get_or x k false ≡ true) e t));
      begun = λ k h t. subst (λ x. get_or x k false ≡ true) (sym e) (
          let l : k < length m0 = omega (arith, c.requires.room, length-map xs name_in) in
          ⊎_elim
          (λ t. noted_all_keeps ns ls (noted_all rs ns m0) k (noted_all_marks ns rs m0 k h l t))
          (λ t. noted_all_marks ns ls (noted_all rs ns m0) k h (omega (arith, length_noted_all ns rs m0)) t)
          (or_cases (is_in (get_or ns k 0) rs) (is_in (get_or ns k 0) ls) (sym (both (get_or ns k 0)) ∙ t)));
    }

pub passes-smaller : goal.passes-smaller
passes-smaller c =
    let ms = c.passes.marking.marks.now in
    let new = c.pass.new.self.marks.now in
    let xs = c.passes.marking.objects.now in
    let a : count ms < count new = ltb-true (count ms) (count new) (sym c.pass.ensures.added ∙ c.if-not-pass.false) in
    omega (arith, a, count_bound new, ap length c.pass.ensures.after, length_passed (names_in xs) (field_lists xs) 0 (length xs) ms)

pub passes-preserved : goal.passes-preserved
passes-preserved c =
    let xs = c.args.objects.now in
    let from = numbers c.args.roots.now ++ numbers c.args.listed.now in
    let inv = c.passes.invariant in
    let ms = c.passes.marking.marks.now in
    let e : c.pass.new.self.marks.now ≡ passed (names_in xs) (field_lists xs) 0 (length xs) ms = c.pass.ensures.after ∙ ap (λ o. passed (names_in o) (field_lists o) 0 (length o) ms) inv.kept in
    record {
      kept = ap (λ o. o.now) c.pass.ensures.kept ∙ inv.kept;
      same_reference = c.pass.ensures.same_reference ∙ inv.same_reference;
      sound = subst (λ x. Sound xs from x) (sym e) (sound_passed xs c.requires.ordered from ms inv.sound);
      begun = subst (λ x. Begun xs from x) (sym e) (begun_passed xs c.requires.ordered from ms inv.begun);
    }

pub returns : goal.returns
returns c k h =
    let xs = c.args.objects.now in
    let ns = names_in xs in
    let from = numbers c.args.roots.now ++ numbers c.args.listed.now in
    let inv = c.passes.invariant in
    let ms = c.passes.marking.marks.now in
    let last = c.pass.new.self.marks.now in
    let le : count last ≤ count ms = ltb-false (count ms) (count last) (sym c.pass.ensures.added ∙ c.if-not-pass.true) in
    let e : last ≡ passed ns (field_lists xs) 0 (length xs) ms = c.pass.ensures.after ∙ ap (λ o. passed (names_in o) (field_lists o) 0 (length o) ms) inv.kept in
    let still : count (passed ns (field_lists xs) 0 (length xs) ms) ≤ count ms = subst (λ x. count x ≤ count ms) e le in
    let same : last ≡ ms = e ∙ (passed_still ns (field_lists xs) 0 (length xs) ms still).0 in
    let len : length xs ≤ length ms = omega (arith, c.passes.marking.room, ap length inv.kept) in
    let l : k < length ns = omega (arith, length-map xs name_in) in
    let here = get_or ns k 0 in
    -- the marks are still the caller's
    let kept = c.pass.ensures.same_reference ∙ inv.same_reference ∙ c.spread-2.ensures.same_reference ∙ c.spread.ensures.same_reference in
    subst (λ ys. (get_or ys k false ≡ true → Met (objects_of xs) from here) × (Met (objects_of xs) from here → get_or ys k false ≡ true)) {x = ms} (sym (search (rules, kept, same))) (
      λ e. inv.sound k l e,
      λ m. met_marked xs c.requires.ordered from ms len inv.begun still m k l refl,
    )
