-- The answer to a telling that comes.
use Rattle.std.proofs.Common.{◌≡◌, ℕ, Bool, true, false, not, ◌||◌, eqb, ◌⊎◌, List, [], sym, refl, ap, ◌∙◌, subst, inl, inr, ⊎_elim}
use mathlib.Core.List.{Memᴰ}
use Rattle.std.proofs.lemmas.Bool.{or_cases, or_left, or_right, not-false, eqb-true, eq-eqb, cond-true}
use Rattle.wire.specs.declared.refusal.Refusal.TheVariants.{Misdelivered, OtherCensus}
use Rattle.tables.specs.Model.{is_in}
use Rattle.census.specs.Model.{Told, names, answered_in, settled}
use Rattle.census.specs.Model as census
use Rattle.census.proofs.Laws.{laws}
use Rattle.census.proofs.Settling.{names_settled, settled_out}
use Rattle.rules.specs.House as rules
use Rattle.rules.specs.Step.{sends, settles}
use Rattle.promise.specs.Rounds.{Turn, AlikePart, Answer}
use Rattle.promise.specs.Rounds as promise
use Rattle.play.specs.Play.{World}
use Rattle.play.specs.Seen.{part_seen, answered_names, seen}
use Rattle.play.proofs.Sending.{both_refl}
use Rattle.play.proofs.Firm.{Firm}
use Rattle.play.proofs.Frame.{Way, free, Tracks, tracks_unless, arrives, alike_by, house_kept, house_refl, part_put, part_kept, part_refl, made_kept, desk_kept}
use Rattle.play.proofs.Likeness.{same_test}
use Rattle.play.proofs.Programs.{truth}
use Rattle.play.proofs.Marking.{answered_in_part}

-- the answer to a telling is noted of what was told
part_settled : (o : ℕ) (p : census.Part) → is_in o (names p.told) ≡ true → AlikePart (promise.hearing o (part_seen p)) (part_seen (census.with_told (settled o p.told) p))
part_settled o p t =
    record {
      told = λ q. ap (λ (xs : List ℕ). is_in q xs) (sym (names_settled o p.told));
      answered = λ q. same_test (eqb o q || is_in q (answered_names p.told)) (is_in q (answered_names (settled o p.told)))
          (λ e. answered_in_part q (settled o p.told) ∙ (law q).1 (⊎_elim (λ z. inr (sym (eqb-true o q z), t)) (λ z. inl (sym (answered_in_part q p.told) ∙ z)) (or_cases (eqb o q) (is_in q (answered_names p.told)) e)))
          (λ e. ⊎_elim (λ z. or_right (eqb o q) (is_in q (answered_names p.told)) (answered_in_part q p.told ∙ z)) (λ z. or_left (eqb o q) (is_in q (answered_names p.told)) (eq-eqb o q (sym z.0))) ((law q).0 (sym (answered_in_part q (settled o p.told)) ∙ e)));
      tally = refl;
      polled = refl;
      stirred = refl;
    }
  where
    law : (q : ℕ) → (answered_in q (settled o p.told) ≡ true → (answered_in q p.told ≡ true) ⊎ ((q ≡ o) × (is_in o (names p.told) ≡ true))) × ((answered_in q p.told ≡ true) ⊎ ((q ≡ o) × (is_in o (names p.told) ≡ true)) → answered_in q (settled o p.told) ≡ true)
    law q =
        subst (λ (x : census.Part). (answered_in q x.told ≡ true → (answered_in q p.told ≡ true) ⊎ ((q ≡ o) × (is_in o (names p.told) ≡ true))) × ((answered_in q p.told ≡ true) ⊎ ((q ≡ o) × (is_in o (names p.told) ≡ true)) → answered_in q x.told ≡ true))
        (cond-true (eqb p.census p.census) (census.with_told (settled o p.told) p) p (eq-eqb p.census p.census refl)) (laws.hears o q p)

module _ (n i : ℕ) (w : World) (f : Firm n i (w.house i)) where
  abbrev h : rules.House
  h = w.house i

  tracks_settled : (o : ℕ) → Memᴰ (Answer (rules.census h) o i) (seen n w).said → (b : Bool) → is_in o (names h.part.told) ≡ b → Tracks true n i w (sends [] (rules.with_part (census.with_told (settled o h.part.told) h.part) h))
  tracks_settled o heard true e r =
      arrives n i w new true [] _ (Way.more Way.same (Turn.answer (seen n w) i o f.inside heard (truth e)) free free (λ _. tt))
      (alike_by n i w new [] (record { net = (seen n w).net; part = promise.set i (promise.hearing o (part_seen (w.house i).part)) (seen n w).part; desk = (seen n w).desk; said = (seen n w).said }) r
      (house_kept w i new (house_refl _)) (made_kept w i new refl) (part_put w i new (promise.hearing o (part_seen (w.house i).part)) (part_settled o (w.house i).part e)) (w.house 0).desk refl (desk_kept w i new refl) (both_refl _) (both_refl _))
    where
      new : rules.House
      new = rules.with_part (census.with_told (settled o (w.house i).part.told) (w.house i).part) (w.house i)
  tracks_settled o heard false e r =
      arrives n i w new true [] (seen n w) Way.same
      (alike_by n i w new [] (seen n w) r (house_kept w i new (house_refl _)) (made_kept w i new refl)
      (part_kept w i new (subst (λ (ts : List Told). AlikePart (part_seen (w.house i).part) (part_seen (census.with_told ts (w.house i).part))) (sym (settled_out o (w.house i).part.told e)) (part_refl _))) (w.house 0).desk refl (desk_kept w i new refl) (both_refl _) (both_refl _))
    where
      new : rules.House
      new = rules.with_part (census.with_told (settled o (w.house i).part.told) (w.house i).part) (w.house i)

  pub tracks_settles : (c o from : ℕ) → Memᴰ (Answer c o from) (seen n w).said → Tracks true n i w (settles c o from h)
  tracks_settles c o from heard =
      tracks_unless true n i w (not (eqb from (rules.self h))) Misdelivered _ (λ a.
      tracks_unless true n i w (not (eqb c (rules.census h))) OtherCensus _ (λ b.
      let own = not-false (eqb c (rules.census h)) b in
      let here = eqb-true from (rules.self h) (not-false (eqb from (rules.self h)) a) ∙ f.self in
      subst (λ (p : census.Part). Tracks true n i w (sends [] (rules.with_part p h))) (sym (cond-true (eqb c h.part.census) (census.with_told (settled o h.part.told) h.part) h.part own))
      (tracks_settled o (subst (λ (z : ℕ). Memᴰ (Answer z o i) (seen n w).said) (eqb-true c (rules.census h) own) (subst (λ (z : ℕ). Memᴰ (Answer c o z) (seen n w).said) here heard)) (is_in o (names h.part.told)) refl)))
