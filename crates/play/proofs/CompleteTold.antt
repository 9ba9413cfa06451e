-- A house that has told what it uses, while the answers come in.
use Rattle.std.proofs.Common.{◌≡◌, ℕ, ◌<◌, true, false, eqb, ◌⊎◌, List, [], ◌∷◌, ◌++◌, sym, refl, ap, ◌∙◌, subst, inl, inr, ⊎_elim, arith}
use Rattle.std.proofs.lemmas.Bool.{or_cases, or_left, or_right, cond-true, eqb-true, eq-eqb, both_ways, cases_Bool}
use Rattle.wire.specs.declared.message.Message.TheVariants as message
use Rattle.wire.specs.Names.{home, name, house}
use Rattle.objects.specs.Executed.{names_in_use}
use Rattle.lines.specs.Listed.{Listed, objects_in}
use Rattle.tables.specs.Model.{is_in}
use Rattle.census.specs.Model.{Part, names, answered_in, settled, with_told, hearing, telling, due_of, calm}
use Rattle.census.specs.Laws.{IsTold, IsAnswered}
use Rattle.census.proofs.Laws.{laws}
use Rattle.census.proofs.Settling.{names_settled}
use Rattle.rules.specs.House.{House, self, houses, census, with_part}
use Rattle.rules.specs.Step.{Letter, letter, used}
use Rattle.rules.specs.Sound.{Sound}
use Rattle.rules.proofs.Sound.{used_far}
use Rattle.play.proofs.CompleteGrows.{Grows}

-- house i tells of o, and is answered
abbrev pub telling_of : ℕ → ℕ → ℕ → Letter
telling_of c i o = letter (message.Telling (record { 0 = c }) (name o) (house i))

abbrev pub answer_of : ℕ → ℕ → ℕ → Letter
answer_of c i o = letter (message.Answer (record { 0 = c }) (name o) (house i))

-- these have still to come to their homes, and the answers to those have still to come back
pub record Awaiting (us ts back : List ℕ) (h g : House) : Type 0 where
  pub grows : Grows h g
  pub list : g.list ≡ h.list
  pub all_told : (o : ℕ) → is_in o us ≡ true → IsTold o g.part
  pub all_answered : (o : ℕ) → IsTold o g.part → IsAnswered o g.part ⊎ ((is_in o ts ≡ true) ⊎ (is_in o back ≡ true))

in_end : (o q : ℕ) (xs : List ℕ) → (is_in q xs ≡ true) ⊎ (eqb o q ≡ true) → is_in q (xs ++ (o ∷ [])) ≡ true
in_end o q [] (inl e) = absurd (both_ways false refl e)
in_end o q [] (inr e) = or_left (eqb o q) false e
in_end o q (x ∷ xs) (inl e) = ⊎_elim (λ z. or_left (eqb x q) (is_in q (xs ++ (o ∷ []))) z) (λ z. or_right (eqb x q) (is_in q (xs ++ (o ∷ []))) (in_end o q xs (inl z))) (or_cases (eqb x q) (is_in q xs) e)
in_end o q (x ∷ xs) (inr e) = or_right (eqb x q) (is_in q (xs ++ (o ∷ []))) (in_end o q xs (inr e))

-- a telling has come to its home
pub awaiting_told : (us ts back : List ℕ) (o : ℕ) (h g : House) → Awaiting us (o ∷ ts) back h g → Awaiting us ts (back ++ (o ∷ [])) h g
awaiting_told us ts back o h g a =
    record {
      grows = a.grows;
      list = a.list;
      all_told = a.all_told;
      all_answered = λ q t. ⊎_elim inl (⊎_elim (λ z. ⊎_elim (λ e. inr (inr (in_end o q back (inr e)))) (λ e. inr (inl e)) (or_cases (eqb o q) (is_in q ts) z)) (λ z. inr (inr (in_end o q back (inl z))))) (a.all_answered q t);
    }

hears_own : (o : ℕ) (p : Part) → hearing p.census o p ≡ with_told (settled o p.told) p
hears_own o p = cond-true (eqb p.census p.census) (with_told (settled o p.told) p) p (eq-eqb p.census p.census refl)

told_back : (o : ℕ) (p : Part) → names (hearing p.census o p).told ≡ names p.told
told_back o p = ap (λ (x : Part). names x.told) (hears_own o p) ∙ names_settled o p.told

-- an answer has come
pub awaiting_answered : (us back : List ℕ) (o : ℕ) (h g : House) → Awaiting us [] (o ∷ back) h g → Awaiting us [] back h (with_part (hearing (census g) o g.part) g)
awaiting_answered us back o h g a =
    record {
      grows = subst (λ (x : Part). Grows h (with_part x g)) (sym (hears_own o g.part)) (record { heap = a.grows.heap; desk = a.grows.desk; census = a.grows.census; stirred = a.grows.stirred; tally = a.grows.tally; same = a.grows.same });
      list = a.list;
      all_told = λ q m. ap (is_in q) (told_back o g.part) ∙ a.all_told q m;
      all_answered = λ q t.
          let was : IsTold q g.part = ap (is_in q) (sym (told_back o g.part)) ∙ t in
          ⊎_elim (λ z. inl ((laws.hears o q g.part).1 (inl z)))
          (⊎_elim (λ z. inr (inl z))
          (λ z. ⊎_elim (λ e. let w = eqb-true o q e in inl ((laws.hears o q g.part).1 (inr (sym w, subst (λ (x : ℕ). IsTold x g.part) (sym w) was)))) (λ e. inr (inr e)) (or_cases (eqb o q) (is_in q back) z)))
          (a.all_answered q was);
    }

-- when the house tells
pub awaiting_tells : (h : House) → Sound h → Awaiting (used h) (due_of (used h) h.part) [] h (with_part (telling (used h) h.part) h)
awaiting_tells h s =
    record {
      grows = record { heap = refl; desk = refl; census = refl; stirred = refl; tally = omega arith; same = λ _. refl };
      list = refl;
      all_told = λ o m. (laws.tells (used h) o h.part).0.1 (inl m);
      all_answered = λ o t. ⊎_elim inl (λ f. inr (inl ((laws.due (used h) h.part s.part.order).every o ((laws.tells (used h) o h.part).0.0 t)
          (λ z. both_ways (answered_in o (telling (used h) h.part).told) f ((laws.tells (used h) o h.part).1 ∙ z))))) (cases_Bool (answered_in o (telling (used h) h.part).told));
    }

-- whom it tells
pub due_far : (h : House) → Sound h → (o : ℕ) → is_in o (due_of (used h) h.part) ≡ true → (home o < houses h) × (home o ≡ self h → ⊥)
due_far h s o m =
    ⊎_elim (λ u. let z = used_far h s o u in (z.1.near, z.0)) (λ t. ((s.part.named o t).near, s.part.far o t))
    ((laws.due (used h) h.part s.part.order).only o m).0

used_kept : (h g : House) → Grows h g → g.list ≡ h.list → used g ≡ used h
used_kept h g a e =
    ap (λ (k : ℕ). names_in_use (objects_in k g.list) g.heap) a.census ∙ ap (λ (es : List Listed). names_in_use (objects_in (census h) es) g.heap) e ∙ ap (names_in_use (objects_in (census h) h.list)) a.heap

-- when all are answered
pub awaiting_none : (h g : House) → Sound g → Awaiting (used h) [] [] h g → calm (used g) g.part ≡ true
awaiting_none h g s a =
    (laws.calms (used g) g.part s.part.order).1
    (record {
      all_told = λ o m. a.all_told o (ap (is_in o) (sym (used_kept h g a.grows a.list)) ∙ m);
      all_answered = λ o t. ⊎_elim (λ z. z) (⊎_elim (λ z. absurd (both_ways false refl z)) (λ z. absurd (both_ways false refl z))) (a.all_answered o t);
    })
