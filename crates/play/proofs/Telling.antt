-- The call tell: a telling for each far reference in use, and again for each that was not answered.
use Rattle.std.proofs.Common.{◌≡◌, ℕ, ◌<◌, Bool, true, false, cond, ◌&&◌, ◌||◌, eqb, List, [], ◌∷◌, ◌++◌, map, sym, refl, ap, ◌∙◌, subst, inl, ⊎_elim, eqb→eq}
use mathlib.Core.List.Memᴰ
use mathlib.Core.List.{Memᴰ}
use lib.Dec.{eqb_refl}
use Rattle.std.proofs.lemmas.Bool.{or_cases, or_left, or_right, and_parts, cases_Bool, both_ways}
use Rattle.wire.specs.Names.{home}
use Rattle.tables.specs.Model.{is_in}
use Rattle.objects.proofs.Reached.{in_use}
use Rattle.lines.specs.Listed.{objects_in}
use Rattle.census.specs.Model.{names, answered_in, due_of}
use Rattle.census.specs.Model as census
use Rattle.census.specs.Laws.{Due}
use Rattle.census.proofs.Laws.{laws}
use Rattle.rules.specs.House as rules
use Rattle.rules.specs.Step.{telling_of, used, step, tell}
use Rattle.promise.specs.House.{Used}
use Rattle.promise.specs.Net.{Msg, Mark}
use Rattle.promise.specs.Rounds.{Part, Turn, AlikePart, Note, Runs, telling, census_of}
use Rattle.promise.specs.Rounds as promise
use Rattle.promise.proofs.Base.{is_in→mem, mem→is_in}
use Rattle.promise.proofs.Spoken.{spoken_of}
use Rattle.play.specs.Play.{World, put}
use Rattle.play.specs.Seen.{house_seen, part_seen, seen}
use Rattle.play.proofs.Sending.{Both, both_refl, msgs_of, notes_of}
use Rattle.play.proofs.Firm.{Firm}
use Rattle.play.proofs.Frame.{Deed, Way, free, Tracks, arrives, alike_by, house_kept, house_refl, part_put, part_refl, made_kept, desk_kept}
use Rattle.play.proofs.Likeness.{same_test}
use Rattle.play.proofs.Programs.{truth}
use Rattle.play.proofs.Cleaning.{untruth}
use Rattle.play.proofs.Marking.{answered_in_part}

abbrev marks_of : ℕ → ℕ → List ℕ → List Msg
marks_of c i os = map (λ o. Mark c o i) os

mark_in : (c i o : ℕ) (os : List ℕ) → Memᴰ o os → Memᴰ (Mark c o i) (marks_of c i os)
mark_in c i o [] m = absurd (Memᴰ.not-nil m)
mark_in c i o (x ∷ os) m = ⊎_elim (λ e. Memᴰ.head (ap (λ (z : ℕ). Mark c z i) e)) (λ r. Memᴰ.tail (mark_in c i o os r)) (Memᴰ.cases_cons m)

mark_of : (c i : ℕ) (x : Msg) (os : List ℕ) → Memᴰ x (marks_of c i os) → (o : ℕ) × Memᴰ o os × (x ≡ Mark c o i)
mark_of c i x [] m = absurd (Memᴰ.not-nil m)
mark_of c i x (y ∷ os) m = ⊎_elim (λ e. (y, Memᴰ.head refl, e)) (λ r. let z = mark_of c i x os r in (z.0, Memᴰ.tail z.1, z.2)) (Memᴰ.cases_cons m)

-- what is answered was told
answered_told : (o : ℕ) (ts : List census.Told) → answered_in o ts ≡ true → is_in o (names ts) ≡ true
answered_told o [] e = e
answered_told o (t ∷ ts) e =
    ⊎_elim (λ z. or_left (eqb t.name o) (is_in o (names ts)) (and_parts (eqb t.name o) t.answered z).0) (λ z. or_right (eqb t.name o) (is_in o (names ts)) (answered_told o ts z))
    (or_cases (eqb t.name o && t.answered) (answered_in o ts) e)

-- told of all of these
abbrev tellings : List ℕ → Part → Part
tellings [] p = p
tellings (o ∷ os) p = telling o (tellings os p)

told_all : (os : List ℕ) (p : Part) (q : ℕ) → is_in q (tellings os p).told ≡ (is_in q os || is_in q p.told)
told_all [] p q = refl
told_all (o ∷ os) p q = ap (λ (b : Bool). eqb o q || b) (told_all os p q) ∙ joined (eqb o q) (is_in q os) (is_in q p.told)
  where
    joined : (a b c : Bool) → (a || (b || c)) ≡ ((a || b) || c)
    joined true b c = refl
    joined false b c = refl

tellings_rest : (os : List ℕ) (p : Part) → ((tellings os p).answered ≡ p.answered) × ((tellings os p).tally ≡ p.tally) × ((tellings os p).polled ≡ p.polled) × ((tellings os p).stirred ≡ p.stirred)
tellings_rest [] p = (refl, refl, refl, refl)
tellings_rest (o ∷ os) p = tellings_rest os p

-- steps of the relation, one for each
abbrev told_world : promise.World → ℕ → List ℕ → promise.World
told_world w i os = record { net = record { house = w.net.house; sent = marks_of (census_of w i) i os ++ w.net.sent; made = w.net.made }; part = put i (tellings os (w.part i)) w.part; desk = w.desk; said = w.said }

tells_all : (n i : ℕ) (w : promise.World) → i < n → (os : List ℕ) → ((o : ℕ) → Memᴰ o os → (home o ≡ i → ⊥) × Used (census_of w i) (w.net.house i) o) → Way Deed.leaves true n w (told_world w i os)
tells_all n i w inside [] f =
    Way.more Way.same (Turn.alike w (told_world w i [])
    (record { net = record { house = λ j. house_refl _; sent = λ x. (λ m. m, λ m. m); made = λ j. refl }; part = λ j. here j (eqb j i) refl; round = refl; now = λ j. refl; before = λ j. refl; said = λ x. (λ m. m, λ m. m) })) free free (λ _. tt)
  where
    here : (j : ℕ) (b : Bool) → eqb j i ≡ b → AlikePart (w.part j) (cond b (w.part i) (w.part j))
    here j true e = subst (λ (k : ℕ). AlikePart (w.part j) (w.part k)) (eqb→eq j i (truth e)) (part_refl _)
    here j false e = part_refl _
tells_all n i w inside (o ∷ os) f =
    Way.more (Way.more (tells_all n i w inside os (λ q m. f q (Memᴰ.tail m))) (Turn.tell (told_world w i os) i o inside (f o (Memᴰ.head refl)).0 (f o (Memᴰ.head refl)).1) free free (λ _. tt))
    (Turn.alike _ (told_world w i (o ∷ os))
    (record { net = record { house = λ j. house_refl _; sent = λ x. (λ m. m, λ m. m); made = λ j. refl }; part = λ j. here j (eqb j i) (eqb i i) (untruth (eqb_refl i)); round = refl; now = λ j. refl; before = λ j. refl; said = λ x. (λ m. m, λ m. m) })) free free (λ _. tt)
  where
    here : (j : ℕ) (b c : Bool) → c ≡ true → AlikePart (cond b (telling o (cond c (tellings os (w.part i)) (w.part i))) (cond b (tellings os (w.part i)) (w.part j))) (cond b (telling o (tellings os (w.part i))) (w.part j))
    here j true true e = part_refl _
    here j true false e = absurd (both_ways false refl e)
    here j false c e = part_refl _

module _ (n i : ℕ) (w : World) (f : Firm n i (w.house i)) (runs : Runs n (seen n w)) where
  abbrev h : rules.House
  h = w.house i

  abbrev us : List ℕ
  us = used (w.house i)

  ds : List ℕ
  ds = due_of (used (w.house i)) (w.house i).part

  letters_msgs : (os : List ℕ) → msgs_of (map (telling_of (w.house i)) os) ≡ marks_of (rules.census (w.house i)) (rules.self (w.house i)) os
  letters_msgs [] = refl
  letters_msgs (o ∷ os) = ap (λ (xs : List Msg). Mark (rules.census (w.house i)) o (rules.self (w.house i)) ∷ xs) (letters_msgs os)

  letters_notes : (os : List ℕ) → notes_of (map (telling_of (w.house i)) os) ≡ []
  letters_notes [] = refl
  letters_notes (o ∷ os) = letters_notes os

  due : Due (used (w.house i)) (w.house i).part (due_of (used (w.house i)) (w.house i).part)
  due = laws.due (used (w.house i)) (w.house i).part f.told

  before : (o : ℕ) → is_in o (names (w.house i).part.told) ≡ true → Memᴰ (Mark (rules.census (w.house i)) o i) (seen n w).net.sent
  before o t = spoken_of runs i o (truth t)

  sent_both : Both (marks_of (rules.census (w.house i)) i (used (w.house i)) ++ (seen n w).net.sent) (msgs_of (map (telling_of (w.house i)) ds) ++ (seen n w).net.sent)
  unfolding ds
  sent_both =
      subst (λ (xs : List Msg). Both (marks_of (rules.census h) i us ++ (seen n w).net.sent) (xs ++ (seen n w).net.sent)) (ap (λ (k : ℕ). marks_of (rules.census h) k ds) (sym f.self) ∙ sym (letters_msgs ds))
      (λ x. (λ m. ⊎_elim (λ z. forth x (mark_of (rules.census h) i x us z)) (λ z. Memᴰ.append_right (marks_of (rules.census h) i ds) z) (Memᴰ.append_cases (marks_of (rules.census h) i us) m), λ m. ⊎_elim (λ z. back x (mark_of (rules.census h) i x ds z)) (λ z. Memᴰ.append_right (marks_of (rules.census h) i us) z) (Memᴰ.append_cases (marks_of (rules.census h) i ds) m)))
    where
      there : (x : Msg) (o : ℕ) (xs : List Msg) → x ≡ Mark (rules.census (w.house i)) o i → Memᴰ (Mark (rules.census (w.house i)) o i) xs → Memᴰ x xs
      there x o xs e m = subst (λ (y : Msg). Memᴰ y xs) (sym e) m

      forth : (x : Msg) → (o : ℕ) × Memᴰ o (used (w.house i)) × (x ≡ Mark (rules.census (w.house i)) o i) → Memᴰ x (marks_of (rules.census (w.house i)) i (due_of (used (w.house i)) (w.house i).part) ++ (seen n w).net.sent)
      forth x z =
          there x z.0 _ z.2
          (⊎_elim (λ e. Memᴰ.append_right (marks_of (rules.census h) i (due_of us h.part)) (before z.0 (answered_told z.0 h.part.told e)))
          (λ e. Memᴰ.append_left (seen n w).net.sent (mark_in (rules.census h) i z.0 (due_of us h.part) (is_in→mem z.0 (due_of us h.part) (truth (due.every z.0 (inl (untruth (mem→is_in z.1))) (λ t. both_ways (answered_in z.0 h.part.told) e t))))))
          (cases_Bool (answered_in z.0 h.part.told)))

      back : (x : Msg) → (o : ℕ) × Memᴰ o (due_of (used (w.house i)) (w.house i).part) × (x ≡ Mark (rules.census (w.house i)) o i) → Memᴰ x (marks_of (rules.census (w.house i)) i (used (w.house i)) ++ (seen n w).net.sent)
      back x z =
          there x z.0 _ z.2
          (⊎_elim (λ e. Memᴰ.append_left (seen n w).net.sent (mark_in (rules.census h) i z.0 us (is_in→mem z.0 us (truth e))))
          (λ e. Memᴰ.append_right (marks_of (rules.census h) i us) (before z.0 e))
          (due.only z.0 (untruth (mem→is_in z.1))).0)

  part_told : AlikePart (tellings (used (w.house i)) (part_seen (w.house i).part)) (part_seen (census.telling (used (w.house i)) (w.house i).part))
  part_told =
      let rest = tellings_rest us (part_seen h.part) in
      record {
        told = λ q. told_all us (part_seen h.part) q ∙ same_test (is_in q us || is_in q (names h.part.told)) (is_in q (names (census.telling us h.part).told))
            (λ e. (laws.tells us q h.part).0.1 (or_cases (is_in q us) (is_in q (names h.part.told)) e))
            (λ e. ⊎_elim (λ z. or_left (is_in q us) (is_in q (names h.part.told)) (z)) (λ z. or_right (is_in q us) (is_in q (names h.part.told)) (z)) ((laws.tells us q h.part).0.0 (e)));
        answered = λ q. ap (λ (xs : List ℕ). is_in q xs) rest.0 ∙ answered_in_part q h.part.told ∙ sym (laws.tells us q h.part).1 ∙ sym (answered_in_part q (census.telling us h.part).told);
        tally = rest.1;
        polled = rest.2;
        stirred = rest.3;
      }

  pub tracks_tell : Tracks true n i w (step (w.house i) tell)
  unfolding ds
  tracks_tell r =
      arrives n i w new true (map (telling_of h) ds) (told_world (seen n w) i us) (tells_all n i (seen n w) f.inside us uses)
      (alike_by n i w new (map (telling_of h) ds) (told_world (seen n w) i us) r (house_kept w i new (house_refl _)) (made_kept w i new refl) (part_put w i new (tellings us (part_seen h.part)) part_told) (w.house 0).desk refl (desk_kept w i new refl) sent_both
      (subst (λ (xs : List Note). Both (seen n w).said (xs ++ (seen n w).said)) (sym (letters_notes ds)) (both_refl _)))
    where
      new : rules.House
      new = rules.with_part (census.telling (used (w.house i)) (w.house i).part) (w.house i)

      uses : (o : ℕ) → Memᴰ o (used (w.house i)) → (home o ≡ i → ⊥) × Used (rules.census (w.house i)) (house_seen (w.house i)) o
      uses o m = let z = (in_use (w.house i).heap (objects_in (rules.census (w.house i)) (w.house i).list) f.rises).only o (untruth (mem→is_in m)) in (λ e. z.0 (e ∙ sym f.self), z.1)
