-- A house tells what it uses, and all that this sets off is delivered: then it is calm.
use Rattle.std.proofs.Common.{◌≡◌, ℕ, zero, suc, ◌+◌, ◌*◌, ◌<◌, ◌≤◌, Bool, true, cond, not, eqb, ltb, List, [], ◌∷◌, ◌++◌, map, length, Ok, sym, refl, ap, ◌∙◌, subst, append_assoc, append-nil, arith, length-append}
use mathlib.Core.List.{map-append}
use Rattle.std.proofs.lemmas.Bool.{or_left, or_right, cond-true, cond-false, eq-eqb, ne_eqb, le-ltb}
use Rattle.wire.specs.declared.call.Call.TheVariants as call
use Rattle.wire.specs.declared.refusal.Refusal.TheVariants.{Misdelivered, OtherCensus}
use Rattle.wire.specs.Names.{home}
use Rattle.tables.specs.Model.{is_in}
use Rattle.census.specs.Model.{hearing, due_of, calm}
use Rattle.rules.specs.House.{House, self, census, with_part}
use Rattle.rules.specs.Step.{Outcome, Letter, sends, refused, used, in_census, caught_up, marks, step, tell}
use Rattle.play.specs.Play.{World, bytes_of, plays}
use Rattle.play.specs.Settle.{pump, calling}
use Rattle.play.proofs.Frame.{moved, put_cases}
use Rattle.play.proofs.Tracking.{Kept}
use Rattle.play.proofs.Pump.{got, Waits, pump_one, pump_end, calling_on}
use Rattle.play.proofs.CompleteGrows.{Grows, grows_refl, grows_on, grows_marks}
use Rattle.play.proofs.CompleteTold.{telling_of, answer_of, Awaiting, awaiting_told, awaiting_answered, awaiting_tells, awaiting_none, due_far}

-- a telling of the own census is marked and answered
told_own : (i o : ℕ) (h : House) → home o ≡ self h → got (telling_of (census h) i o) h ≡ sends (answer_of (census h) i o ∷ []) (marks (census h) o i h)
told_own i o h e =
    ap (λ (b : Bool). cond (not b) (refused Misdelivered h) (cond (ltb (census h) (census h)) (refused OtherCensus h) (sends (answer_of (census h) i o ∷ []) (marks (census h) o i (caught_up (census h) h))))) (eq-eqb (home o) (self h) e)
    ∙ cond-false (ltb (census h) (census h)) (refused OtherCensus h) (sends (answer_of (census h) i o ∷ []) (marks (census h) o i (caught_up (census h) h))) (le-ltb (census h) (census h) (omega arith))
    ∙ ap (λ (g : House). sends (answer_of (census h) i o ∷ []) (marks (census h) o i g)) (cond-false (ltb (census h) (census h)) (in_census (census h) h) h (le-ltb (census h) (census h) (omega arith)))

told_is : (c i o : ℕ) (h : House) → home o ≡ self h → census h ≡ c → got (telling_of c i o) h ≡ sends (answer_of c i o ∷ []) (marks (census h) o i h)
told_is c i o h e own = subst (λ (z : ℕ). got (telling_of z i o) h ≡ sends (answer_of z i o ∷ []) (marks (census h) o i h)) own (told_own i o h e)

-- an answer of the own census is noted
answered_is : (c i o : ℕ) (h : House) → self h ≡ i → census h ≡ c → got (answer_of c i o) h ≡ sends [] (with_part (hearing (census h) o h.part) h)
answered_is c i o h e own =
    ap (λ (b : Bool). cond (not b) (refused Misdelivered h) (cond (not (eqb c (census h))) (refused OtherCensus h) (sends [] (with_part (hearing c o h.part) h)))) (eq-eqb i (self h) (sym e))
    ∙ ap (λ (b : Bool). cond (not b) (refused OtherCensus h) (sends [] (with_part (hearing c o h.part) h))) (eq-eqb c (census h) (sym own))
    ∙ ap (λ (z : ℕ). sends [] (with_part (hearing z o h.part) h)) (sym own)

-- a house that does not tell
pub record Marked (h g : House) : Type 0 where
  pub grows : Grows h g
  pub told : g.part.told ≡ h.part.told

marked_refl : (h : House) → Marked h h
marked_refl h = record { grows = grows_refl h; told = refl }

-- house i has told: it is calm, and the others were marked
pub record HasTold (n i : ℕ) (w v : World) : Type 0 where
  pub kept : Kept n v
  pub others : (j : ℕ) → j < n → (j ≡ i → ⊥) → Marked (w.house j) (v.house j)
  pub grows : Grows (w.house i) (v.house i)
  pub calm : calm (used (v.house i)) (v.house i).part ≡ true

module _ (n c i : ℕ) (w : World) (inside : i < n) (in_c : (j : ℕ) → j < n → census (w.house j) ≡ c) where
  -- these have still to be told, and those to be answered
  record Underway (ts back : List ℕ) (v : World) : Type 0 where
    others : (j : ℕ) → j < n → (j ≡ i → ⊥) → Marked (w.house j) (v.house j)
    own : Awaiting (used (w.house i)) ts back (w.house i) (v.house i)
    far : (o : ℕ) → is_in o ts ≡ true → (home o < n) × (home o ≡ i → ⊥)

  underway_told : (ts back : List ℕ) (o : ℕ) (v : World) (bss : List (List ℕ)) → Kept n v → (h : House) → h ≡ marks (census (v.house (home o))) o i (v.house (home o)) → Underway (o ∷ ts) back v → Underway ts (back ++ (o ∷ [])) (moved (home o) h bss v)
  underway_told ts back o v bss kept h e u =
      record {
        others = put_cases (home o) (λ j b. j < n → (j ≡ i → ⊥) → Marked (w.house j) (cond b h (v.house j)))
            (λ l f. let m = u.others (home o) l f in subst (Marked (w.house (home o))) (sym e) (record { grows = grows_on _ _ _ m.grows (grows_marks o i (v.house (home o)) (kept.sound (home o) l)); told = m.told }))
            (λ j l f. u.others j l f);
        own = subst (Awaiting (used (w.house i)) ts (back ++ (o ∷ [])) (w.house i)) (sym (cond-false (eqb i (home o)) h (v.house i) (ne_eqb i (home o) (λ z. (u.far o (or_left (eqb o o) (is_in o ts) (eq-eqb o o refl))).1 (sym z))))) (awaiting_told (used (w.house i)) ts back o (w.house i) (v.house i) u.own);
        far = λ q m. u.far q (or_right (eqb o q) (is_in q ts) m);
      }

  underway_answered : (back : List ℕ) (o : ℕ) (v : World) (bss : List (List ℕ)) → (h : House) → h ≡ with_part (hearing (census (v.house i)) o (v.house i).part) (v.house i) → Underway [] (o ∷ back) v → Underway [] back (moved i h bss v)
  underway_answered back o v bss h e u =
      record {
        others = put_cases i (λ j b. j < n → (j ≡ i → ⊥) → Marked (w.house j) (cond b h (v.house j))) (λ l f. absurd (f refl)) (λ j l f. u.others j l f);
        own = subst (Awaiting (used (w.house i)) [] back (w.house i)) (sym (cond-true (eqb i i) h (v.house i) (eq-eqb i i refl) ∙ e)) (awaiting_answered (used (w.house i)) back o (w.house i) (v.house i) u.own);
        far = u.far;
      }

  told_all : (v : World) → Kept n v → Underway [] [] v → HasTold n i w v
  told_all v kept u = record { kept = kept; others = u.others; grows = u.own.grows; calm = awaiting_none (w.house i) (v.house i) (kept.sound i inside) u.own }

  -- whatever waits is delivered
  pumped : (k : ℕ) (ts back : List ℕ) (m : ℕ) (v : World) → Waits n m v (map (telling_of c i) ts ++ map (answer_of c i) back) → 2 * length ts + length back ≤ k → Underway ts back v → HasTold n i w (plays n (pump k n m v) v)
  pumped k [] [] m v q room u = pump_end (HasTold n i w) n k m v q (told_all v q.kept u)
  pumped zero [] (o ∷ back) m v q room u = absurd (omega arith)
  pumped zero (o ∷ ts) back m v q room u = absurd (omega arith)
  pumped (suc k) [] (o ∷ back) m v q room u =
      let is = answered_is c i o (v.house i) (q.kept.self i inside) (u.own.grows.census ∙ in_c i inside) in
      let new = moved i (got (answer_of c i o) (v.house i)).house [] v in
      pump_one n m v (answer_of c i o) (map (answer_of c i) back) q (HasTold n i w) k i refl inside [] (ap (λ (x : Outcome). x.answer) is) (λ z.
      pumped k [] back (m + 1) new (subst (Waits n (m + 1) new) (append-nil (map (answer_of c i) back)) z) (less (length back) k room)
      (underway_answered back o v [] (got (answer_of c i o) (v.house i)).house (ap (λ (x : Outcome). x.house) is) u))
    where
      less : (b k : ℕ) → 2 * 0 + suc b ≤ suc k → 2 * 0 + b ≤ k
      less b k p = omega arith
  pumped (suc k) (o ∷ ts) back m v q room u =
      let f = u.far o (or_left (eqb o o) (is_in o ts) (eq-eqb o o refl)) in
      let j = home o in
      let is = told_is c i o (v.house j) (sym (q.kept.self j f.0)) ((u.others j f.0 f.1).grows.census ∙ in_c j f.0) in
      let new = moved j (got (telling_of c i o) (v.house j)).house (map bytes_of (answer_of c i o ∷ [])) v in
      pump_one n m v (telling_of c i o) (map (telling_of c i) ts ++ map (answer_of c i) back) q (HasTold n i w) k j refl f.0 (answer_of c i o ∷ []) (ap (λ (x : Outcome). x.answer) is) (λ z.
      pumped k ts (back ++ (o ∷ [])) (m + 1) new (subst (Waits n (m + 1) new) (behind ts back o) z) (less (length ts) (length back) (length (back ++ (o ∷ []))) k room (length-append back (o ∷ [])))
      (underway_told ts back o v (map bytes_of (answer_of c i o ∷ [])) q.kept (got (telling_of c i o) (v.house j)).house (ap (λ (x : Outcome). x.house) is) u))
    where
      behind : (ts back : List ℕ) (o : ℕ) → (map (telling_of c i) ts ++ map (answer_of c i) back) ++ (answer_of c i o ∷ []) ≡ map (telling_of c i) ts ++ map (answer_of c i) (back ++ (o ∷ []))
      behind ts back o = append_assoc (map (telling_of c i) ts) (map (answer_of c i) back) (answer_of c i o ∷ []) ∙ ap (λ (ls : List Letter). map (telling_of c i) ts ++ ls) (sym (map-append (answer_of c i) back (o ∷ [])))

      less : (a b d k : ℕ) → 2 * suc a + b ≤ suc k → d ≡ b + 1 → 2 * a + d ≤ k
      less a b d k p e = omega arith

-- the call, and all that it sets off
pub tells : (n c i : ℕ) (w : World) → Kept n w → i < n → ((j : ℕ) → j < n → census (w.house j) ≡ c) → HasTold n i w (plays n (calling n i call.Tell w) w)
tells n c i w kept inside in_c =
    calling_on n i call.Tell w kept inside tt (map (telling_of c i) ds) answer (HasTold n i w) (λ q k room.
    pumped n c i w inside in_c k ds [] (length w.sent) new (subst (Waits n (length w.sent) new) (sym (append-nil (map (telling_of c i) ds))) q)
    (less (length ds) (length (map (telling_of c i) ds)) k room (length-map ds)) begun)
  where
    ds : List ℕ
    ds = due_of (used (w.house i)) (w.house i).part

    answer : (step (w.house i) tell).answer ≡ Ok (map (telling_of c i) ds)
    answer =
        ap (λ (z : ℕ). Ok (map (λ (o : ℕ). telling_of z (self (w.house i)) o) ds)) (in_c i inside)
        ∙ ap (λ (z : ℕ). Ok (map (λ (o : ℕ). telling_of c z o) ds)) (kept.self i inside)

    new : World
    new = moved i (step (w.house i) tell).house (map bytes_of (map (telling_of c i) ds)) w

    length-map : (os : List ℕ) → length (map (telling_of c i) os) ≡ length os
    length-map [] = refl
    length-map (o ∷ os) = ap suc (length-map os)

    less : (a b k : ℕ) → 2 * b + n + 2 ≤ k → b ≡ a → 2 * a + 0 ≤ k
    less a b k p e = omega arith

    begun : Underway n c i w inside in_c ds [] new
    begun =
        record {
          others = put_cases i (λ j b. j < n → (j ≡ i → ⊥) → Marked (w.house j) (cond b (step (w.house i) tell).house (w.house j))) (λ l f. absurd (f refl)) (λ j l f. marked_refl (w.house j));
          own = subst (Awaiting (used (w.house i)) ds [] (w.house i)) (sym (cond-true (eqb i i) (step (w.house i) tell).house (w.house i) (eq-eqb i i refl))) (awaiting_tells (w.house i) (kept.sound i inside));
          far = λ o m. let z = due_far (w.house i) (kept.sound i inside) o m in (subst (λ (x : ℕ). home o < x) (kept.houses i inside) z.0, λ e. z.1 (e ∙ sym (kept.self i inside)));
        }
