-- A pass that marks anything newly has told something newly, so there are no more passes than was told, and one.
use Rattle.std.proofs.Common.{◌≡◌, ℕ, zero, suc, ◌+◌, ◌*◌, ◌<◌, ◌≤◌, false, cond, eqb, List, [], ◌∷◌, map, length, sym, refl, ap, ◌∙◌, subst, mul-le-mul_left, mul-add, arith}
use Rattle.std.proofs.lemmas.Bool.{cond_both, eqb-false}
use Rattle.wire.specs.declared.call.Call.TheVariants as call
use Rattle.census.specs.Model.{telling, due_of}
use Rattle.rules.specs.House.{House, with_part}
use Rattle.rules.specs.Step.{sends, used, telling_of}
use Rattle.play.specs.Play.{World, put, plays}
use Rattle.play.specs.Bound.{calls_in, is_tell}
use Rattle.play.specs.Settle.{calling, pass, tallies, passes}
use Rattle.play.proofs.Frame.{put_cases}
use Rattle.play.proofs.Tracking.{Kept}
use Rattle.play.proofs.FairEntries.{plays_append, kept_plays, each_brings}
use Rattle.play.proofs.SettledJoins.{calling_quiet}
use Rattle.play.proofs.BoundTells.{sum, told_in, Passing, told_more, passing_one, passing_pass}
use Rattle.play.proofs.BoundCalls.{count_append, count_calling, count_one}

pub times_next : (n k : ℕ) → n * suc k ≡ n * k + n
times_next n k = let z = mul-add n k 1 in omega arith

tallies_same : (k : ℕ) (w v : World) → ((j : ℕ) → (v.house j).part.tally ≡ (w.house j).part.tally) → tallies k v ≡ tallies k w
tallies_same zero w v e = refl
tallies_same (suc k) w v e = let x = tallies_same k w v e in let y = e k in omega arith

-- a house that has nothing to tell
module _ (n i : ℕ) (w : World) (inside : i < n) where
  abbrev has_told : House
  has_told = with_part (telling (used (w.house i)) (w.house i).part) (w.house i)

  nothing_due : (ds : List ℕ) → due_of (used (w.house i)) (w.house i).part ≡ ds → length ds ≡ 0 → tallies n (plays n (calling n i call.Tell w) w) ≡ tallies n w
  nothing_due [] e z =
      let after = calling_quiet n i call.Tell w has_told inside (ap (λ (os : List ℕ). sends (map (telling_of (w.house i)) os) has_told) e) in
      ap (tallies n) after
      ∙ tallies_same n w (record { house = put i has_told w.house; sent = w.sent }) (put_cases i (λ j b. (cond b has_told (w.house j)).part.tally ≡ (w.house j).part.tally) refl (λ j. refl))
  nothing_due (d ∷ ds) e z = absurd (omega arith)

-- while nothing is newly told, nothing is newly marked
record Raises (n : ℕ) (w v : World) : Type 0 where
  told : sum n (told_in w) ≤ sum n (told_in v)
  same : sum n (told_in v) ≡ sum n (told_in w) → tallies n v ≡ tallies n w

raises_on : (n : ℕ) (w v u : World) → Raises n w v → Raises n v u → Raises n w u
raises_on n w v u a b =
    record {
      told = let x = a.told in let y = b.told in omega arith;
      same = λ e. let z = between (sum n (told_in w)) (sum n (told_in v)) (sum n (told_in u)) a.told b.told e in b.same z.1 ∙ a.same z.0;
    }
  where
    between : (x y z : ℕ) → x ≤ y → y ≤ z → z ≡ x → (y ≡ x) × (z ≡ y)
    between x y z f g e = (omega arith, omega arith)

module _ (n c b : ℕ) where
  raises_one : (i : ℕ) (w : World) → i < n → Kept n w → Passing n c b w → Raises n w (plays n (calling n i call.Tell w) w)
  raises_one i w l x p =
      let e = told_more n c b i w l x p in
      record { told = more _ _ _ e; same = λ z. nothing_due n i w l (due_of (used (w.house i)) (w.house i).part) refl (none _ _ _ e z) }
    where
      more : (s t d : ℕ) → t ≡ s + d → s ≤ t
      more s t d e = omega arith

      none : (s t d : ℕ) → t ≡ s + d → t ≡ s → d ≡ 0
      none s t d e z = omega arith

  raises_pass : (w : World) → Kept n w → Passing n c b w → Raises n w (plays n (pass n w) w)
  raises_pass w x p =
      (each_brings n (λ _ v. Passing n c b v × Raises n w v) (λ i v. calling n i call.Tell v) (λ i v l y q. (passing_one n c b i v l y q.0, raises_on n w v _ q.1 (raises_one i v l y q.0))) n w x
      (p, record { told = omega arith; same = λ _. refl }) (omega arith)).1

  -- each house tells once in a pass
  pub passes_few : (k : ℕ) (w : World) → Kept n w → Passing n c b w → calls_in is_tell (passes k n w) + n * sum n (told_in w) ≤ n * suc (sum n (told_in (plays n (passes k n w) w)))
  passes_few zero w x p = let z = times_next n (sum n (told_in w)) in omega arith
  passes_few (suc k) w x p =
      subst (λ (u : World). calls_in is_tell (passes (suc k) n w) + n * sum n (told_in w) ≤ n * suc (sum n (told_in u))) (sym (plays_append n (pass n w) (cond (eqb (tallies n v) (tallies n w)) [] (passes k n v)) w))
      (go _ _ _ (count_append is_tell (pass n w) (cond (eqb (tallies n v) (tallies n w)) [] (passes k n v)))
      (cond_both (eqb (tallies n v) (tallies n w)) [] (passes k n v) (λ es. n + calls_in is_tell es + n * sum n (told_in w) ≤ n * suc (sum n (told_in (plays n es v)))) (λ _. last)
      (λ f. again _ _ f (passes_few k v (kept_plays n (pass n w) w x) (passing_pass n c b w x p)))))
    where
      v : World
      v = plays n (pass n w) w

      r : Raises n w v
      r = raises_pass w x p

      one_pass : calls_in is_tell (pass n w) ≡ n
      one_pass = count_one is_tell n (λ i a. calling n i call.Tell a) (λ i a. count_calling is_tell n i call.Tell a) n w

      go : (a s t : ℕ) → a ≡ calls_in is_tell (pass n w) + s → n + s + n * sum n (told_in w) ≤ t → a + n * sum n (told_in w) ≤ t
      go a s t e q = let z = one_pass in omega arith

      last : n + 0 + n * sum n (told_in w) ≤ n * suc (sum n (told_in v))
      last = let z = times_next n (sum n (told_in v)) in let y : n * sum n (told_in w) ≤ n * sum n (told_in v) = mul-le-mul_left n r.told in omega arith

      higher : {a b : ℕ} → a ≤ b → (b ≡ a → ⊥) → suc a ≤ b
      higher p q = omega arith

      again : (a t : ℕ) → eqb (tallies n v) (tallies n w) ≡ false → a + n * sum n (told_in v) ≤ t → n + a + n * sum n (told_in w) ≤ t
      again a t f q =
          let z = times_next n (sum n (told_in w)) in
          let y : n * suc (sum n (told_in w)) ≤ n * sum n (told_in v) = mul-le-mul_left n (higher r.told (λ e. eqb-false (tallies n v) (tallies n w) f (r.same e))) in
          omega arith
