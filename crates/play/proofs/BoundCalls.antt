-- How many calls of a kind the collector's entries have.
use Rattle.std.proofs.Common.{◌≡◌, ℕ, zero, suc, ◌+◌, ◌*◌, Bool, false, cond, eqb, ltb, List, [], ◌∷◌, ◌++◌, map, length, get_or, refl, ap, ◌∙◌, arith}
use Rattle.std.proofs.lemmas.Bool.{cond_both}
use Rattle.wire.specs.declared.call.Call.{Call}
use Rattle.wire.specs.declared.call.Call.TheVariants as call
use Rattle.wire.specs.Names.{house}
use Rattle.wire.specs.Format.{decode}
use Rattle.census.specs.Model.{asker}
use Rattle.play.specs.Play.{World, Entry, calls, delivers, play, plays}
use Rattle.play.specs.Bound.{calls_in, is_round, TwoRounds}
use Rattle.play.specs.Settle.{goes_to, delivery, deliveries, and_then, pump, enough, calling, each, word_to, words, above, joins, pass, tallies, passes, rounding, collects, completing, settling}

module _ (kind : Call → Bool) where
  pub count_append : (es fs : List Entry) → calls_in kind (es ++ fs) ≡ calls_in kind es + calls_in kind fs
  count_append [] fs = omega arith
  count_append (calls i c ∷ es) fs = let z = count_append es fs in omega arith
  count_append (delivers i m ∷ es) fs = count_append es fs

  count_deliveries : (m : ℕ) (is : List ℕ) → calls_in kind (map (delivery m) is) ≡ 0
  count_deliveries m [] = refl
  count_deliveries m (i ∷ is) = count_deliveries m is

  count_pump : (k n m : ℕ) (w : World) → calls_in kind (pump k n m w) ≡ 0
  count_pump zero n m w = refl
  count_pump (suc k) n m w =
      cond_both (ltb m (length w.sent)) (and_then n w (deliveries n m w) (λ v. pump k n (m + 1) v)) [] (λ es. calls_in kind es ≡ 0)
      (λ _. none (count_append (deliveries n m w) (pump k n (m + 1) v)) (count_deliveries m (goes_to n (decode n (get_or w.sent m [])))) (count_pump k n (m + 1) v)) (λ _. refl)
    where
      v : World
      v = plays n (deliveries n m w) w

      none : {a b c : ℕ} → a ≡ b + c → b ≡ 0 → c ≡ 0 → a ≡ 0
      none p q r = omega arith

  pub count_calling : (n i : ℕ) (c : Call) (w : World) → calls_in kind (calling n i c w) ≡ cond (kind c) 1 0
  count_calling n i c w = let v = play n (calls i c) w in let z = count_pump (enough n (length w.sent) v) n (length w.sent) v in omega arith

  -- the same at each house
  pub count_none : (n : ℕ) (f : ℕ → World → List Entry) → ((i : ℕ) (v : World) → calls_in kind (f i v) ≡ 0) → (k : ℕ) (w : World) → calls_in kind (each n f k w) ≡ 0
  count_none n f g zero w = refl
  count_none n f g (suc k) w = let v = plays n (each n f k w) w in none _ _ _ (count_append (each n f k w) (f k v)) (count_none n f g k w) (g k v)
    where
      none : (a b c : ℕ) → a ≡ b + c → b ≡ 0 → c ≡ 0 → a ≡ 0
      none a b c p q r = omega arith

  pub count_one : (n : ℕ) (f : ℕ → World → List Entry) → ((i : ℕ) (v : World) → calls_in kind (f i v) ≡ 1) → (k : ℕ) (w : World) → calls_in kind (each n f k w) ≡ k
  count_one n f g zero w = refl
  count_one n f g (suc k) w = let v = plays n (each n f k w) w in one _ _ _ (count_append (each n f k w) (f k v)) (count_one n f g k w) (g k v)
    where
      one : (a b c : ℕ) → a ≡ b + c → b ≡ k → c ≡ 1 → a ≡ suc k
      one a b c p q r = omega arith

  count_words : ((j : ℕ) → kind (call.Word (house j)) ≡ false) → (n : ℕ) (w : World) → calls_in kind (words n w) ≡ 0
  count_words e n w =
      count_none n (λ i v. each n (λ j u. word_to n i j u) n v) (λ i v. count_none n (λ j u. word_to n i j u) (λ j u.
      cond_both (eqb i j) [] (calling n i (call.Word (house j)) u) (λ es. calls_in kind es ≡ 0) (λ _. refl) (λ _. count_calling n i (call.Word (house j)) u ∙ ap (λ (b : Bool). cond b 1 0) (e j))) n v) n w

  -- the calls are those of the passes, and of the two rounds
  pub count_settling : ((j : ℕ) → kind (call.Word (house j)) ≡ false) → ((c : ℕ) → kind (call.Join c) ≡ false) → kind call.Collect ≡ false → (n : ℕ) (w : World) →
      let v = plays n (words n w) w in let u = plays n (joins n (above n v) v) v in calls_in kind (settling n w) ≡ calls_in kind (passes (2048 * n + 1) n u) + 2 * cond (kind call.Round) 1 0
  count_settling e f g n w =
      let v = plays n (words n w) w in
      let c = above n v in
      let u = plays n (joins n c v) v in
      let t = plays n (completing n u) u in
      let p = passes (2048 * n + 1) n u in
      let x = plays n p u in
      let y = plays n (rounding n x) x in
      add _ _ _ _ _ _ _ _ _ _ _
      (count_append (words n w) (and_then n v (joins n c v) (λ a. and_then n a (completing n a) (λ b. collects n b)))) (count_words e n w)
      (count_append (joins n c v) (and_then n u (completing n u) (λ b. collects n b))) (count_none n (λ i a. calling n i (call.Join c) a) (λ i a. count_calling n i (call.Join c) a ∙ ap (λ (b : Bool). cond b 1 0) (f c)) n v)
      (count_append (completing n u) (collects n t)) (count_none n (λ i a. calling n i call.Collect a) (λ i a. count_calling n i call.Collect a ∙ ap (λ (b : Bool). cond b 1 0) g) n t)
      (count_append p (and_then n x (rounding n x) (λ a. rounding n a))) (count_append (rounding n x) (rounding n y)) (count_calling n asker call.Round x) (count_calling n asker call.Round y)
    where
      add : (s a b d h i j k l m o : ℕ) → s ≡ a + b → a ≡ 0 → b ≡ d + h → d ≡ 0 → h ≡ i + j → j ≡ 0 → i ≡ k + l → l ≡ m + o → m ≡ cond (kind call.Round) 1 0 → o ≡ cond (kind call.Round) 1 0 → s ≡ k + 2 * cond (kind call.Round) 1 0
      add s a b d h i j k l m o p q r t u v w x y z = omega arith

-- no round in the passes
rounds_none : (k n : ℕ) (w : World) → calls_in is_round (passes k n w) ≡ 0
rounds_none zero n w = refl
rounds_none (suc k) n w =
    none _ _ _ (count_append is_round (pass n w) (cond (eqb (tallies n v) (tallies n w)) [] (passes k n v))) (count_none is_round n (λ i a. calling n i call.Tell a) (λ i a. count_calling is_round n i call.Tell a) n w)
    (cond_both (eqb (tallies n v) (tallies n w)) [] (passes k n v) (λ es. calls_in is_round es ≡ 0) (λ _. refl) (λ _. rounds_none k n v))
  where
    v : World
    v = plays n (pass n w) w

    none : (a b c : ℕ) → a ≡ b + c → b ≡ 0 → c ≡ 0 → a ≡ 0
    none a b c p q r = omega arith

pub two_rounds : TwoRounds
two_rounds n w =
    let v = plays n (words n w) w in
    let u = plays n (joins n (above n v) v) v in
    let z = rounds_none (2048 * n + 1) n u in
    let y = count_settling is_round (λ j. refl) (λ c. refl) refl n w in
    two _ _ y z
  where
    two : (a b : ℕ) → a ≡ b + 2 * 1 → b ≡ 0 → a ≡ 2
    two a b p q = omega arith
