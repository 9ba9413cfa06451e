-- How much the collector's entries make the houses send at most, from every world that entries lead to.
use Rattle.std.proofs.Common.{◌≡◌, ℕ, zero, suc, ◌+◌, ◌-◌, ◌*◌, ◌<◌, ◌≤◌, Bool, true, false, cond, eqb, leb, List, [], ◌∷◌, ◌++◌, length, sym, refl, ap, ◌∙◌, subst, ⊎_elim, le_of_eq, mul-le-mul_left, mul-zero, arith}
use Rattle.std.proofs.lemmas.Bool.{cond_both, cond-true, eq-eqb, cases_eq}
use Rattle.wire.specs.declared.call.Call.TheVariants as call
use Rattle.wire.specs.Names.{home, house}
use Rattle.lines.specs.Listed.{listed}
use Rattle.tables.specs.Model.{is_in}
use Rattle.census.specs.Model.{Part, Told, names, unanswered, asker}
use Rattle.rounds.specs.Model.{Desk, idle}
use Rattle.rules.specs.House as rules
use Rattle.promise.proofs.Spoken.{spoken_of}
use Rattle.play.specs.Play.{World, Entry, plays}
use Rattle.play.specs.Seen.{seen}
use Rattle.play.specs.Exact.{Joined, AllCleaning}
use Rattle.play.specs.Bound.{line_count, most, Bounded, FewLines, calls_in, is_tell, FewPasses}
use Rattle.play.specs.Settle.{and_then, calling, each, word_to, words, above, joins, tallies, passes, rounding, collects, completing, settling}
use Rattle.play.proofs.Programs.{truth}
use Rattle.play.proofs.Promise.{has_back, has_there}
use Rattle.play.proofs.Tracking.{Kept, kept}
use Rattle.play.proofs.FairEntries.{plays_append, kept_plays, way_plays, each_brings}
use Rattle.play.proofs.FairPump.{cleanly_words, cleanly_joins, cleanly_completing}
use Rattle.play.proofs.FairSteps.{Fairly}
use Rattle.play.proofs.FairWays.{fair_way, fair_first}
use Rattle.play.proofs.SettledWords.{words_heard}
use Rattle.play.proofs.SettledJoins.{above_all}
use Rattle.play.proofs.Settled.{all_joined}
use Rattle.play.proofs.CompletePass.{settles}
use Rattle.play.proofs.BoundLines.{fewer_lines}
use Rattle.play.proofs.BoundDesk.{loose, awaits, tight}
use Rattle.play.proofs.BoundPrice.{word_price, join_price, round_price}
use Rattle.play.proofs.BoundPump.{spent, calling_bound, calling_sent}
use Rattle.play.proofs.BoundTells.{sum, sum_same, told_in, Passing, passing}
use Rattle.play.proofs.BoundHeld.{held_few}
use Rattle.play.proofs.BoundCalls.{count_settling}
use Rattle.play.proofs.BoundPasses.{times_next, passes_few}

-- no more than b was sent
abbrev Sent : ℕ → World → Type 0
Sent b w = length w.sent ≤ b

-- words: one to each other house
module _ (n : ℕ) where
  -- house i has told those below k, of which it is one or not
  record Wording (i b k : ℕ) (w : World) : Type 0 where
    all : length w.sent ≤ b + k
    own : i < k → suc (length w.sent) ≤ b + k

  wording_one : (i b k : ℕ) (w : World) → i < n → k < n → Kept n w → Wording i b k w → Wording i b (suc k) (plays n (word_to n i k w) w)
  wording_one i b k w li lk x a = ⊎_elim same other (cases_eq i k)
    where
      same : i ≡ k → Wording i b (suc k) (plays n (word_to n i k w) w)
      same e =
          subst (λ (es : List Entry). Wording i b (suc k) (plays n es w)) (sym (cond-true (eqb i k) [] (calling n i (call.Word (house k)) w) (eq-eqb i k e)))
          (let q = a.all in record { all = omega arith; own = λ _. omega arith })

      other : (i ≡ k → ⊥) → Wording i b (suc k) (plays n (word_to n i k w) w)
      other e =
          let z : length (plays n (word_to n i k w) w).sent ≤ length w.sent + 1 = cond_both (eqb i k) [] (calling n i (call.Word (house k)) w) (λ es. length (plays n es w).sent ≤ length w.sent + 1) (λ _. omega arith) (λ _. calling_sent n i 1 (call.Word (house k)) w x li tt (word_price n (loose n) i k (w.house i))) in
          record { all = more a.all z; own = λ l. less (a.own (earlier l e)) z }
        where
          more : {s t : ℕ} → s ≤ b + k → t ≤ s + 1 → t ≤ b + suc k
          more p q = omega arith

          less : {s t : ℕ} → suc s ≤ b + k → t ≤ s + 1 → suc t ≤ b + suc k
          less p q = omega arith

          earlier : i < suc k → (i ≡ k → ⊥) → i < k
          earlier p q = omega arith

  wording_all : (i b : ℕ) (w : World) → i < n → Kept n w → length w.sent ≤ b → suc (length (plays n (each n (λ j u. word_to n i j u) n w) w).sent) ≤ b + n
  wording_all i b w l x p =
      (each_brings n (λ k u. Wording i b k u) (λ j u. word_to n i j u) (λ j u m y a. wording_one i b j u l m y a) n w x (record { all = omega arith; own = λ z. absurd (none z) }) (omega arith)).own l
    where
      none : {a : ℕ} → a < 0 → ⊥
      none z = omega arith

  words_sent : (w : World) → Kept n w → length (plays n (words n w) w).sent + n ≤ length w.sent + n * n
  words_sent w x =
      each_brings n (λ k v. length v.sent + k ≤ length w.sent + n * k) (λ i v. each n (λ j u. word_to n i j u) n v)
      (λ i v l y p. next _ _ _ _ _ _ (wording_all i (length v.sent) v l y (omega arith)) p (times_next n i)) n w x (omega (arith, mul-zero n)) (omega arith)
    where
      next : (s t b i m o : ℕ) → suc t ≤ s + n → s + i ≤ b + m → o ≡ m + n → t + suc i ≤ b + o
      next s t b i m o p q r = omega arith

  joins_sent : (c : ℕ) (w : World) → Kept n w → Sent (length w.sent) (plays n (joins n c w) w)
  joins_sent c w x =
      each_brings n (λ _ v. Sent (length w.sent) v) (λ i v. calling n i (call.Join c) v) (λ i v l y p. more (calling_sent n i 0 (call.Join c) v y l tt (join_price n (loose n) i c (v.house i))) p) n w x (omega arith) (omega arith)
    where
      more : {a b s : ℕ} → s ≤ a + 0 → a ≤ b → s ≤ b
      more p q = omega arith

  collects_sent : (w : World) → Kept n w → Sent (length w.sent) (plays n (collects n w) w)
  collects_sent w x =
      each_brings n (λ _ v. Sent (length w.sent) v) (λ i v. calling n i call.Collect v) (λ i v l y p. more (calling_sent n i 0 call.Collect v y l tt (record { cost = omega arith })) p) n w x (omega arith) (omega arith)
    where
      more : {a b s : ℕ} → s ≤ a + 0 → a ≤ b → s ≤ b
      more p q = omega arith

  rounding_sent : (w : World) → 0 < n → Kept n w → spent n (tight n) (plays n (rounding n w) w) ≤ spent n (tight n) w + (1 + n + cond (leb 2 ((w.house 0).desk.round + 1)) 1 0)
  rounding_sent w some x = calling_bound n (tight n) asker (1 + n + cond (leb 2 ((w.house 0).desk.round + 1)) 1 0) call.Round w x some tt (round_price n (w.house asker))

  -- a first round, and one more: only the second may bring the news
  first_sent : (w : World) → 0 < n → Kept n w → (w.house 0).desk ≡ idle → spent n (tight n) (plays n (rounding n w) w) ≤ length w.sent + (1 + n)
  first_sent w some x e =
      let z = rounding_sent w some x in
      less _ _ _ _ z (ap (awaits n) e) (ap (λ (d : Desk). cond (leb 2 (d.round + 1)) 1 0) e)
    where
      less : (a l d c : ℕ) → a ≤ l + d + (1 + n + c) → d ≡ 0 → c ≡ 0 → a ≤ l + (1 + n)
      less a l d c p q r = omega arith

  second_sent : (w : World) (b : ℕ) → 0 < n → Kept n w → spent n (tight n) w ≤ b → length (plays n (rounding n w) w).sent ≤ b + (2 + n)
  second_sent w b some x p = less _ _ _ _ (rounding_sent w some x) p (one (leb 2 ((w.house 0).desk.round + 1)))
    where
      one : (t : Bool) → cond t 1 0 ≤ 1
      one true = omega arith
      one false = omega arith

      less : (a d s c : ℕ) → a + d ≤ s + (1 + n + c) → s ≤ b → c ≤ 1 → a ≤ b + (2 + n)
      less a d s c q r t = omega arith

-- the first of some entries
front : (n : ℕ) (es fs : List Entry) (w : World) → AllCleaning n (es ++ fs) w → AllCleaning n es w
front n [] fs w c = tt
front n (e ∷ es) fs w c = (c.0, front n es fs _ c.1)

long_names : (ts : List Told) → length (names ts) ≡ length ts
long_names [] = refl
long_names (t ∷ ts) = ap suc (long_names ts)

-- in a fair census there is no more told than there are lines
told_few : (n c : ℕ) (w : World) → 0 < n → Kept n w → Fairly n c (seen n w).net → ((i : ℕ) → i < n → rules.census (w.house i) ≡ c) → sum n (told_in w) ≤ line_count n w
told_few n c w some x fair own =
    less (sum_same n (λ i. length (names (w.house i).part.told)) (told_in w) (λ i _. sym (long_names (w.house i).part.told)))
    (held_few n w (λ i. names (w.house i).part.told) (λ i l. (x.sound i l).part.order) there)
  where
    less : {a b d : ℕ} → a ≡ b → b ≤ d → a ≤ d
    less e p = omega arith

    there : (i o : ℕ) → i < n → is_in o (names (w.house i).part.told) ≡ true → (j : ℕ) × (j < n) × (listed o i (w.house j).list ≡ true)
    there i o l m =
        let said = spoken_of x.runs i o (truth m) in
        let has = has_back n w (fair.spoken (rules.census (w.house i)) o i (le_of_eq (sym (own i l))) said) in
        let part = (x.sound i l).part in
        (home o, subst (λ (z : ℕ). home o < z) (x.houses i l) (part.named o m).near, ⊎_elim (λ e. absurd (part.far o m (e ∙ sym (x.self i l)))) (λ e. e) (has_there n w x i o has).known)

module _ (n : ℕ) (w : World) (some : 0 < n) (k : Kept n w) (low : (i : ℕ) → i < n → rules.census (w.house i) < 4294967295) where
  abbrev told : World
  told = plays n (words n w) w

  abbrev c : ℕ
  c = above n told

  abbrev joined : World
  joined = plays n (joins n c told) told

  abbrev passed : World
  passed = plays n (passes (2048 * n + 1) n joined) joined

  kept_told : Kept n told
  kept_told = kept_plays n (words n w) w k

  kept_joined : Kept n joined
  kept_joined = kept_plays n (joins n c told) told kept_told

  kept_passed : Kept n passed
  kept_passed = kept_plays n (passes (2048 * n + 1) n joined) joined kept_joined

  clean_passes : AllCleaning n (passes (2048 * n + 1) n joined) joined
  clean_passes = front n (passes (2048 * n + 1) n joined) _ joined (cleanly_completing n joined kept_joined)

  fair_passed : Fairly n c (seen n passed).net
  fair_passed =
      fair_way kept_joined.runs (way_plays n (passes (2048 * n + 1) n joined) joined kept_joined clean_passes)
      (fair_way kept_told.runs (way_plays n (joins n c told) told kept_told (cleanly_joins n c told kept_told)) (fair_first c kept_told.runs (words_heard n w k) (above_all n told)))

  lines_passed : line_count n passed ≤ line_count n w
  lines_passed =
      more (fewer_lines n (passes (2048 * n + 1) n joined) joined kept_joined clean_passes n) (fewer_lines n (joins n c told) told kept_told (cleanly_joins n c told kept_told) n) (fewer_lines n (words n w) w k (cleanly_words n w k) n)
    where
      more : {a b d e : ℕ} → a ≤ b → b ≤ d → d ≤ e → a ≤ e
      more p q r = omega arith

  all_in : Joined n c joined
  all_in = all_joined n w some k low

  passing_joined : Passing n c (length joined.sent) joined
  passing_joined = record { census = all_in.census; answered = λ i l. ap (λ (p : Part). length (unanswered p.told)) (all_in.part i l); spent = omega arith }

  passing_all : Passing n c (length joined.sent) passed
  passing_all = passing n c (length joined.sent) (2048 * n + 1) joined kept_joined passing_joined

  quiet_desk : (passed.house 0).desk ≡ idle
  quiet_desk =
      (settles n c some (2048 * n + 1) joined (record { kept = kept_joined; census = all_in.census; stirred = λ i l. ap (λ (p : Part). p.stirred) (all_in.part i l); desk = all_in.desk }) (room (2048 * n) (tallies n joined))).desk
    where
      room : (a t : ℕ) → a < a + 1 + t
      room a t = omega arith

  passed_sent : length passed.sent + n ≤ length w.sent + n * n + 2 * line_count n w
  passed_sent =
      add _ _ _ _ _ _ _ passing_all.spent (told_few n c passed some kept_passed fair_passed passing_all.census) lines_passed (joins_sent n c told kept_told) (words_sent n w k)
    where
      add : (p j s l m t a : ℕ) → p ≤ j + 2 * s → s ≤ l → l ≤ m → j ≤ t → t + n ≤ a → p + n ≤ a + 2 * m
      add p j s l m t a e f g h i = omega arith

  abbrev once : World
  once = plays n (rounding n passed) passed

  abbrev twice : World
  twice = plays n (rounding n once) once

  whole : plays n (settling n w) w ≡ plays n (collects n twice) twice
  whole =
      plays_append n (words n w) (and_then n told (joins n c told) (λ u. and_then n u (completing n u) (λ t. collects n t))) w
      ∙ plays_append n (joins n c told) (and_then n joined (completing n joined) (λ t. collects n t)) told
      ∙ plays_append n (completing n joined) (collects n (plays n (completing n joined) joined)) joined
      ∙ ap (λ (v : World). plays n (collects n v) v) (plays_append n (passes (2048 * n + 1) n joined) (and_then n passed (rounding n passed) (λ u. rounding n u)) joined ∙ plays_append n (rounding n passed) (rounding n once) passed)

  kept_once : Kept n once
  kept_once = kept_plays n (rounding n passed) passed kept_passed

  pub bounded_from : length (plays n (settling n w) w).sent ≤ length w.sent + most n (line_count n w)
  bounded_from =
      subst (λ (v : World). length v.sent ≤ length w.sent + most n (line_count n w)) (sym whole)
      (add _ _ _ _ _ _ (collects_sent n twice (kept_plays n (rounding n once) once kept_once)) (second_sent n once (length passed.sent + (1 + n)) some kept_once (first_sent n passed some kept_passed quiet_desk)) passed_sent (square n some))
    where
      square : (m : ℕ) → 0 < m → m * m ≡ m * (m - 1) + m
      square zero l = absurd (omega arith)
      square (suc m) l = let e : suc m - 1 ≡ m = omega arith in times_next (suc m) m ∙ ap (λ (z : ℕ). suc m * z + suc m) (sym e)

      add : (a b p l q m : ℕ) → a ≤ b → b ≤ p + (1 + n) + (2 + n) → p + n ≤ l + q + 2 * line_count n w → q ≡ m + n → a ≤ l + (m + 2 * line_count n w + 2 * (1 + n) + 1)
      add a b p l q m e f g h = omega arith

  -- no more passes than lines, and one
  pub few_from : calls_in is_tell (settling n w) ≤ n * suc (line_count n w)
  few_from =
      add _ _ _ _ _ (count_settling is_tell (λ j. refl) (λ d. refl) refl n w) (passes_few n c (length joined.sent) (2048 * n + 1) joined kept_joined passing_joined)
      (mul-le-mul_left n (more (told_few n c passed some kept_passed fair_passed passing_all.census) lines_passed))
    where
      more : {a b d : ℕ} → a ≤ b → b ≤ d → suc a ≤ suc d
      more p q = omega arith

      add : (a b d e f : ℕ) → a ≡ b + 2 * 0 → b + d ≤ e → e ≤ f → a ≤ f
      add a b d e f p q r = omega arith

pub bounded : Bounded
bounded n some few w r low = bounded_from n w some (kept n few r) low

pub few_passes : FewPasses
few_passes n some few w r low = few_from n w some (kept n few r) low

pub few_lines : FewLines
few_lines n few w r = all n (omega arith)
  where
    add : (a x k : ℕ) → a ≤ 2048 * k → x ≤ 2048 → a + x ≤ 2048 * suc k
    add a x k p q = omega arith

    all : (k : ℕ) → k ≤ n → line_count k w ≤ 2048 * k
    all zero l = omega arith
    all (suc k) l = add (line_count k w) (length (w.house k).list) k (all k (omega arith)) ((kept n few r).sound k (omega arith)).list.few
