-- The passes: each house tells of each reference once, so there are two messages for each that was told, however many passes there are.
use Rattle.std.proofs.Common.{◌≡◌, ℕ, zero, suc, ◌+◌, ◌*◌, ◌<◌, ◌≤◌, Bool, true, false, cond, eqb, ltb, List, [], ◌∷◌, length, sym, refl, ap, ◌∙◌, subst, ⊎_elim, arith}
use Rattle.std.proofs.lemmas.Bool.{cond_both, cond-true, and_parts, eqb-true, eq-eqb, lt-ltb, cases_eq}
use Rattle.wire.specs.declared.call.Call.TheVariants as call
use Rattle.census.specs.Model.{Part, Told, calm, entered, entered_all, untold, unanswered, telling, due_of}
use Rattle.rules.specs.House.{House, census, with_part}
use Rattle.rules.specs.Step.{used, tell}
use Rattle.play.specs.Play.{World, calls, happens, play, plays}
use Rattle.play.specs.Seen.{answered_names}
use Rattle.play.specs.Settle.{enough, calling, pass, tallies, passes}
use Rattle.play.proofs.Tracking.{Kept}
use Rattle.play.proofs.FairEntries.{plays_append, kept_plays, each_brings}
use Rattle.play.proofs.CompleteTelling.{HasTold, tells}
use Rattle.play.proofs.BoundDesk.{loose}
use Rattle.play.proofs.BoundPrice.{tell_price}
use Rattle.play.proofs.BoundPump.{calling_sent}
use Rattle.play.proofs.BoundTold.{pumped}

-- sums over the houses below k
abbrev pub sum : ℕ → (ℕ → ℕ) → ℕ
sum zero f = 0
sum (suc k) f = sum k f + f k

pub sum_same : (k : ℕ) (f g : ℕ → ℕ) → ((j : ℕ) → j < k → g j ≡ f j) → sum k g ≡ sum k f
sum_same zero f g e = refl
sum_same (suc k) f g e = let x = sum_same k f g (λ j l. e j (omega arith)) in let y = e k (omega arith) in omega arith

-- one of them has d more
sum_at : (k i d : ℕ) (f g : ℕ → ℕ) → i < k → g i ≡ f i + d → ((j : ℕ) → j < k → (j ≡ i → ⊥) → g j ≡ f j) → sum k g ≡ sum k f + d
sum_at zero i d f g l e o = absurd (omega arith)
sum_at (suc k) i d f g l e o = ⊎_elim here (λ p. later p (sum_at k i d f g (earlier l p) e (λ j z. o j (below j z)))) (cases_eq i k)
  where
    add : (a b x y : ℕ) → a ≡ b → x ≡ y + d → a + x ≡ b + y + d
    add a b x y p q = omega arith

    rest : (a b x y : ℕ) → a ≡ b + d → x ≡ y → a + x ≡ b + y + d
    rest a b x y p q = omega arith

    below : (j : ℕ) → j < k → j < suc k
    below j z = omega arith

    apart : (j : ℕ) → j < k → i ≡ k → j ≡ i → ⊥
    apart j z p q = omega arith

    here : i ≡ k → sum k g + g k ≡ sum k f + f k + d
    here p = add _ _ _ _ (sum_same k f g (λ j z. o j (below j z) (apart j z p))) (subst (λ (x : ℕ). g x ≡ f x + d) p e)

    earlier : i < suc k → (i ≡ k → ⊥) → i < k
    earlier z p = omega arith

    later : (i ≡ k → ⊥) → sum k g ≡ sum k f + d → sum k g + g k ≡ sum k f + f k + d
    later p z = rest _ _ _ _ z (o k (omega arith) (λ q. p (sym q)))

abbrev pub told_in : World → ℕ → ℕ
told_in w i = length (w.house i).part.told

-- what was told is answered or not
split : (ts : List Told) → length (unanswered ts) + length (answered_names ts) ≡ length ts
split [] = refl
split (t ∷ ts) = let z = split ts in go t.answered z
  where
    go : (b : Bool) → length (unanswered ts) + length (answered_names ts) ≡ length ts → length (cond b (unanswered ts) (t.name ∷ unanswered ts)) + length (cond b (t.name ∷ answered_names ts) (answered_names ts)) ≡ suc (length ts)
    go true z = omega arith
    go false z = omega arith

-- what is told anew is not answered yet
answered_entered : (o : ℕ) (ts : List Told) → length (answered_names (entered o ts)) ≡ length (answered_names ts)
answered_entered o [] = refl
answered_entered o (t ∷ ts) =
    cond_both (ltb t.name o) (t ∷ entered o ts) (cond (eqb t.name o) (t ∷ ts) (record { name = o; answered = false } ∷ t ∷ ts)) (λ us. length (answered_names us) ≡ length (answered_names (t ∷ ts)))
    (λ _. go t.answered (answered_entered o ts))
    (λ _. cond_both (eqb t.name o) (t ∷ ts) (record { name = o; answered = false } ∷ t ∷ ts) (λ us. length (answered_names us) ≡ length (answered_names (t ∷ ts))) (λ _. refl) (λ _. refl))
  where
    go : (b : Bool) → length (answered_names (entered o ts)) ≡ length (answered_names ts) → length (cond b (t.name ∷ answered_names (entered o ts)) (answered_names (entered o ts))) ≡ length (cond b (t.name ∷ answered_names ts) (answered_names ts))
    go true z = ap suc z
    go false z = z

answered_all : (us : List ℕ) (ts : List Told) → length (answered_names (entered_all us ts)) ≡ length (answered_names ts)
answered_all [] ts = refl
answered_all (u ∷ us) ts = answered_all us (entered u ts) ∙ answered_entered u ts

-- where all was answered, just what is due is newly told
newly_told : (us : List ℕ) (ts : List Told) → length (unanswered ts) ≡ 0 → length (entered_all us ts) ≡ length ts + length (unanswered (entered_all us ts))
newly_told us ts e = add _ _ _ _ _ _ (split ts) (split (entered_all us ts)) (answered_all us ts) e
  where
    add : (a b c x y z : ℕ) → a + b ≡ c → x + y ≡ z → y ≡ b → a ≡ 0 → z ≡ c + x
    add a b c x y z p q r s = omega arith

calm_answered : (us : List ℕ) (p : Part) → calm us p ≡ true → length (unanswered p.told) ≡ 0
calm_answered us p e = eqb-true (length (unanswered p.told)) 0 (and_parts (eqb (length (untold us p.told)) 0) (eqb (length (unanswered p.told)) 0) e).1

-- all houses are in census c, all that was told is answered, and no more was sent than b, and twice what was told
pub record Passing (n c b : ℕ) (w : World) : Type 0 where
  pub census : (i : ℕ) → i < n → census (w.house i) ≡ c
  pub answered : (i : ℕ) → i < n → length (unanswered (w.house i).part.told) ≡ 0
  pub spent : length w.sent ≤ b + 2 * sum n (told_in w)

module _ (n c b i : ℕ) (w : World) (inside : i < n) (kept : Kept n w) (p : Passing n c b w) where
  abbrev after : World
  after = plays n (calling n i call.Tell w) w

  t : HasTold n i w (plays n (calling n i call.Tell w) w)
  t = tells n c i w kept inside p.census

  abbrev due : ℕ
  due = length (due_of (used (w.house i)) (w.house i).part)

  told_own : told_in (plays n (calling n i call.Tell w) w) i ≡ told_in w i + due
  told_own =
      let v = play n (calls i call.Tell) w in
      let is : v ≡ happens i tell w = cond-true (ltb i n) (happens i tell w) w (lt-ltb i n inside) in
      let q : v.house i ≡ with_part (telling (used (w.house i)) (w.house i).part) (w.house i) = ap (λ (u : World). u.house i) is ∙ cond-true (eqb i i) _ (w.house i) (eq-eqb i i refl) in
      let s = pumped (enough n (length w.sent) v) n (length w.sent) v i in
      s.told (t.grows.census ∙ sym (ap census q)) ∙ ap (λ (h : House). length h.part.told) q ∙ newly_told (used (w.house i)) (w.house i).part.told (p.answered i inside)

  -- what is due is newly told, in all
  pub told_more : sum n (told_in (plays n (calling n i call.Tell w) w)) ≡ sum n (told_in w) + length (due_of (used (w.house i)) (w.house i).part)
  told_more = sum_at n i due (told_in w) (told_in after) inside told_own (λ j l e. ap length (t.others j l e).told)

  pub passing_one : Passing n c b (plays n (calling n i call.Tell w) w)
  passing_one =
      record {
        census = λ j l. ⊎_elim (λ e. subst (λ (x : ℕ). census (after.house x) ≡ c) (sym e) (t.grows.census ∙ p.census i inside)) (λ e. (t.others j l e).grows.census ∙ p.census j l) (cases_eq j i);
        answered = λ j l. ⊎_elim (λ e. subst (λ (x : ℕ). length (unanswered (after.house x).part.told) ≡ 0) (sym e) (calm_answered (used (after.house i)) (after.house i).part t.calm))
            (λ e. ap (λ (ts : List Told). length (unanswered ts)) (t.others j l e).told ∙ p.answered j l) (cases_eq j i);
        spent = add _ _ _ _ _ (calling_sent n i (2 * due) call.Tell w kept inside tt (tell_price n (loose n) i (w.house i))) p.spent told_more;
      }
    where
      add : (a l s r d : ℕ) → a ≤ l + 2 * d → l ≤ b + 2 * s → r ≡ s + d → a ≤ b + 2 * r
      add a l s r d e f g = omega arith

module _ (n c b : ℕ) where
  pub passing_pass : (w : World) → Kept n w → Passing n c b w → Passing n c b (plays n (pass n w) w)
  passing_pass w x p = each_brings n (λ _ v. Passing n c b v) (λ i v. calling n i call.Tell v) (λ i v l y q. passing_one n c b i v l y q) n w x p (omega arith)

  pub passing : (k : ℕ) (w : World) → Kept n w → Passing n c b w → Passing n c b (plays n (passes k n w) w)
  passing zero w x p = p
  passing (suc k) w x p =
      let v = plays n (pass n w) w in
      subst (Passing n c b) (sym (plays_append n (pass n w) (cond (eqb (tallies n v) (tallies n w)) [] (passes k n v)) w))
      (cond_both (eqb (tallies n v) (tallies n w)) [] (passes k n v) (λ es. Passing n c b (plays n es v)) (λ _. passing_pass w x p) (λ _. passing k v (kept_plays n (pass n w) w x) (passing_pass w x p)))
