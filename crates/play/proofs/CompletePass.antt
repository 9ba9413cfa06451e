-- Each house tells in turn, again and again until nothing is newly marked: then all are calm.
use Rattle.std.proofs.Common.{◌≡◌, ℕ, zero, suc, ◌+◌, ◌*◌, ◌<◌, ◌≤◌, Bool, true, false, cond, ◌&&◌, eqb, List, [], length, sym, refl, ap, ◌∙◌, subst, ⊎_elim, arith}
use Rattle.std.proofs.lemmas.Bool.{eqb-true, eqb-false, cases_eq}
use Rattle.wire.specs.declared.call.Call.TheVariants as call
use Rattle.census.specs.Model.{Part, Told, untold, unanswered, calm}
use Rattle.rounds.specs.Model.{idle}
use Rattle.rules.specs.House.{House}
use Rattle.rules.specs.Step.{used}
use Rattle.rules.proofs.Sound.{tally_few}
use Rattle.play.specs.Play.{World, Entry, plays}
use Rattle.play.specs.Settle.{calling, each, pass, tallies, passes}
use Rattle.play.proofs.Tracking.{Kept}
use Rattle.play.proofs.FairEntries.{plays_append}
use Rattle.play.proofs.CalmAsked.{AllCalm}
use Rattle.play.proofs.CompleteGrows.{Grows, grows_refl, grows_on, used_same, between}
use Rattle.play.proofs.CompleteTelling.{Marked, HasTold, tells}

-- all houses are in census c, none was stirred in it, and no round was begun
pub record Begun (n c : ℕ) (w : World) : Type 0 where
  pub kept : Kept n w
  pub census : (i : ℕ) → i < n → (w.house i).part.census ≡ c
  pub stirred : (i : ℕ) → i < n → (w.house i).part.stirred ≡ false
  pub desk : (w.house 0).desk ≡ idle

-- the houses below k have told in this pass: each whose tally stays is calm
record Passed (n k : ℕ) (w v : World) : Type 0 where
  kept : Kept n v
  grows : (i : ℕ) → i < n → Grows (w.house i) (v.house i)
  quiet : (i : ℕ) → i < k → i < n → (w.house i).part.tally ≡ (v.house i).part.tally → calm (used (v.house i)) (v.house i).part ≡ true

calm_same : (us vs : List ℕ) (p q : Part) → vs ≡ us → q.told ≡ p.told → calm us p ≡ true → calm vs q ≡ true
calm_same us vs p q e f c =
    ap (λ (xs : List ℕ). calm xs q) e ∙ ap (λ (ts : List Told). eqb (length (untold us ts)) 0 && eqb (length (unanswered ts)) 0) f ∙ c

still_calm : (h g f : House) → Grows h g → Marked g f → (h.part.tally ≡ g.part.tally → calm (used g) g.part ≡ true) → h.part.tally ≡ f.part.tally → calm (used f) f.part ≡ true
still_calm h g f a m q e =
    let z = between h.part.tally g.part.tally f.part.tally a.tally m.grows.tally e in
    calm_same (used g) (used f) g.part f.part (used_same g f m.grows z.1) m.told (q z.0)

passed_one : (n k : ℕ) (w v u : World) → k < n → Passed n k w v → HasTold n k v u → Passed n (suc k) w u
passed_one n k w v u lt p t =
    record {
      kept = t.kept;
      grows = λ i l. ⊎_elim (λ e. subst (λ (j : ℕ). Grows (w.house j) (u.house j)) (sym e) (grows_on (w.house k) (v.house k) (u.house k) (p.grows k lt) t.grows)) (λ e. grows_on (w.house i) (v.house i) (u.house i) (p.grows i l) (t.others i l e).grows) (cases_eq i k);
      quiet = λ i b l e. ⊎_elim (λ z. subst (λ (j : ℕ). calm (used (u.house j)) (u.house j).part ≡ true) (sym z) t.calm)
          (λ z. still_calm (w.house i) (v.house i) (u.house i) (p.grows i l) (t.others i l z) (p.quiet i (earlier i k b z) l) e) (cases_eq i k);
    }
  where
    earlier : (i k : ℕ) → i < suc k → (i ≡ k → ⊥) → i < k
    earlier i k a b = omega arith

module _ (n c : ℕ) where
  abbrev tells_below : ℕ → World → List Entry
  tells_below k w = each n (λ i v. calling n i call.Tell v) k w

  passed_below : (k : ℕ) (w : World) → k ≤ n → Begun n c w → Passed n k w (plays n (tells_below k w) w)
  passed_below zero w le b = record { kept = b.kept; grows = λ i l. grows_refl (w.house i); quiet = λ i l. absurd (none l) }
    where
      none : {a : ℕ} → a < 0 → ⊥
      none l = omega arith
  passed_below (suc k) w le b =
      let p = passed_below k w (omega arith) b in
      let v = plays n (tells_below k w) w in
      subst (Passed n (suc k) w) (sym (plays_append n (tells_below k w) (calling n k call.Tell v) w))
      (passed_one n k w v (plays n (calling n k call.Tell v) v) (omega arith) p (tells n c k v p.kept (omega arith) (λ j l. (p.grows j l).census ∙ b.census j l)))

  pub begun_on : (w v : World) → 0 < n → Begun n c w → Kept n v → ((i : ℕ) → i < n → Grows (w.house i) (v.house i)) → Begun n c v
  begun_on w v some b kept g =
      record { kept = kept; census = λ i l. (g i l).census ∙ b.census i l; stirred = λ i l. (g i l).stirred ∙ b.stirred i l; desk = (g 0 some).desk ∙ b.desk }

-- sums of tallies
tallies_less : (k : ℕ) (w v : World) → ((i : ℕ) → i < k → (w.house i).part.tally ≤ (v.house i).part.tally) → tallies k w ≤ tallies k v
tallies_less zero w v f = omega arith
tallies_less (suc k) w v f = add (tallies k w) (tallies k v) (w.house k).part.tally (v.house k).part.tally (tallies_less k w v (λ i l. f i (omega arith))) (f k (omega arith))
  where
    add : (a b x y : ℕ) → a ≤ b → x ≤ y → a + x ≤ b + y
    add a b x y p q = omega arith

tallies_same : (k : ℕ) (w v : World) → ((i : ℕ) → i < k → (w.house i).part.tally ≤ (v.house i).part.tally) → tallies k v ≡ tallies k w → (i : ℕ) → i < k → (w.house i).part.tally ≡ (v.house i).part.tally
tallies_same zero w v f e i l = absurd (none l)
  where
    none : {a : ℕ} → a < 0 → ⊥
    none z = omega arith
tallies_same (suc k) w v f e i l =
    let low : (j : ℕ) → j < k → (w.house j).part.tally ≤ (v.house j).part.tally = λ j z. f j (omega arith) in
    let z = split (tallies k w) (tallies k v) (w.house k).part.tally (v.house k).part.tally (tallies_less k w v low) (f k (omega arith)) e in
    ⊎_elim (λ q. subst (λ (j : ℕ). (w.house j).part.tally ≡ (v.house j).part.tally) (sym q) z.1) (λ q. tallies_same k w v low z.0 i (earlier i k l q)) (cases_eq i k)
  where
    split : (a b x y : ℕ) → a ≤ b → x ≤ y → b + y ≡ a + x → (b ≡ a) × (x ≡ y)
    split a b x y p q r = (omega arith, omega arith)

    earlier : (i k : ℕ) → i < suc k → (i ≡ k → ⊥) → i < k
    earlier i k a b = omega arith

tallies_few : (n k : ℕ) (w : World) → Kept n w → k ≤ n → tallies k w ≤ 2048 * k
tallies_few n zero w kept le = omega arith
tallies_few n (suc k) w kept le = add (tallies k w) (w.house k).part.tally k (tallies_few n k w kept (omega arith)) (tally_few (w.house k) (kept.sound k (omega arith)))
  where
    add : (a x k : ℕ) → a ≤ 2048 * k → x ≤ 2048 → a + x ≤ 2048 * suc k
    add a x k p q = omega arith

-- all are calm, and no round was begun
pub record Settled (n c : ℕ) (v : World) : Type 0 where
  pub kept : Kept n v
  pub calm : AllCalm n c (λ i. (v.house i).part.tally) v
  pub desk : (v.house 0).desk ≡ idle

module _ (n c : ℕ) (some : 0 < n) where
  -- a pass in which nothing was newly marked
  settled : (w v : World) → Begun n c w → Passed n n w v → tallies n v ≡ tallies n w → Settled n c v
  settled w v b p e =
      let d = begun_on n c w v some b p.kept p.grows in
      record {
        kept = p.kept;
        calm = λ i l. record { census = d.census i l; calm = p.quiet i l l (tallies_same n w v (λ j z. (p.grows j z).tally) e i l); stirred = d.stirred i l; tally = refl };
        desk = d.desk;
      }

  pub settles : (k : ℕ) (w : World) → Begun n c w → 2048 * n < k + tallies n w → Settled n c (plays n (passes k n w) w)
  settles zero w b room = absurd (full (2048 * n) (tallies n w) room (tallies_few n n w b.kept (omega arith)))
    where
      full : (a t : ℕ) → a < 0 + t → t ≤ a → ⊥
      full a t p q = omega arith
  settles (suc k) w b room =
      subst (Settled n c) (sym (plays_append n (pass n w) (cond (eqb (tallies n v) (tallies n w)) [] (passes k n v)) w))
      (go (eqb (tallies n v) (tallies n w)) refl (λ f. settles k v (begun_on n c w v some b p.kept p.grows) (grown (2048 * n) k (tallies n w) (tallies n v) room (tallies_less n w v (λ j z. (p.grows j z).tally)) f)))
    where
      v : World
      v = plays n (pass n w) w

      p : Passed n n w v
      p = passed_below n c n w (omega arith) b

      grown : (a k s t : ℕ) → a < suc k + s → s ≤ t → (t ≡ s → ⊥) → a < k + t
      grown a k s t x y z = omega arith

      go : (b : Bool) → eqb (tallies n v) (tallies n w) ≡ b → ((tallies n v ≡ tallies n w → ⊥) → Settled n c (plays n (passes k n v) v)) → Settled n c (plays n (cond b [] (passes k n v)) v)
      go true e f = settled w v b p (eqb-true (tallies n v) (tallies n w) e)
      go false e f = f (eqb-false (tallies n v) (tallies n w) e)
