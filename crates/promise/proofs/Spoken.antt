-- In every run: what a house has told was said, of an object of some house; and the present round was asked.
use Rattle.std.proofs.Common.{◌≡◌, ℕ, suc, ◌<◌, T, ◌⊎◌, List, ◌∷◌, sym, refl, ap, subst, inl, inr, ⊎_elim}
use mathlib.Core.List.Memᴰ
use mathlib.Core.List.{Memᴰ}
use Rattle.wire.specs.Names.{home}
use Rattle.tables.specs.Model.{is_in}
use Rattle.lines.specs.Listed.{marked}
use Rattle.promise.specs.House.{Used}
use Rattle.promise.specs.Net.{Msg, Mark, Net, Uses, Cleans, put, in_census, with_list}
use Rattle.promise.specs.Rounds.{Part, fresh, Round, World, telling, hearing, polling, stirring, stirs, census_of, Turn, Runs}
use Rattle.promise.proofs.Base.{same_at, is_in→mem, mem→is_in, set_elim}
use Rattle.promise.proofs.Inv.{used→mt}
use Rattle.promise.proofs.Moves.{both_elim, uses_moves, cleans_moves}
use Rattle.promise.proofs.Ends.{fits, good_of}

-- what is told was said, of an object of some house
pub record Spoken (houses : ℕ) (w : World) : Type 0 where
  pub sent : (i o : ℕ) → T (is_in o (w.part i).told) → Memᴰ (Mark (census_of w i) o i) w.net.sent × (home o < houses)

stirs_told : {houses : ℕ} {n m : Net} (u : Uses houses n m) (f : ℕ → Part) (i : ℕ) → (stirs u f i).told ≡ (f i).told
stirs_told (Uses.make n i k a b d) f j = refl
stirs_told (Uses.link n i o p a b d e) f j = refl
stirs_told (Uses.unlink n i o p a b d) f j = refl
stirs_told (Uses.load n i o p a b d e) f j = refl
stirs_told (Uses.drop n i o a) f j = refl
stirs_told (Uses.ask n i o q a b d) f j = refl
stirs_told (Uses.give n k o i q a b d e g h) f j = refl
stirs_told (Uses.give_home n k o i a b d e g) f j = refl
stirs_told (Uses.take n i o s a b d) f j = set_elim (λ j p. p.told ≡ (f j).told) i (stirring (f i)) f refl (λ j. refl) j

uses_sent : {houses : ℕ} {n m : Net} → Uses houses n m → (x : Msg) → Memᴰ x n.sent → Memᴰ x m.sent
uses_sent (Uses.make n i k a b d) x z = z
uses_sent (Uses.link n i o p a b d e) x z = z
uses_sent (Uses.unlink n i o p a b d) x z = z
uses_sent (Uses.load n i o p a b d e) x z = z
uses_sent (Uses.drop n i o a) x z = z
uses_sent (Uses.ask n i o q a b d) x z = Memᴰ.tail z
uses_sent (Uses.give n k o i q a b d e g h) x z = Memᴰ.tail z
uses_sent (Uses.give_home n k o i a b d e g) x z = z
uses_sent (Uses.take n i o s a b d) x z = z

cleans_sent : {houses : ℕ} {n m : Net} → Cleans houses n m → (x : Msg) → Memᴰ x n.sent → Memᴰ x m.sent
cleans_sent (Cleans.word n j k held a b d e f) x z = Memᴰ.tail z
cleans_sent (Cleans.hear n j k held upto a b) x z = z
cleans_sent (Cleans.collect n i kept a k) x z = z
cleans_sent (Cleans.join n i d a b) x z = z
cleans_sent (Cleans.tell n i o a b d) x z = Memᴰ.tail z
cleans_sent (Cleans.mark n k o i a b d) x z = z
cleans_sent (Cleans.complete n d a k) x z = Memᴰ.tail z
cleans_sent (Cleans.sweep n i a b) x z = z

abbrev Says : ℕ → World → (ℕ → Msg → Type 0) → ℕ → ℕ → Part → Type 0
Says houses w In i c p = ((o : ℕ) → T (is_in o p.told) → ⊥) ⊎ ((c ≡ census_of w i) × ((o : ℕ) → T (is_in o p.told) → T (is_in o (w.part i).told) ⊎ (In i (Mark c o i) × (home o < houses))))

spoken_keeps : {houses : ℕ} {w v : World} → Spoken houses w → ((i : ℕ) → Says houses w (λ _ x. Memᴰ x v.net.sent) i (census_of v i) (v.part i)) → ((x : Msg) → Memᴰ x w.net.sent → Memᴰ x v.net.sent) → Spoken houses v
spoken_keeps {houses} {w} {v} s says more = record { sent = λ i o t. pick i o t (says i) }
  where
    pick : (i o : ℕ) → T (is_in o (v.part i).told) → Says houses w (λ _ x. Memᴰ x v.net.sent) i (census_of v i) (v.part i) → Memᴰ (Mark (census_of v i) o i) v.net.sent × (home o < houses)
    pick i o t (inl f) = absurd (f o t)
    pick i o t (inr z) =
        ⊎_elim (λ y. let a = s.sent i o y in (more _ (subst (λ (c : ℕ). Memᴰ (Mark c o i) w.net.sent) (sym z.0) a.0), a.1)) (λ y. y) (z.1 o t)

pub spoken : {houses : ℕ} {w : World} → Runs houses w → Spoken houses w
spoken Runs.begun = record { sent = λ i o t. absurd t }
spoken {houses} (Runs.then {w = w} {v = v} r t) = step r (spoken r) t
  where
    step : {w v : World} → Runs houses w → Spoken houses w → Turn houses w v → Spoken houses v
    step r x (Turn.uses w u) =
        let g = good_of r in
        let z = uses_moves {since = g.since} w.part u g.inv g.names in
        spoken_keeps x (λ i. inr (z.census i, λ o t. inl (subst (λ (l : List ℕ). T (is_in o l)) (stirs_told u w.part i) t))) (uses_sent u)
    step r x (Turn.cleans w s a) =
        let g = good_of r in
        let z = cleans_moves {since = g.since} w.part s a g.inv g.names in
        spoken_keeps x (λ i. inr (z.census i, λ o t. inl t)) (cleans_sent s)
    step r x (Turn.join w i c a b) =
        spoken_keeps x (both_elim (λ j h p. Says houses w (λ _ y. Memᴰ y w.net.sent) j h.census p) i (in_census c (w.net.house i)) fresh w.net.house w.part (inl (λ o t. t)) (λ j _. inr (refl, λ o t. inl t))) (λ y z. z)
    step r x (Turn.tell w i o a b d) =
        spoken_keeps x (set_elim (λ j p. Says houses w (λ _ y. Memᴰ y (Mark (census_of w i) o i ∷ w.net.sent)) j (census_of w j) p) i (telling o (w.part i)) w.part
        (inr (refl, λ q t. ⊎_elim (λ e. inr (Memᴰ.head (ap (λ (y : ℕ). Mark (census_of w i) y i) e), subst (λ (y : ℕ). home y < houses) (sym e) (somewhere r i o a b d))) (λ z. inl (mem→is_in z)) (Memᴰ.cases_cons (is_in→mem q (o ∷ (w.part i).told) t))))
        (λ j. inr (refl, λ q t. inl t))) (λ y z. Memᴰ.tail z)
      where
        somewhere : {w : World} → Runs houses w → (i o : ℕ) → i < houses → (home o ≡ i → ⊥) → Used (census_of w i) (w.net.house i) o → home o < houses
        somewhere r i o a b d = let g = good_of r in let z = g.inv.heart i o (used→mt (g.inv.cen i a) d) b in (g.inv.lines (home o) z.0 z.1).housed
    step r x (Turn.mark w k o i a b d) =
        spoken_keeps x (λ j. inr (
          same_at (λ h. h.census) k _ w.net.house refl j,
          set_elim (λ j p. (q : ℕ) → T (is_in q p.told) → T (is_in q (w.part j).told) ⊎ (Memᴰ (Mark (put k (with_list (marked (census_of w k) o i (w.net.house k).list) (w.net.house k)) w.net.house j).census q j) w.net.sent × (home q < houses))) k _ w.part (λ q t. inl t) (λ j q t. inl t) j,
        )) (λ y z. z)
    step r x (Turn.answer w i o a b d) =
        spoken_keeps x (set_elim (λ j p. Says houses w (λ _ y. Memᴰ y w.net.sent) j (census_of w j) p) i (hearing o (w.part i)) w.part (inr (refl, λ q t. inl t)) (λ j. inr (refl, λ q t. inl t))) (λ y z. z)
    step r x (Turn.begin w a b) = record { sent = x.sent }
    step r x (Turn.reply w i q b a d e f) =
        spoken_keeps x (set_elim (λ j p. Says houses w (λ _ y. Memᴰ y w.net.sent) j (census_of w j) p) i (polling q (w.part i)) w.part (inr (refl, λ q t. inl t)) (λ j. inr (refl, λ q t. inl t))) (λ y z. z)
    step r x (Turn.note w i b t a d e) = record { sent = x.sent }
    step r x (Turn.complete w e) = spoken_keeps x (λ j. inr (refl, λ q t. inl t)) (λ y z. Memᴰ.tail z)
    step r x (Turn.alike w v a) =
        spoken_keeps x (λ i. inr (sym (a.net.house i).census, λ o t. inl (subst T (sym ((a.part i).told o)) t))) (λ y z. (a.net.sent y).0 z)

pub spoken_of : {houses : ℕ} {w : World} → Runs houses w → (i o : ℕ) → T (is_in o (w.part i).told) → Memᴰ (Mark (census_of w i) o i) w.net.sent
spoken_of r i o t = ((spoken r).sent i o t).0

pub asked_of : {houses : ℕ} {w : World} → Runs houses w → (r : ℕ) → w.desk.round ≡ suc r → Memᴰ (Round (census_of w 0) (suc r)) w.said
asked_of run r e = (fits run).desked.asked r e
