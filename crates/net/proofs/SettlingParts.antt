-- Parts of settling, one after the other.
use Rattle.std.proofs.Common.{◌≡◌, ℕ, zero, suc, ◌+◌, ◌-◌, ◌<◌, Bool, true, false, cond, ◌&&◌, eqb, ltb, List, [], ◌∷◌, ◌++◌, length, get_or, Ok, Err, sym, refl, ap, ◌∙◌, subst, add-one, arith}
use Rattle.std.proofs.lemmas.List.{append-nil}
use Rattle.std.proofs.lemmas.Bool.{false≢true, lt-ltb, eq-eqb, ne_eqb, cond-true, cond-false}
use Rattle.wire.specs.declared.refusal.Refusal.{Refusal}
use Rattle.wire.specs.declared.refusal.Refusal.TheVariants.{Malformed}
use Rattle.rules.specs.Step.{Event, Said, came, step, event_of}
use Rattle.rules.proofs.Fairness.{always_fair}
use Rattle.play.specs.Play.{World, Entry, calls, delivers, happens, written, play, answered, plays}
use Rattle.play.specs.Settle.{deliveries, and_then, pump, each, pass, tallies, passes}
use Rattle.play.proofs.FairEntries.{plays_append}
use Rattle.net.proofs.Entered.{put_back, world_same}
use Rattle.net.specs.Nets.{Played, count, world, faithful, Plays, had_memory}
use Rattle.net.specs.Settling.{Script, BrokenOff, short, lost, Along}
use Rattle.net.proofs.Broken.{broken_front, broken_after, broken_each}
use Rattle.net.specs.declared.net.Net.{Net}
use Rattle.objects.specs.declared.fault.Fault.TheVariants.{Refused, NoMemory}
use Rattle.net.specs.declared.played.Setback.TheVariants.{Fault, Lost}

happens_same : (i : ℕ) (e : Event) (w : World) (x : Refusal) → (step (w.house i) e).answer ≡ Err x → happens i e w ≡ w
happens_same i e w x a =
    world_same (put_back i (step (w.house i) e).house w.house ((always_fair (w.house i) e).unchanged x a)) (ap (λ (s : Said). w.sent ++ written s) a ∙ append-nil w.sent)

tested : (b : Bool) (i : ℕ) (e : Event) (w : World) (x : Refusal) → cond b (step (w.house i) e).answer (Err Malformed) ≡ Err x → cond b (happens i e w) w ≡ w
tested true i e w x a = happens_same i e w x a
tested false i e w x a = refl

refused_same : (n : ℕ) (e : Entry) (w : World) (x : Refusal) → answered n e w ≡ Err x → play n e w ≡ w
refused_same n (calls i c) w x a = tested (ltb i n) i (event_of c) w x a
refused_same n (delivers i m) w x a = tested (ltb i n && ltb m (length w.sent)) i (came (get_or w.sent m [])) w x a

no : {X : Type 0} → true ≡ false → X
no z = absurd (false≢true (sym z))

yes : {X : Type 0} → false ≡ true → X
yes z = absurd (false≢true z)

-- one entry
went : (r : Played) (e : Entry) (t u : Net) → Plays r (count t) e (world t) (world u) → faithful u ≡ faithful t → count u ≡ count t → Along (had_memory r) (λ n w. e ∷ []) t u
went (Ok z) e t u p f k = record { houses = k; faithful = f; played = λ _. p.1; broken = λ z. no z }
went (Err (Fault (Refused x))) e t u p f k = record { houses = k; faithful = f; played = λ _. p.1 ∙ sym (refused_same (count t) e (world t) x p.0); broken = λ z. no z }
went (Err (Fault NoMemory)) e t u p f k = record { houses = k; faithful = f; played = λ z. yes z; broken = λ _. subst (λ (v : World). BrokenOff (count t) (e ∷ []) (world t) v) (sym p.2) (short p.0 p.1) }
went (Err Lost) e t u p f k = record { houses = k; faithful = f; played = λ z. yes z; broken = λ _. subst (λ (v : World). BrokenOff (count t) (e ∷ []) (world t) v) (sym p.1) (lost p.0) }

pub along_one : (b : Bool) (r : Played) (e : Entry) (t u : Net) → b ≡ had_memory r → Plays r (count t) e (world t) (world u) → faithful u ≡ faithful t → count u ≡ count t → Along b (λ n w. e ∷ []) t u
along_one b r e t u q p f k = subst (λ (x : Bool). Along x (λ n w. e ∷ []) t u) (sym q) (went r e t u p f k)

pub along_off : (b : Bool) (f : Script) (t u : Net) → b ≡ false → Along false f t u → Along b f t u
along_off b f t u e a = subst (λ (x : Bool). Along x f t u) (sym e) a

-- the same entries, computed otherwise
pub along_as : (r : Bool) (f g : Script) (t u : Net) → f (count t) (world t) ≡ g (count t) (world t) → Along r f t u → Along r g t u
along_as r f g t u e a =
    record {
      houses = a.houses;
      played = λ z. a.played z ∙ ap (λ (es : List Entry). plays (count t) es (world t)) e;
      faithful = a.faithful;
      broken = λ z. subst (λ (es : List Entry). BrokenOff (count t) es (world t) (world u)) e (a.broken z);
    }

-- the same among as many houses, from a world that is played to
moved : (n m : ℕ) (g : Script) (w x v : World) → n ≡ m → w ≡ x → BrokenOff n (g n w) w v → BrokenOff m (g m x) x v
moved n m g w x v e f b = subst (λ (y : World). BrokenOff m (g m y) y v) f (subst (λ (k : ℕ). BrokenOff k (g k w) w v) e b)

-- one part, and then another
pub along_then : (r : Bool) (f g : Script) (t u v : Net) → Along true f t u → Along r g u v → Along r (λ n w. and_then n w (f n w) (λ x. g n x)) t v
along_then r f g t u v a b =
    record {
      houses = b.houses ∙ a.houses;
      played = λ z.
          b.played z ∙ ap (λ (n : ℕ). plays n (g n (world u)) (world u)) a.houses ∙ ap (λ (x : World). plays (count t) (g (count t) x) x) (a.played refl)
          ∙ sym (plays_append (count t) (f (count t) (world t)) (g (count t) (plays (count t) (f (count t) (world t)) (world t))) (world t));
      faithful = b.faithful ∙ a.faithful;
      broken = λ z.
          broken_after (count t) (f (count t) (world t)) (g (count t) (plays (count t) (f (count t) (world t)) (world t))) (world t)
          (moved (count u) (count t) g (world u) (plays (count t) (f (count t) (world t)) (world t)) (world v) a.houses (a.played refl) (b.broken z));
    }

-- the first part broke off
pub along_front : (f g : Script) (t u : Net) → Along false f t u → Along false (λ n w. and_then n w (f n w) (λ x. g n x)) t u
along_front f g t u a =
    record {
      houses = a.houses;
      played = λ z. yes z;
      faithful = a.faithful;
      broken = λ _. broken_front (count t) (f (count t) (world t)) (g (count t) (plays (count t) (f (count t) (world t)) (world t))) (a.broken refl);
    }

-- the same at each house
pub along_each : (f : ℕ → ℕ → World → List Entry) (i : ℕ) (t u v : Net) → Along true (λ n w. each n (f n) i w) t u → Along true (λ n w. f n i w) u v → Along true (λ n w. each n (f n) (i + 1) w) t v
along_each f i t u v a b = subst (λ (k : ℕ). Along true (λ n w. each n (f n) k w) t v) (sym (add-one i)) (along_then true (λ n w. each n (f n) i w) (λ n w. f n i w) t u v a b)

-- at house i it broke off
pub each_off : (f : ℕ → ℕ → World → List Entry) (i : ℕ) (t u v : Net) → i < count t → Along true (λ n w. each n (f n) i w) t u → Along false (λ n w. f n i w) u v → Along false (λ n w. each n (f n) n w) t v
each_off f i t u v lt a b =
    let z = along_then false (λ n w. each n (f n) i w) (λ n w. f n i w) t u v a b in
    record { houses = z.houses; played = λ z. yes z; faithful = z.faithful; broken = λ _. broken_each (count t) (f (count t)) (suc i) (count t) (world t) lt (z.broken refl) }

-- On the way from t, at u: to play the entries f from t is to play those of g from u.
pub record Rest (f g : Script) (t u : Net) : Type 0 where
  pub houses : count u ≡ count t
  pub left : plays (count t) (f (count t) (world t)) (world t) ≡ plays (count t) (g (count t) (world u)) (world u)
  pub faithful : u.faithful ≡ t.faithful
  pub broken : (v : World) → BrokenOff (count t) (g (count t) (world u)) (world u) v → BrokenOff (count t) (f (count t) (world t)) (world t) v

pub rest_start : (f g : Script) (t : Net) → f (count t) (world t) ≡ g (count t) (world t) → Rest f g t t
rest_start f g t e =
    record { houses = refl; left = ap (λ (es : List Entry). plays (count t) es (world t)) e; faithful = refl; broken = λ v b. subst (λ (es : List Entry). BrokenOff (count t) es (world t) v) (sym e) b }

rest_as : (f g h : Script) (t u : Net) → g (count t) (world u) ≡ h (count t) (world u) → Rest f g t u → Rest f h t u
rest_as f g h t u e r =
    record {
      houses = r.houses;
      left = r.left ∙ ap (λ (es : List Entry). plays (count t) es (world u)) e;
      faithful = r.faithful;
      broken = λ v b. r.broken v (subst (λ (es : List Entry). BrokenOff (count t) es (world u) v) (sym e) b);
    }

pub rest_step : (f g a h : Script) (t u v : Net) → Rest f g t u → Along true a u v → g (count t) (world u) ≡ and_then (count t) (world u) (a (count t) (world u)) (λ x. h (count t) x) → Rest f h t v
rest_step f g a h t u v r b eq =
    record {
      houses = b.houses ∙ r.houses;
      left =
          r.left ∙ ap (λ (es : List Entry). plays (count t) es (world u)) eq ∙ plays_append (count t) (a (count t) (world u)) (h (count t) (plays (count t) (a (count t) (world u)) (world u))) (world u)
          ∙ ap (λ (x : World). plays (count t) (h (count t) x) x) (sym there);
      faithful = b.faithful ∙ r.faithful;
      broken = λ x q.
          r.broken x
          (subst (λ (es : List Entry). BrokenOff (count t) es (world u) x) (sym eq)
          (broken_after (count t) (a (count t) (world u)) (h (count t) (plays (count t) (a (count t) (world u)) (world u))) (world u) (subst (λ (y : World). BrokenOff (count t) (h (count t) y) y x) there q)));
    }
  where
    there : world v ≡ plays (count t) (a (count t) (world u)) (world u)
    there = b.played refl ∙ ap (λ (n : ℕ). plays n (a n (world u)) (world u)) r.houses

pub rest_off : (f g a h : Script) (t u v : Net) → Rest f g t u → Along false a u v → g (count t) (world u) ≡ and_then (count t) (world u) (a (count t) (world u)) (λ x. h (count t) x) → Along false f t v
rest_off f g a h t u v r b eq =
    record {
      houses = b.houses ∙ r.houses;
      played = λ z. yes z;
      faithful = b.faithful ∙ r.faithful;
      broken = λ _.
          r.broken (world v)
          (subst (λ (es : List Entry). BrokenOff (count t) es (world u) (world v)) (sym eq)
          (broken_front (count t) (a (count t) (world u)) (h (count t) (plays (count t) (a (count t) (world u)) (world u))) (subst (λ (n : ℕ). BrokenOff n (a n (world u)) (world u) (world v)) r.houses (b.broken refl))));
    }

pub rest_end : (f g : Script) (t u : Net) → g (count t) (world u) ≡ [] → Rest f g t u → Along true f t u
rest_end f g t u e r = record { houses = r.houses; played = λ _. sym (r.left ∙ ap (λ (es : List Entry). plays (count t) es (world u)) e); faithful = r.faithful; broken = λ z. no z }

-- deliveries
less : (j : ℕ) → j ≡ suc j - 1
less j = omega arith

pub pump_more : (k n m : ℕ) (w : World) → 0 < k → m < length w.sent → pump k n m w ≡ and_then n w (deliveries n m w) (λ v. pump (k - 1) n (m + 1) v)
pump_more zero n m w lt ls = absurd (never lt)
  where
    never : 0 < 0 → ⊥
    never q = omega arith
pump_more (suc j) n m w lt ls =
    cond-true (ltb m (length w.sent)) _ [] (lt-ltb m (length w.sent) ls) ∙ ap (λ (k : ℕ). and_then n w (deliveries n m w) (λ v. pump k n (m + 1) v)) (less j)

-- passes
abbrev after : ℕ → World → Script
after k w = λ n v. cond (eqb (tallies n v) (tallies n w)) [] (passes k n v)

passes_more : (k n : ℕ) (w : World) → 0 < k → passes k n w ≡ and_then n w (pass n w) (λ v. after (k - 1) w n v)
passes_more zero n w lt = absurd (never lt)
  where
    never : 0 < 0 → ⊥
    never q = omega arith
passes_more (suc j) n w lt = ap (λ (k : ℕ). and_then n w (pass n w) (λ v. after k w n v)) (less j)

module _ (f : Script) (k : ℕ) (t u v : Net) (r : Rest f (λ n w. passes k n w) t u) (lt : 0 < k) where
  pub passes_off : Along false (λ n w. pass n w) u v → Along false f t v
  passes_off a = rest_off f (λ n w. passes k n w) (λ n w. pass n w) (after (k - 1) (world u)) t u v r a (passes_more k (count t) (world u) lt)

  module _ (a : Along true (λ n w. pass n w) u v) where
    passed : Rest f (after (k - 1) (world u)) t v
    passed = rest_step f (λ n w. passes k n w) (λ n w. pass n w) (after (k - 1) (world u)) t u v r a (passes_more k (count t) (world u) lt)

    module _ (x y : ℕ) (ex : x ≡ tallies (count u) (world u)) (ey : y ≡ tallies (count v) (world v)) where
      tu : x ≡ tallies (count t) (world u)
      tu = ex ∙ ap (λ (n : ℕ). tallies n (world u)) r.houses

      tv : y ≡ tallies (count t) (world v)
      tv = ey ∙ ap (λ (n : ℕ). tallies n (world v)) passed.houses

      pub passes_end : y ≡ x → Along true f t v
      passes_end d = rest_end f (after (k - 1) (world u)) t v (cond-true _ [] _ (eq-eqb _ _ (sym tv ∙ d ∙ tu))) passed

      pub passes_on : (y ≡ x → ⊥) → Rest f (λ n w. passes (k - 1) n w) t v
      passes_on d = rest_as f (after (k - 1) (world u)) (λ n w. passes (k - 1) n w) t v (cond-false _ [] _ (ne_eqb _ _ (λ z. d (tv ∙ z ∙ sym tu)))) passed
