-- Two worlds with the same houses, and behind different old messages the same new ones: settling plays the same in both, but for the numbers of the messages.
use Rattle.std.proofs.Common.{◌≡◌, ℕ, zero, suc, ◌+◌, ◌-◌, ◌*◌, ◌<◌, ◌≤◌, Bool, true, false, cond, ◌&&◌, max, eqb, ltb, List, [], ◌∷◌, ◌++◌, map, length, get_or, sym, refl, ap, ◌∙◌, subst, ⊎_elim, append_assoc, arith, length-append}
use Rattle.std.proofs.lemmas.List.{get_or-append-add, append-nil}
use Rattle.std.proofs.lemmas.Bool.{cases_lt, lt-ltb, le-ltb}
use Rattle.wire.specs.declared.call.Call.{Call}
use Rattle.wire.specs.declared.call.Call.TheVariants as call
use Rattle.wire.specs.Names.{house}
use Rattle.wire.specs.Format.{decode}
use Rattle.census.specs.Model.{asker}
use Rattle.rules.specs.House.{House, census}
use Rattle.rules.specs.Step.{Event, came, step, event_of}
use Rattle.play.specs.Play.{World, Entry, calls, delivers, put, written, happens, play, plays, for_collector}
use Rattle.play.specs.Settle.{goes_to, delivery, deliveries, and_then, pump, enough, calling, each, word_to, words, above, joins, pass, tallies, passes, rounding, collects, completing, settling}
use Rattle.play.specs.Exact.{AllCleaning}
use Rattle.play.specs.ExactPart.{Beside, SettlesAlike}
use Rattle.play.specs.Bound.{calls_in}

abbrev pub world : (ℕ → House) → List (List ℕ) → World
world f s = record { house = f; sent = s }

-- the same calls and deliveries: the message that has number m behind a messages in the one has it behind b messages in the other
pub data Shifted (a b : ℕ) : List Entry → List Entry → Type 0 where
  none : Shifted a b [] []
  called : (i : ℕ) (c : Call) {es fs : List Entry} → Shifted a b es fs → Shifted a b (calls i c ∷ es) (calls i c ∷ fs)
  delivered : (i m k l : ℕ) → k ≡ a + m → l ≡ b + m → {es fs : List Entry} → Shifted a b es fs → Shifted a b (delivers i k ∷ es) (delivers i l ∷ fs)

shifted_append : {a b : ℕ} {es fs gs hs : List Entry} → Shifted a b es fs → Shifted a b gs hs → Shifted a b (es ++ gs) (fs ++ hs)
shifted_append none t = t
shifted_append (called i c s) t = called i c (shifted_append s t)
shifted_append (delivered i m k l p q s) t = delivered i m k l p q (shifted_append s t)

shifted_cond : {a b : ℕ} {es fs gs hs : List Entry} (p q : Bool) → p ≡ q → Shifted a b es fs → Shifted a b gs hs → Shifted a b (cond p es gs) (cond q fs hs)
shifted_cond {a} {b} {es} {fs} {gs} {hs} p q e s t = subst (λ (z : Bool). Shifted a b (cond p es gs) (cond z fs hs)) e (go p)
  where
    go : (z : Bool) → Shifted a b (cond z es gs) (cond z fs hs)
    go true = s
    go false = t

-- a message comes to the same houses
shifted_deliveries : {a b : ℕ} (m k l : ℕ) → k ≡ a + m → l ≡ b + m → (is js : List ℕ) → is ≡ js → Shifted a b (map (delivery k) is) (map (delivery l) js)
shifted_deliveries {a} {b} m k l p q is js e = subst (λ (z : List ℕ). Shifted a b (map (delivery k) is) (map (delivery l) z)) e (go is)
  where
    go : (is : List ℕ) → Shifted a b (map (delivery k) is) (map (delivery l) is)
    go [] = none
    go (i ∷ is) = delivered i m k l p q (go is)

-- there are as many calls of a kind
pub shifted_count : {a b : ℕ} {es fs : List Entry} (kind : Call → Bool) → Shifted a b es fs → calls_in kind es ≡ calls_in kind fs
shifted_count kind none = refl
shifted_count kind (called i c s) = ap (λ (z : ℕ). cond (kind c) 1 0 + z) (shifted_count kind s)
shifted_count kind (delivered i m k l p q s) = shifted_count kind s

ltb_shift : (a m x : ℕ) → ltb (a + m) (a + x) ≡ ltb m x
ltb_shift a m x =
    ⊎_elim (λ (l : m < x). lt-ltb (a + m) (a + x) (omega arith) ∙ sym (lt-ltb m x l)) (λ (l : x ≤ m). le-ltb (a + m) (a + x) (omega arith) ∙ sym (le-ltb m x l)) (cases_lt m x)

-- a world with these new messages behind the old ones
module _ (old new : List (List ℕ)) (h : ℕ → House) (w : World) (e : w ≡ world h (old ++ new)) where
  sent_long : length w.sent ≡ length old + length new
  sent_long = ap (λ (u : World). length u.sent) e ∙ length-append old new

  module _ (m k : ℕ) (p : k ≡ length old + m) where
    sent_at : get_or w.sent k [] ≡ get_or new m []
    sent_at = ap (λ (u : World). get_or u.sent k []) e ∙ ap (λ (z : ℕ). get_or (old ++ new) z []) p ∙ get_or-append-add old new m []

    sent_there : ltb k (length w.sent) ≡ ltb m (length new)
    sent_there = ap (λ (z : ℕ). ltb z (length w.sent)) p ∙ ap (ltb (length old + m)) sent_long ∙ ltb_shift (length old) m (length new)

    sent_played : (n i : ℕ) → play n (delivers i k) w ≡ cond (ltb i n && ltb m (length new)) (happens i (came (get_or new m [])) w) w
    sent_played n i =
        ap (λ (b : Bool). cond (ltb i n && b) (happens i (came (get_or w.sent k [])) w) w) sent_there
        ∙ ap (λ (bs : List ℕ). cond (ltb i n && ltb m (length new)) (happens i (came bs) w) w) sent_at

-- what is read off the houses
above_same : (k : ℕ) (h : ℕ → House) (s t : List (List ℕ)) → above k (world h s) ≡ above k (world h t)
above_same zero h s t = refl
above_same (suc k) h s t = ap (λ (z : ℕ). max z (census (h k) + 1)) (above_same k h s t)

tallies_same : (k : ℕ) (h : ℕ → House) (s t : List (List ℕ)) → tallies k (world h s) ≡ tallies k (world h t)
tallies_same zero h s t = refl
tallies_same (suc k) h s t = ap (λ (z : ℕ). z + (h k).part.tally) (tallies_same k h s t)

module _ (n : ℕ) (xs ys : List (List ℕ)) where
  beside_as : {w v p q : World} → p ≡ w → q ≡ v → Beside xs ys w v → Beside xs ys p q
  beside_as e f r = record { house = r.house; new = r.new; left = e ∙ r.left; right = f ∙ r.right }

  beside_happens : (i : ℕ) (e : Event) (w v : World) → Beside xs ys w v → Beside xs ys (happens i e w) (happens i e v)
  beside_happens i e w v r =
      record {
        house = after;
        new = r.new ++ out;
        left = ap (happens i e) r.left ∙ ap (world after) (append_assoc xs r.new out);
        right = ap (happens i e) r.right ∙ ap (world after) (append_assoc ys r.new out);
      }
    where
      after : ℕ → House
      after = put i (step (r.house i) e).house r.house

      out : List (List ℕ)
      out = written (step (r.house i) e).answer

  beside_if : (b : Bool) (i : ℕ) (e : Event) (w v : World) → Beside xs ys w v → Beside xs ys (cond b (happens i e w) w) (cond b (happens i e v) v)
  beside_if true i e w v r = beside_happens i e w v r
  beside_if false i e w v r = r

  pub beside_plays : {es fs : List Entry} → Shifted (length xs) (length ys) es fs → (w v : World) → Beside xs ys w v → Beside xs ys (plays n es w) (plays n fs v)
  beside_plays none w v r = r
  beside_plays (called i c s) w v r = beside_plays s (play n (calls i c) w) (play n (calls i c) v) (beside_if (ltb i n) i (event_of c) w v r)
  beside_plays (delivered i m k l p q s) w v r =
      beside_plays s (play n (delivers i k) w) (play n (delivers i l) v)
      (beside_as (sent_played xs r.new r.house w r.left m k p n i) (sent_played ys r.new r.house v r.right m l q n i) (beside_if (ltb i n && ltb m (length r.new)) i (came (get_or r.new m [])) w v r))

  -- the collector's in the one, where they are in the other
  pub shifted_cleaning : {es fs : List Entry} → Shifted (length xs) (length ys) es fs → (w v : World) → Beside xs ys w v → AllCleaning n fs v → AllCleaning n es w
  shifted_cleaning none w v r a = tt
  shifted_cleaning (called i c s) w v r a = (a.0, shifted_cleaning s (play n (calls i c) w) (play n (calls i c) v) (beside_plays (called i c none) w v r) a.1)
  shifted_cleaning (delivered i m k l p q s) w v r a = (
    ap (λ (bs : List ℕ). for_collector (decode n bs)) (sent_at xs r.new r.house w r.left m k p ∙ sym (sent_at ys r.new r.house v r.right m l q)) ∙ a.0,
    shifted_cleaning s (play n (delivers i k) w) (play n (delivers i l) v) (beside_plays (delivered i m k l p q none) w v r) a.1,
  )

  -- some entries, and what is then to be done
  shifted_then : (w v : World) (es fs : List Entry) (f g : World → List Entry) → Shifted (length xs) (length ys) es fs → Beside xs ys w v →
      ((u x : World) → Beside xs ys u x → Shifted (length xs) (length ys) (f u) (g x)) → Shifted (length xs) (length ys) (and_then n w es f) (and_then n v fs g)
  shifted_then w v es fs f g s r t = shifted_append s (t (plays n es w) (plays n fs v) (beside_plays s w v r))

  shifted_pump : (k m a b : ℕ) (w v : World) → a ≡ length xs + m → b ≡ length ys + m → Beside xs ys w v → Shifted (length xs) (length ys) (pump k n a w) (pump k n b v)
  shifted_pump zero m a b w v p q r = none
  shifted_pump (suc k) m a b w v p q r =
      shifted_cond (ltb a (length w.sent)) (ltb b (length v.sent)) (sent_there xs r.new r.house w r.left m a p ∙ sym (sent_there ys r.new r.house v r.right m b q))
      (shifted_then w v (deliveries n a w) (deliveries n b v) (λ u. pump k n (a + 1) u) (λ u. pump k n (b + 1) u)
      (shifted_deliveries m a b p q _ _ (ap (λ (bs : List ℕ). goes_to n (decode n bs)) (sent_at xs r.new r.house w r.left m a p ∙ sym (sent_at ys r.new r.house v r.right m b q)))) r
      (λ u x s. shifted_pump k (m + 1) (a + 1) (b + 1) u x (omega arith) (omega arith) s))
      none

  -- as many turns are enough
  same_room : (w v u x : World) → Beside xs ys w v → Beside xs ys u x → enough n (length w.sent) u ≡ enough n (length v.sent) x
  same_room w v u x r s =
      room (length w.sent) (length v.sent) (length u.sent) (length x.sent) (length r.new) (length s.new) (sent_long xs r.new r.house w r.left) (sent_long ys r.new r.house v r.right) (sent_long xs s.new s.house u s.left) (sent_long ys s.new s.house x s.right)
    where
      room : (a b c d e f : ℕ) → a ≡ length xs + e → b ≡ length ys + e → c ≡ length xs + f → d ≡ length ys + f → 2 * (c - a) + n + 2 ≡ 2 * (d - b) + n + 2
      room a b c d e f p q t z = omega arith

  shifted_calling : (i : ℕ) (c : Call) (w v : World) → Beside xs ys w v → Shifted (length xs) (length ys) (calling n i c w) (calling n i c v)
  shifted_calling i c w v r =
      shifted_then w v (calls i c ∷ []) (calls i c ∷ []) (λ u. pump (enough n (length w.sent) u) n (length w.sent) u) (λ u. pump (enough n (length v.sent) u) n (length v.sent) u) (called i c none) r (λ u x s.
      subst (λ (z : ℕ). Shifted (length xs) (length ys) (pump (enough n (length w.sent) u) n (length w.sent) u) (pump z n (length v.sent) x)) (same_room w v u x r s)
      (shifted_pump (enough n (length w.sent) u) (length r.new) (length w.sent) (length v.sent) u x (sent_long xs r.new r.house w r.left) (sent_long ys r.new r.house v r.right) s))

  shifted_each : (f : ℕ → World → List Entry) → ((i : ℕ) (w v : World) → Beside xs ys w v → Shifted (length xs) (length ys) (f i w) (f i v)) →
      (k : ℕ) (w v : World) → Beside xs ys w v → Shifted (length xs) (length ys) (each n f k w) (each n f k v)
  shifted_each f g zero w v r = none
  shifted_each f g (suc k) w v r = shifted_then w v (each n f k w) (each n f k v) (λ u. f k u) (λ u. f k u) (shifted_each f g k w v r) r (λ u x s. g k u x s)

  shifted_word : (i j : ℕ) (w v : World) → Beside xs ys w v → Shifted (length xs) (length ys) (word_to n i j w) (word_to n i j v)
  shifted_word i j w v r = shifted_cond (eqb i j) (eqb i j) refl none (shifted_calling i (call.Word (house j)) w v r)

  shifted_words : (w v : World) → Beside xs ys w v → Shifted (length xs) (length ys) (words n w) (words n v)
  shifted_words w v r =
      shifted_each (λ i u. each n (λ j x. word_to n i j x) n u) (λ i u x s. shifted_each (λ j y. word_to n i j y) (λ j y z t. shifted_word i j y z t) n u x s) n w v r

  shifted_joins : (c d : ℕ) → c ≡ d → (w v : World) → Beside xs ys w v → Shifted (length xs) (length ys) (joins n c w) (joins n d v)
  shifted_joins c d e w v r =
      subst (λ (z : ℕ). Shifted (length xs) (length ys) (joins n c w) (joins n z v)) e (shifted_each (λ i u. calling n i (call.Join c) u) (λ i u x s. shifted_calling i (call.Join c) u x s) n w v r)

  same_above : (w v : World) → Beside xs ys w v → above n w ≡ above n v
  same_above w v r = ap (above n) r.left ∙ above_same n r.house (xs ++ r.new) (ys ++ r.new) ∙ sym (ap (above n) r.right)

  same_tallies : (w v : World) → Beside xs ys w v → tallies n w ≡ tallies n v
  same_tallies w v r = ap (tallies n) r.left ∙ tallies_same n r.house (xs ++ r.new) (ys ++ r.new) ∙ sym (ap (tallies n) r.right)

  shifted_pass : (w v : World) → Beside xs ys w v → Shifted (length xs) (length ys) (pass n w) (pass n v)
  shifted_pass w v r = shifted_each (λ i u. calling n i call.Tell u) (λ i u x s. shifted_calling i call.Tell u x s) n w v r

  shifted_passes : (k : ℕ) (w v : World) → Beside xs ys w v → Shifted (length xs) (length ys) (passes k n w) (passes k n v)
  shifted_passes zero w v r = none
  shifted_passes (suc k) w v r =
      shifted_then w v (pass n w) (pass n v) (λ u. cond (eqb (tallies n u) (tallies n w)) [] (passes k n u)) (λ u. cond (eqb (tallies n u) (tallies n v)) [] (passes k n u)) (shifted_pass w v r) r (λ u x s.
      shifted_cond (eqb (tallies n u) (tallies n w)) (eqb (tallies n x) (tallies n v)) (ap (λ (z : ℕ). eqb z (tallies n w)) (same_tallies u x s) ∙ ap (eqb (tallies n x)) (same_tallies w v r)) none (shifted_passes k u x s))

  shifted_rounding : (w v : World) → Beside xs ys w v → Shifted (length xs) (length ys) (rounding n w) (rounding n v)
  shifted_rounding w v r = shifted_calling asker call.Round w v r

  shifted_collects : (w v : World) → Beside xs ys w v → Shifted (length xs) (length ys) (collects n w) (collects n v)
  shifted_collects w v r = shifted_each (λ i u. calling n i call.Collect u) (λ i u x s. shifted_calling i call.Collect u x s) n w v r

  shifted_completing : (w v : World) → Beside xs ys w v → Shifted (length xs) (length ys) (completing n w) (completing n v)
  shifted_completing w v r =
      shifted_then w v (passes (2048 * n + 1) n w) (passes (2048 * n + 1) n v) (λ u. and_then n u (rounding n u) (λ t. rounding n t)) (λ u. and_then n u (rounding n u) (λ t. rounding n t)) (shifted_passes (2048 * n + 1) w v r) r (λ u x s.
      shifted_then u x (rounding n u) (rounding n x) (λ t. rounding n t) (λ t. rounding n t) (shifted_rounding u x s) s (λ t y z. shifted_rounding t y z))

  abbrev from_census : World → List Entry
  from_census u = and_then n u (completing n u) (λ t. collects n t)

  abbrev from_joins : World → List Entry
  from_joins v = and_then n v (joins n (above n v) v) from_census

  pub shifted_settling : (w v : World) → Beside xs ys w v → Shifted (length xs) (length ys) (settling n w) (settling n v)
  shifted_settling w v r =
      shifted_then w v (words n w) (words n v) from_joins from_joins (shifted_words w v r) r (λ u x s.
      shifted_then u x (joins n (above n u) u) (joins n (above n x) x) from_census from_census (shifted_joins (above n u) (above n x) (same_above u x s) u x s) s (λ t y z.
      shifted_then t y (completing n t) (completing n y) (λ q. collects n q) (λ q. collects n q) (shifted_completing t y z) z (λ q a b. shifted_collects q a b)))

  -- the same houses, and nothing new yet
  pub beside_first : (f : ℕ → House) → Beside xs ys (world f xs) (world f ys)
  beside_first f = record { house = f; new = []; left = ap (world f) (sym (append-nil xs)); right = ap (world f) (sym (append-nil ys)) }

pub settles_alike : SettlesAlike
settles_alike n f xs ys =
    let r = beside_first n xs ys f in
    beside_plays n xs ys (shifted_settling n xs ys (world f xs) (world f ys) r) (world f xs) (world f ys) r
