-- What a call makes houses send at most, with all that it sets off.
use Rattle.std.proofs.Common.{◌≡◌, ℕ, zero, suc, ◌+◌, ◌<◌, ◌≤◌, Bool, ◌&&◌, eqb, ltb, List, [], ◌∷◌, ◌++◌, map, length, get_or, Ok, Err, Result, sym, refl, ap, ◌∙◌, subst, arith, length-append}
use mathlib.Core.List.{Memᴰ}
use Rattle.std.proofs.lemmas.Bool.{cond_both, cond-true, cond-false, and_parts, ltb-true, lt-ltb, ne_eqb}
use Rattle.wire.specs.declared.call.Call.{Call}
use Rattle.wire.specs.declared.message.Message.{Message}
use Rattle.wire.specs.declared.refusal.Refusal.{Refusal}
use Rattle.wire.specs.Format.{decode}
use Rattle.wire.specs.Laws.{Bytes, ReadAs}
use Rattle.rules.specs.House.{House, houses}
use Rattle.rules.specs.Step.{Letter, Said, Event, event_of, step, read_as, came}
use Rattle.rules.specs.Sound.{Sound, Typed}
use Rattle.rules.proofs.Sound.{sent_read}
use Rattle.play.specs.Play.{World, calls, delivers, bytes_of, written, put, happens, play, plays}
use Rattle.play.specs.Settle.{goes_to, delivery, deliveries, and_then, pump, enough, calling}
use Rattle.play.proofs.Tracking.{Kept, kept_play}
use Rattle.play.proofs.FairEntries.{plays_append}
use Rattle.play.proofs.BoundDesk.{Tariff, loose}
use Rattle.play.proofs.BoundPrice.{times, weight, bill, price, desk_of, Cheap, sets_by, read_price}

-- the weights of what was sent, from number m on
abbrev pub rest : ℕ → ℕ → ℕ → List (List ℕ) → ℕ
rest n a m [] = 0
rest n a zero (b ∷ bs) = weight n a (decode n b) + rest n a zero bs
rest n a (suc m) (b ∷ bs) = rest n a m bs

rest_next : (n a m : ℕ) (bss : List (List ℕ)) → m < length bss → rest n a m bss ≡ weight n a (decode n (get_or bss m [])) + rest n a (suc m) bss
rest_next n a m [] l = absurd (omega arith)
rest_next n a zero (b ∷ bss) l = refl
rest_next n a (suc m) (b ∷ bss) l = rest_next n a m bss (omega arith)

rest_append : (n a m : ℕ) (bss cs : List (List ℕ)) → m ≤ length bss → rest n a m (bss ++ cs) ≡ rest n a m bss + rest n a 0 cs
rest_append n a zero [] cs l = omega arith
rest_append n a (suc m) [] cs l = absurd (omega arith)
rest_append n a zero (b ∷ bss) cs l = let z = rest_append n a 0 bss cs (omega arith) in omega arith
rest_append n a (suc m) (b ∷ bss) cs l = rest_append n a m bss cs (omega arith)

rest_end : (n a : ℕ) (bss : List (List ℕ)) → rest n a (length bss) bss ≡ 0
rest_end n a [] = refl
rest_end n a (b ∷ bss) = rest_end n a bss

-- letters cost what their bytes do
written_letters : (n a : ℕ) (ls : List Letter) → ((l : Letter) → Memᴰ l ls → ReadAs n (bytes_of l) l.0 l.1) → length (map bytes_of ls) + rest n a 0 (map bytes_of ls) ≡ bill n a ls
written_letters n a [] f = refl
written_letters n a (l ∷ ls) f =
    let z = written_letters n a ls (λ x m. f x (Memᴰ.tail m)) in
    let e : weight n a (decode n (bytes_of l)) ≡ weight n a (Ok l.0) = ap (weight n a) (f l (Memᴰ.head refl)).message in
    sum _ _ _ _ _ z e
  where
    sum : (a b c x y : ℕ) → a + b ≡ c → x ≡ y → suc a + (x + b) ≡ 1 + y + c
    sum a b c x y p q = omega arith

module _ (n a : ℕ) (h : House) (sound : Sound h) (many : houses h ≡ n) (e : Event) (typed : Typed e) where
  written_price : (s : Said) → (step h e).answer ≡ s → length (written s) + rest n a 0 (written s) ≤ price n a s
  written_price (Ok ls) q = same (written_letters n a ls (λ l m. subst (λ (z : ℕ). ReadAs z (bytes_of l) l.0 l.1) many (sent_read h e sound typed ls q l m)))
    where
      same : {a b : ℕ} → a ≡ b → a ≤ b
      same p = omega arith
  written_price (Err x) q = omega arith

-- what was sent, what those from number m on still set off, and what the desk may still send
abbrev bound : (n : ℕ) → Tariff n → ℕ → World → ℕ
bound n f m w = length w.sent + rest n f.reply m w.sent + f.desk (w.house 0).desk

-- the desk that counts, when house i becomes another
desk_put : (n : ℕ) (f : Tariff n) (i : ℕ) (h : House) (g : ℕ → House) → f.desk (put i h g 0).desk + desk_of f i (g i).desk ≡ f.desk (g 0).desk + desk_of f i h.desk
desk_put n f zero h g = omega arith
desk_put n f (suc i) h g = ap (λ (x : House). f.desk x.desk + 0) (cond-false (eqb 0 (suc i)) h (g 0) (ne_eqb 0 (suc i) (λ e. apart e)))
  where
    apart : 0 ≡ suc i → ⊥
    apart e = omega arith

-- something happens, at a price
module _ (n : ℕ) (f : Tariff n) (w : World) (kept : Kept n w) (i : ℕ) (lt : i < n) (e : Event) (typed : Typed e) where
  happens_bound : (m p : ℕ) → m ≤ length w.sent → Cheap n f i p (w.house i) (step (w.house i) e) → bound n f m (happens i e w) ≤ bound n f m w + p
  happens_bound m p l q =
      let a = (step (w.house i) e).answer in
      sum _ _ _ _ _ _ _ _ _ _ _ (length-append w.sent (written a)) (rest_append n f.reply m w.sent (written a) l) (written_price n f.reply (w.house i) (kept.sound i lt) (kept.houses i lt) e typed a refl) q.cost
      (desk_put n f i (step (w.house i) e).house w.house)
    where
      sum : (a b c d x y z u v s t : ℕ) → a ≡ b + x → c ≡ d + y → x + y ≤ z → z + u ≤ p + v → s + v ≡ t + u → a + c + s ≤ b + d + t + p
      sum a b c d x y z u v s t f g j k r = omega arith

get_d_append : (xs ys : List (List ℕ)) (m : ℕ) → m < length xs → get_or (xs ++ ys) m [] ≡ get_or xs m []
get_d_append [] ys m l = absurd (omega arith)
get_d_append (x ∷ xs) ys zero l = refl
get_d_append (x ∷ xs) ys (suc m) l = get_d_append xs ys m (omega arith)

mem_at : (xs : List (List ℕ)) (m : ℕ) → m < length xs → Memᴰ (get_or xs m []) xs
mem_at [] m l = absurd (omega arith)
mem_at (x ∷ xs) zero l = Memᴰ.head refl
mem_at (x ∷ xs) (suc m) l = Memᴰ.tail (mem_at xs m (omega arith))

-- message m is this, and what comes after it sets off so much
record After (n : ℕ) (f : Tariff n) (m : ℕ) (bs : List ℕ) (b : ℕ) (w : World) : Type 0 where
  kept : Kept n w
  inside : m < length w.sent
  this : get_or w.sent m [] ≡ bs
  bound : bound n f (suc m) w ≤ b

module _ (n : ℕ) (f : Tariff n) (m : ℕ) (bs : List ℕ) where
  abbrev each_sets : ℕ
  each_sets = sets_by f.reply (decode n bs)

  deliver_one : (i b : ℕ) (w : World) → After n f m bs b w → After n f m bs (b + each_sets) (play n (delivers i m) w)
  deliver_one i b w a =
      record {
        kept = kept_play n (delivers i m) w a.kept;
        inside = cond_both t new w (λ v. m < length v.sent) (λ _. longer _ _ _ (length-append w.sent out) a.inside) (λ _. a.inside);
        this = cond_both t new w (λ v. get_or v.sent m [] ≡ bs) (λ _. get_d_append w.sent out m a.inside ∙ a.this) (λ _. a.this);
        bound = cond_both t new w (λ v. bound n f (suc m) v ≤ b + each_sets) (λ e. within (ltb-true i n (and_parts (ltb i n) (ltb m (length w.sent)) e).0)) (λ _. let q = a.bound in omega arith);
      }
    where
      t : Bool
      t = ltb i n && ltb m (length w.sent)

      here : List ℕ
      here = get_or w.sent m []

      out : List (List ℕ)
      out = written (step (w.house i) (came here)).answer

      new : World
      new = happens i (came here) w

      longer : (x y z : ℕ) → x ≡ y + z → m < y → m < x
      longer x y z p q = omega arith

      bytes : Bytes here
      bytes = a.kept.bytes here (mem_at w.sent m a.inside)

      cheap : i < n → Cheap n f i each_sets (w.house i) (step (w.house i) (came here))
      cheap lt =
          subst (λ (z : ℕ). Cheap n f i each_sets (w.house i) (read_as (decode z here) here (w.house i))) (sym (a.kept.houses i lt))
          (subst (λ (z : List ℕ). Cheap n f i (sets_by f.reply (decode n z)) (w.house i) (read_as (decode n here) here (w.house i))) a.this
          (read_price n f i (decode n here) here (w.house i) refl bytes (a.kept.self i lt) (a.kept.houses i lt)))

      within : i < n → bound n f (suc m) new ≤ b + each_sets
      within lt = over _ _ _ (happens_bound n f w a.kept i lt (came here) bytes (suc m) each_sets a.inside (cheap lt)) a.bound
        where
          over : (x y z : ℕ) → x ≤ y + z → y ≤ b → x ≤ b + z
          over x y z p q = omega arith

  deliver_all : (is : List ℕ) (b : ℕ) (w : World) → After n f m bs b w → After n f m bs (b + times (length is) each_sets) (plays n (map (delivery m) is) w)
  deliver_all [] b w a = record { kept = a.kept; inside = a.inside; this = a.this; bound = let q = a.bound in omega arith }
  deliver_all (i ∷ is) b w a =
      let z = deliver_all is (b + each_sets) (play n (delivers i m) w) (deliver_one i b w a) in
      record { kept = z.kept; inside = z.inside; this = z.this; bound = over _ _ _ _ z.bound }
    where
      over : (x b s t : ℕ) → x ≤ b + s + t → x ≤ b + (s + t)
      over x b s t p = omega arith

weighs : (n a : ℕ) (r : Result Message Refusal) → times (length (goes_to n r)) (sets_by a r) ≡ weight n a r
weighs n a (Ok m) = refl
weighs n a (Err e) = refl

-- what was sent, and what the desk may still send
abbrev pub spent : (n : ℕ) → Tariff n → World → ℕ
spent n f w = length w.sent + f.desk (w.house 0).desk

-- whatever waits is delivered
pump_bound : (k n : ℕ) (f : Tariff n) (m : ℕ) (w : World) → Kept n w → spent n f (plays n (pump k n m w) w) ≤ bound n f m w
pump_bound zero n f m w x = omega arith
pump_bound (suc k) n f m w x =
    cond_both (ltb m (length w.sent)) (and_then n w (deliveries n m w) (λ v. pump k n (m + 1) v)) [] (λ es. spent n f (plays n es w) ≤ bound n f m w) (λ t. some (λ q. pump_bound k n f (m + 1) v q) (ltb-true m (length w.sent) t)) (λ _. omega arith)
  where
    v : World
    v = plays n (deliveries n m w) w

    next : m + 1 ≡ suc m
    next = omega arith

    some : (Kept n v → spent n f (plays n (pump k n (m + 1) v) v) ≤ bound n f (m + 1) v) → m < length w.sent → spent n f (plays n (and_then n w (deliveries n m w) (λ u. pump k n (m + 1) u)) w) ≤ bound n f m w
    some again lt =
        let bs = get_or w.sent m [] in
        let a = deliver_all n f m bs (goes_to n (decode n bs)) (bound n f (suc m) w) w (record { kept = x; inside = lt; this = refl; bound = omega arith }) in
        let z = again a.kept in
        subst (λ (u : World). spent n f u ≤ bound n f m w) (sym (plays_append n (deliveries n m w) (pump k n (m + 1) v) w))
        (over _ _ _ _ _ _ _ _ (subst (λ (q : ℕ). spent n f (plays n (pump k n (m + 1) v) v) ≤ bound n f q v) next z) a.bound (weighs n f.reply (decode n bs)) (rest_next n f.reply m w.sent lt))
      where
        over : (a b l r d t u s : ℕ) → a ≤ b → b ≤ l + r + d + t → t ≡ u → s ≡ u + r → a ≤ l + s + d
        over a b l r d t u s e f g h = omega arith

-- a call, and all that it sets off
pub calling_bound : (n : ℕ) (f : Tariff n) (i p : ℕ) (c : Call) (w : World) → Kept n w → i < n → Typed (event_of c) → Cheap n f i p (w.house i) (step (w.house i) (event_of c)) → spent n f (plays n (calling n i c w) w) ≤ spent n f w + p
calling_bound n f i p c w x lt typed cheap =
    let q = happens_bound n f w x i lt (event_of c) typed (length w.sent) p (omega arith) cheap in
    over _ _ _ _ _ (pump_bound (enough n (length w.sent) v) n f (length w.sent) v (kept_play n (calls i c) w x)) (subst (λ (u : World). bound n f (length w.sent) u ≤ bound n f (length w.sent) w + p) (sym is) q) (rest_end n f.reply w.sent)
  where
    v : World
    v = play n (calls i c) w

    is : play n (calls i c) w ≡ happens i (event_of c) w
    is = cond-true (ltb i n) (happens i (event_of c) w) w (lt-ltb i n lt)

    over : (a b l r d : ℕ) → a ≤ b → b ≤ l + r + d + p → r ≡ 0 → a ≤ l + d + p
    over a b l r d e f g = omega arith

-- where no answer to a round is awaited, by what is sent alone
pub calling_sent : (n i p : ℕ) (c : Call) (w : World) → Kept n w → i < n → Typed (event_of c) → Cheap n (loose n) i p (w.house i) (step (w.house i) (event_of c)) → length (plays n (calling n i c w) w).sent ≤ length w.sent + p
calling_sent n i p c w x lt typed cheap = let z = calling_bound n (loose n) i p c w x lt typed cheap in omega arith
