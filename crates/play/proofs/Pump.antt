-- Messages that wait to be delivered: each delivery is what its receiver makes of it, and what that sends waits behind the rest.
use Rattle.std.proofs.Common.{◌≡◌, ℕ, zero, suc, ◌+◌, ◌-◌, ◌*◌, ◌<◌, ◌≤◌, ◌&&◌, ltb, List, [], ◌∷◌, ◌++◌, map, length, get_or, Ok, Result, sym, refl, ap, ◌∙◌, subst, ⊎_elim, append_assoc, arith, length-append}
use mathlib.Core.List.Memᴰ
use mathlib.Core.List.{Memᴰ, map-append}
use Rattle.std.proofs.lemmas.Bool.{and_from, cond-true, cond-false, lt-ltb, le-ltb}
use Rattle.wire.specs.declared.call.Call.{Call}
use Rattle.wire.specs.declared.message.Message.{Message}
use Rattle.wire.specs.declared.refusal.Refusal.{Refusal}
use Rattle.wire.specs.Format.{decode}
use Rattle.wire.specs.Laws.{ReadAs}
use Rattle.rules.specs.House.{House, houses}
use Rattle.rules.specs.Step.{Outcome, Letter, Said, came, receives, read_as, step, event_of}
use Rattle.rules.specs.Sound.{Typed}
use Rattle.rules.proofs.Sound.{sent_read}
use Rattle.play.specs.Play.{World, Entry, calls, delivers, bytes_of, written, happens, play, plays}
use Rattle.play.specs.Settle.{goes_to, delivery, deliveries, and_then, pump, enough, calling}
use Rattle.play.proofs.Sending.{Readable}
use Rattle.play.proofs.Frame.{moved}
use Rattle.play.proofs.Tracking.{Kept, kept_play}
use Rattle.play.proofs.FairEntries.{plays_append}

-- what a house makes of a letter
abbrev pub got : Letter → House → Outcome
got l h = receives l.0 l.1 h

-- from number m on just these letters were sent
pub record Waits (n m : ℕ) (w : World) (ls : List Letter) : Type 0 where
  pub kept : Kept n w
  pub before : List (List ℕ)
  pub count : length before ≡ m
  pub sent : w.sent ≡ before ++ map bytes_of ls
  pub readable : Readable n ls

at_end : (xs ys : List (List ℕ)) (y : List ℕ) → get_or (xs ++ (y ∷ ys)) (length xs) [] ≡ y
at_end [] ys y = refl
at_end (x ∷ xs) ys y = at_end xs ys y

-- a message that was sent is received as what it is
pub same_step : (n : ℕ) (l : Letter) (h : House) → houses h ≡ n → ReadAs n (bytes_of l) l.0 l.1 → step h (came (bytes_of l)) ≡ got l h
same_step n l h e r =
    ap (λ (z : ℕ). read_as (decode z (bytes_of l)) (bytes_of l) h) e
    ∙ ap (λ (z : Result Message Refusal). read_as z (bytes_of l) h) r.message
    ∙ ap (λ (z : List ℕ). receives l.0 z h) r.part

module _ (n m : ℕ) (w : World) (l : Letter) (ls : List Letter) (q : Waits n m w (l ∷ ls)) where
  this : get_or w.sent m [] ≡ bytes_of l
  this = ap (λ (z : List (List ℕ)). get_or z m []) q.sent ∙ ap (λ (z : ℕ). get_or (q.before ++ map bytes_of (l ∷ ls)) z []) (sym q.count) ∙ at_end q.before (map bytes_of ls) (bytes_of l)

  there : m < length w.sent
  there = omega (arith, ap length q.sent, length-append q.before (map bytes_of (l ∷ ls)), q.count)

  member : Memᴰ (bytes_of l) w.sent
  member = subst (λ (z : List (List ℕ)). Memᴰ (bytes_of l) z) (sym q.sent) (Memᴰ.append_right q.before (Memᴰ.head refl))

  read : ReadAs n (bytes_of l) l.0 l.1
  read = q.readable l (Memᴰ.head refl)

  delivered : (i : ℕ) → i < n → play n (delivers i m) w ≡ moved i (got l (w.house i)).house (written (got l (w.house i)).answer) w
  delivered i lt =
      cond-true (ltb i n && ltb m (length w.sent)) (happens i (came (get_or w.sent m [])) w) w (and_from (ltb i n) (ltb m (length w.sent)) (lt-ltb i n lt) (lt-ltb m (length w.sent) there))
      ∙ ap (λ (z : List ℕ). happens i (came z) w) this
      ∙ ap (λ (x : Outcome). moved i x.house (written x.answer) w) (same_step n l (w.house i) (q.kept.houses i lt) read)

  -- house i gets the first letter, which stays where it is
  module _ (i : ℕ) (lt : i < n) (new : List Letter) (e : (got l (w.house i)).answer ≡ Ok new) where
    pub reached : play n (delivers i m) w ≡ moved i (got l (w.house i)).house (map bytes_of new) w
    reached = delivered i lt ∙ ap (λ (a : Said). moved i (got l (w.house i)).house (written a) w) e

    pub waits_got : Waits n m (moved i (got l (w.house i)).house (map bytes_of new) w) (l ∷ (ls ++ new))
    waits_got =
        record {
          kept = subst (Kept n) reached (kept_play n (delivers i m) w q.kept);
          before = q.before;
          count = q.count;
          sent = ap (λ (z : List (List ℕ)). z ++ map bytes_of new) q.sent ∙ append_assoc q.before (map bytes_of (l ∷ ls)) (map bytes_of new) ∙ ap (λ (z : List (List ℕ)). q.before ++ (bytes_of l ∷ z)) (sym (map-append bytes_of ls new));
          readable = λ x z. ⊎_elim (λ y. q.readable x y) (λ y. fresh x y) (Memᴰ.append_cases (l ∷ ls) z);
        }
      where
        fresh : (x : Letter) → Memᴰ x new → ReadAs n (bytes_of x) x.0 x.1
        fresh x y = subst (λ (z : ℕ). ReadAs z (bytes_of x) x.0 x.1) (q.kept.houses i lt)
            (sent_read (w.house i) (came (bytes_of l)) (q.kept.sound i lt) (q.kept.bytes (bytes_of l) member) new (ap (λ (o : Outcome). o.answer) (same_step n l (w.house i) (q.kept.houses i lt) read) ∙ e) x y)

  -- the first letter is done with
  pub waits_next : Waits n (m + 1) w ls
  waits_next =
      record {
        kept = q.kept;
        before = q.before ++ (bytes_of l ∷ []);
        count = omega (arith, length-append q.before (bytes_of l ∷ []), q.count);
        sent = q.sent ∙ sym (append_assoc q.before (bytes_of l ∷ []) (map bytes_of ls));
        readable = λ x z. q.readable x (Memᴰ.tail z);
      }

  -- what holds in the end, held from after the first letter on
  pub pump_on : (P : World → Type 0) (k : ℕ) (v : World) → plays n (map (delivery m) (goes_to n (Ok l.0))) w ≡ v → P (plays n (pump k n (m + 1) v) v) → P (plays n (pump (suc k) n m w) w)
  pump_on P k v e p =
      subst (λ (es : List Entry). P (plays n es w)) (sym way)
      (subst P (sym (plays_append n first (pump k n (m + 1) (plays n first w)) w)) (subst (λ (u : World). P (plays n (pump k n (m + 1) u) u)) (sym e) p))
    where
      first : List Entry
      first = map (delivery m) (goes_to n (Ok l.0))

      way : pump (suc k) n m w ≡ and_then n w first (λ u. pump k n (m + 1) u)
      way =
          cond-true (ltb m (length w.sent)) (and_then n w (deliveries n m w) (λ u. pump k n (m + 1) u)) [] (lt-ltb m (length w.sent) there)
          ∙ ap (λ (z : Result Message Refusal). and_then n w (map (delivery m) (goes_to n z)) (λ u. pump k n (m + 1) u)) (ap (decode n) this ∙ read.message)

module _ (n m : ℕ) (w : World) (l : Letter) (ls : List Letter) (q : Waits n m w (l ∷ ls)) where
  -- a letter for one house
  pub pump_one : (P : World → Type 0) (k i : ℕ) → goes_to n (Ok l.0) ≡ i ∷ [] → i < n → (new : List Letter) → (got l (w.house i)).answer ≡ Ok new →
      (Waits n (m + 1) (moved i (got l (w.house i)).house (map bytes_of new) w) (ls ++ new) →
      P (plays n (pump k n (m + 1) (moved i (got l (w.house i)).house (map bytes_of new) w)) (moved i (got l (w.house i)).house (map bytes_of new) w))) →
      P (plays n (pump (suc k) n m w) w)
  pump_one P k i to lt new e f =
      pump_on n m w l ls q P k (moved i (got l (w.house i)).house (map bytes_of new) w)
      (ap (λ (z : List ℕ). plays n (map (delivery m) z) w) to ∙ reached n m w l ls q i lt new e)
      (f (waits_next n m (moved i (got l (w.house i)).house (map bytes_of new) w) l (ls ++ new) (waits_got n m w l ls q i lt new e)))

-- nothing waits
pub pump_end : (P : World → Type 0) (n k m : ℕ) (w : World) → Waits n m w [] → P w → P (plays n (pump k n m w) w)
pump_end P n zero m w q p = p
pump_end P n (suc k) m w q p = subst (λ (es : List Entry). P (plays n es w)) (sym none) p
  where
    none : pump (suc k) n m w ≡ []
    none = cond-false (ltb m (length w.sent)) (and_then n w (deliveries n m w) (λ u. pump k n (m + 1) u)) []
        (le-ltb m (length w.sent) (omega (arith, ap length q.sent, length-append q.before [], q.count)))

-- a call that is not refused
module _ (n i : ℕ) (c : Call) (w : World) (kept : Kept n w) (lt : i < n) (typed : Typed (event_of c)) (new : List Letter) (e : (step (w.house i) (event_of c)).answer ≡ Ok new) where
  abbrev pub called : World
  called = moved i (step (w.house i) (event_of c)).house (map bytes_of new) w

  called_is : play n (calls i c) w ≡ called
  called_is =
      cond-true (ltb i n) (happens i (event_of c) w) w (lt-ltb i n lt) ∙ ap (λ (a : Said). moved i (step (w.house i) (event_of c)).house (written a) w) e

  called_waits : Waits n (length w.sent) called new
  called_waits =
      record {
        kept = subst (Kept n) called_is (kept_play n (calls i c) w kept);
        before = w.sent;
        count = refl;
        sent = refl;
        readable = λ x y. subst (λ (z : ℕ). ReadAs z (bytes_of x) x.0 x.1) (kept.houses i lt) (sent_read (w.house i) (event_of c) (kept.sound i lt) typed new e x y);
      }

  pub calling_on : (P : World → Type 0) →
      (Waits n (length w.sent) called new → (k : ℕ) → 2 * length new + n + 2 ≤ k → P (plays n (pump k n (length w.sent) called) called)) → P (plays n (calling n i c w) w)
  calling_on P f =
      subst (λ (v : World). P (plays n (pump (enough n (length w.sent) v) n (length w.sent) v) v)) (sym called_is)
      (f called_waits (enough n (length w.sent) called) (room (length (map bytes_of new)) (length new) (length called.sent) (length w.sent) (length-append w.sent (map bytes_of new)) (length-map new)))
    where
      length-map : (ls : List Letter) → length (map bytes_of ls) ≡ length ls
      length-map [] = refl
      length-map (l ∷ ls) = ap suc (length-map ls)

      room : (a b t s : ℕ) → t ≡ s + a → a ≡ b → 2 * b + n + 2 ≤ 2 * (t - s) + n + 2
      room a b t s p z = omega arith
