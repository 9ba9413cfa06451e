-- What was told stays so while the census does, and each house tells of each reference once: a pass costs two messages for each that is newly told.
use Rattle.std.proofs.Common.{◌≡◌, ℕ, zero, suc, ◌+◌, ◌<◌, ◌≤◌, Bool, true, false, cond, not, ◌&&◌, ◌||◌, eqb, ltb, leb, List, [], ◌∷◌, map, length, get_or, Ok, Err, Result, sym, refl, ap, ◌∙◌, subst, arith}
use Rattle.std.proofs.lemmas.Bool.{cond_both, ltb-true}
use Rattle.wire.specs.declared.message.Message.{Message}
use Rattle.wire.specs.declared.message.Message.TheVariants as message
use Rattle.wire.specs.declared.names.Stamp.{Stamp}
use Rattle.wire.specs.declared.refusal.Refusal.{Refusal}
use Rattle.wire.specs.Format.{decode, part_of}
use Rattle.wire.specs.Names.{home}
use Rattle.tables.specs.Model.{Heap, present}
use Rattle.objects.specs.Calls.{keep_answer, after_keep, take_answer}
use Rattle.lines.specs.Listed.{fits, belongs}
use Rattle.lines.specs.Stamping.{next_for, seen_from}
use Rattle.census.specs.Model.{Part, Told, asks, settled, with_told, hearing, polling, replied, replying}
use Rattle.rules.specs.House.{House, self, houses, census}
use Rattle.rules.specs.Step.{Outcome, refused, quietly, authorised, gives, stamped, took_it, in_census, caught_up, replies, receives, read_as, step, came}
use Rattle.play.specs.Play.{World, delivers, happens, play, plays}
use Rattle.play.specs.Settle.{goes_to, delivery, deliveries, and_then, pump}
use Rattle.play.proofs.Frame.{put_cases}
use Rattle.play.proofs.FairEntries.{plays_append}

-- while the census stays, so much was told as before
pub record Stays (p q : Part) : Type 0 where
  pub up : p.census ≤ q.census
  pub told : q.census ≡ p.census → length q.told ≡ length p.told

stays_refl : (p : Part) → Stays p p
stays_refl p = record { up = omega arith; told = λ _. refl }

stays_on : (p q r : Part) → Stays p q → Stays q r → Stays p r
stays_on p q r a b =
    record {
      up = let x = a.up in let y = b.up in omega arith;
      told = λ e. let z = between p.census q.census r.census a.up b.up e in b.told z.1 ∙ a.told z.0;
    }
  where
    between : (x y z : ℕ) → x ≤ y → y ≤ z → z ≡ x → (y ≡ x) × (z ≡ y)
    between x y z f g e = (omega arith, omega arith)

-- of a house and what becomes of it
record Rests (h : House) (x : Outcome) : Type 0 where
  part : Stays h.part x.house.part

unless : (h : House) (test : Bool) (e : Refusal) (x : Outcome) → Rests h x → Rests h (cond test (refused e h) x)
unless h true e x p = record { part = stays_refl h.part }
unless h false e x p = p

quiet : {X : Type 0} (r : Result X Refusal) (g : Heap) (h : House) → Rests h (quietly r g h)
quiet (Ok x) g h = record { part = stays_refl h.part }
quiet (Err e) g h = record { part = stays_refl h.part }

given : (r : Result Stamp Refusal) (o j : ℕ) (h : House) → Rests h (stamped r o j h)
given (Err e) o j h = record { part = stays_refl h.part }
given (Ok s) o j h = unless h (not (belongs (self h) (houses h) o j)) _ _ (record { part = stays_refl h.part })

took : (r : Result (Unit {0}) Refusal) (o s : ℕ) (h : House) → Rests h (took_it r o s h)
took (Err e) o s h = record { part = stays_refl h.part }
took (Ok u) o s h = record { part = record { up = omega arith; told = λ _. refl } }

caught : (c : ℕ) (h : House) → Stays h.part (caught_up c h).part
caught c h =
    cond_both (ltb (census h) c) (in_census c h) h (λ g. Stays h.part g.part)
    (λ t. let l = ltb-true (census h) c t in record { up = omega arith; told = λ e. absurd (apart (census h) c l e) }) (λ _. stays_refl h.part)
  where
    apart : (a b : ℕ) → a < b → b ≡ a → ⊥
    apart a b l e = omega arith

long_settled : (o : ℕ) (ts : List Told) → length (settled o ts) ≡ length ts
long_settled o [] = refl
long_settled o (t ∷ ts) = ap suc (long_settled o ts)

heard : (c o : ℕ) (p : Part) → Stays p (hearing c o p)
heard c o p = cond_both (eqb c p.census) (with_told (settled o p.told) p) p (Stays p) (λ _. record { up = omega arith; told = λ _. long_settled o p.told }) (λ _. stays_refl p)

asked : (c r : ℕ) (p : Part) → Stays p (replied c r p)
asked c r p = cond_both (eqb c p.census) (polling r p) p (Stays p) (λ _. record { up = omega arith; told = λ _. refl }) (λ _. stays_refl p)

answers : (m : Result Message Refusal) (c r : ℕ) (h : House) → Stays h.part (replies m c r h).house.part
answers (Ok m) c r h = asked c r h.part
answers (Err e) c r h = stays_refl h.part

receives_rests : (m : Message) (part : List ℕ) (h : House) → Rests h (receives m part h)
receives_rests (message.Ask o by to) part h =
    unless h (not (eqb (home o.0) (self h))) _ _ (
    unless h (not (present o.0 h.heap.objects)) _ _ (
    unless h (not (authorised o.0 by.0 h)) _ _
    (cond_both (eqb to.0 (self h)) (quietly (keep_answer o.0 h.heap) (after_keep o.0 h.heap) h) (gives o.0 to.0 h) (Rests h)
    (λ _. quiet (keep_answer o.0 h.heap) (after_keep o.0 h.heap) h) (λ _. unless h (not (fits o.0 to.0 h.list 2048)) _ _ (given (next_for to.0 h.stamps) o.0 to.0 h)))))
receives_rests (message.Give o to s) part h =
    unless h (not (eqb to.0 (self h)) || eqb (home o.0) (self h)) _ _ (unless h (leb s.0 (seen_from h.stamps (home o.0))) _ _ (took (take_answer o.0 h.heap) o.0 s.0 h))
receives_rests (message.Word from to s p) part h = unless h (not (eqb to.0 (self h))) _ _ (record { part = stays_refl h.part })
receives_rests (message.Telling c o from) part h =
    unless h (not (eqb (home o.0) (self h))) _ _ (unless h (ltb c.0 (census h)) _ _ (record { part = let z = caught c.0 h in record { up = z.up; told = z.told } }))
receives_rests (message.Answer c o from) part h = unless h (not (eqb from.0 (self h))) _ _ (unless h (not (eqb c.0 (census h))) _ _ (record { part = heard c.0 o.0 h.part }))
receives_rests (message.Round c r) part h =
    unless h (ltb c.0 (census h)) _ _ (record { part = stays_on h.part (caught_up c.0 h).part _ (caught c.0 h) (answers (replying _ c.0 r.0 _ (caught_up c.0 h).part) c.0 r.0 (caught_up c.0 h)) })
receives_rests (message.Reply c r from calm t) part h = unless h (not (asks (self h))) _ _ (unless h (not (eqb c.0 (census h))) _ _ (record { part = stays_refl h.part }))
receives_rests (message.Complete c) part h = unless h (not (eqb c.0 (census h))) _ _ (record { part = stays_refl h.part })

read_rests : (r : Result Message Refusal) (bs : List ℕ) (h : House) → Rests h (read_as r bs h)
read_rests (Ok m) bs h = receives_rests m (part_of m bs) h
read_rests (Err x) bs h = record { part = stays_refl h.part }

-- at every house
abbrev pub AllStay : World → World → Type 0
AllStay w v = (j : ℕ) → Stays (w.house j).part (v.house j).part

delivered : (n i m : ℕ) (w : World) → AllStay w (play n (delivers i m) w)
delivered n i m w j =
    cond_both (ltb i n && ltb m (length w.sent)) (happens i (came bs) w) w (λ v. Stays (w.house j).part (v.house j).part)
    (λ _. put_cases i (λ k b. Stays (w.house k).part (cond b (step (w.house i) (came bs)).house (w.house k)).part) (read_rests (decode (houses (w.house i)) bs) bs (w.house i)).part (λ k. stays_refl (w.house k).part) j)
    (λ _. stays_refl (w.house j).part)
  where
    bs : List ℕ
    bs = get_or w.sent m []

all_delivered : (n m : ℕ) (is : List ℕ) (w : World) → AllStay w (plays n (map (delivery m) is) w)
all_delivered n m [] w j = stays_refl (w.house j).part
all_delivered n m (i ∷ is) w j = stays_on _ _ _ (delivered n i m w j) (all_delivered n m is (play n (delivers i m) w) j)

pub pumped : (k n m : ℕ) (w : World) → AllStay w (plays n (pump k n m w) w)
pumped zero n m w j = stays_refl (w.house j).part
pumped (suc k) n m w j =
    cond_both (ltb m (length w.sent)) (and_then n w (deliveries n m w) (λ v. pump k n (m + 1) v)) [] (λ es. Stays (w.house j).part ((plays n es w).house j).part)
    (λ _. subst (λ (u : World). Stays (w.house j).part (u.house j).part) (sym (plays_append n (deliveries n m w) (pump k n (m + 1) v) w))
    (stays_on (w.house j).part (v.house j).part _ (all_delivered n m (goes_to n (decode n (get_or w.sent m []))) w j) (pumped k n (m + 1) v j)))
    (λ _. stays_refl (w.house j).part)
  where
    v : World
    v = plays n (deliveries n m w) w
