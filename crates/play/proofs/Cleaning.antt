-- The collector's steps at one house: collect, word, join, and a word or the end of a census that comes.
use Rattle.std.proofs.Common.{◌≡◌, ℕ, zero, suc, ◌^◌, ◌<◌, max, Bool, true, false, cond, not, ◌||◌, T, eqb, ltb, leb, List, [], ◌∷◌, length, get_or, replicate, sym, refl, ap, ◌∙◌, subst, inl, inr, ⊎_elim}
use mathlib.Core.Path.{fun_ext}
use mathlib.Core.List.{Memᴰ}
use Rattle.std.proofs.lemmas.Bool.{or_parts, or_cases, or_left, or_right, not-false, leb-false, lt-ltb, both_ways, eqb-true, eqb-false, eq-eqb, cond-true}
use Rattle.wire.specs.Names.{home, house}
use Rattle.wire.specs.Format.{numbers}
use Rattle.wire.proofs.Digits.{four}
use Rattle.wire.specs.declared.message.Message.TheVariants as message
use Rattle.wire.specs.declared.refusal.Refusal.TheVariants.{Malformed, Misdelivered, OtherCensus, OutOfNumbers, WrongHouse}
use Rattle.tables.specs.Model.{Heap, is_in}
use Rattle.tables.specs.Met.{everywhere}
use Rattle.tables.specs.Met as tables
use Rattle.tables.proofs.Reach.{is_in_append}
use Rattle.objects.specs.Executed.{collected, references_of}
use Rattle.objects.proofs.Reached.{collects, refers}
use Rattle.lines.specs.Listed.{objects_listed, heard_of, swept}
use Rattle.lines.specs.Stamping.{stamp, seen_from, heard_from, with_heard}
use Rattle.lines.specs.declared.stamps.Stamps.{Stamps}
use Rattle.rounds.specs.Model as rounds
use Rattle.rules.specs.House as rules
use Rattle.rules.specs.Step.{sends, in_census, hears, heard_stamp, sweeps, bytes_of, step, collect, word, join}
use Rattle.promise.specs.Net.{Word, Sweep, Cleans, Collected, with, with_objects, with_list}
use Rattle.promise.specs.Net as net
use Rattle.promise.specs.Rounds.{Turn, Slot, idle}
use Rattle.promise.specs.Rounds as promise
use Rattle.play.specs.Play.{World}
use Rattle.play.specs.Seen.{house_seen, desk_seen, slot_seen, seen}
use Rattle.play.proofs.Sending.{both_refl}
use Rattle.play.proofs.Firm.{Firm}
use Rattle.play.proofs.Frame.{Way, free, Tracks, tracks_unless, tracks_house, tracks_send, arrives, alike_by, house_put, house_refl, objects_refl, part_put, part_refl, made_kept}
use Rattle.play.proofs.Programs.{truth}
use Rattle.play.proofs.Handing.{set_entry}

pub untruth : {b : Bool} → T b → b ≡ true
untruth {b} t = go b t
  where
    go : (b : Bool) → T b → b ≡ true
    go true t = refl
    go false t = absurd t

-- a word's objects, as bytes and back
pub numbers_bytes : (os : List ℕ) → ((o : ℕ) → is_in o os ≡ true → o < 2 ^ 32) → numbers (bytes_of os) ≡ os
unfolding numbers
numbers_bytes [] f = refl
numbers_bytes (o ∷ os) f =
    ap (λ (z : ℕ). z ∷ numbers (bytes_of os)) (four o (f o (or_left (eqb o o) (is_in o os) (eq-eqb o o refl)))) ∙ ap (λ (z : List ℕ). o ∷ z) (numbers_bytes os (λ q m. f q (or_right (eqb o q) (is_in q os) m)))

-- no round was begun: as the relation says it
pub silent_at : (k i : ℕ) → get_or (replicate k rounds.silent) i rounds.silent ≡ rounds.silent
silent_at zero i = refl
silent_at (suc k) zero = refl
silent_at (suc k) (suc i) = silent_at k i

abbrev nobody : ℕ → Slot
nobody i = promise.none

abbrev unspoken : ℕ → Slot
unspoken i = slot_seen (rounds.slot_of i rounds.unanswered)

pub unanswered_seen : nobody ≡ unspoken
unanswered_seen = fun_ext (λ i. sym (ap slot_seen (silent_at 16 i)))

idle_seen : idle ≡ desk_seen rounds.idle
idle_seen = ap (λ (f : ℕ → Slot). record { round = 0; now = f; before = f }) unanswered_seen

-- which house it is, asked the other way round
eqb_turned : (a b : ℕ) → eqb a b ≡ eqb b a
eqb_turned a b = go (eqb a b) (eqb b a) refl refl
  where
    go : (x y : Bool) → eqb a b ≡ x → eqb b a ≡ y → x ≡ y
    go true true e g = refl
    go false false e g = refl
    go true false e g = absurd (both_ways (eqb b a) g (eq-eqb b a (sym (eqb-true a b e))))
    go false true e g = absurd (both_ways (eqb a b) e (eq-eqb a b (sym (eqb-true b a g))))

module _ (n i : ℕ) (w : World) (f : Firm n i (w.house i)) where
  abbrev h : rules.House
  h = w.house i

  pub tracks_collect : Tracks true n i w (step h collect)
  tracks_collect =
      tracks_house true n i w (rules.with_heap kept h) (with_objects kept.objects (house_seen h)) (Turn.cleans (seen n w) (Cleans.collect (seen n w).net i kept.objects f.inside leaves) tt) free free (λ _. tt)
      (record { roots = λ q. refl; objects = objects_refl _; list = refl; given = λ q. refl; seen = λ q. refl; heard = λ q. refl; census = refl }) refl (part_refl _) refl
    where
      kept : Heap
      kept = collected (objects_listed (w.house i).list) (w.house i).heap

      z : tables.Collected (w.house i).heap (objects_listed (w.house i).list) (collected (objects_listed (w.house i).list) (w.house i).heap)
      z = collects (w.house i).heap (objects_listed (w.house i).list) f.rises

      leaves : Collected (house_seen (w.house i)) kept.objects
      leaves = record { some = z.some; stays = λ o t m. truth (z.stays o (untruth t) m); only = λ o t. z.only o (untruth t) }

  pub tracks_word : (j : ℕ) → Tracks true n i w (step h (word j))
  tracks_word j =
      tracks_unless true n i w (leb (rules.houses h) j) Malformed _ (λ a.
      tracks_unless true n i w (eqb j (rules.self h)) WrongHouse _ (λ b.
      tracks_send true n i w (message.Word (house (rules.self h)) (house j) (stamp (seen_from h.stamps j)) (record { at = 9; count = length refs }), bytes_of refs) (Word i j (numbers (bytes_of refs)) (seen_from h.stamps j))
      (ap (λ (z : ℕ). Word z j (numbers (bytes_of refs)) (seen_from h.stamps j) ∷ []) f.self) refl
      (Turn.cleans (seen n w) (Cleans.word (seen n w).net i j (numbers (bytes_of refs)) f.inside (subst (λ (z : ℕ). j < z) f.houses (leb-false (rules.houses h) j a))
      (λ e. eqb-false j (rules.self h) b (sym e ∙ sym f.self))
      (λ o e t. subst (λ (xs : List ℕ). T (is_in o xs)) (sym same) (truth (all o e (⊎_elim (λ y. or_left (is_in o h.heap.roots) (is_in o (everywhere h.heap.objects)) (untruth y)) (λ y. or_right (is_in o h.heap.roots) (is_in o (everywhere h.heap.objects)) (untruth y)) t))))
      (λ o t. ⊎_elim (λ y. inl (truth y)) (λ y. inr (truth y)) (or_cases (is_in o h.heap.roots) (is_in o (everywhere h.heap.objects)) (only o (subst (λ (xs : List ℕ). T (is_in o xs)) same t))))) tt) free free (λ _. tt)))
    where
      refs : List ℕ
      refs = references_of j (w.house i).heap

      lists : tables.Lists (references_of j (w.house i).heap) (tables.Refers (w.house i).heap j)
      lists = refers (w.house i).heap j

      same : numbers (bytes_of refs) ≡ refs
      same = numbers_bytes refs (λ o m. f.fits o (lists.only o m).1)

      all : (o : ℕ) → home o ≡ j → (is_in o (w.house i).heap.roots || is_in o (everywhere (w.house i).heap.objects)) ≡ true → is_in o refs ≡ true
      all o e t = lists.all o (e, is_in_append o (w.house i).heap.roots (everywhere (w.house i).heap.objects) ∙ t)

      only : (o : ℕ) → T (is_in o refs) → (is_in o (w.house i).heap.roots || is_in o (everywhere (w.house i).heap.objects)) ≡ true
      only o t = sym (is_in_append o (w.house i).heap.roots (everywhere (w.house i).heap.objects)) ∙ (lists.only o (untruth t)).1

  -- a census above the own, as a step of the relation
  abbrev joined_seen : ℕ → promise.World
  joined_seen c = record { net = with i (net.in_census c (house_seen h)) (seen n w).net; part = promise.set i promise.fresh (seen n w).part; desk = cond (eqb i 0) idle (seen n w).desk; said = (seen n w).said }

  pub tracks_joined : (c : ℕ) → rules.census h < c → Tracks true n i w (sends [] (in_census c h))
  tracks_joined c lt r =
      arrives n i w (in_census c h) true [] (joined_seen c) (Way.more Way.same (Turn.join (seen n w) i c f.inside lt) free free (λ _. tt))
      (alike_by n i w (in_census c h) [] (joined_seen c) r (house_put w i (in_census c h) (net.in_census c (house_seen h)) (house_refl _)) (made_kept w i (in_census c h) refl) (part_put w i (in_census c h) promise.fresh (part_refl _))
      (cond (eqb i 0) rounds.idle (w.house 0).desk) (desk (eqb i 0)) (turned (eqb i 0) (eqb 0 i) (eqb_turned i 0)) (both_refl _) (both_refl _))
    where
      desk : (b : Bool) → cond b idle (desk_seen (w.house 0).desk) ≡ desk_seen (cond b rounds.idle (w.house 0).desk)
      desk true = idle_seen
      desk false = refl

      turned : (a b : Bool) → a ≡ b → cond a rounds.idle (w.house 0).desk ≡ (cond b (in_census c (w.house i)) (w.house 0)).desk
      turned true true e = refl
      turned false false e = refl
      turned true false e = absurd (both_ways true e refl)
      turned false true e = absurd (both_ways false refl e)

  pub tracks_join : (c : ℕ) → Tracks true n i w (step h (join c))
  tracks_join c = tracks_unless true n i w (leb c (rules.census h) || ltb 4294967295 c) OutOfNumbers _ (λ a. tracks_joined c (leb-false c (rules.census h) (or_parts (leb c (rules.census h)) (ltb 4294967295 c) a).0))

  pub tracks_hears : (from to s : ℕ) (held : List ℕ) → from < 16 → Memᴰ (Word from to held s) (seen n w).net.sent → Tracks true n i w (hears from to s held h)
  tracks_hears from to s held small sent =
      tracks_unless true n i w (not (eqb to (rules.self h))) Misdelivered _ (λ a.
      let here = eqb-true to (rules.self h) (not-false (eqb to (rules.self h)) a) ∙ f.self in
      subst (λ (st : Stamps). Tracks true n i w (sends [] (rules.with_stamps st (rules.with_list (heard_of from held s h.list) h)))) (sym stamps)
      (tracks_house true n i w new (net.heard from held s (house_seen h))
      (Turn.cleans (seen n w) (Cleans.hear (seen n w).net from i held s f.inside (subst (λ (z : ℕ). Memᴰ (Word from z held s) (seen n w).net.sent) here sent)) tt) free free (λ _. tt)
      (record {
        roots = λ q. refl;
        objects = objects_refl _;
        list = refl;
        given = λ q. refl;
        seen = λ q. refl;
        heard = λ q. set_entry h.stamps.heard from (max (heard_from h.stamps from) s) q (subst (λ (z : ℕ). from < z) (sym f.heard) small);
        census = refl;
      }) refl (part_refl _) refl))
    where
      later : Stamps
      later = with_heard (w.house i).stamps from (max (heard_from (w.house i).stamps from) s)

      new : rules.House
      new = rules.with_stamps later (rules.with_list (heard_of from held s (w.house i).list) (w.house i))

      stamps : heard_stamp from s (w.house i).stamps ≡ later
      stamps = cond-true (ltb from 16) later (w.house i).stamps (lt-ltb from 16 small)

  pub tracks_sweeps : (c : ℕ) → Memᴰ (Sweep c) (seen n w).net.sent → Tracks true n i w (sweeps c h)
  tracks_sweeps c sent =
      tracks_unless true n i w (not (eqb c (rules.census h))) OtherCensus _ (λ a.
      let own = eqb-true c (rules.census h) (not-false (eqb c (rules.census h)) a) in
      subst (λ (z : ℕ). Tracks true n i w (sends [] (rules.with_list (swept z h.list) h))) (sym own)
      (tracks_house true n i w (rules.with_list (swept (rules.census h) h.list) h) (with_list (swept (rules.census h) h.list) (house_seen h))
      (Turn.cleans (seen n w) (Cleans.sweep (seen n w).net i f.inside (subst (λ (z : ℕ). Memᴰ (Sweep z) (seen n w).net.sent) own sent)) tt) free free (λ _. tt) (house_refl _) refl (part_refl _) refl))
