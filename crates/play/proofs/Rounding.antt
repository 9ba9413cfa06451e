-- The rounds at the house that asks: the call that begins one, and the answers that come.
use Rattle.std.proofs.Common.{◌≡◌, ℕ, zero, suc, ◌+◌, ◌<◌, ◌≤◌, Bool, true, false, cond, not, ◌&&◌, eqb, ltb, leb, ◌⊎◌, List, [], ◌∷◌, ◌++◌, get_or, set, Ok, Err, sym, refl, ap, ◌∙◌, subst, inl, inr, ⊎_elim, arith}
use mathlib.Core.Path.{fun_ext}
use mathlib.Core.List.Memᴰ
use mathlib.Core.List.{Memᴰ}
use Rattle.std.proofs.lemmas.List.{get_or-set_same, get_or-set_other}
use Rattle.std.proofs.lemmas.Bool.{or_cases, or_parts, and_parts, and_from, not-true, not-false, leb-true, cases_Bool, both_ways, eqb-true, eqb-false, cond-true, cond-false, cond_both, false≢true, and_left}
use Rattle.wire.specs.declared.message.Message.TheVariants as message
use Rattle.wire.specs.declared.refusal.Refusal.TheVariants.{Misdelivered, OtherCensus, OutOfNumbers, WrongHouse}
use Rattle.census.specs.Model.{asks}
use Rattle.rounds.specs.Model.{Slot, silent, said, slot_of, spoke, all_spoke, agrees, all_agree, ready, beginning, next, notes, noted, agreed, completes, unanswered}
use Rattle.rounds.specs.Model as rounds
use Rattle.rules.specs.House as rules
use Rattle.rules.specs.Step.{Letter, sends, letter, noting, begins, step, round}
use Rattle.promise.specs.Net.{Sweep}
use Rattle.promise.specs.Net as net
use Rattle.promise.specs.Rounds.{Turn, Round, Reply, AllIn, Ended, Runs}
use Rattle.promise.specs.Rounds as promise
use Rattle.promise.proofs.Spoken.{asked_of}
use Rattle.play.specs.Play.{World}
use Rattle.play.specs.Seen.{desk_seen, slot_seen, seen}
use Rattle.play.proofs.Sending.{Both, both_refl}
use Rattle.play.proofs.Firm.{Firm}
use Rattle.play.proofs.Frame.{Deed, Way, free, Tracks, TracksBy, tracks_refused, tracks_unless, arrives, alike_by, house_kept, house_refl, part_kept, part_refl, made_kept, desk_kept, both_one}
use Rattle.play.proofs.Cleaning.{unanswered_seen}

-- by cases on the last house
last_or : (i n : ℕ) → i < suc n → (i ≡ n) ⊎ (i < n)
last_or i n lt = ⊎_elim (λ e. inl (eqb-true i n e)) (λ e. inr (before lt (eqb-false i n e))) (cases_Bool (eqb i n))
  where
    before : i < suc n → (i ≡ n → ⊥) → i < n
    before p q = omega arith

-- all have answered
spoken_slot : (x : Slot) → spoke x ≡ true → (b : Bool) × (t : ℕ) × (slot_seen x ≡ promise.some b t)
spoken_slot silent e = absurd (false≢true e)
spoken_slot (said b t) e = (b, t, refl)

all_in : (n : ℕ) (xs : List Slot) → all_spoke n xs ≡ true → AllIn n (λ i. slot_seen (slot_of i xs))
all_in zero xs e i lt = absurd (none_below lt)
  where
    none_below : {a : ℕ} → a < 0 → ⊥
    none_below l = omega arith
all_in (suc n) xs e i lt =
    let p = and_parts (spoke (slot_of n xs)) (all_spoke n xs) e in
    ⊎_elim (λ q. subst (λ (k : ℕ). (b : Bool) × (t : ℕ) × (slot_seen (slot_of k xs) ≡ promise.some b t)) (sym q) (spoken_slot (slot_of n xs) p.0)) (λ l. all_in n xs p.1 i l) (last_or i n lt)

-- all were calm in both rounds, with the same tallies
agreed_slots : (x y : Slot) → agrees x y ≡ true → (t : ℕ) × (slot_seen x ≡ promise.some true t) × (slot_seen y ≡ promise.some true t)
agreed_slots silent y e = absurd (false≢true e)
agreed_slots (said a s) silent e = absurd (false≢true e)
agreed_slots (said a s) (said b t) e =
    let p = and_parts a (b && eqb s t) e in
    let q = and_parts b (eqb s t) p.1 in
    (s, ap (λ (z : Bool). promise.some z s) p.0, ap (λ (z : Bool). promise.some z t) q.0 ∙ ap (λ (z : ℕ). promise.some true z) (sym (eqb-true s t q.1)))

pub all_agreed : (n : ℕ) (xs ys : List Slot) → all_agree n xs ys ≡ true → (i : ℕ) → i < n → (t : ℕ) × (slot_seen (slot_of i xs) ≡ promise.some true t) × (slot_seen (slot_of i ys) ≡ promise.some true t)
all_agreed zero xs ys e i lt = absurd (none_below lt)
  where
    none_below : {a : ℕ} → a < 0 → ⊥
    none_below l = omega arith
all_agreed (suc n) xs ys e i lt =
    let p = and_parts (agrees (slot_of n xs) (slot_of n ys)) (all_agree n xs ys) e in
    ⊎_elim (λ q. subst (λ (k : ℕ). (t : ℕ) × (slot_seen (slot_of k xs) ≡ promise.some true t) × (slot_seen (slot_of k ys) ≡ promise.some true t)) (sym q) (agreed_slots (slot_of n xs) (slot_of n ys) p.0)) (λ l. all_agreed n xs ys p.1 i l) (last_or i n lt)

-- a message that was sent before
both_again : {A : Type 0} (x : A) (front xs : List A) → front ≡ x ∷ [] → Memᴰ x xs → Both xs ((front ++ []) ++ xs)
both_again x front xs e m = subst (λ (ys : List _). Both xs ((ys ++ []) ++ xs)) (sym e) (λ y. (λ z. Memᴰ.tail z, λ z. ⊎_elim (λ q. subst (λ v. Memᴰ v xs) (sym q) m) (λ q. q) (Memᴰ.cases_cons z)))

-- the call round begins one, if it may, at the house that asks
abbrev pub round_at : ℕ → rules.House → Deed
round_at zero h = cond (ready (rules.houses h) h.desk && ltb h.desk.round 4294967295) Deed.opens Deed.leaves
round_at (suc i) h = Deed.leaves

-- an answer to a round may tell that two agree, at the house that asks
abbrev pub reply_at : ℕ → Deed
reply_at zero = Deed.closes
reply_at (suc i) = Deed.leaves

module _ (n : ℕ) (w : World) (f : Firm n 0 (w.house 0)) where
  abbrev h : rules.House
  h = w.house 0

  abbrev d : rounds.Desk
  d = (w.house 0).desk

  round_letter : ℕ → Letter
  round_letter r = letter (message.Round (record { 0 = rules.census (w.house 0) }) (record { 0 = r }))

  -- the next round
  tracks_next : ready n (w.house 0).desk ≡ true → TracksBy Deed.opens true n 0 w (sends (round_letter ((w.house 0).desk.round + 1) ∷ []) (rules.with_desk (next (w.house 0).desk) (w.house 0)))
  unfolding round_letter
  tracks_next e r =
      arrives n 0 w new true (round_letter (d.round + 1) ∷ []) _ (Way.more Way.same (Turn.begin (seen n w) f.inside may) (λ _. refl) free (λ _. tt))
      (alike_by n 0 w new (round_letter (d.round + 1) ∷ [])
      (record { net = (seen n w).net; part = (seen n w).part; desk = record { round = suc d.round; now = λ i. promise.none; before = (seen n w).desk.now }; said = Round (rules.census h) (suc d.round) ∷ (seen n w).said }) r
      (house_kept w 0 new (house_refl _)) (made_kept w 0 new refl) (part_kept w 0 new (part_refl _)) (next d) desk refl (both_refl _)
      (both_one (Round (rules.census h) (suc d.round)) (Round (rules.census h) (d.round + 1) ∷ []) (seen n w).said (ap (λ (z : ℕ). Round (rules.census h) z ∷ []) one)))
    where
      new : rules.House
      new = rules.with_desk (next (w.house 0).desk) (w.house 0)

      one : (w.house 0).desk.round + 1 ≡ suc (w.house 0).desk.round
      one = omega arith

      may : ((w.house 0).desk.round ≡ 0) ⊎ AllIn n (seen n w).desk.now
      may = ⊎_elim (λ z. inl (eqb-true (w.house 0).desk.round 0 z)) (λ z. inr (all_in n (w.house 0).desk.now z)) (or_cases (eqb (w.house 0).desk.round 0) (all_spoke n (w.house 0).desk.now) e)

      desk : record { round = suc (w.house 0).desk.round; now = λ i. promise.none; before = (seen n w).desk.now } ≡ desk_seen (next (w.house 0).desk)
      desk =
          ap (λ (g : ℕ → promise.Slot). record { round = suc (w.house 0).desk.round; now = g; before = (seen n w).desk.now }) unanswered_seen
          ∙ ap (λ (z : ℕ). record { round = z; now = λ i. slot_seen (slot_of i unanswered); before = (seen n w).desk.now }) (sym one)

  -- the present round again
  tracks_resent : Runs n (seen n w) → ready n (w.house 0).desk ≡ false → Tracks true n 0 w (sends (round_letter (w.house 0).desk.round ∷ []) (w.house 0))
  unfolding round_letter
  tracks_resent runs e r =
      arrives n 0 w h true (round_letter d.round ∷ []) (seen n w) Way.same
      (alike_by n 0 w h (round_letter d.round ∷ []) (seen n w) r (house_kept w 0 h (house_refl _)) (made_kept w 0 h refl) (part_kept w 0 h (part_refl _)) d refl (desk_kept w 0 h refl) (both_refl _)
      (both_again (Round (rules.census h) d.round) (Round (rules.census h) d.round ∷ []) (seen n w).said refl there))
    where
      some : (k : ℕ) → eqb k 0 ≡ false → (j : ℕ) × (k ≡ suc j)
      some zero g = absurd (false≢true (sym g))
      some (suc j) g = (j, refl)

      there : Memᴰ (Round (rules.census (w.house 0)) (w.house 0).desk.round) (seen n w).said
      there =
          let z = some (w.house 0).desk.round (or_parts (eqb (w.house 0).desk.round 0) (all_spoke n (w.house 0).desk.now) e).0 in
          subst (λ (k : ℕ). Memᴰ (Round (rules.census (w.house 0)) k) (seen n w).said) (sym z.1) (asked_of runs z.0 z.1)

  tracks_begins : Runs n (seen n w) → TracksBy (round_at 0 (w.house 0)) true n 0 w (begins (beginning (rules.houses (w.house 0)) (w.house 0).desk) (w.house 0))
  unfolding round_letter
  tracks_begins runs = go (ready (rules.houses h) d) (ltb d.round 4294967295) refl refl
    where
      same : ready (rules.houses (w.house 0)) (w.house 0).desk ≡ ready n (w.house 0).desk
      same = ap (λ (k : ℕ). ready k (w.house 0).desk) f.houses

      go : (a b : Bool) → ready (rules.houses (w.house 0)) (w.house 0).desk ≡ a → ltb (w.house 0).desk.round 4294967295 ≡ b →
          TracksBy (cond (a && b) Deed.opens Deed.leaves) true n 0 w (begins (cond a (cond b (Ok ((w.house 0).desk.round + 1)) (Err OutOfNumbers)) (Ok (w.house 0).desk.round)) (w.house 0))
      go true true ea eb =
          subst (λ (x : rounds.Desk). TracksBy Deed.opens true n 0 w (sends (round_letter ((w.house 0).desk.round + 1) ∷ []) (rules.with_desk x (w.house 0))))
          (sym (cond-true (ready (rules.houses (w.house 0)) (w.house 0).desk && ltb (w.house 0).desk.round 4294967295) (next (w.house 0).desk) (w.house 0).desk (and_from _ _ ea eb))) (tracks_next (sym same ∙ ea))
      go true false ea eb = tracks_refused true n 0 w OutOfNumbers
      go false b ea eb =
          subst (λ (x : rounds.Desk). Tracks true n 0 w (sends (round_letter (w.house 0).desk.round ∷ []) (rules.with_desk x (w.house 0))))
          (sym (cond-false (ready (rules.houses (w.house 0)) (w.house 0).desk && ltb (w.house 0).desk.round 4294967295) (next (w.house 0).desk) (w.house 0).desk (and_left _ _ ea))) (tracks_resent runs (sym same ∙ ea))

  -- a first answer to the present round
  module _ (r from : ℕ) (calm : Bool) (t : ℕ) (low : from < n) (heard : Memᴰ (Reply (rules.census (w.house 0)) r from calm t) (seen n w).said) (fresh : notes r from (w.house 0).desk ≡ true) where
    abbrev kept : rounds.Desk
    kept = record { round = (w.house 0).desk.round; now = set (w.house 0).desk.now from (said calm t); before = (w.house 0).desk.before }

    abbrev new : rules.House
    new = rules.with_desk kept (w.house 0)

    abbrev note_seen : promise.World
    note_seen = record { net = (seen n w).net; part = (seen n w).part; desk = record { round = (w.house 0).desk.round; now = promise.set from (promise.some calm t) (seen n w).desk.now; before = (seen n w).desk.before }; said = (seen n w).said }

    pieces : (r ≡ (w.house 0).desk.round) × (spoke (slot_of from (w.house 0).desk.now) ≡ false)
    pieces =
        let a = and_parts (leb 1 r) (eqb r (w.house 0).desk.round && not (spoke (slot_of from (w.house 0).desk.now))) fresh in
        let b = and_parts (eqb r (w.house 0).desk.round) (not (spoke (slot_of from (w.house 0).desk.now))) a.1 in
        (eqb-true r (w.house 0).desk.round b.0, not-true (spoke (slot_of from (w.house 0).desk.now)) b.1)

    nothing : (x : Slot) → spoke x ≡ false → slot_seen x ≡ promise.none
    nothing silent e = refl
    nothing (said a b) e = absurd (false≢true (sym e))

    noted_turn : Turn n (seen n w) note_seen
    noted_turn = Turn.note (seen n w) from calm t low (subst (λ (z : ℕ). Memᴰ (Reply (rules.census (w.house 0)) z from calm t) (seen n w).said) pieces.0 heard) (nothing (slot_of from (w.house 0).desk.now) pieces.1)

    slots : (j : ℕ) → promise.set from (promise.some calm t) (seen n w).desk.now j ≡ slot_seen (slot_of j kept.now)
    slots j =
        cond_both (eqb j from) (promise.some calm t) (slot_seen (slot_of j (w.house 0).desk.now)) (λ z. z ≡ slot_seen (slot_of j kept.now))
        (λ e. sym (ap slot_seen (ap (λ (k : ℕ). get_or kept.now k silent) (eqb-true j from e) ∙ get_or-set_same (w.house 0).desk.now from (said calm t) silent (subst (λ (z : ℕ). from < z) (sym f.slots) (small low f.few)))))
        (λ e. sym (ap slot_seen (get_or-set_other (w.house 0).desk.now from j (said calm t) silent (eqb-false j from e))))
      where
        small : {a b c : ℕ} → a < b → b ≤ c → a < c
        small p q = omega arith

    desks : note_seen.desk ≡ desk_seen kept
    desks = ap (λ (g : ℕ → promise.Slot). record { round = (w.house 0).desk.round; now = g; before = (seen n w).desk.before }) (fun_ext slots)

    tracks_kept : TracksBy Deed.closes true n 0 w (sends [] new)
    unfolding noted_turn
    tracks_kept q =
        arrives n 0 w new true [] note_seen (Way.more Way.same noted_turn free free (λ _. tt))
        (alike_by n 0 w new [] note_seen q (house_kept w 0 new (house_refl _)) (made_kept w 0 new refl) (part_kept w 0 new (part_refl _)) kept desks refl (both_refl _) (both_refl _))

    ended : agreed n kept ≡ true → Ended n note_seen.desk
    ended e =
        let a = and_parts (leb 2 kept.round) (all_agree n kept.now kept.before) e in
        record {
          somebody = f.inside;
          second = leb-true 2 kept.round a.0;
          same = λ i lt. let z = all_agreed n kept.now kept.before a.1 i lt in (z.0, slots i ∙ z.1, z.2);
        }

    tracks_completes : agreed n kept ≡ true → TracksBy Deed.closes true n 0 w (sends (letter (message.Complete (record { 0 = rules.census (w.house 0) })) ∷ []) new)
    unfolding noted_turn
    tracks_completes e q =
        arrives n 0 w new true (letter (message.Complete (record { 0 = rules.census (w.house 0) })) ∷ []) _ (Way.more (Way.more Way.same noted_turn free free (λ _. tt)) (Turn.complete note_seen (ended e)) free (λ _. tt) (λ _. tt))
        (alike_by n 0 w new (letter (message.Complete (record { 0 = rules.census (w.house 0) })) ∷ [])
        (record { net = net.sends (Sweep (rules.census (w.house 0))) (seen n w).net; part = (seen n w).part; desk = note_seen.desk; said = (seen n w).said }) q
        (house_kept w 0 new (house_refl _)) (made_kept w 0 new refl) (part_kept w 0 new (part_refl _)) kept desks refl (both_refl _) (both_refl _))

  tracks_notes : (r from : ℕ) (calm : Bool) (t : ℕ) → from < n → Memᴰ (Reply (rules.census (w.house 0)) r from calm t) (seen n w).said → (a b : Bool) → notes r from d ≡ a → agreed (rules.houses h) (noted r from calm t d) ≡ b →
      TracksBy Deed.closes true n 0 w (sends (cond (a && b) (letter (message.Complete (record { 0 = rules.census h })) ∷ []) []) (rules.with_desk (noted r from calm t d) h))
  tracks_notes r from calm t low heard true b ea eb =
      subst (λ (x : rounds.Desk). agreed (rules.houses h) x ≡ b → TracksBy Deed.closes true n 0 w (sends (cond b (letter (message.Complete (record { 0 = rules.census h })) ∷ []) []) (rules.with_desk x h)))
      (sym (cond-true (notes r from d) (kept r from calm t low heard ea) d ea)) (go b) eb
    where
      go : (b : Bool) → agreed (rules.houses (w.house 0)) (kept r from calm t low heard ea) ≡ b → TracksBy Deed.closes true n 0 w (sends (cond b (letter (message.Complete (record { 0 = rules.census (w.house 0) })) ∷ []) []) (rules.with_desk (kept r from calm t low heard ea) (w.house 0)))
      go true e = tracks_completes r from calm t low heard ea (ap (λ (k : ℕ). agreed k (kept r from calm t low heard ea)) (sym f.houses) ∙ e)
      go false e = tracks_kept r from calm t low heard ea
  tracks_notes r from calm t low heard false b ea eb =
      subst (λ (x : rounds.Desk). TracksBy Deed.closes true n 0 w (sends [] (rules.with_desk x h))) (sym (cond-false (notes r from d) _ d ea))
      (λ q. arrives n 0 w h true [] (seen n w) Way.same
      (alike_by n 0 w h [] (seen n w) q (house_kept w 0 h (house_refl _)) (made_kept w 0 h refl) (part_kept w 0 h (part_refl _)) d refl (desk_kept w 0 h refl) (both_refl _) (both_refl _)))

  tracks_noted : (c r from : ℕ) (calm : Bool) (t : ℕ) → from < n → Memᴰ (Reply c r from calm t) (seen n w).said → TracksBy Deed.closes true n 0 w (noting c r from calm t h)
  tracks_noted c r from calm t low heard =
      tracks_unless true n 0 w (not (asks (rules.self h))) Misdelivered _ (λ a.
      tracks_unless true n 0 w (not (eqb c (rules.census h))) OtherCensus _ (λ b.
      let own = eqb-true c (rules.census h) (not-false (eqb c (rules.census h)) b) in
      subst (λ (z : ℕ). TracksBy Deed.closes true n 0 w (sends (cond (completes (rules.houses h) r from calm t d) (letter (message.Complete (record { 0 = z })) ∷ []) []) (rules.with_desk (noted r from calm t d) h))) (sym own)
      (tracks_notes r from calm t low (subst (λ (z : ℕ). Memᴰ (Reply z r from calm t) (seen n w).said) own heard) (notes r from d) (agreed (rules.houses h) (noted r from calm t d)) refl refl)))

-- at any house: only the one that asks does anything
module _ (n i : ℕ) (w : World) (f : Firm n i (w.house i)) where
  asker_is : asks (rules.self (w.house i)) ≡ true → 0 ≡ i
  asker_is e = sym (eqb-true (rules.self (w.house i)) 0 e) ∙ f.self

  pub tracks_round : Runs n (seen n w) → TracksBy (round_at i (w.house i)) true n i w (step (w.house i) round)
  tracks_round runs =
      tracks_unless true n i w (not (asks (rules.self (w.house i)))) WrongHouse _
      (λ a. subst (λ (k : ℕ). Firm n k (w.house k) → TracksBy (round_at k (w.house k)) true n k w (begins (beginning (rules.houses (w.house k)) (w.house k).desk) (w.house k))) (asker_is (not-false (asks (rules.self (w.house i))) a)) (λ g. tracks_begins n w g runs) f)

  pub tracks_noting : (c r from : ℕ) (calm : Bool) (t : ℕ) → from < n → Memᴰ (Reply c r from calm t) (seen n w).said → TracksBy (reply_at i) true n i w (noting c r from calm t (w.house i))
  tracks_noting c r from calm t low heard = go (asks (rules.self (w.house i))) refl
    where
      go : (b : Bool) → asks (rules.self (w.house i)) ≡ b → TracksBy (reply_at i) true n i w (noting c r from calm t (w.house i))
      go true e = subst (λ (k : ℕ). Firm n k (w.house k) → TracksBy (reply_at k) true n k w (noting c r from calm t (w.house k))) (asker_is e) (λ g. tracks_noted n w g c r from calm t low heard) f
      go false e = tracks_unless true n i w (not (asks (rules.self (w.house i)))) Misdelivered _ (λ a. absurd (both_ways (asks (rules.self (w.house i))) e (not-false (asks (rules.self (w.house i))) a)))
