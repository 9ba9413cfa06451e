-- Handing a reference on: an ask that comes to the home, and a give that comes to the receiver.
use Rattle.std.proofs.Common.{◌≡◌, ℕ, ◌+◌, ◌<◌, Bool, true, false, cond, not, ◌&&◌, ◌||◌, T, eqb, ltb, leb, ◌⊎◌, List, [], ◌∷◌, length, get_or, set, is_ok, Ok, Err, Result, sym, refl, ap, ◌∙◌, subst, inl, inr, ⊎_elim, arith}
use mathlib.Core.List.{Memᴰ}
use Rattle.std.proofs.lemmas.List.{get_or-set_same, get_or-set_other}
use Rattle.std.proofs.lemmas.Bool.{and_parts, or_parts, or_cases, not-false, leb-false, ltb-true, eqb-true, eqb-false, cond_both, false≢true}
use Rattle.wire.specs.Names.{home, name, house}
use Rattle.wire.specs.declared.names.Stamp.{Stamp}
use Rattle.wire.specs.declared.refusal.Refusal.{Refusal}
use Rattle.wire.specs.declared.refusal.Refusal.TheVariants.{Malformed, Misdelivered, NotHere, NotHolder, OldStamp, NoRoom, OutOfNumbers}
use Rattle.wire.specs.declared.message.Message.TheVariants as message
use Rattle.tables.specs.Model.{Heap, is_in, present}
use Rattle.objects.specs.Calls.{keep_answer, take_answer, after_take, rooted}
use Rattle.lines.specs.Listed.{entered, listed_in, fits, belongs}
use Rattle.lines.specs.Stamping.{stamp, given_to, seen_from, next_for, with_given, with_seen}
use Rattle.lines.specs.declared.stamps.Stamps.{Stamps}
use Rattle.census.specs.Model as census
use Rattle.rules.specs.House as rules
use Rattle.rules.specs.Step.{Letter, quietly, letter, handed, gives, stamped, authorised, takes, took_it}
use Rattle.promise.specs.Net.{Ask, Give, Uses, with, gave, took}
use Rattle.promise.specs.Net as net
use Rattle.promise.specs.Alike.{AlikeHouse}
use Rattle.promise.specs.Rounds.{Turn}
use Rattle.promise.specs.Rounds as promise
use Rattle.play.specs.Play.{World}
use Rattle.play.specs.Seen.{house_seen, part_seen, seen}
use Rattle.play.proofs.Sending.{both_refl}
use Rattle.play.proofs.Firm.{Firm}
use Rattle.play.proofs.Frame.{Way, free, Tracks, tracks_refused, tracks_unless, tracks_house, tracks_heap, arrives, alike_by, house_put, objects_refl, part_kept, part_put, part_refl, made_kept, desk_kept, both_one}
use Rattle.play.proofs.Likeness.{same_added}
use Rattle.play.proofs.Programs.{truth, roots_alike}

-- an entry of a table of sixteen
pub set_entry : (xs : List ℕ) (j v k : ℕ) → j < length xs → cond (eqb k j) v (get_or xs k 0) ≡ get_or (set xs j v) k 0
set_entry xs j v k lt =
    cond_both (eqb k j) v (get_or xs k 0) (λ z. z ≡ get_or (set xs j v) k 0) (λ e. sym (ap (λ (z : ℕ). get_or (set xs j v) z 0) (eqb-true k j e) ∙ get_or-set_same xs j v 0 lt)) (λ e. sym (get_or-set_other xs j k v 0 (eqb-false k j e)))

stamp_in : Result Stamp Refusal → Stamp
stamp_in (Ok s) = s
stamp_in (Err e) = stamp 0

-- the next stamp is one more than the last
pub next_stamp : (j : ℕ) (st : Stamps) (s : Stamp) → next_for j st ≡ Ok s → (j < 16) × (s ≡ stamp (given_to st j + 1))
unfolding stamp_in
next_stamp j st s e = go (ltb j 16) (ltb (given_to st j) 4294967295) refl e
  where
    go : (a b : Bool) → ltb j 16 ≡ a → cond a (cond b (Ok (stamp (given_to st j + 1))) (Err OutOfNumbers)) (Err Malformed) ≡ Ok s → (j < 16) × (s ≡ stamp (given_to st j + 1))
    go true true ea p = (ltb-true j 16 ea, sym (ap stamp_in p))
    go true false ea p = absurd (false≢true (ap (λ (z : Result Stamp Refusal). is_ok z) p))
    go false b ea p = absurd (false≢true (ap (λ (z : Result Stamp Refusal). is_ok z) p))

module _ (n k : ℕ) (w : World) (f : Firm n k (w.house k)) where
  abbrev h : rules.House
  h = w.house k

  -- who may have it handed on, as the relation says it
  entitled : (o by : ℕ) → authorised o by h ≡ true → ((by ≡ k) × T (is_in o h.heap.roots)) ⊎ T (listed_in (rules.census h) o by h.list)
  entitled o by e =
      ⊎_elim (λ z. let y = and_parts (eqb by (rules.self h)) (is_in o h.heap.roots) z in inl (eqb-true by (rules.self h) y.0 ∙ f.self, truth y.1)) (λ z. inr (truth z))
      (or_cases (eqb by (rules.self h) && is_in o h.heap.roots) (listed_in (rules.census h) o by h.list) e)

  -- to the home itself
  tracks_home : (o by j : ℕ) → home o ≡ k → Memᴰ (Ask o by j) (seen n w).net.sent → T (present o h.heap.objects) → authorised o by h ≡ true → j ≡ k → Tracks false n k w (quietly (keep_answer o h.heap) (cond (is_ok (keep_answer o h.heap)) (rooted o h.heap) h.heap) h)
  tracks_home o by j at_home asked there may ej =
      tracks_heap false n k w (keep_answer o h.heap) (rooted o h.heap)
      (λ ok. tracks_house false n k w (rules.with_heap (rooted o h.heap) h) (net.rooted o (house_seen h))
      (Turn.uses (seen n w) (Uses.give_home (seen n w).net k o by f.inside at_home (subst (λ (z : ℕ). Memᴰ (Ask o by z) (seen n w).net.sent) ej asked) there (entitled o by may))) free free free
      (roots_alike h (rules.with_heap (rooted o h.heap) h) (o ∷ h.heap.roots) (same_added o h.heap.roots) refl refl refl refl) refl (part_refl _) refl)

  -- to another house
  tracks_stamped : (o by j : ℕ) → home o ≡ k → Memᴰ (Ask o by j) (seen n w).net.sent → T (present o h.heap.objects) → authorised o by h ≡ true → (j ≡ k → ⊥) → (r : Result Stamp Refusal) → next_for j h.stamps ≡ r → Tracks false n k w (stamped r o j h)
  tracks_stamped o by j at_home asked there may away (Err e) er = tracks_refused false n k w e
  tracks_stamped o by j at_home asked there may away (Ok s) er =
      tracks_unless false n k w (not (belongs (rules.self h) (rules.houses h) o j)) Malformed _
      (λ _ r. arrives n k w new false (l ∷ []) _ (Way.more Way.same (Turn.uses (seen n w) (Uses.give (seen n w).net k o by j f.inside at_home asked there (entitled o by may) away)) free free free)
      (alike_by n k w new (l ∷ [])
      (record { net = net.sends (Give o j (given_to h.stamps j + 1)) (with k (gave o j (house_seen h)) (seen n w).net); part = (seen n w).part; desk = (seen n w).desk; said = (seen n w).said }) r
      (house_put w k new (gave o j (house_seen h)) alike) (made_kept w k new refl) (part_kept w k new (part_refl _)) (w.house 0).desk refl (desk_kept w k new refl)
      (both_one (Give o j (given_to h.stamps j + 1)) (Give o j s.0 ∷ []) (seen n w).net.sent (ap (λ (z : ℕ). Give o j z ∷ []) es)) (both_refl _)))
    where
      l : Letter
      l = letter (message.Give (name o) (house j) s)

      new : rules.House
      new = rules.with_stamps (with_given (w.house k).stamps j (given_to (w.house k).stamps j + 1)) (rules.with_list (entered o j s.0 (rules.census (w.house k)) (w.house k).list) (w.house k))

      es : s.0 ≡ given_to (w.house k).stamps j + 1
      es = ap (λ (z : Stamp). z.0) (next_stamp j (w.house k).stamps s er).1

      alike : AlikeHouse (gave o j (house_seen (w.house k))) (house_seen new)
      alike =
          record {
            roots = λ q. refl;
            objects = objects_refl _;
            list = ap (λ (z : ℕ). entered o j z (rules.census (w.house k)) (w.house k).list) (sym es);
            given = λ q. set_entry (w.house k).stamps.given j (given_to (w.house k).stamps j + 1) q (subst (λ (z : ℕ). j < z) (sym f.given) (next_stamp j (w.house k).stamps s er).0);
            seen = λ q. refl;
            heard = λ q. refl;
            census = refl;
          }

  pub tracks_handed : (o by j : ℕ) → Memᴰ (Ask o by j) (seen n w).net.sent → Tracks false n k w (handed o by j h)
  tracks_handed o by j asked =
      tracks_unless false n k w (not (eqb (home o) (rules.self h))) Misdelivered _ (λ a.
      tracks_unless false n k w (not (present o h.heap.objects)) NotHere _ (λ b.
      tracks_unless false n k w (not (authorised o by h)) NotHolder _ (λ d.
      let at_home = eqb-true (home o) (rules.self h) (not-false (eqb (home o) (rules.self h)) a) ∙ f.self in
      let there = truth (not-false (present o h.heap.objects) b) in
      let may = not-false (authorised o by h) d in
      cond_both (eqb j (rules.self h)) _ (gives o j h) (λ x. Tracks false n k w x)
      (λ e. tracks_home o by j at_home asked there may (eqb-true j (rules.self h) e ∙ f.self))
      (λ e. tracks_unless false n k w (not (fits o j h.list 2048)) NoRoom _ (λ _. tracks_stamped o by j at_home asked there may (λ q. eqb-false j (rules.self h) e (q ∙ sym f.self)) (next_for j h.stamps) refl)))))

module _ (n j : ℕ) (w : World) (f : Firm n j (w.house j)) where
  tracks_took : (o s : ℕ) → Memᴰ (Give o j s) (seen n w).net.sent → seen_from (w.house j).stamps (home o) < s → (r : Result (Unit {0}) Refusal) → take_answer o (w.house j).heap ≡ r → Tracks false n j w (took_it r o s (w.house j))
  tracks_took o s given lt (Err e) er r = tracks_refused false n j w e r
  tracks_took o s given lt (Ok u) er r =
      arrives n j w new false [] _ (Way.more Way.same (Turn.uses (seen n w) (Uses.take (seen n w).net j o s f.inside given lt)) free free free)
      (alike_by n j w new []
      (record { net = with j (took o s (house_seen (w.house j))) (seen n w).net; part = promise.set j (promise.stirring (part_seen (w.house j).part)) (seen n w).part; desk = (seen n w).desk; said = (seen n w).said }) r
      (house_put w j new (took o s (house_seen (w.house j))) alike) (made_kept w j new made) (part_put w j new (promise.stirring (part_seen (w.house j).part)) (part_refl _)) (w.house 0).desk refl (desk_kept w j new refl) (both_refl _) (both_refl _))
    where
      new : rules.House
      new = record { heap = after_take o (w.house j).heap; list = (w.house j).list; stamps = with_seen (w.house j).stamps (home o) s; part = census.stirring (w.house j).part; desk = (w.house j).desk }

      taken : after_take o (w.house j).heap ≡ rooted o (w.house j).heap
      taken = ap (λ (z : Result (Unit {0}) Refusal). cond (is_ok z) (rooted o (w.house j).heap) (w.house j).heap) er

      made : (w.house j).heap.made ≡ new.heap.made
      made = ap (λ (z : Heap). z.made) (sym taken)

      alike : AlikeHouse (took o s (house_seen (w.house j))) (house_seen new)
      alike =
          subst (λ (z : Heap). AlikeHouse (took o s (house_seen (w.house j))) (house_seen (rules.with_heap z new))) (sym taken)
          (record {
            roots = same_added o (w.house j).heap.roots;
            objects = objects_refl _;
            list = refl;
            given = λ q. refl;
            seen = λ q. set_entry (w.house j).stamps.seen (home o) s q (subst (λ (z : ℕ). home o < z) (sym f.seen) (omega arith));
            heard = λ q. refl;
            census = refl;
          })

  pub tracks_takes : (o to s : ℕ) → Memᴰ (Give o to s) (seen n w).net.sent → Tracks false n j w (takes o to s (w.house j))
  tracks_takes o to s given =
      tracks_unless false n j w (not (eqb to (rules.self (w.house j))) || eqb (home o) (rules.self (w.house j))) Misdelivered _ (λ a.
      tracks_unless false n j w (leb s (seen_from (w.house j).stamps (home o))) OldStamp _ (λ b.
      let p = or_parts (not (eqb to (rules.self (w.house j)))) (eqb (home o) (rules.self (w.house j))) a in
      let here = eqb-true to (rules.self (w.house j)) (not-false (eqb to (rules.self (w.house j))) p.0) ∙ f.self in
      tracks_took o s (subst (λ (z : ℕ). Memᴰ (Give o z s) (seen n w).net.sent) here given) (leb-false s (seen_from (w.house j).stamps (home o)) b) (take_answer o (w.house j).heap) refl))
