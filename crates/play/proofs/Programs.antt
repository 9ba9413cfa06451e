-- The calls of programs are steps of the relation.
use Rattle.std.proofs.Common.{◌≡◌, ℕ, ◌+◌, ◌*◌, ◌/◌, ◌<◌, ◌≤◌, Bool, true, false, not, ◌&&◌, ◌||◌, T, eqb, ltb, leb, List, [], ◌∷◌, ◌++◌, length, sym, refl, ap, subst, ⊎_elim, arith}
use Rattle.std.proofs.lemmas.Bool.{and_parts, or_parts, not-false, leb-false, cases_Bool}
use Rattle.wire.specs.Names.{home, name, house}
use Rattle.wire.specs.declared.refusal.Refusal.TheVariants.{Malformed, NotRoot, NoField, NoRoom, OutOfNumbers}
use Rattle.wire.specs.declared.message.Message.TheVariants as message
use Rattle.tables.specs.Model.{is_in, present, fields_of, changed, without, without_first, bare}
use Rattle.objects.specs.Calls.{make_answer, made_new, link_answer, linked_to, unlink_answer, unlinked_from, load_answer, drop_answer, unrooted, malformed, held, roomy}
use Rattle.objects.specs.Calls as objects
use Rattle.rules.specs.House as rules
use Rattle.rules.specs.Step.{letter, step, make, link, unlink, load, drop, ask}
use Rattle.promise.specs.Net.{Ask, Uses, with, rooted, with_objects, at}
use Rattle.promise.specs.Net as net
use Rattle.promise.specs.Alike.{SameNames, AlikeObjects, AlikeHouse}
use Rattle.promise.specs.Rounds.{Turn}
use Rattle.play.specs.Play.{World}
use Rattle.play.specs.Seen.{house_seen, seen}
use Rattle.play.proofs.Sending.{both_refl}
use Rattle.play.proofs.Firm.{Firm}
use Rattle.play.proofs.Frame.{Way, free, Tracks, tracks_unless, tracks_house, tracks_heap, tracks_send, passed, arrives, alike_by, house_put, objects_refl, part_kept, part_refl, made_put, desk_kept}
use Rattle.play.proofs.Likeness.{same_added, same_last, alike_changed, alike_last}

pub truth : {b : Bool} → b ≡ true → T b
truth e = subst T (sym e) tt

-- a house with other roots
pub roots_alike : (g h : rules.House) (xs : List ℕ) → SameNames xs h.heap.roots → g.heap.objects ≡ h.heap.objects → g.list ≡ h.list → g.stamps ≡ h.stamps → g.part ≡ h.part →
    AlikeHouse (record { roots = xs; objects = g.heap.objects; list = g.list; given = (house_seen g).given; seen = (house_seen g).seen; heard = (house_seen g).heard; census = g.part.census }) (house_seen h)
roots_alike g h xs s eo el es ep =
    record {
      roots = s;
      objects = subst (λ (z : List _). AlikeObjects g.heap.objects z) eo (objects_refl _);
      list = el;
      given = λ j. ap (λ z. Rattle.lines.specs.Stamping.given_to z j) es;
      seen = λ j. ap (λ z. Rattle.lines.specs.Stamping.seen_from z j) es;
      heard = λ j. ap (λ z. Rattle.lines.specs.Stamping.heard_from z j) es;
      census = ap (λ z. z.census) ep;
    }

-- a house with other objects
objects_alike : (g h : rules.House) (xs : List _) → AlikeObjects xs h.heap.objects → g.heap.roots ≡ h.heap.roots → g.list ≡ h.list → g.stamps ≡ h.stamps → g.part ≡ h.part → AlikeHouse (with_objects xs (house_seen g)) (house_seen h)
objects_alike g h xs a er el es ep =
    record {
      roots = λ o. ap (λ (z : List ℕ). is_in o z) er;
      objects = a;
      list = el;
      given = λ j. ap (λ z. Rattle.lines.specs.Stamping.given_to z j) es;
      seen = λ j. ap (λ z. Rattle.lines.specs.Stamping.seen_from z j) es;
      heard = λ j. ap (λ z. Rattle.lines.specs.Stamping.heard_from z j) es;
      census = ap (λ z. z.census) ep;
    }

module _ (n i : ℕ) (w : World) (f : Firm n i (w.house i)) where
  abbrev h : rules.House
  h = w.house i

  -- a root that is present here is of here
  held_here : (o : ℕ) → held o h.heap ≡ true → (home o ≡ i) × T (is_in o h.heap.roots)
  held_here o e = let z = and_parts (is_in o h.heap.roots) (present o h.heap.objects) e in (f.own o z.1, truth z.0)

  pub tracks_link : (o p : ℕ) → Tracks false n i w (step h (link o p))
  tracks_link o p =
      tracks_heap false n i w (link_answer o p h.heap) (linked_to o p h.heap)
      (λ ok.
      let a = passed (malformed o h.heap || malformed p h.heap) Malformed _ ok in
      let b = passed (not (held o h.heap && is_in p h.heap.roots)) NotRoot _ a.1 in
      let q = and_parts (held o h.heap) (is_in p h.heap.roots) (not-false (held o h.heap && is_in p h.heap.roots) b.0) in
      let o-here = held_here o q.0 in
      tracks_house false n i w (rules.with_heap (linked_to o p h.heap) h) (with_objects (changed o (p ∷ fields_of o h.heap.objects) h.heap.objects) (house_seen h))
      (Turn.uses (seen n w) (Uses.link (seen n w).net i o p f.inside o-here.0 o-here.1 (truth q.1))) free free free
      (objects_alike h (rules.with_heap (linked_to o p h.heap) h) _ (alike_changed o (p ∷ fields_of o h.heap.objects) (fields_of o h.heap.objects ++ p ∷ []) h.heap.objects (same_last p (fields_of o h.heap.objects))) refl refl refl refl) refl (part_refl _) refl)

  pub tracks_unlink : (o p : ℕ) → Tracks false n i w (step h (unlink o p))
  tracks_unlink o p =
      tracks_heap false n i w (unlink_answer o p h.heap) (unlinked_from o p h.heap)
      (λ ok.
      let a = passed (malformed o h.heap || malformed p h.heap) Malformed _ ok in
      let b = passed (not (held o h.heap)) NotRoot _ a.1 in
      let o-here = held_here o (not-false (held o h.heap) b.0) in
      tracks_house false n i w (rules.with_heap (unlinked_from o p h.heap) h) (with_objects (changed o (without_first p (fields_of o h.heap.objects)) h.heap.objects) (house_seen h))
      (Turn.uses (seen n w) (Uses.unlink (seen n w).net i o p f.inside o-here.0 o-here.1)) free free free
      (objects_alike h (rules.with_heap (unlinked_from o p h.heap) h) _ (objects_refl _) refl refl refl refl) refl (part_refl _) refl)

  pub tracks_load : (o p : ℕ) → Tracks false n i w (step h (load o p))
  tracks_load o p =
      tracks_heap false n i w (load_answer o p h.heap) (objects.rooted p h.heap)
      (λ ok.
      let a = passed (malformed o h.heap || malformed p h.heap) Malformed _ ok in
      let b = passed (not (held o h.heap)) NotRoot _ a.1 in
      let d = passed (not (is_in p (fields_of o h.heap.objects))) NoField _ b.1 in
      let o-here = held_here o (not-false (held o h.heap) b.0) in
      tracks_house false n i w (rules.with_heap (objects.rooted p h.heap) h) (rooted p (house_seen h))
      (Turn.uses (seen n w) (Uses.load (seen n w).net i o p f.inside o-here.0 o-here.1 (truth (not-false (is_in p (fields_of o h.heap.objects)) d.0)))) free free free
      (roots_alike h (rules.with_heap (objects.rooted p h.heap) h) (p ∷ h.heap.roots) (same_added p h.heap.roots) refl refl refl refl) refl (part_refl _) refl)

  pub tracks_drop : (o : ℕ) → Tracks false n i w (step h (drop o))
  tracks_drop o =
      tracks_heap false n i w (drop_answer o h.heap) (unrooted o h.heap)
      (λ ok.
      tracks_house false n i w (rules.with_heap (unrooted o h.heap) h) (net.unrooted o (house_seen h)) (Turn.uses (seen n w) (Uses.drop (seen n w).net i o f.inside)) free free free
      (roots_alike h (rules.with_heap (unrooted o h.heap) h) (without o h.heap.roots) (λ q. refl) refl refl refl refl) refl (part_refl _) refl)

  pub tracks_make : (k : ℕ) → Tracks false n i w (step h (make k))
  tracks_make k =
      tracks_heap false n i w (make_answer k h.heap) (made_new k h.heap)
      (λ ok r.
      let a = passed (eqb k 0) Malformed _ ok in
      let b = passed (not (ltb (length h.heap.objects) 1024 && roomy h.heap)) NoRoom _ a.1 in
      let d = passed (leb k h.heap.made || ltb 4294967295 (k * 16 + h.heap.home)) OutOfNumbers _ b.1 in
      let more = leb-false k h.heap.made (or_parts (leb k h.heap.made) (ltb 4294967295 (k * 16 + h.heap.home)) d.0).0 in
      arrives n i w new false [] _ (Way.more Way.same (Turn.uses (seen n w) (Uses.make (seen n w).net i k f.inside (small f.inside f.few) more)) free free free)
      (alike_by n i w new []
      (record { net = record { house = net.put i (net.made (k * 16 + i) (house_seen h)) (seen n w).net.house; sent = (seen n w).net.sent; made = at i k (seen n w).net.made }; part = (seen n w).part; desk = (seen n w).desk; said = (seen n w).said }) r
      (house_put w i new (net.made (k * 16 + i) (house_seen h)) (alike more)) (made_put w i new k refl) (part_kept w i new (part_refl _)) (w.house 0).desk refl (desk_kept w i new refl) (both_refl _) (both_refl _)))
    where
      new : rules.House
      new = rules.with_heap (made_new k (w.house i).heap) (w.house i)

      small : {a b c : ℕ} → a < b → b ≤ c → a < c
      small p q = omega arith

      fresh : ((w.house i).heap.made < k) → present (k * 16 + (w.house i).heap.home) (w.house i).heap.objects ≡ false
      fresh more = ⊎_elim (λ t. absurd (no_more _ _ more (f.upto (k * 16 + (w.house i).heap.home) t))) (λ t. t) (cases_Bool (present (k * 16 + (w.house i).heap.home) (w.house i).heap.objects))
        where
          no_more : (a b : ℕ) → b < k → (k * 16 + a) / 16 ≤ b → ⊥
          no_more a b p q = omega arith

      alike : (w.house i).heap.made < k → AlikeHouse (net.made (k * 16 + i) (house_seen (w.house i))) (house_seen new)
      alike more =
          subst (λ (o : ℕ). AlikeHouse (net.made o (house_seen (w.house i))) (house_seen new)) (ap (λ (z : ℕ). k * 16 + z) f.self)
          (record {
            roots = same_added (k * 16 + (w.house i).heap.home) (w.house i).heap.roots;
            objects = alike_last (bare (k * 16 + (w.house i).heap.home)) (w.house i).heap.objects (fresh more);
            list = refl;
            given = λ j. refl;
            seen = λ j. refl;
            heard = λ j. refl;
            census = refl;
          })

  pub tracks_ask : (o j : ℕ) → Tracks false n i w (step h (ask o j))
  tracks_ask o j =
      tracks_unless false n i w (malformed o h.heap || leb (rules.houses h) j) Malformed _
      (λ a. tracks_unless false n i w (not (is_in o h.heap.roots)) NotRoot _
      (λ b. tracks_send false n i w (letter (message.Ask (name o) (house (rules.self h)) (house j))) (Ask o i j) (ap (λ (z : ℕ). Ask o z j ∷ []) f.self) refl
      (Turn.uses (seen n w) (Uses.ask (seen n w).net i o j f.inside (subst (λ (z : ℕ). j < z) f.houses (leb-false (rules.houses h) j (or_parts (malformed o h.heap) (leb (rules.houses h) j) a).1)) (truth (not-false (is_in o h.heap.roots) b)))) free free free))
