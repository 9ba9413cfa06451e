-- The promise over every play, from the promise over every run of the relation.
use Rattle.std.proofs.Common.{◌≡◌, ℕ, ◌+◌, ◌*◌, ◌/◌, ◌<◌, ◌≤◌, Bool, true, not, ◌&&◌, ◌||◌, eqb, ltb, leb, List, [], ◌∷◌, length, is_ok, Ok, Err, Result, sym, refl, ap, ◌∙◌, subst, inl, inr, ⊎_elim, arith}
use mathlib.Core.List.Memᴰ
use mathlib.Core.List.{Memᴰ}
use Rattle.std.proofs.lemmas.Bool.{or_parts, leb-false}
use Rattle.wire.specs.declared.message.Message.{Message}
use Rattle.wire.specs.declared.message.Message.TheVariants as message
use Rattle.wire.specs.declared.refusal.Refusal.{Refusal}
use Rattle.wire.specs.Names.{home, house, name}
use Rattle.wire.specs.declared.names.Name.{Name}
use Rattle.wire.specs.declared.refusal.Refusal.TheVariants.{Malformed, NoRoom, OutOfNumbers}
use Rattle.tables.specs.Model.{Heap}
use Rattle.objects.specs.Calls.{make_answer, roomy}
use Rattle.rules.specs.House.{House}
use Rattle.rules.specs.Step.{make, quietly, step}
use Rattle.wire.specs.Format.{decode}
use Rattle.lines.specs.Stamping.{stamp}
use Rattle.promise.specs.Net.{Msg, Give}
use Rattle.promise.specs.Net as net
use Rattle.promise.specs.Promise as relation
use Rattle.promise.specs.Rounds.{Ended, census_of, Runs}
use Rattle.promise.specs.Rounds as promise
use Rattle.promise.proofs.Ends.{rounds_main, rounds_still}
use Rattle.promise.proofs.Others.{rounds_stays, rounds_found, rounds_stamps, rounds_fresh, rounds_nothing}
use Rattle.promise.proofs.Later.{turn_later}
use Rattle.play.specs.Play.{World, Entry, play, cleaning, Reach}
use Rattle.play.specs.Seen.{msg_in, msgs_seen, seen}
use Rattle.play.specs.Promise.{Has, There, SameMatters, Safe, AlwaysSafe}
use Rattle.play.proofs.Sending.{msg_seen}
use Rattle.play.proofs.Frame.{Deed, Way, passed}
use Rattle.play.proofs.Programs.{truth}
use Rattle.play.proofs.Cleaning.{untruth}
use Rattle.play.proofs.Tracking.{Kept, kept, deed_of, way_play, runs_on}
use Rattle.play.proofs.History.{entries, leads, ended_by, truly_by, found_by}

-- what matters to the relation, and what matters
pub has_seen : (n : ℕ) (w : World) {j o : ℕ} → Has n w j o → relation.Has (seen n w).net j o
has_seen n w (Has.root m) = relation.Has.root (truth m)
has_seen n w (Has.coming {j = j} {o = o} s bs m d lt) = relation.Has.coming (msg_seen n w.sent bs (message.Give (name o) (house j) (stamp s)) (Give o j s) m d (Memᴰ.head refl)) lt
has_seen n w (Has.field h p m) = relation.Has.field (has_seen n w h) (truth p) (truth m)

abbrev IsGive : Msg → Type 0
IsGive (net.Ask o i j) = ⊥
IsGive (Give o j s) = Unit {0}
IsGive (net.Word j k held upto) = ⊥
IsGive (net.Mark c o i) = ⊥
IsGive (net.Sweep c) = ⊥

-- the give that is seen is one of the messages that were sent
give_of_sent : (n : ℕ) (o j s : ℕ) (bss : List (List ℕ)) → Memᴰ (Give o j s) (msgs_seen n bss) → (bs : List ℕ) × Memᴰ bs bss × (decode n bs ≡ Ok (message.Give (name o) (house j) (stamp s)))
give_of_sent n o j s [] m = absurd (Memᴰ.not-nil m)
give_of_sent n o j s (b ∷ bss) m = ⊎_elim (λ z. (b, Memᴰ.head refl, here (decode n b) refl z)) (λ z. let r = give_of_sent n o j s bss z in (r.0, Memᴰ.tail r.1, r.2)) (Memᴰ.append_cases (msg_in (decode n b) b) m)
  where
    only : (x y : Msg) → Memᴰ x (y ∷ []) → x ≡ y
    only x y z = ⊎_elim (λ e. e) (λ e. absurd (Memᴰ.not-nil e)) (Memᴰ.cases_cons z)

    same : (o1 j1 s1 o2 j2 s2 : ℕ) → Give o1 j1 s1 ≡ Give o2 j2 s2 → (o1 ≡ o2) × (j1 ≡ j2) × (s1 ≡ s2)
    same o1 j1 s1 o2 j2 s2 e = (cc, cc, cc)

    here : (r : Result Message Refusal) → decode n b ≡ r → Memᴰ (Give o j s) (msg_in r b) → decode n b ≡ Ok (message.Give (name o) (house j) (stamp s))
    here (Err e) d z = absurd (Memᴰ.not-nil z)
    here (Ok (message.Ask x by to)) d z = absurd (subst IsGive (only (Give o j s) (net.Ask x.0 by.0 to.0) z) tt)
    here (Ok (message.Give x to t)) d z =
        let e = same o j s x.0 to.0 t.0 (only (Give o j s) (Give x.0 to.0 t.0) z) in
        d ∙ ap (λ (q : ℕ). Ok (message.Give (name q) to t)) (sym e.0) ∙ ap (λ (q : ℕ). Ok (message.Give (name o) (house q) t)) (sym e.1) ∙ ap (λ (q : ℕ). Ok (message.Give (name o) (house j) (stamp q))) (sym e.2)
    here (Ok (message.Word from to t p)) d z = absurd (subst IsGive (only (Give o j s) (net.Word from.0 to.0 _ t.0) z) tt)
    here (Ok (message.Telling c x from)) d z = absurd (subst IsGive (only (Give o j s) (net.Mark c.0 x.0 from.0) z) tt)
    here (Ok (message.Answer c x from)) d z = absurd (Memᴰ.not-nil z)
    here (Ok (message.Round c r)) d z = absurd (Memᴰ.not-nil z)
    here (Ok (message.Reply c r from calm t)) d z = absurd (Memᴰ.not-nil z)
    here (Ok (message.Complete c)) d z = absurd (subst IsGive (only (Give o j s) (net.Sweep c.0) z) tt)

pub has_back : (n : ℕ) (w : World) {j o : ℕ} → relation.Has (seen n w).net j o → Has n w j o
has_back n w (relation.Has.root m) = Has.root (untruth m)
has_back n w (relation.Has.coming {j = j} {o = o} {s = s} m lt) = let z = give_of_sent n o j s w.sent m in Has.coming s z.0 z.1 z.2 lt
has_back n w (relation.Has.field h p m) = Has.field (has_back n w h) (untruth p) (untruth m)

-- a census never falls, so between two moments in the same census there is no other
way_later : {d : Deed} {b : Bool} {n : ℕ} {w v : promise.World} → Runs n w → Way d b n w v → (i : ℕ) → census_of w i ≤ census_of v i
way_later r Way.same i = omega arith
way_later r (Way.more l t _ _ c) i = both (way_later r l i) (turn_later (runs_on r l) t i)
  where
    both : {x y z : ℕ} → x ≤ y → y ≤ z → x ≤ z
    both p q = omega arith

way_stays : {d : Deed} {b : Bool} {n : ℕ} (c : ℕ) {w v : promise.World} → n ≤ 16 → Runs n w → net.Complete n c w.net → Way d b n w v → ((i : ℕ) → i < n → census_of v i ≡ c) → net.Complete n c v.net
way_stays c few r k Way.same all = k
way_stays {n = n} c few r k (Way.more {v = v} {u = u} l t _ _ g) all = rounds_stays n c few v u (runs_on r l) (way_stays c few r k l middle) t all
  where
    level : {x y z : ℕ} → x ≡ c → x ≤ y → y ≤ z → z ≡ c → y ≡ c
    level p q s e = omega arith

    middle : (i : ℕ) → i < n → census_of v i ≡ c
    middle i lt = level (k.all i lt) (way_later r l i) (turn_later (runs_on r l) t i) (all i lt)

-- along the collector's steps the same references matter
pub way_nothing : {d : Deed} {n : ℕ} {w v : promise.World} → n ≤ 16 → Runs n w → Way d true n w v → (j o : ℕ) → (relation.Has w.net j o → relation.Has v.net j o) × (relation.Has v.net j o → relation.Has w.net j o)
way_nothing few r Way.same j o = (λ h. h, λ h. h)
way_nothing {n = n} few r (Way.more {v = v} {u = u} l t _ _ g) j o =
    let a = way_nothing few r l j o in
    let b = rounds_nothing n few v u (runs_on r l) t (g refl) j o in
    (λ h. b.0 (a.0 h), λ h. a.1 (b.1 h))

pub same_matters : (n : ℕ) (w : World) → Kept n w → (e : Entry) → cleaning n e w ≡ true → SameMatters n w (play n e w)
same_matters n w k e c j o =
    let z = way_nothing k.few k.runs (subst (λ (b : Bool). Way (deed_of n e w) b n (seen n w) (seen n (play n e w))) c (way_play n e w k)) j o in
    (λ h. has_back n (play n e w) (z.0 (has_seen n w h)), λ h. has_back n w (z.1 (has_seen n (play n e w) h)))

not_refused : (r : Result Name Refusal) (x : Heap) (h : House) → is_ok (quietly r x h).answer ≡ true → is_ok r ≡ true
not_refused (Ok a) x h e = refl
not_refused (Err a) x h e = e

-- a number that is made is above all that were
above_made : (k : ℕ) (h : House) → is_ok (step h (make k)).answer ≡ true → h.heap.made < k
above_made k h e =
    let ok = not_refused (make_answer k h.heap) _ h e in
    let a = passed (eqb k 0) Malformed _ ok in
    let b = passed (not (ltb (length h.heap.objects) 1024 && roomy h.heap)) NoRoom _ a.1 in
    let d = passed (leb k h.heap.made || ltb 4294967295 (k * 16 + h.heap.home)) OutOfNumbers _ b.1 in
    leb-false k h.heap.made (or_parts (leb k h.heap.made) (ltb 4294967295 (k * 16 + h.heap.home)) d.0).0

new_name : (w : World) (i k : ℕ) → i < 16 → (w.house i).heap.made < k → (k * 16 + i) / 16 ≤ (w.house (home (k * 16 + i))).heap.made → ⊥
new_name w i k small above below = let e : home (k * 16 + i) ≡ i = omega arith in let z = ap (λ (j : ℕ). (w.house j).heap.made) e in omega arith

-- the promise of every world that is kept
pub has_there : (n : ℕ) (w : World) → Kept n w → (j o : ℕ) → Has n w j o → There w j o
has_there n w k j o h =
    let z = rounds_main n k.few (seen n w) k.runs j o (has_seen n w h) in
    record { present_at_home = untruth z.present_at_home; known = ⊎_elim (λ e. inl e) (λ e. inr (untruth e)) z.known }

safe : (n : ℕ) (w : World) → 0 < n → Reach n w → Kept n w → Safe n w
safe n w some r k =
    record {
      there = has_there n w k;
      sound = k.sound;
      stamps = λ j i. rounds_stamps n k.few (seen n w) k.runs j i;
      fresh = λ o a. (rounds_fresh n k.few (seen n w) k.runs).0 o a;
      new = λ i num lt e a. new_name w i num (small lt k.few) (above_made num (w.house i) e) ((rounds_fresh n k.few (seen n w) k.runs).0 (num * 16 + i) a);
      once = λ i o e. (rounds_fresh n k.few (seen n w) k.runs).1 i o (truth e);
      truly = λ e. (entries r, leads r, truly_by some k.few r e);
      called = λ c bs m d. (entries r, leads r, found_by some k.few r c (msg_seen n w.sent bs (message.Complete (record { 0 = c })) (net.Sweep c) m d (Memᴰ.head refl)));
      still = λ e all. rounds_still n k.few (seen n w) k.runs (ended_by n w some e) all;
      found = λ c m j o h. ⊎_elim (λ e. inl e) (λ e. inr (untruth e)) (rounds_found n c k.few (seen n w) k.runs m j o (has_seen n w h));
      stays = λ c m e all. way_stays c k.few k.runs m (way_play n e w k) all;
      nothing = λ e c. same_matters n w k e c;
    }
  where
    small : {a b c : ℕ} → a < b → b ≤ c → a < c
    small p q = omega arith

pub always_safe : AlwaysSafe
always_safe n some few w r = safe n w some r (kept n few r)
