-- The run of the relation that a list of entries is, entry by entry: so what a run says of its own past, the entries say of theirs.
use Rattle.std.proofs.Common.{◌≡◌, ℕ, zero, suc, ◌+◌, ◌<◌, ◌≤◌, Bool, true, false, cond, not, ◌&&◌, ◌⊎◌, eqb, ltb, List, [], ◌∷◌, ◌++◌, length, get_or, Ok, Err, Result, leb, sym, refl, ap, ◌∙◌, subst, inl, inr, ⊎_elim, append_assoc, arith}
use mathlib.Core.List.Memᴰ
use mathlib.Core.List.{Memᴰ}
use Rattle.std.proofs.lemmas.List.{append-nil}
use Rattle.std.proofs.lemmas.Bool.{and_parts, leb-true, ltb-true, eqb-true, not-false, eq-eqb, lt-ltb}
use Rattle.wire.specs.declared.call.Call.TheVariants as call
use Rattle.wire.specs.declared.message.Message.{Message}
use Rattle.wire.specs.declared.message.Message.TheVariants as message
use Rattle.wire.specs.declared.names.Census.{Census}
use Rattle.wire.specs.declared.names.House.{House}
use Rattle.wire.specs.declared.names.RoundNumber.{RoundNumber}
use Rattle.wire.specs.declared.names.Tally.{Tally}
use Rattle.wire.specs.declared.refusal.Refusal.{Refusal}
use Rattle.wire.specs.declared.refusal.Refusal.TheVariants.{Misdelivered, WrongHouse, OtherCensus, OutOfNumbers}
use Rattle.wire.specs.Format.{decode}
use Rattle.census.specs.Model.{asks}
use Rattle.rounds.specs.Model.{ready, beginning, next, noted, notes, agreed, completes, all_agree}
use Rattle.rules.specs.House as rules
use Rattle.rules.specs.Step.{Outcome, came, begins, noting, rounds, read_as, step, event_of, letter, refused, refuse_if, sends}
use Rattle.promise.specs.Net.{Sweep}
use Rattle.promise.specs.Net as net
use Rattle.promise.specs.Rounds.{Upto, Begins, Ended, Turn, Runs, census_of}
use Rattle.promise.specs.Rounds as promise
use Rattle.promise.proofs.Ends.{rounds_true}
use Rattle.promise.proofs.Called.{turn_news}
use Rattle.play.specs.Play.{World, Entry, calls, delivers, begin, happens, play, plays, written, Reach, start, more}
use Rattle.play.specs.Seen.{msgs_seen, seen}
use Rattle.play.specs.History.{Complete, after, asking, Truly, Found, AlwaysTruly, AlwaysCalled}
use Rattle.play.proofs.Sending.{ReadableSaid, msgs_sent, msg_seen}
use Rattle.play.proofs.Frame.{Deed, MayBegin, MayTell, Way, free}
use Rattle.play.proofs.Rounding.{all_agreed}
use Rattle.play.proofs.Tracking.{Kept, kept, alike_begin, deed_of, deed_told, runs_on, way_play, readable, message_there}

-- the entries of a path, and the world that they lead to
abbrev pub entries : {n : ℕ} {w : World} → Reach n w → List Entry
entries start = []
entries (more r e) = entries r ++ (e ∷ [])

plays_last : (n : ℕ) (es : List Entry) (e : Entry) (w : World) → plays n (es ++ (e ∷ [])) w ≡ play n e (plays n es w)
plays_last n [] e w = refl
plays_last n (x ∷ es) e w = plays_last n es e (play n x w)

pub leads : {n : ℕ} {w : World} (r : Reach n w) → after n (entries r) ≡ w
leads start = refl
leads {n} (more r e) = plays_last n (entries r) e (begin n) ∙ ap (λ (v : World). play n e v) (leads r)

-- every list of entries is a path
reached : (n : ℕ) (es : List Entry) {w : World} → Reach n w → Reach n (plays n es w)
reached n [] r = r
reached n (e ∷ es) r = reached n es (more r e)

reached_by : (n : ℕ) (es : List Entry) {w : World} (r : Reach n w) → entries (reached n es r) ≡ entries r ++ es
unfolding reached
reached_by n [] r = sym (append-nil (entries r))
reached_by n (e ∷ es) r = reached_by n es (more r e) ∙ append_assoc (entries r) (e ∷ []) es

-- the run that a path is
abbrev run_of : {n : ℕ} → n ≤ 16 → {w : World} → Reach n w → Runs n (seen n w)
run_of {n} few start = Runs.then Runs.begun (Turn.alike promise.first (seen n (begin n)) (alike_begin n))
run_of {n} few (more {w = w} r e) = runs_on (run_of few r) (way_play n e w (kept n few r))

may_on : (d : Deed) (P Q : Type 0) → (P → Q) → MayBegin d P → MayBegin d Q
may_on Deed.leaves P Q f p = p
may_on Deed.opens P Q f p = f p
may_on Deed.closes P Q f p = p
may_on Deed.any P Q f p = p

-- where a run began a round, read along the run
abbrev Begun : {n : ℕ} {w : promise.World} → Runs n w → promise.World → Type 0
Begun Runs.begun v = ⊥
Begun (Runs.then {w = w} r t) v = Begun r v ⊎ ((promise.begins t ≡ true) × (w ≡ v))

along : {n : ℕ} {v u : promise.World} {q : Runs n v} {t : Turn n v u} → promise.begins t ≡ true → {w : promise.World} {r : Runs n w} → Upto (Runs.then q t) w r → Begun r v
along e Upto.all = inr (e, refl)
along e (Upto.on z t) = inl (along e z)

-- a round that is begun by then was begun before the way, or as its first step
begun_in : {d : Deed} {b : Bool} {n : ℕ} {w v : promise.World} (r : Runs n w) (l : Way d b n w v) (x : promise.World) → Begun (runs_on r l) x → Begun r x ⊎ MayBegin d (w ≡ x)
unfolding runs_on
begun_in r Way.same x z = inl z
begun_in {d} r (Way.more l t f s c) x z = ⊎_elim (λ y. begun_in r l x y) (λ y. inr (may_on d _ _ (λ p. p ∙ y.1) (f y.0))) z

-- whether the call round of house 0 begins one
abbrev opens : World → Bool
opens u = ready (rules.houses (u.house 0)) (u.house 0).desk && ltb (u.house 0).desk.round 4294967295

not_opened : (i : ℕ) (r : Result Message Refusal) (P : Type 0) → MayBegin (deed_told i r) P → ⊥
not_opened zero (Ok (message.Reply c r from calm t)) P p = p
not_opened (suc i) (Ok (message.Reply c r from calm t)) P p = p
not_opened i (Ok m) P p = p
not_opened i (Err e) P p = p

opens_by : (n : ℕ) (e : Entry) (w : World) (P : Type 0) → MayBegin (deed_of n e w) P → (e ≡ asking) × (opens w ≡ true) × P
opens_by n (calls zero call.Round) w P m = let z = go (opens w) m in (refl, z.0, z.1)
  where
    go : (b : Bool) → MayBegin (cond b Deed.opens Deed.leaves) P → (b ≡ true) × P
    go true p = (refl, p)
    go false p = absurd p
opens_by n (calls (suc i) call.Round) w P m = absurd m
opens_by n (calls i c) w P m = absurd m
opens_by n (delivers i m) w P p = absurd (not_opened i (decode n (get_or w.sent m [])) P p)

-- where the run began a round, the call round of house 0 is among the entries
begun_at : {n : ℕ} (few : n ≤ 16) {w : World} (r : Reach n w) (x : promise.World) → Begun (run_of few r) x →
    (before : List Entry) × (later : List Entry) × (entries r ≡ before ++ (asking ∷ later)) × (seen n (after n before) ≡ x) × (opens (after n before) ≡ true)
begun_at few start x z = ⊎_elim (λ y. absurd y) (λ y. free y.0) z
begun_at {n} few (more {w = w} r e) x z =
    ⊎_elim
    (λ y. let q = begun_at few r x y in (q.0, q.1 ++ (e ∷ []), ap (λ (es : List Entry). es ++ (e ∷ [])) q.2 ∙ append_assoc q.0 (asking ∷ q.1) (e ∷ []), q.3, q.4))
    (λ y. let q = opens_by n e w (seen n w ≡ x) y in
    (entries r, [], ap (λ (d : Entry). entries r ++ (d ∷ [])) q.0, ap (λ (v : World). seen n v) (leads r) ∙ q.2, subst (λ (v : World). opens v ≡ true) (sym (leads r)) q.1))
    (begun_in (run_of few r) (way_play n e w (kept n few r)) x z)

-- then it begins one
rounds_next : (h : rules.House) → asks (rules.self h) ≡ true → (ready (rules.houses h) h.desk && ltb h.desk.round 4294967295) ≡ true → (rounds h).house.desk.round ≡ suc h.desk.round
rounds_next h a o =
    let p = and_parts (ready (rules.houses h) h.desk) (ltb h.desk.round 4294967295) o in
    ap (λ (b : Bool). (refuse_if (not b) WrongHouse h (begins (beginning (rules.houses h) h.desk) h)).house.desk.round) a
    ∙ ap (λ (b : Bool). (begins (cond b (cond (ltb h.desk.round 4294967295) (Ok (h.desk.round + 1)) (Err OutOfNumbers)) (Ok h.desk.round)) h).house.desk.round) p.0
    ∙ ap (λ (b : Bool). (begins (cond b (Ok (h.desk.round + 1)) (Err OutOfNumbers)) h).house.desk.round) p.1
    ∙ ap (λ (b : Bool). (cond b (next h.desk) h.desk).round) o
    ∙ one h.desk.round
  where
    one : (a : ℕ) → a + 1 ≡ suc a
    one a = omega arith

round_begins : (n : ℕ) (u : World) → 0 < n → Kept n u → opens u ≡ true → suc (u.house 0).desk.round ≡ ((play n asking u).house 0).desk.round
round_begins n u some k o =
    sym (ap (λ (b : Bool). ((cond b (happens 0 (event_of call.Round) u) u).house 0).desk.round) (lt-ltb 0 n some) ∙ rounds_next (u.house 0) (eq-eqb (rules.self (u.house 0)) 0 (k.self 0 some)) o)

pub ended_by : (n : ℕ) (w : World) → 0 < n → agreed n (w.house 0).desk ≡ true → Ended n (seen n w).desk
ended_by n w some e =
    let a = and_parts (leb 2 (w.house 0).desk.round) (all_agree n (w.house 0).desk.now (w.house 0).desk.before) e in
    record { somebody = some; second = leb-true 2 (w.house 0).desk.round a.0; same = all_agreed n (w.house 0).desk.now (w.house 0).desk.before a.1 }

pub truly_by : {n : ℕ} → 0 < n → n ≤ 16 → {w : World} (r : Reach n w) → agreed n (w.house 0).desk ≡ true → Truly n (entries r)
truly_by {n} some few {w} r e =
    record {
      before = before;
      later = q.1;
      played = q.2;
      same_census = ap (λ (x : promise.World). census_of x 0) q.3 ∙ z.2 ∙ ap (λ (v : World). rules.census (v.house 0)) back;
      begun = rises;
      still = sym rises ∙ ap (λ (x : promise.World). suc x.desk.round) q.3 ∙ z.3 ∙ ap (λ (v : World). (v.house 0).desk.round) back;
      complete = subst (λ (v : World). Complete n (rules.census (v.house 0)) (after n before)) back (subst (λ (x : promise.World). net.Complete n (rules.census (w.house 0)) x.net) (sym q.3) z.4);
    }
  where
    z : (v : promise.World) × Begins (run_of few r) v × (census_of v 0 ≡ rules.census (w.house 0)) × (suc v.desk.round ≡ (w.house 0).desk.round) × net.Complete n (rules.census (w.house 0)) v.net
    z = rounds_true n few (seen n w) (run_of few r) (ended_by n w some e)

    q : (before : List Entry) × (later : List Entry) × (entries r ≡ before ++ (asking ∷ later)) × (seen n (after n before) ≡ z.0) × (opens (after n before) ≡ true)
    q = begun_at few r z.0 (along z.1.3 z.1.4)

    before : List Entry
    before = q.0

    back : w ≡ after n (entries r)
    back = sym (leads r)

    rises : suc ((after n before).house 0).desk.round ≡ ((after n (before ++ (asking ∷ []))).house 0).desk.round
    rises =
        round_begins n (after n before) some (kept n few (reached n before start)) q.4
        ∙ ap (λ (v : World). (v.house 0).desk.round) (sym (plays_last n before asking (begin n)))

pub always_truly : AlwaysTruly
always_truly n some few es e = subst (λ (fs : List Entry). Truly n fs) (reached_by n es start) (truly_by some few (reached n es start) e)

-- news that is there after a way was there before, or the way may tell it
way_news : {d : Deed} {b : Bool} {n : ℕ} {w v : promise.World} → Way d b n w v → (c : ℕ) → Memᴰ (Sweep c) v.net.sent → Memᴰ (Sweep c) w.net.sent ⊎ MayTell d
way_news Way.same c m = inl m
way_news (Way.more l t f s g) c m = ⊎_elim (λ y. way_news l c y) (λ y. inr (s y.0)) (turn_news t c m)

-- the delivery of an answer to a round to house 0
abbrev Answers : ℕ → Entry → World → Type 0
Answers n e w =
    (m : ℕ) × (c : Census) × (r : RoundNumber) × (from : House) × (calm : Bool) × (t : Tally) × (e ≡ delivers 0 m) × (decode n (get_or w.sent m []) ≡ Ok (message.Reply c r from calm t))

closes_by : (n : ℕ) (e : Entry) (w : World) → MayTell (deed_of n e w) → Answers n e w
closes_by n (calls zero call.Round) w p = absurd (go (opens w) p)
  where
    go : (b : Bool) → MayTell (cond b Deed.opens Deed.leaves) → ⊥
    go true x = x
    go false x = x
closes_by n (calls (suc i) call.Round) w p = absurd p
closes_by n (calls i c) w p = absurd p
closes_by n (delivers i m) w p = go i (decode n (get_or w.sent m [])) refl p
  where
    go : (i : ℕ) (r : Result Message Refusal) → decode n (get_or w.sent m []) ≡ r → MayTell (deed_told i r) → Answers n (delivers i m) w
    go zero (Ok (message.Reply c r from calm t)) e x = (m, c, r, from, calm, t, refl, e)
    go (suc i) (Ok (message.Reply c r from calm t)) e x = absurd x
    go i (Ok y) e x = absurd x
    go i (Err y) e x = absurd x

-- after an outcome at house 0 the news was there before, or two rounds agree
abbrev News : ℕ → ℕ → World → Outcome → Type 0
News n c w x =
    ReadableSaid n x.answer → Memᴰ (Sweep c) (msgs_seen n (w.sent ++ written x.answer)) → Memᴰ (Sweep c) (msgs_seen n w.sent) ⊎ ((rules.census x.house ≡ c) × (agreed n x.house.desk ≡ true))

module _ (n c : ℕ) (w : World) where
  news_old : (x : Outcome) → written x.answer ≡ [] → News n c w x
  news_old x e r m = inl (subst (λ (bss : List (List ℕ)). Memᴰ (Sweep c) (msgs_seen n bss)) (append-nil w.sent) (subst (λ (bss : List (List ℕ)). Memᴰ (Sweep c) (msgs_seen n (w.sent ++ bss))) e m))

  news_unless : (t : Bool) (e : Refusal) (h : rules.House) (x : Outcome) → (t ≡ false → News n c w x) → News n c w (refuse_if t e h x)
  news_unless true e h x f = news_old (refused e h) refl
  news_unless false e h x f = f refl

  news_noting : (h : rules.House) → rules.houses h ≡ n → (d r i : ℕ) (calm : Bool) (t : ℕ) → News n c w (noting d r i calm t h)
  news_noting h en d r i calm t =
      news_unless (not (asks (rules.self h))) Misdelivered h _ (λ _.
      news_unless (not (eqb d (rules.census h))) OtherCensus h _ (λ a. go (completes (rules.houses h) r i calm t h.desk) refl (eqb-true d (rules.census h) (not-false (eqb d (rules.census h)) a))))
    where
      new : rules.House
      new = rules.with_desk (noted r i calm t h.desk) h

      same : (a b : ℕ) → Sweep a ≡ Sweep b → b ≡ a
      same a b q = cc

      go : (b : Bool) → completes (rules.houses h) r i calm t h.desk ≡ b → d ≡ rules.census h → News n c w (sends (cond b (letter (message.Complete (record { 0 = d })) ∷ []) []) (rules.with_desk (noted r i calm t h.desk) h))
      go false e own = λ read m. news_old (sends [] new) refl read m
      go true e own = λ read m.
          ⊎_elim
          (λ y. inr (sym own ∙ same c d y, subst (λ (k : ℕ). agreed k (noted r i calm t h.desk) ≡ true) en (and_parts (notes r i h.desk) (agreed (rules.houses h) (noted r i calm t h.desk)) e).1))
          (λ y. inl y)
          (Memᴰ.cases_cons ((msgs_sent n w.sent (letter (message.Complete (record { 0 = d })) ∷ []) read (Sweep c)).0 m))

-- so after an answer that came
module _ (n c : ℕ) (w : World) (some : 0 < n) (k : Kept n w) where
  abbrev NewsAfter : World → Type 0
  NewsAfter v = Memᴰ (Sweep c) (msgs_seen n v.sent) → Memᴰ (Sweep c) (msgs_seen n w.sent) ⊎ ((rules.census (v.house 0) ≡ c) × (agreed n (v.house 0).desk ≡ true))

  answer_news : (e : Entry) → Answers n e w → NewsAfter (play n e w)
  answer_news e a = subst (λ (d : Entry). NewsAfter (play n d w)) (sym a.6) (go (ltb 0 n && ltb a.0 (length w.sent)) refl)
    where
      bs : List ℕ
      bs = get_or w.sent a.0 []

      is : step (w.house 0) (came (get_or w.sent a.0 [])) ≡ noting a.1.0 a.2.0 a.3.0 a.4 a.5.0 (w.house 0)
      is = ap (λ (z : ℕ). read_as (decode z bs) bs (w.house 0)) (k.houses 0 some) ∙ ap (λ (z : Result Message Refusal). read_as z bs (w.house 0)) a.7

      go : (b : Bool) → (ltb 0 n && ltb a.0 (length w.sent)) ≡ b → NewsAfter (cond b (happens 0 (came (get_or w.sent a.0 [])) w) w)
      go true e m =
          let lt = ltb-true a.0 (length w.sent) (and_parts (ltb 0 n) (ltb a.0 (length w.sent)) e).1 in
          subst (λ (x : Outcome). News n c w x) (sym is) (news_noting n c w (w.house 0) (k.houses 0 some) a.1.0 a.2.0 a.3.0 a.4 a.5.0)
          (readable n 0 w k some (came bs) (k.bytes bs (message_there w.sent a.0 lt)) (step (w.house 0) (came bs)).answer refl) m
      go false e m = inl m

-- Wherever the news is, it was found so after some of the entries.
pub found_by : {n : ℕ} → 0 < n → n ≤ 16 → {w : World} (r : Reach n w) (c : ℕ) → Memᴰ (Sweep c) (msgs_seen n w.sent) → Found n c (entries r)
found_by some few start c m = absurd (Memᴰ.not-nil m)
found_by {n} some few (more {w = w} r e) c m =
    ⊎_elim (λ y. before (found_by some few r c y))
    (λ y. ⊎_elim (λ z. before (found_by some few r c z)) (λ z. now z) (answer_news n c w some (kept n few r) e (closes_by n e w y) m))
    (way_news (way_play n e w (kept n few r)) c m)
  where
    before : Found n c (entries r) → Found n c (entries r ++ (e ∷ []))
    before f =
        record { first = f.first; later = f.later ++ (e ∷ []); played = ap (λ (es : List Entry). es ++ (e ∷ [])) f.played ∙ append_assoc f.first f.later (e ∷ []); of_census = f.of_census; agree = f.agree; truly = f.truly }

    now : (rules.census ((play n e w).house 0) ≡ c) × (agreed n ((play n e w).house 0).desk ≡ true) → Found n c (entries r ++ (e ∷ []))
    now y =
        let back = sym (leads (more r e)) in
        record {
          first = entries r ++ (e ∷ []);
          later = [];
          played = sym (append-nil (entries r ++ (e ∷ [])));
          of_census = subst (λ (v : World). rules.census (v.house 0) ≡ c) back y.0;
          agree = subst (λ (v : World). agreed n (v.house 0).desk ≡ true) back y.1;
          truly = truly_by some few (more r e) y.1;
        }

pub always_called : AlwaysCalled
always_called n some few es c bs m d =
    let w = after n es in
    subst (λ (fs : List Entry). Found n c fs) (reached_by n es start)
    (found_by some few (reached n es start) c (msg_seen n w.sent bs (message.Complete (record { 0 = c })) (Sweep c) m d (Memᴰ.head refl)))
