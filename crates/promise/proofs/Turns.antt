-- What holds in the world of every run: what was said, the parts, and the rounds of house 0.
use Rattle.std.proofs.Common.{◌≡◌, ℕ, zero, suc, ◌<◌, ◌≤◌, Bool, true, T, ◌⊎◌, sym, refl, ap, ◌∙◌, subst, inl, inr, ⊎_elim, le_trans, lt_of_le_of_lt, not-le_of_lt, arith}
use mathlib.Core.List.{Memᴰ}
use Rattle.tables.specs.Model.{is_in}
use Rattle.promise.specs.Net.{Mark, Complete}
use Rattle.promise.specs.Rounds.{Part, some, Desk, Note, Answer, Round, Reply, World, census_of, Turn, Runs, Upto, Begins}
use Rattle.promise.proofs.Base.{same?}
use Rattle.promise.proofs.Inv.{view, MarkOk, Inv, Names}
use Rattle.promise.proofs.Effect.{Fixed, Quiet, Effect, Meets, fixed_keeps, quiet_keeps}

-- the notes
pub record RoundOk (houses : ℕ) (w : World) (c r : ℕ) : Type 0 where
  pub low : c ≤ census_of w 0
  pub upto : c ≡ census_of w 0 → r ≤ w.desk.round
  pub all : 2 ≤ r → (i : ℕ) → i < houses → c ≤ census_of w i
  pub one : 1 ≤ r

pub record ReplyOk (houses : ℕ) (w : World) (c r i t : ℕ) : Type 0 where
  pub asked : Memᴰ (Round c r) w.said
  pub housed : i < houses
  pub low : c ≤ census_of w i
  pub count : c ≡ census_of w i → t ≤ (w.part i).tally
  pub one : c ≡ census_of w i → r ≡ 1 → T (w.part i).polled

abbrev pub NoteOk : ℕ → World → Note → Type 0
NoteOk houses w (Answer c o i) = Fixed (view w.net) c o i
NoteOk houses w (Round c r) = RoundOk houses w c r
NoteOk houses w (Reply c r i b t) = ReplyOk houses w c r i t

pub record Held (houses : ℕ) (w : World) : Type 0 where
  pub names : Names (view w.net) w.net.made
  pub since : ℕ
  pub inv : Inv houses since (view w.net)
  pub notes : (x : Note) → Memᴰ x w.said → NoteOk houses w x
  pub told : (i o : ℕ) → Memᴰ (Mark (census_of w i) o i) w.net.sent → T (is_in o (w.part i).told)
  pub answered : (i o : ℕ) → T (is_in o (w.part i).answered) → Memᴰ (Answer (census_of w i) o i) w.said
  pub quiet : (c r i t : ℕ) → Memᴰ (Reply c r i true t) w.said → census_of w i ≡ c → (w.part i).tally ≡ t → (r ≡ 1 → T (w.part i).stirred → ⊥) → Quiet (view w.net) c i

-- how a part grows within a census
pub record Wider (A : ℕ → Type 0) (p q : Part) : Type 0 where
  pub tally : p.tally ≤ q.tally
  pub polled : T p.polled → T q.polled
  pub stirred : T p.stirred → T q.stirred
  pub told : (o : ℕ) → T (is_in o p.told) → T (is_in o q.told)
  pub answered : (o : ℕ) → T (is_in o q.answered) → T (is_in o p.answered) ⊎ A o

pub wider_same : (A : ℕ → Type 0) (p : Part) → Wider A p p
wider_same A p = record { tally = omega arith; polled = λ t. t; stirred = λ t. t; told = λ o t. t; answered = λ o t. inl t }

abbrev pub Heard : World → ℕ → ℕ → Type 0
Heard v i o = Memᴰ (Answer (census_of v i) o i) v.said

-- nothing that a house takes can be below the census
abbrev pub Safe : ℕ → World → World → ℕ → ℕ → Type 0
Safe houses w v c i = (T (w.part i).polled × (T (v.part i).stirred → ⊥)) ⊎ ((k : ℕ) → k < houses → c ≤ census_of w k)

abbrev pub Truly : World → ℕ → ℕ → ℕ → ℕ → Type 0
Truly w c r i t = (c ≡ census_of w i) × (t ≡ (w.part i).tally) × (r ≡ 2 → T (w.part i).stirred → ⊥)

pub record Grows (houses since : ℕ) (w v : World) : Type 0 where
  pub effect : Effect since (view w.net) (view v.net)
  pub parts : (i : ℕ) → ((census_of w i < census_of v i) × ((o : ℕ) → T (is_in o (v.part i).answered) → ⊥)) ⊎ ((census_of v i ≡ census_of w i) × Wider (Heard v i) (w.part i) (v.part i))
  pub desk : (census_of w 0 < census_of v 0) ⊎ ((census_of v 0 ≡ census_of w 0) × (w.desk.round ≤ v.desk.round))
  pub said : (x : Note) → Memᴰ x w.said → Memᴰ x v.said
  pub notes : (x : Note) → Memᴰ x v.said → Memᴰ x w.said ⊎ NoteOk houses v x
  pub marks : (c o i : ℕ) → Memᴰ (Mark c o i) v.net.sent → Memᴰ (Mark c o i) w.net.sent ⊎ (T (is_in o (v.part i).told) × (Quiet (view w.net) c i → Fixed (view w.net) c o i))
  pub replies : (c r i t : ℕ) → Memᴰ (Reply c r i true t) v.said → Memᴰ (Reply c r i true t) w.said ⊎ (Quiet (view v.net) c i × Truly w c r i t)
  pub meets : (i c : ℕ) → census_of w i ≡ c → census_of v i ≡ c → (v.part i).tally ≡ (w.part i).tally → Safe houses w v c i → Meets (view w.net) (view v.net) c i

-- a census that is still the house's own was so before
own_before : {houses since : ℕ} {w v : World} → Grows houses since w v → {c i : ℕ} → c ≤ census_of w i → c ≡ census_of v i → (c ≡ census_of w i) × Wider (Heard v i) (w.part i) (v.part i)
own_before {w = w} {v = v} g {c} {i} le e =
    ⊎_elim (λ (z : (census_of w i < census_of v i) × ((o : ℕ) → T (is_in o (v.part i).answered) → ⊥)). absurd (not-le_of_lt z.0 (subst (λ (x : ℕ). x ≤ census_of w i) e le)))
    (λ (z : (census_of v i ≡ census_of w i) × Wider (Heard v i) (w.part i) (v.part i)). (e ∙ z.0, z.1)) (g.parts i)

note_keeps : {houses since : ℕ} {w v : World} → Grows houses since w v → (x : Note) → NoteOk houses w x → NoteOk houses v x
note_keeps g (Answer c o i) k = fixed_keeps g.effect k
note_keeps {houses} {since} {w} {v} g (Round c r) k =
    record {
      low = le_trans k.low (g.effect.later 0);
      upto = λ e. ⊎_elim (λ z. absurd (not-le_of_lt z (subst (λ (x : ℕ). x ≤ census_of w 0) e k.low))) (λ z. le_trans (k.upto (e ∙ z.0)) z.1) g.desk;
      all = λ z i l. le_trans (k.all z i l) (g.effect.later i);
      one = k.one;
    }
note_keeps {houses} {since} {w} {v} g (Reply c r i b t) k =
    record {
      asked = g.said (Round c r) k.asked;
      housed = k.housed;
      low = le_trans k.low (g.effect.later i);
      count = λ e. let z = own_before g k.low e in le_trans (k.count z.0) z.1.tally;
      one = λ e f. let z = own_before g k.low e in z.1.polled (k.one z.0 f);
    }

pub held_keeps : {houses : ℕ} {w v : World} (h : Held houses w) → Grows houses h.since w v → Names (view v.net) v.net.made → (s : ℕ) → Inv houses s (view v.net) → Held houses v
held_keeps {houses} {w} {v} h g names s inv =
    record {
      names = names;
      since = s;
      inv = inv;
      notes = λ x m. ⊎_elim (λ z. note_keeps g x (h.notes x z)) (λ z. z) (g.notes x m);
      told = λ i o m. ⊎_elim
          (λ (z : Memᴰ (Mark (census_of v i) o i) w.net.sent).
          let ok : MarkOk houses h.since (view w.net) (census_of v i) o i = h.inv.sents (Mark (census_of v i) o i) z in
          let y = own_before g ok.below refl in
          y.1.told o (h.told i o (subst (λ (x : ℕ). Memᴰ (Mark x o i) w.net.sent) y.0 z)))
          (λ z. z.0) (g.marks (census_of v i) o i m);
      answered = λ i o t. ⊎_elim
          (λ (z : (census_of w i < census_of v i) × ((o : ℕ) → T (is_in o (v.part i).answered) → ⊥)). absurd (z.1 o t))
          (λ (z : (census_of v i ≡ census_of w i) × Wider (Heard v i) (w.part i) (v.part i)). ⊎_elim
          (λ y. g.said (Answer (census_of v i) o i) (subst (λ (x : ℕ). Memᴰ (Answer x o i) w.said) (sym z.0) (h.answered i o y))) (λ y. y) (z.1.answered o t))
          (g.parts i);
      quiet = λ c r i t m ec et ns. ⊎_elim (λ z. old c r i t z ec et ns) (λ z. z.0) (g.replies c r i t m);
    }
  where
    level : {a b d : ℕ} → a ≤ b → b ≤ d → d ≡ a → b ≡ a
    level p q r = omega arith

    back : {a b d : ℕ} → a ≤ b → b ≤ d → d ≡ a → d ≡ b
    back p q r = omega arith

    old : (c r i t : ℕ) → Memᴰ (Reply c r i true t) w.said → census_of v i ≡ c → (v.part i).tally ≡ t → (r ≡ 1 → T (v.part i).stirred → ⊥) → Quiet (view v.net) c i
    old c r i t m ec et ns =
        quiet_keeps h.inv g.effect (λ d o j z. ⊎_elim (λ y. inl y) (λ y. inr y.1) (g.marks d o j z)) {c = c} {i = i} (subst (λ (x : ℕ). h.since ≤ x) (sym y.0) (h.inv.cen i ok.housed))
        (g.meets i c (sym y.0) ec (back (ok.count y.0) y.1.tally et) (safe (same? r 1)))
        (h.quiet c r i t m (sym y.0) (level (ok.count y.0) y.1.tally et) (λ e z. ns e (y.1.stirred z)))
      where
        ok : ReplyOk houses w c r i t
        ok = h.notes (Reply c r i true t) m

        ro : RoundOk houses w c r
        ro = h.notes (Round c r) ok.asked

        y : (c ≡ census_of w i) × Wider (Heard v i) (w.part i) (v.part i)
        y = own_before g ok.low (sym ec)

        two : {a : ℕ} → 1 ≤ a → (a ≡ 1 → ⊥) → 2 ≤ a
        two p q = omega arith

        safe : (r ≡ 1) ⊎ (r ≡ 1 → ⊥) → Safe houses w v c i
        safe (inl e) = inl (ok.one y.0 e, ns e)
        safe (inr f) = inr (ro.all (two ro.one f))

-- house 0's rounds: when the run began the present one, the census was complete
pub record Past {houses : ℕ} {w : World} (r : Runs houses w) : Type 0 where
  pub then : World
  pub begun : Begins r then
  pub census : census_of then 0 ≡ census_of w 0
  pub round : suc then.desk.round ≡ w.desk.round
  pub complete : Complete houses (census_of w 0) then.net

-- and a turn later it had begun it
pub begins_on : {houses : ℕ} {w v then : World} {r : Runs houses w} → Begins r then → (turn : Turn houses w v) → Begins (Runs.then r turn) then
begins_on b turn = (b.0, b.1, b.2, b.3, Upto.on b.4 turn)

-- house i has moved since it answered the round before, and no answer that agrees with that is or will be there
pub record Doomed (w : World) (i t : ℕ) : Type 0 where
  pub unsaid : Memᴰ (Reply (census_of w 0) w.desk.round i true t) w.said → ⊥
  pub moved : (census_of w 0 < census_of w i) ⊎ ((t < (w.part i).tally) ⊎ ((w.desk.round ≡ 2) × T (w.part i).stirred))

abbrev pub Won : {houses : ℕ} {w : World} → Runs houses w → Type 0
Won {houses} {w} r = Inv houses (census_of w 0) (view w.net) × Past r

abbrev pub Outcome : {houses : ℕ} {w : World} → Runs houses w → Type 0
Outcome {houses} {w} r = Won r ⊎ ((i : ℕ) × (t : ℕ) × (i < houses) × (w.desk.before i ≡ some true t) × Doomed w i t)

pub record Desked {houses : ℕ} {w : World} (run : Runs houses w) : Type 0 where
  pub nows : (i t : ℕ) (b : Bool) → w.desk.now i ≡ some b t → Memᴰ (Reply (census_of w 0) w.desk.round i b t) w.said
  pub asked : (r : ℕ) → w.desk.round ≡ suc r → Memᴰ (Round (census_of w 0) (suc r)) w.said
  pub befores : (i t : ℕ) (b : Bool) (r : ℕ) → w.desk.round ≡ suc r → w.desk.before i ≡ some b t → Memᴰ (Reply (census_of w 0) r i b t) w.said
  pub ends : 2 ≤ w.desk.round → ((i : ℕ) → i < houses → (t : ℕ) × (w.desk.before i ≡ some true t)) → Outcome run

pub desk_keeps : {houses : ℕ} {w v : World} {run : Runs houses w} (h : Held houses w) → Desked run → Grows houses h.since w v → v.desk ≡ w.desk → census_of v 0 ≡ census_of w 0 →
    (Inv houses (census_of w 0) (view w.net) → Inv houses (census_of w 0) (view v.net)) → (turn : Turn houses w v) → Desked (Runs.then run turn)
desk_keeps {houses} {w} {v} {run} h d g ed ec keep turn =
    record {
      nows = λ i t b e. g.said _ (moved (λ x. x.round) i b t (d.nows i t b (ap (λ (x : Desk). x.now i) (sym ed) ∙ e)));
      asked = λ r er. g.said _ (subst (λ (x : ℕ). Memᴰ (Round x (suc r)) w.said) (sym ec) (d.asked r (ap (λ (x : Desk). x.round) (sym ed) ∙ er)));
      befores = λ i t b r er e. g.said _ (subst (λ (x : ℕ). Memᴰ (Reply x r i b t) w.said) (sym ec) (d.befores i t b r (ap (λ (x : Desk). x.round) (sym ed) ∙ er) (ap (λ (x : Desk). x.before i) (sym ed) ∙ e)));
      ends = λ two all.
          let two' : 2 ≤ w.desk.round = subst (λ (x : Desk). 2 ≤ x.round) ed two in
          ⊎_elim (λ z. inl (subst (λ (x : ℕ). Inv houses x (view v.net)) (sym ec) (keep z.0), past z.1)) (λ z. inr (z.0, z.1, z.2, ap (λ (x : Desk). x.before z.0) ed ∙ z.3, doomed two' z.0 z.1 z.3 z.4))
          (d.ends two' (λ i l. let z = all i l in (z.0, ap (λ (x : Desk). x.before i) (sym ed) ∙ z.1)));
    }
  where
    moved : (f : Desk → ℕ) (i : ℕ) (b : Bool) (t : ℕ) → Memᴰ (Reply (census_of w 0) (f w.desk) i b t) w.said → Memᴰ (Reply (census_of v 0) (f v.desk) i b t) w.said
    moved f i b t m = subst (λ (x : ℕ). Memᴰ (Reply x (f v.desk) i b t) w.said) (sym ec) (subst (λ (x : Desk). Memᴰ (Reply (census_of w 0) (f x) i b t) w.said) (sym ed) m)

    past : Past run → Past (Runs.then run turn)
    past p =
        record {
          then = p.then;
          begun = begins_on p.begun turn;
          census = p.census ∙ sym ec;
          round = p.round ∙ ap (λ (x : Desk). x.round) (sym ed);
          complete = subst (λ (x : ℕ). Complete houses x p.then.net) (sym ec) p.complete;
        }

    doomed : 2 ≤ w.desk.round → (i t : ℕ) → w.desk.before i ≡ some true t → Doomed w i t → Doomed v i t
    doomed two i t e x =
        record {
          unsaid = λ m.
              let m' : Memᴰ (Reply (census_of w 0) w.desk.round i true t) v.said = subst (λ (y : Desk). Memᴰ (Reply (census_of w 0) y.round i true t) v.said) ed (subst (λ (y : ℕ). Memᴰ (Reply y v.desk.round i true t) v.said) ec m) in
              ⊎_elim (λ z. x.unsaid z) (λ z. no x.moved z.1) (g.replies (census_of w 0) w.desk.round i t m');
          moved = ⊎_elim
              (λ (z : (census_of w i < census_of v i) × ((o : ℕ) → T (is_in o (v.part i).answered) → ⊥)). inl (subst (λ (y : ℕ). y < census_of v i) (sym ec) (lt_of_le_of_lt low z.0)))
              (λ (z : (census_of v i ≡ census_of w i) × Wider (Heard v i) (w.part i) (v.part i)). still z.0 z.1 x.moved) (g.parts i);
        }
      where
        pre : (a : ℕ) → 2 ≤ a → (b : ℕ) × (a ≡ suc b)
        pre zero l = absurd (omega arith)
        pre (suc b) l = (b, refl)

        low : census_of w 0 ≤ census_of w i
        low =
            let r = pre w.desk.round two in
            let ok : ReplyOk houses w (census_of w 0) r.0 i t = h.notes (Reply (census_of w 0) r.0 i true t) (d.befores i t true r.0 r.1 e) in
            ok.low

        no : (census_of w 0 < census_of w i) ⊎ ((t < (w.part i).tally) ⊎ ((w.desk.round ≡ 2) × T (w.part i).stirred)) → Truly w (census_of w 0) w.desk.round i t → ⊥
        no (inl l) z = let a = z.0 in omega arith
        no (inr (inl l)) z = let a = z.1 in omega arith
        no (inr (inr l)) z = z.2 l.0 l.1

        still : census_of v i ≡ census_of w i → Wider (Heard v i) (w.part i) (v.part i) → (census_of w 0 < census_of w i) ⊎ ((t < (w.part i).tally) ⊎ ((w.desk.round ≡ 2) × T (w.part i).stirred)) →
            (census_of v 0 < census_of v i) ⊎ ((t < (v.part i).tally) ⊎ ((v.desk.round ≡ 2) × T (v.part i).stirred))
        still q y (inl l) = inl (omega arith)
        still q y (inr (inl l)) = let a = y.tally in inr (inl (omega arith))
        still q y (inr (inr l)) = inr (inr (ap (λ (z : Desk). z.round) ed ∙ l.0, y.stirred l.1))
