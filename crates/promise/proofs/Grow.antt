-- How each turn leads on from what was said, the parts and the desk.
use Rattle.std.proofs.Common.{◌≡◌, ℕ, ◌+◌, ◌<◌, ◌≤◌, Bool, true, false, cond, not, ◌&&◌, T, eqb, ◌⊎◌, List, [], ◌∷◌, sym, refl, ap, ◌∙◌, subst, inl, inr, ⊎_elim, le_trans, arith, eqb→eq}
use mathlib.Core.List.Memᴰ
use mathlib.Core.List.{Memᴰ}
use Rattle.wire.specs.Names.{home}
use Rattle.tables.specs.Model.{is_in}
use Rattle.lines.specs.Listed.{Listed, listed, listed_in, marked, is_of}
use Rattle.promise.specs.House.{House, Used}
use Rattle.promise.specs.Net.{Msg, Ask, Give, Word, Mark, Sweep, Net, put, with, sends, in_census, with_list}
use Rattle.promise.specs.Rounds.{Part, fresh, Desk, idle, Note, Answer, Round, Reply, World, set, telling, hearing, counting, polling, Fine, census_of, Alike}
use Rattle.promise.proofs.Base.{or_left, or_right, eq→eqb, cond_elim, same?, set_other, set_here, same_at, is_in→mem, mem→is_in, set_elim}
use Rattle.promise.proofs.Lines.{Of, Single, single_same, of→isOf, isOf→of}
use Rattle.promise.proofs.Inv.{view, used→mt, mt→used}
use Rattle.promise.proofs.Meet.{mt_less}
use Rattle.promise.proofs.Effect.{Fixed, Quiet, effect_none, effect_still, join_effect, mark_effect, other_meets, mark_meets}
use Rattle.promise.proofs.Alike.{alike_effect, alike_meets}
use Rattle.promise.proofs.Turns.{ReplyOk, NoteOk, Held, Wider, wider_same, Heard, Truly, Grows}
use Rattle.promise.proofs.Moves.{both_elim, Moves}

-- kinds of notes
abbrev IsReply : Note → Type 0
IsReply (Answer c o i) = ⊥
IsReply (Round c r) = ⊥
IsReply (Reply c r i b t) = Unit {0}

pub old_reply : (x : Note) → (IsReply x → ⊥) → {xs : List Note} (c r i t : ℕ) → Memᴰ (Reply c r i true t) (x ∷ xs) → Memᴰ (Reply c r i true t) xs
old_reply x f c r i t m = ⊎_elim (λ e. absurd (f (subst IsReply e tt))) (λ z. z) (Memᴰ.cases_cons m)

widen : {A : ℕ → Type 0} {p q : Part} → Wider (λ _. ⊥) p q → Wider A p q
widen w = record { tally = w.tally; polled = w.polled; stirred = w.stirred; told = w.told; answered = λ o t. ⊎_elim (λ z. inl z) (λ z. absurd z) (w.answered o t) }

-- steps of the net alone
module _ {houses : ℕ} (w : World) (h : Held houses w) where
  pub moves_grows : {m : Net} (g : ℕ → Part) → Moves houses h.since w.net m w.part g → Grows houses h.since w (record { net = m; part = g; desk = w.desk; said = w.said })
  moves_grows g z =
      record {
        effect = z.effect;
        parts = λ i. inr (z.census i, widen (z.parts i));
        desk = inr (z.census 0, omega arith);
        said = λ x m. m;
        notes = λ x m. inl m;
        marks = λ c o i m. inl (z.marks c o i m);
        replies = λ c r i t m. inl m;
        meets = λ i c ec _ _ safe. z.meets i c ec safe;
      }

  -- a house's part alone, and what is said
  part_grows : (i : ℕ) (p : Part) (x : List Note) → ((y : Note) → Memᴰ y w.said → Memᴰ y x) →
      Wider (λ o. Memᴰ (Answer (census_of w i) o i) x) (w.part i) p →
      ((y : Note) → Memᴰ y x → Memᴰ y w.said ⊎ NoteOk houses (record { net = w.net; part = set i p w.part; desk = w.desk; said = x }) y) →
      ((c r j t : ℕ) → Memᴰ (Reply c r j true t) x → Memᴰ (Reply c r j true t) w.said ⊎ (Quiet (view w.net) c j × Truly w c r j t)) →
      Grows houses h.since w (record { net = w.net; part = set i p w.part; desk = w.desk; said = x })
  part_grows i p x more wider notes replies =
      record {
        effect = effect_still h.since (view w.net);
        parts = λ j. inr (refl, set_elim (λ j q. Wider (λ o. Memᴰ (Answer (census_of w j) o j) x) (w.part j) q) i p w.part wider (λ j. wider_same _ (w.part j)) j);
        desk = inr (refl, omega arith);
        said = more;
        notes = notes;
        marks = λ c o j m. inl m;
        replies = replies;
        meets = λ j c _ _ _ _ o m a. inl m;
      }

  -- the desk alone
  pub desk_grows : (d : Desk) (x : List Note) → w.desk.round ≤ d.round → ((y : Note) → Memᴰ y w.said → Memᴰ y x) →
      ((y : Note) → Memᴰ y x → Memᴰ y w.said ⊎ NoteOk houses (record { net = w.net; part = w.part; desk = d; said = x }) y) →
      ((c r j t : ℕ) → Memᴰ (Reply c r j true t) x → Memᴰ (Reply c r j true t) w.said) →
      Grows houses h.since w (record { net = w.net; part = w.part; desk = d; said = x })
  desk_grows d x le more notes replies =
      record {
        effect = effect_still h.since (view w.net);
        parts = λ j. inr (refl, wider_same _ (w.part j));
        desk = inr (refl, le);
        said = more;
        notes = notes;
        marks = λ c o j m. inl m;
        replies = λ c r j t m. inl (replies c r j t m);
        meets = λ j c _ _ _ _ o m a. inl m;
      }

  -- join
  module _ (i c : ℕ) (inside : i < houses) (lt : census_of w i < c) where
    abbrev pub joined_world : World
    joined_world = record { net = with i (in_census c (w.net.house i)) w.net; part = set i fresh w.part; desk = cond (eqb i 0) idle w.desk; said = w.said }

    abbrev JoinP : ℕ → House → Part → Type 0
    JoinP j g p = ((census_of w j < g.census) × ((o : ℕ) → T (is_in o p.answered) → ⊥)) ⊎ ((g.census ≡ census_of w j) × Wider (λ o. Memᴰ (Answer g.census o j) w.said) (w.part j) p)

    join_parts : (j : ℕ) → JoinP j (set i (in_census c (w.net.house i)) w.net.house j) (set i fresh w.part j)
    join_parts = both_elim JoinP i (in_census c (w.net.house i)) fresh w.net.house w.part (inl (lt, λ o t. t)) (λ j _. inr (refl, wider_same _ (w.part j)))

    pub join_other : (i ≡ 0 → ⊥) → (joined_world.desk ≡ w.desk) × (census_of joined_world 0 ≡ census_of w 0)
    join_other a = (
      cond_elim (eqb i 0) (λ d. d ≡ w.desk) (λ t. absurd (a (eqb→eq i 0 t))) (λ _. refl),
      set_other (λ j g. (j ≡ i → ⊥) → g.census ≡ census_of w j) i (in_census c (w.net.house i)) w.net.house (λ z. absurd (z refl)) (λ j z _. refl) 0 (λ e. a (sym e)),
    )

    pub join_grows : Grows houses h.since w joined_world
    join_grows =
        record {
          effect = join_effect w.net i inside h.inv c lt;
          parts = join_parts;
          desk = ⊎_elim (λ (e : i ≡ 0). inl (subst (λ (j : ℕ). census_of w j < census_of joined_world j) e (subst (λ (g : House). census_of w i < g.census) (sym (set_here i (in_census c (w.net.house i)) w.net.house)) lt)))
              (λ (a : i ≡ 0 → ⊥). let z = join_other a in inr (z.1, subst (λ (d : Desk). w.desk.round ≤ d.round) (sym z.0) (omega arith))) (same? i 0);
          said = λ x m. m;
          notes = λ x m. inl m;
          marks = λ d o j m. inl m;
          replies = λ d r j t m. inl m;
          meets = λ j d ew ev _ _. other_meets w.net i d j (in_census c (w.net.house i)) (λ (e : j ≡ i). differ j d e ew ev);
        }
      where
        differ : (j d : ℕ) → j ≡ i → census_of w j ≡ d → census_of joined_world j ≡ d → ⊥
        differ j d e ew ev =
            let a : census_of joined_world i ≡ d = subst (λ (y : ℕ). census_of joined_world y ≡ d) e ev in
            let b : census_of w i ≡ d = subst (λ (y : ℕ). census_of w y ≡ d) e ew in
            let x : census_of joined_world i ≡ c = ap (λ (g : House). g.census) (set_here i (in_census c (w.net.house i)) w.net.house) in
            omega arith

  -- tell
  module _ (i o : ℕ) (away : home o ≡ i → ⊥) (used : Used (census_of w i) (w.net.house i) o) where
    abbrev told_world : World
    told_world = record { net = sends (Mark (census_of w i) o i) w.net; part = set i (telling o (w.part i)) w.part; desk = w.desk; said = w.said }

    abbrev MarkP : Msg → Type 0
    MarkP (Ask q a b) = Unit {0}
    MarkP (Give q j s) = Unit {0}
    MarkP (Word j k held upto) = Unit {0}
    MarkP (Mark c q j) = T (is_in q (told_world.part j).told) × (Quiet (view w.net) c j → Fixed (view w.net) c q j)
    MarkP (Sweep c) = Unit {0}

    tell_fixed : Quiet (view w.net) (census_of w i) i → Fixed (view w.net) (census_of w i) o i
    tell_fixed q =
        let z = q.used o (used→mt (omega arith) used) away in
        record {
          joined = le_trans z.3 (h.inv.lines (home o) z.0 z.1).low;
          marked = λ f m p. subst (λ (x : Listed). census_of w i ≤ x.census) (single_same (h.inv.single (home o)) z.1 m (p.0 ∙ sym z.2.0, p.1 ∙ sym z.2.1)) z.3;
        }

    pub tell_grows : Grows houses h.since w told_world
    tell_grows =
        record {
          effect = effect_none h.since w.net (Mark (census_of w i) o i);
          parts = λ j. inr (
            refl,
            set_elim (λ j q. Wider (Heard told_world j) (w.part j) q) i (telling o (w.part i)) w.part
                (record { tally = omega arith; polled = λ t. t; stirred = λ t. t; told = λ q t. mem→is_in (Memᴰ.tail (is_in→mem q (w.part i).told t)); answered = λ q t. inl t }) (λ j. wider_same _ (w.part j)) j,
          );
          desk = inr (refl, omega arith);
          said = λ x m. m;
          notes = λ x m. inl m;
          marks = λ c q j m. ⊎_elim (λ e. inr (subst MarkP (sym e) (subst (λ (p : Part). T (is_in o p.told)) (sym (set_here i (telling o (w.part i)) w.part)) (mem→is_in {o = o} {xs = o ∷ (w.part i).told} (Memᴰ.head refl)), tell_fixed))) (λ z. inl z) (Memᴰ.cases_cons m);
          replies = λ d r j t m. inl m;
          meets = λ j c _ _ _ _ q m a. inl m;
        }

  -- mark
  module _ (k o i : ℕ) (inside : k < houses) (at_home : home o ≡ k) where
    abbrev new : Bool
    new = listed o i (w.net.house k).list && not (listed_in (census_of w k) o i (w.net.house k).list)

    abbrev pub lined : House
    lined = with_list (marked (census_of w k) o i (w.net.house k).list) (w.net.house k)

    abbrev marked_world : World
    marked_world = record { net = with k lined w.net; part = set k (counting new (w.part k)) w.part; desk = w.desk; said = Answer (census_of w k) o i ∷ w.said }

    marked_of : (c : ℕ) (es : List Listed) → Single es → (f : Listed) → Memᴰ f (marked c o i es) → Of o i f → f.census ≡ c
    unfolding marked
    marked_of c [] u f m p = absurd (Memᴰ.not-nil m)
    marked_of c (x ∷ es) u f m p =
        cond_elim (is_of o i x) (λ l. Memᴰ f l → f.census ≡ c)
        (λ t z. let q = isOf→of o i x t in ⊎_elim (λ e. ap (λ (y : Listed). y.census) e) (λ r. absurd (u.0 f r (p.0 ∙ sym q.0, p.1 ∙ sym q.1))) (Memᴰ.cases_cons z))
        (λ t z. ⊎_elim (λ e. absurd (t (of→isOf o i x (subst (λ (y : Listed). Of o i y) e p)))) (λ r. marked_of c es u.1 f r p) (Memᴰ.cases_cons z)) m

    mark_fixed : Fixed (view marked_world.net) (census_of w k) o i
    mark_fixed =
        record {
          joined = let e = same_at (λ g. g.census) k lined w.net.house refl (home o) ∙ ap (λ (x : ℕ). census_of w x) at_home in omega arith;
          marked = λ f m p.
              let m' : Memᴰ f lined.list = subst (λ (g : House). Memᴰ f g.list) (set_here k lined w.net.house) (subst (λ (x : ℕ). Memᴰ f (put k lined w.net.house x).list) at_home m) in
              let e = marked_of (census_of w k) (w.net.house k).list (h.inv.single k) f m' p in omega arith;
        }

    counted : (b : Bool) (t : ℕ) → t + cond b 1 0 ≡ t → T b → ⊥
    counted true t e z = omega arith
    counted false t e z = z

    pub mark_grows : Grows houses h.since w marked_world
    mark_grows =
        record {
          effect = mark_effect w.net k inside h.inv o i;
          parts = λ j. inr (
            same_at (λ g. g.census) k lined w.net.house refl j,
            set_elim (λ j q. Wider (Heard marked_world j) (w.part j) q) k (counting new (w.part k)) w.part
                (record { tally = omega arith; polled = λ t. t; stirred = λ t. t; told = λ q t. t; answered = λ q t. inl t }) (λ j. wider_same _ (w.part j)) j,
          );
          desk = inr (same_at (λ g. g.census) k lined w.net.house refl 0, omega arith);
          said = λ x m. Memᴰ.tail m;
          notes = λ x m. ⊎_elim (λ e. inr (subst (λ (y : Note). NoteOk houses marked_world y) (sym e) mark_fixed)) (λ z. inl z) (Memᴰ.cases_cons m);
          marks = λ c q j m. inl m;
          replies = λ d r j t m. inl (old_reply _ (λ z. z) d r j t m);
          meets = λ j c ew ev et _. mark_meets w.net k c j (census_of w k) o i
              (λ (e : j ≡ k). counted new (w.part k).tally (ap (λ (p : Part). p.tally) (sym (set_here k (counting new (w.part k)) w.part)) ∙ subst (λ (y : ℕ). (marked_world.part y).tally ≡ (w.part y).tally) e et));
        }

  -- reply
  module _ (i r : ℕ) (b : Bool) (inside : i < houses) (asked : Memᴰ (Round (census_of w i) r) w.said) (fine : b ≡ true → Fine r i (census_of w i) (w.net.house i) (w.part i)) where
    abbrev replied_world : World
    replied_world = record { net = w.net; part = set i (polling r (w.part i)) w.part; desk = w.desk; said = Reply (census_of w i) r i b (w.part i).tally ∷ w.said }

    fixed : Fine r i (census_of w i) (w.net.house i) (w.part i) → (o : ℕ) → T (is_in o (w.part i).told) → Fixed (view w.net) (census_of w i) o i
    fixed z o t = h.notes (Answer (census_of w i) o i) (h.answered i o (z.0.all_answered o t))

    reply_quiet : Fine r i (census_of w i) (w.net.house i) (w.part i) → Quiet (view w.net) (census_of w i) i
    reply_quiet z =
        record {
          used = λ o m a.
              let x = fixed z o (z.0.all_told o a (mt→used (λ e y. (h.inv.lines i e y).low) m)) in
              let y = h.inv.heart i o (mt_less (h.inv.cen i inside) m) a in
              (y.0, y.1, y.2, x.marked y.0 y.1 y.2);
          told = λ o m. fixed z o (h.told i o m);
        }

    abbrev ReplyP : Note → Type 0
    ReplyP (Answer c o j) = Unit {0}
    ReplyP (Round c q) = Unit {0}
    ReplyP (Reply c q j true t) = Quiet (view w.net) c j × Truly w c q j t
    ReplyP (Reply c q j false t) = Unit {0}

    reply_new : (b : Bool) → (b ≡ true → Fine r i (census_of w i) (w.net.house i) (w.part i)) → ReplyP (Reply (census_of w i) r i b (w.part i).tally)
    reply_new true f = let z = f refl in (reply_quiet z, (refl, refl, z.1))
    reply_new false f = tt

    here : (P : Part → Type 0) → P (polling r (w.part i)) → P (set i (polling r (w.part i)) w.part i)
    here P x = subst P (sym (set_here i (polling r (w.part i)) w.part)) x

    pub reply_grows : Grows houses h.since w replied_world
    reply_grows =
        part_grows i (polling r (w.part i)) (Reply (census_of w i) r i b (w.part i).tally ∷ w.said) (λ y m. Memᴰ.tail m)
        (record { tally = omega arith; polled = λ t. or_left (w.part i).polled (eqb r 1) t; stirred = λ t. t; told = λ q t. t; answered = λ q t. inl t })
        (λ y m. ⊎_elim (λ e. inr (subst (λ (x : Note). NoteOk houses replied_world x) (sym e) ok)) (λ z. inl z) (Memᴰ.cases_cons m))
        (λ c q j t m. ⊎_elim (λ e. inr (subst ReplyP (sym e) (reply_new b fine))) (λ z. inl z) (Memᴰ.cases_cons m))
      where
        ok : ReplyOk houses replied_world (census_of w i) r i (w.part i).tally
        ok =
            record {
              asked = Memᴰ.tail asked;
              housed = inside;
              low = omega arith;
              count = λ _. here (λ p. (w.part i).tally ≤ p.tally) (omega arith);
              one = λ _ e. here (λ p. T p.polled) (or_right (w.part i).polled (eqb r 1) (eq→eqb e));
            }

  -- answer
  pub answer_grows : (i o : ℕ) → Memᴰ (Answer (census_of w i) o i) w.said → Grows houses h.since w (record { net = w.net; part = set i (hearing o (w.part i)) w.part; desk = w.desk; said = w.said })
  answer_grows i o sent =
      part_grows i (hearing o (w.part i)) w.said (λ y m. m)
      (record {
        tally = omega arith;
        polled = λ t. t;
        stirred = λ t. t;
        told = λ q t. t;
        answered = λ q t. ⊎_elim (λ e. inr (subst (λ (x : ℕ). Memᴰ (Answer (census_of w i) x i) w.said) (sym e) sent)) (λ z. inl (mem→is_in z)) (Memᴰ.cases_cons (is_in→mem q (o ∷ (w.part i).answered) t));
      })
      (λ y m. inl m) (λ c r j t m. inl m)

  -- the same in another order
  pub alike_grows : (v : World) → Alike w v → Grows houses h.since w v
  alike_grows v a =
      record {
        effect = alike_effect w.net v.net a.net h.since;
        parts = λ i. inr (sym (a.net.house i).census, wider i);
        desk = inr (sym (a.net.house 0).census, let e = a.round in omega arith);
        said = λ x m. (a.said x).0 m;
        notes = λ x m. inl ((a.said x).1 m);
        marks = λ c o i m. inl ((a.net.sent (Mark c o i)).1 m);
        replies = λ c r i t m. inl ((a.said (Reply c r i true t)).1 m);
        meets = λ i c _ _ _ _. alike_meets w.net v.net a.net c i;
      }
    where
      wider : (i : ℕ) → Wider (Heard v i) (w.part i) (v.part i)
      wider i =
          let p = a.part i in
          record {
            tally = let e = p.tally in omega arith;
            polled = λ t. subst T p.polled t;
            stirred = λ t. subst T p.stirred t;
            told = λ o t. subst T (p.told o) t;
            answered = λ o t. inl (subst T (sym (p.answered o)) t);
          }
