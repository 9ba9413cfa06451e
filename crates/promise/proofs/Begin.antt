-- A round is begun: the census is complete, or some house has moved and the rounds will not end with this one.
use Rattle.std.proofs.Common.{◌≡◌, ℕ, zero, suc, ◌<◌, ◌≤◌, Bool, true, false, T, ◌⊎◌, ◌∷◌, sym, refl, ap, ◌∙◌, subst, inl, inr, ⊎_elim, arith}
use mathlib.Core.List.Memᴰ
use mathlib.Core.List.{Memᴰ}
use Rattle.wire.specs.Names.{home}
use Rattle.lines.specs.Listed.{Listed}
use Rattle.promise.specs.Net.{Mark, Complete}
use Rattle.promise.specs.Rounds.{Slot, none, some, Desk, idle, Note, Round, Reply, World, AllIn, census_of, Turn, Runs, Upto}
use Rattle.promise.proofs.Base.{last, none_below, same?}
use Rattle.promise.proofs.Lines.{mem→listed_in, listed→mem}
use Rattle.promise.proofs.Inv.{view, MarkOk, used→mt}
use Rattle.promise.proofs.Send.{raise}
use Rattle.promise.proofs.Effect.{Quiet}
use Rattle.promise.proofs.Turns.{RoundOk, ReplyOk, NoteOk, Held, Grows, held_keeps, Doomed, Outcome, Desked}
use Rattle.promise.proofs.Grow.{old_reply, desk_grows}

pub record Fit {houses : ℕ} {w : World} (run : Runs houses w) : Type 0 where
  pub held : Held houses w
  pub desked : Desked run

abbrev IsSome : Slot → Type 0
IsSome none = ⊥
IsSome (some b t) = Unit {0}

pub idle_desked : {houses : ℕ} {w : World} {run : Runs houses w} → w.desk ≡ idle → Desked run
idle_desked {houses} {w} e =
    record {
      nows = λ i t b z. absurd (subst IsSome (sym (ap (λ (d : Desk). d.now i) (sym e) ∙ z)) tt);
      asked = λ r z. let y = ap (λ (d : Desk). d.round) e in absurd (omega arith);
      befores = λ i t b r _ z. absurd (subst IsSome (sym (ap (λ (d : Desk). d.before i) (sym e) ∙ z)) tt);
      ends = λ two _. let z = ap (λ (d : Desk). d.round) e in absurd (omega arith);
    }

-- a new round is begun: the census is complete, or some house has moved
module _ {houses : ℕ} (w : World) (ran : Runs houses w) (fit : Fit ran) (somebody : 0 < houses) (ready : (w.desk.round ≡ 0) ⊎ AllIn houses w.desk.now) where
  abbrev begun_world : World
  begun_world =
      record {
        net = w.net;
        part = w.part;
        desk = record { round = suc w.desk.round; now = λ i. none; before = w.desk.now };
        said = Round (census_of w 0) (suc w.desk.round) ∷ w.said;
      }

  abbrev begun_run : Runs houses begun_world
  begun_run = Runs.then ran (Turn.begin w somebody ready)

  begin_ok : RoundOk houses begun_world (census_of w 0) (suc w.desk.round)
  begin_ok =
      record {
        low = omega arith;
        upto = λ _. omega arith;
        all = λ two i l. ⊎_elim (λ (e : w.desk.round ≡ 0). absurd (omega arith))
            (λ (f : AllIn houses w.desk.now). let z = f i l in
            let ok : ReplyOk houses w (census_of w 0) w.desk.round i z.1 = fit.held.notes (Reply (census_of w 0) w.desk.round i z.0 z.1) (fit.desked.nows i z.1 z.0 z.2) in ok.low) ready;
        one = omega arith;
      }

  begin_grows : Grows houses fit.held.since w begun_world
  begin_grows =
      desk_grows w fit.held begun_world.desk begun_world.said (omega arith) (λ y m. Memᴰ.tail m)
      (λ y m. ⊎_elim (λ e. inr (subst (λ (x : Note). NoteOk houses begun_world x) (sym e) begin_ok)) (λ z. inl z) (Memᴰ.cases_cons m)) (λ c r j t m. old_reply _ (λ z. z) c r j t m)

  -- a house that is as it was when it answered
  record Stays (i : ℕ) : Type 0 where
    census : census_of w i ≡ census_of w 0
    calm : Quiet (view w.net) (census_of w 0) i

  abbrev Lost : Type 0
  Lost = (i : ℕ) × (t : ℕ) × (i < houses) × (w.desk.now i ≡ some true t) × Doomed begun_world i t

  abbrev AllCalm : Type 0
  AllCalm = (i : ℕ) → i < houses → (t : ℕ) × (w.desk.now i ≡ some true t)

  -- no answer to the new round is there yet
  unasked : (i t : ℕ) → Memᴰ (Reply (census_of w 0) (suc w.desk.round) i true t) (Round (census_of w 0) (suc w.desk.round) ∷ w.said) → ⊥
  unasked i t m =
      let m' = old_reply _ (λ z. z) (census_of w 0) (suc w.desk.round) i t m in
      let ok : ReplyOk houses w (census_of w 0) (suc w.desk.round) i t = fit.held.notes (Reply (census_of w 0) (suc w.desk.round) i true t) m' in
      let ro : RoundOk houses w (census_of w 0) (suc w.desk.round) = fit.held.notes (Round (census_of w 0) (suc w.desk.round)) ok.asked in
      let z = ro.upto refl in omega arith

  look : AllCalm → (i : ℕ) → i < houses → Lost ⊎ Stays i
  look all i l = go (same? (census_of w i) (census_of w 0))
    where
      t : ℕ
      t = (all i l).0

      said : Memᴰ (Reply (census_of w 0) w.desk.round i true t) w.said
      said = fit.desked.nows i t true (all i l).1

      ok : ReplyOk houses w (census_of w 0) w.desk.round i t
      ok = fit.held.notes (Reply (census_of w 0) w.desk.round i true t) said

      lost : (census_of w 0 < census_of w i) ⊎ ((t < (w.part i).tally) ⊎ ((suc w.desk.round ≡ 2) × T (w.part i).stirred)) → Lost
      lost z = (i, t, l, (all i l).1, record { unsaid = unasked i t; moved = z })

      more : {a b : ℕ} → a ≤ b → (b ≡ a → ⊥) → a < b
      more p q = omega arith

      third : (b : Bool) → (w.part i).stirred ≡ b → census_of w i ≡ census_of w 0 → (w.part i).tally ≡ t → (w.desk.round ≡ 1) ⊎ (w.desk.round ≡ 1 → ⊥) → Lost ⊎ Stays i
      third true e ec et (inl one) = inl (lost (inr (inr (ap suc one, subst T (sym e) tt))))
      third true e ec et (inr diff) = inr (record { census = ec; calm = fit.held.quiet (census_of w 0) w.desk.round i t said ec et (λ x _. diff x) })
      third false e ec et z = inr (record { census = ec; calm = fit.held.quiet (census_of w 0) w.desk.round i t said ec et (λ _ x. subst T e x) })

      second : census_of w i ≡ census_of w 0 → ((w.part i).tally ≡ t) ⊎ ((w.part i).tally ≡ t → ⊥) → Lost ⊎ Stays i
      second ec (inl et) = third (w.part i).stirred refl ec et (same? w.desk.round 1)
      second ec (inr diff) = inl (lost (inr (inl (more (ok.count (sym ec)) diff))))

      go : (census_of w i ≡ census_of w 0) ⊎ (census_of w i ≡ census_of w 0 → ⊥) → Lost ⊎ Stays i
      go (inl ec) = second ec (same? (w.part i).tally t)
      go (inr diff) = inl (lost (inl (more ok.low diff)))

  look_all : AllCalm → (t : ℕ) → t ≤ houses → Lost ⊎ ((i : ℕ) → i < t → Stays i)
  look_all all zero l = inr (λ i z. absurd {A = Stays i} (none_below z))
  look_all all (suc t) l = join (look_all all t (omega arith)) (look all t l)
    where
      join : Lost ⊎ ((i : ℕ) → i < t → Stays i) → Lost ⊎ Stays t → Lost ⊎ ((i : ℕ) → i < suc t → Stays i)
      join (inl x) y = inl x
      join (inr f) (inl y) = inl y
      join (inr f) (inr y) = inr (λ i z. ⊎_elim (λ (e : i ≡ t). subst (λ (k : ℕ). Stays k) (sym e) y) (λ (e : i ≡ t → ⊥). f i (last z e)) (same? i t))

  all_stay : ((i : ℕ) → i < houses → Stays i) → Complete houses (census_of w 0) w.net
  all_stay f =
      record {
        all = λ i l. (f i l).census;
        closed = λ i o l u a. let z = (f i l).calm.used o (used→mt (omega arith) u) a in mem→listed_in (census_of w 0) o i z.1 z.2 (level (home o) z.0 z.1 z.3);
        settled = λ o i s t.
            let ok : MarkOk houses fit.held.since (view w.net) (census_of w 0) o i = fit.held.inv.sents (Mark (census_of w 0) o i) s in
            let z = listed→mem o i (w.net.house (home o)).list t in
            mem→listed_in (census_of w 0) o i z.1 z.2 (level (home o) z.0 z.1 (((f i ok.housed).calm.told o s).marked z.0 z.1 z.2));
      }
    where
      level : (k : ℕ) (e : Listed) → Memᴰ e (w.net.house k).list → census_of w 0 ≤ e.census → e.census ≡ census_of w 0
      level k e m le = let l = fit.held.inv.lines k e m in let p = (f k l.housed).census in let q = l.low in omega arith

  begin_ends : AllCalm → Outcome begun_run
  begin_ends all =
      ⊎_elim (λ (z : Lost). inr z)
      (λ (f : (i : ℕ) → i < houses → Stays i). let k = all_stay f in
      inl (raise houses fit.held.since w.net fit.held.inv (census_of w 0) k, record { then = w; begun = (begun_world, ran, Turn.begin w somebody ready, refl, Upto.all); census = refl; round = refl; complete = k }))
      (look_all all houses (omega arith))

  begin_desked : Desked begun_run
  begin_desked =
      record {
        nows = λ i t b z. absurd (subst IsSome (sym z) tt);
        asked = λ r er. Memᴰ.head (ap (λ (x : ℕ). Round (census_of w 0) x) (sym er));
        befores = λ i t b r er z. Memᴰ.tail (subst (λ (x : ℕ). Memᴰ (Reply (census_of w 0) x i b t) w.said) (less er) (fit.desked.nows i t b z));
        ends = λ _ all. begin_ends all;
      }
    where
      less : {a b : ℕ} → suc a ≡ suc b → a ≡ b
      less e = omega arith

  pub begin_fit : Fit begun_run
  begin_fit = record { held = held_keeps fit.held begin_grows fit.held.names fit.held.since fit.held.inv; desked = begin_desked }
