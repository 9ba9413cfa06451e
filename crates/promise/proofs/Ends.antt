-- Every turn keeps what holds, so whatever matters is there, and what the rounds find is true.
use Rattle.std.proofs.Common.{◌≡◌, ℕ, ◌<◌, Bool, true, eqb, sym, refl, ap, ◌∙◌, subst, inl, inr, ⊎_elim, arith}
use mathlib.Core.List.Memᴰ
use mathlib.Core.List.{Memᴰ}
use Rattle.promise.specs.Net.{Sweep, Cleans, sends}
use Rattle.promise.specs.Rounds.{Slot, none, some, Desk, idle, Reply, World, set, stirs, Ended, census_of, Turn, Runs, Alike}
use Rattle.promise.specs.Promise.{RoundsMain, RoundsTrue, RoundsStill}
use Rattle.promise.proofs.Base.{eq→eqb, cond_elim, same?, same_at, set_elim}
use Rattle.promise.proofs.Inv.{view, Inv, Names}
use Rattle.promise.proofs.Shift.{joins, marks}
use Rattle.promise.proofs.Send.{sending, tell_ok, complete_from}
use Rattle.promise.proofs.Steps.{easy, uses_names, cleans_names, uses_inv, cleans_inv, start_good, Good}
use Rattle.promise.proofs.Stand.{has_there}
use Rattle.promise.proofs.Effect.{effect_none}
use Rattle.promise.proofs.Alike.{alike_inv, alike_names}
use Rattle.promise.proofs.Turns.{Held, wider_same, Grows, held_keeps, Doomed, Won, begins_on, desk_keeps}
use Rattle.promise.proofs.Moves.{uses_moves, cleans_moves, no_mark}
use Rattle.promise.proofs.Grow.{moves_grows, desk_grows, joined_world, join_other, join_grows, tell_grows, lined, mark_grows, reply_grows, answer_grows, alike_grows}
use Rattle.promise.proofs.Begin.{Fit, idle_desked, begin_fit}

abbrev SlotP : World → ℕ → Slot → Type 0
SlotP w j none = Unit {0}
SlotP w j (some e u) = Memᴰ (Reply (census_of w 0) w.desk.round j e u) w.said

-- an answer is noted
note_fit : {houses : ℕ} (w : World) {run : Runs houses w} → Fit run → (i : ℕ) (b : Bool) (t : ℕ) → Memᴰ (Reply (census_of w 0) w.desk.round i b t) w.said →
    (turn : Turn houses w (record { net = w.net; part = w.part; desk = record { round = w.desk.round; now = set i (some b t) w.desk.now; before = w.desk.before }; said = w.said })) → Fit (Runs.then run turn)
note_fit {houses} w fit i b t sent turn =
    record {
      held = held_keeps h (desk_grows w h d w.said (omega arith) (λ y m. m) (λ y m. inl m) (λ c r j u m. m)) h.names h.since h.inv;
      desked = record {
        nows = λ j u e z. noted j u e z;
        asked = fit.desked.asked;
        befores = fit.desked.befores;
        ends = λ two all. ⊎_elim
            (λ z. inl (z.0, record { then = z.1.then; begun = begins_on z.1.begun turn; census = z.1.census; round = z.1.round; complete = z.1.complete }))
            (λ z. inr (z.0, z.1, z.2, z.3, record { unsaid = z.4.unsaid; moved = z.4.moved })) (fit.desked.ends two all);
      };
    }
  where
    h : Held houses w
    h = fit.held

    d : Desk
    d = record { round = w.desk.round; now = set i (some b t) w.desk.now; before = w.desk.before }

    slots : (j : ℕ) (s : Slot) → w.desk.now j ≡ s → SlotP w j s
    slots j none e = tt
    slots j (some c u) e = fit.desked.nows j u c e

    noted : (j u : ℕ) (e : Bool) → set i (some b t) w.desk.now j ≡ some e u → Memᴰ (Reply (census_of w 0) w.desk.round j e u) w.said
    noted j u e z = subst (λ (s : Slot). SlotP w j s) z (set_elim (λ j s. SlotP w j s) i (some b t) w.desk.now sent (λ j. slots j (w.desk.now j) refl) j)

abbrev tally_of : Slot → ℕ
tally_of none = 0
tally_of (some b t) = t

-- the rounds have ended: the census is complete, or was since the last was begun
ended_won : {houses : ℕ} {w : World} {run : Runs houses w} → Fit run → Ended houses w.desk → Won run
ended_won {houses} {w} {run} fit e =
    ⊎_elim (λ (z : Won run). z)
    (λ (z : (i : ℕ) × (t : ℕ) × (i < houses) × (w.desk.before i ≡ some true t) × Doomed w i t).
    let s = e.same z.0 z.2 in
    let same : z.1 ≡ s.0 = ap tally_of (sym z.3 ∙ s.2) in
    absurd (z.4.unsaid (subst (λ (x : ℕ). Memᴰ (Reply (census_of w 0) w.desk.round z.0 true x) w.said) (sym same) (fit.desked.nows z.0 s.0 true s.1))))
    (fit.desked.ends e.second (λ i l. let s = e.same i l in (s.0, s.2)))

-- a turn that leaves house 0's rounds alone
same_fit : {houses : ℕ} {w v : World} {run : Runs houses w} (fit : Fit run) → (turn : Turn houses w v) → Grows houses fit.held.since w v → v.desk ≡ w.desk → census_of v 0 ≡ census_of w 0 → Names (view v.net) v.net.made →
    ((c : ℕ) → Inv houses c (view w.net) → Inv houses c (view v.net)) → Fit (Runs.then run turn)
same_fit fit turn g ed ec names keep =
    record { held = held_keeps fit.held g names fit.held.since (keep fit.held.since fit.held.inv); desked = desk_keeps fit.held fit.desked g ed ec (keep _) turn }

step_fit : {houses : ℕ} {w v : World} (run : Runs houses w) → Fit run → (turn : Turn houses w v) → Fit (Runs.then run turn)
step_fit {houses} ran fit (Turn.uses w {m = m} u) =
    let h = fit.held in
    let z = uses_moves {since = h.since} w.part u h.inv h.names in
    same_fit fit (Turn.uses w u) (moves_grows w h (stirs u w.part) z) refl (z.census 0) (uses_names u h.names) (λ c inv. uses_inv u h.names inv)
step_fit {houses} ran fit (Turn.cleans w s a) =
    let h = fit.held in
    let z = cleans_moves {since = h.since} w.part s a h.inv h.names in
    same_fit fit (Turn.cleans w s a) (moves_grows w h w.part z) refl (z.census 0) (cleans_names s h.names) (λ c inv. cleans_inv s (easy s a) h.names inv)
step_fit {houses} ran fit (Turn.join w i c a b) =
    let h = fit.held in
    let g = join_grows w h i c a b in
    let s = Cleans.join w.net i c a b in
    let keep = λ (d : ℕ) (inv : Inv houses d (view w.net)). joins houses d w.net i a inv c b in
    record {
      held = held_keeps h g (cleans_names s h.names) h.since (keep h.since h.inv);
      desked = ⊎_elim (λ (e : i ≡ 0). idle_desked {houses = houses} {w = joined_world w h i c a b} (cond_elim (eqb i 0) (λ d. d ≡ idle) (λ _. refl) (λ n. absurd (n (eq→eqb e)))))
          (λ (n : i ≡ 0 → ⊥). let z = join_other w h i c a b n in desk_keeps h fit.desked g z.0 z.1 (keep (census_of w 0)) (Turn.join w i c a b)) (same? i 0);
    }
step_fit {houses} ran fit (Turn.tell w i o a b d) =
    let h = fit.held in
    same_fit fit (Turn.tell w i o a b d) (tell_grows w h i o b d) refl refl (cleans_names (Cleans.tell w.net i o a b d) h.names) (λ c inv. sending houses c w.net inv _ (tell_ok houses c w.net inv i o a b d))
step_fit {houses} ran fit (Turn.mark w k o i a b d) =
    let h = fit.held in
    same_fit fit (Turn.mark w k o i a b d) (mark_grows w h k o i a b) refl (same_at (λ g. g.census) k (lined w h k o i a b) w.net.house refl 0) (cleans_names (Cleans.mark w.net k o i a b d) h.names) (λ c inv. marks houses c w.net k a inv o i b d)
step_fit {houses} ran fit (Turn.answer w i o a b d) = same_fit fit (Turn.answer w i o a b d) (answer_grows w fit.held i o b) refl refl fit.held.names (λ c inv. inv)
step_fit {houses} ran fit (Turn.begin w a b) = begin_fit w ran fit a b
step_fit {houses} ran fit (Turn.reply w i r b a d e f) = same_fit fit (Turn.reply w i r b a d e f) (reply_grows w fit.held i r b a d e) refl refl fit.held.names (λ c inv. inv)
step_fit {houses} ran fit (Turn.note w i b t a d e) = note_fit w fit i b t d (Turn.note w i b t a d e)
step_fit {houses} ran fit (Turn.complete w e) =
    let h = fit.held in
    let z = ended_won fit e in
    let g : Grows houses h.since w (record { net = sends (Sweep (census_of w 0)) w.net; part = w.part; desk = w.desk; said = w.said }) =
    record {
      effect = effect_none h.since w.net (Sweep (census_of w 0));
      parts = λ j. inr (refl, wider_same _ (w.part j));
      desk = inr (refl, omega arith);
      said = λ x m. m;
      notes = λ x m. inl m;
      marks = λ c o j m. inl (no_mark (Sweep (census_of w 0)) tt c o j m);
      replies = λ c r j t m. inl m;
      meets = λ j c _ _ _ _ o m a. inl m;
    } in
    let keep = λ (inv : Inv houses (census_of w 0) (view w.net)). sending houses (census_of w 0) w.net inv (Sweep (census_of w 0)) (λ _. omega arith) in
    record {
      held = held_keeps h g (record { named = h.names.named; once = h.names.once }) (census_of w 0) (keep z.0);
      desked = desk_keeps h fit.desked g refl refl keep (Turn.complete w e);
    }
step_fit {houses} ran fit (Turn.alike w v a) =
    let h = fit.held in
    same_fit fit (Turn.alike w v a) (alike_grows w h v a) (same_desk a) (sym (a.net.house 0).census) (alike_names w.net v.net a.net h.names) (λ c inv. alike_inv w.net v.net a.net houses c inv)
  where
    same_desk : {w v : World} → Alike w v → v.desk ≡ w.desk
    same_desk a = λ t. record { round = (sym a.round) t; now = λ i. (sym (a.now i)) t; before = λ i. (sym (a.before i)) t }

pub fits : {houses : ℕ} {w : World} (run : Runs houses w) → Fit run
fits {houses} Runs.begun =
    let g = start_good houses in
    record {
      held = record {
        names = g.names;
        since = g.since;
        inv = g.inv;
        notes = λ x m. absurd (Memᴰ.not-nil m);
        told = λ i o m. absurd (Memᴰ.not-nil m);
        answered = λ i o t. absurd t;
        quiet = λ c r i t m. absurd (Memᴰ.not-nil m);
      };
      desked = idle_desked refl;
    }
fits (Runs.then r t) = step_fit r (fits r) t

pub good_of : {houses : ℕ} {w : World} → Runs houses w → Good houses w.net
good_of r = let h = (fits r).held in record { names = h.names; since = h.since; inv = h.inv }

pub rounds_main : RoundsMain
rounds_main houses small w r j o h = let g = (fits r).held in has_there houses g.since w.net g.inv h

pub rounds_true : RoundsTrue
rounds_true houses small w r e = let z = (ended_won (fits r) e).1 in (z.then, z.begun, z.census, z.round, z.complete)

pub rounds_still : RoundsStill
rounds_still houses small w r e all = complete_from houses (census_of w 0) w.net (ended_won (fits r) e).0 all
