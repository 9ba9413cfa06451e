-- Two rounds among calm houses end the census: all lists have only lines of it.
use Rattle.std.proofs.Common.{◌≡◌, ℕ, suc, ◌+◌, ◌<◌, Bool, true, false, ◌&&◌, eqb, map, sym, refl, ap, ◌∙◌, subst, arith}
use Rattle.std.proofs.lemmas.Bool.{or_left, and_right}
use Rattle.rounds.specs.Model.{Desk, idle}
use Rattle.play.specs.Play.{World, plays}
use Rattle.play.specs.Settle.{below, and_then, rounding}
use Rattle.play.specs.Exact.{Swept}
use Rattle.play.proofs.Tracking.{Kept}
use Rattle.play.proofs.FairEntries.{plays_append}
use Rattle.play.proofs.Pump.{Waits, pump_end}
use Rattle.play.proofs.Calm.{reply_of}
use Rattle.play.proofs.CalmDesk.{Heard, Spoken, heard_next, ready_spoken, first_round, second_round}
use Rattle.play.proofs.CalmAsked.{AllCalm, rounding_on}
use Rattle.play.proofs.CalmHeard.{hears_all, swept_by}

same_and : (b : Bool) → b ≡ (b && true)
same_and true = refl
same_and false = refl

module _ (n c : ℕ) (t : ℕ → ℕ) (some : 0 < n) where
  -- the second
  second : (v : World) → Kept n v → AllCalm n c t v → (v.house 0).desk.round ≡ 1 → Spoken t n (v.house 0).desk.now → Swept n c (plays n (rounding n v) v)
  second v kept calm one all =
      rounding_on (Swept n c) n c t v kept some calm (ready_spoken t n (v.house 0).desk all) (omega arith) (λ u m k q still e room.
      hears_all (Swept n c) n c 2 t (v.house 0).desk.now true some (omega arith) (λ j d h lt. second_round t n j (v.house 0).desk.now d h all lt kept.few ∙ same_and (eqb (suc j) n)) m k u
      (subst (λ (r : ℕ). Waits n m u (map (reply_of c r t) (below n))) two q) still
      (subst (λ (r : ℕ). Heard t r 0 (v.house 0).desk.now (u.house 0).desk) two (subst (Heard t ((v.house 0).desk.round + 1) 0 (v.house 0).desk.now) (sym e) (heard_next t (v.house 0).desk))) room
      (λ x l i p a b fuel. swept_by n c l i x p (λ y z. (a y z).census) (omega arith)))
    where
      two : (v.house 0).desk.round + 1 ≡ 2
      two = omega arith

  pub two_rounds : (w : World) → Kept n w → AllCalm n c t w → (w.house 0).desk ≡ idle → Swept n c (plays n (and_then n w (rounding n w) (λ u. rounding n u)) w)
  two_rounds w kept calm new =
      subst (Swept n c) (sym (plays_append n (rounding n w) (rounding n (plays n (rounding n w) w)) w))
      (rounding_on (λ u. Swept n c (plays n (rounding n u) u)) n c t w kept some calm (or_left (eqb (w.house 0).desk.round 0) _ (ap (λ (d : Desk). eqb d.round 0) new)) (omega (arith, zero_round)) (λ u m k q still e room.
      hears_all (λ u. Swept n c (plays n (rounding n u) u)) n c 1 t (w.house 0).desk.now false some (omega arith) (λ j d h lt. first_round t n j (w.house 0).desk.now d h (omega (arith, kept.few)) ∙ sym (and_right (eqb (suc j) n) false refl)) m k u
      (subst (λ (r : ℕ). Waits n m u (map (reply_of c r t) (below n))) one q) still
      (subst (λ (r : ℕ). Heard t r 0 (w.house 0).desk.now (u.house 0).desk) one (subst (Heard t ((w.house 0).desk.round + 1) 0 (w.house 0).desk.now) (sym e) (heard_next t (w.house 0).desk))) room
      (λ x l i p a b fuel. pump_end (λ u. Swept n c (plays n (rounding n u) u)) n i l x p (second x p.kept a b.round (λ y z. b.done y z)))))
    where
      zero_round : (w.house 0).desk.round ≡ 0
      zero_round = ap (λ (d : Desk). d.round) new

      one : (w.house 0).desk.round + 1 ≡ 1
      one = omega (arith, zero_round)
