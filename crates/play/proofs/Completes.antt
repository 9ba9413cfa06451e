-- From a world in which all houses have just joined a census, the collector's entries bring it to its end: only lines of it are left.
use Rattle.std.proofs.Common.{ℕ, ◌+◌, ◌*◌, ◌<◌, sym, ap, subst, arith}
use Rattle.census.specs.Model.{Part}
use Rattle.play.specs.Play.{World, plays}
use Rattle.play.specs.Settle.{and_then, tallies, passes, rounding, completing}
use Rattle.play.specs.Exact.{Joined, Swept}
use Rattle.play.proofs.Tracking.{Kept}
use Rattle.play.proofs.FairEntries.{plays_append}
use Rattle.play.proofs.CalmRounds.{two_rounds}
use Rattle.play.proofs.CompletePass.{Begun, Settled, settles}

pub completes : (n c : ℕ) (w : World) → 0 < n → Kept n w → Joined n c w → Swept n c (plays n (completing n w) w)
completes n c w some kept j =
    subst (Swept n c) (sym (plays_append n (passes (2048 * n + 1) n w) (and_then n v (rounding n v) (λ u. rounding n u)) w))
    (two_rounds n c (λ i. (v.house i).part.tally) some v s.kept s.calm s.desk)
  where
    begun : Begun n c w
    begun = record { kept = kept; census = j.census; stirred = λ i l. ap (λ (p : Part). p.stirred) (j.part i l); desk = j.desk }

    v : World
    v = plays n (passes (2048 * n + 1) n w) w

    room : (a t : ℕ) → a < a + 1 + t
    room a t = omega arith

    s : Settled n c v
    s = settles n c some (2048 * n + 1) w begun (room (2048 * n) (tallies n w))
