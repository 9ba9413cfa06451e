-- The other promises: stamps hold, names are never used again, a complete census stays complete and finds all that matters, the collector alone changes nothing that matters.
use Rattle.std.proofs.Common.{ℕ, arith}
use Rattle.promise.specs.Net.{Sweep, Net, Uses, Cleans, sends}
use Rattle.promise.specs.Alike.{AlikeNet}
use Rattle.promise.specs.Rounds.{World, Ended, census_of, Turn, Runs}
use Rattle.promise.specs.Promise.{Collects, RoundsStays, RoundsFound, RoundsStamps, RoundsFresh, RoundsNothing}
use Rattle.promise.proofs.Inv.{view, Inv}
use Rattle.promise.proofs.Send.{sending, raise, complete_from}
use Rattle.promise.proofs.Steps.{Good, Easy, easy, uses_inv, cleans_inv}
use Rattle.promise.proofs.Stand.{found_from}
use Rattle.promise.proofs.Alike.{alike_inv}
use Rattle.promise.proofs.Fresh.{Bounds, start_bounds, alike_bounds, uses_bounds, cleans_bounds, bounds_sends, fresh_from}
use Rattle.promise.proofs.Nothing.{Both, cleans_both, sent_more, alike_both}
use Rattle.promise.proofs.Ends.{good_of}

-- what a turn does to the net: nothing, a step of the net, the end of a census, or another order
data Core (houses : ℕ) (w : World) : Net → Type 0 where
  still : Core houses w w.net
  uses : {m : Net} → Uses houses w.net m → Core houses w m
  cleans : {m : Net} (s : Cleans houses w.net m) → Easy s → Core houses w m
  ends : Ended houses w.desk → Core houses w (sends (Sweep (census_of w 0)) w.net)
  alike : {m : Net} → AlikeNet w.net m → Core houses w m

core : {houses : ℕ} {w v : World} → Turn houses w v → Core houses w v.net
core (Turn.uses w u) = Core.uses u
core (Turn.cleans w s a) = Core.cleans s (easy s a)
core (Turn.join w i c a b) = Core.cleans (Cleans.join w.net i c a b) tt
core (Turn.tell w i o a b d) = Core.cleans (Cleans.tell w.net i o a b d) tt
core (Turn.mark w k o i a b d) = Core.cleans (Cleans.mark w.net k o i a b d) tt
core (Turn.answer w i o a b d) = Core.still
core (Turn.begin w a b) = Core.still
core (Turn.reply w i r b a d e f) = Core.still
core (Turn.note w i b t a d e) = Core.still
core (Turn.complete w e) = Core.ends e
core (Turn.alike w v a) = Core.alike a.net

pub rounds_stays : RoundsStays
rounds_stays houses c small w v r k t all = complete_from houses c v.net (step (core t)) all
  where
    g : Good houses w.net
    g = good_of r

    inv : Inv houses c (view w.net)
    inv = raise houses g.since w.net g.inv c k

    step : {m : Net} → Core houses w m → Inv houses c (view m)
    step Core.still = inv
    step (Core.uses u) = uses_inv u g.names inv
    step (Core.cleans s e) = cleans_inv s e g.names inv
    step (Core.alike a) = alike_inv w.net _ a houses c inv
    step (Core.ends e) = sending houses c w.net inv (Sweep (census_of w 0)) (λ l. let z = k.all 0 l in omega arith)

pub rounds_found : RoundsFound
rounds_found houses c small w r k j o h = found_from houses c w.net (good_of r) k j o h

pub rounds_stamps : RoundsStamps
rounds_stamps houses small w r j k = (good_of r).inv.stamps j k

core_bounds : {houses : ℕ} {w : World} {m : Net} → Good houses w.net → Core houses w m → Bounds w.net → Bounds m
core_bounds g Core.still x = x
core_bounds g (Core.uses u) x = uses_bounds u g x
core_bounds g (Core.cleans s e) x = cleans_bounds s x
core_bounds {w = w} g (Core.ends e) x = bounds_sends w.net (Sweep (census_of w 0)) x tt
core_bounds g (Core.alike a) x = alike_bounds a x

all_bounds : {houses : ℕ} {w : World} → Runs houses w → Bounds w.net
all_bounds Runs.begun = start_bounds
all_bounds (Runs.then r t) = core_bounds (good_of r) (core t) (all_bounds r)

pub rounds_fresh : RoundsFresh
rounds_fresh houses small w r = fresh_from houses w.net (good_of r) (all_bounds r)

unchanged : {n : Net} → Both n n
unchanged j o = (λ x. x, λ x. x)

turn_both : {houses : ℕ} {w v : World} → Runs houses w → (t : Turn houses w v) → Collects t → Both w.net v.net
turn_both r (Turn.uses w u) x = absurd x
turn_both r (Turn.cleans w s a) x = cleans_both (good_of r) s
turn_both r (Turn.join w i c a b) x = cleans_both (good_of r) (Cleans.join w.net i c a b)
turn_both r (Turn.tell w i o a b d) x = cleans_both (good_of r) (Cleans.tell w.net i o a b d)
turn_both r (Turn.mark w k o i a b d) x = cleans_both (good_of r) (Cleans.mark w.net k o i a b d)
turn_both r (Turn.answer w i o a b d) x = unchanged
turn_both r (Turn.begin w a b) x = unchanged
turn_both r (Turn.reply w i q b a d e f) x = unchanged
turn_both r (Turn.note w i b t a d e) x = unchanged
turn_both r (Turn.complete w e) x = sent_more w.net (Sweep (census_of w 0)) tt
turn_both r (Turn.alike w v a) x = alike_both a.net

pub rounds_nothing : RoundsNothing
rounds_nothing houses small w v r t x = turn_both r t x
