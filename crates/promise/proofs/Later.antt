-- No step takes a house back to an earlier census.
use Rattle.std.proofs.Common.{◌≡◌, ℕ, ◌<◌, ◌≤◌, sym, refl, arith}
use Rattle.lines.specs.Listed.{marked}
use Rattle.promise.specs.Net.{in_census, with_list}
use Rattle.promise.specs.Rounds.{World, census_of, Turn, Runs}
use Rattle.promise.proofs.Base.{same_at, set_elim}
use Rattle.promise.proofs.Moves.{uses_moves, cleans_moves}
use Rattle.promise.proofs.Ends.{good_of}

eq : {a b : ℕ} → b ≡ a → a ≤ b
eq e = omega arith

pub turn_later : {houses : ℕ} {w v : World} → Runs houses w → Turn houses w v → (i : ℕ) → census_of w i ≤ census_of v i
turn_later r (Turn.uses w u) i = let g = good_of r in eq ((uses_moves {since = g.since} w.part u g.inv g.names).census i)
turn_later r (Turn.cleans w s a) i = let g = good_of r in eq ((cleans_moves {since = g.since} w.part s a g.inv g.names).census i)
turn_later r (Turn.join w j c a b) i = set_elim (λ k h. census_of w k ≤ h.census) j (in_census c (w.net.house j)) w.net.house (less b) (λ k. omega arith) i
  where
    less : {x y : ℕ} → x < y → x ≤ y
    less p = omega arith
turn_later r (Turn.tell w j o a b d) i = omega arith
turn_later r (Turn.mark w k o j a b d) i = eq (same_at (λ h. h.census) k (with_list (marked (census_of w k) o j (w.net.house k).list) (w.net.house k)) w.net.house refl i)
turn_later r (Turn.answer w j o a b d) i = omega arith
turn_later r (Turn.begin w a b) i = omega arith
turn_later r (Turn.reply w j q b a d e f) i = omega arith
turn_later r (Turn.note w j b t a d e) i = omega arith
turn_later r (Turn.complete w e) i = omega arith
turn_later r (Turn.alike w v a) i = eq (sym (a.net.house i).census)
