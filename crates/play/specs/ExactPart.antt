-- What is promised of the collector's entries where only a part of what was sent is left.
use Rattle.std.specs.Prelude.{◌≡◌, ℕ, suc, ◌+◌, ◌*◌, ◌<◌, ◌≤◌, List, ◌++◌, length}
use Rattle.rules.specs.House.{House, census}
use Rattle.play.specs.Play.{World, plays, Reach}
use Rattle.play.specs.Settle.{settling}
use Rattle.play.specs.Apart.{Among, PartOf}
use Rattle.play.specs.Exact.{Settles, AllCleaning}
use Rattle.play.specs.Bound.{line_count, most, calls_in, is_tell}

-- the same houses in both, and behind what was there the same new messages
pub record Beside (xs ys : List (List ℕ)) (w v : World) : Type 0 where
  pub house : ℕ → House
  pub new : List (List ℕ)
  pub left : w ≡ record { house = house; sent = xs ++ new }
  pub right : v ≡ record { house = house; sent = ys ++ new }

-- what settling makes of some houses, and what it makes them send, does not depend on what was sent before
abbrev pub SettlesAlike : Type 0
SettlesAlike =
    (n : ℕ) (f : ℕ → House) (xs ys : List (List ℕ)) →
    let w : World = record { house = f; sent = xs } in let v : World = record { house = f; sent = ys } in Beside xs ys (plays n (settling n w) w) (plays n (settling n v) v)

-- from w to v: over all that was ever sent, what is left is exactly what matters
pub record SettlesPart (n : ℕ) (w v : World) : Type 0 where
  -- all that was sent before, and what is sent now
  pub all : List (List ℕ)
  pub new : List (List ℕ)
  pub reached : Reach n (record { house = w.house; sent = all })
  pub among : Among w.sent all
  pub grown : v.sent ≡ w.sent ++ new
  pub settles : Settles n (record { house = w.house; sent = all }) (record { house = v.house; sent = all ++ new })

-- the collector's entries leave exactly what matters, whatever was lost before
abbrev pub AlwaysSettlesPart : Type 0
AlwaysSettlesPart =
    (n : ℕ) → 0 < n → n ≤ 16 → (w : World) → PartOf n w → ((i : ℕ) → i < n → census (w.house i) < 4294967295) → SettlesPart n w (plays n (settling n w) w)

-- they are all the collector's
abbrev pub OnlyCleansPart : Type 0
OnlyCleansPart = (n : ℕ) → n ≤ 16 → (w : World) → PartOf n w → AllCleaning n (settling n w) w

-- so much is sent at most
abbrev pub BoundedPart : Type 0
BoundedPart =
    (n : ℕ) → 0 < n → n ≤ 16 → (w : World) → PartOf n w → ((i : ℕ) → i < n → census (w.house i) < 4294967295) → length (plays n (settling n w) w).sent ≤ length w.sent + most n (line_count n w)

-- and there are no more passes
abbrev pub FewPassesPart : Type 0
FewPassesPart = (n : ℕ) → 0 < n → n ≤ 16 → (w : World) → PartOf n w → ((i : ℕ) → i < n → census (w.house i) < 4294967295) → calls_in is_tell (settling n w) ≤ n * suc (line_count n w)

-- nor more lines
abbrev pub FewLinesPart : Type 0
FewLinesPart = (n : ℕ) → n ≤ 16 → (w : World) → PartOf n w → line_count n w ≤ 2048 * n
