-- What is known of a house among n, apart from the others.
use Rattle.std.proofs.Common.{◌≡◌, ℕ, ◌/◌, ◌^◌, ◌<◌, ◌≤◌, true, ◌++◌, length}
use Rattle.wire.specs.Names.{home}
use Rattle.tables.specs.Model.{is_in, present, names, rising}
use Rattle.tables.specs.Met.{everywhere}
use Rattle.census.specs.Laws as census
use Rattle.rules.specs.House as rules

pub record Firm (n i : ℕ) (h : rules.House) : Type 0 where
  pub self : h.heap.home ≡ i
  pub houses : h.heap.houses ≡ n
  pub inside : i < n
  pub few : n ≤ 16
  pub own : (o : ℕ) → present o h.heap.objects ≡ true → home o ≡ i
  pub upto : (o : ℕ) → present o h.heap.objects ≡ true → o / 16 ≤ h.heap.made
  pub fits : (o : ℕ) → is_in o (h.heap.roots ++ everywhere h.heap.objects) ≡ true → o < 2 ^ 32
  pub rises : rising (names h.heap.objects) ≡ true
  pub told : census.Sound h.part
  pub given : length h.stamps.given ≡ 16
  pub seen : length h.stamps.seen ≡ 16
  pub heard : length h.stamps.heard ≡ 16
  pub tally : h.part.tally ≤ 2048
  pub slots : length h.desk.now ≡ 16
