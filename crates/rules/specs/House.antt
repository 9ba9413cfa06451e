-- A house as a whole.
use Rattle.std.specs.Prelude.{ℕ, List, []}
use Rattle.tables.specs.Model.{Heap}
use Rattle.objects.specs.Calls.{new_heap}
use Rattle.lines.specs.Listed.{Listed}
use Rattle.lines.specs.Stamping.{unstamped}
use Rattle.lines.specs.declared.stamps.Stamps.{Stamps}
use Rattle.census.specs.Model.{Part, fresh}
use Rattle.rounds.specs.Model.{Desk, idle}

-- its objects and roots, its list, its stamps, its part in the census, and its rounds, if it is the house that asks them
pub record House : Type 0 where
  pub heap : Heap
  pub list : List Listed
  pub stamps : Stamps
  pub part : Part
  pub desk : Desk

-- its own number, how many houses there are, and its census
abbrev pub self : House → ℕ
self h = h.heap.home

abbrev pub houses : House → ℕ
houses h = h.heap.houses

abbrev pub census : House → ℕ
census h = h.part.census

-- nothing made, given or told yet
abbrev pub empty : ℕ → ℕ → House
empty i n = record { heap = new_heap i n; list = []; stamps = unstamped; part = fresh 0; desk = idle }

abbrev pub with_heap : Heap → House → House
with_heap x h = record { heap = x; list = h.list; stamps = h.stamps; part = h.part; desk = h.desk }

abbrev pub with_list : List Listed → House → House
with_list x h = record { heap = h.heap; list = x; stamps = h.stamps; part = h.part; desk = h.desk }

abbrev pub with_stamps : Stamps → House → House
with_stamps x h = record { heap = h.heap; list = h.list; stamps = x; part = h.part; desk = h.desk }

abbrev pub with_part : Part → House → House
with_part x h = record { heap = h.heap; list = h.list; stamps = h.stamps; part = x; desk = h.desk }

abbrev pub with_desk : Desk → House → House
with_desk x h = record { heap = h.heap; list = h.list; stamps = h.stamps; part = h.part; desk = x }
