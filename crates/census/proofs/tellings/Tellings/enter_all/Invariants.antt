use Rattle.std.proofs.Common.{◌≡◌, ◌+◌, ◌≤◌, length, drop, vec_len, vec_capacity}
use Rattle.tables.specs.Shown.{numbers}
use Rattle.census.specs.Model.{untold, entered_all}
use Rattle.census.specs.Shown.{told_of}
use Rattle.census.proofs.tellings.Tellings.enter_all.Given as goal

abbrev pub invariant-loop-o : goal.invariant-loop-o
invariant-loop-o l =
    (entered_all (numbers (drop l.o-index l.in_use)) (told_of l.self.entries.items) ≡ entered_all (numbers l.in_use) (told_of l.initial.self.entries.items))
    × (vec_len l.self.entries + length (untold (numbers (drop l.o-index l.in_use)) (told_of l.self.entries.items)) ≤ vec_capacity l.self.entries)
