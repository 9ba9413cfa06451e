use Rattle.std.proofs.Common.{◌≡◌, ◌+◌, ◌≤◌, ◌++◌, length, drop, vec_items, vec_len, vec_capacity}
use Rattle.tables.specs.Shown.{numbers}
use Rattle.census.specs.Model.{unanswered}
use Rattle.census.specs.Shown.{told_of}
use Rattle.census.proofs.tellings.Tellings.list_unanswered.Given as goal

abbrev pub invariant-loop-told : goal.invariant-loop-told
invariant-loop-told l =
    (numbers (vec_items l.due) ++ unanswered (told_of (drop l.told-index l.self.entries.items)) ≡ numbers (vec_items l.initial.due) ++ unanswered (told_of l.self.entries.items))
    × (vec_len l.due + length (unanswered (told_of (drop l.told-index l.self.entries.items))) ≤ vec_capacity l.due)
