use Rattle.std.proofs.Common.{◌≡◌, ◌-◌, ◌++◌, length}
use Rattle.tables.specs.Marks.{count}
use Rattle.tables.specs.Shown.{numbers}
use Rattle.tables.proofs.Reach.{Sound, Begun}
use Rattle.tables.proofs.marking.mark.Given as goal

abbrev pub invariant-passes : goal.invariant-passes
invariant-passes l =
    let from = numbers l.roots ++ numbers l.listed in
    record {
      kept : l.marking.objects.now ≡ l.objects;
      same_reference : l.marking.marks.ghost_name ≡ l.initial.marking.marks.ghost_name;
      sound : Sound l.objects from l.marking.marks.now;
      begun : Begun l.objects from l.marking.marks.now;
    }

abbrev pub decreases-passes : goal.decreases-passes
decreases-passes l = length l.marking.marks.now - count l.marking.marks.now
