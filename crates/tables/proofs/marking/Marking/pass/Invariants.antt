use Rattle.std.proofs.Common.{◌≡◌, ◌≤◌, ltb}
use Rattle.tables.specs.Marks.{passed, count, field_lists}
use Rattle.tables.specs.Shown.{names_in}
use Rattle.tables.proofs.marking.Marking.pass.Given as goal

abbrev pub invariant-loop-i : goal.invariant-loop-i
invariant-loop-i l =
    let was = l.initial.self.marks.now in
    let xs = l.initial.self.objects.now in
    record {
      kept : l.self.objects ≡ l.initial.self.objects;
      same_reference : l.self.marks.ghost_name ≡ l.initial.self.marks.ghost_name;
      after : l.self.marks.now ≡ passed (names_in xs) (field_lists xs) 0 l.i was;
      rises : count was ≤ count l.self.marks.now;
      added : l.added ≡ ltb (count was) (count l.self.marks.now);
    }
