use Rattle.std.proofs.Common.{◌≡◌, ◌≤◌, ltb, drop}
use Rattle.tables.specs.Marks.{noted_all, count}
use Rattle.tables.specs.Shown.{numbers, names_in}
use Rattle.tables.proofs.marking.Marking.spread.Given as goal

abbrev pub invariant-loop-p : goal.invariant-loop-p
invariant-loop-p l =
    let was = l.initial.self.marks.now in
    let ns = names_in l.initial.self.objects.now in
    record {
      kept : l.self.objects ≡ l.initial.self.objects;
      same_reference : l.self.marks.ghost_name ≡ l.initial.self.marks.ghost_name;
      left : noted_all (numbers l.names) ns was ≡ noted_all (numbers (drop l.p-index l.names)) ns l.self.marks.now;
      rises : count was ≤ count l.self.marks.now;
      added : l.added ≡ ltb (count was) (count l.self.marks.now);
    }
