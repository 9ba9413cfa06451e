use Rattle.std.proofs.Common.{◌≡◌, map, drop, length}
use Rattle.tables.specs.Gathered.{all_there}
use Rattle.tables.specs.Marks.{kept_by}
use Rattle.tables.specs.Met.{everywhere}
use Rattle.tables.specs.Shown.{objects_of}
use Rattle.tables.proofs.gathering.all_fields_stand.Given as goal

abbrev pub invariant-loop-x : goal.invariant-loop-x
invariant-loop-x g l =
    all_there l.which (map g.X.Named.called l.table) (everywhere (kept_by l.marks (objects_of l.objects)))
    ≡ all_there l.which (map g.X.Named.called l.table) (everywhere (kept_by (drop (length l.yielded) l.marks) (objects_of (drop (length l.yielded) l.objects))))
