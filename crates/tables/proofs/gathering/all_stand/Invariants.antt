use Rattle.std.proofs.Common.{◌≡◌, map, drop}
use Rattle.tables.specs.Gathered.{all_there}
use Rattle.tables.specs.Shown.{numbers}
use Rattle.tables.proofs.gathering.all_stand.Given as goal

abbrev pub invariant-loop-p : goal.invariant-loop-p
invariant-loop-p g l = all_there l.which (map g.X.Named.called l.table) (numbers l.names) ≡ all_there l.which (map g.X.Named.called l.table) (numbers (drop l.p-index l.names))
