-- Tables that are lent together.
use Rattle.std.specs.Prelude.{◌≡◌}
use Rattle.objects.specs.declared.store.Objects.{Objects}
use Rattle.objects.specs.Calls.{heap_of}
use Rattle.lines.specs.declared.table.Lines.{Lines}

-- objects and list are of one house, and the list has room for 2,048 lines
pub record Tied (os : Objects) (ls : Lines) : Type 0 where
  pub home : ls.home.0 ≡ (heap_of os).home
  pub houses : ls.houses ≡ (heap_of os).houses
  pub room : ls.room ≡ 2048
