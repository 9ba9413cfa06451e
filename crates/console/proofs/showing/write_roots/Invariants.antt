use Rattle.std.proofs.Common.{◌≡◌, ◌++◌, take, string_bytes}
use Rattle.std.specs.Prelude.{flat_map}
use Rattle.tables.specs.Shown.{numbers}
use Rattle.console.specs.Showing.{root_text}
use Rattle.console.proofs.showing.write_roots.Given as goal

abbrev pub invariant-loop-root : goal.invariant-loop-root
invariant-loop-root l = string_bytes l.out ≡ string_bytes l.initial.out ++ flat_map root_text (numbers (take l.root-index l.roots))
