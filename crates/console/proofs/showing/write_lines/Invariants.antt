use Rattle.std.proofs.Common.{◌≡◌, ◌++◌, take, string_bytes}
use Rattle.std.specs.Prelude.{flat_map}
use Rattle.store.specs.Stores.{house_in}
use Rattle.console.specs.Showing.{line_text}
use Rattle.console.proofs.showing.write_lines.Given as goal

abbrev pub invariant-loop-i : goal.invariant-loop-i
invariant-loop-i l = string_bytes l.out ≡ string_bytes l.initial.out ++ flat_map line_text (take l.i (house_in l.store).list)
