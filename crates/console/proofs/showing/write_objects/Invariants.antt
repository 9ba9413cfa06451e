use Rattle.std.proofs.Common.{◌≡◌, ◌++◌, take, string_bytes}
use Rattle.std.specs.Prelude.{flat_map}
use Rattle.tables.specs.Shown.{objects_of}
use Rattle.console.specs.Showing.{object_text}
use Rattle.console.proofs.showing.write_objects.Given as goal

abbrev pub invariant-loop-object : goal.invariant-loop-object
invariant-loop-object l = string_bytes l.out ≡ string_bytes l.initial.out ++ flat_map object_text (objects_of (take l.object-index l.objects))
