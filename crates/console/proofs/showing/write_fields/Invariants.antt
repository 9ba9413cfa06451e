use Rattle.std.proofs.Common.{◌≡◌, ◌++◌, take, string_bytes}
use Rattle.std.specs.Prelude.{flat_map}
use Rattle.tables.specs.Shown.{numbers}
use Rattle.console.specs.Showing.{field_text}
use Rattle.console.proofs.showing.write_fields.Given as goal

abbrev pub invariant-loop-field : goal.invariant-loop-field
invariant-loop-field l = string_bytes l.out ≡ string_bytes l.initial.out ++ flat_map field_text (numbers (take l.field-index l.fields))
