use Rattle.std.proofs.Common.{◌≡◌, ◌++◌, string_bytes}
use Rattle.console.specs.Forms.{sends_to_all}
use Rattle.console.proofs.forms.write_sends_to_all.Given as goal

-- the lines so far are those of the houses so far
abbrev pub invariant-loop-house : goal.invariant-loop-house
invariant-loop-house l = string_bytes l.out ≡ string_bytes l.initial.out ++ sends_to_all l.house l.bytes
