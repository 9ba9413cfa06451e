use Rattle.std.proofs.Common.{◌≡◌, ◌≤◌, drop}
use Rattle.text.specs.Numbers.{capped, digits, decimal, most}
use Rattle.text.proofs.numbers.decimal_value.Given as goal

abbrev pub invariant-loop-c : goal.invariant-loop-c
invariant-loop-c l = (l.n ≤ most) × (capped (decimal l.word) ≡ capped (digits l.n (drop l.c-index l.word)))
