use Rattle.std.proofs.Common.{true}
use Rattle.play.specs.Settle.{each, word_to}
use Rattle.net.specs.Settling.{Along}
use Rattle.net.proofs.net.Net.words.Given as goal

abbrev pub invariant-loop-from : goal.invariant-loop-from
invariant-loop-from l = Along true (λ n w. each n (λ i v. each n (λ j u. word_to n i j u) n v) l.from w) l.initial.self l.self
