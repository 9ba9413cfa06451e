use Rattle.std.proofs.Common.{true}
use Rattle.play.specs.Settle.{each, word_to}
use Rattle.net.specs.Settling.{Along}
use Rattle.net.proofs.net.Net.words_of.Given as goal

abbrev pub invariant-loop-to : goal.invariant-loop-to
invariant-loop-to l = Along true (λ n w. each n (λ j u. word_to n l.from j u) l.to w) l.initial.self l.self
