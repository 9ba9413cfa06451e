use Rattle.std.proofs.Common.{rules, is_ok}
use Rattle.play.specs.Settle.{word_to, each}
use Rattle.net.proofs.SettlingParts.{along_each, along_off, each_off}
use Rattle.net.proofs.net.Net.words.Goals as goal

pub loop-from-preserved : goal.loop-from-preserved
loop-from-preserved c = along_each (λ n i v. each n (λ j u. word_to n i j u) n v) c.loop-from.from c.args.self.now c.loop-from.self c.words_of.new.self c.loop-from.invariant c.in_ok-words_of.ensures

pub returns-in_err-words_of : goal.returns-in_err-words_of
returns-in_err-words_of c =
    along_off (is_ok c.from_residual.result) _ c.args.self.now c.words_of.new.self (search rules)
    (each_off (λ n i v. each n (λ j u. word_to n i j u) n v) c.loop-from.from c.args.self.now c.loop-from.self c.words_of.new.self (search rules) c.loop-from.invariant c.in_err-words_of.ensures)
