use Rattle.std.proofs.Common.{rules, is_ok}
use Rattle.play.specs.Settle.{word_to}
use Rattle.net.proofs.SettlingParts.{along_each, along_off, each_off}
use Rattle.net.proofs.net.Net.words_of.Goals as goal

pub loop-to-preserved : goal.loop-to-preserved
loop-to-preserved c = along_each (λ n j u. word_to n c.args.from j u) c.loop-to.to c.args.self.now c.loop-to.self c.word.new.self c.loop-to.invariant c.in_ok-word.ensures

pub returns-in_err-word : goal.returns-in_err-word
returns-in_err-word c =
    along_off (is_ok c.from_residual.result) _ c.args.self.now c.word.new.self (search rules)
    (each_off (λ n j u. word_to n c.args.from j u) c.loop-to.to c.args.self.now c.loop-to.self c.word.new.self (search rules) c.loop-to.invariant c.in_err-word.ensures)
