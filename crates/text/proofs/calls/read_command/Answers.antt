use Rattle.std.proofs.Common.{◌≡◌, codes, rules, arith}
use Rattle.std.proofs.lemmas.Slice.Eq.{text_from_reads}
use Rattle.text.proofs.calls.read_command.Goals as goal

pub returns-in-unlink : goal.returns-in-unlink
returns-in-unlink c = let e : c.args.word.now ≡ codes "unlink" = text_from_reads c.args.word.now (codes "unlink") (omega arith) (search rules) in rw e

pub returns-in-collect : goal.returns-in-collect
returns-in-collect c = let e : c.args.word.now ≡ codes "collect" = text_from_reads c.args.word.now (codes "collect") (omega arith) (search rules) in rw e
