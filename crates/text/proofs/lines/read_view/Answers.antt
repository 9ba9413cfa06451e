use Rattle.std.proofs.Common.{◌≡◌, codes, rules, arith}
use Rattle.std.proofs.lemmas.Slice.Eq.{text_from_reads}
use Rattle.text.proofs.lines.read_view.Goals as goal

pub returns-in-status : goal.returns-in-status
returns-in-status c = let e : c.args.word.now ≡ codes "status" = text_from_reads c.args.word.now (codes "status") (omega arith) (search rules) in rw e
