use Rattle.std.proofs.Common.{◌≡◌, codes, rules, arith}
use Rattle.std.proofs.lemmas.Slice.Eq.{text_from_reads}
use Rattle.text.proofs.arguments.read_option.Goals as goal

pub returns-in-45 : goal.returns-in-45
returns-in-45 c = let e : c.args.word.now ≡ codes "--help" = text_from_reads c.args.word.now (codes "--help") (omega arith) (search rules) in rw e

pub returns-in-45-2 : goal.returns-in-45-2
returns-in-45-2 c = let e : c.args.word.now ≡ codes "--version" = text_from_reads c.args.word.now (codes "--version") (omega arith) (search rules) in rw e

pub returns-in-45-3 : goal.returns-in-45-3
returns-in-45-3 c = let e : c.args.word.now ≡ codes "--names" = text_from_reads c.args.word.now (codes "--names") (omega arith) (search rules) in rw e

pub returns-in-45-4 : goal.returns-in-45-4
returns-in-45-4 c = let e : c.args.word.now ≡ codes "--framed" = text_from_reads c.args.word.now (codes "--framed") (omega arith) (search rules) in rw e
