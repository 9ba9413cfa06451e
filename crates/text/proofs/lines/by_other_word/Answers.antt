use Rattle.std.proofs.Common.{◌≡◌, codes, arith, rules}
use Rattle.std.proofs.lemmas.Slice.Eq.{text_from_reads}
use Rattle.text.proofs.lines.by_other_word.Goals as goal

pub returns-in_err-sole-in-deliver : goal.returns-in_err-sole-in-deliver
returns-in_err-sole-in-deliver c =
    let e : c.args.word.now ≡ codes "deliver" = text_from_reads c.args.word.now (codes "deliver") (omega arith) (search rules) in
    rw e (search rules)

pub returns-in_ok-sole-in-deliver : goal.returns-in_ok-sole-in-deliver
returns-in_ok-sole-in-deliver c =
    let e : c.args.word.now ≡ codes "deliver" = text_from_reads c.args.word.now (codes "deliver") (omega arith) (search rules) in
    rw e (search rules)

pub returns-in-settle : goal.returns-in-settle
returns-in-settle c =
    let e : c.args.word.now ≡ codes "settle" = text_from_reads c.args.word.now (codes "settle") (omega arith) (search rules) in
    rw e (search rules)
