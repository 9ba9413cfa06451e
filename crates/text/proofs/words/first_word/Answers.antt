use Rattle.std.proofs.Common.{sym, ◌∙◌, arith}
use Rattle.std.proofs.lemmas.Grind.{common_steps}
use Rattle.text.proofs.Splits.{none_of, first_of, none_empty}
use Rattle.text.proofs.words.first_word.Goals as goal

pub returns-in_err-start : goal.returns-in_err-start
returns-in_err-start c = record {
  first = rw c.from_residual.ensures (none_of c.args.text.now (sym c.word_start.ensures ∙ c.in_err-start.was));
  full = none_empty;
}

pub returns : goal.returns
returns c = record {
  first =
      first_of c.args.text.now c.in_ok-start.start c.unwrap_or-end.result _ c.split_at.result.0.now c.split_at.result.1.now (sym c.word_start.ensures ∙ c.in_ok-start.was)
      (grind (arith, common_steps))
      (rw (sym c.word_end.ensures) c.unwrap_or-end.ensures)
      c.split_at.ensures.front
      c.split_at.ensures.back;
  full = none_empty;
}
