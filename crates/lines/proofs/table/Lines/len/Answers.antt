use Rattle.std.proofs.Common.{sym}
use Rattle.lines.proofs.Keeping.{kept}
use Rattle.std.proofs.lemmas.List.FromFn.{length-map-range_with_len}
use Rattle.lines.proofs.table.Lines.len.Goals as goal

pub returns : goal.returns
returns c = record { value = sym (length-map-range_with_len _ _ _); kept = kept c.args.self.now }
