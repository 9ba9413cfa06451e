use Rattle.std.proofs.Common.{sym}
use Rattle.std.proofs.lemmas.List.FromFn.{length-map-range_with_len}
use Rattle.lines.specs.Columns.{row}
use Rattle.store.proofs.table.Store.line_count.Goals as goal

pub returns : goal.returns
returns c = sym (length-map-range_with_len (row c.args.self.now.held c.args.self.now.holders c.args.self.now.stamps c.args.self.now.censuses) 0 c.args.self.now.len)
