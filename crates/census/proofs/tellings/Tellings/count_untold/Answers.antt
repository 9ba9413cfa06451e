use Rattle.std.proofs.Common.{◌≡◌, not, count_by, sym, ◌∙◌, rules}
use Rattle.tables.specs.Model.{is_in}
use Rattle.census.specs.Model.{names}
use Rattle.census.specs.Shown.{told_of}
use Rattle.census.proofs.Tabled as tabled
use Rattle.census.proofs.tellings.Tellings.count_untold.Goals as goal

pub returns : goal.returns
returns c =
    let ts = told_of c.args.self.now.entries.items in
    let e : c.count.result ≡ count_by (λ n. not (is_in n.0 (names ts))) c.args.in_use.now = search rules in
    e ∙ sym (tabled.count_untold c.args.in_use.now ts)
