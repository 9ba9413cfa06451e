use Rattle.std.proofs.Common.{◌≡◌, not, count_by, sym, ◌∙◌, rules}
use Rattle.census.specs.Shown.{is_answered}
use Rattle.census.proofs.Tabled as tabled
use Rattle.census.proofs.tellings.Tellings.count_unanswered.Goals as goal

pub returns-clause-value : goal.returns-clause-value
returns-clause-value c =
    let ts = c.args.self.now.entries.items in
    let e : c.count.result ≡ count_by (λ t. not (is_answered t.state)) ts = search rules in
    e ∙ sym (tabled.count_unanswered ts)
