use Rattle.std.proofs.Common.{List, ℕ, ap, ◌∙◌, take}
use Rattle.std.specs.List.{list_all}
use Rattle.tables.specs.Model.{is_in}
use Rattle.tables.specs.Shown.{numbers}
use Rattle.objects.specs.Calls.{heap_of}
use Rattle.objects.specs.Executed.{names_in_use}
use Rattle.census.specs.Model.{names}
use Rattle.census.specs.Standings.{part_of}
use Rattle.census.proofs.Tabled.{told_all}
use Rattle.node.specs.Shown.{house_lent}
use Rattle.rules.specs.Step.{used}
use Rattle.node.proofs.Bytes.{in_use_of}
use Rattle.node.proofs.head.Head.has_told.Goals as goal

pub returns : goal.returns
returns c =
    let t = c.args.tables.now in
    let h = house_lent c.args.self.now t in
    let ts = (part_of c.args.self.now.standing).told in
    c.uses_only.ensures
    ∙ ap (λ (ns : List ℕ). list_all (λ o. is_in o ns) (names_in_use (numbers (take c.objects_in-count.result c.objects_in-count.new.into)) (heap_of t.objects.now))) c.told.ensures.names
    ∙ ap (list_all (λ o. is_in o (names ts))) (in_use_of h c.census.result (take c.objects_in-count.result c.objects_in-count.new.into) c.census.ensures c.objects_in-count.ensures.after)
    ∙ told_all (used h) ts
