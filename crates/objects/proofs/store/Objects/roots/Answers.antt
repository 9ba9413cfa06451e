use Rattle.std.proofs.Common.{ap, ◌∙◌}
use Rattle.tables.specs.Model.{rising}
use Rattle.tables.specs.Shown.{numbers}
use Rattle.objects.proofs.store.Objects.roots.Goals as goal

pub returns : goal.returns
returns c =
    let s = c.args.self.now in
    record {
      value = ap numbers c.deref.ensures.value;
      rises = ap (λ xs. rising (numbers xs)) c.deref.ensures.value ∙ s.ordered_roots;
    }
