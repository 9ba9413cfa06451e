use Rattle.std.proofs.lemmas.List.{length-set}
use Rattle.store.specs.Events.{event_in}
use Rattle.net.proofs.Worlds.{others, does_at}
use Rattle.net.proofs.entries.step_at.Goals as goal

pub returns : goal.returns
returns c =
    record {
      does = does_at c.args.houses.now c.args.i c.step.new.self c.requires c.index-houses-i.result c.step.result (event_in c.args.event) c.step.ensures;
      others = others c.args.houses.now c.args.i c.step.new.self c.requires;
      long = length-set c.args.houses.now c.args.i c.step.new.self;
    }
