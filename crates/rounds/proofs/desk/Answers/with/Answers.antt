use Rattle.std.proofs.Common.{Some}
use Rattle.std.proofs.lemmas.List.{map-set}
use Rattle.rounds.specs.Slots.{slot}
use Rattle.rounds.proofs.desk.Answers.with.Goals as goal

pub returns-then-house-lt16 : goal.returns-then-house-lt16
returns-then-house-lt16 c = rw c.from.ensures (map-set slot c.args.self.slots c.args.house.0 (Some c.args.answer))
