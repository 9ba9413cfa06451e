-- What an answer in memory stands for.
use Rattle.std.specs.Prelude.{Option, Some, None}
use Rattle.census.specs.Moods.{is_calm}
use Rattle.rounds.specs.declared.said.Said.{Said}
use Rattle.rounds.specs.Model as model

abbrev pub slot : Option Said → model.Slot
slot None = model.silent
slot (Some said) = model.said (is_calm said.mood) said.tally.0
