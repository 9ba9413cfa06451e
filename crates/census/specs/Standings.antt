-- What a house's part in memory stands for.
use Rattle.std.specs.Prelude.{ℕ, Bool, true, false, vec_items}
use Rattle.census.specs.declared.standing.FirstRound.{FirstRound}
use Rattle.census.specs.declared.standing.FirstRound.TheVariants.{Ahead, Polled, Stirred}
use Rattle.census.specs.declared.standing.Standing.{Standing}
use Rattle.census.specs.declared.steps.Marked.{Marked}
use Rattle.census.specs.declared.steps.Marked.TheVariants.{New, Again, NoLine}
use Rattle.census.specs.Model.{Part}
use Rattle.census.specs.Shown.{told_of}

abbrev pub is_polled : FirstRound → Bool
is_polled Ahead = false
is_polled Polled = true
is_polled Stirred = true

abbrev pub is_stirred : FirstRound → Bool
is_stirred Ahead = false
is_stirred Polled = false
is_stirred Stirred = true

abbrev pub part_of : Standing → Part
part_of s = record { census = s.census.0; told = told_of (vec_items s.told.entries); tally = s.tally.0; polled = is_polled s.first; stirred = is_stirred s.first }

-- how many lines got their number by a telling
abbrev pub newly : Marked → ℕ
newly New = 1
newly Again = 0
newly NoLine = 0
