-- What the table of tellings in memory stands for.
use Rattle.std.specs.Prelude.{ℕ, Bool, true, false, List, map}
use Rattle.census.specs.declared.telling.Telling.{Telling}
use Rattle.census.specs.declared.telling.Telling.TheVariants.{Awaited, Answered}
use Rattle.census.specs.declared.telling.Told.{Told}
use Rattle.census.specs.Model as model

abbrev pub is_answered : Telling → Bool
is_answered Awaited = false
is_answered Answered = true

abbrev pub shown : Told → model.Told
shown t = record { name = t.object.0; answered = is_answered t.state }

abbrev pub told_of : List Told → List model.Told
told_of ts = map shown ts

abbrev pub name_in : Told → ℕ
name_in t = t.object.0

abbrev pub names_in : List Told → List ℕ
names_in ts = map name_in ts
