-- What each mood says in a reply.
use Rattle.std.specs.Prelude.{Bool, true, false}
use Rattle.census.specs.declared.mood.Mood.{Mood}
use Rattle.census.specs.declared.mood.Mood.TheVariants.{Calm, Restless}

abbrev pub is_calm : Mood → Bool
is_calm Calm = true
is_calm Restless = false
