-- The number of each refusal.
use Rattle.std.specs.Prelude.{ℕ}
use Rattle.wire.specs.declared.refusal.Refusal.{Refusal}
use Rattle.wire.specs.declared.refusal.Refusal.TheVariants.{Malformed, Misdelivered, NotRoot, NoField, NotHere, NotHolder, OldStamp, OtherCensus, NoRoom, OutOfNumbers, WrongHouse}

abbrev pub number_of : Refusal → ℕ
number_of Malformed = 1
number_of Misdelivered = 2
number_of NotRoot = 3
number_of NoField = 4
number_of NotHere = 5
number_of NotHolder = 6
number_of OldStamp = 7
number_of OtherCensus = 8
number_of NoRoom = 9
number_of OutOfNumbers = 10
number_of WrongHouse = 11
