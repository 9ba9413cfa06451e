-- What holds of every net, whatever is played.
use Rattle.rules.specs.Sound.{KeepsSound}
use Rattle.promise.specs.Careless.{StirredNeeded}
use Rattle.play.specs.Promise.{AlwaysSafe}
use Rattle.play.specs.History.{AlwaysTruly, AlwaysCalled}
use Rattle.play.specs.Apart.{PartSafe, ApartSafe, NoMessage}
use Rattle.play.specs.Exact.{AlwaysSettles, NothingLeft, OnlyCleans}
use Rattle.play.specs.ExactPart.{SettlesAlike, AlwaysSettlesPart, BoundedPart, FewPassesPart, FewLinesPart, OnlyCleansPart}
use Rattle.play.specs.Bound.{Bounded, TwoRounds, FewPasses, FewLines}
use Rattle.play.specs.Cases.{AllCases, GoesOn}
use Rattle.play.specs.Careless.{CarelessLoses}
use Rattle.ends.specs.Lawful as ends

pub record Lawful : Type 0 where
  -- over every list of entries and every number of houses: whatever matters is there, and its home has a line for each house that has it
  pub safe : AlwaysSafe
  -- where two rounds agree, the census was complete just before the call that began the second, among these very entries; and so it was wherever the news is among the messages, however old
  pub truly : AlwaysTruly
  pub called : AlwaysCalled
  -- the same promise where messages are lost for good, and of houses that run apart
  pub part : PartSafe
  pub apart : ApartSafe
  -- bytes that are no message are refused
  pub garbled : NoMessage
  -- from every world that entries lead to, the collector's own entries leave exactly what matters
  pub settles : AlwaysSettles
  -- these are all the collector's own
  pub cleans : OnlyCleans
  -- what they do, and make the houses send, depends on the houses alone, and not on what was sent before
  pub settles_alike : SettlesAlike
  -- so the same holds where messages are lost for good
  pub settles_part : AlwaysSettlesPart
  pub cleans_part : OnlyCleansPart
  pub bounded_part : BoundedPart
  pub passes_part : FewPassesPart
  pub lines_part : FewLinesPart
  -- they send at most a word of each house to each other, a telling and an answer for each line, and two rounds; and all houses together tell at most once for each house and line, and once more for each house
  pub bounded : Bounded
  pub rounds : TwoRounds
  pub passes : FewPasses
  pub lines : FewLines
  -- where nothing matters nothing is left
  pub left : NothingLeft
  -- eight small cases, to the last byte, and that a script is played entry by entry
  pub cases : AllCases
  pub goes_on : GoesOn
  -- every step leaves a house within its limits
  pub sound : KeepsSound
  -- without the care at the second round something that matters may be lost
  pub needed : StirredNeeded
  -- and by the executable step: houses that forget that they took something lose it, by entries that lose nothing where they remember it
  pub forgetful : CarelessLoses
  -- of runs without end, where messages are lost but not all of them: a census that goes on is called complete, and with programs still what is left is exactly what matters
  pub ends : ends.Lawful
