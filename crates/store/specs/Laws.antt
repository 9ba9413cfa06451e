-- What holds of houses that run apart, each in its own program, with a carrier between them that loses, repeats and reorders.
use Rattle.play.specs.Apart.{Apart, ApartSafe, NoMessage}

pub record Lawful : Type 0 where
  -- whatever matters is there, and its home has a line for each other house that has it, whatever the carrier has done with what was sent
  pub apart : Apart
  -- and so does all the rest that is promised of houses together
  pub safe : ApartSafe
  -- bytes that are no message are refused, and a house that refuses is as it was
  pub garbled : NoMessage
