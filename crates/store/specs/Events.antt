-- What happens at a house.
use Rattle.store.specs.declared.event.Event.{Event}
use Rattle.store.specs.declared.event.Event.TheVariants.{Call, Came}
use Rattle.rules.specs.Step as steps
use Rattle.rules.specs.Step.{came, event_of}

abbrev pub event_in : Event → steps.Event
event_in (Call c) = event_of c
event_in (Came bs) = came bs.now
