use Rattle.play.proofs.Apart.{holds_apart, apart_safe, no_message}
use Rattle.store.specs.Laws.{Lawful}
use Rattle.store.proofs.table.Store.new.Goals as goal

lawful : Lawful
lawful = record { apart = holds_apart; safe = apart_safe; garbled = no_message }

pub returns-in_err-objects-clause-lawful : goal.returns-in_err-objects-clause-lawful
returns-in_err-objects-clause-lawful c = lawful

pub returns-clause-lawful : goal.returns-clause-lawful
returns-clause-lawful c = lawful
