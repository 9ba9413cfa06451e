use Rattle.std.proofs.Common.{map, take}
use mathlib.Core.List.{Memᴰ}
use Rattle.store.specs.Sending.{items_in}
use Rattle.net.proofs.sending.was_sent.Given as goal

abbrev pub invariant-loop-message : goal.invariant-loop-message
invariant-loop-message l = Memᴰ l.bytes (map items_in (take l.message-index l.sent)) → ⊥
