use Rattle.std.proofs.Common.{◌≡◌, map, take}
use Rattle.store.specs.Sending.{bytes_of, contents, tellings}
use Rattle.store.proofs.sending.telling_bytes.Given as goal

abbrev pub invariant-loop-object : goal.invariant-loop-object
invariant-loop-object l = contents l.out ≡ map bytes_of (tellings l.census l.from (take l.object-index l.names))
