use Rattle.std.proofs.Common.{◌≡◌, ◌++◌, map, take, string_bytes}
use Rattle.store.specs.Sending.{items_in}
use Rattle.console.specs.Forms.{sent_text}
use Rattle.console.proofs.forms.write_sent.Given as goal

-- the lines so far are those of the messages so far
abbrev pub invariant-loop-bytes : goal.invariant-loop-bytes
invariant-loop-bytes l = string_bytes l.out ≡ string_bytes l.initial.out ++ sent_text l.form l.houses (map items_in (take l.bytes-index l.messages))
