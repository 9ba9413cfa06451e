-- What is printed of the answer to a line, in each form.
use Rattle.std.specs.Prelude.{ℕ, zero, suc, List, [], ◌++◌, Ok, Err, Result, flat_map}
use Rattle.wire.specs.declared.message.Message.{Message}
use Rattle.wire.specs.declared.refusal.Refusal.{Refusal}
use Rattle.wire.specs.Format.{decode}
use Rattle.wire.specs.Names.{house}
use Rattle.text.specs.Output.{refusal_line, named_refusal_line, message_line, send_line, done_line}
use Rattle.node.specs.declared.sent.Recipient.{Recipient}
use Rattle.node.specs.declared.sent.Recipient.TheVariants.{One, Every}
use Rattle.node.specs.Recipients.{recipient_of}
use Rattle.console.specs.declared.forms.Form.{Form}
use Rattle.console.specs.declared.forms.Form.TheVariants.{Plain, Named, Framed}

-- a framed answer always ends in a line that says how it ended
abbrev pub end_text : Form → Result (Unit {0}) Refusal → List ℕ
end_text Plain (Ok u) = []
end_text Plain (Err e) = refusal_line e
end_text Named (Ok u) = []
end_text Named (Err e) = named_refusal_line e
end_text Framed (Ok u) = done_line
end_text Framed (Err e) = named_refusal_line e

-- a message after each of n houses
unfoldable pub sends_to_all : ℕ → List ℕ → List ℕ
sends_to_all zero bs = []
sends_to_all (suc n) bs = sends_to_all n bs ++ send_line (house n) bs

abbrev pub sends_to : ℕ → List ℕ → Recipient → List ℕ
sends_to n bs (One h) = send_line h bs
sends_to n bs Every = sends_to_all n bs

abbrev pub sends_of : ℕ → List ℕ → Result Message Refusal → List ℕ
sends_of n bs (Ok m) = sends_to n bs (recipient_of m)
sends_of n bs (Err e) = []

-- a message after each house that it is for, by what its bytes say
abbrev pub sends_text : ℕ → List ℕ → List ℕ
sends_text n bs = sends_of n bs (decode n bs)

abbrev pub message_text : Form → ℕ → List ℕ → List ℕ
message_text Plain n bs = message_line bs
message_text Named n bs = message_line bs
message_text Framed n bs = sends_text n bs

abbrev pub sent_text : Form → ℕ → List (List ℕ) → List ℕ
sent_text f n messages = flat_map (message_text f n) messages
