-- Whom a message is for.
use Rattle.std.specs.Prelude.{◌≡◌, ℕ, List, Err, ◌≢◌}
use Rattle.wire.specs.declared.message.Message.{Message}
use Rattle.wire.specs.declared.message.Message.TheVariants as message
use Rattle.wire.specs.declared.refusal.Refusal.TheVariants.{Misdelivered}
use Rattle.wire.specs.Names.{house, home_of}
use Rattle.census.specs.Model.{asker}
use Rattle.rules.specs.House.{House, self}
use Rattle.rules.specs.Step.{receives}
use Rattle.node.specs.declared.sent.Recipient.{Recipient}
use Rattle.node.specs.declared.sent.Recipient.TheVariants.{One, Every}

abbrev pub recipient_of : Message → Recipient
recipient_of (message.Ask o by to) = One (home_of o)
recipient_of (message.Give o to s) = One to
recipient_of (message.Word from to s p) = One to
recipient_of (message.Telling c o from) = One (home_of o)
recipient_of (message.Answer c o from) = One from
recipient_of (message.Round c r) = Every
recipient_of (message.Reply c r from calm t) = One (house asker)
recipient_of (message.Complete c) = Every

-- any other house refuses it as misdelivered
abbrev pub Elsewhere : Message → Recipient → Type 0
Elsewhere m (One j) = (part : List ℕ) (h : House) → (j.0 ≢ self h) → (receives m part h).answer ≡ Err Misdelivered
Elsewhere m Every = Unit {0}
