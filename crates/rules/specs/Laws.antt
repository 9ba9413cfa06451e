-- What holds of every step.
use Rattle.std.specs.Prelude.{◌≡◌, ℕ, Bool, true, false, List, length, Ok, Err, Result}
use Rattle.wire.specs.declared.message.Message.{Message}
use Rattle.wire.specs.declared.message.Message.TheVariants as message
use Rattle.wire.specs.Format.{decode}
use Rattle.wire.specs.declared.refusal.Refusal.{Refusal}
use Rattle.tables.specs.Met.{Collected}
use Rattle.tables.specs.Model.{names, rising}
use Rattle.lines.specs.Listed.{objects_listed}
use Rattle.rules.specs.House.{House, houses}
use Rattle.rules.specs.Step.{Outcome, Event, collect, came, step}

-- a step of this house: it stays the same house among the same houses, and a refusal leaves all as it was
pub record Fair (h : House) (x : Outcome) : Type 0 where
  pub home : x.house.heap.home ≡ h.heap.home
  pub houses : x.house.heap.houses ≡ h.heap.houses
  pub unchanged : (e : Refusal) → x.answer ≡ Err e → x.house ≡ h

-- whatever happens to whatever house
abbrev pub AlwaysFair : Type 0
AlwaysFair = (h : House) (e : Event) → Fair h (step h e)

abbrev pub is_ask : Message → Bool
is_ask (message.Ask o by to) = true
is_ask (message.Give o to s) = false
is_ask (message.Word from to s p) = false
is_ask (message.Telling c o from) = false
is_ask (message.Answer c o from) = false
is_ask (message.Round c r) = false
is_ask (message.Reply c r from calm t) = false
is_ask (message.Complete c) = false

abbrev pub asks : Result Message Refusal → Bool
asks (Ok m) = is_ask m
asks (Err e) = false

-- stamps are kept for sixteen houses
abbrev pub Sixteen : House → Type 0
Sixteen h = (length h.stamps.seen ≡ 16) × (length h.stamps.heard ≡ 16)

-- A message that comes twice in a row changes nothing the second time, if it is no ask. (An ask that comes twice is a second wish: the reference is handed out again, with the next stamp.)
abbrev pub TwiceIsOnce : Type 0
TwiceIsOnce = (h : House) (bs : List ℕ) → Sixteen h → asks (decode (houses h) bs) ≡ false → (step (step h (came bs)).house (came bs)).house ≡ (step h (came bs)).house

-- A collection frees exactly what is not met from the roots and the list.
abbrev pub CollectsExactly : Type 0
CollectsExactly = (h : House) → rising (names h.heap.objects) ≡ true → Collected h.heap (objects_listed h.list) (step h collect).house.heap

pub record Lawful : Type 0 where
  pub fair : AlwaysFair
  pub twice : TwiceIsOnce
  pub collects : CollectsExactly
