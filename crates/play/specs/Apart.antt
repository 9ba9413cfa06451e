-- Networks that lose messages for good, and houses that run apart: only a part of what was sent is kept, and the promise holds all the same.
use Rattle.std.specs.Prelude.{◌≡◌, ℕ, ◌<◌, ◌≤◌, List, [], ◌++◌, Err}
use mathlib.Core.List.{Memᴰ}
use Rattle.wire.specs.declared.call.Call.{Call}
use Rattle.wire.specs.declared.refusal.Refusal.{Refusal}
use Rattle.wire.specs.Format.{decode}
use Rattle.rules.specs.House.{House, houses, empty}
use Rattle.rules.specs.Step.{came, step, event_of}
use Rattle.play.specs.Play.{World, put, written, Reach}
use Rattle.play.specs.Promise.{Has, There, Safe}

-- every message of these is one of those
abbrev pub Among : List (List ℕ) → List (List ℕ) → Type 0
Among xs ys = (bs : List ℕ) → Memᴰ bs xs → Memᴰ bs ys

-- Some list of entries leads to these houses, and what is there of messages is a part of what was sent, or all of it: the rest is lost for good.
pub record PartOf (n : ℕ) (w : World) : Type 0 where
  -- all that was ever sent
  pub all : List (List ℕ)
  pub reached : Reach n (record { house = w.house; sent = all })
  pub among : Among w.sent all

-- what holds of such a world
pub record SafePart (n : ℕ) (w : World) : Type 0 where
  -- all that was ever sent
  pub all : List (List ℕ)
  pub reached : Reach n (record { house = w.house; sent = all })
  pub among : Among w.sent all
  -- the whole promise, over all that was sent: so it holds whatever of it still comes
  pub safe : Safe n (record { house = w.house; sent = all })
  -- and so over what is left of it: whatever matters is there, and its home has a line for each other house that has such a reference
  pub there : (j o : ℕ) → Has n w j o → There w j o

-- the promise, over every list of entries and every loss
abbrev pub PartSafe : Type 0
PartSafe = (n : ℕ) → 0 < n → n ≤ 16 → (w : World) → PartOf n w → SafePart n w

-- Houses that run apart, each by the step alone, and a carrier that hands any of them bytes that one of them has sent, at any time, any number of times, or never. The list is what the carrier has.
pub data Carried (n : ℕ) : (ℕ → House) → List (List ℕ) → Type 0 where
  apart : Carried n (λ i. empty i n) []
  call : {f : ℕ → House} {sent : List (List ℕ)} → Carried n f sent → (i : ℕ) → i < n → (c : Call) → Carried n (put i (step (f i) (event_of c)).house f) (sent ++ written (step (f i) (event_of c)).answer)
  got : {f : ℕ → House} {sent : List (List ℕ)} → Carried n f sent → (i : ℕ) → i < n → (bs : List ℕ) → Memᴰ bs sent → Carried n (put i (step (f i) (came bs)).house f) (sent ++ written (step (f i) (came bs)).answer)
  -- any bytes at all, whoever wrote them, if the house refuses them; bytes that are no message, as of one that was cut short, are always refused
  refused : {f : ℕ → House} {sent : List (List ℕ)} → Carried n f sent → (i : ℕ) → i < n → (bs : List ℕ) (e : Refusal) → (step (f i) (came bs)).answer ≡ Err e →
      Carried n (put i (step (f i) (came bs)).house f) (sent ++ written (step (f i) (came bs)).answer)
  -- the carrier loses some of it for good
  lost : {f : ℕ → House} {sent less : List (List ℕ)} → Carried n f sent → Among less sent → Carried n f less

-- a house refuses bytes that are no message, whatever else it holds
abbrev pub NoMessage : Type 0
NoMessage = (h : House) (bs : List ℕ) (e : Refusal) → decode (houses h) bs ≡ Err e → (step h (came bs)).answer ≡ Err e

-- some list of entries leads to houses that run apart, and all that is carried was sent in it
abbrev pub AlwaysPart : Type 0
AlwaysPart = (n : ℕ) (f : ℕ → House) (sent : List (List ℕ)) → Carried n f sent → PartOf n (record { house = f; sent = sent })

-- so the promise holds of them
abbrev pub Apart : Type 0
Apart = (n : ℕ) → 0 < n → n ≤ 16 → (f : ℕ → House) (sent : List (List ℕ)) → Carried n f sent → (j o : ℕ) → Has n (record { house = f; sent = sent }) j o → There (record { house = f; sent = sent }) j o

-- all of it
abbrev pub ApartSafe : Type 0
ApartSafe = (n : ℕ) → 0 < n → n ≤ 16 → (f : ℕ → House) (sent : List (List ℕ)) → Carried n f sent → SafePart n (record { house = f; sent = sent })
