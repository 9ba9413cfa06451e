-- What is promised of every play.
use Rattle.std.specs.Prelude.{◌≡◌, ℕ, ◌+◌, ◌*◌, ◌/◌, ◌<◌, ◌≤◌, true, ◌⊎◌, List, is_ok, Ok}
use mathlib.Core.List.{Memᴰ}
use Rattle.wire.specs.declared.message.Message.TheVariants as message
use Rattle.wire.specs.declared.message.Message.TheVariants.{Give}
use Rattle.wire.specs.Names.{home, house, name}
use Rattle.wire.specs.Format.{decode}
use Rattle.tables.specs.Model.{is_in, present, fields_of}
use Rattle.lines.specs.Listed.{listed, listed_in}
use Rattle.lines.specs.Stamping.{stamp, given_to, seen_from, heard_from}
use Rattle.rounds.specs.Model.{agreed}
use Rattle.rules.specs.House.{census}
use Rattle.rules.specs.Step.{make, step}
use Rattle.rules.specs.Sound.{Sound}
use Rattle.promise.specs.House.{count_of}
use Rattle.promise.specs.Promise.{Anywhere}
use Rattle.play.specs.Play.{World, Entry, play, cleaning, Reach}
use Rattle.play.specs.Seen.{seen}
use Rattle.play.specs.History.{Complete, WasComplete, Called}

-- House j has a reference that matters: as a root, on its way to it, or in a field of an object of its own that somebody has a reference to that matters. A give is on its way as long as its stamp is above what the receiver has seen of the home.
pub data Has (n : ℕ) (w : World) : ℕ → ℕ → Type 0 where
  root : {j o : ℕ} → is_in o (w.house j).heap.roots ≡ true → Has n w j o
  coming : {j o : ℕ} (s : ℕ) (bs : List ℕ) → Memᴰ bs w.sent → decode n bs ≡ Ok (Give (name o) (house j) (stamp s)) → seen_from (w.house j).stamps (home o) < s → Has n w j o
  field : {i o p : ℕ} → Has n w i o → present o (w.house (home o)).heap.objects ≡ true → is_in p (fields_of o (w.house (home o)).heap.objects) ≡ true → Has n w (home o) p

-- it is there, and its home has a line for the house that has it
pub record There (w : World) (j o : ℕ) : Type 0 where
  pub present_at_home : present o (w.house (home o)).heap.objects ≡ true
  pub known : (home o ≡ j) ⊎ (listed o j (w.house (home o)).list ≡ true)

-- the same references matter
abbrev pub SameMatters : ℕ → World → World → Type 0
SameMatters n w v = (j o : ℕ) → (Has n w j o → Has n v j o) × (Has n v j o → Has n w j o)

pub record Safe (n : ℕ) (w : World) : Type 0 where
  -- THE PROMISE: whatever matters is there, and its home has a line for each other house that has such a reference
  pub there : (j o : ℕ) → Has n w j o → There w j o
  -- every house is within its limits
  pub sound : (i : ℕ) → i < n → Sound (w.house i)
  -- a house has seen what it is known to have seen, and was given what it has seen
  pub stamps : (j k : ℕ) → (heard_from (w.house k).stamps j ≤ seen_from (w.house j).stamps k) × (seen_from (w.house j).stamps k ≤ given_to (w.house k).stamps j)
  -- a name that stands anywhere has a number that its home has made
  pub fresh : (o : ℕ) → Anywhere (seen n w).net o → o / 16 ≤ (w.house (home o)).heap.made
  -- so an object that is made gets a name that stands nowhere yet: no name is used twice
  pub new : (i k : ℕ) → i < n → is_ok (step (w.house i) (make k)).answer ≡ true → Anywhere (seen n w).net (k * 16 + i) → ⊥
  -- an object is at home, and once
  pub once : (i o : ℕ) → present o (w.house i).heap.objects ≡ true → (home o ≡ i) × (count_of o (w.house i).heap.objects ≡ 1)
  -- a census that two rounds found complete was complete just before the call that began the second
  pub truly : agreed n (w.house 0).desk ≡ true → WasComplete n w
  -- and so was every census of which the news is among the messages that it is complete, however old
  pub called : (c : ℕ) (bs : List ℕ) → Memᴰ bs w.sent → decode n bs ≡ Ok (message.Complete (record { 0 = c })) → Called n c w
  -- and it still is, if no house has joined another
  pub still : agreed n (w.house 0).desk ≡ true → ((i : ℕ) → i < n → census (w.house i) ≡ census (w.house 0)) → Complete n (census (w.house 0)) w
  -- in a complete census all that matters was found in use
  pub found : (c : ℕ) → Complete n c w → (j o : ℕ) → Has n w j o → (home o ≡ j) ⊎ (listed_in c o j (w.house (home o)).list ≡ true)
  -- it stays complete, whatever is played, until a house joins another
  pub stays : (c : ℕ) → Complete n c w → (e : Entry) → ((i : ℕ) → i < n → census ((play n e w).house i) ≡ c) → Complete n c (play n e w)
  -- the collector never changes what matters
  pub nothing : (e : Entry) → cleaning n e w ≡ true → SameMatters n w (play n e w)

-- over every list of entries, and every number of houses from 1 to 16
abbrev pub AlwaysSafe : Type 0
AlwaysSafe = (n : ℕ) → 0 < n → n ≤ 16 → (w : World) → Reach n w → Safe n w
