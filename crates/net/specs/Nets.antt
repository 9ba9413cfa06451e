-- What a net stands for, and what its answers say.
use Rattle.std.specs.Prelude.{◌≡◌, ℕ, ◌<◌, ◌≤◌, Bool, true, false, cond, ◌||◌, List, [], length, is_ok, Ok, Err, vec_items, Result, ◌==◌, nat_lt, ◌≢◌}
use mathlib.Core.List.{Memᴰ}
use Rattle.objects.specs.declared.fault.Fault as objects
use Rattle.objects.specs.declared.fault.Fault.TheVariants.{Refused, NoMemory}
use Rattle.store.specs.Sending.{contents}
use Rattle.wire.specs.declared.refusal.Refusal.TheVariants.{Malformed}
use Rattle.rules.specs.Step.{Event, came, step, event_of}
use Rattle.node.specs.Shown.{allocates}
use Rattle.play.specs.Play.{World, Entry, calls, delivers, begin, written, happens, play, answered}
use Rattle.play.specs.Apart.{SafePart}
use Rattle.net.specs.Worlds.{world_of}
use Rattle.net.specs.declared.net.Net.{Net}
use Rattle.net.specs.declared.played.Setback.{Setback}
use Rattle.net.specs.declared.played.Setback.TheVariants.{Fault, Lost}

-- how many houses there are
abbrev pub count : Net → ℕ
count t = length (vec_items t.houses)

abbrev pub world : Net → World
world t = world_of (vec_items t.houses) (contents t.sent)

-- nothing came to a house but what was sent, or what the house refused
abbrev pub faithful : Net → Bool
faithful t = t.faithful

-- an entry that asks for memory: only a call that lists references does, at a house that is there
abbrev pub wanting : ℕ → Entry → World → Bool
wanting n (calls i c) w = cond (nat_lt i n) (allocates (event_of c) (w.house i)) false
wanting n (delivers i m) w = false

-- how an entry ended
abbrev pub Played : Type 0
Played = Result (Unit {0}) Setback

-- what was sent on the way from w to v is lost to the net
abbrev pub unsent : World → World → World
unsent w v = record { house = v.house; sent = w.sent }

-- an entry, as it was answered: it was played, or nothing was changed, or the house did a step that sends, and nothing that it sent was kept; only what would have been done finds no memory
abbrev pub Plays : Played → ℕ → Entry → World → World → Type 0
Plays (Ok u) n e w v = (is_ok (answered n e w) ≡ true) × (v ≡ play n e w)
Plays (Err (Fault (Refused x))) n e w v = (answered n e w ≡ Err x) × (v ≡ w)
Plays (Err (Fault NoMemory)) n e w v = (wanting n e w ≡ true) × (is_ok (answered n e w) ≡ true) × (v ≡ w)
Plays (Err Lost) n e w v = (written (answered n e w) ≢ []) × (v ≡ unsent w (play n e w))

-- no house did a step
abbrev pub changed_nothing : Played → Bool
changed_nothing (Err (Fault f)) = true
changed_nothing r = false

-- it was played or refused: there was memory for it
abbrev pub had_memory : Played → Bool
had_memory (Ok u) = true
had_memory (Err (Fault (Refused x))) = true
had_memory (Err (Fault NoMemory)) = false
had_memory (Err Lost) = false

-- THE PROMISE, as long as the net is faithful: of its houses, and of all that was ever sent, of which the net has a part, or all of it
abbrev pub Promised : Net → Type 0
Promised t = faithful t ≡ true → ∥ SafePart (count t) (world t) ∥₁

-- bytes that anybody wrote came to a house
abbrev pub Acts : Played → ℕ → Event → World → World → Type 0
Acts (Ok u) i e w v = (is_ok (step (w.house i) e).answer ≡ true) × (v ≡ happens i e w)
Acts (Err (Fault (Refused x))) i e w v = ((step (w.house i) e).answer ≡ Err x) × (v ≡ w)
Acts (Err (Fault NoMemory)) i e w v = (allocates e (w.house i) ≡ true) × (is_ok (step (w.house i) e).answer ≡ true) × (v ≡ w)
Acts (Err Lost) i e w v = (written (step (w.house i) e).answer ≢ []) × (v ≡ unsent w (happens i e w))

abbrev pub Forges : Played → ℕ → ℕ → List ℕ → World → World → Type 0
Forges r n i bs w v = (i < n → Acts r i (came bs) w v) × (n ≤ i → (r ≡ Err (Fault (Refused Malformed))) × (v ≡ w))

-- Bytes that anybody wrote leave a net faithful where they did nothing, and where they are those of a message that was sent. f says whether it was faithful, and g whether it still is.
pub record Trusts (r : Played) (bs : List ℕ) (w : World) (f g : Bool) : Type 0 where
  pub refused : changed_nothing r ≡ true → g ≡ f
  pub sent : Memᴰ bs w.sent → g ≡ f
  pub forged : changed_nothing r ≡ false → (Memᴰ bs w.sent → ⊥) → g ≡ false

-- a new net
pub record Begun (n : ℕ) (t : Net) : Type 0 where
  pub count : count t ≡ n
  pub world : world t ≡ begin n
  pub faithful : faithful t ≡ true

-- why there is none: no houses or too many of them, or else want of memory
abbrev pub Unbegun : ℕ → objects.Fault → Type 0
Unbegun n (Refused x) = (x ≡ Malformed) × ((n == 0 || nat_lt 16 n) ≡ true)
Unbegun n NoMemory = (n == 0 || nat_lt 16 n) ≡ false
