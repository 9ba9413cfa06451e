-- What is promised of every run. Each is a type; a proof of the type is the theorem.
use Rattle.std.specs.Prelude.{◌≡◌, ℕ, suc, ◌/◌, ◌<◌, ◌≤◌, T, ◌⊎◌}
use mathlib.Core.List.{Memᴰ}
use Rattle.wire.specs.Names.{home}
use Rattle.tables.specs.Model.{is_in, present, fields_of}
use Rattle.tables.specs.Met.{everywhere}
use Rattle.lines.specs.Listed.{listed, listed_in}
use Rattle.promise.specs.House.{count_of}
use Rattle.promise.specs.Net.{Ask, Give, Net, Complete}
use Rattle.promise.specs.Rounds.{World, census_of, Ended, Turn, Runs, Begins}

-- House j has a reference that matters: as a root, on its way to it, or in a field of an object of its own that somebody has a reference to that matters.
pub data Has (n : Net) : ℕ → ℕ → Type 0 where
  root : {j o : ℕ} → T (is_in o (n.house j).roots) → Has n j o
  coming : {j o s : ℕ} → Memᴰ (Give o j s) n.sent → (n.house j).seen (home o) < s → Has n j o
  field : {i o p : ℕ} → Has n i o → T (present o (n.house (home o)).objects) → T (is_in p (fields_of o (n.house (home o)).objects)) → Has n (home o) p

-- Whatever anybody has a reference to that matters is there, and its home knows who has it.
pub record There (n : Net) (j o : ℕ) : Type 0 where
  pub present_at_home : T (present o (n.house (home o)).objects)
  pub known : (home o ≡ j) ⊎ T (listed o j (n.house (home o)).list)

-- a reference that stands anywhere
pub data Anywhere (n : Net) : ℕ → Type 0 where
  as_root : {o : ℕ} (i : ℕ) → T (is_in o (n.house i).roots) → Anywhere n o
  as_object : {o : ℕ} (i : ℕ) → T (present o (n.house i).objects) → Anywhere n o
  as_field : {o : ℕ} (i : ℕ) → T (is_in o (everywhere (n.house i).objects)) → Anywhere n o
  as_line : {o : ℕ} (i j : ℕ) → T (listed o j (n.house i).list) → Anywhere n o
  asked : {o : ℕ} (i j : ℕ) → Memᴰ (Ask o i j) n.sent → Anywhere n o
  given : {o : ℕ} (j s : ℕ) → Memᴰ (Give o j s) n.sent → Anywhere n o

-- THE MAIN PROMISE. Whatever anybody has a reference to that matters is there, and its home knows who has it.
abbrev pub RoundsMain : Type 0
RoundsMain = (houses : ℕ) → houses ≤ 16 → (w : World) → Runs houses w → (j o : ℕ) → Has w.net j o → There w.net j o

-- the census that the run r ends in was complete in the very world in which r began the round that it ends in
abbrev pub WasComplete : {houses : ℕ} {w : World} → Runs houses w → Type 0
WasComplete {houses} {w} r = (v : World) × Begins r v × (census_of v 0 ≡ census_of w 0) × (suc v.desk.round ≡ w.desk.round) × Complete houses (census_of w 0) v.net

-- Where the rounds have ended, the census was complete.
abbrev pub RoundsTrue : Type 0
RoundsTrue = (houses : ℕ) → houses ≤ 16 → (w : World) → (r : Runs houses w) → Ended houses w.desk → WasComplete r

-- And it still is, if no house has joined the next since.
abbrev pub RoundsStill : Type 0
RoundsStill =
    (houses : ℕ) → houses ≤ 16 → (w : World) → Runs houses w → Ended houses w.desk → ((i : ℕ) → i < houses → census_of w i ≡ census_of w 0) → Complete houses (census_of w 0) w.net

-- the collector's steps, with rounds
abbrev pub Collects : {houses : ℕ} {w v : World} → Turn houses w v → Type 0
Collects (Turn.uses w u) = ⊥
Collects (Turn.cleans w s a) = Unit {0}
Collects (Turn.join w i c a b) = Unit {0}
Collects (Turn.tell w i o a b d) = Unit {0}
Collects (Turn.mark w k o i a b d) = Unit {0}
Collects (Turn.answer w i o a b d) = Unit {0}
Collects (Turn.begin w a b) = Unit {0}
Collects (Turn.reply w i r b a d e f) = Unit {0}
Collects (Turn.note w i b t a d e) = Unit {0}
Collects (Turn.complete w a) = Unit {0}
Collects (Turn.alike w v a) = Unit {0}

-- The other promises, with rounds: a complete census stays complete until a house joins the next; in it all that matters is found in use; stamps hold; names are never used again; the collector alone never changes what matters.
abbrev pub RoundsStays : Type 0
RoundsStays =
    (houses c : ℕ) → houses ≤ 16 → (w v : World) → Runs houses w → Complete houses c w.net → Turn houses w v → ((i : ℕ) → i < houses → census_of v i ≡ c) → Complete houses c v.net

abbrev pub RoundsFound : Type 0
RoundsFound =
    (houses c : ℕ) → houses ≤ 16 → (w : World) → Runs houses w → Complete houses c w.net → (j o : ℕ) → Has w.net j o →
    (home o ≡ j) ⊎ T (listed_in c o j (w.net.house (home o)).list)

abbrev pub RoundsStamps : Type 0
RoundsStamps =
    (houses : ℕ) → houses ≤ 16 → (w : World) → Runs houses w → (j k : ℕ) → (w.net.house k).heard j ≤ (w.net.house j).seen k × (w.net.house j).seen k ≤ (w.net.house k).given j

abbrev pub RoundsFresh : Type 0
RoundsFresh =
    (houses : ℕ) → houses ≤ 16 → (w : World) → Runs houses w →
    ((o : ℕ) → Anywhere w.net o → o / 16 ≤ w.net.made (home o)) × ((i o : ℕ) → T (present o (w.net.house i).objects) → (home o ≡ i) × (count_of o (w.net.house i).objects ≡ 1))

abbrev pub RoundsNothing : Type 0
RoundsNothing =
    (houses : ℕ) → houses ≤ 16 → (w v : World) → Runs houses w → (t : Turn houses w v) → Collects t → (j o : ℕ) →
    (Has w.net j o → Has v.net j o) × (Has v.net j o → Has w.net j o)
