-- What holds of the rounds, whatever is called.
use Rattle.std.specs.Prelude.{◌≡◌, ℕ, ◌<◌, ◌≤◌, Bool, true, ◌⊎◌, Decides}
use Rattle.rounds.specs.Model.{said, Desk, slot_of, spoke, begun, next, noted, agreed}

-- house i has answered the present round
abbrev pub Answered : ℕ → Desk → Type 0
Answered i d = spoke (slot_of i d.now) ≡ true

-- house i was calm in the present round and in the one before, and its tally has not grown between the two
pub record Still (i : ℕ) (d : Desk) : Type 0 where
  pub tally : ℕ
  pub now : slot_of i d.now ≡ said true tally
  pub before : slot_of i d.before ≡ said true tally

pub record Laws : Type 0 where
  -- a second answer of a house to a round changes nothing
  pub twice : (r i : ℕ) (calm : Bool) (t : ℕ) (d : Desk) → noted r i calm t (noted r i calm t d) ≡ noted r i calm t d
  -- nor does any other answer of it
  pub first : (r i j : ℕ) (calm : Bool) (t : ℕ) (d : Desk) → Answered j d → slot_of j (noted r i calm t d).now ≡ slot_of j d.now
  -- a round is begun only when all have answered the one before
  pub begins : (n : ℕ) (d : Desk) → (begun n d ≡ d) ⊎ ((begun n d ≡ next d) × ((d.round ≡ 0) ⊎ ((i : ℕ) → i < n → Answered i d)))
  -- what it means that two rounds agree
  pub agrees : (n : ℕ) (d : Desk) → Decides (agreed n d) ((2 ≤ d.round) × ((i : ℕ) → i < n → Still i d))
