-- Why a house must remember that it took a reference: the same step, by houses that forget it, loses an object that matters.
use Rattle.std.specs.Prelude.{◌≡◌, ℕ, true, false, List, [], ◌∷◌}
use Rattle.rounds.specs.Model.{agreed}
use Rattle.rules.specs.House.{House}
use Rattle.play.specs.Play.{World, Entry, begin, play, plays}
use Rattle.play.specs.Promise.{Has, There}

-- a house that no longer knows that it took a reference since it answered round 1
abbrev pub forgetting : House → House
forgetting h = record h { part = record h.part { stirred = false } }

-- One entry by houses that forget it before each of their steps: so round 2 too is answered by whether they are calm alone. Nothing else is otherwise.
abbrev pub careless_play : ℕ → Entry → World → World
careless_play n e w = play n e (record w { house = λ i. forgetting (w.house i) })

abbrev pub careless_plays : ℕ → List Entry → World → World
careless_plays n [] w = w
careless_plays n (e ∷ es) w = careless_plays n es (careless_play n e w)

-- what house j has of o matters when two houses have played these entries carelessly, and when they have played them with care
pub record Loses (es : List Entry) (j o : ℕ) : Type 0 where
  -- carelessly played, two rounds agree, and it is gone
  pub ends : agreed 2 ((careless_plays 2 es (begin 2)).house 0).desk ≡ true
  pub matters : Has 2 (careless_plays 2 es (begin 2)) j o
  pub gone : There (careless_plays 2 es (begin 2)) j o → ⊥
  -- played with care they do not, and it is there
  pub goes_on : agreed 2 ((plays 2 es (begin 2)).house 0).desk ≡ false
  pub has : Has 2 (plays 2 es (begin 2)) j o
  pub there : There (plays 2 es (begin 2)) j o

-- Entries of two houses by which careless houses lose an object that matters, and houses that take care do not.
abbrev pub CarelessLoses : Type 0
CarelessLoses = (es : List Entry) × (j : ℕ) × (o : ℕ) × Loses es j o
