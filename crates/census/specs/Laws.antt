-- What holds of a house's part in a census, whatever is called.
use Rattle.std.specs.Prelude.{◌≡◌, ℕ, ◌<◌, ◌≤◌, true, false, ◌⊎◌, List, [], Decides, ◌≢◌}
use Rattle.wire.specs.declared.names.House.{House}
use Rattle.census.specs.declared.standing.Standing.{Standing}
use Rattle.census.specs.declared.steps.Marked.TheVariants.{Again, NoLine}
use Rattle.tables.specs.Model.{is_in, rising}
use Rattle.census.specs.Model.{Part, names, answered_in, joined, counting, stirring, hearing, telling, due_of, calm, says_calm, polling, replied, replying}
use Rattle.census.specs.Standings.{part_of, newly}

-- told in rising order, each name once
abbrev pub Sound : Part → Type 0
Sound p = rising (names p.told) ≡ true

abbrev pub IsTold : ℕ → Part → Type 0
IsTold o p = is_in o (names p.told) ≡ true

abbrev pub IsAnswered : ℕ → Part → Type 0
IsAnswered o p = answered_in o p.told ≡ true

-- every far reference in use was told, and every telling answered, also of what is in use no longer
pub record Calm (us : List ℕ) (p : Part) : Type 0 where
  pub all_told : (o : ℕ) → is_in o us ≡ true → IsTold o p
  pub all_answered : (o : ℕ) → IsTold o p → IsAnswered o p

-- what is to be sent: what is in use or was told, and is not answered
pub record Due (us : List ℕ) (p : Part) (ds : List ℕ) : Type 0 where
  pub once : rising ds ≡ true
  pub only : (o : ℕ) → is_in o ds ≡ true → ((is_in o us ≡ true) ⊎ IsTold o p) × (IsAnswered o p → ⊥)
  pub every : (o : ℕ) → (is_in o us ≡ true) ⊎ IsTold o p → (IsAnswered o p → ⊥) → is_in o ds ≡ true

-- all that may happen to a part but a join
pub data Step (p : Part) : Part → Type 0 where
  tells : (us : List ℕ) → Step p (telling us p)
  hears : (c o : ℕ) → Step p (hearing c o p)
  counts : (n : ℕ) → Step p (counting n p)
  takes : Step p (stirring p)
  replies : (c r : ℕ) → Step p (replied c r p)

-- one after the other
pub data Later (p : Part) : Part → Type 0 where
  still : Later p p
  then : {q r : Part} → Later p q → Step q r → Later p r

-- what stays until a join
pub record Kept (p q : Part) : Type 0 where
  pub sound : Sound p → Sound q
  pub census : q.census ≡ p.census
  pub told : (o : ℕ) → IsTold o p → IsTold o q
  pub answered : (o : ℕ) → IsAnswered o p → IsAnswered o q
  pub tally : p.tally ≤ 4294967295 → (p.tally ≤ q.tally) × (q.tally ≤ 4294967295)
  pub polled : p.polled ≡ true → q.polled ≡ true
  pub stirred : p.stirred ≡ true → q.stirred ≡ true

pub record Laws : Type 0 where
  -- every part in memory is sound
  pub sound : (s : Standing) → Sound (part_of s)
  -- a join forgets all: of two parts that join the same census nothing tells which was which
  pub forgets : (c : ℕ) (p q : Part) → p.census < c → q.census < c → joined c p ≡ joined c q
  -- what is told stays told until a join, and what is answered stays answered; the tally only grows
  pub stays : (p q : Part) → Later p q → Kept p q
  -- after a telling all in use is told, and nothing more is answered
  pub tells : (us : List ℕ) (o : ℕ) (p : Part) → Decides (is_in o (names (telling us p).told)) ((is_in o us ≡ true) ⊎ IsTold o p) × (answered_in o (telling us p).told ≡ answered_in o p.told)
  -- what has to be sent then
  pub due : (us : List ℕ) (p : Part) → Sound p → Due us p (due_of us p)
  -- telling again changes nothing, and the same is sent again
  pub again : (us : List ℕ) (p : Part) → Sound p → (telling us (telling us p) ≡ telling us p) × (due_of us (telling us p) ≡ due_of us p)
  -- an answer of the own census is noted of what was told, and of nothing else
  pub hears : (o q : ℕ) (p : Part) → Decides (answered_in q (hearing p.census o p).told) (IsAnswered q p ⊎ ((q ≡ o) × IsTold o p))
  -- answered twice is answered once
  pub once : (c o : ℕ) (p : Part) → hearing c o (hearing c o p) ≡ hearing c o p
  -- what calm means
  pub calms : (us : List ℕ) (p : Part) → Sound p → Decides (calm us p) (Calm us p)
  -- a house that has told, and has nothing to send, is calm
  pub quiet : (us : List ℕ) (p : Part) → Sound p → due_of us p ≡ [] → calm us (telling us p) ≡ true
  -- what a house says to a round
  pub says : (r : ℕ) (us : List ℕ) (p : Part) → Sound p → Decides (says_calm r us p) (Calm us p × (r ≡ 2 → p.stirred ≢ true))
  -- a house that took a reference at any time since it answered round 1 never says calm to round 2
  pub stirred : (p q r : Part) (us : List ℕ) → Later (polling 1 p) q → Later (stirring q) r → says_calm 2 us r ≡ false
  -- a round that comes again changes nothing, and is answered as before
  pub asked : (from : House) (c r : ℕ) (us : List ℕ) (p : Part) → (replied c r (replied c r p) ≡ replied c r p) × (replying from c r us (replied c r p) ≡ replying from c r us p)
  -- a mark is counted once
  pub marked : (p : Part) → p.tally ≤ 4294967295 → (counting (newly Again) p ≡ p) × (counting (newly NoLine) p ≡ p)
