-- The moments of a play, between two of its entries, at which a census was complete.
use Rattle.std.specs.Prelude.{◌≡◌, ℕ, suc, ◌<◌, ◌≤◌, true, List, [], ◌∷◌, ◌++◌, Ok}
use mathlib.Core.List.{Memᴰ}
use Rattle.wire.specs.declared.call.Call.TheVariants as call
use Rattle.wire.specs.declared.message.Message.TheVariants as message
use Rattle.wire.specs.Format.{decode}
use Rattle.rounds.specs.Model.{agreed}
use Rattle.rules.specs.House.{census}
use Rattle.promise.specs.Net as net
use Rattle.play.specs.Play.{World, Entry, calls, begin, plays}
use Rattle.play.specs.Seen.{seen}

-- a census has reached everything: all houses are in it, every far reference in use has a line of it, and every telling of it is settled
abbrev pub Complete : ℕ → ℕ → World → Type 0
Complete n c w = net.Complete n c (seen n w).net

-- what the entries make of n empty houses
abbrev pub after : ℕ → List Entry → World
after n es = plays n es (begin n)

-- the call round of house 0
abbrev pub asking : Entry
asking = calls 0 call.Round

-- The census that house 0 is in after these entries was complete just before the call that began the round that it has then.
pub record Truly (n : ℕ) (es : List Entry) : Type 0 where
  -- the call is one of the entries
  pub before : List Entry
  pub later : List Entry
  pub played : es ≡ before ++ (asking ∷ later)
  -- house 0 was in the census, and by the call it came to the round that it still has
  pub same_census : census ((after n before).house 0) ≡ census ((after n es).house 0)
  pub begun : suc ((after n before).house 0).desk.round ≡ ((after n (before ++ (asking ∷ []))).house 0).desk.round
  pub still : ((after n (before ++ (asking ∷ []))).house 0).desk.round ≡ ((after n es).house 0).desk.round
  -- in the world just before it the census had reached everything
  pub complete : Complete n (census ((after n es).house 0)) (after n before)

-- After the first of these entries two rounds of census c agreed, and it was complete just before the call that began the second.
pub record Found (n c : ℕ) (es : List Entry) : Type 0 where
  pub first : List Entry
  pub later : List Entry
  pub played : es ≡ first ++ later
  pub of_census : census ((after n first).house 0) ≡ c
  pub agree : agreed n ((after n first).house 0).desk ≡ true
  pub truly : Truly n first

-- Where two rounds agree the census was complete just before the call that began the second, which is one of these very entries.
abbrev pub AlwaysTruly : Type 0
AlwaysTruly = (n : ℕ) → 0 < n → n ≤ 16 → (es : List Entry) → agreed n ((after n es).house 0).desk ≡ true → Truly n es

-- Wherever the news is among the messages that a census is complete, however old, it was found so after some of these very entries, and was.
abbrev pub AlwaysCalled : Type 0
AlwaysCalled = (n : ℕ) → 0 < n → n ≤ 16 → (es : List Entry) → (c : ℕ) (bs : List ℕ) → Memᴰ bs (after n es).sent → decode n bs ≡ Ok (message.Complete (record { 0 = c })) → Found n c es

-- the same, of some entries that lead to w
abbrev pub WasComplete : ℕ → World → Type 0
WasComplete n w = (es : List Entry) × (after n es ≡ w) × Truly n es

abbrev pub Called : ℕ → ℕ → World → Type 0
Called n c w = (es : List Entry) × (after n es ≡ w) × Found n c es
