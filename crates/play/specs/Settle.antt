-- What the collector does to free all that does not matter: the entries to play, computed from the world.
use Rattle.std.specs.Prelude.{ℕ, zero, suc, ◌+◌, ◌-◌, ◌*◌, max, cond, List, [], ◌∷◌, ◌++◌, map, length, Ok, Err, Result, ◌==◌, nat_lt, slice_index_or}
use Rattle.wire.specs.declared.call.Call.{Call}
use Rattle.wire.specs.declared.call.Call.TheVariants as call
use Rattle.wire.specs.declared.message.Message.{Message}
use Rattle.wire.specs.declared.message.Message.TheVariants as message
use Rattle.wire.specs.declared.refusal.Refusal.{Refusal}
use Rattle.wire.specs.Names.{home, house}
use Rattle.wire.specs.Format.{decode}
use Rattle.census.specs.Model.{asker}
use Rattle.rules.specs.House.{census}
use Rattle.play.specs.Play.{World, Entry, calls, delivers, plays}

-- the houses below n
abbrev pub below : ℕ → List ℕ
below zero = []
below (suc n) = below n ++ n ∷ []

-- whom a message is for
abbrev pub goes_to : ℕ → Result Message Refusal → List ℕ
goes_to n (Ok (message.Ask o by to)) = home o.0 ∷ []
goes_to n (Ok (message.Give o to s)) = to.0 ∷ []
goes_to n (Ok (message.Word from to s p)) = to.0 ∷ []
goes_to n (Ok (message.Telling c o from)) = home o.0 ∷ []
goes_to n (Ok (message.Answer c o from)) = from.0 ∷ []
goes_to n (Ok (message.Round c r)) = below n
goes_to n (Ok (message.Reply c r from calm t)) = asker ∷ []
goes_to n (Ok (message.Complete c)) = below n
goes_to n (Err e) = []

abbrev pub delivery : ℕ → ℕ → Entry
delivery m i = delivers i m

-- message m comes to whom it is for, or to each house in order
abbrev pub deliveries : ℕ → ℕ → World → List Entry
deliveries n m w = map (delivery m) (goes_to n (decode n (slice_index_or w.sent m [])))

-- some entries, and then what is to be done in the world that they lead to
abbrev pub and_then : ℕ → World → List Entry → (World → List Entry) → List Entry
and_then n w es f = es ++ f (plays n es w)

-- every message from number m on is delivered, and those that it makes houses send: so many at most
abbrev pub pump : ℕ → ℕ → ℕ → World → List Entry
pump zero n m w = []
pump (suc k) n m w = cond (nat_lt m (length w.sent)) (and_then n w (deliveries n m w) (λ v. pump k n (m + 1) v)) []

-- a telling is answered once, a round by n houses and once by the news that the census is complete
abbrev pub enough : ℕ → ℕ → World → ℕ
enough n m w = 2 * (length w.sent - m) + n + 2

-- a call, and all that it sets off
abbrev pub calling : ℕ → ℕ → Call → World → List Entry
calling n i c w = and_then n w (calls i c ∷ []) (λ v. pump (enough n (length w.sent) v) n (length w.sent) v)

-- the same at each house below k
abbrev pub each : ℕ → (ℕ → World → List Entry) → ℕ → World → List Entry
each n f zero w = []
each n f (suc k) w = and_then n w (each n f k w) (λ v. f k v)

-- a word of house i to house j
abbrev pub word_to : ℕ → ℕ → ℕ → World → List Entry
word_to n i j w = cond (i == j) [] (calling n i (call.Word (house j)) w)

-- each house tells each other what it holds of it
abbrev pub words : ℕ → World → List Entry
words n w = each n (λ i v. each n (λ j u. word_to n i j u) n v) n w

-- a census above those of the houses below k
abbrev pub above : ℕ → World → ℕ
above zero w = 0
above (suc k) w = max (above k w) (census (w.house k) + 1)

-- all houses join a census
abbrev pub joins : ℕ → ℕ → World → List Entry
joins n c w = each n (λ i v. calling n i (call.Join c) v) n w

-- each house tells what it uses, and is answered
abbrev pub pass : ℕ → World → List Entry
pass n w = each n (λ i v. calling n i call.Tell v) n w

-- how many lines were newly marked, in the houses below k
abbrev pub tallies : ℕ → World → ℕ
tallies zero w = 0
tallies (suc k) w = tallies k w + (w.house k).part.tally

-- until nothing is newly marked
abbrev pub passes : ℕ → ℕ → World → List Entry
passes zero n w = []
passes (suc k) n w = and_then n w (pass n w) (λ v. cond (tallies n v == tallies n w) [] (passes k n v))

-- one round, and at the second the end of the census
abbrev pub rounding : ℕ → World → List Entry
rounding n w = calling n asker call.Round w

abbrev pub collects : ℕ → World → List Entry
collects n w = each n (λ i v. calling n i call.Collect v) n w

-- from a world in which all houses are in a new census
abbrev pub completing : ℕ → World → List Entry
completing n w = and_then n w (passes (2048 * n + 1) n w) (λ v. and_then n v (rounding n v) (λ u. rounding n u))

-- all of it
abbrev pub settling : ℕ → World → List Entry
settling n w =
    and_then n w (words n w) (λ v.
    and_then n v (joins n (above n v) v) (λ u.
    and_then n u (completing n u) (λ t.
    collects n t)))
