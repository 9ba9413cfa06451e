-- The rounds of the house that asks: the number of the present one, its answers, and the answers of the one before.
use Rattle.std.specs.Prelude.{ℕ, zero, suc, ◌+◌, Bool, true, false, cond, not, ◌&&◌, ◌||◌, List, replicate, Ok, Err, Result, ◌==◌, nat_le, nat_lt, slice_index_or, slice_set}
use Rattle.wire.specs.declared.refusal.Refusal.{Refusal}
use Rattle.wire.specs.declared.refusal.Refusal.TheVariants.{OutOfNumbers}

-- what a house has answered to a round: nothing yet, or whether it is calm, and its tally
pub data Slot : Type 0 where
  silent : Slot
  said : (calm : Bool) → (tally : ℕ) → Slot

-- round: the number of the present round, 0 while none was begun in this census; now: the answers to it, by house; before: the answers to the round before
pub record Desk : Type 0 where
  pub round : ℕ
  pub now : List Slot
  pub before : List Slot

abbrev pub unanswered : List Slot
unanswered = replicate 16 silent

-- no round was begun yet
abbrev pub idle : Desk
idle = record { round = 0; now = unanswered; before = unanswered }

abbrev pub slot_of : ℕ → List Slot → Slot
slot_of i xs = slice_index_or xs i silent

abbrev pub spoke : Slot → Bool
spoke silent = false
spoke (said calm tally) = true

-- each of the houses below n has answered
abbrev pub all_spoke : ℕ → List Slot → Bool
all_spoke zero xs = true
all_spoke (suc n) xs = spoke (slot_of n xs) && all_spoke n xs

-- calm in both rounds, with the same tally
abbrev pub agrees : Slot → Slot → Bool
agrees silent y = false
agrees (said calm s) silent = false
agrees (said calm s) (said quiet t) = calm && (quiet && s == t)

abbrev pub all_agree : ℕ → List Slot → List Slot → Bool
all_agree zero xs ys = true
all_agree (suc n) xs ys = agrees (slot_of n xs) (slot_of n ys) && all_agree n xs ys

-- the next round may begin: there is none, or it was answered by all n houses
abbrev pub ready : ℕ → Desk → Bool
ready n d = d.round == 0 || all_spoke n d.now

-- the number that the call round sends: of the next round, or of the present one again
abbrev pub beginning : ℕ → Desk → Result ℕ Refusal
beginning n d = cond (ready n d) (cond (nat_lt d.round 4294967295) (Ok (d.round + 1)) (Err OutOfNumbers)) (Ok d.round)

abbrev pub next : Desk → Desk
next d = record { round = d.round + 1; now = unanswered; before = d.now }

abbrev pub begun : ℕ → Desk → Desk
begun n d = cond (ready n d && nat_lt d.round 4294967295) (next d) d

-- an answer to round r of house i is noted if it is the present round, and its first
abbrev pub notes : ℕ → ℕ → Desk → Bool
notes r i d = nat_le 1 r && (r == d.round && not (spoke (slot_of i d.now)))

abbrev pub noted : ℕ → ℕ → Bool → ℕ → Desk → Desk
noted r i calm tally d = cond (notes r i d) (record { round = d.round; now = slice_set d.now i (said calm tally); before = d.before }) d

-- two rounds in a row in which all n houses were calm, with the same tallies
abbrev pub agreed : ℕ → Desk → Bool
agreed n d = nat_le 2 d.round && all_agree n d.now d.before

-- with this answer the census is found complete
abbrev pub completes : ℕ → ℕ → ℕ → Bool → ℕ → Desk → Bool
completes n r i calm tally d = notes r i d && agreed n (noted r i calm tally d)
