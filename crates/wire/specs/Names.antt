-- Names: a number and a home in one.
use Rattle.std.specs.Prelude.{◌≡◌, ℕ, ◌+◌, ◌*◌, ◌/◌, ◌%◌, Bool, cond, ◌&&◌, ◌||◌, Ok, Err, Result, ◌==◌, nat_le, nat_lt}
use Rattle.wire.specs.declared.names.House.{House}
use Rattle.wire.specs.declared.names.Name.{Name}
use Rattle.wire.specs.declared.refusal.Refusal.{Refusal}
use Rattle.wire.specs.declared.refusal.Refusal.TheVariants.{Malformed, OutOfNumbers}

abbrev pub house : ℕ → House
house i = record { 0 = i }

abbrev pub name : ℕ → Name
name o = record { 0 = o }

-- the home of an object, by its name as a number
abbrev pub home : ℕ → ℕ
home o = o % 16

abbrev pub home_of : Name → House
home_of n = house (home n.0)

abbrev pub number_of : Name → ℕ
number_of n = n.0 / 16

-- a name with this number at this home; no object has number 0, there are at most sixteen houses, and a name fits four bytes
abbrev pub named : ℕ → House → Result Name Refusal
named k h = cond (k == 0 || nat_le 16 h.0) (Err Malformed) (cond (nat_le 268435456 k) (Err OutOfNumbers) (Ok (name (k * 16 + h.0))))

-- a name says which number and which home it was made of
pub record Parts (n : Name) (k : ℕ) (h : House) : Type 0 where
  pub number : number_of n ≡ k
  pub home : home_of n ≡ h

-- an object's number is at least 1, and its home one of the houses
abbrev pub well_formed : ℕ → Name → Bool
well_formed houses n = nat_le 16 n.0 && nat_lt (home n.0) houses
