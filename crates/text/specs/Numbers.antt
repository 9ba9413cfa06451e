-- Decimal numbers.
use Rattle.std.specs.Prelude.{ℕ, ◌+◌, ◌-◌, ◌*◌, min, Bool, cond, ◌&&◌, List, [], ◌∷◌, Some, None, Option, nat_le, nat_lt}
use Rattle.wire.specs.declared.names.House.{House}
use Rattle.wire.specs.declared.names.Name.{Name}

abbrev pub is_digit : ℕ → Bool
is_digit c = nat_le 48 c && nat_le c 57

-- the number that these digits make after n, if all are digits
unfoldable pub digits : ℕ → List ℕ → Option ℕ
digits n [] = Some n
digits n (c ∷ cs) = cond (is_digit c) (digits (n * 10 + (c - 48)) cs) None

-- a decimal number has at least one digit
abbrev pub decimal : List ℕ → Option ℕ
decimal [] = None
decimal (c ∷ cs) = digits 0 (c ∷ cs)

-- what is above this is out of every range
abbrev pub most : ℕ
most = 1000000000000000000

abbrev pub capped : Option ℕ → Option ℕ
capped None = None
capped (Some n) = Some (min n most)

abbrev pub name_of : Option ℕ → Option Name
name_of None = None
name_of (Some n) = cond (nat_lt n 4294967296) (Some (record { 0 = n })) None

abbrev pub house_of : Option ℕ → Option House
house_of None = None
house_of (Some n) = cond (nat_lt n 256) (Some (record { 0 = n })) None

-- what a word is read as
abbrev pub number_value : List ℕ → Option ℕ
number_value w = capped (decimal w)

abbrev pub name_value : List ℕ → Option Name
name_value w = name_of (number_value w)

abbrev pub house_value : List ℕ → Option House
house_value w = house_of (number_value w)
