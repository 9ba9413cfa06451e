-- Hexadecimal.
use Rattle.std.specs.Prelude.{◌≡◌, ℕ, ◌+◌, ◌-◌, ◌*◌, ◌/◌, ◌%◌, ◌<◌, Bool, cond, ◌&&◌, List, [], ◌∷◌, ◌++◌, Some, None, vec_items, Option, option_map, Vec, nat_le, nat_lt, slice_index}
use Rattle.std.specs.Option.{option_zip}
use Rattle.std.specs.declared.alloc.Global.{Global}

abbrev pub within : ℕ → ℕ → ℕ → Bool
within low high c = nat_le low c && nat_le c high

-- the value of a digit in either case
abbrev pub digit_of : ℕ → Option ℕ
digit_of c = cond (within 48 57 c) (Some (c - 48)) (cond (within 97 102 c) (Some (c - 87)) (cond (within 65 70 c) (Some (c - 55)) None))

-- the byte that two digits spell
abbrev pub byte_of : ℕ → ℕ → Option ℕ
byte_of a b = option_map (λ p. p.0 * 16 + p.1) (option_zip (digit_of a) (digit_of b))

abbrev pub before : Option ℕ → Option (List ℕ) → Option (List ℕ)
before None bs = None
before (Some b) None = None
before (Some b) (Some bs) = Some (b ∷ bs)

-- two digits a byte
unfoldable pub hex_of : List ℕ → Option (List ℕ)
hex_of [] = Some []
hex_of (a ∷ []) = None
hex_of (a ∷ b ∷ cs) = before (byte_of a b) (hex_of cs)

-- bytes before those that are spelled by what is left
abbrev pub after : List ℕ → Option (List ℕ) → Option (List ℕ)
after bs None = None
after bs (Some cs) = Some (bs ++ cs)

abbrev pub items_of : Option (Vec ℕ Global) → Option (List ℕ)
items_of None = None
items_of (Some v) = Some (vec_items v)

-- a digit is written in lower case
abbrev pub char_of : ℕ → ℕ
char_of n = cond (nat_lt n 10) (48 + n) (87 + n)

unfoldable pub hex_text : List ℕ → List ℕ
hex_text [] = []
hex_text (b ∷ bs) = char_of (b / 16) ∷ char_of (b % 16) ∷ hex_text bs

-- what is written of bytes is read back
abbrev pub ReadsBack : Type 0
ReadsBack = (bs : List ℕ) → ((k : ℕ) → slice_index bs k < 256) → hex_of (hex_text bs) ≡ Some bs
