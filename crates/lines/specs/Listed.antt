-- The list of who holds what, as a list of lines, and what the calls make of it. Names, houses, stamps and census numbers are plain numbers here.
use Rattle.std.specs.Prelude.{ℕ, ◌+◌, Bool, false, cond, not, ◌&&◌, ◌||◌, List, [], ◌∷◌, length, Some, None, Option, ◌==◌, nat_le, nat_lt}
use Rattle.wire.specs.Names.{home}

-- a line: this object was handed to this holder, last with this stamp, and was last found in use in this census
pub record Listed : Type 0 where
  pub object : ℕ
  pub holder : ℕ
  pub stamp : ℕ
  pub census : ℕ

abbrev pub line : ℕ → ℕ → ℕ → ℕ → Listed
line o j s c = record { object = o; holder = j; stamp = s; census = c }

unfoldable pub is_in : ℕ → List ℕ → Bool
is_in o [] = false
is_in o (x ∷ xs) = x == o || is_in o xs

abbrev pub is_of : ℕ → ℕ → Listed → Bool
is_of o j e = e.object == o && e.holder == j

unfoldable pub listed : ℕ → ℕ → List Listed → Bool
listed o j [] = false
listed o j (e ∷ es) = is_of o j e || listed o j es

-- listed, and found in use in this census
unfoldable pub listed_in : ℕ → ℕ → ℕ → List Listed → Bool
listed_in c o j [] = false
listed_in c o j (e ∷ es) = (is_of o j e && e.census == c) || listed_in c o j es

-- the place of the first line of o and j, counted from k
unfoldable pub place : ℕ → ℕ → ℕ → List Listed → Option ℕ
place o j k [] = None
place o j k (e ∷ es) = cond (is_of o j e) (Some k) (place o j (k + 1) es)

-- a handing out: the line is new, or gets the stamp and the census
unfoldable pub entered : ℕ → ℕ → ℕ → ℕ → List Listed → List Listed
entered o j s c [] = line o j s c ∷ []
entered o j s c (e ∷ es) = cond (is_of o j e) (line o j s c ∷ es) (e ∷ entered o j s c es)

-- a telling: the line, if there is one, was found in use in this census
unfoldable pub marked : ℕ → ℕ → ℕ → List Listed → List Listed
marked c o j [] = []
marked c o j (e ∷ es) = cond (is_of o j e) (line o j e.stamp c ∷ es) (e ∷ marked c o j es)

-- what may still be on its way counts as in use when a census begins
unfoldable pub joined : ℕ → (ℕ → ℕ) → List Listed → List Listed
joined c heard [] = []
joined c heard (e ∷ es) = cond (nat_lt (heard e.holder) e.stamp) (line e.object e.holder e.stamp c) e ∷ joined c heard es

-- a holder's word takes a line away: what it holds, and the highest stamp that it has seen
abbrev pub goes : ℕ → List ℕ → ℕ → Listed → Bool
goes j held upto e = e.holder == j && nat_le e.stamp upto && not (is_in e.object held)

unfoldable pub heard_of : ℕ → List ℕ → ℕ → List Listed → List Listed
heard_of j held upto [] = []
heard_of j held upto (e ∷ es) = cond (goes j held upto e) (heard_of j held upto es) (e ∷ heard_of j held upto es)

-- a census is complete: what was not found in use in it goes
unfoldable pub swept : ℕ → List Listed → List Listed
swept c [] = []
swept c (e ∷ es) = cond (e.census == c) (e ∷ swept c es) (swept c es)

unfoldable pub objects_listed : List Listed → List ℕ
objects_listed [] = []
objects_listed (e ∷ es) = e.object ∷ objects_listed es

unfoldable pub objects_in : ℕ → List Listed → List ℕ
objects_in c [] = []
objects_in c (e ∷ es) = cond (e.census == c) (e.object ∷ objects_in c es) (objects_in c es)

-- a full list takes no new line
abbrev pub fits : ℕ → ℕ → List Listed → ℕ → Bool
fits o j es room = listed o j es || nat_lt (length es) room

-- a line may be entered: the object lives here, and its holder is another house
abbrev pub belongs : ℕ → ℕ → ℕ → ℕ → Bool
belongs here houses o j = home o == here && (not (j == here) && nat_lt j houses)
