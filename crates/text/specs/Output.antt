-- What programs print, and the lines that they read.
use Rattle.std.specs.Prelude.{ℕ, ◌-◌, cond, ◌&&◌, List, [], ◌∷◌, ◌++◌, length, take, codes, decimal, ◌==◌, nat_lt, slice_index}
use Rattle.wire.specs.declared.names.House.{House}
use Rattle.wire.specs.declared.refusal.Refusal.{Refusal}
use Rattle.wire.specs.declared.refusal.Refusal.TheVariants.{Malformed, Misdelivered, NotRoot, NoField, NotHere, NotHolder, OldStamp, OtherCensus, NoRoom, OutOfNumbers, WrongHouse}
use Rattle.wire.specs.Refusals.{number_of}
use Rattle.text.specs.Hex.{hex_text}

-- the name of a refusal
abbrev pub name_of : Refusal → List ℕ
name_of Malformed = codes "not of the right form"
name_of Misdelivered = codes "not for this house"
name_of NotRoot = codes "not a root, or not of this house"
name_of NoField = codes "no such field"
name_of NotHere = codes "the object is not here"
name_of NotHolder = codes "the asking house has no line of this census, or at home no root"
name_of OldStamp = codes "the stamp is not above the highest seen"
name_of OtherCensus = codes "of another census"
name_of NoRoom = codes "no room for an object, field, root or line"
name_of OutOfNumbers = codes "a number that does not rise, or a counter at its end"
name_of WrongHouse = codes "not a call for this house"

abbrev pub refusal_line : Refusal → List ℕ
refusal_line r = codes "no " ++ (decimal (number_of r) ++ (10 ∷ []))

abbrev pub named_refusal_line : Refusal → List ℕ
named_refusal_line r = codes "no " ++ (decimal (number_of r) ++ (codes " " ++ (name_of r ++ (10 ∷ []))))

-- a message in hexadecimal digits, a line
abbrev pub message_line : List ℕ → List ℕ
message_line bs = hex_text bs ++ (10 ∷ [])

-- the same after whom it is sent to
abbrev pub send_line : House → List ℕ → List ℕ
send_line h bs = codes "send " ++ (decimal h.0 ++ (codes " " ++ message_line bs))

-- what ends an answer where nothing was refused
abbrev pub done_line : List ℕ
done_line = codes "ok" ++ (10 ∷ [])

-- the last byte, if it is a newline, ends the line and is not of it
abbrev pub chomped : List ℕ → List ℕ
chomped line = cond (nat_lt 0 (length line) && slice_index line (length line - 1) == 10) (take (length line - 1) line) line
