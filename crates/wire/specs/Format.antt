-- Messages as bytes: the high byte first; names, stamps, census and round numbers and tallies have four, houses one, counts two.
use Rattle.std.specs.Prelude.{ℕ, ◌+◌, ◌*◌, ◌/◌, ◌%◌, Bool, true, cond, ◌&&◌, List, [], ◌∷◌, ◌++◌, length, drop, Ok, Err, Result, ◌==◌, nat_le, nat_lt, slice_index}
use Rattle.wire.specs.declared.names.House.{House}
use Rattle.wire.specs.declared.names.Name.{Name}
use Rattle.wire.specs.declared.names.Stamp.{Stamp}
use Rattle.wire.specs.declared.names.Census.{Census}
use Rattle.wire.specs.declared.names.RoundNumber.{RoundNumber}
use Rattle.wire.specs.declared.names.Tally.{Tally}
use Rattle.wire.specs.declared.message.Message.{Message}
use Rattle.wire.specs.declared.message.Message.TheVariants.{Ask, Give, Word, Telling, Answer, Round, Reply, Complete}
use Rattle.wire.specs.declared.refusal.Refusal.{Refusal}
use Rattle.wire.specs.declared.refusal.Refusal.TheVariants.{Malformed}
use Rattle.wire.specs.Names.{house, name, well_formed}

abbrev pub number : ℕ → ℕ → ℕ → ℕ → ℕ
number a b c d = a * 16777216 + b * 65536 + c * 256 + d

abbrev pub byte_at : List ℕ → ℕ → ℕ
byte_at bs i = slice_index bs i

abbrev pub u16_at : List ℕ → ℕ → ℕ
u16_at bs i = byte_at bs i * 256 + byte_at bs (i + 1)

abbrev pub u32_at : List ℕ → ℕ → ℕ
u32_at bs i = number (byte_at bs i) (byte_at bs (i + 1)) (byte_at bs (i + 2)) (byte_at bs (i + 3))

abbrev pub house_at : List ℕ → ℕ → House
house_at bs i = house (byte_at bs i)

abbrev pub name_at : List ℕ → ℕ → Name
name_at bs i = name (u32_at bs i)

abbrev pub stamp_at : List ℕ → ℕ → Stamp
stamp_at bs i = record { 0 = u32_at bs i }

abbrev pub census_at : List ℕ → ℕ → Census
census_at bs i = record { 0 = u32_at bs i }

abbrev pub round_at : List ℕ → ℕ → RoundNumber
round_at bs i = record { 0 = u32_at bs i }

abbrev pub tally_at : List ℕ → ℕ → Tally
tally_at bs i = record { 0 = u32_at bs i }

-- the numbers of a part, four bytes each
unfoldable pub numbers : List ℕ → List ℕ
numbers [] = []
numbers (a ∷ []) = []
numbers (a ∷ b ∷ []) = []
numbers (a ∷ b ∷ c ∷ []) = []
numbers (a ∷ b ∷ c ∷ d ∷ rest) = number a b c d ∷ numbers rest

-- an object of house `to` that is above `low`
abbrev pub follows : ℕ → ℕ → ℕ → Bool
follows to low o = nat_lt low o && o % 16 == to

-- each object is above the one before and above `low`, and lives in house `to`
unfoldable pub rising : ℕ → ℕ → List ℕ → Bool
rising to low [] = true
rising to low (o ∷ os) = nat_lt low o && (o % 16 == to && rising to o os)

-- what was read if all is as it must be
abbrev pub checked : {A : Type 0} → Bool → A → Result A Refusal
checked ok m = cond ok (Ok m) (Err Malformed)

abbrev pub ask_of : ℕ → List ℕ → Result Message Refusal
ask_of n bs = checked (length bs == 7 && (well_formed n (name_at bs 1) && (nat_lt (byte_at bs 5) n && nat_lt (byte_at bs 6) n))) (Ask (name_at bs 1) (house_at bs 5) (house_at bs 6))

abbrev pub give_of : ℕ → List ℕ → Result Message Refusal
give_of n bs = checked (length bs == 10 && (well_formed n (name_at bs 1) && nat_lt (byte_at bs 5) n)) (Give (name_at bs 1) (house_at bs 5) (stamp_at bs 6))

-- a word's objects follow its nine other bytes
abbrev pub word_of : ℕ → List ℕ → Result Message Refusal
word_of n bs =
    checked
    (nat_le 9 (length bs) && (length bs == 9 + 4 * u16_at bs 7 && (nat_lt (byte_at bs 1) n && (nat_lt (byte_at bs 2) n && rising (byte_at bs 2) 15 (numbers (drop 9 bs))))))
    (Word (house_at bs 1) (house_at bs 2) (stamp_at bs 3) (record { at = 9; count = u16_at bs 7 }))

-- a telling and its answer have the same form
abbrev pub telling_of : ℕ → List ℕ → Result (Census × Name × House) Refusal
telling_of n bs = checked (length bs == 10 && (well_formed n (name_at bs 5) && nat_lt (byte_at bs 9) n)) (census_at bs 1, name_at bs 5, house_at bs 9)

abbrev pub as_telling : Result (Census × Name × House) Refusal → Result Message Refusal
as_telling (Ok t) = Ok (Telling t.0 t.1 t.2)
as_telling (Err e) = Err e

abbrev pub as_answer : Result (Census × Name × House) Refusal → Result Message Refusal
as_answer (Ok t) = Ok (Answer t.0 t.1 t.2)
as_answer (Err e) = Err e

abbrev pub round_of : List ℕ → Result Message Refusal
round_of bs = checked (length bs == 9) (Round (census_at bs 1) (round_at bs 5))

abbrev pub reply_of : ℕ → List ℕ → Result Message Refusal
reply_of n bs = checked (length bs == 15 && (nat_lt (byte_at bs 9) n && nat_lt (byte_at bs 10) 2)) (Reply (census_at bs 1) (round_at bs 5) (house_at bs 9) (byte_at bs 10 == 1) (tally_at bs 11))

abbrev pub complete_of : List ℕ → Result Message Refusal
complete_of bs = checked (length bs == 5) (Complete (census_at bs 1))

abbrev pub by_first : ℕ → ℕ → List ℕ → Result Message Refusal
by_first k n bs =
    cond (k == 1) (ask_of n bs)
    (cond (k == 2) (give_of n bs)
    (cond (k == 3) (word_of n bs)
    (cond (k == 4) (as_telling (telling_of n bs))
    (cond (k == 5) (as_answer (telling_of n bs))
    (cond (k == 6) (round_of bs)
    (cond (k == 7) (reply_of n bs)
    (cond (k == 8) (complete_of bs) (Err Malformed))))))))

-- What these bytes say among n houses: a message, or nothing of the right form. No bytes have 0 for their first.
abbrev pub decode : ℕ → List ℕ → Result Message Refusal
decode n bs = by_first (byte_at bs 0) n bs

-- The part of these bytes that holds the objects of the message: only a word has any.
abbrev pub part_of : Message → List ℕ → List ℕ
part_of (Ask o by to) bs = []
part_of (Give o to s) bs = []
part_of (Word from to s p) bs = drop p.at bs
part_of (Telling c o from) bs = []
part_of (Answer c o from) bs = []
part_of (Round c r) bs = []
part_of (Reply c r from calm t) bs = []
part_of (Complete c) bs = []

abbrev pub bytes2 : ℕ → List ℕ
bytes2 x = (x / 256 % 256) ∷ (x % 256) ∷ []

abbrev pub bytes4 : ℕ → List ℕ
bytes4 x = (x / 16777216 % 256) ∷ (x / 65536 % 256) ∷ (x / 256 % 256) ∷ (x % 256) ∷ []

-- The bytes of a message but for a word's objects.
abbrev pub head_of : Message → List ℕ
head_of (Ask o by to) = 1 ∷ (bytes4 o.0 ++ (by.0 ∷ to.0 ∷ []))
head_of (Give o to s) = 2 ∷ (bytes4 o.0 ++ (to.0 ∷ bytes4 s.0))
head_of (Word from to s p) = 3 ∷ from.0 ∷ to.0 ∷ (bytes4 s.0 ++ bytes2 p.count)
head_of (Telling c o from) = 4 ∷ (bytes4 c.0 ++ (bytes4 o.0 ++ (from.0 ∷ [])))
head_of (Answer c o from) = 5 ∷ (bytes4 c.0 ++ (bytes4 o.0 ++ (from.0 ∷ [])))
head_of (Round c r) = 6 ∷ (bytes4 c.0 ++ bytes4 r.0)
head_of (Reply c r from calm t) = 7 ∷ (bytes4 c.0 ++ (bytes4 r.0 ++ (from.0 ∷ cond calm 1 0 ∷ bytes4 t.0)))
head_of (Complete c) = 8 ∷ bytes4 c.0

-- The bytes of a message, with a word's objects beside it.
abbrev pub encode : Message → List ℕ → List ℕ
encode m objects = head_of m ++ objects
