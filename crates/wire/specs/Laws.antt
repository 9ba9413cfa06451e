-- What holds of the format as a whole.
use Rattle.std.specs.Prelude.{◌≡◌, ℕ, ◌*◌, ◌^◌, ◌<◌, ◌≤◌, true, List, [], ◌∷◌, ◌++◌, length, Ok, Err}
use Rattle.wire.specs.declared.names.Name.{Name}
use Rattle.wire.specs.declared.message.Message.{Message}
use Rattle.wire.specs.declared.message.Message.TheVariants.{Ask, Give, Word, Telling, Answer, Round, Reply, Complete}
use Rattle.wire.specs.declared.refusal.Refusal.TheVariants.{Malformed}
use Rattle.wire.specs.Names.{home}
use Rattle.wire.specs.Format.{byte_at, decode, encode, part_of, numbers, rising}

-- bytes are below 256
abbrev pub Bytes : List ℕ → Type 0
Bytes bs = (k : ℕ) → byte_at bs k < 256

-- the name of an object in one of n houses
pub record Named (n : ℕ) (o : Name) : Type 0 where
  pub some : 16 ≤ o.0
  pub fits : o.0 < 2 ^ 32
  pub near : home o.0 < n

-- a message, with a word's objects beside it, that one of n houses may send
abbrev pub Valid : ℕ → Message → List ℕ → Type 0
Valid n (Ask o by to) objects = Named n o × (by.0 < n) × (to.0 < n) × (objects ≡ [])
Valid n (Give o to s) objects = Named n o × (to.0 < n) × (s.0 < 2 ^ 32) × (objects ≡ [])
Valid n (Word from to s p) objects =
    (from.0 < n) × (to.0 < n) × (s.0 < 2 ^ 32) × (p.at ≡ 9) × (p.count < 2 ^ 16) × (length objects ≡ 4 * p.count) × (rising to.0 15 (numbers objects) ≡ true)
Valid n (Telling c o from) objects = (c.0 < 2 ^ 32) × Named n o × (from.0 < n) × (objects ≡ [])
Valid n (Answer c o from) objects = (c.0 < 2 ^ 32) × Named n o × (from.0 < n) × (objects ≡ [])
Valid n (Round c r) objects = (c.0 < 2 ^ 32) × (r.0 < 2 ^ 32) × (objects ≡ [])
Valid n (Reply c r from calm t) objects = (c.0 < 2 ^ 32) × (r.0 < 2 ^ 32) × (from.0 < n) × (t.0 < 2 ^ 32) × (objects ≡ [])
Valid n (Complete c) objects = (c.0 < 2 ^ 32) × (objects ≡ [])

-- n houses read these bytes as this message with these objects
pub record ReadAs (n : ℕ) (bs : List ℕ) (m : Message) (objects : List ℕ) : Type 0 where
  pub message : decode n bs ≡ Ok m
  pub part : part_of m bs ≡ objects

-- the objects of a word rise, and live in the house that it goes to
abbrev pub Rises : Message → List ℕ → Type 0
Rises (Ask o by to) objects = Unit {0}
Rises (Give o to s) objects = Unit {0}
Rises (Word from to s p) objects = rising to.0 15 (numbers objects) ≡ true
Rises (Telling c o from) objects = Unit {0}
Rises (Answer c o from) objects = Unit {0}
Rises (Round c r) objects = Unit {0}
Rises (Reply c r from calm t) objects = Unit {0}
Rises (Complete c) objects = Unit {0}

-- What is written of this message is read back, objects and all.
abbrev pub ReadsBack : Message → List ℕ → Type 0
ReadsBack m objects = (n : ℕ) → Valid n m objects → ReadAs n (encode m objects) m objects

-- These bytes, cut short anywhere or with anything after them, are no message.
pub record Alone (n : ℕ) (bs : List ℕ) : Type 0 where
  pub cut : (xs : List ℕ) (y : ℕ) (ys : List ℕ) → xs ++ (y ∷ ys) ≡ bs → decode n xs ≡ Err Malformed
  pub longer : (y : ℕ) (ys : List ℕ) → decode n (bs ++ (y ∷ ys)) ≡ Err Malformed

-- What may be said of bytes that were read as a message: writing it gives them again, so no others are read as it; and they are a message only whole.
pub record Unique (n : ℕ) (bs : List ℕ) (m : Message) : Type 0 where
  pub form : encode m (part_of m bs) ≡ bs
  pub others : (xs : List ℕ) → Bytes xs → ReadAs n xs m (part_of m bs) → xs ≡ bs
  pub alone : Alone n bs
