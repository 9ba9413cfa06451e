-- Messages within their ranges: what was read is, and what is within them can be sent.
use Rattle.std.proofs.Common.{◌≡◌, ℕ, zero, suc, ◌+◌, ◌*◌, ◌/◌, ◌%◌, ◌^◌, ◌<◌, ◌≤◌, Bool, true, false, cond, ◌&&◌, eqb, ltb, leb, List, [], ◌∷◌, ◌++◌, length, drop, Ok, Err, Result, refl, ap, ◌∙◌, subst, arith}
use Rattle.std.proofs.lemmas.List.{length-drop}
use Rattle.std.proofs.lemmas.Bool.{and_parts, and_from, eqb-true, eq-eqb, leb-true, ltb-true, lt-ltb, or_left, or_right}
use Rattle.wire.specs.declared.names.House.{House}
use Rattle.wire.specs.declared.names.Name.{Name}
use Rattle.wire.specs.declared.names.Census.{Census}
use Rattle.wire.specs.declared.message.Message.{Message}
use Rattle.wire.specs.declared.message.Message.TheVariants.{Ask, Give, Word, Telling, Answer, Round, Reply, Complete}
use Rattle.wire.specs.declared.refusal.Refusal.{Refusal}
use Rattle.wire.specs.declared.refusal.Refusal.TheVariants.{Malformed}
use Rattle.wire.specs.Names.{home, name, well_formed}
use Rattle.wire.specs.Format.{byte_at, u16_at, u32_at, house_at, name_at, stamp_at, census_at, round_at, tally_at, number, numbers, rising, checked, ask_of, give_of, word_of, telling_of, as_telling, as_answer, round_of, reply_of, complete_of, decode, encode, part_of, bytes4, bytes2}
use Rattle.wire.specs.Laws.{Bytes, Named, Valid}
use Rattle.wire.proofs.Digits.{four}
use Rattle.tables.specs.Model as table
use Rattle.rules.specs.Step.{bytes_of}

-- what was read, one way or the other
module _ (P : Message → Type 0) where
  pick : (b : Bool) (x y : Result Message Refusal) → (b ≡ true → (m : Message) → x ≡ Ok m → P m) → ((m : Message) → y ≡ Ok m → P m) → (m : Message) → cond b x y ≡ Ok m → P m
  pick true x y f g m e = f refl m e
  pick false x y f g m e = g m e

  never : (m : Message) → Err Malformed ≡ Ok m → P m
  never m e = let z : ◌≡◌ {A = ℕ} 0 1 = cc in absurd (omega arith)

  from_checked : (b : Bool) (x : Message) → (b ≡ true → P x) → (m : Message) → checked b x ≡ Ok m → P m
  from_checked true x f m e = let q : x ≡ m = cc in subst P q (f refl)
  from_checked false x f m e = never m e

  from_telling : (b : Bool) (t : Census × Name × House) → (b ≡ true → P (Telling t.0 t.1 t.2)) → (m : Message) → as_telling (checked b t) ≡ Ok m → P m
  from_telling true t f m e = let q : Telling t.0 t.1 t.2 ≡ m = cc in subst P q (f refl)
  from_telling false t f m e = never m e

  from_answer : (b : Bool) (t : Census × Name × House) → (b ≡ true → P (Answer t.0 t.1 t.2)) → (m : Message) → as_answer (checked b t) ≡ Ok m → P m
  from_answer true t f m e = let q : Answer t.0 t.1 t.2 ≡ m = cc in subst P q (f refl)
  from_answer false t f m e = never m e

number_small : (a b c d : ℕ) → a < 256 → b < 256 → c < 256 → d < 256 → number a b c d < 2 ^ 32
number_small a b c d p q r s = omega arith

count_small : (a b : ℕ) → a < 256 → b < 256 → a * 256 + b < 2 ^ 16
count_small a b p q = omega arith

module _ (n : ℕ) (bs : List ℕ) (bytes : Bytes bs) where
  small : (i : ℕ) → u32_at bs i < 2 ^ 32
  small i = number_small (byte_at bs i) (byte_at bs (i + 1)) (byte_at bs (i + 2)) (byte_at bs (i + 3)) (bytes i) (bytes (i + 1)) (bytes (i + 2)) (bytes (i + 3))

  named_at : (i : ℕ) → well_formed n (name_at bs i) ≡ true → Named n (name_at bs i)
  named_at i w =
      let p = and_parts (leb 16 (u32_at bs i)) (ltb (home (u32_at bs i)) n) w in
      record { some = leb-true 16 (u32_at bs i) p.0; fits = small i; near = ltb-true (home (u32_at bs i)) n p.1 }

  abbrev Read : Message → Type 0
  Read m = Valid n m (part_of m bs)

  read_ask : (eqb (length bs) 7 && (well_formed n (name_at bs 1) && (ltb (byte_at bs 5) n && ltb (byte_at bs 6) n))) ≡ true → Read (Ask (name_at bs 1) (house_at bs 5) (house_at bs 6))
  read_ask ok =
      let a = and_parts (eqb (length bs) 7) _ ok in
      let b = and_parts (well_formed n (name_at bs 1)) _ a.1 in
      let d = and_parts (ltb (byte_at bs 5) n) (ltb (byte_at bs 6) n) b.1 in
      (named_at 1 b.0, ltb-true (byte_at bs 5) n d.0, ltb-true (byte_at bs 6) n d.1, refl)

  read_give : (eqb (length bs) 10 && (well_formed n (name_at bs 1) && ltb (byte_at bs 5) n)) ≡ true → Read (Give (name_at bs 1) (house_at bs 5) (stamp_at bs 6))
  read_give ok =
      let a = and_parts (eqb (length bs) 10) _ ok in
      let b = and_parts (well_formed n (name_at bs 1)) (ltb (byte_at bs 5) n) a.1 in
      (named_at 1 b.0, ltb-true (byte_at bs 5) n b.1, small 6, refl)

  read_word : (leb 9 (length bs) && (eqb (length bs) (9 + 4 * u16_at bs 7) && (ltb (byte_at bs 1) n && (ltb (byte_at bs 2) n && rising (byte_at bs 2) 15 (numbers (drop 9 bs)))))) ≡ true → Read (Word (house_at bs 1) (house_at bs 2) (stamp_at bs 3) (record { at = 9; count = u16_at bs 7 }))
  read_word ok =
      let a = and_parts (leb 9 (length bs)) _ ok in
      let b = and_parts (eqb (length bs) (9 + 4 * u16_at bs 7)) _ a.1 in
      let d = and_parts (ltb (byte_at bs 1) n) _ b.1 in
      let e = and_parts (ltb (byte_at bs 2) n) (rising (byte_at bs 2) 15 (numbers (drop 9 bs))) d.1 in
      let long : length (drop 9 bs) ≡ 4 * u16_at bs 7 = omega (arith, length-drop 9 bs, eqb-true (length bs) (9 + 4 * u16_at bs 7) b.0) in
      (ltb-true (byte_at bs 1) n d.0, ltb-true (byte_at bs 2) n e.0, small 3, refl, count_small (byte_at bs 7) (byte_at bs 8) (bytes 7) (bytes 8), long, e.1)

  read_telling : (eqb (length bs) 10 && (well_formed n (name_at bs 5) && ltb (byte_at bs 9) n)) ≡ true → ((census_at bs 1).0 < 2 ^ 32) × Named n (name_at bs 5) × ((house_at bs 9).0 < n) × (◌≡◌ {A = List ℕ} [] [])
  read_telling ok =
      let a = and_parts (eqb (length bs) 10) _ ok in
      let b = and_parts (well_formed n (name_at bs 5)) (ltb (byte_at bs 9) n) a.1 in
      (small 1, named_at 5 b.0, ltb-true (byte_at bs 9) n b.1, refl)

  read_reply : (eqb (length bs) 15 && (ltb (byte_at bs 9) n && ltb (byte_at bs 10) 2)) ≡ true → Read (Reply (census_at bs 1) (round_at bs 5) (house_at bs 9) (eqb (byte_at bs 10) 1) (tally_at bs 11))
  read_reply ok =
      let a = and_parts (eqb (length bs) 15) _ ok in
      let b = and_parts (ltb (byte_at bs 9) n) (ltb (byte_at bs 10) 2) a.1 in
      (small 1, small 5, ltb-true (byte_at bs 9) n b.0, small 11, refl)

  -- what was read is a message that one of n houses may send
  pub read_valid : (m : Message) → decode n bs ≡ Ok m → Valid n m (part_of m bs)
  read_valid =
      let k : ℕ = byte_at bs 0 in
      pick Read (eqb k 1) (ask_of n bs) _ (λ _. from_checked Read _ _ read_ask)
      (pick Read (eqb k 2) (give_of n bs) _ (λ _. from_checked Read _ _ read_give)
      (pick Read (eqb k 3) (word_of n bs) _ (λ _. from_checked Read _ _ read_word)
      (pick Read (eqb k 4) (as_telling (telling_of n bs)) _ (λ _. from_telling Read _ _ read_telling)
      (pick Read (eqb k 5) (as_answer (telling_of n bs)) _ (λ _. from_answer Read _ _ read_telling)
      (pick Read (eqb k 6) (round_of bs) _ (λ _. from_checked Read _ _ (λ _. (small 1, small 5, refl)))
      (pick Read (eqb k 7) (reply_of n bs) _ (λ _. from_checked Read _ _ read_reply)
      (pick Read (eqb k 8) (complete_of bs) _ (λ _. from_checked Read _ _ (λ _. (small 1, refl))) (never Read))))))))

-- what is written is bytes
pub no_bytes : Bytes []
no_bytes k = omega arith

byte_more : (b : ℕ) (bs : List ℕ) → b < 256 → Bytes bs → Bytes (b ∷ bs)
byte_more b bs l w zero = l
byte_more b bs l w (suc k) = w k

mod_byte : (x : ℕ) → x % 256 < 256
mod_byte x = omega arith

four_more : (x : ℕ) (bs : List ℕ) → Bytes bs → Bytes (bytes4 x ++ bs)
four_more x bs w =
    byte_more (x / 16777216 % 256) ((x / 65536 % 256) ∷ (x / 256 % 256) ∷ (x % 256) ∷ bs) (mod_byte (x / 16777216))
    (byte_more (x / 65536 % 256) ((x / 256 % 256) ∷ (x % 256) ∷ bs) (mod_byte (x / 65536)) (byte_more (x / 256 % 256) ((x % 256) ∷ bs) (mod_byte (x / 256)) (byte_more (x % 256) bs (mod_byte x) w)))

two_more : (x : ℕ) (bs : List ℕ) → Bytes bs → Bytes (bytes2 x ++ bs)
two_more x bs w = byte_more (x / 256 % 256) ((x % 256) ∷ bs) (mod_byte (x / 256)) (byte_more (x % 256) bs (mod_byte x) w)

pub names_bytes : (os : List ℕ) → Bytes (bytes_of os)
names_bytes [] = no_bytes
names_bytes (o ∷ os) = four_more o (bytes_of os) (names_bytes os)

house_byte : (i n : ℕ) → n ≤ 16 → i < n → i < 256
house_byte i n l h = omega arith

calm_byte : (calm : Bool) → cond calm 1 0 < 256
calm_byte true = omega arith
calm_byte false = omega arith

-- a house and what follows it
house_more : (i n : ℕ) (bs : List ℕ) → n ≤ 16 → i < n → Bytes bs → Bytes (i ∷ bs)
house_more i n bs l h w = byte_more i bs (house_byte i n l h) w

told_bytes : (n c o i : ℕ) (os : List ℕ) → n ≤ 16 → i < n → Bytes os → Bytes (bytes4 c ++ (bytes4 o ++ (i ∷ os)))
told_bytes n c o i os l h z = four_more c (bytes4 o ++ (i ∷ os)) (four_more o (i ∷ os) (house_more i n os l h z))

pub written_bytes : (n : ℕ) → n ≤ 16 → (m : Message) (os : List ℕ) → Valid n m os → Bytes os → Bytes (encode m os)
written_bytes n l (Ask o by to) os (w, a, b, e) z =
    let tail = by.0 ∷ to.0 ∷ os in
    byte_more 1 (bytes4 o.0 ++ tail) (omega arith) (four_more o.0 tail (house_more by.0 n (to.0 ∷ os) l a (house_more to.0 n os l b z)))
written_bytes n l (Give o to s) os (w, a, b, e) z =
    let tail = to.0 ∷ (bytes4 s.0 ++ os) in
    byte_more 2 (bytes4 o.0 ++ tail) (omega arith) (four_more o.0 tail (house_more to.0 n (bytes4 s.0 ++ os) l a (four_more s.0 os z)))
written_bytes n l (Word from to s p) os (a, b, c, d, e, f, g) z =
    let tail = bytes4 s.0 ++ (bytes2 p.count ++ os) in
    byte_more 3 (from.0 ∷ to.0 ∷ tail) (omega arith)
    (house_more from.0 n (to.0 ∷ tail) l a (house_more to.0 n tail l b (four_more s.0 (bytes2 p.count ++ os) (two_more p.count os z))))
written_bytes n l (Telling c o from) os (a, w, b, e) z = byte_more 4 (bytes4 c.0 ++ (bytes4 o.0 ++ (from.0 ∷ os))) (omega arith) (told_bytes n c.0 o.0 from.0 os l b z)
written_bytes n l (Answer c o from) os (a, w, b, e) z = byte_more 5 (bytes4 c.0 ++ (bytes4 o.0 ++ (from.0 ∷ os))) (omega arith) (told_bytes n c.0 o.0 from.0 os l b z)
written_bytes n l (Round c r) os (a, b, e) z = byte_more 6 (bytes4 c.0 ++ (bytes4 r.0 ++ os)) (omega arith) (four_more c.0 (bytes4 r.0 ++ os) (four_more r.0 os z))
written_bytes n l (Reply c r from calm t) os (a, b, d, f, e) z =
    let tail = cond calm 1 0 ∷ (bytes4 t.0 ++ os) in
    byte_more 7 (bytes4 c.0 ++ (bytes4 r.0 ++ (from.0 ∷ tail))) (omega arith)
    (four_more c.0 (bytes4 r.0 ++ (from.0 ∷ tail)) (four_more r.0 (from.0 ∷ tail) (house_more from.0 n tail l d (byte_more (cond calm 1 0) (bytes4 t.0 ++ os) (calm_byte calm) (four_more t.0 os z)))))
written_bytes n l (Complete c) os (a, e) z = byte_more 8 (bytes4 c.0 ++ os) (omega arith) (four_more c.0 os z)

-- the objects of a word
pub length_names : (os : List ℕ) → length (bytes_of os) ≡ 4 * length os
length_names [] = refl
length_names (o ∷ os) = let i = length_names os in omega arith

abbrev Fits : List ℕ → Type 0
Fits os = (o : ℕ) → table.is_in o os ≡ true → o < 2 ^ 32

names_read : (os : List ℕ) → Fits os → numbers (bytes_of os) ≡ os
unfolding numbers
names_read [] f = refl
names_read (o ∷ os) f =
    ap (λ x. x ∷ numbers (bytes_of os)) (four o (f o (or_left (eqb o o) (table.is_in o os) (eq-eqb o o refl))))
    ∙ ap (λ xs. o ∷ xs) (names_read os (λ q e. f q (or_right (eqb o q) (table.is_in q os) e)))

-- a rising list of names of one house
rising_word : (j low : ℕ) (os : List ℕ) → table.above low os ≡ true → table.rising os ≡ true → ((o : ℕ) → table.is_in o os ≡ true → home o ≡ j) → rising j low os ≡ true
unfolding rising
rising_word j low [] a r f = refl
rising_word j low (o ∷ os) a r f =
    let p = and_parts (ltb low o) (table.above low os) a in
    let q = and_parts (table.above o os) (table.rising os) r in
    let here : eqb (o % 16) j ≡ true = eq-eqb (o % 16) j (f o (or_left (eqb o o) (table.is_in o os) (eq-eqb o o refl))) in
    and_from (ltb low o) _ p.0 (and_from (eqb (o % 16) j) _ here (rising_word j o os q.0 q.1 (λ x e. f x (or_right (eqb o x) (table.is_in x os) e))))

above_all : (low : ℕ) (os : List ℕ) → ((o : ℕ) → table.is_in o os ≡ true → low < o) → table.above low os ≡ true
above_all low [] f = refl
above_all low (o ∷ os) f =
    and_from (ltb low o) (table.above low os) (lt-ltb low o (f o (or_left (eqb o o) (table.is_in o os) (eq-eqb o o refl)))) (above_all low os (λ x e. f x (or_right (eqb o x) (table.is_in x os) e)))

pub word_rises : (n j : ℕ) (os : List ℕ) → table.rising os ≡ true → ((o : ℕ) → table.is_in o os ≡ true → (home o ≡ j) × Named n (name o)) → rising j 15 (numbers (bytes_of os)) ≡ true
word_rises n j os r f =
    ap (rising j 15) (names_read os (λ o e. (f o e).1.fits))
    ∙ rising_word j 15 os (above_all 15 os (λ o e. let l = (f o e).1.some in omega arith)) r (λ o e. (f o e).0)
