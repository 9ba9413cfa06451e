-- Which bytes are read as a message: all of it, and nothing else.
use Rattle.std.proofs.Common.{◌≡◌, ℕ, zero, suc, ◌+◌, ◌*◌, ◌/◌, ◌%◌, ◌<◌, ◌≤◌, Bool, true, false, cond, ◌&&◌, eqb, ltb, ◌⊎◌, List, [], ◌∷◌, ◌++◌, length, drop, Ok, Err, Result, sym, refl, ap, ◌∙◌, subst, inl, inr, ⊎_elim, add-zero, arith, length-append, drop-cons}
use Rattle.std.proofs.lemmas.List.{drop_all, get_or_append_left}
use Rattle.std.proofs.lemmas.Bool.{eqb-true, leb-true, ltb-true, ne_eqb, and_parts, cases_eq, cond_both}
use Rattle.wire.specs.declared.names.House.{House}
use Rattle.wire.specs.declared.names.Name.{Name}
use Rattle.wire.specs.declared.names.Census.{Census}
use Rattle.wire.specs.declared.message.Message.{Message}
use Rattle.wire.specs.declared.message.Message.TheVariants.{Ask, Give, Word, Telling, Answer, Round, Reply, Complete}
use Rattle.wire.specs.declared.refusal.Refusal.{Refusal}
use Rattle.wire.specs.declared.refusal.Refusal.TheVariants.{Malformed}
use Rattle.wire.specs.Format.{byte_at, u16_at, u32_at, house_at, name_at, stamp_at, census_at, round_at, tally_at, checked, telling_of, ask_of, give_of, word_of, as_telling, as_answer, round_of, reply_of, complete_of, decode, encode, part_of, numbers, rising}
use Rattle.wire.specs.Laws.{Bytes, Rises, Unique}
use Rattle.wire.proofs.Digits.{digit1, digit2, digit3, digit4, high2, low2}

-- What is known of bytes that are read as a message.
pub data Reading (bs : List ℕ) : Message → Type 0 where
  ask : byte_at bs 0 ≡ 1 → length bs ≡ 7 → Reading bs (Ask (name_at bs 1) (house_at bs 5) (house_at bs 6))
  give : byte_at bs 0 ≡ 2 → length bs ≡ 10 → Reading bs (Give (name_at bs 1) (house_at bs 5) (stamp_at bs 6))
  word : byte_at bs 0 ≡ 3 → 9 ≤ length bs → length bs ≡ 9 + 4 * u16_at bs 7 → rising (byte_at bs 2) 15 (numbers (drop 9 bs)) ≡ true → Reading bs (Word (house_at bs 1) (house_at bs 2) (stamp_at bs 3) (record { at = 9; count = u16_at bs 7 }))
  telling : byte_at bs 0 ≡ 4 → length bs ≡ 10 → Reading bs (Telling (census_at bs 1) (name_at bs 5) (house_at bs 9))
  answer : byte_at bs 0 ≡ 5 → length bs ≡ 10 → Reading bs (Answer (census_at bs 1) (name_at bs 5) (house_at bs 9))
  round : byte_at bs 0 ≡ 6 → length bs ≡ 9 → Reading bs (Round (census_at bs 1) (round_at bs 5))
  reply : byte_at bs 0 ≡ 7 → length bs ≡ 15 → byte_at bs 10 < 2 → Reading bs (Reply (census_at bs 1) (round_at bs 5) (house_at bs 9) (eqb (byte_at bs 10) 1) (tally_at bs 11))
  complete : byte_at bs 0 ≡ 8 → length bs ≡ 5 → Reading bs (Complete (census_at bs 1))

-- one way or the other, where the whole is a message
pick : (P : Message → Type 0) (b : Bool) (x y : Result Message Refusal) → (b ≡ true → (m : Message) → x ≡ Ok m → P m) → (b ≡ false → (m : Message) → y ≡ Ok m → P m) → (m : Message) → cond b x y ≡ Ok m → P m
pick P true x y f g m e = f refl m e
pick P false x y f g m e = g refl m e

never : {A : Type 0} (m : Message) → Err Malformed ≡ Ok m → A
never m e = let z : ◌≡◌ {A = ℕ} 0 1 = cc in absurd (omega arith)

from_checked : (P : Message → Type 0) (b : Bool) (x : Message) → (b ≡ true → P x) → (m : Message) → checked b x ≡ Ok m → P m
from_checked P true x f m e = let q : x ≡ m = cc in subst P q (f refl)
from_checked P false x f m e = never m e

from_telling : (P : Message → Type 0) (b : Bool) (t : Census × Name × House) → (b ≡ true → P (Telling t.0 t.1 t.2)) → (m : Message) → as_telling (checked b t) ≡ Ok m → P m
from_telling P true t f m e = let q : Telling t.0 t.1 t.2 ≡ m = cc in subst P q (f refl)
from_telling P false t f m e = never m e

from_answer : (P : Message → Type 0) (b : Bool) (t : Census × Name × House) → (b ≡ true → P (Answer t.0 t.1 t.2)) → (m : Message) → as_answer (checked b t) ≡ Ok m → P m
from_answer P true t f m e = let q : Answer t.0 t.1 t.2 ≡ m = cc in subst P q (f refl)
from_answer P false t f m e = never m e

pub reading : (n : ℕ) (bs : List ℕ) (m : Message) → decode n bs ≡ Ok m → Reading bs m
reading n bs =
    let k : ℕ = byte_at bs 0 in
    let R : Message → Type 0 = Reading bs in
    let size : (l : ℕ) (b : Bool) → (eqb (length bs) l && b) ≡ true → length bs ≡ l = λ l b ok. eqb-true (length bs) l (and_parts _ b ok).0 in
    pick R (eqb k 1) (ask_of n bs) _ (λ t. from_checked R _ _ (λ ok. ask (eqb-true k 1 t) (size 7 _ ok)))
    (λ _. pick R (eqb k 2) (give_of n bs) _ (λ t. from_checked R _ _ (λ ok. give (eqb-true k 2 t) (size 10 _ ok)))
    (λ _. pick R (eqb k 3) (word_of n bs) _
    (λ t. from_checked R _ _ (λ ok. let long = and_parts _ _ ok in word (eqb-true k 3 t) (leb-true 9 (length bs) long.0) (size (9 + 4 * u16_at bs 7) _ long.1)
    (and_parts (ltb (byte_at bs 2) n) _ (and_parts (ltb (byte_at bs 1) n) _ (and_parts (eqb (length bs) (9 + 4 * u16_at bs 7)) _ long.1).1).1).1))
    (λ _. pick R (eqb k 4) (as_telling (telling_of n bs)) _ (λ t. from_telling R _ _ (λ ok. telling (eqb-true k 4 t) (size 10 _ ok)))
    (λ _. pick R (eqb k 5) (as_answer (telling_of n bs)) _ (λ t. from_answer R _ _ (λ ok. answer (eqb-true k 5 t) (size 10 _ ok)))
    (λ _. pick R (eqb k 6) (round_of bs) _ (λ t. from_checked R _ _ (λ ok. round (eqb-true k 6 t) (eqb-true (length bs) 9 ok)))
    (λ _. pick R (eqb k 7) (reply_of n bs) _
    (λ t. from_checked R _ _ (λ ok. reply (eqb-true k 7 t) (size 15 _ ok) (ltb-true (byte_at bs 10) 2 (and_parts (ltb (byte_at bs 9) n) _ (and_parts (eqb (length bs) 15) _ ok).1).1)))
    (λ _. pick R (eqb k 8) (complete_of bs) _ (λ t. from_checked R _ _ (λ ok. complete (eqb-true k 8 t) (eqb-true (length bs) 5 ok))) (λ _ m e. never m e))))))))

pub rises : (bs : List ℕ) (m : Message) → Reading bs m → Rises m (part_of m bs)
rises bs m (ask p q) = tt
rises bs m (give p q) = tt
rises bs m (word p l q r) = r
rises bs m (telling p q) = tt
rises bs m (answer p q) = tt
rises bs m (round p q) = tt
rises bs m (reply p q s) = tt
rises bs m (complete p q) = tt

-- k bytes from place i on
abbrev from : List ℕ → ℕ → ℕ → List ℕ
from bs i zero = []
from bs i (suc k) = byte_at bs i ∷ from bs (suc i) k

spelled : (bs : List ℕ) (i k : ℕ) → i + k ≤ length bs → drop i bs ≡ from bs i k ++ drop (i + k) bs
spelled bs i zero h = rw add-zero
spelled bs i (suc k) h =
    let less : i < length bs = omega arith in
    let more : suc i + k ≤ length bs = omega arith in
    let place : suc i + k ≡ i + suc k = omega arith in
    drop-cons bs i 0 less ∙ ap (λ xs. byte_at bs i ∷ xs) (spelled bs (suc i) k more ∙ ap (λ j. from bs (suc i) k ++ drop j bs) place)

-- a first byte, k bytes and the rest
sealed : (bs : List ℕ) (k tag : ℕ) (rest : List ℕ) → suc k ≤ length bs → byte_at bs 0 ≡ tag → drop (suc k) bs ≡ rest → tag ∷ (from bs 1 k ++ rest) ≡ bs
sealed bs k tag rest h p r =
    let place : 0 + suc k ≡ suc k = omega arith in
    let whole : bs ≡ byte_at bs 0 ∷ (from bs 1 k ++ drop (suc k) bs) = spelled bs 0 (suc k) (omega arith) ∙ ap (λ j. byte_at bs 0 ∷ (from bs 1 k ++ drop j bs)) place in
    sym (whole ∙ rw (p, r))

calm_byte : (b : ℕ) → b < 2 → cond (eqb b 1) 1 0 ≡ b
calm_byte zero h = refl
calm_byte (suc zero) h = refl
calm_byte (suc (suc b)) h = absurd (omega arith)

module _ (bs : List ℕ) (bytes : Bytes bs) where
  -- a number that stands at place i, by its bytes from the highest on
  b1 : (i : ℕ) → u32_at bs i / 16777216 % 256 ≡ byte_at bs i
  b1 i = digit1 _ _ _ _ (bytes i) (bytes (i + 1)) (bytes (i + 2)) (bytes (i + 3))

  b2 : (i : ℕ) → u32_at bs i / 65536 % 256 ≡ byte_at bs (i + 1)
  b2 i = digit2 _ _ _ _ (bytes i) (bytes (i + 1)) (bytes (i + 2)) (bytes (i + 3))

  b3 : (i : ℕ) → u32_at bs i / 256 % 256 ≡ byte_at bs (i + 2)
  b3 i = digit3 _ _ _ _ (bytes i) (bytes (i + 1)) (bytes (i + 2)) (bytes (i + 3))

  b4 : (i : ℕ) → u32_at bs i % 256 ≡ byte_at bs (i + 3)
  b4 i = digit4 _ _ _ _ (bytes i) (bytes (i + 1)) (bytes (i + 2)) (bytes (i + 3))

  none_left : (k : ℕ) → length bs ≡ k → drop k bs ≡ []
  none_left k e = drop_all k bs (omega arith)

  -- writing what was read gives the bytes again
  pub form : (m : Message) → Reading bs m → encode m (part_of m bs) ≡ bs
  form m (ask p q) = rw (b1 1, b2 1, b3 1, b4 1) (sealed bs 6 1 [] (omega arith) p (none_left 7 q))
  form m (give p q) = rw (b1 1, b2 1, b3 1, b4 1, b1 6, b2 6, b3 6, b4 6) (sealed bs 9 2 [] (omega arith) p (none_left 10 q))
  form m (word p l q r) = rw (b1 3, b2 3, b3 3, b4 3, high2 _ _ (bytes 7) (bytes 8), low2 _ _ (bytes 7) (bytes 8)) (sealed bs 8 3 (drop 9 bs) (omega arith) p refl)
  form m (telling p q) = rw (b1 1, b2 1, b3 1, b4 1, b1 5, b2 5, b3 5, b4 5) (sealed bs 9 4 [] (omega arith) p (none_left 10 q))
  form m (answer p q) = rw (b1 1, b2 1, b3 1, b4 1, b1 5, b2 5, b3 5, b4 5) (sealed bs 9 5 [] (omega arith) p (none_left 10 q))
  form m (round p q) = rw (b1 1, b2 1, b3 1, b4 1, b1 5, b2 5, b3 5, b4 5) (sealed bs 8 6 [] (omega arith) p (none_left 9 q))
  form m (reply p q s) = rw (b1 1, b2 1, b3 1, b4 1, b1 5, b2 5, b3 5, b4 5, b1 11, b2 11, b3 11, b4 11, calm_byte (byte_at bs 10) s) (sealed bs 14 7 [] (omega arith) p (none_left 15 q))
  form m (complete p q) = rw (b1 1, b2 1, b3 1, b4 1) (sealed bs 4 8 [] (omega arith) p (none_left 5 q))

-- how long a message is, by its first byte and, for a word, its count
abbrev size : ℕ → ℕ → ℕ
size k count =
    cond (eqb k 1) 7 (cond (eqb k 2) 10 (cond (eqb k 3) (9 + 4 * count) (cond (eqb k 4) 10 (cond (eqb k 5) 10 (cond (eqb k 6) 9 (cond (eqb k 7) 15 5))))))

abbrev sized : List ℕ → ℕ
sized bs = size (byte_at bs 0) (u16_at bs 7)

record Long (bs : List ℕ) : Type 0 where
  is : length bs ≡ sized bs
  some : 1 ≤ length bs
  word : byte_at bs 0 ≡ 3 → 9 ≤ length bs

other_first : (bs : List ℕ) (k : ℕ) → byte_at bs 0 ≡ k → (k ≡ 3 → ⊥) → byte_at bs 0 ≡ 3 → 9 ≤ length bs
other_first bs k p ne q = absurd (ne (sym p ∙ q))

long : (bs : List ℕ) (m : Message) → Reading bs m → Long bs
long bs m (ask p q) = record { is = rw p q; some = omega arith; word = other_first bs 1 p (λ e. omega arith) }
long bs m (give p q) = record { is = rw p q; some = omega arith; word = other_first bs 2 p (λ e. omega arith) }
long bs m (word p l q r) = record { is = rw p q; some = omega arith; word = λ _. l }
long bs m (telling p q) = record { is = rw p q; some = omega arith; word = other_first bs 4 p (λ e. omega arith) }
long bs m (answer p q) = record { is = rw p q; some = omega arith; word = other_first bs 5 p (λ e. omega arith) }
long bs m (round p q) = record { is = rw p q; some = omega arith; word = other_first bs 6 p (λ e. omega arith) }
long bs m (reply p q s) = record { is = rw p q; some = omega arith; word = other_first bs 7 p (λ e. omega arith) }
long bs m (complete p q) = record { is = rw p q; some = omega arith; word = other_first bs 8 p (λ e. omega arith) }

-- what comes after does not change how long a message should be
same_size : (bs zs : List ℕ) → Long bs → sized (bs ++ zs) ≡ sized bs
same_size bs zs l =
    let first : byte_at (bs ++ zs) 0 ≡ byte_at bs 0 = get_or_append_left bs zs 0 0 l.some in
    ⊎_elim
    (λ e.
    let more = l.word e in
    let high : byte_at (bs ++ zs) 7 ≡ byte_at bs 7 = get_or_append_left bs zs 0 7 (omega arith) in
    let low : byte_at (bs ++ zs) 8 ≡ byte_at bs 8 = get_or_append_left bs zs 0 8 (omega arith) in
    rw (first, high, low))
    (λ ne. let no : eqb (byte_at bs 0) 3 ≡ false = ne_eqb (byte_at bs 0) 3 ne in rw (first, no))
    (cases_eq (byte_at bs 0) 3)

not_both : (n : ℕ) (bs : List ℕ) (y : ℕ) (ys : List ℕ) (m k : Message) → decode n bs ≡ Ok m → decode n (bs ++ (y ∷ ys)) ≡ Ok k → ⊥
not_both n bs y ys m k p q =
    let a = long bs m (reading n bs m p) in
    let b = long (bs ++ (y ∷ ys)) k (reading n (bs ++ (y ∷ ys)) k q) in
    let same : sized (bs ++ (y ∷ ys)) ≡ sized bs = same_size bs (y ∷ ys) a in
    let more : length (bs ++ (y ∷ ys)) ≡ length bs + length (y ∷ ys) = length-append bs (y ∷ ys) in
    let equal : length (bs ++ (y ∷ ys)) ≡ length bs = b.is ∙ same ∙ sym a.is in
    omega arith

-- a message or nothing of the right form, and no other refusal
abbrev Either : Result Message Refusal → Type 0
Either r = (r ≡ Err Malformed) ⊎ ((m : Message) × (r ≡ Ok m))

either_checked : (b : Bool) (x : Message) → Either (checked b x)
either_checked true x = inr (x, refl)
either_checked false x = inl refl

either_telling : (b : Bool) (t : Census × Name × House) → Either (as_telling (checked b t)) × Either (as_answer (checked b t))
either_telling true t = (inr (Telling t.0 t.1 t.2, refl), inr (Answer t.0 t.1 t.2, refl))
either_telling false t = (inl refl, inl refl)

either : (n : ℕ) (bs : List ℕ) → Either (decode n bs)
either n bs =
    let k : ℕ = byte_at bs 0 in
    let or : (b : Bool) (x y : Result Message Refusal) → Either x → Either y → Either (cond b x y) = λ b x y p q. cond_both b x y Either (λ _. p) (λ _. q) in
    or (eqb k 1) _ _ (either_checked _ _)
    (or (eqb k 2) _ _ (either_checked _ _)
    (or (eqb k 3) _ _ (either_checked _ _)
    (or (eqb k 4) _ _ (either_telling _ _).0
    (or (eqb k 5) _ _ (either_telling _ _).1
    (or (eqb k 6) _ _ (either_checked _ _)
    (or (eqb k 7) _ _ (either_checked _ _)
    (or (eqb k 8) _ _ (either_checked _ _) (inl refl))))))))

refused : (n : ℕ) (bs : List ℕ) → ((m : Message) → decode n bs ≡ Ok m → ⊥) → decode n bs ≡ Err Malformed
refused n bs h = ⊎_elim (λ e. e) (λ p. absurd (h p.0 p.1)) (either n bs)

pub unique : (n : ℕ) (bs : List ℕ) (m : Message) → Bytes bs → decode n bs ≡ Ok m → Unique n bs m
unique n bs m bytes e =
    record {
      form = form bs bytes m (reading n bs m e);
      others = λ xs more r. sym (form xs more m (reading n xs m r.message)) ∙ ap (encode m) r.part ∙ form bs bytes m (reading n bs m e);
      alone =
          record {
            cut = λ xs y ys is. refused n xs (λ k f. not_both n xs y ys k m f (ap (decode n) is ∙ e));
            longer = λ y ys. refused n (bs ++ (y ∷ ys)) (λ k f. not_both n bs y ys m k e f);
          };
    }
