-- What the relation sees of messages as they are sent: each that is sent can be read back, so it is seen as what it is.
use Rattle.std.proofs.Common.{◌≡◌, ℕ, List, [], ◌∷◌, ◌++◌, map, Ok, Err, Result, sym, refl, ap, ◌∙◌, subst, ⊎_elim}
use mathlib.Core.List.Memᴰ
use mathlib.Core.List.{Memᴰ}
use Rattle.wire.specs.declared.message.Message.{Message}
use Rattle.wire.specs.declared.refusal.Refusal.{Refusal}
use Rattle.wire.specs.Format.{decode, part_of}
use Rattle.wire.specs.Laws.{ReadAs}
use Rattle.rules.specs.Step.{Letter, Said}
use Rattle.promise.specs.Net.{Msg}
use Rattle.promise.specs.Rounds.{Note}
use Rattle.play.specs.Play.{bytes_of}
use Rattle.play.specs.Seen.{msg_of, note_of, msg_in, note_in, msgs_seen, notes_seen}

-- n houses read each of these messages as it was written
abbrev pub Readable : ℕ → List Letter → Type 0
Readable n ls = (l : Letter) → Memᴰ l ls → ReadAs n (bytes_of l) l.0 l.1

abbrev pub ReadableSaid : ℕ → Said → Type 0
ReadableSaid n (Ok ls) = Readable n ls
ReadableSaid n (Err e) = Unit {0}

abbrev pub msgs_of : List Letter → List Msg
msgs_of [] = []
msgs_of (l ∷ ls) = msg_of l.0 l.1 ++ msgs_of ls

abbrev pub notes_of : List Letter → List Note
notes_of [] = []
notes_of (l ∷ ls) = note_of l.0 ++ notes_of ls

-- the same members
abbrev pub Both : {A : Type 0} → List A → List A → Type 0
Both {A} xs ys = (x : A) → (Memᴰ x xs → Memᴰ x ys) × (Memᴰ x ys → Memᴰ x xs)

pub both_refl : {A : Type 0} (xs : List A) → Both xs xs
both_refl xs x = (λ m. m, λ m. m)

-- a part put before, or after, the rest
both_front : {A : Type 0} (front xs new ys : List A) → Both ys (new ++ xs) → Both (front ++ ys) (new ++ (front ++ xs))
both_front front xs new ys b x = (
  λ m. ⊎_elim (λ z. Memᴰ.append_right new (Memᴰ.append_left xs z))
      (λ z. ⊎_elim (λ y. Memᴰ.append_left (front ++ xs) y) (λ y. Memᴰ.append_right new (Memᴰ.append_right front y)) (Memᴰ.append_cases new ((b x).0 z))) (Memᴰ.append_cases front m),
  λ m. ⊎_elim (λ z. Memᴰ.append_right front ((b x).1 (Memᴰ.append_left xs z)))
      (λ z. ⊎_elim (λ y. Memᴰ.append_left ys y) (λ y. Memᴰ.append_right front ((b x).1 (Memᴰ.append_right new y))) (Memᴰ.append_cases front z)) (Memᴰ.append_cases new m),
)

both_nil : {A : Type 0} (xs : List A) → Both xs (xs ++ [])
both_nil xs x = (λ m. Memᴰ.append_left [] m, λ m. ⊎_elim (λ z. z) (λ z. absurd (Memᴰ.not-nil z)) (Memᴰ.append_cases xs m))

msg_in_sent : (n : ℕ) (bs : List ℕ) (m : Message) (part : List ℕ) → ReadAs n bs m part → msg_in (decode n bs) bs ≡ msg_of m part
msg_in_sent n bs m part r = ap (λ (z : Result Message Refusal). msg_in z bs) r.message ∙ ap (λ (z : List ℕ). msg_of m z) r.part

note_in_sent : (n : ℕ) (bs : List ℕ) (m : Message) (part : List ℕ) → ReadAs n bs m part → note_in (decode n bs) ≡ note_of m
note_in_sent n bs m part r = ap (λ (z : Result Message Refusal). note_in z) r.message

tail_readable : (n : ℕ) (l : Letter) (ls : List Letter) → Readable n (l ∷ ls) → Readable n ls
tail_readable n l ls r k m = r k (Memᴰ.tail m)

fresh_msgs : (n : ℕ) (ls : List Letter) → Readable n ls → msgs_seen n (map bytes_of ls) ≡ msgs_of ls
fresh_msgs n [] r = refl
fresh_msgs n (l ∷ ls) r = ap (λ (z : List Msg). z ++ msgs_seen n (map bytes_of ls)) (msg_in_sent n (bytes_of l) l.0 l.1 (r l (Memᴰ.head refl))) ∙ ap (λ (z : List Msg). msg_of l.0 l.1 ++ z) (fresh_msgs n ls (tail_readable n l ls r))

fresh_notes : (n : ℕ) (ls : List Letter) → Readable n ls → notes_seen n (map bytes_of ls) ≡ notes_of ls
fresh_notes n [] r = refl
fresh_notes n (l ∷ ls) r = ap (λ (z : List Note). z ++ notes_seen n (map bytes_of ls)) (note_in_sent n (bytes_of l) l.0 l.1 (r l (Memᴰ.head refl))) ∙ ap (λ (z : List Note). note_of l.0 ++ z) (fresh_notes n ls (tail_readable n l ls r))

-- what is seen after sending: the new messages, and all from before
pub msgs_sent : (n : ℕ) (bss : List (List ℕ)) (ls : List Letter) → Readable n ls → Both (msgs_seen n (bss ++ map bytes_of ls)) (msgs_of ls ++ msgs_seen n bss)
msgs_sent n [] ls r = subst (λ (z : List Msg). Both z (msgs_of ls ++ [])) (sym (fresh_msgs n ls r)) (both_nil (msgs_of ls))
msgs_sent n (bs ∷ bss) ls r = both_front (msg_in (decode n bs) bs) (msgs_seen n bss) (msgs_of ls) (msgs_seen n (bss ++ map bytes_of ls)) (msgs_sent n bss ls r)

pub notes_sent : (n : ℕ) (bss : List (List ℕ)) (ls : List Letter) → Readable n ls → Both (notes_seen n (bss ++ map bytes_of ls)) (notes_of ls ++ notes_seen n bss)
notes_sent n [] ls r = subst (λ (z : List Note). Both z (notes_of ls ++ [])) (sym (fresh_notes n ls r)) (both_nil (notes_of ls))
notes_sent n (bs ∷ bss) ls r = both_front (note_in (decode n bs)) (notes_seen n bss) (notes_of ls) (notes_seen n (bss ++ map bytes_of ls)) (notes_sent n bss ls r)

-- what was sent and can be read is seen
pub msg_seen : (n : ℕ) (bss : List (List ℕ)) (bs : List ℕ) (m : Message) (x : Msg) → Memᴰ bs bss → decode n bs ≡ Ok m → Memᴰ x (msg_of m (part_of m bs)) → Memᴰ x (msgs_seen n bss)
msg_seen n [] bs m x k d z = absurd (Memᴰ.not-nil k)
msg_seen n (b ∷ bss) bs m x (Memᴰ.head e) d z =
    Memᴰ.append_left (msgs_seen n bss) (subst (λ (y : List ℕ). Memᴰ x (msg_in (decode n y) y)) e (subst (λ (r : Result Message Refusal). Memᴰ x (msg_in r bs)) (sym d) z))
msg_seen n (b ∷ bss) bs m x (Memᴰ.tail k) d z = Memᴰ.append_right (msg_in (decode n b) b) (msg_seen n bss bs m x k d z)

pub note_seen_sent : (n : ℕ) (bss : List (List ℕ)) (bs : List ℕ) (m : Message) (x : Note) → Memᴰ bs bss → decode n bs ≡ Ok m → Memᴰ x (note_of m) → Memᴰ x (notes_seen n bss)
note_seen_sent n [] bs m x k d z = absurd (Memᴰ.not-nil k)
note_seen_sent n (b ∷ bss) bs m x (Memᴰ.head e) d z =
    Memᴰ.append_left (notes_seen n bss) (subst (λ (y : List ℕ). Memᴰ x (note_in (decode n y))) e (subst (λ (r : Result Message Refusal). Memᴰ x (note_in r)) (sym d) z))
note_seen_sent n (b ∷ bss) bs m x (Memᴰ.tail k) d z = Memᴰ.append_right (note_in (decode n b)) (note_seen_sent n bss bs m x k d z)
