-- What an answer to a round makes the house that asks send: the news that the census is complete, and in each round once at most.
use Rattle.std.proofs.Common.{◌≡◌, ℕ, zero, suc, ◌+◌, ◌<◌, ◌≤◌, Bool, true, false, cond, not, ◌&&◌, eqb, leb, List, set, refl, ap, ◌∙◌, ⊎_elim, arith}
use Rattle.std.proofs.lemmas.Bool.{and_parts, and_from, both_ways, cases_Bool, cases_eq, le-leb}
use Rattle.rounds.specs.Model.{Slot, said, Desk, idle, slot_of, spoke, all_spoke, notes, noted, agreed, completes}
use Rattle.rounds.proofs.Laws.{laws}

-- how an answer to a round is reckoned: by itself, or by what the desk may still send
pub record Tariff (n : ℕ) : Type 0 where
  pub reply : ℕ
  pub desk : Desk → ℕ
  pub idle : (d : Desk) → desk idle ≤ desk d
  pub note : (r i : ℕ) (calm : Bool) (t : ℕ) (d : Desk) → i < n → cond (completes n r i calm t d) 1 0 + desk (noted r i calm t d) ≤ reply + desk d

-- each answer may bring the news
pub one_news : (b : Bool) → cond b 1 0 + 0 ≤ 1 + 0
one_news true = omega arith
one_news false = omega arith

abbrev pub loose : (n : ℕ) → Tariff n
loose n = record { reply = 1; desk = λ d. 0; idle = λ d. omega arith; note = λ r i calm t d l. one_news (completes n r i calm t d) }

-- a desk in the second round or a later one that has not heard from all
abbrev pub awaits : ℕ → Desk → ℕ
awaits n d = cond (leb 2 d.round && not (all_spoke n d.now)) 1 0

spoke_at : (n i : ℕ) (xs : List Slot) → i < n → all_spoke n xs ≡ true → spoke (slot_of i xs) ≡ true
spoke_at zero i xs l e = absurd (omega arith)
spoke_at (suc n) i xs l e =
    let p = and_parts (spoke (slot_of n xs)) (all_spoke n xs) e in
    ⊎_elim (λ q. ap (λ (z : ℕ). spoke (slot_of z xs)) q ∙ p.0) (λ q. spoke_at n i xs (earlier l q) p.1) (cases_eq i n)
  where
    earlier : i < suc n → (i ≡ n → ⊥) → i < n
    earlier a b = omega arith

all_have_spoken : (n : ℕ) (xs : List Slot) → ((i : ℕ) → i < n → spoke (slot_of i xs) ≡ true) → all_spoke n xs ≡ true
all_have_spoken zero xs f = refl
all_have_spoken (suc n) xs f = and_from (spoke (slot_of n xs)) (all_spoke n xs) (f n (omega arith)) (all_have_spoken n xs (λ i l. f i (omega arith)))

-- the round of a desk, whether all have spoken, and the same after an answer of one that had not
closes : (a x y b : Bool) → x ≡ false → (b ≡ true → (a ≡ true) × (y ≡ true)) → cond b 1 0 + cond (a && not y) 1 0 ≤ 0 + cond (a && not x) 1 0
closes a x y true e f = closed a x y e (f refl).0 (f refl).1
  where
    closed : (a x y : Bool) → x ≡ false → a ≡ true → y ≡ true → 1 + cond (a && not y) 1 0 ≤ 0 + cond (a && not x) 1 0
    closed true false true p q r = omega arith
    closed true false false p q r = absurd (both_ways false refl r)
    closed true true y p q r = absurd (both_ways true p refl)
    closed false x y p q r = absurd (both_ways false refl q)
closes true false true false e f = omega arith
closes true false false false e f = omega arith
closes false false y false e f = omega arith
closes a true y false e f = absurd (both_ways true e refl)

abbrev pub after : Bool → ℕ → Bool → ℕ → Desk → Desk
after b i calm t d = cond b (record { round = d.round; now = set d.now i (said calm t); before = d.before }) d

pub noted_awaits : (n r i : ℕ) (calm : Bool) (t : ℕ) (d : Desk) (b : Bool) → notes r i d ≡ b → i < n → cond (b && agreed n (after b i calm t d)) 1 0 + awaits n (after b i calm t d) ≤ 0 + awaits n d
noted_awaits n r i calm t d false e l = omega arith
noted_awaits n r i calm t d true e l =
    closes (leb 2 d.round) (all_spoke n d.now) (all_spoke n (set d.now i (said calm t))) (agreed n (after true i calm t d)) quiet
    (λ z. let q = (laws.agrees n (after true i calm t d)).0 z in (le-leb 2 d.round q.0, all_have_spoken n (set d.now i (said calm t)) (λ j m. ap spoke (q.1 j m).now)))
  where
    quiet : all_spoke n d.now ≡ false
    quiet =
        ⊎_elim (λ z. absurd (both_ways (not (spoke (slot_of i d.now))) (ap not (spoke_at n i d.now l z)) (and_parts (eqb r d.round) (not (spoke (slot_of i d.now))) (and_parts (leb 1 r) (eqb r d.round && not (spoke (slot_of i d.now))) e).1).1)) (λ z. z)
        (cases_Bool (all_spoke n d.now))

-- and the desk sends the news once in a round
abbrev pub tight : (n : ℕ) → Tariff n
tight n = record { reply = 0; desk = awaits n; idle = λ d. omega arith; note = λ r i calm t d l. noted_awaits n r i calm t d (notes r i d) refl l }
