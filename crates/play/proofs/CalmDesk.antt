-- The answers of calm houses, as the house that asks notes them one after the other.
use Rattle.std.proofs.Common.{◌≡◌, ℕ, zero, suc, ◌+◌, ◌<◌, ◌≤◌, Bool, true, false, not, ◌&&◌, eqb, ltb, leb, List, length, set, Ok, sym, refl, ap, ◌∙◌, subst, ⊎_elim, arith, length-set}
use Rattle.std.proofs.lemmas.List.{get_or-set_same, get_or-set_other}
use Rattle.std.proofs.lemmas.Bool.{and_from, and_left, or_right, cond-true, eq-eqb, ne_eqb, le-leb, lt-ltb, true≢false, cases_Bool, cases_eq}
use Rattle.rounds.specs.Model.{Slot, silent, said, Desk, slot_of, spoke, all_spoke, ready, beginning, begun, next, notes, noted, agreed, completes}
use Rattle.rounds.proofs.Laws.{laws}
use Rattle.play.proofs.Cleaning.{silent_at}

-- in round r the houses below j have said that they are calm, with these tallies, and the others nothing yet
pub record Heard (t : ℕ → ℕ) (r j : ℕ) (old : List Slot) (d : Desk) : Type 0 where
  pub round : d.round ≡ r
  pub before : d.before ≡ old
  pub long : length d.now ≡ 16
  pub done : (i : ℕ) → i < j → slot_of i d.now ≡ said true (t i)
  pub rest : (i : ℕ) → j ≤ i → slot_of i d.now ≡ silent

-- all have said it
abbrev pub Spoken : (ℕ → ℕ) → ℕ → List Slot → Type 0
Spoken t n xs = (i : ℕ) → i < n → slot_of i xs ≡ said true (t i)

pub heard_next : (t : ℕ → ℕ) (d : Desk) → Heard t (d.round + 1) 0 d.now (next d)
heard_next t d = record { round = refl; before = refl; long = refl; done = λ i l. absurd (none l); rest = λ i _. silent_at 16 i }
  where
    none : {a : ℕ} → a < 0 → ⊥
    none l = omega arith

all_have_spoken : (t : ℕ → ℕ) (n : ℕ) (xs : List Slot) → Spoken t n xs → all_spoke n xs ≡ true
all_have_spoken t zero xs f = refl
all_have_spoken t (suc n) xs f = and_from (spoke (slot_of n xs)) (all_spoke n xs) (ap spoke (f n (omega arith))) (all_have_spoken t n xs (λ i l. f i (omega arith)))

pub ready_spoken : (t : ℕ → ℕ) (n : ℕ) (d : Desk) → Spoken t n d.now → ready n d ≡ true
ready_spoken t n d f = or_right (eqb d.round 0) (all_spoke n d.now) (all_have_spoken t n d.now f)

-- the next round begins
pub begins_next : (n : ℕ) (d : Desk) → ready n d ≡ true → d.round < 4294967295 → (beginning n d ≡ Ok (d.round + 1)) × (begun n d ≡ next d)
begins_next n d e l = (
  cond-true (ready n d) _ (Ok d.round) e ∙ cond-true (ltb d.round 4294967295) (Ok (d.round + 1)) _ (lt-ltb d.round 4294967295 l),
  cond-true (ready n d && ltb d.round 4294967295) (next d) d (and_from (ready n d) (ltb d.round 4294967295) e (lt-ltb d.round 4294967295 l)),
)

module _ (t : ℕ → ℕ) (r j : ℕ) (old : List Slot) (d : Desk) (q : Heard t r j old d) (some : 1 ≤ r) (lt : j < 16) where
  pub notes_next : notes r j d ≡ true
  notes_next = and_from (leb 1 r) (eqb r d.round && not (spoke (slot_of j d.now))) (le-leb 1 r some)
      (and_from (eqb r d.round) (not (spoke (slot_of j d.now))) (eq-eqb r d.round (sym q.round)) (ap (λ (s : Slot). not (spoke s)) (q.rest j (omega arith))))

  abbrev after : Desk
  after = record { round = d.round; now = set d.now j (said true (t j)); before = d.before }

  noted_next : noted r j true (t j) d ≡ after
  noted_next = cond-true (notes r j d) after d notes_next

  heard_after : Heard t r (suc j) old after
  heard_after =
      record {
        round = q.round;
        before = q.before;
        long = length-set d.now j (said true (t j)) ∙ q.long;
        done = λ i l. ⊎_elim (λ e. subst (λ (k : ℕ). slot_of k (set d.now j (said true (t j))) ≡ said true (t k)) (sym e) (get_or-set_same d.now j (said true (t j)) silent (omega (arith, q.long)))) (λ e. get_or-set_other d.now j i (said true (t j)) silent e ∙ q.done i (omega arith)) (cases_eq i j);
        rest = λ i l. get_or-set_other d.now j i (said true (t j)) silent (λ e. omega arith) ∙ q.rest i (omega arith);
      }

  pub heard_noted : Heard t r (suc j) old (noted r j true (t j) d)
  heard_noted = subst (Heard t r (suc j) old) (sym noted_next) heard_after

  completes_is : (n : ℕ) → completes n r j true (t j) d ≡ agreed n (noted r j true (t j) d)
  completes_is n = ap (λ (b : Bool). b && agreed n (noted r j true (t j) d)) notes_next

-- the first round completes nothing
pub first_round : (t : ℕ → ℕ) (n j : ℕ) (old : List Slot) (d : Desk) → Heard t 1 j old d → j < 16 → completes n 1 j true (t j) d ≡ false
first_round t n j old d q lt =
    completes_is t 1 j old d q (omega arith) lt n
    ∙ and_left (leb 2 (noted 1 j true (t j) d).round) _ (ap (λ (z : ℕ). leb 2 z) (heard_noted t 1 j old d q (omega arith) lt).round)

-- the second does at its last answer, if all said the same in the first
pub second_round : (t : ℕ → ℕ) (n j : ℕ) (old : List Slot) (d : Desk) → Heard t 2 j old d → Spoken t n old → j < n → n ≤ 16 → completes n 2 j true (t j) d ≡ eqb (suc j) n
second_round t n j old d q all lt few = completes_is t 2 j old d q (omega arith) (omega arith) n ∙ ⊎_elim last early (cases_eq (suc j) n)
  where
    new : Desk
    new = noted 2 j true (t j) d

    r : Heard t 2 (suc j) old new
    r = heard_noted t 2 j old d q (omega arith) (omega arith)

    last : suc j ≡ n → agreed n new ≡ eqb (suc j) n
    last e =
        (laws.agrees n new).1 (omega (arith, r.round), λ i l. record { tally = t i; now = r.done i (omega arith); before = ap (slot_of i) r.before ∙ all i l })
        ∙ sym (eq-eqb (suc j) n e)

    silence : (x : Slot) (s : ℕ) → x ≡ silent → x ≡ said true s → ⊥
    silence x s a b = true≢false (ap spoke (sym b) ∙ ap spoke a)

    early : (suc j ≡ n → ⊥) → agreed n new ≡ eqb (suc j) n
    early e =
        ⊎_elim (λ z. let s = ((laws.agrees n new).0 z).1 (suc j) (omega arith) in absurd (silence (slot_of (suc j) new.now) s.tally (r.rest (suc j) (omega arith)) s.now)) (λ z. z) (cases_Bool (agreed n new))
        ∙ sym (ne_eqb (suc j) n e)
