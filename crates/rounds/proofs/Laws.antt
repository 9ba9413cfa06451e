-- What holds of the rounds, whatever is called.
use Rattle.std.specs.List.{list_all, range_with_len}
use Rattle.std.proofs.lemmas.List.{map-id}
use Rattle.std.proofs.Math.Bool.{and_comm, and-true}
use Rattle.std.proofs.lemmas.List.FromFn.{map-range_with_len_more}
use Rattle.std.proofs.lemmas.List.Folds.{list_all-append}
use Rattle.std.proofs.Common.{[], ◌∷◌, ◌++◌, ◌+◌, zero-add, add-one, ◌≡◌, ℕ, zero, suc, ◌<◌, ◌≤◌, Bool, true, false, not, ◌&&◌, eqb, ltb, leb, ◌⊎◌, List, set, Decides, sym, refl, ap, ◌∙◌, inl, inr, ⊎_elim, arith, set-set}
use Rattle.std.proofs.lemmas.List.{get_or-set_other}
use Rattle.std.proofs.lemmas.Bool.{and_from, and_parts, cases_Bool, cases_eq, cond_both, eq-eqb, eqb-true, le-leb, leb-true, not-true, or_cases, true≢false}
use Rattle.rounds.specs.Laws.{Answered, Still, Laws}
use Rattle.rounds.specs.Model.{Slot, silent, said, Desk, slot_of, spoke, all_spoke, agrees as agree, all_agree, ready, next, begun, notes, noted, agreed}

-- what holds of each house below n, asked one after the other
pub all_below : (p F : ℕ → Bool) → F 0 ≡ true → ((n : ℕ) → F (suc n) ≡ (p n && F n)) → (n : ℕ) → list_all p (range_with_len 0 n) ≡ F n
all_below p F z s zero = sym z
all_below p F z s (suc n) =
    let same = map-id (range_with_len 0 n) in
    let more : range_with_len 0 (suc n) ≡ range_with_len 0 n ++ n ∷ [] =
    sym (ap (range_with_len 0) (add-one n)) ∙ sym (map-id (range_with_len 0 (n + 1))) ∙ map-range_with_len_more (λ i. i) 0 n n (zero-add n) ∙ ap (λ xs. xs ++ n ∷ []) same in
    ap (list_all p) more
    ∙ list_all-append p (range_with_len 0 n) (n ∷ [])
    ∙ ap (λ b. b && list_all p (n ∷ [])) (all_below p F z s n)
    ∙ and_comm (F n) (p n && true)
    ∙ ap (λ b. b && F n) (and-true (p n))
    ∙ sym (s n)

-- a second answer of a house to a round changes nothing
pub noted_twice : (r i : ℕ) (calm : Bool) (t : ℕ) (d : Desk) → noted r i calm t (noted r i calm t d) ≡ noted r i calm t d
noted_twice r i calm t d =
    let after : Desk = record { round = d.round; now = set d.now i (said calm t); before = d.before } in
    ⊎_elim
    (λ (p : notes r i d ≡ true).
    let once : noted r i calm t d ≡ after = rw p in
    let twice : set (set d.now i (said calm t)) i (said calm t) ≡ set d.now i (said calm t) = set-set d.now i (said calm t) (said calm t) in
    let again : noted r i calm t after ≡ after =
    cond_both (notes r i after) (record { round = d.round; now = set after.now i (said calm t); before = d.before }) after (λ x. x ≡ after) (λ _. rw twice) (λ _. refl) in
    rw once again)
    (λ (p : notes r i d ≡ false). rw (p, p))
    (cases_Bool (notes r i d))

-- an answer that was noted stays
kept_first : (r i j : ℕ) (calm : Bool) (t : ℕ) (d : Desk) → Answered j d → slot_of j (noted r i calm t d).now ≡ slot_of j d.now
kept_first r i j calm t d a =
    ⊎_elim
    (λ p.
    let q = and_parts (eqb r d.round) (not (spoke (slot_of i d.now))) (and_parts (leb 1 r) _ p).1 in
    let other : j ≡ i → ⊥ = λ e. let z : ◌≡◌ {A = Bool} true false = sym a ∙ ap (λ k. spoke (slot_of k d.now)) e ∙ not-true (spoke (slot_of i d.now)) q.1 in true≢false z in
    let stays : slot_of j (set d.now i (said calm t)) ≡ slot_of j d.now = get_or-set_other d.now i j (said calm t) silent other in
    rw p stays)
    (λ p. rw p)
    (cases_Bool (notes r i d))

all_have_spoken : (n : ℕ) (xs : List Slot) → all_spoke n xs ≡ true → (i : ℕ) → i < n → spoke (slot_of i xs) ≡ true
all_have_spoken zero xs e i l = absurd (omega arith)
all_have_spoken (suc n) xs e i l =
    let q = and_parts (spoke (slot_of n xs)) (all_spoke n xs) e in
    ⊎_elim (λ p. ap (λ k. spoke (slot_of k xs)) p ∙ q.0) (λ p. all_have_spoken n xs q.1 i (omega (arith, p))) (cases_eq i n)

begins : (n : ℕ) (d : Desk) → (begun n d ≡ d) ⊎ ((begun n d ≡ next d) × ((d.round ≡ 0) ⊎ ((i : ℕ) → i < n → Answered i d)))
begins n d =
    ⊎_elim
    (λ p. inr (
      rw p,
      ⊎_elim (λ e. inl (eqb-true d.round 0 e)) (λ e. inr (all_have_spoken n d.now e)) (or_cases (eqb d.round 0) (all_spoke n d.now) (and_parts (ready n d) _ p).0),
    ))
    (λ p. inl (rw p))
    (cases_Bool (ready n d && ltb d.round 4294967295))

still : (x y : Slot) → agree x y ≡ true → (t : ℕ) × ((x ≡ said true t) × (y ≡ said true t))
still silent y e = absurd (true≢false (sym e))
still (said calm s) silent e = absurd (true≢false (sym e))
still (said calm s) (said quiet t) e =
    let p = and_parts calm (quiet && eqb s t) e in
    let q = and_parts quiet (eqb s t) p.1 in
    (s, (ap (λ b. said b s) p.0, rw (q.0, eqb-true s t q.1)))

stays_still : (x y : Slot) (t : ℕ) → x ≡ said true t → y ≡ said true t → agree x y ≡ true
stays_still x y t e f = rw (e, f, eq-eqb t t refl)

all_still : (n : ℕ) (d : Desk) → all_agree n d.now d.before ≡ true → (i : ℕ) → i < n → Still i d
all_still zero d e i l = absurd (omega arith)
all_still (suc n) d e i l =
    let q = and_parts (agree (slot_of n d.now) (slot_of n d.before)) (all_agree n d.now d.before) e in
    ⊎_elim
    (λ p.
    let s = still (slot_of n d.now) (slot_of n d.before) q.0 in
    record { tally = s.0; now = ap (λ k. slot_of k d.now) p ∙ s.1.0; before = ap (λ k. slot_of k d.before) p ∙ s.1.1 })
    (λ p. all_still n d q.1 i (omega (arith, p)))
    (cases_eq i n)

still_all : (n : ℕ) (d : Desk) → ((i : ℕ) → i < n → Still i d) → all_agree n d.now d.before ≡ true
still_all zero d h = refl
still_all (suc n) d h =
    let s = h n (omega arith) in
    and_from (agree (slot_of n d.now) (slot_of n d.before)) (all_agree n d.now d.before) (stays_still (slot_of n d.now) (slot_of n d.before) s.tally s.now s.before) (still_all n d (λ i l. h i (omega arith)))

agreed_means : (n : ℕ) (d : Desk) → Decides (agreed n d) ((2 ≤ d.round) × ((i : ℕ) → i < n → Still i d))
agreed_means n d = (
  λ e.
      let q = and_parts (leb 2 d.round) (all_agree n d.now d.before) e in
      (leb-true 2 d.round q.0, all_still n d q.1),
  λ k. and_from (leb 2 d.round) (all_agree n d.now d.before) (le-leb 2 d.round k.0) (still_all n d k.1),
)

pub laws : Laws
laws = record { twice = noted_twice; first = kept_first; begins = begins; agrees = agreed_means }
