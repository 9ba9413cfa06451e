-- The laws of a house's part in a census.
use Rattle.std.proofs.Common.{◌≡◌, ℕ, suc, ◌+◌, ◌<◌, ◌≤◌, min, Bool, true, false, not, ◌&&◌, ◌||◌, eqb, ltb, leb, ◌⊎◌, List, [], ◌∷◌, length, Decides, sym, refl, ap, ◌∙◌, subst, inl, inr, ⊎_elim, arith}
use Rattle.std.proofs.lemmas.Bool.{lt-leb, eq-eqb, eqb-true, and_parts, and_from, or_cases, or_left, or_right, not-true, not_from_false, both_ways, cond-true, cond-false, cond_both, cases_Bool}
use Rattle.wire.specs.declared.names.House.{House}
use Rattle.tables.specs.Model.{is_in, above, rising}
use Rattle.census.specs.Model.{Told, Part, fresh, with_told, names, settle, settled, answered_in, untold, unanswered, entered, entered_all, joined, counting, stirring, hearing, telling, due_of, calm, says_calm, polling, replied, replying}
use Rattle.census.specs.Laws.{Sound, IsTold, IsAnswered, Calm, Due, Step, Later, Kept, Laws}
use Rattle.census.specs.Laws.Later.{still, then}
use Rattle.tables.proofs.Places.{above_out}
use Rattle.census.proofs.Settling.{names_settled}
use Rattle.census.proofs.Tabled.{names_told}
use Rattle.census.proofs.Entering.{entered_ways, entered_in, is_in_entered, rising_entered_all}

-- a join

join_fresh : (c : ℕ) (p : Part) → p.census < c → joined c p ≡ fresh c
join_fresh c p h = cond-false (leb c p.census) p (fresh c) (lt-leb c p.census h)

-- an answer

or_again : (a b : Bool) → (a || (a || b)) ≡ (a || b)
or_again true b = refl
or_again false b = refl

settled_twice : (o : ℕ) (ts : List Told) → settled o (settled o ts) ≡ settled o ts
settled_twice o [] = refl
settled_twice o (t ∷ ts) =
    let e : settle o (settle o t) ≡ settle o t = ap (λ b. record { name = t.name; answered = b }) (or_again (eqb t.name o) t.answered) in
    ap (λ x. x ∷ settled o (settled o ts)) e ∙ ap (λ xs. settle o t ∷ xs) (settled_twice o ts)

once : (c o : ℕ) (p : Part) → hearing c o (hearing c o p) ≡ hearing c o p
once c o p =
    let q : Part = with_told (settled o p.told) p in
    ⊎_elim
    (λ e.
    let h : hearing c o p ≡ q = cond-true (eqb c p.census) q p e in
    ap (hearing c o) h ∙ cond-true (eqb c p.census) (with_told (settled o (settled o p.told)) p) q e ∙ ap (λ ts. with_told ts p) (settled_twice o p.told) ∙ sym h)
    (λ e. let h : hearing c o p ≡ p = cond-false (eqb c p.census) q p e in ap (hearing c o) h)
    (cases_Bool (eqb c p.census))

-- an answer takes nothing back
answered_settled : (q o : ℕ) (ts : List Told) → answered_in q ts ≡ true → answered_in q (settled o ts) ≡ true
answered_settled q o [] h = h
answered_settled q o (t ∷ ts) h =
    ⊎_elim
    (λ e.
    let p = and_parts (eqb t.name q) t.answered e in
    or_left _ _ (and_from (eqb t.name q) (eqb t.name o || t.answered) p.0 (or_right (eqb t.name o) t.answered p.1)))
    (λ e. or_right _ _ (answered_settled q o ts e))
    (or_cases (eqb t.name q && t.answered) (answered_in q ts) h)

-- an answer to o makes o answered, where it was told
settled_answered : (o : ℕ) (ts : List Told) → is_in o (names ts) ≡ true → answered_in o (settled o ts) ≡ true
settled_answered o [] h = h
settled_answered o (t ∷ ts) h =
    ⊎_elim
    (λ e. or_left _ _ (and_from (eqb t.name o) (eqb t.name o || t.answered) e (or_left (eqb t.name o) t.answered e)))
    (λ e. or_right _ _ (settled_answered o ts e))
    (or_cases (eqb t.name o) (is_in o (names ts)) h)

-- and nothing else
settled_only : (q o : ℕ) (ts : List Told) → answered_in q (settled o ts) ≡ true → (answered_in q ts ≡ true) ⊎ ((q ≡ o) × (is_in o (names ts) ≡ true))
settled_only q o [] h = inl h
settled_only q o (t ∷ ts) h =
    ⊎_elim
    (λ e.
    let p = and_parts (eqb t.name q) (eqb t.name o || t.answered) e in
    ⊎_elim
    (λ f. inr (sym (eqb-true t.name q p.0) ∙ eqb-true t.name o f, or_left (eqb t.name o) (is_in o (names ts)) f))
    (λ f. inl (or_left _ _ (and_from (eqb t.name q) t.answered p.0 f)))
    (or_cases (eqb t.name o) t.answered p.1))
    (λ e.
    ⊎_elim
    (λ f. inl (or_right _ _ f))
    (λ f. inr (f.0, or_right (eqb t.name o) (is_in o (names ts)) f.1))
    (settled_only q o ts e))
    (or_cases (eqb t.name q && (eqb t.name o || t.answered)) (answered_in q (settled o ts)) h)

hears : (o q : ℕ) (p : Part) → Decides (answered_in q (hearing p.census o p).told) (IsAnswered q p ⊎ ((q ≡ o) × IsTold o p))
hears o q p =
    let e : hearing p.census o p ≡ with_told (settled o p.told) p = cond-true (eqb p.census p.census) _ p (eq-eqb p.census p.census refl) in
    subst (λ x. Decides (answered_in q x.told) (IsAnswered q p ⊎ ((q ≡ o) × IsTold o p))) (sym e) (
      settled_only q o p.told,
      λ k. ⊎_elim (λ a. answered_settled q o p.told a) (λ a. subst (λ x. answered_in x (settled o p.told) ≡ true) (sym a.0) (settled_answered o p.told a.1)) k,
    )

-- a telling

or_move : (a b c : Bool) → (a || (b || c)) ≡ ((b || a) || c)
or_move true true c = refl
or_move true false c = refl
or_move false true c = refl
or_move false false c = refl

is_in_entered_all : (q : ℕ) (us : List ℕ) (ts : List Told) → is_in q (names (entered_all us ts)) ≡ (is_in q us || is_in q (names ts))
is_in_entered_all q [] ts = refl
is_in_entered_all q (u ∷ us) ts = is_in_entered_all q us (entered u ts) ∙ ap (λ b. is_in q us || b) (is_in_entered q u ts) ∙ or_move (is_in q us) (eqb u q) (is_in q (names ts))

and_none : (b : Bool) → (b && false) ≡ false
and_none true = refl
and_none false = refl

answered_entered : (q o : ℕ) (ts : List Told) → answered_in q (entered o ts) ≡ answered_in q ts
answered_entered q o [] = ap (λ b. b || false) (and_none (eqb o q))
answered_entered q o (t ∷ ts) =
    entered_ways o t ts (λ xs. answered_in q xs ≡ answered_in q (t ∷ ts))
    (λ l. ap (λ b. (eqb t.name q && t.answered) || b) (answered_entered q o ts))
    (λ e. refl)
    (λ l. ap (λ b. b || answered_in q (t ∷ ts)) (and_none (eqb o q)))

answered_entered_all : (q : ℕ) (us : List ℕ) (ts : List Told) → answered_in q (entered_all us ts) ≡ answered_in q ts
answered_entered_all q [] ts = refl
answered_entered_all q (u ∷ us) ts = answered_entered_all q us (entered u ts) ∙ answered_entered q u ts

entered_all_in : (us : List ℕ) (ts : List Told) → rising (names ts) ≡ true → ((o : ℕ) → is_in o us ≡ true → is_in o (names ts) ≡ true) → entered_all us ts ≡ ts
entered_all_in [] ts r h = refl
entered_all_in (u ∷ us) ts r h =
    ap (entered_all us) (entered_in u ts r (h u (or_left (eqb u u) (is_in u us) (eq-eqb u u refl)))) ∙ entered_all_in us ts r (λ o e. h o (or_right (eqb u o) (is_in o us) e))

tells : (us : List ℕ) (o : ℕ) (p : Part) → Decides (is_in o (names (telling us p).told)) ((is_in o us ≡ true) ⊎ IsTold o p) × (answered_in o (telling us p).told ≡ answered_in o p.told)
tells us o p =
    let e = is_in_entered_all o us p.told in (
      (
        λ h. or_cases (is_in o us) (is_in o (names p.told)) (sym e ∙ h),
        λ k. e ∙ ⊎_elim (λ h. or_left (is_in o us) (is_in o (names p.told)) h) (λ h. or_right (is_in o us) (is_in o (names p.told)) h) k,
      ),
      answered_entered_all o us p.told,
    )

-- what stays until a join

kept_same : (p : Part) → Kept p p
kept_same p = record { sound = λ h. h; census = refl; told = λ o h. h; answered = λ o h. h; tally = λ h. (omega arith, h); polled = λ h. h; stirred = λ h. h }

kept_then : (p q r : Part) → Kept p q → Kept q r → Kept p r
kept_then p q r a b =
    record {
      sound = λ h. b.sound (a.sound h);
      census = b.census ∙ a.census;
      told = λ o h. b.told o (a.told o h);
      answered = λ o h. b.answered o (a.answered o h);
      tally = λ h. let x = a.tally h in let y = b.tally x.1 in (omega arith, y.1);
      polled = λ h. b.polled (a.polled h);
      stirred = λ h. b.stirred (a.stirred h);
    }

kept_settled : (o : ℕ) (p : Part) → Kept p (with_told (settled o p.told) p)
kept_settled o p =
    record {
      sound = λ h. subst (λ xs. rising xs ≡ true) (sym (names_settled o p.told)) h;
      census = refl;
      told = λ q h. subst (λ xs. is_in q xs ≡ true) (sym (names_settled o p.told)) h;
      answered = λ q h. answered_settled q o p.told h;
      tally = λ h. (omega arith, h);
      polled = λ h. h;
      stirred = λ h. h;
    }

kept_polled : (r : ℕ) (p : Part) → Kept p (polling r p)
kept_polled r p =
    record { sound = λ h. h; census = refl; told = λ o h. h; answered = λ o h. h; tally = λ h. (omega arith, h); polled = λ h. or_left p.polled (eqb r 1) h; stirred = λ h. h }

kept_step : (p q : Part) → Step p q → Kept p q
kept_step p q (Step.tells us) =
    record {
      sound = λ h. rising_entered_all us p.told h;
      census = refl;
      told = λ o h. is_in_entered_all o us p.told ∙ or_right (is_in o us) (is_in o (names p.told)) h;
      answered = λ o h. answered_entered_all o us p.told ∙ h;
      tally = λ h. (omega arith, h);
      polled = λ h. h;
      stirred = λ h. h;
    }
kept_step p q (Step.hears c o) = cond_both (eqb c p.census) (with_told (settled o p.told) p) p (Kept p) (λ _. kept_settled o p) (λ _. kept_same p)
kept_step p q (Step.counts n) =
    record { sound = λ h. h; census = refl; told = λ o h. h; answered = λ o h. h; tally = λ h. (omega arith, omega arith); polled = λ h. h; stirred = λ h. h }
kept_step p q Step.takes =
    record { sound = λ h. h; census = refl; told = λ o h. h; answered = λ o h. h; tally = λ h. (omega arith, h); polled = λ h. h; stirred = λ h. or_left p.stirred p.polled h }
kept_step p q (Step.replies c r) = cond_both (eqb c p.census) (polling r p) p (Kept p) (λ _. kept_polled r p) (λ _. kept_same p)

pub stays : (p q : Part) → Later p q → Kept p q
stays p q still = kept_same p
stays p q (then {q = m} l s) = kept_then p m q (stays p m l) (kept_step m q s)

-- a stirred house

stirred_no : (us : List ℕ) (p : Part) → p.stirred ≡ true → says_calm 2 us p ≡ false
stirred_no us p e = rw e

stirred : (p q r : Part) (us : List ℕ) → Later (polling 1 p) q → Later (stirring q) r → says_calm 2 us r ≡ false
stirred p q r us a b =
    let polled : q.polled ≡ true = (stays (polling 1 p) q a).polled (or_right p.polled true refl) in
    stirred_no us r ((stays (stirring q) r b).stirred (or_right q.stirred q.polled polled))

-- calm, in words

untold_none : (us : List ℕ) (ts : List Told) → length (untold us ts) ≡ 0 → (o : ℕ) → is_in o us ≡ true → is_in o (names ts) ≡ true
untold_none [] ts z o h = absurd (both_ways false refl h)
untold_none (u ∷ us) ts z o h =
    ⊎_elim
    (λ e.
    let rest : length (untold us ts) ≡ 0 = rw e at z in
    ⊎_elim
    (λ same. subst (λ x. is_in x (names ts) ≡ true) (eqb-true u o same) e)
    (λ other. untold_none us ts rest o other)
    (or_cases (eqb u o) (is_in o us) h))
    (λ e. let more : suc (length (untold us ts)) ≡ 0 = rw e at z in absurd (omega arith))
    (cases_Bool (is_in u (names ts)))

untold_all : (us : List ℕ) (ts : List Told) → ((o : ℕ) → is_in o us ≡ true → is_in o (names ts) ≡ true) → length (untold us ts) ≡ 0
untold_all [] ts h = refl
untold_all (u ∷ us) ts h =
    let here : is_in u (names ts) ≡ true = h u (or_left (eqb u u) (is_in u us) (eq-eqb u u refl)) in
    rw here (untold_all us ts (λ o e. h o (or_right (eqb u o) (is_in o us) e)))

answered_told : (o : ℕ) (ts : List Told) → answered_in o ts ≡ true → is_in o (names ts) ≡ true
answered_told o [] h = h
answered_told o (t ∷ ts) h =
    ⊎_elim
    (λ e. or_left (eqb t.name o) (is_in o (names ts)) (and_parts (eqb t.name o) t.answered e).0)
    (λ e. or_right (eqb t.name o) (is_in o (names ts)) (answered_told o ts e))
    (or_cases (eqb t.name o && t.answered) (answered_in o ts) h)

-- a rising list has a name once
alone : (o : ℕ) (t : Told) (ts : List Told) → rising (names (t ∷ ts)) ≡ true → t.name ≡ o → is_in o (names ts) ≡ true → ⊥
alone o t ts r e h =
    let p = and_parts (above t.name (names ts)) (rising (names ts)) r in
    both_ways (is_in o (names ts)) (above_out o t.name (names ts) p.0 (omega arith)) h

unanswered_none : (ts : List Told) → length (unanswered ts) ≡ 0 → (o : ℕ) → is_in o (names ts) ≡ true → answered_in o ts ≡ true
unanswered_none [] z o h = h
unanswered_none (t ∷ ts) z o h =
    ⊎_elim
    (λ e.
    let rest : length (unanswered ts) ≡ 0 = rw e at z in
    ⊎_elim
    (λ same. or_left _ _ (and_from (eqb t.name o) t.answered same e))
    (λ other. or_right _ _ (unanswered_none ts rest o other))
    (or_cases (eqb t.name o) (is_in o (names ts)) h))
    (λ e. let more : suc (length (unanswered ts)) ≡ 0 = rw e at z in absurd (omega arith))
    (cases_Bool t.answered)

answered_all : (ts : List Told) → rising (names ts) ≡ true → ((o : ℕ) → is_in o (names ts) ≡ true → answered_in o ts ≡ true) → length (unanswered ts) ≡ 0
answered_all [] r h = refl
answered_all (t ∷ ts) r h =
    let p = and_parts (above t.name (names ts)) (rising (names ts)) r in
    let here : t.answered ≡ true =
    ⊎_elim
    (λ e. (and_parts (eqb t.name t.name) t.answered e).1)
    (λ e. absurd (alone t.name t ts r refl (answered_told t.name ts e)))
    (or_cases (eqb t.name t.name && t.answered) (answered_in t.name ts) (h t.name (or_left _ _ (eq-eqb t.name t.name refl)))) in
    let rest : (o : ℕ) → is_in o (names ts) ≡ true → answered_in o ts ≡ true =
    λ o e.
    ⊎_elim
    (λ f. absurd (alone o t ts r (eqb-true t.name o (and_parts (eqb t.name o) t.answered f).0) e))
    (λ f. f)
    (or_cases (eqb t.name o && t.answered) (answered_in o ts) (h o (or_right (eqb t.name o) (is_in o (names ts)) e))) in
    rw here (answered_all ts p.1 rest)

pub calm_means : (us : List ℕ) (p : Part) → Sound p → Decides (calm us p) (Calm us p)
calm_means us p s = (
  λ e.
      let q = and_parts (eqb (length (untold us p.told)) 0) (eqb (length (unanswered p.told)) 0) e in
      record {
        all_told = untold_none us p.told (eqb-true (length (untold us p.told)) 0 q.0);
        all_answered = unanswered_none p.told (eqb-true (length (unanswered p.told)) 0 q.1);
      },
  λ k. and_from _ _ (eq-eqb _ 0 (untold_all us p.told k.all_told)) (eq-eqb _ 0 (answered_all p.told s k.all_answered)),
)

says : (r : ℕ) (us : List ℕ) (p : Part) → Sound p → Decides (says_calm r us p) (Calm us p × (r ≡ 2 → p.stirred ≡ true → ⊥))
says r us p s =
    let m = calm_means us p s in
    let b : Bool = eqb r 2 && p.stirred in (
      λ e.
          let q = and_parts (not b) (calm us p) e in
          (m.0 q.1, λ two st. both_ways b (not-true b q.0) (and_from (eqb r 2) p.stirred (eq-eqb r 2 two) st)),
      λ k.
          let no : b ≡ false = ⊎_elim (λ e. let q = and_parts (eqb r 2) p.stirred e in absurd (k.1 (eqb-true r 2 q.0) q.1)) (λ e. e) (cases_Bool b) in
          and_from (not b) (calm us p) (not_from_false b no) (m.1 k.0),
    )

-- what is due, in words

above_unanswered : (x : ℕ) (ts : List Told) → above x (names ts) ≡ true → above x (unanswered ts) ≡ true
above_unanswered x [] a = refl
above_unanswered x (t ∷ ts) a =
    let p = and_parts (ltb x t.name) (above x (names ts)) a in
    let i = above_unanswered x ts p.1 in
    cond_both t.answered (unanswered ts) (t.name ∷ unanswered ts) (λ xs. above x xs ≡ true) (λ _. i) (λ _. and_from (ltb x t.name) (above x (unanswered ts)) p.0 i)

rising_unanswered : (ts : List Told) → rising (names ts) ≡ true → rising (unanswered ts) ≡ true
rising_unanswered [] r = refl
rising_unanswered (t ∷ ts) r =
    let p = and_parts (above t.name (names ts)) (rising (names ts)) r in
    let i = rising_unanswered ts p.1 in
    cond_both t.answered (unanswered ts) (t.name ∷ unanswered ts) (λ xs. rising xs ≡ true) (λ _. i) (λ _. and_from _ _ (above_unanswered t.name ts p.0) i)

unanswered_told : (o : ℕ) (ts : List Told) → is_in o (unanswered ts) ≡ true → is_in o (names ts) ≡ true
unanswered_told o [] h = h
unanswered_told o (t ∷ ts) h =
    ⊎_elim
    (λ e. let g : is_in o (unanswered ts) ≡ true = rw e at h in or_right _ _ (unanswered_told o ts g))
    (λ e.
    let g : (eqb t.name o || is_in o (unanswered ts)) ≡ true = rw e at h in
    ⊎_elim (λ f. or_left _ _ f) (λ f. or_right _ _ (unanswered_told o ts f)) (or_cases (eqb t.name o) (is_in o (unanswered ts)) g))
    (cases_Bool t.answered)

unanswered_not : (o : ℕ) (ts : List Told) → rising (names ts) ≡ true → is_in o (unanswered ts) ≡ true → answered_in o ts ≡ true → ⊥
unanswered_not o [] r h a = both_ways false refl h
unanswered_not o (t ∷ ts) r h a =
    let p = and_parts (above t.name (names ts)) (rising (names ts)) r in
    let split = or_cases (eqb t.name o && t.answered) (answered_in o ts) a in
    ⊎_elim
    (λ e.
    let g : is_in o (unanswered ts) ≡ true = rw e at h in
    ⊎_elim
    (λ f. alone o t ts r (eqb-true t.name o (and_parts (eqb t.name o) t.answered f).0) (unanswered_told o ts g))
    (λ f. unanswered_not o ts p.1 g f)
    split)
    (λ e.
    let g : (eqb t.name o || is_in o (unanswered ts)) ≡ true = rw e at h in
    ⊎_elim
    (λ f. both_ways t.answered e (and_parts (eqb t.name o) t.answered f).1)
    (λ f.
    ⊎_elim
    (λ same. alone o t ts r (eqb-true t.name o same) (answered_told o ts f))
    (λ other. unanswered_not o ts p.1 other f)
    (or_cases (eqb t.name o) (is_in o (unanswered ts)) g))
    split)
    (cases_Bool t.answered)

unanswered_every : (o : ℕ) (ts : List Told) → is_in o (names ts) ≡ true → (answered_in o ts ≡ true → ⊥) → is_in o (unanswered ts) ≡ true
unanswered_every o [] h n = h
unanswered_every o (t ∷ ts) h n =
    let i : is_in o (names ts) ≡ true → is_in o (unanswered ts) ≡ true = λ f. unanswered_every o ts f (λ a. n (or_right _ _ a)) in
    let split = or_cases (eqb t.name o) (is_in o (names ts)) h in
    cond_both t.answered (unanswered ts) (t.name ∷ unanswered ts) (λ xs. is_in o xs ≡ true)
    (λ e. ⊎_elim (λ same. absurd (n (or_left _ _ (and_from (eqb t.name o) t.answered same e)))) i split)
    (λ e. ⊎_elim (λ same. or_left _ _ same) (λ other. or_right _ _ (i other)) split)

due : (us : List ℕ) (p : Part) → Sound p → Due us p (due_of us p)
due us p s =
    let ts = p.told in
    let ws : List Told = entered_all us ts in
    let r : rising (names ws) ≡ true = rising_entered_all us ts s in
    record {
      once = rising_unanswered ws r;
      only =
          λ o h. (
            or_cases (is_in o us) (is_in o (names ts)) (sym (is_in_entered_all o us ts) ∙ unanswered_told o ws h),
            λ a. unanswered_not o ws r h (answered_entered_all o us ts ∙ a),
          );
      every =
          λ o k n.
          unanswered_every o ws
          (is_in_entered_all o us ts ∙ ⊎_elim (λ e. or_left (is_in o us) (is_in o (names ts)) e) (λ e. or_right (is_in o us) (is_in o (names ts)) e) k)
          (λ a. n (sym (answered_entered_all o us ts) ∙ a));
    }

-- telling again

all_entered : (us : List ℕ) (ts : List Told) (o : ℕ) → is_in o us ≡ true → is_in o (names (entered_all us ts)) ≡ true
all_entered us ts o h = is_in_entered_all o us ts ∙ or_left (is_in o us) (is_in o (names ts)) h

entered_twice : (us : List ℕ) (ts : List Told) → rising (names ts) ≡ true → entered_all us (entered_all us ts) ≡ entered_all us ts
entered_twice us ts r = entered_all_in us (entered_all us ts) (rising_entered_all us ts r) (all_entered us ts)

-- a round that comes again

or_twice : (a b : Bool) → ((a || b) || b) ≡ (a || b)
or_twice true b = refl
or_twice false true = refl
or_twice false false = refl

asked : (from : House) (c r : ℕ) (us : List ℕ) (p : Part) → (replied c r (replied c r p) ≡ replied c r p) × (replying from c r us (replied c r p) ≡ replying from c r us p)
asked from c r us p =
    let q : Part = polling r p in
    ⊎_elim
    (λ e.
    let h : replied c r p ≡ q = cond-true (eqb c p.census) q p e in
    let twice : polling r q ≡ q = ap (λ b. record { census = p.census; told = p.told; tally = p.tally; polled = b; stirred = p.stirred }) (or_twice p.polled (eqb r 1)) in
    (ap (replied c r) h ∙ cond-true (eqb c p.census) (polling r q) q e ∙ twice ∙ sym h, ap (replying from c r us) h))
    (λ e. let h : replied c r p ≡ p = cond-false (eqb c p.census) q p e in (ap (replied c r) h, ap (replying from c r us) h))
    (cases_Bool (eqb c p.census))

-- counting

count_none : (p : Part) → p.tally ≤ 4294967295 → counting 0 p ≡ p
count_none p h =
    let e : min (p.tally + 0) 4294967295 ≡ p.tally = omega arith in
    ap (λ t. record { census = p.census; told = p.told; tally = t; polled = p.polled; stirred = p.stirred }) e

pub laws : Laws
laws =
    record {
      sound = λ s. ap rising (names_told (s.told.entries.items)) ∙ s.told.ordered;
      forgets = λ c p q h k. join_fresh c p h ∙ sym (join_fresh c q k);
      stays = stays;
      tells = tells;
      due = due;
      again = λ us p s. (ap (λ ts. with_told ts p) (entered_twice us p.told s), ap unanswered (entered_twice us p.told s));
      hears = hears;
      once = once;
      calms = calm_means;
      quiet = λ us p s e. and_from _ _ (eq-eqb _ 0 (untold_all us (entered_all us p.told) (all_entered us p.told))) (eq-eqb _ 0 (ap length e));
      says = says;
      stirred = stirred;
      asked = asked;
      marked = λ p h. (count_none p h, count_none p h);
    }
