-- What is computed as met is what is met, and so for collection and for the references in use.
use Rattle.std.proofs.Common.{◌≡◌, ℕ, zero, suc, ◌≤◌, Bool, true, false, not, eqb, ◌⊎◌, List, [], ◌∷◌, ◌++◌, length, vec_items, sym, refl, ap, ◌∙◌, subst, inl, inr, ⊎_elim, arith}
use Rattle.std.proofs.lemmas.Bool.{cases_Bool, or_cases, or_left, or_right, or_from, cond-true, cond-false, cond_both, both_ways, not-true, eqb-true, eqb-false, eq-eqb, ne_eqb}
use Rattle.std.specs.declared.option.Option.TheVariants as option
use Rattle.wire.specs.Names.{home}
use Rattle.tables.specs.Model.{Object, Heap, is_in, present, fields_of, names, rising, added}
use Rattle.tables.specs.Met.{Met, start, field, Collected, Lists, FarInUse, Refers, Some, end, kept, left, everywhere}
use Rattle.tables.proofs.Places.{rising_added, names_in_place}
use Rattle.tables.proofs.Reach.{is_in_append}
use Rattle.tables.proofs.Gathers.{added_why, added_new, added_old}
use Rattle.objects.specs.declared.store.Objects.{Objects}
use Rattle.objects.specs.Calls.{heap_of}
use Rattle.objects.specs.Executed.{behind, picked, spread, met_from, kept_in, collected, sorted_by, names_in_use, references_of}
use Rattle.objects.proofs.Laws.{some_in, some_fields, some_refl}

some_trans : {xs ys zs : List Object} → Some ys zs → Some xs ys → Some xs zs
some_trans end s = s
some_trans (left t) s = left (some_trans t s)
some_trans (kept t) (kept s) = kept (some_trans t s)
some_trans (kept t) (left s) = left (some_trans t s)

-- what is known of the object that is picked, x, and of the others
record Pick (from : List ℕ) (xs : List Object) (x : Object) (rest : List Object) : Type 0 where
  named : is_in x.name from ≡ true
  here : present x.name xs ≡ true
  fields : fields_of x.name xs ≡ x.fields
  some : Some rest xs
  fewer : length xs ≡ suc (length rest)
  other : (o : ℕ) → present o xs ≡ true → (x.name ≡ o) ⊎ (present o rest ≡ true)

abbrev NoPick : List ℕ → List Object → Type 0
NoPick from xs = (picked from xs ≡ option.None) × ((o : ℕ) → is_in o from ≡ true → present o xs ≡ false)

abbrev SomePick : List ℕ → List Object → Type 0
SomePick from xs = (p : Object × List Object) × (picked from xs ≡ option.Some p) × Pick from xs p.0 p.1

pick_first : (from : List ℕ) (x : Object) (xs : List Object) → is_in x.name from ≡ true → SomePick from (x ∷ xs)
unfolding picked
pick_first from x xs t = (
  (x, xs),
  cond-true (is_in x.name from) (option.Some (x, xs)) (behind x (picked from xs)) t,
  record {
    named = t;
    here = or_left (eqb x.name x.name) (is_in x.name (names xs)) (eq-eqb x.name x.name refl);
    fields = cond-true (eqb x.name x.name) x.fields (fields_of x.name xs) (eq-eqb x.name x.name refl);
    some = left (some_refl xs);
    fewer = refl;
    other = λ o e. ⊎_elim (λ u. inl (eqb-true x.name o u)) (λ u. inr u) (or_cases (eqb x.name o) (is_in o (names xs)) e);
  },
)

apart : (from : List ℕ) (a b : ℕ) → is_in a from ≡ false → is_in b from ≡ true → eqb a b ≡ false
apart from a b f t = ne_eqb a b (λ e. both_ways (is_in a from) f (ap (λ n. is_in n from) e ∙ t))

pick_none : (from : List ℕ) (x : Object) (xs : List Object) → is_in x.name from ≡ false → NoPick from xs → NoPick from (x ∷ xs)
unfolding picked
pick_none from x xs f q = (
  cond-false (is_in x.name from) (option.Some (x, xs)) (behind x (picked from xs)) f ∙ ap (behind x) q.0,
  λ o e. or_from (eqb x.name o) (is_in o (names xs)) (apart from x.name o f e) (q.1 o e),
)

pick_later : (from : List ℕ) (x : Object) (xs : List Object) → is_in x.name from ≡ false → SomePick from xs → SomePick from (x ∷ xs)
unfolding picked
pick_later from x xs f q =
    let y = q.0.0 in
    let rest = q.0.1 in
    let k : Pick from xs y rest = q.2 in (
      (y, x ∷ rest),
      cond-false (is_in x.name from) (option.Some (x, xs)) (behind x (picked from xs)) f ∙ ap (behind x) q.1,
      record {
        named = k.named;
        here = or_right (eqb x.name y.name) (is_in y.name (names xs)) k.here;
        fields = cond-false (eqb x.name y.name) x.fields (fields_of y.name xs) (apart from x.name y.name f k.named) ∙ k.fields;
        some = kept k.some;
        fewer = ap suc k.fewer;
        other = λ o e. ⊎_elim
            (λ u. inr (or_left (eqb x.name o) (is_in o (names rest)) u))
            (λ u. ⊎_elim (λ v. inl v) (λ v. inr (or_right (eqb x.name o) (is_in o (names rest)) v)) (k.other o u))
            (or_cases (eqb x.name o) (is_in o (names xs)) e);
      },
    )

pick : (from : List ℕ) (xs : List Object) → NoPick from xs ⊎ SomePick from xs
unfolding picked
pick from [] = inl (refl, λ o e. refl)
pick from (x ∷ xs) = ⊎_elim
    (λ t. inr (pick_first from x xs t))
    (λ f. ⊎_elim (λ q. inl (pick_none from x xs f q)) (λ q. inr (pick_later from x xs f q)) (pick from xs))
    (cases_Bool (is_in x.name from))

-- one turn
spread_none : (n : ℕ) (xs : List Object) (from : List ℕ) → NoPick from xs → spread (suc n) xs from ≡ from
unfolding spread
spread_none n xs from q = ap (λ r. elim r [ option.None ↦ from | option.Some p ↦ spread n p.1 (p.0.fields ++ from) ]) q.0

spread_some : (n : ℕ) (xs : List Object) (from : List ℕ) (q : SomePick from xs) → spread (suc n) xs from ≡ spread n q.0.1 (q.0.0.fields ++ from)
unfolding spread
spread_some n xs from q = ap (λ r. elim r [ option.None ↦ from | option.Some p ↦ spread n p.1 (p.0.fields ++ from) ]) q.1

in_first : (o : ℕ) (xs ys : List ℕ) → is_in o xs ≡ true → is_in o (xs ++ ys) ≡ true
in_first o xs ys e = is_in_append o xs ys ∙ or_left (is_in o xs) (is_in o ys) e

in_second : (o : ℕ) (xs ys : List ℕ) → is_in o ys ≡ true → is_in o (xs ++ ys) ≡ true
in_second o xs ys e = is_in_append o xs ys ∙ or_right (is_in o xs) (is_in o ys) e

-- names stay
spread_old : (n : ℕ) (xs : List Object) (from : List ℕ) (o : ℕ) → is_in o from ≡ true → is_in o (spread n xs from) ≡ true
unfolding spread
spread_old zero xs from o e = e
spread_old (suc n) xs from o e = ⊎_elim
    (λ q. ap (is_in o) (spread_none n xs from q) ∙ e)
    (λ q. ap (is_in o) (spread_some n xs from q) ∙ spread_old n q.0.1 (q.0.0.fields ++ from) o (in_second o q.0.0.fields from e))
    (pick from xs)

module _ (all : List Object) (r : rising (names all) ≡ true) where
  -- what is picked has the fields that all say
  pick_fields : (from : List ℕ) (xs : List Object) (x : Object) (rest : List Object) → Some xs all → Pick from xs x rest → fields_of x.name all ≡ x.fields
  pick_fields from xs x rest s k = sym (some_fields s r x.name k.here) ∙ k.fields

  -- each object that is named in the end has given its fields
  spread_closed : (n : ℕ) (xs : List Object) (from : List ℕ) → Some xs all → length xs ≤ n → (o p : ℕ) → is_in o (spread n xs from) ≡ true → present o xs ≡ true → is_in p (fields_of o all) ≡ true → is_in p (spread n xs from) ≡ true
  spread_closed zero [] from s l o p m here e = absurd (both_ways false refl here)
  spread_closed zero (x ∷ xs) from s l o p m here e = absurd (omega arith)
  spread_closed (suc n) xs from s l o p m here e = ⊎_elim
      (λ q. absurd (both_ways (present o xs) (q.1 o (ap (is_in o) (sym (spread_none n xs from q)) ∙ m)) here))
      (λ q. let x = q.0.0 in
      let rest = q.0.1 in
      let k : Pick from xs x rest = q.2 in
      let more = x.fields ++ from in
      ap (is_in p) (spread_some n xs from q) ∙ ⊎_elim
      (λ u. spread_old n rest more p (in_first p x.fields from (ap (is_in p) (sym (ap (λ z. fields_of z all) (sym u) ∙ pick_fields from xs x rest s k)) ∙ e)))
      (λ u. spread_closed n rest more (some_trans s k.some) (omega (arith, k.fewer, l)) o p (ap (is_in o) (sym (spread_some n xs from q)) ∙ m) u e)
      (k.other o here))
      (pick from xs)

  module _ (first : List ℕ) where
    -- and all names are met
    spread_only : (n : ℕ) (xs : List Object) (from : List ℕ) → Some xs all → ((o : ℕ) → is_in o from ≡ true → Met all first o) → (o : ℕ) → is_in o (spread n xs from) ≡ true → Met all first o
    unfolding spread
    spread_only zero xs from s h o e = h o e
    spread_only (suc n) xs from s h o e = ⊎_elim
        (λ q. h o (ap (is_in o) (sym (spread_none n xs from q)) ∙ e))
        (λ q. let x = q.0.0 in
        let rest = q.0.1 in
        let k : Pick from xs x rest = q.2 in
        spread_only n rest (x.fields ++ from) (some_trans s k.some)
        (λ p u. ⊎_elim
        (λ v. field (h x.name k.named) (some_in s x.name k.here) (ap (is_in p) (pick_fields from xs x rest s k) ∙ v))
        (λ v. h p v)
        (or_cases (is_in p x.fields) (is_in p from) (sym (is_in_append p x.fields from) ∙ u)))
        o (ap (is_in o) (sym (spread_some n xs from q)) ∙ e))
        (pick from xs)

pub met_all : (xs : List Object) (from : List ℕ) (o : ℕ) → rising (names xs) ≡ true → Met xs from o → is_in o (met_from xs from) ≡ true
met_all xs from o r (start e) = spread_old (length xs) xs from o e
met_all xs from o r (field {o = x} m here e) = spread_closed xs r (length xs) xs from (some_refl xs) (omega arith) x o (met_all xs from x r m) here e

pub met_only : (xs : List Object) (from : List ℕ) (o : ℕ) → rising (names xs) ≡ true → is_in o (met_from xs from) ≡ true → Met xs from o
met_only xs from o r m = spread_only xs r from (length xs) xs from (some_refl xs) (λ p e. start e) o m

-- the objects that are named in a list
module _ (os : List ℕ) where
  kept_some : (xs : List Object) → Some (kept_in os xs) xs
  unfolding kept_in
  kept_some [] = end
  kept_some (x ∷ xs) = cond_both (is_in x.name os) (x ∷ kept_in os xs) (kept_in os xs) (λ l. Some l (x ∷ xs)) (λ _. kept (kept_some xs)) (λ _. left (kept_some xs))

  kept_only : (o : ℕ) (xs : List Object) → present o (kept_in os xs) ≡ true → is_in o os ≡ true
  unfolding kept_in
  kept_only o [] e = absurd (both_ways false refl e)
  kept_only o (x ∷ xs) e =
      cond_both (is_in x.name os) (x ∷ kept_in os xs) (kept_in os xs) (λ l. present o l ≡ true → is_in o os ≡ true)
      (λ t g. ⊎_elim
      (λ u. ap (λ n. is_in n os) (sym (eqb-true x.name o u)) ∙ t)
      (λ u. kept_only o xs u)
      (or_cases (eqb x.name o) (is_in o (names (kept_in os xs))) g))
      (λ _ g. kept_only o xs g)
      e

  kept_stays : (o : ℕ) (xs : List Object) → present o xs ≡ true → is_in o os ≡ true → present o (kept_in os xs) ≡ true
  unfolding kept_in
  kept_stays o [] e m = e
  kept_stays o (x ∷ xs) e m =
      cond_both (is_in x.name os) (x ∷ kept_in os xs) (kept_in os xs) (λ l. present o l ≡ true)
      (λ _. ⊎_elim
      (λ u. or_left (eqb x.name o) (is_in o (names (kept_in os xs))) u)
      (λ u. or_right (eqb x.name o) (is_in o (names (kept_in os xs))) (kept_stays o xs u m))
      (or_cases (eqb x.name o) (is_in o (names xs)) e))
      (λ f. ⊎_elim
      (λ u. absurd (both_ways (eqb x.name o) (apart os x.name o f m) u))
      (λ u. kept_stays o xs u m)
      (or_cases (eqb x.name o) (is_in o (names xs)) e))

-- the objects in memory rise
pub ordered : (t : Objects) → rising (names (heap_of t).objects) ≡ true
ordered t = ap rising (names_in_place (vec_items t.objects)) ∙ t.ordered

pub collects : (h : Heap) (listed : List ℕ) → rising (names h.objects) ≡ true → Collected h listed (collected listed h)
collects h listed r =
    let xs = h.objects in
    let from = h.roots ++ listed in
    record {
      home = refl;
      houses = refl;
      made = refl;
      roots = refl;
      some = kept_some (met_from xs from) xs;
      stays = λ o here m. kept_stays (met_from xs from) o xs here (met_all xs from o r m);
      only = λ o e. met_only xs from o r (kept_only (met_from xs from) o xs e);
    }

-- the names that pass a test
module _ (p : ℕ → Bool) where
  sorted_rises : (os : List ℕ) → rising (sorted_by p os) ≡ true
  unfolding sorted_by
  sorted_rises [] = refl
  sorted_rises (o ∷ os) = cond_both (p o) (added o (sorted_by p os)) (sorted_by p os) (λ l. rising l ≡ true) (λ _. rising_added o (sorted_by p os) (sorted_rises os)) (λ _. sorted_rises os)

  sorted_why : (q : ℕ) (os : List ℕ) → is_in q (sorted_by p os) ≡ true → (p q ≡ true) × (is_in q os ≡ true)
  unfolding sorted_by
  sorted_why q [] e = absurd (both_ways false refl e)
  sorted_why q (o ∷ os) e =
      let older : is_in q (sorted_by p os) ≡ true → (p q ≡ true) × (is_in q (o ∷ os) ≡ true) = λ g. ((sorted_why q os g).0, or_right (eqb o q) (is_in q os) (sorted_why q os g).1) in
      cond_both (p o) (added o (sorted_by p os)) (sorted_by p os) (λ l. is_in q l ≡ true → (p q ≡ true) × (is_in q (o ∷ os) ≡ true))
      (λ t g. ⊎_elim (λ s. (ap p (sym s) ∙ t, or_left (eqb o q) (is_in q os) (eq-eqb o q s))) older (added_why o q (sorted_by p os) g))
      (λ _ g. older g)
      e

  sorted_in : (q : ℕ) (os : List ℕ) → p q ≡ true → is_in q os ≡ true → is_in q (sorted_by p os) ≡ true
  unfolding sorted_by
  sorted_in q [] t e = e
  sorted_in q (o ∷ os) t e =
      cond_both (p o) (added o (sorted_by p os)) (sorted_by p os) (λ l. is_in q l ≡ true)
      (λ _. ⊎_elim
      (λ u. subst (λ x. is_in q (added x (sorted_by p os)) ≡ true) (sym (eqb-true o q u)) (added_new q (sorted_by p os)))
      (λ u. added_old o q (sorted_by p os) (sorted_in q os t u))
      (or_cases (eqb o q) (is_in q os) e))
      (λ f. ⊎_elim
      (λ u. absurd (both_ways (p o) f (ap p (eqb-true o q u) ∙ t)))
      (λ u. sorted_in q os t u)
      (or_cases (eqb o q) (is_in q os) e))

pub in_use : (h : Heap) (from : List ℕ) → rising (names h.objects) ≡ true → Lists (names_in_use from h) (FarInUse h from)
in_use h from r =
    let far : ℕ → Bool = λ o. not (eqb (home o) h.home) in
    let starts = h.roots ++ from in
    let met = met_from h.objects starts in
    record {
      rises = sorted_rises far met;
      only = λ o e. let q = sorted_why far o met e in (eqb-false (home o) h.home (not-true (eqb (home o) h.home) q.0), met_only h.objects starts o r q.1);
      all = λ o q. sorted_in far o met (ap not (ne_eqb (home o) h.home q.0)) (met_all h.objects starts o r q.1);
    }

pub refers : (h : Heap) (j : ℕ) → Lists (references_of j h) (Refers h j)
refers h j =
    let his : ℕ → Bool = λ o. eqb (home o) j in
    let os = h.roots ++ everywhere h.objects in
    record {
      rises = sorted_rises his os;
      only = λ o e. let q = sorted_why his o os e in (eqb-true (home o) j q.0, q.1);
      all = λ o q. sorted_in his o os (eq-eqb (home o) j q.0) q.1;
    }
