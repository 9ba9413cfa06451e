-- The objects and roots of a house stay within their limits.
use Rattle.std.proofs.Common.{◌≡◌, ℕ, suc, ◌+◌, ◌*◌, ◌%◌, ◌^◌, ◌<◌, ◌≤◌, Bool, true, false, eqb, ltb, ◌⊎◌, List, [], ◌∷◌, ◌++◌, length, sym, refl, ap, ◌∙◌, subst, inl, inr, ⊎_elim, arith}
use Rattle.std.specs.List.{AllByRecursion}
use Rattle.std.proofs.lemmas.List.{length-append, length_push, map_push}
use Rattle.std.proofs.ByRecursion.{All-push}
use Rattle.std.proofs.lemmas.Bool.{both_ways, and_parts, and_from, or_cases, or_left, or_right, cond_both, eqb-true, eq-eqb, lt-ltb}
use Rattle.wire.specs.Names.{home, name}
use Rattle.wire.specs.Laws.{Named}
use Rattle.tables.specs.Model.{Object, Heap, is_in, present, fields_of, names, name_of, rising, above, added, changed, without, without_first, bare}
use Rattle.tables.specs.Met.{Met, start, field, Some, end, kept, left, everywhere}
use Rattle.tables.proofs.Places.{added_in, rising_added, length_added, rising_without}
use Rattle.tables.proofs.Reach.{is_in_append}
use Rattle.tables.proofs.Gathers.{added_why}
use Rattle.objects.specs.Calls.{new_heap, made_new, linked_to, unlinked_from, rooted, unrooted, with_objects, with_roots}
use Rattle.objects.specs.Executed.{collected, names_in_use, sorted_by, references_of}
use Rattle.objects.proofs.Reached.{collects, in_use, refers}
use Rattle.rules.specs.Sound.{Own, Small, SoundHeap}

-- a name in one of two lists
pub in_either : (o : ℕ) (xs ys : List ℕ) → is_in o (xs ++ ys) ≡ true → (is_in o xs ≡ true) ⊎ (is_in o ys ≡ true)
in_either o xs ys e = or_cases (is_in o xs) (is_in o ys) (sym (is_in_append o xs ys) ∙ e)

pub in_none : {A : Type 0} (o : ℕ) → is_in o [] ≡ true → A
in_none o e = absurd (both_ways false refl e)

in_one : (o n : ℕ) → is_in o (n ∷ []) ≡ true → n ≡ o
in_one o n e = ⊎_elim (λ t. eqb-true n o t) (λ t. in_none o t) (or_cases (eqb n o) false e)

-- the names of a rising list with a greater one behind
above_last : (x n : ℕ) (xs : List ℕ) → above x xs ≡ true → x < n → above x (xs ++ n ∷ []) ≡ true
above_last x n [] a l = and_from (ltb x n) true (lt-ltb x n l) refl
above_last x n (y ∷ xs) a l = let p = and_parts (ltb x y) (above x xs) a in and_from (ltb x y) (above x (xs ++ n ∷ [])) p.0 (above_last x n xs p.1 l)

rising_last : (n : ℕ) (xs : List ℕ) → rising xs ≡ true → ((o : ℕ) → is_in o xs ≡ true → o < n) → rising (xs ++ n ∷ []) ≡ true
rising_last n [] r f = refl
rising_last n (x ∷ xs) r f =
    let p = and_parts (above x xs) (rising xs) r in
    and_from (above x (xs ++ n ∷ [])) (rising (xs ++ n ∷ []))
    (above_last x n xs p.0 (f x (or_left (eqb x x) (is_in x xs) (eq-eqb x x refl))))
    (rising_last n xs p.1 (λ o e. f o (or_right (eqb x o) (is_in o xs) e)))

everywhere_last : (o : ℕ) (xs : List Object) → everywhere (xs ++ bare o ∷ []) ≡ everywhere xs
everywhere_last o [] = refl
everywhere_last o (x ∷ xs) = ap (λ r. x.fields ++ r) (everywhere_last o xs)

-- the fields of one object are fields
pub in_everywhere : (o q : ℕ) (xs : List Object) → is_in q (fields_of o xs) ≡ true → is_in q (everywhere xs) ≡ true
in_everywhere o q [] e = e
in_everywhere o q (x ∷ xs) e =
    cond_both (eqb x.name o) x.fields (fields_of o xs) (λ l. is_in q l ≡ true → is_in q (everywhere (x ∷ xs)) ≡ true)
    (λ _ g. is_in_append q x.fields (everywhere xs) ∙ or_left (is_in q x.fields) (is_in q (everywhere xs)) g)
    (λ _ g. is_in_append q x.fields (everywhere xs) ∙ or_right (is_in q x.fields) (is_in q (everywhere xs)) (in_everywhere o q xs g))
    e

small_fields : (o : ℕ) (xs : List Object) → AllByRecursion Small xs → length (fields_of o xs) ≤ 8
small_fields o [] a = omega arith
small_fields o (x ∷ xs) a = cond_both (eqb x.name o) x.fields (fields_of o xs) (λ l. length l ≤ 8) (λ _. a.0) (λ _. small_fields o xs a.1)

-- an object with other fields
module _ (o : ℕ) (fs : List ℕ) where
  abbrev other : Object
  other = record { name = o; fields = fs }

  names_changed : (xs : List Object) → names (changed o fs xs) ≡ names xs
  names_changed [] = refl
  names_changed (x ∷ xs) =
      cond_both (eqb x.name o) (other ∷ xs) (x ∷ changed o fs xs) (λ l. names l ≡ names (x ∷ xs))
      (λ t. ap (λ n. n ∷ names xs) (sym (eqb-true x.name o t)))
      (λ _. ap (λ ns. x.name ∷ ns) (names_changed xs))

  length_changed : (xs : List Object) → length (changed o fs xs) ≡ length xs
  length_changed [] = refl
  length_changed (x ∷ xs) =
      cond_both (eqb x.name o) (other ∷ xs) (x ∷ changed o fs xs) (λ l. length l ≡ length (x ∷ xs))
      (λ _. refl)
      (λ _. ap suc (length_changed xs))

  small_changed : (xs : List Object) → length fs ≤ 8 → AllByRecursion Small xs → AllByRecursion Small (changed o fs xs)
  small_changed [] l a = tt
  small_changed (x ∷ xs) l a =
      cond_both (eqb x.name o) (other ∷ xs) (x ∷ changed o fs xs) (AllByRecursion Small)
      (λ _. (l, a.1))
      (λ _. (a.0, small_changed xs l a.1))

  everywhere_changed : (q : ℕ) (xs : List Object) → is_in q (everywhere (changed o fs xs)) ≡ true → (is_in q fs ≡ true) ⊎ (is_in q (everywhere xs) ≡ true)
  everywhere_changed q [] e = inr e
  everywhere_changed q (x ∷ xs) e =
      let later : is_in q (everywhere xs) ≡ true → is_in q (everywhere (x ∷ xs)) ≡ true = λ g. is_in_append q x.fields (everywhere xs) ∙ or_right (is_in q x.fields) (is_in q (everywhere xs)) g in
      let first : is_in q x.fields ≡ true → is_in q (everywhere (x ∷ xs)) ≡ true = λ g. is_in_append q x.fields (everywhere xs) ∙ or_left (is_in q x.fields) (is_in q (everywhere xs)) g in
      cond_both (eqb x.name o) (other ∷ xs) (x ∷ changed o fs xs) (λ l. is_in q (everywhere l) ≡ true → (is_in q fs ≡ true) ⊎ (is_in q (everywhere (x ∷ xs)) ≡ true))
      (λ _ g. ⊎_elim (λ u. inl u) (λ u. inr (later u)) (in_either q fs (everywhere xs) g))
      (λ _ g. ⊎_elim (λ u. inr (first u)) (λ u. ⊎_elim (λ v. inl v) (λ v. inr (later v)) (everywhere_changed q xs u)) (in_either q x.fields (everywhere (changed o fs xs)) g))
      e

-- with one name less
first_in : (p q : ℕ) (fs : List ℕ) → is_in q (without_first p fs) ≡ true → is_in q fs ≡ true
first_in p q [] e = e
first_in p q (f ∷ fs) e =
    cond_both (eqb f p) fs (f ∷ without_first p fs) (λ l. is_in q l ≡ true → is_in q (f ∷ fs) ≡ true)
    (λ _ g. or_right (eqb f q) (is_in q fs) g)
    (λ _ g. ⊎_elim (λ u. or_left (eqb f q) (is_in q fs) u) (λ u. or_right (eqb f q) (is_in q fs) (first_in p q fs u)) (or_cases (eqb f q) (is_in q (without_first p fs)) g))
    e

length_first : (p : ℕ) (fs : List ℕ) → length (without_first p fs) ≤ length fs
length_first p [] = omega arith
length_first p (f ∷ fs) = let i = length_first p fs in cond_both (eqb f p) fs (f ∷ without_first p fs) (λ l. length l ≤ length (f ∷ fs)) (λ _. omega arith) (λ _. omega arith)

without_in : (p q : ℕ) (os : List ℕ) → is_in q (without p os) ≡ true → is_in q os ≡ true
without_in p q [] e = e
without_in p q (o ∷ os) e =
    cond_both (eqb o p) (without p os) (o ∷ without p os) (λ l. is_in q l ≡ true → is_in q (o ∷ os) ≡ true)
    (λ _ g. or_right (eqb o q) (is_in q os) (without_in p q os g))
    (λ _ g. ⊎_elim (λ u. or_left (eqb o q) (is_in q os) u) (λ u. or_right (eqb o q) (is_in q os) (without_in p q os u)) (or_cases (eqb o q) (is_in q (without p os)) g))
    e

length_without : (p : ℕ) (os : List ℕ) → length (without p os) ≤ length os
length_without p [] = omega arith
length_without p (o ∷ os) = let i = length_without p os in cond_both (eqb o p) (without p os) (o ∷ without p os) (λ l. length l ≤ length (o ∷ os)) (λ _. omega arith) (λ _. omega arith)

-- some of the objects
some_in : {ys xs : List Object} → Some ys xs → (o : ℕ) → present o ys ≡ true → present o xs ≡ true
some_in end o e = e
some_in (kept {x} {xs} {ys} s) o e = ⊎_elim
    (λ t. or_left (eqb x.name o) (is_in o (names ys)) t)
    (λ t. or_right (eqb x.name o) (is_in o (names ys)) (some_in s o t))
    (or_cases (eqb x.name o) (is_in o (names xs)) e)
some_in (left {x} {xs} {ys} s) o e = or_right (eqb x.name o) (is_in o (names ys)) (some_in s o e)

some_above : {ys xs : List Object} → Some ys xs → (n : ℕ) → above n (names xs) ≡ true → above n (names ys) ≡ true
some_above end n a = a
some_above (kept {x} {xs} {ys} s) n a = let p = and_parts (ltb n x.name) (above n (names ys)) a in and_from (ltb n x.name) (above n (names xs)) p.0 (some_above s n p.1)
some_above (left {x} {xs} {ys} s) n a = some_above s n (and_parts (ltb n x.name) (above n (names ys)) a).1

some_rising : {ys xs : List Object} → Some ys xs → rising (names xs) ≡ true → rising (names ys) ≡ true
some_rising end r = r
some_rising (kept {x} {xs} {ys} s) r =
    let p = and_parts (above x.name (names ys)) (rising (names ys)) r in
    and_from (above x.name (names xs)) (rising (names xs)) (some_above s x.name p.0) (some_rising s p.1)
some_rising (left {x} {xs} {ys} s) r = some_rising s (and_parts (above x.name (names ys)) (rising (names ys)) r).1

some_few : {ys xs : List Object} → Some ys xs → length ys ≤ length xs
some_few end = omega arith
some_few (kept s) = let i = some_few s in omega arith
some_few (left s) = let i = some_few s in omega arith

some_small : {ys xs : List Object} → Some ys xs → AllByRecursion Small xs → AllByRecursion Small ys
some_small end a = a
some_small (kept s) a = (a.0, some_small s a.1)
some_small (left s) a = some_small s a.1

some_everywhere : {ys xs : List Object} → Some ys xs → (q : ℕ) → is_in q (everywhere ys) ≡ true → is_in q (everywhere xs) ≡ true
some_everywhere end q e = e
some_everywhere (kept {x} {xs} {ys} s) q e =
    is_in_append q x.fields (everywhere ys)
    ∙ ⊎_elim (λ u. or_left (is_in q x.fields) (is_in q (everywhere ys)) u) (λ u. or_right (is_in q x.fields) (is_in q (everywhere ys)) (some_everywhere s q u)) (in_either q x.fields (everywhere xs) e)
some_everywhere (left {x} {xs} {ys} s) q e = is_in_append q x.fields (everywhere ys) ∙ or_right (is_in q x.fields) (is_in q (everywhere ys)) (some_everywhere s q e)

number_fits : (k i : ℕ) → k * 16 + i ≤ 4294967295 → k * 16 + i < 2 ^ 32
number_fits k i h = omega arith

name_made : (k i n : ℕ) → 1 ≤ k → i < n → n ≤ 16 → k * 16 + i ≤ 4294967295 → Named n (name (k * 16 + i))
name_made k i n one l few h = let e : (k * 16 + i) % 16 ≡ i = omega arith in record { some = omega arith; fits = number_fits k i h; near = omega arith }

own_made : (k i n : ℕ) → 1 ≤ k → i < n → n ≤ 16 → k * 16 + i ≤ 4294967295 → Own i n k (k * 16 + i)
own_made k i n one l few h = record { lives = omega arith; named = name_made k i n one l few h; numbered = omega arith }

own_later : (i n m k o : ℕ) → m ≤ k → Own i n m o → Own i n k o
own_later i n m k o l w = record { lives = w.lives; named = w.named; numbered = let a = w.numbered in omega arith }

own_below : (i n m k o : ℕ) → m < k → Own i n m o → o < k * 16 + i
own_below i n m k o l w = let a = w.numbered in let b = w.lives in omega arith

pub heap_new : (i n : ℕ) → n ≤ 16 → i < n → SoundHeap (new_heap i n)
heap_new i n few l = record {
  sixteen = few;
  inside = l;
  order = refl;
  few = omega arith;
  own = λ o e. in_none o e;
  fields = λ o e. in_none o e;
  small = tt;
  roots_order = refl;
  roots_few = omega arith;
  roots = λ o e. in_none o e;
  made = omega arith;
}

module _ (x : Heap) (s : SoundHeap x) where
  pub heap_made : (k : ℕ) → 1 ≤ k → length x.objects < 1024 → length x.roots < 256 → x.made < k → k * 16 + x.home ≤ 4294967295 → SoundHeap (made_new k x)
  heap_made k one room space more fits =
      let n : ℕ = k * 16 + x.home in
      let xs = x.objects in
      let own' = own_made k x.home x.houses one s.inside s.sixteen fits in
      let ns : names (xs ++ bare n ∷ []) ≡ names xs ++ n ∷ [] = map_push name_of xs (bare n) in
      record {
        sixteen = s.sixteen;
        inside = s.inside;
        order = ap rising ns ∙ rising_last n (names xs) s.order (λ o e. own_below x.home x.houses x.made k o more (s.own o e));
        few = omega (arith, length_push xs (bare n));
        own = λ o e. ⊎_elim
            (λ u. own_later x.home x.houses x.made k o (omega arith) (s.own o u))
            (λ u. subst (Own x.home x.houses k) (in_one o n u) own')
            (in_either o (names xs) (n ∷ []) (ap (is_in o) (sym ns) ∙ e));
        fields = λ o e. s.fields o (ap (is_in o) (sym (everywhere_last n xs)) ∙ e);
        small = All-push Small xs (bare n) s.small (omega arith);
        roots_order = rising_added n x.roots s.roots_order;
        roots_few = omega (arith, length_added n x.roots);
        roots = λ o e. ⊎_elim (λ u. subst (λ q. Named x.houses (name q)) u own'.named) (λ u. s.roots o u) (added_why n o x.roots e);
        made = number_fits k x.home fits;
      }

  heap_objects : (ys : List Object) → rising (names ys) ≡ true → length ys ≤ 1024 → ((o : ℕ) → present o ys ≡ true → present o x.objects ≡ true) → ((o : ℕ) → is_in o (everywhere ys) ≡ true → Named x.houses (name o)) → AllByRecursion Small ys → SoundHeap (with_objects ys x)
  heap_objects ys order few old fields small = record {
    sixteen = s.sixteen;
    inside = s.inside;
    order = order;
    few = few;
    own = λ o e. s.own o (old o e);
    fields = fields;
    small = small;
    roots_order = s.roots_order;
    roots_few = s.roots_few;
    roots = s.roots;
    made = s.made;
  }

  heap_changed : (o : ℕ) (fs : List ℕ) → length fs ≤ 8 → ((q : ℕ) → is_in q fs ≡ true → Named x.houses (name q)) → SoundHeap (with_objects (changed o fs x.objects) x)
  heap_changed o fs l f =
      let xs = x.objects in
      heap_objects (changed o fs xs) (ap rising (names_changed o fs xs) ∙ s.order) (omega (arith, length_changed o fs xs, s.few)) (λ q e. ap (is_in q) (sym (names_changed o fs xs)) ∙ e)
      (λ q e. ⊎_elim (λ u. f q u) (λ u. s.fields q u) (everywhere_changed o fs q xs e))
      (small_changed o fs xs l s.small)

  -- a field's name
  pub field_named : (o q : ℕ) → is_in q (fields_of o x.objects) ≡ true → Named x.houses (name q)
  field_named o q e = s.fields q (in_everywhere o q x.objects e)

  pub heap_linked : (o p : ℕ) → is_in p x.roots ≡ true → length (fields_of o x.objects) < 8 → SoundHeap (linked_to o p x)
  heap_linked o p e l =
      let fs = fields_of o x.objects in
      heap_changed o (fs ++ p ∷ []) (omega (arith, length_push fs p))
      (λ q u. ⊎_elim (λ v. field_named o q v) (λ v. subst (λ z. Named x.houses (name z)) (in_one q p v) (s.roots p e)) (in_either q fs (p ∷ []) u))

  pub heap_unlinked : (o p : ℕ) → SoundHeap (unlinked_from o p x)
  heap_unlinked o p =
      let fs = fields_of o x.objects in
      heap_changed o (without_first p fs) (omega (arith, length_first p fs, small_fields o x.objects s.small)) (λ q u. field_named o q (first_in p q fs u))

  heap_roots : (os : List ℕ) → rising os ≡ true → length os ≤ 256 → ((o : ℕ) → is_in o os ≡ true → Named x.houses (name o)) → SoundHeap (with_roots os x)
  heap_roots os order few named = record {
    sixteen = s.sixteen;
    inside = s.inside;
    order = s.order;
    few = s.few;
    own = s.own;
    fields = s.fields;
    small = s.small;
    roots_order = order;
    roots_few = few;
    roots = named;
    made = s.made;
  }

  pub heap_rooted : (o : ℕ) → Named x.houses (name o) → (is_in o x.roots ≡ true) ⊎ (length x.roots < 256) → SoundHeap (rooted o x)
  heap_rooted o w room =
      heap_roots (added o x.roots) (rising_added o x.roots s.roots_order)
      (⊎_elim (λ e. rw (added_in o x.roots s.roots_order e) s.roots_few) (λ l. omega (arith, length_added o x.roots)) room)
      (λ q e. ⊎_elim (λ u. subst (λ z. Named x.houses (name z)) u w) (λ u. s.roots q u) (added_why o q x.roots e))

  pub heap_unrooted : (o : ℕ) → SoundHeap (unrooted o x)
  heap_unrooted o = heap_roots (without o x.roots) (rising_without o x.roots s.roots_order) (omega (arith, length_without o x.roots, s.roots_few)) (λ q e. s.roots q (without_in o q x.roots e))

  pub heap_collected : (listed : List ℕ) → SoundHeap (collected listed x)
  heap_collected listed =
      let some = (collects x listed s.order).some in
      heap_objects (collected listed x).objects (some_rising some s.order) (omega (arith, some_few some, s.few)) (λ q e. some_in some q e) (λ q e. s.fields q (some_everywhere some q e)) (some_small some s.small)

  -- what is met from names of objects are names of objects
  met_named : (from : List ℕ) → ((o : ℕ) → is_in o from ≡ true → Named x.houses (name o)) → {o : ℕ} → Met x.objects (x.roots ++ from) o → Named x.houses (name o)
  met_named from f {o} (start e) = ⊎_elim (λ u. s.roots o u) (λ u. f o u) (in_either o x.roots from e)
  met_named from f (field {o} {p} m here e) = field_named o p e

  pub used_named : (from : List ℕ) → ((o : ℕ) → is_in o from ≡ true → Named x.houses (name o)) → (o : ℕ) → is_in o (names_in_use from x) ≡ true → (home o ≡ x.home → ⊥) × Named x.houses (name o)
  used_named from f o e = let w = (in_use x from s.order).only o e in (w.0, met_named from f w.1)

length_sorted : (p : ℕ → Bool) (os : List ℕ) → length (sorted_by p os) ≤ length os
unfolding sorted_by
length_sorted p [] = omega arith
length_sorted p (o ∷ os) =
    let i = length_sorted p os in
    cond_both (p o) (added o (sorted_by p os)) (sorted_by p os) (λ l. length l ≤ length (o ∷ os)) (λ _. omega (arith, length_added o (sorted_by p os))) (λ _. omega arith)

length_everywhere : (xs : List Object) → AllByRecursion Small xs → length (everywhere xs) ≤ 8 * length xs
length_everywhere [] a = omega arith
length_everywhere (x ∷ xs) a = let i = length_everywhere xs a.1 in let l : length x.fields ≤ 8 = a.0 in omega (arith, length-append x.fields (everywhere xs))

pub references_fit : (j : ℕ) (x : Heap) → SoundHeap x → length (references_of j x) ≤ 8448
references_fit j x s =
    let os = x.roots ++ everywhere x.objects in
    omega (arith, length_sorted (λ o. eqb (home o) j) os, length-append x.roots (everywhere x.objects), length_everywhere x.objects s.small, s.roots_few, s.few)

pub references_named : (j : ℕ) (x : Heap) → SoundHeap x → (o : ℕ) → is_in o (references_of j x) ≡ true → (home o ≡ j) × Named x.houses (name o)
references_named j x s o e = let w = (refers x j).only o e in (w.0, ⊎_elim (λ u. s.roots o u) (λ u. s.fields o u) (in_either o x.roots (everywhere x.objects) w.1))
