-- What follows of a collection.
use Rattle.std.proofs.Common.{◌≡◌, ℕ, ◌≤◌, true, false, eqb, List, [], ◌∷◌, ◌++◌, sym, refl, ap, ◌∙◌, subst, ⊎_elim, arith}
use Rattle.std.proofs.lemmas.Bool.{cases_Bool, cases_lt, or_cases, or_parts, or_left, or_right, or_from, cond-true, cond-false, and_parts, both_ways, eqb-true, eq-eqb, ne_eqb}
use Rattle.tables.specs.Model.{Object, Heap, is_in, present, fields_of, names, rising, above, without, all_well, fields_well}
use Rattle.wire.specs.Names.{name, well_formed}
use Rattle.tables.specs.Met.{Met, start, field, Some, end, kept, left, Collected, Lists, everywhere}
use Rattle.objects.specs.Laws.{Lasting, Lone, Frees, count_of, Sole, Well}
use Rattle.tables.proofs.Places.{above_out}
use Rattle.tables.proofs.Well.{well_in, well_fields, well_append, well_everywhere}
use Rattle.tables.proofs.Reach.{is_in_append}

-- what is in some of a list is in the list
pub some_in : {ys xs : List Object} → Some ys xs → (o : ℕ) → present o ys ≡ true → present o xs ≡ true
some_in end o e = e
some_in (kept {x} {xs} {ys} s) o e = ⊎_elim
    (λ t. or_left (eqb x.name o) (is_in o (names ys)) t)
    (λ t. or_right (eqb x.name o) (is_in o (names ys)) (some_in s o t))
    (or_cases (eqb x.name o) (is_in o (names xs)) e)
some_in (left {x} {xs} {ys} s) o e = or_right (eqb x.name o) (is_in o (names ys)) (some_in s o e)

out_first : (o : ℕ) (x : Object) (xs : List Object) → rising (names (x ∷ xs)) ≡ true → present o xs ≡ true → eqb x.name o ≡ false
out_first o x xs r e = ne_eqb x.name o (λ q. both_ways (is_in o (names xs)) (above_out o x.name (names xs) (and_parts (above x.name (names xs)) (rising (names xs)) r).0 (omega arith)) e)

-- and has the same fields
pub some_fields : {ys xs : List Object} → Some ys xs → rising (names xs) ≡ true → (o : ℕ) → present o ys ≡ true → fields_of o ys ≡ fields_of o xs
some_fields end r o e = refl
some_fields (kept {x} {xs} {ys} s) r o e = ⊎_elim
    (λ t. cond-true (eqb x.name o) x.fields (fields_of o xs) t ∙ sym (cond-true (eqb x.name o) x.fields (fields_of o ys) t))
    (λ t. let f : eqb x.name o ≡ false = out_first o x ys r (some_in s o t) in
    cond-false (eqb x.name o) x.fields (fields_of o xs) f
    ∙ some_fields s (and_parts (above x.name (names ys)) (rising (names ys)) r).1 o t
    ∙ sym (cond-false (eqb x.name o) x.fields (fields_of o ys) f))
    (or_cases (eqb x.name o) (is_in o (names xs)) e)
some_fields (left {x} {xs} {ys} s) r o e =
    some_fields s (and_parts (above x.name (names ys)) (rising (names ys)) r).1 o e
    ∙ sym (cond-false (eqb x.name o) x.fields (fields_of o ys) (out_first o x ys r (some_in s o e)))

pub some_refl : (xs : List Object) → Some xs xs
some_refl [] = end
some_refl (x ∷ xs) = kept (some_refl xs)

-- two parts of a list with the same names are the same
module _ where
  Same : List Object → List Object → Type 0
  Same ys zs = (o : ℕ) → present o ys ≡ true → present o zs ≡ true

  rest : (x : Object) (xs ys zs : List Object) → rising (names (x ∷ xs)) ≡ true → Some ys xs → Same (x ∷ ys) (x ∷ zs) → Same ys zs
  unfolding Same
  rest x xs ys zs r s h o e = ⊎_elim
      (λ t. absurd (both_ways (eqb x.name o) (out_first o x xs r (some_in s o e)) t))
      (λ t. t)
      (or_cases (eqb x.name o) (is_in o (names zs)) (h o (or_right (eqb x.name o) (is_in o (names ys)) e)))

  gone : (x : Object) (xs ys zs : List Object) → rising (names (x ∷ xs)) ≡ true → Some zs xs → Same (x ∷ ys) zs → ⊥
  unfolding Same
  gone x xs ys zs r t h =
      let here : present x.name zs ≡ true = h x.name (or_left (eqb x.name x.name) (is_in x.name (names ys)) (eq-eqb x.name x.name refl)) in
      both_ways (eqb x.name x.name) (out_first x.name x xs r (some_in t x.name here)) (eq-eqb x.name x.name refl)

  same_some : {xs ys zs : List Object} → rising (names xs) ≡ true → Some ys xs → Some zs xs → Same ys zs → Same zs ys → ys ≡ zs
  same_some r end end f g = refl
  same_some r (kept {x = x} {xs = ys} {ys = xs} s) (kept {xs = zs} t) f g =
      ap (λ l. x ∷ l) (same_some (and_parts (above x.name (names xs)) (rising (names xs)) r).1 s t (rest x xs ys zs r s f) (rest x xs zs ys r t g))
  same_some r (kept {x = x} {xs = ys} {ys = xs} s) (left {xs = zs} t) f g = absurd (gone x xs ys zs r t f)
  same_some r (left {x = x} {xs = ys} {ys = xs} s) (kept {xs = zs} t) f g = absurd (gone x xs zs ys r s g)
  same_some r (left {x = x} {xs = ys} {ys = xs} s) (left t) f g = same_some (and_parts (above x.name (names xs)) (rising (names xs)) r).1 s t f g

heap_same : (a b : Heap) → a.home ≡ b.home → a.houses ≡ b.houses → a.made ≡ b.made → a.objects ≡ b.objects → a.roots ≡ b.roots → a ≡ b
heap_same a b e f g h i =
    ap (λ x. record { home = x; houses = a.houses; made = a.made; objects = a.objects; roots = a.roots }) e
    ∙ ap (λ x. record { home = b.home; houses = x; made = a.made; objects = a.objects; roots = a.roots }) f
    ∙ ap (λ x. record { home = b.home; houses = b.houses; made = x; objects = a.objects; roots = a.roots }) g
    ∙ ap (λ x. record { home = b.home; houses = b.houses; made = b.made; objects = x; roots = a.roots }) h
    ∙ ap (λ x. record { home = b.home; houses = b.houses; made = b.made; objects = b.objects; roots = x }) i

module _ (before : Heap) (listed : List ℕ) (after : Heap) (c : Collected before listed after) (r : rising (names before.objects) ≡ true) where
  -- what is met is met by what is left
  met_left : {o : ℕ} → Met before.objects (before.roots ++ listed) o → Met after.objects (before.roots ++ listed) o
  met_left (start e) = start e
  met_left (field {o} {p} m here e) =
      let stays = c.stays o here m in
      field (met_left m) stays (ap (is_in p) (some_fields c.some r o stays) ∙ e)

  pub lasting : rising (names after.objects) ≡ true → Lasting before listed after
  unfolding Same
  lasting ra = record {
    again = λ next d. heap_same next after d.home d.houses d.made
        (same_some ra d.some (some_refl after.objects) (some_in d.some)
        (λ o e. d.stays o e (subst (λ rs. Met after.objects (rs ++ listed) o) (sym c.roots) (met_left (c.only o e)))))
        d.roots;
    sole = λ other d. heap_same other after (d.home ∙ sym c.home) (d.houses ∙ sym c.houses) (d.made ∙ sym c.made)
        (same_some r d.some c.some
        (λ o e. c.stays o (some_in d.some o e) (d.only o e))
        (λ o e. d.stays o (some_in c.some o e) (c.only o e)))
        (d.roots ∙ sym c.roots);
    roots = λ o e here. c.stays o here (start (is_in_append o before.roots listed ∙ or_left (is_in o before.roots) (is_in o listed) e));
    listed = λ o e here. c.stays o here (start (is_in_append o before.roots listed ∙ or_right (is_in o before.roots) (is_in o listed) e));
    same = λ o e. some_fields c.some r o e;
    fields = λ o p e f here. c.stays p here (field (c.only o e) (some_in c.some o e) (ap (is_in p) (sym (some_fields c.some r o e)) ∙ f));
  }

fields_everywhere : (o p : ℕ) (xs : List Object) → is_in p (fields_of o xs) ≡ true → is_in p (everywhere xs) ≡ true
fields_everywhere o p [] e = e
fields_everywhere o p (x ∷ xs) e = is_in_append p x.fields (everywhere xs) ∙ ⊎_elim
    (λ t. or_left (is_in p x.fields) (is_in p (everywhere xs)) (ap (is_in p) (sym (cond-true (eqb x.name o) x.fields (fields_of o xs) t)) ∙ e))
    (λ f. or_right (is_in p x.fields) (is_in p (everywhere xs)) (fields_everywhere o p xs (ap (is_in p) (sym (cond-false (eqb x.name o) x.fields (fields_of o xs) f)) ∙ e)))
    (cases_Bool (eqb x.name o))

lone_met : (o : ℕ) (listed : List ℕ) (h : Heap) → is_in o h.roots ≡ false → Lone o listed h → Met h.objects (h.roots ++ listed) o → ⊥
lone_met o listed h out lone (start e) = both_ways (is_in o (h.roots ++ listed)) (is_in_append o h.roots listed ∙ or_from (is_in o h.roots) (is_in o listed) out lone.1) e
lone_met o listed h out lone (field {o = x} m here e) = both_ways (is_in o (everywhere h.objects)) lone.0 (fields_everywhere x o h.objects e)

pub frees : (o : ℕ) (h : Heap) → is_in o h.roots ≡ false → Frees o h
frees o h out listed after lone c = ⊎_elim
    (λ t. absurd (lone_met o listed h out lone (c.only o t)))
    (λ f. f)
    (cases_Bool (present o after.objects))

pub without_gone : (o : ℕ) (xs : List ℕ) → is_in o (without o xs) ≡ false
without_gone o [] = refl
without_gone o (x ∷ xs) = ⊎_elim
    (λ t. ap (is_in o) (cond-true (eqb x o) (without o xs) (x ∷ without o xs) t) ∙ without_gone o xs)
    (λ f. ap (is_in o) (cond-false (eqb x o) (without o xs) (x ∷ without o xs) f) ∙ or_from (eqb x o) (is_in o (without o xs)) f (without_gone o xs))
    (cases_Bool (eqb x o))

count_none : (o : ℕ) (xs : List Object) → present o xs ≡ false → count_of o xs ≡ 0
count_none o [] f = refl
count_none o (x ∷ xs) f =
    let p = or_parts (eqb x.name o) (is_in o (names xs)) f in
    omega (arith, cond-false {A = ℕ} (eqb x.name o) 1 0 p.0, count_none o xs p.1)

pub single : (o : ℕ) (xs : List Object) → rising (names xs) ≡ true → count_of o xs ≤ 1
single o [] r = omega arith
single o (x ∷ xs) r =
    let p = and_parts (above x.name (names xs)) (rising (names xs)) r in
    ⊎_elim
    (λ t. let z = count_none o xs (above_out o x.name (names xs) p.0 (let q = eqb-true x.name o t in omega arith)) in
    omega (arith, cond-true {A = ℕ} (eqb x.name o) 1 0 t))
    (λ f. omega (arith, cond-false {A = ℕ} (eqb x.name o) 1 0 f, single o xs p.1))
    (cases_Bool (eqb x.name o))

-- rising lists with the same elements are the same
module _ where
  In : List ℕ → List ℕ → Type 0
  In xs ys = (o : ℕ) → is_in o xs ≡ true → is_in o ys ≡ true

  here_in : (x : ℕ) (xs : List ℕ) → is_in x (x ∷ xs) ≡ true
  here_in x xs = or_left (eqb x x) (is_in x xs) (eq-eqb x x refl)

  -- the first is not above another's first
  first_le : (x y : ℕ) (xs ys : List ℕ) → rising (y ∷ ys) ≡ true → In (x ∷ xs) (y ∷ ys) → y ≤ x
  unfolding In
  first_le x y xs ys r f = ⊎_elim
      (λ l. absurd (⊎_elim
      (λ t. let q = eqb-true y x t in omega arith)
      (λ t. both_ways (is_in x ys) (above_out x y ys (and_parts (above y ys) (rising ys) r).0 (omega arith)) t)
      (or_cases (eqb y x) (is_in x ys) (f x (here_in x xs)))))
      (λ l. l)
      (cases_lt x y)

  tail_in : (x : ℕ) (xs ys : List ℕ) → rising (x ∷ xs) ≡ true → In (x ∷ xs) (x ∷ ys) → In xs ys
  unfolding In
  tail_in x xs ys r f o e = ⊎_elim
      (λ t. absurd (both_ways (is_in o xs) (above_out o x xs (and_parts (above x xs) (rising xs) r).0 (let q = eqb-true x o t in omega arith)) e))
      (λ t. t)
      (or_cases (eqb x o) (is_in o ys) (f o (or_right (eqb x o) (is_in o xs) e)))

  same_rising : (xs ys : List ℕ) → rising xs ≡ true → rising ys ≡ true → In xs ys → In ys xs → xs ≡ ys
  unfolding In
  same_rising [] [] r s f g = refl
  same_rising [] (y ∷ ys) r s f g = absurd (both_ways false refl (g y (here_in y ys)))
  same_rising (x ∷ xs) [] r s f g = absurd (both_ways false refl (f x (here_in x xs)))
  same_rising (x ∷ xs) (y ∷ ys) r s f g =
      let a = first_le x y xs ys s f in
      let b = first_le y x ys xs r g in
      let e : y ≡ x = omega arith in
      let f' : In (x ∷ xs) (x ∷ ys) = subst (λ z. In (x ∷ xs) (z ∷ ys)) e f in
      let g' : In (x ∷ ys) (x ∷ xs) = subst (λ z. In (z ∷ ys) (x ∷ xs)) e g in
      let s' : rising (x ∷ ys) ≡ true = subst (λ z. rising (z ∷ ys) ≡ true) e s in
      let t = same_rising xs ys (and_parts (above x xs) (rising xs) r).1 (and_parts (above x ys) (rising ys) s').1 (tail_in x xs ys r f') (tail_in x ys xs s' g') in
      ap (λ z. z ∷ xs) (sym e) ∙ ap (λ l. y ∷ l) t

pub sole : (os : List ℕ) (P : ℕ → Type 0) → Lists os P → Sole os P
unfolding In
sole os P l qs m = same_rising qs os m.rises l.rises (λ o e. l.all o (m.only o e)) (λ o e. m.all o (l.only o e))

-- what is met is named by a root, a given name or a field
pub met_well : (h : Heap) (from : List ℕ) → all_well h.houses h.roots ≡ true → fields_well h.houses h.objects ≡ true → Well h from → (o : ℕ) → Met h.objects (h.roots ++ from) o → well_formed h.houses (name o) ≡ true
met_well h from a b w o (start e) = ⊎_elim
    (λ t. well_in h.houses o h.roots a t)
    (λ t. w o t)
    (or_cases (is_in o h.roots) (is_in o from) (sym (is_in_append o h.roots from) ∙ e))
met_well h from a b w o (field {o = x} m here e) = well_in h.houses o (fields_of x h.objects) (well_fields h.houses x h.objects b) e

pub refers_well : (h : Heap) → all_well h.houses h.roots ≡ true → fields_well h.houses h.objects ≡ true → (o : ℕ) → is_in o (h.roots ++ everywhere h.objects) ≡ true → well_formed h.houses (name o) ≡ true
refers_well h a b o e = well_in h.houses o (h.roots ++ everywhere h.objects) (well_append h.houses h.roots (everywhere h.objects) a (well_everywhere h.houses h.objects b)) e
