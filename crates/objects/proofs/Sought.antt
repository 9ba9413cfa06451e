-- What a search for names finds.
use Rattle.std.proofs.Common.{◌≡◌, ℕ, zero, suc, ◌%◌, ◌<◌, ◌≤◌, Bool, true, false, ◌&&◌, eqb, ◌⊎◌, List, [], ◌∷◌, ◌++◌, length, get_or, replicate, sym, refl, ap, ◌∙◌, subst, inl, inr, ⊎_elim, arith}
use Rattle.std.specs.List.{list_all}
use Rattle.std.proofs.lemmas.List.{append-nil}
use Rattle.std.proofs.lemmas.Bool.{or_cases, or_left, or_right, both_ways, not-true, not_from_false, eqb-true, eqb-false, eq-eqb, ne_eqb}
use Rattle.wire.specs.declared.names.House.{House}
use Rattle.tables.specs.declared.object.Object.{Object}
use Rattle.tables.specs.declared.which.Which.{Which}
use Rattle.tables.specs.declared.which.Which.TheVariants.{Of, NotOf}
use Rattle.tables.specs.Model.{Heap, is_in, fields_of, names, rising}
use Rattle.tables.specs.Met.{Met, start, field, Lists, FarInUse, Refers, everywhere}
use Rattle.tables.specs.Marks.{kept_by, Marked, field_lists, fields_in}
use Rattle.tables.specs.Gathered.{wanted, gathered, all_there, Found}
use Rattle.tables.specs.Shown.{objects_of, names_in}
use Rattle.tables.proofs.Reach.{is_in_append, fields_place, present_place, place_present}
use Rattle.tables.proofs.Gathers.{rising_gathered, gathered_old, gathered_new, gathered_why, gathered_all}
use Rattle.objects.specs.Executed.{names_in_use}
use Rattle.objects.proofs.Laws.{sole}
use Rattle.objects.proofs.Reached.{in_use}

-- a field of a marked object, and the place that it stands at
everywhere_why : (o : ℕ) (ms : List Bool) (xs : List Object) → is_in o (everywhere (kept_by ms (objects_of xs))) ≡ true → (k : ℕ) × (k < length xs) × (get_or ms k false ≡ true) × (is_in o (get_or (field_lists xs) k []) ≡ true)
everywhere_why o [] xs e = absurd (both_ways false refl e)
everywhere_why o (m ∷ ms) [] e = absurd (both_ways false refl e)
everywhere_why o (true ∷ ms) (x ∷ xs) e = ⊎_elim
    (λ t. (0, omega arith, refl, t))
    (λ t. let q = everywhere_why o ms xs t in (suc q.0, omega (arith, q.1), q.2, q.3))
    (or_cases (is_in o (fields_in x)) (is_in o (everywhere (kept_by ms (objects_of xs)))) (sym (is_in_append o (fields_in x) (everywhere (kept_by ms (objects_of xs)))) ∙ e))
everywhere_why o (false ∷ ms) (x ∷ xs) e = let q = everywhere_why o ms xs e in (suc q.0, omega (arith, q.1), q.2, q.3)

everywhere_in : (o : ℕ) (ms : List Bool) (xs : List Object) (k : ℕ) → k < length xs → get_or ms k false ≡ true → is_in o (get_or (field_lists xs) k []) ≡ true → is_in o (everywhere (kept_by ms (objects_of xs))) ≡ true
everywhere_in o [] xs k h m e = absurd (both_ways false refl m)
everywhere_in o (m' ∷ ms) [] k h m e = absurd (omega arith)
everywhere_in o (true ∷ ms) (x ∷ xs) zero h m e = is_in_append o (fields_in x) (everywhere (kept_by ms (objects_of xs))) ∙ or_left (is_in o (fields_in x)) (is_in o (everywhere (kept_by ms (objects_of xs)))) e
everywhere_in o (false ∷ ms) (x ∷ xs) zero h m e = absurd (both_ways false refl m)
everywhere_in o (true ∷ ms) (x ∷ xs) (suc k) h m e =
    is_in_append o (fields_in x) (everywhere (kept_by ms (objects_of xs))) ∙ or_right (is_in o (fields_in x)) (is_in o (everywhere (kept_by ms (objects_of xs)))) (everywhere_in o ms xs k (omega arith) m e)
everywhere_in o (false ∷ ms) (x ∷ xs) (suc k) h m e = everywhere_in o ms xs k (omega arith) m e

kept_all : {X : Type 0} (n : ℕ) (xs : List X) → length xs ≤ n → kept_by (replicate n true) xs ≡ xs
kept_all zero [] h = refl
kept_all zero (x ∷ xs) h = absurd (omega arith)
kept_all (suc n) [] h = refl
kept_all (suc n) (x ∷ xs) h = ap (λ r. x ∷ r) (kept_all n xs (omega arith))

-- where a name that is found stands
Stands : Which → Heap → List ℕ → List Bool → ℕ → Type 0
Stands w h from ms o = (wanted w o ≡ true) × ((is_in o (h.roots ++ from) ≡ true) ⊎ (is_in o (everywhere (kept_by ms h.objects)) ≡ true))

found_lists : (w : Which) (h : Heap) (from : List ℕ) (ms : List Bool) (os : List ℕ) → Found w h from ms os → Lists os (Stands w h from ms)
unfolding Stands
found_lists w h from ms os f =
    let fs = everywhere (kept_by ms h.objects) in
    let one = gathered w h.roots [] in
    let two = gathered w from one in
    record {
      rises = ap rising f ∙ rising_gathered w fs two (rising_gathered w from one (rising_gathered w h.roots [] refl));
      only = λ o e. ⊎_elim
          (λ t. ⊎_elim
          (λ u. ⊎_elim
          (λ v. absurd (both_ways false refl v))
          (λ v. (v.0, inl (is_in_append o h.roots from ∙ or_left (is_in o h.roots) (is_in o from) v.1)))
          (gathered_why w o h.roots [] u))
          (λ u. (u.0, inl (is_in_append o h.roots from ∙ or_right (is_in o h.roots) (is_in o from) u.1)))
          (gathered_why w o from one t))
          (λ t. (t.0, inr t.1))
          (gathered_why w o fs two (sym (ap (is_in o) f) ∙ e));
      all = λ o p. ap (is_in o) f ∙ ⊎_elim
          (λ t. gathered_old w o fs two (⊎_elim
          (λ u. gathered_old w o from one (gathered_new w o h.roots [] p.0 u))
          (λ u. gathered_new w o from one p.0 u)
          (or_cases (is_in o h.roots) (is_in o from) (sym (is_in_append o h.roots from) ∙ t))))
          (λ t. gathered_new w o fs two p.0 t)
          p.1;
    }

lists_map : (os : List ℕ) (P Q : ℕ → Type 0) → ((o : ℕ) → P o → Q o) → ((o : ℕ) → Q o → P o) → Lists os P → Lists os Q
lists_map os P Q f g l = record { rises = l.rises; only = λ o e. f o (l.only o e); all = λ o q. l.all o (g o q) }

-- with the marks of what is met: the far references in use
pub far_lists : (h : Heap) (home : House) (xs : List Object) (from : List ℕ) (ms : List Bool) (os : List ℕ) → h.home ≡ home.0 → h.objects ≡ objects_of xs → rising (names_in xs) ≡ true → Marked xs (h.roots ++ from) ms → Found (NotOf home) h from ms os → Lists os (FarInUse h from)
unfolding Stands
far_lists h home xs from ms os eh ex r marked f =
    lists_map os (Stands (NotOf home) h from ms) (FarInUse h from)
    (λ o p. (
      (λ e. eqb-false (o % 16) home.0 (not-true (eqb (o % 16) home.0) p.0) (e ∙ eh)),
      ⊎_elim
          (λ t. start t)
          (λ t. let q = everywhere_why o ms xs (ap (λ l. is_in o (everywhere (kept_by ms l))) (sym ex) ∙ t) in
          subst (λ l. Met l (h.roots ++ from) o) (sym ex)
          (field ((marked q.0 q.1).0 q.2) (present_place xs r q.0 q.1) (ap (is_in o) (fields_place xs r q.0 q.1) ∙ q.3)))
          p.1,
    ))
    (λ o p. (
      not_from_false (eqb (o % 16) home.0) (ne_eqb (o % 16) home.0 (λ e. p.0 (e ∙ sym eh))),
      met_stands o (subst (λ l. Met l (h.roots ++ from) o) ex p.1),
    ))
    (found_lists (NotOf home) h from ms os f)
  where
    met_stands : (o : ℕ) → Met (objects_of xs) (h.roots ++ from) o → (is_in o (h.roots ++ from) ≡ true) ⊎ (is_in o (everywhere (kept_by ms h.objects)) ≡ true)
    met_stands o (start e) = inl e
    met_stands o (field {o = p} m here e) =
        let q = place_present xs r p here in
        let mk : get_or ms q.0 false ≡ true = (marked q.0 q.1).1 (subst (Met (objects_of xs) (h.roots ++ from)) (sym q.2) m) in
        let fs : fields_of p (objects_of xs) ≡ get_or (field_lists xs) q.0 [] = ap (λ x. fields_of x (objects_of xs)) (sym q.2) ∙ fields_place xs r q.0 q.1 in
        inr (ap (λ l. is_in o (everywhere (kept_by ms l))) ex ∙ everywhere_in o ms xs q.0 q.1 mk (sym (ap (is_in o) fs) ∙ e))

-- with a mark on every object: all references to a house
pub refers_lists : (h : Heap) (house : House) (n : ℕ) (os : List ℕ) → length h.objects ≤ n → Found (Of house) h [] (replicate n true) os → Lists os (Refers h house.0)
unfolding Stands
refers_lists h house n os l f =
    let k : kept_by (replicate n true) h.objects ≡ h.objects = kept_all n h.objects l in
    lists_map os (Stands (Of house) h [] (replicate n true)) (Refers h house.0)
    (λ o p. (
      eqb-true (o % 16) house.0 p.0,
      is_in_append o h.roots (everywhere h.objects) ∙ ⊎_elim
          (λ t. or_left (is_in o h.roots) (is_in o (everywhere h.objects)) (ap (is_in o) (sym (append-nil h.roots)) ∙ t))
          (λ t. or_right (is_in o h.roots) (is_in o (everywhere h.objects)) (ap (λ l. is_in o (everywhere l)) (sym k) ∙ t))
          p.1,
    ))
    (λ o p. (
      eq-eqb (o % 16) house.0 p.0,
      ⊎_elim
          (λ t. inl (ap (is_in o) (append-nil h.roots) ∙ t))
          (λ t. inr (ap (λ l. is_in o (everywhere l)) k ∙ t))
          (or_cases (is_in o h.roots) (is_in o (everywhere h.objects)) (sym (is_in_append o h.roots (everywhere h.objects)) ∙ p.1)),
    ))
    (found_lists (Of house) h [] (replicate n true) os f)

-- the far references in use all stand in a list if the roots that are far do, the given names and the fields of what is met
pub far_stand : (h : Heap) (home : House) (xs : List Object) (from ts : List ℕ) (ms : List Bool) → h.home ≡ home.0 → h.objects ≡ objects_of xs → rising (names_in xs) ≡ true → rising (names h.objects) ≡ true → Marked xs (h.roots ++ from) ms →
    list_all (λ o. is_in o ts) (names_in_use from h) ≡ (all_there (NotOf home) ts h.roots && (all_there (NotOf home) ts from && all_there (NotOf home) ts (everywhere (kept_by ms h.objects))))
far_stand h home xs from ts ms eh ex r rs marked =
    let w = NotOf home in
    let fs = everywhere (kept_by ms h.objects) in
    let one = gathered w h.roots [] in
    let two = gathered w from one in
    let all = gathered w fs two in
    let same : names_in_use from h ≡ all = sole all (FarInUse h from) (far_lists h home xs from ms all eh ex r marked refl) (names_in_use from h) (in_use h from rs) in
    ap (list_all (λ o. is_in o ts)) same
    ∙ gathered_all w ts fs two
    ∙ ap (λ b. all_there w ts fs && b) (gathered_all w ts from one ∙ ap (λ b. all_there w ts from && b) (gathered_all w ts h.roots []))
    ∙ turned (all_there w ts fs) (all_there w ts from) (all_there w ts h.roots)
  where
    turned : (a b c : Bool) → (a && (b && (c && true))) ≡ (c && (b && a))
    turned true true true = refl
    turned true true false = refl
    turned true false true = refl
    turned true false false = refl
    turned false true true = refl
    turned false true false = refl
    turned false false true = refl
    turned false false false = refl
