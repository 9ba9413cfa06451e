-- What passes mark is what is met.
use Rattle.std.proofs.Common.{◌≡◌, ℕ, zero, suc, ◌<◌, ◌≤◌, Bool, true, false, ◌||◌, eqb, List, [], ◌∷◌, ◌++◌, length, get_or, sym, refl, ap, ◌∙◌, subst, arith}
use Rattle.std.proofs.lemmas.List.{length-map}
use Rattle.std.proofs.lemmas.Bool.{cond-true}
use Rattle.tables.specs.declared.object.Object.{Object}
use Rattle.tables.specs.Model as model
use Rattle.tables.specs.Model.{is_in, present, fields_of, names, rising, below}
use Rattle.tables.specs.Met.{Met, start, field}
use Rattle.tables.specs.Marks.{count, noted_all, grown, passed, field_lists}
use Rattle.tables.specs.Shown.{object_of, objects_of, names_in, name_in}
use Rattle.tables.proofs.Places.{names_in_place, is_in_at, get_d_below}
use Rattle.tables.proofs.Table.{fields_at}
use Rattle.tables.proofs.Passes.{noted_all_marks, passed_sound, passed_keeps, passed_still}

pub is_in_append : (o : ℕ) (xs ys : List ℕ) → is_in o (xs ++ ys) ≡ (is_in o xs || is_in o ys)
is_in_append o [] ys = refl
is_in_append o (x ∷ xs) ys = ap (λ b. eqb x o || b) (is_in_append o xs ys) ∙ or_assoc (eqb x o) (is_in o xs) (is_in o ys)
  where
    or_assoc : (a b c : Bool) → (a || (b || c)) ≡ ((a || b) || c)
    or_assoc true b c = refl
    or_assoc false b c = refl

get_d_fields : (xs : List Object) (i : ℕ) (d : model.Object) → i < length xs → (get_or (objects_of xs) i d).fields ≡ get_or (field_lists xs) i []
get_d_fields [] i d h = absurd (omega arith)
get_d_fields (x ∷ xs) zero d h = refl
get_d_fields (x ∷ xs) (suc i) d h = get_d_fields xs i d (omega arith)

module _ (xs : List Object) (from : List ℕ) where
  -- what is marked is met
  abbrev pub Sound : List Bool → Type 0
  Sound ms = (k : ℕ) → k < length (names_in xs) → get_or ms k false ≡ true → Met (objects_of xs) from (get_or (names_in xs) k 0)

  -- what the names name is marked
  abbrev pub Begun : List Bool → Type 0
  Begun ms = (k : ℕ) → k < length (names_in xs) → is_in (get_or (names_in xs) k 0) from ≡ true → get_or ms k false ≡ true

module _ (xs : List Object) (r : rising (names_in xs) ≡ true) where
  rises : rising (names (objects_of xs)) ≡ true
  rises = ap rising (names_in_place xs) ∙ r

  -- the object at a place is present, with the fields that lie there
  pub fields_place : (i : ℕ) → i < length xs → fields_of (get_or (names_in xs) i 0) (objects_of xs) ≡ get_or (field_lists xs) i []
  fields_place i h =
      fields_at (get_or (names_in xs) i 0) (objects_of xs) i (model.bare 0) rises (omega (arith, length-map xs object_of)) (ap (λ ns. get_or ns i 0) (names_in_place xs))
      ∙ get_d_fields xs i (model.bare 0) h

  pub present_place : (i : ℕ) → i < length xs → present (get_or (names_in xs) i 0) (objects_of xs) ≡ true
  present_place i h = ap (is_in (get_or (names_in xs) i 0)) (names_in_place xs) ∙ is_in_at (get_or (names_in xs) i 0) (names_in xs) i (omega (arith, length-map xs name_in)) refl

  -- and an object that is present has a place
  pub place_present : (o : ℕ) → present o (objects_of xs) ≡ true → (i : ℕ) × (i < length xs) × (get_or (names_in xs) i 0 ≡ o)
  place_present o e =
      let q = get_d_below o (names_in xs) r (ap (is_in o) (sym (names_in_place xs)) ∙ e) in
      (below o (names_in xs), omega (arith, q.0, length-map xs name_in), q.1)

  module _ (from : List ℕ) where
    pub sound_passed : (ms : List Bool) → Sound xs from ms → Sound xs from (passed (names_in xs) (field_lists xs) 0 (length xs) ms)
    sound_passed ms h =
        passed_sound (names_in xs) (field_lists xs) (λ k. Met (objects_of xs) from (get_or (names_in xs) k 0))
        (λ i k a b m e. let l : i < length xs = omega (arith, length-map xs name_in) in field m (present_place i l) (ap (is_in (get_or (names_in xs) k 0)) (fields_place i l) ∙ e))
        0 (length xs) ms (omega (arith, length-map xs name_in)) h

    pub begun_passed : (ms : List Bool) → Begun xs from ms → Begun xs from (passed (names_in xs) (field_lists xs) 0 (length xs) ms)
    begun_passed ms h k l e = passed_keeps (names_in xs) (field_lists xs) 0 (length xs) ms k (h k l e)

    -- where a pass adds nothing, all that is met is marked
    pub met_marked : (ms : List Bool) → length xs ≤ length ms → Begun xs from ms → count (passed (names_in xs) (field_lists xs) 0 (length xs) ms) ≤ count ms → {p : ℕ} → Met (objects_of xs) from p → (k : ℕ) → k < length (names_in xs) → get_or (names_in xs) k 0 ≡ p → get_or ms k false ≡ true
    met_marked ms len begun still (start e) k l n = begun k l (ap (λ x. is_in x from) n ∙ e)
    met_marked ms len begun still (field {o} {p} m here e) k l n =
        let q = place_present o here in
        let i = q.0 in
        let li : i < length (names_in xs) = omega (arith, q.1, length-map xs name_in) in
        let marked : get_or ms i false ≡ true = met_marked ms len begun still m i li q.2 in
        let s : grown (names_in xs) (field_lists xs) i ms ≡ ms = (passed_still (names_in xs) (field_lists xs) 0 (length xs) ms still).1 i (omega arith) (omega (arith, q.1)) in
        let same : noted_all (get_or (field_lists xs) i []) (names_in xs) ms ≡ ms = sym (cond-true (get_or ms i false) (noted_all (get_or (field_lists xs) i []) (names_in xs) ms) ms marked) ∙ s in
        let fs : fields_of o (objects_of xs) ≡ get_or (field_lists xs) i [] = ap (λ x. fields_of x (objects_of xs)) (sym q.2) ∙ fields_place i q.1 in
        let inside : is_in (get_or (names_in xs) k 0) (get_or (field_lists xs) i []) ≡ true = ap (λ x. is_in x (get_or (field_lists xs) i [])) n ∙ ap (is_in p) (sym fs) ∙ e in
        subst (λ x. get_or x k false ≡ true) same (noted_all_marks (names_in xs) (get_or (field_lists xs) i []) ms k l (omega (arith, length-map xs name_in)) inside)
