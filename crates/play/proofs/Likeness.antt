-- Lists of names and of objects that differ in their order only.
use Rattle.std.proofs.Common.{◌≡◌, ℕ, ◌+◌, Bool, true, false, cond, ◌||◌, eqb, List, [], ◌∷◌, ◌++◌, sym, refl, ap, ◌∙◌, subst, ⊎_elim, arith}
use Rattle.std.proofs.lemmas.Bool.{or_cases, or_left, or_right, eqb-true, eq-eqb, cases_Bool, both_ways, or_parts}
use Rattle.tables.specs.Model.{Object, is_in, present, fields_of, changed, added}
use Rattle.tables.specs.Met.{everywhere}
use Rattle.tables.proofs.Gathers.{added_why, added_new, added_old}
use Rattle.tables.proofs.Reach.{is_in_append}
use Rattle.promise.specs.House.{count_of}
use Rattle.promise.specs.Alike.{SameNames, AlikeObjects}

pub same_test : (a b : Bool) → (a ≡ true → b ≡ true) → (b ≡ true → a ≡ true) → a ≡ b
same_test true b f g = sym (f refl)
same_test false true f g = g refl
same_test false false f g = refl

pub same_added : (o : ℕ) (xs : List ℕ) → SameNames (o ∷ xs) (added o xs)
same_added o xs q =
    same_test (eqb o q || is_in q xs) (is_in q (added o xs))
    (λ t. ⊎_elim (λ e. subst (λ (z : ℕ). is_in z (added o xs) ≡ true) (eqb-true o q e) (added_new o xs)) (λ m. added_old o q xs m) (or_cases (eqb o q) (is_in q xs) t))
    (λ t. ⊎_elim (λ e. or_left (eqb o q) (is_in q xs) (eq-eqb o q e)) (λ m. or_right (eqb o q) (is_in q xs) m) (added_why o q xs t))

or_swap : (a b : Bool) → (a || b) ≡ (b || (a || false))
or_swap true true = refl
or_swap true false = refl
or_swap false true = refl
or_swap false false = refl

pub same_last : (p : ℕ) (xs : List ℕ) → SameNames (p ∷ xs) (xs ++ p ∷ [])
same_last p xs q = or_swap (eqb p q) (is_in q xs) ∙ sym (is_in_append q xs (p ∷ []))

or_same : (a b c d : Bool) → a ≡ c → b ≡ d → (a || b) ≡ (c || d)
or_same a b c d e f = ap (λ (z : Bool). z || b) e ∙ ap (λ (z : Bool). c || z) f

same_append : (xs ys us vs : List ℕ) → SameNames xs us → SameNames ys vs → SameNames (xs ++ ys) (us ++ vs)
same_append xs ys us vs e f q = is_in_append q xs ys ∙ or_same (is_in q xs) (is_in q ys) (is_in q us) (is_in q vs) (e q) (f q) ∙ sym (is_in_append q us vs)

-- the same object put first
alike_cons : (x y : Object) (xs ys : List Object) → x.name ≡ y.name → SameNames x.fields y.fields → AlikeObjects xs ys → AlikeObjects (x ∷ xs) (y ∷ ys)
unfolding count_of
alike_cons x y xs ys e f a =
    record {
      present = λ o. or_same (eqb x.name o) (present o xs) (eqb y.name o) (present o ys) (ap (λ (z : ℕ). eqb z o) e) (a.present o);
      fields = λ o q. ap (λ (z : ℕ). is_in q (cond (eqb z o) x.fields (fields_of o xs))) e ∙ pick (eqb y.name o) q x.fields y.fields (fields_of o xs) (fields_of o ys) (f q) (a.fields o q);
      everywhere = same_append x.fields (everywhere xs) y.fields (everywhere ys) f a.everywhere;
      count = λ o. ap (λ (z : ℕ). cond (eqb z o) 1 0 + count_of o xs) e ∙ ap (λ (z : ℕ). cond (eqb y.name o) 1 0 + z) (a.count o);
    }
  where
    pick : (b : Bool) (q : ℕ) (fs gs hs is : List ℕ) → is_in q fs ≡ is_in q gs → is_in q hs ≡ is_in q is → is_in q (cond b fs hs) ≡ is_in q (cond b gs is)
    pick true q fs gs hs is u v = u
    pick false q fs gs hs is u v = v

alike_refl : (xs : List Object) → AlikeObjects xs xs
alike_refl xs = record { present = λ o. refl; fields = λ o q. refl; everywhere = λ o. refl; count = λ o. refl }

pub alike_changed : (o : ℕ) (fs gs : List ℕ) (xs : List Object) → SameNames fs gs → AlikeObjects (changed o fs xs) (changed o gs xs)
alike_changed o fs gs [] e = alike_refl []
alike_changed o fs gs (x ∷ xs) e = go (alike_changed o fs gs xs e) (eqb x.name o)
  where
    go : AlikeObjects (changed o fs xs) (changed o gs xs) → (b : Bool) → AlikeObjects (cond b (record { name = o; fields = fs } ∷ xs) (x ∷ changed o fs xs)) (cond b (record { name = o; fields = gs } ∷ xs) (x ∷ changed o gs xs))
    go rest true = alike_cons (record { name = o; fields = fs }) (record { name = o; fields = gs }) xs xs refl e (alike_refl xs)
    go rest false = alike_cons x x (changed o fs xs) (changed o gs xs) refl (λ q. refl) rest

-- an object without fields first or last
pub alike_trans : (xs ys zs : List Object) → AlikeObjects xs ys → AlikeObjects ys zs → AlikeObjects xs zs
alike_trans xs ys zs a b =
    record { present = λ o. a.present o ∙ b.present o; fields = λ o q. a.fields o q ∙ b.fields o q; everywhere = λ o. a.everywhere o ∙ b.everywhere o; count = λ o. a.count o ∙ b.count o }

-- two objects of different names change places
alike_swap : (x y : Object) (xs : List Object) → eqb x.name y.name ≡ false → AlikeObjects (x ∷ y ∷ xs) (y ∷ x ∷ xs)
unfolding count_of
alike_swap x y xs d =
    record {
      present = λ o. swap (eqb x.name o) (eqb y.name o) (present o xs);
      fields = λ o q. ap (λ (l : List ℕ). is_in q l) (turn o (eqb x.name o) (eqb y.name o) refl refl);
      everywhere = λ q. is_in_append q x.fields (y.fields ++ everywhere xs) ∙ ap (λ (z : Bool). is_in q x.fields || z) (is_in_append q y.fields (everywhere xs)) ∙ swap (is_in q x.fields) (is_in q y.fields) (is_in q (everywhere xs)) ∙ sym (is_in_append q y.fields (x.fields ++ everywhere xs) ∙ ap (λ (z : Bool). is_in q y.fields || z) (is_in_append q x.fields (everywhere xs)));
      count = λ o. sums (cond (eqb x.name o) 1 0) (cond (eqb y.name o) 1 0) (count_of o xs);
    }
  where
    swap : (a b c : Bool) → (a || (b || c)) ≡ (b || (a || c))
    swap true true c = refl
    swap true false c = refl
    swap false true c = refl
    swap false false c = refl

    sums : (a b c : ℕ) → a + (b + c) ≡ b + (a + c)
    sums a b c = omega arith

    turn : (o : ℕ) (a b : Bool) → eqb x.name o ≡ a → eqb y.name o ≡ b → cond a x.fields (cond b y.fields (fields_of o xs)) ≡ cond b y.fields (cond a x.fields (fields_of o xs))
    turn o true true e f = absurd (both_ways (eqb x.name y.name) d (eq-eqb x.name y.name (eqb-true x.name o e ∙ sym (eqb-true y.name o f))))
    turn o true false e f = refl
    turn o false true e f = refl
    turn o false false e f = refl

pub alike_last : (x : Object) (xs : List Object) → present x.name xs ≡ false → AlikeObjects (x ∷ xs) (xs ++ x ∷ [])
alike_last x [] f = alike_refl (x ∷ [])
alike_last x (y ∷ ys) f =
    let p = or_parts (eqb y.name x.name) (present x.name ys) f in
    alike_trans (x ∷ y ∷ ys) (y ∷ x ∷ ys) (y ∷ (ys ++ x ∷ [])) (alike_swap x y ys (turned x.name y.name p.0)) (alike_cons y y (x ∷ ys) (ys ++ x ∷ []) refl (λ q. refl) (alike_last x ys p.1))
  where
    turned : (a b : ℕ) → eqb b a ≡ false → eqb a b ≡ false
    turned a b e = ⊎_elim (λ t. absurd (both_ways (eqb b a) e (eq-eqb b a (sym (eqb-true a b t))))) (λ t. t) (cases_Bool (eqb a b))
