-- The list of a house stays within its limits.
use Rattle.std.proofs.Common.{◌≡◌, ℕ, ◌+◌, ◌≤◌, true, false, cond, not, ◌||◌, eqb, ltb, ◌⊎◌, List, [], ◌∷◌, length, sym, refl, ap, ◌∙◌, subst, inl, inr, ⊎_elim, arith}
use mathlib.Core.List.Memᴰ
use mathlib.Core.List.{Memᴰ}
use Rattle.std.specs.List.{AllZip, AllByRecursion}
use Rattle.std.proofs.lemmas.List.Elements.{length_all_zip}
use Rattle.std.proofs.lemmas.Bool.{both_ways, cases_Bool, and_parts, and_from, or_cases, or_left, or_right, or_parts, or_from, cond_both, cond-true, cond-false, eqb-true, eq-eqb, ltb-true}
use Rattle.wire.specs.Names.{name}
use Rattle.wire.specs.Laws.{Named}
use Rattle.tables.specs.Model.{is_in}
use Rattle.lines.specs.Listed.{Listed, line, is_of, listed, listed_in, entered, marked, joined, goes, heard_of, swept, objects_in, fits}
use Rattle.rules.specs.Step.{newly}
use Rattle.rules.specs.Sound.{SoundLine, SoundList, Single, stale}
use Rattle.rules.proofs.Fairness.{by_cases}
use Rattle.rules.proofs.SoundHeaps.{in_none}

module _ {X : Type 0} (P : X → Type 0) where
  pub all_mem : (xs : List X) → AllByRecursion P xs → (x : X) → Memᴰ x xs → P x
  all_mem [] a x m = absurd (Memᴰ.not-nil m)
  all_mem (y ∷ xs) a x m = ⊎_elim (λ q. subst P (sym q) a.0) (λ n. all_mem xs a.1 x n) (Memᴰ.cases_cons m)

  pub mem_all : (xs : List X) → ((x : X) → Memᴰ x xs → P x) → AllByRecursion P xs
  mem_all [] f = tt
  mem_all (y ∷ xs) f = (f y (Memᴰ.head refl), mem_all xs (λ x m. f x (Memᴰ.tail m)))

is_of_line : (o j : ℕ) (e : Listed) → is_of o j e ≡ true → (e.object ≡ o) × (e.holder ≡ j)
is_of_line o j e t = let p = and_parts (eqb e.object o) (eqb e.holder j) t in (eqb-true e.object o p.0, eqb-true e.holder j p.1)

of_itself : (e : Listed) → is_of e.object e.holder e ≡ true
of_itself e = and_from (eqb e.object e.object) (eqb e.holder e.holder) (eq-eqb e.object e.object refl) (eq-eqb e.holder e.holder refl)

listed_mem : (es : List Listed) (e : Listed) → Memᴰ e es → listed e.object e.holder es ≡ true
unfolding listed
listed_mem [] e m = absurd (Memᴰ.not-nil m)
listed_mem (x ∷ es) e m = ⊎_elim
    (λ q. or_left (is_of e.object e.holder x) (listed e.object e.holder es) (ap (is_of e.object e.holder) (sym q) ∙ of_itself e))
    (λ n. or_right (is_of e.object e.holder x) (listed e.object e.holder es) (listed_mem es e n))
    (Memᴰ.cases_cons m)

not_listed : {A : Type 0} (x e : Listed) (es : List Listed) → listed x.object x.holder es ≡ false → Memᴰ e es → x.object ≡ e.object → x.holder ≡ e.holder → A
not_listed x e es f m p q = absurd (both_ways (listed e.object e.holder es) (ap (λ o. listed o e.holder es) (sym p) ∙ ap (λ j. listed x.object j es) (sym q) ∙ f) (listed_mem es e m))

-- two lines of one object and one holder are the same
pub one_line : (es : List Listed) → Single es → (e f : Listed) → Memᴰ e es → Memᴰ f es → e.object ≡ f.object → e.holder ≡ f.holder → e ≡ f
one_line [] s e f m n p q = absurd (Memᴰ.not-nil m)
one_line (x ∷ es) s e f m n p q = ⊎_elim
    (λ a. ⊎_elim (λ b. a ∙ sym b) (λ b. not_listed x f es s.0 b (ap (λ (y : Listed). y.object) (sym a) ∙ p) (ap (λ (y : Listed). y.holder) (sym a) ∙ q)) (Memᴰ.cases_cons n))
    (λ a. ⊎_elim (λ b. not_listed x e es s.0 a (ap (λ (y : Listed). y.object) (sym b) ∙ sym p) (ap (λ (y : Listed). y.holder) (sym b) ∙ sym q)) (λ b. one_line es s.1 e f a b p q) (Memᴰ.cases_cons n))
    (Memᴰ.cases_cons m)

-- some lines of a list
data Fewer : List Listed → List Listed → Type 0 where
  none : Fewer [] []
  stays : {e : Listed} {fs es : List Listed} → Fewer fs es → Fewer (e ∷ fs) (e ∷ es)
  leaves : {e : Listed} {fs es : List Listed} → Fewer fs es → Fewer fs (e ∷ es)

fewer_heard : (j : ℕ) (held : List ℕ) (upto : ℕ) (es : List Listed) → Fewer (heard_of j held upto es) es
unfolding heard_of
fewer_heard j held upto [] = none
fewer_heard j held upto (e ∷ es) = cond_both (goes j held upto e) (heard_of j held upto es) (e ∷ heard_of j held upto es) (λ fs. Fewer fs (e ∷ es)) (λ _. leaves (fewer_heard j held upto es)) (λ _. stays (fewer_heard j held upto es))

fewer_swept : (c : ℕ) (es : List Listed) → Fewer (swept c es) es
unfolding swept
fewer_swept c [] = none
fewer_swept c (e ∷ es) = cond_both (eqb e.census c) (e ∷ swept c es) (swept c es) (λ fs. Fewer fs (e ∷ es)) (λ _. stays (fewer_swept c es)) (λ _. leaves (fewer_swept c es))

fewer_all : (P : Listed → Type 0) {fs es : List Listed} → Fewer fs es → AllByRecursion P es → AllByRecursion P fs
fewer_all P none a = tt
fewer_all P (stays w) a = (a.0, fewer_all P w a.1)
fewer_all P (leaves w) a = fewer_all P w a.1

fewer_length : {fs es : List Listed} → Fewer fs es → length fs ≤ length es
fewer_length none = omega arith
fewer_length (stays w) = let i = fewer_length w in omega arith
fewer_length (leaves w) = let i = fewer_length w in omega arith

fewer_listed : (o j : ℕ) {fs es : List Listed} → Fewer fs es → listed o j es ≡ false → listed o j fs ≡ false
unfolding listed
fewer_listed o j none f = f
fewer_listed o j (stays {e} {fs} {es} w) f = let p = or_parts (is_of o j e) (listed o j es) f in or_from (is_of o j e) (listed o j fs) p.0 (fewer_listed o j w p.1)
fewer_listed o j (leaves {e} {fs} {es} w) f = fewer_listed o j w (or_parts (is_of o j e) (listed o j es) f).1

fewer_single : {fs es : List Listed} → Fewer fs es → Single es → Single fs
fewer_single none s = tt
fewer_single (stays {e} {fs} {es} w) s = (fewer_listed e.object e.holder w s.0, fewer_single w s.1)
fewer_single (leaves w) s = fewer_single w s.1

fewer_stale : (c : ℕ) {fs es : List Listed} → Fewer fs es → stale c fs ≤ stale c es
fewer_stale c none = omega arith
fewer_stale c (stays w) = let i = fewer_stale c w in omega arith
fewer_stale c (leaves w) = let i = fewer_stale c w in omega arith

fewer_sound : (here n c : ℕ) (fs es : List Listed) → Fewer fs es → SoundList here n c es → SoundList here n c fs
fewer_sound here n c fs es w s = record {
  few = omega (arith, fewer_length w, s.few);
  lines = all_mem (SoundLine here n c) fs (fewer_all (SoundLine here n c) w (mem_all (SoundLine here n c) es s.lines));
  once = fewer_single w s.once;
}

module _ (here n c : ℕ) (es : List Listed) (s : SoundList here n c es) where
  pub list_heard : (j : ℕ) (held : List ℕ) (upto : ℕ) → SoundList here n c (heard_of j held upto es)
  list_heard j held upto = fewer_sound here n c (heard_of j held upto es) es (fewer_heard j held upto es) s

  pub list_swept : (d : ℕ) → SoundList here n c (swept d es)
  list_swept d = fewer_sound here n c (swept d es) es (fewer_swept d es) s

pub stale_heard : (c j : ℕ) (held : List ℕ) (upto : ℕ) (es : List Listed) → stale c (heard_of j held upto es) ≤ stale c es
stale_heard c j held upto es = fewer_stale c (fewer_heard j held upto es)

pub stale_swept : (c d : ℕ) (es : List Listed) → stale c (swept d es) ≤ stale c es
stale_swept c d es = fewer_stale c (fewer_swept d es)

pub stale_few : (c : ℕ) (es : List Listed) → stale c es ≤ length es
stale_few c [] = omega arith
stale_few c (e ∷ es) = let i = stale_few c es in cond_both (eqb e.census c) 0 1 (λ k. k + stale c es ≤ length (e ∷ es)) (λ _. omega arith) (λ _. omega arith)

-- a line as it was, or with number c
abbrev Renumbered : ℕ → Listed → Listed → Type 0
Renumbered c e f = (f ≡ e) ⊎ (f ≡ line e.object e.holder e.stamp c)

renumbered_same : (c : ℕ) (es : List Listed) → AllZip (Renumbered c) es es
renumbered_same c [] = tt
renumbered_same c (e ∷ es) = (inl refl, renumbered_same c es)

renumbered_joined : (c : ℕ) (heard : ℕ → ℕ) (es : List Listed) → AllZip (Renumbered c) es (joined c heard es)
unfolding joined
renumbered_joined c heard [] = tt
renumbered_joined c heard (e ∷ es) =
    (cond_both (ltb (heard e.holder) e.stamp) (line e.object e.holder e.stamp c) e (Renumbered c e) (λ _. inr refl) (λ _. inl refl), renumbered_joined c heard es)

renumbered_marked : (c o j : ℕ) (es : List Listed) → AllZip (Renumbered c) es (marked c o j es)
unfolding marked
renumbered_marked c o j [] = tt
renumbered_marked c o j (e ∷ es) =
    cond_both (is_of o j e) (line o j e.stamp c ∷ es) (e ∷ marked c o j es) (AllZip (Renumbered c) (e ∷ es))
    (λ t. let p = is_of_line o j e t in (inr (ap (λ x. line x j e.stamp c) (sym p.0) ∙ ap (λ x. line e.object x e.stamp c) (sym p.1)), renumbered_same c es))
    (λ _. (inl refl, renumbered_marked c o j es))

renumbered_of : (c o j : ℕ) (e f : Listed) → Renumbered c e f → is_of o j f ≡ is_of o j e
renumbered_of c o j e f r = ⊎_elim (λ q. ap (is_of o j) q) (λ q. ap (is_of o j) q) r

renumbered_listed : (c o j : ℕ) (es fs : List Listed) → AllZip (Renumbered c) es fs → listed o j fs ≡ listed o j es
unfolding listed
renumbered_listed c o j [] [] r = refl
renumbered_listed c o j [] (f ∷ fs) r = absurd r
renumbered_listed c o j (e ∷ es) [] r = absurd r
renumbered_listed c o j (e ∷ es) (f ∷ fs) r = ap (λ b. b || listed o j fs) (renumbered_of c o j e f r.0) ∙ ap (λ b. is_of o j e || b) (renumbered_listed c o j es fs r.1)

renumbered_head : (c : ℕ) (e f : Listed) → Renumbered c e f → (f.object ≡ e.object) × (f.holder ≡ e.holder)
renumbered_head c e f r = ⊎_elim (λ q. (ap (λ (x : Listed). x.object) q, ap (λ (x : Listed). x.holder) q)) (λ q. (ap (λ (x : Listed). x.object) q, ap (λ (x : Listed). x.holder) q)) r

renumbered_single : (c : ℕ) (es fs : List Listed) → AllZip (Renumbered c) es fs → Single es → Single fs
renumbered_single c [] [] r s = tt
renumbered_single c [] (f ∷ fs) r s = absurd r
renumbered_single c (e ∷ es) [] r s = absurd r
renumbered_single c (e ∷ es) (f ∷ fs) r s =
    let h = renumbered_head c e f r.0 in
    (ap (λ o. listed o f.holder fs) h.0 ∙ ap (λ j. listed e.object j fs) h.1 ∙ renumbered_listed c e.object e.holder es fs r.1 ∙ s.0, renumbered_single c es fs r.1 s.1)

line_later : (here n b c : ℕ) (e : Listed) → b ≤ c → SoundLine here n b e → SoundLine here n c e
line_later here n b c e l w = record { own = w.own; named = w.named; near = w.near; apart = w.apart; stamp = w.stamp; census = let k = w.census in omega arith }

line_renumbered : (here n b c : ℕ) (e f : Listed) → b ≤ c → SoundLine here n b e → Renumbered c e f → SoundLine here n c f
line_renumbered here n b c e f l w r = ⊎_elim
    (λ q. subst (SoundLine here n c) (sym q) (line_later here n b c e l w))
    (λ q. subst (SoundLine here n c) (sym q) (record { own = w.own; named = w.named; near = w.near; apart = w.apart; stamp = w.stamp; census = omega arith }))
    r

lines_renumbered : (here n b c : ℕ) (es fs : List Listed) → b ≤ c → AllByRecursion (SoundLine here n b) es → AllZip (Renumbered c) es fs → AllByRecursion (SoundLine here n c) fs
lines_renumbered here n b c [] [] l a r = tt
lines_renumbered here n b c [] (f ∷ fs) l a r = absurd r
lines_renumbered here n b c (e ∷ es) [] l a r = absurd r
lines_renumbered here n b c (e ∷ es) (f ∷ fs) l a r = (line_renumbered here n b c e f l a.0 r.0, lines_renumbered here n b c es fs l a.1 r.1)

list_renumbered : (here n b c : ℕ) (es fs : List Listed) → b ≤ c → SoundList here n b es → AllZip (Renumbered c) es fs → SoundList here n c fs
list_renumbered here n b c es fs l s r = record {
  few = omega (arith, length_all_zip (Renumbered c) es fs r, s.few);
  lines = all_mem (SoundLine here n c) fs (lines_renumbered here n b c es fs l (mem_all (SoundLine here n b) es s.lines) r);
  once = renumbered_single c es fs r s.once;
}

pub list_joined : (here n b c : ℕ) (heard : ℕ → ℕ) (es : List Listed) → b ≤ c → SoundList here n b es → SoundList here n c (joined c heard es)
list_joined here n b c heard es l s = list_renumbered here n b c es (joined c heard es) l s (renumbered_joined c heard es)

pub list_marked : (here n c o j : ℕ) (es : List Listed) → SoundList here n c es → SoundList here n c (marked c o j es)
list_marked here n c o j es s = list_renumbered here n c c es (marked c o j es) (omega arith) s (renumbered_marked c o j es)

stale_own : (o j s c : ℕ) (es : List Listed) → stale c (line o j s c ∷ es) ≡ stale c es
stale_own o j s c es = rw (eq-eqb c c refl) (omega arith)

newly_found : (c o j : ℕ) (e : Listed) (es : List Listed) → is_of o j e ≡ true → newly c o j (e ∷ es) ≤ cond (eqb e.census c) 0 1
unfolding listed listed_in
newly_found c o j e es t = by_cases (eqb e.census c)
    (λ u. rw (t, u) (omega arith))
    (λ u. rw (t, u) (cond_both (not (listed_in c o j es)) 1 0 (λ k. k ≤ 1) (λ _. omega arith) (λ _. omega arith)))

newly_later : (c o j : ℕ) (e : Listed) (es : List Listed) → is_of o j e ≡ false → newly c o j (e ∷ es) ≡ newly c o j es
unfolding listed listed_in
newly_later c o j e es t = rw t

-- a mark that is counted makes one stale line less
pub stale_marked : (c o j : ℕ) (es : List Listed) → newly c o j es + stale c (marked c o j es) ≤ stale c es
unfolding listed listed_in marked
stale_marked c o j [] = omega arith
stale_marked c o j (e ∷ es) =
    let i = stale_marked c o j es in
    let x = line o j e.stamp c in
    by_cases (is_of o j e)
    (λ t. omega (arith, newly_found c o j e es t, ap (stale c) (cond-true (is_of o j e) (x ∷ es) (e ∷ marked c o j es) t) ∙ stale_own o j e.stamp c es))
    (λ t. omega (arith, newly_later c o j e es t, ap (stale c) (cond-false (is_of o j e) (x ∷ es) (e ∷ marked c o j es) t)))

module _ (o j s c : ℕ) where
  sound_entered_all : (P : Listed → Type 0) (es : List Listed) → P (line o j s c) → AllByRecursion P es → AllByRecursion P (entered o j s c es)
  unfolding entered
  sound_entered_all P [] p a = (p, tt)
  sound_entered_all P (e ∷ es) p a = cond_both (is_of o j e) (line o j s c ∷ es) (e ∷ entered o j s c es) (AllByRecursion P) (λ _. (p, a.1)) (λ _. (a.0, sound_entered_all P es p a.1))

  length_entered : (es : List Listed) → length (entered o j s c es) ≤ length es + 1
  unfolding entered
  length_entered [] = omega arith
  length_entered (e ∷ es) = let i = length_entered es in cond_both (is_of o j e) (line o j s c ∷ es) (e ∷ entered o j s c es) (λ fs. length fs ≤ length (e ∷ es) + 1) (λ _. omega arith) (λ _. omega arith)

  length_found : (es : List Listed) → listed o j es ≡ true → length (entered o j s c es) ≤ length es
  unfolding entered listed
  length_found [] t = absurd (both_ways false refl t)
  length_found (e ∷ es) t =
      cond_both (is_of o j e) (line o j s c ∷ es) (e ∷ entered o j s c es) (λ fs. length fs ≤ length (e ∷ es))
      (λ _. omega arith)
      (λ f. let i = length_found es (⊎_elim (λ u. absurd (both_ways (is_of o j e) f u)) (λ u. u) (or_cases (is_of o j e) (listed o j es) t)) in omega arith)

  other_line : (p q : ℕ) → (o ≡ p → j ≡ q → ⊥) → is_of p q (line o j s c) ≡ false
  other_line p q ne = ⊎_elim (λ t. let w = is_of_line p q (line o j s c) t in absurd (ne w.0 w.1)) (λ f. f) (cases_Bool (is_of p q (line o j s c)))

  listed_entered : (p q : ℕ) (es : List Listed) → (o ≡ p → j ≡ q → ⊥) → listed p q es ≡ false → listed p q (entered o j s c es) ≡ false
  unfolding entered listed
  listed_entered p q [] ne f = or_from (is_of p q (line o j s c)) false (other_line p q ne) refl
  listed_entered p q (e ∷ es) ne f =
      let w = or_parts (is_of p q e) (listed p q es) f in
      cond_both (is_of o j e) (line o j s c ∷ es) (e ∷ entered o j s c es) (λ fs. listed p q fs ≡ false)
      (λ _. or_from (is_of p q (line o j s c)) (listed p q es) (other_line p q ne) w.1)
      (λ _. or_from (is_of p q e) (listed p q (entered o j s c es)) w.0 (listed_entered p q es ne w.1))

  single_entered : (es : List Listed) → Single es → Single (entered o j s c es)
  unfolding entered listed
  single_entered [] w = (refl, tt)
  single_entered (e ∷ es) w =
      cond_both (is_of o j e) (line o j s c ∷ es) (e ∷ entered o j s c es) Single
      (λ t. let p = is_of_line o j e t in (ap (λ x. listed x j es) (sym p.0) ∙ ap (λ x. listed e.object x es) (sym p.1) ∙ w.0, w.1))
      (λ f. (listed_entered e.object e.holder es (λ p q. both_ways (is_of o j e) f (ap (λ x. is_of x j e) p ∙ ap (λ x. is_of e.object x e) q ∙ of_itself e)) w.0, single_entered es w.1))

  pub stale_entered : (es : List Listed) → stale c (entered o j s c es) ≤ stale c es
  unfolding entered
  stale_entered [] = omega (arith, stale_own o j s c [])
  stale_entered (e ∷ es) =
      let i = stale_entered es in
      cond_both (is_of o j e) (line o j s c ∷ es) (e ∷ entered o j s c es) (λ fs. stale c fs ≤ stale c (e ∷ es)) (λ _. omega (arith, stale_own o j s c es)) (λ _. omega arith)

  pub list_entered : (here n : ℕ) (es : List Listed) → fits o j es 2048 ≡ true → SoundLine here n c (line o j s c) → SoundList here n c es → SoundList here n c (entered o j s c es)
  list_entered here n es room new w = record {
    few = ⊎_elim
        (λ t. omega (arith, length_found es t, w.few))
        (λ t. omega (arith, length_entered es, ltb-true (length es) 2048 t))
        (or_cases (listed o j es) (ltb (length es) 2048) room);
    lines = all_mem (SoundLine here n c) (entered o j s c es) (sound_entered_all (SoundLine here n c) es new (mem_all (SoundLine here n c) es w.lines));
    once = single_entered es w.once;
  }

-- the objects of lines are named
objects_named : (here n b c q : ℕ) (es : List Listed) → AllByRecursion (SoundLine here n b) es → is_in q (objects_in c es) ≡ true → Named n (name q)
unfolding objects_in
objects_named here n b c q [] a e = in_none q e
objects_named here n b c q (x ∷ es) a e =
    cond_both (eqb x.census c) (x.object ∷ objects_in c es) (objects_in c es) (λ os. is_in q os ≡ true → Named n (name q))
    (λ _ g. ⊎_elim (λ u. subst (λ z. Named n (name z)) (eqb-true x.object q u) a.0.named) (λ u. objects_named here n b c q es a.1 u) (or_cases (eqb x.object q) (is_in q (objects_in c es)) g))
    (λ _ g. objects_named here n b c q es a.1 g)
    e

pub list_named : (here n b c : ℕ) (es : List Listed) → SoundList here n b es → (q : ℕ) → is_in q (objects_in c es) ≡ true → Named n (name q)
list_named here n b c es s q e = objects_named here n b c q es (mem_all (SoundLine here n b) es s.lines) e
