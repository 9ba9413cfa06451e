-- The laws of hearing, entering, joining and sweeping.
use Rattle.std.proofs.Common.{◌≡◌, ℕ, ◌<◌, true, false, cond, ◌&&◌, eqb, ltb, leb, List, [], ◌∷◌, sym, refl, ap, ◌∙◌, subst, ⊎_elim, arith}
use mathlib.Core.List.Memᴰ
use mathlib.Core.List.{Memᴰ}
use Rattle.std.proofs.lemmas.Bool.{cases_Bool, cond-true, cond-false, and_parts, leb-true, eq-eqb, ne_eqb}
use Rattle.std.specs.List.{AllByRecursion}
use Rattle.lines.specs.Listed.{Listed, line, is_of, goes, heard_of, swept, entered, joined}
use Rattle.lines.specs.Laws.{Again, Survives, Outlives, Raised, Raises, unheard, LeavesUnheard}

module _ (j : ℕ) (held : List ℕ) (upto : ℕ) where
  pub again : (es : List Listed) → Again j held upto (heard_of j held upto es)
  unfolding heard_of
  again [] = refl
  again (e ∷ es) =
      ⊎_elim
      (λ t. let r = cond-true (goes j held upto e) (heard_of j held upto es) (e ∷ heard_of j held upto es) t in ap (heard_of j held upto) r ∙ again es ∙ sym r)
      (λ t.
      let r = cond-false (goes j held upto e) (heard_of j held upto es) (e ∷ heard_of j held upto es) t in
      ap (heard_of j held upto) r
      ∙ cond-false (goes j held upto e) (heard_of j held upto (heard_of j held upto es)) (e ∷ heard_of j held upto (heard_of j held upto es)) t
      ∙ ap (λ l. e ∷ l) (again es) ∙ sym r)
      (cases_Bool (goes j held upto e))

  later_stays : (e : Listed) → upto < e.stamp → goes j held upto e ≡ true → ⊥
  later_stays e h t =
      let w = and_parts (eqb e.holder j && leb e.stamp upto) _ t in
      let v = and_parts (eqb e.holder j) (leb e.stamp upto) w.0 in
      let l = leb-true e.stamp upto v.1 in
      omega arith

  pub survives : (es : List Listed) → Survives upto es (heard_of j held upto es)
  unfolding heard_of
  survives [] e h m = absurd (Memᴰ.not-nil m)
  survives (x ∷ es) e h m =
      ⊎_elim
      (λ t.
      subst (Memᴰ e) (sym (cond-true (goes j held upto x) (heard_of j held upto es) (x ∷ heard_of j held upto es) t))
      (⊎_elim (λ q. absurd (later_stays x (subst (λ y. upto < y.stamp) q h) t)) (λ n. survives es e h n) (Memᴰ.cases_cons m)))
      (λ t.
      subst (Memᴰ e) (sym (cond-false (goes j held upto x) (heard_of j held upto es) (x ∷ heard_of j held upto es) t))
      (⊎_elim (λ q. Memᴰ.head q) (λ n. Memᴰ.tail (survives es e h n)) (Memᴰ.cases_cons m)))
      (cases_Bool (goes j held upto x))

module _ (o j s c : ℕ) where
  entered_there : (es : List Listed) → Memᴰ (line o j s c) (entered o j s c es)
  unfolding entered
  entered_there [] = Memᴰ.head refl
  entered_there (e ∷ es) =
      elim (is_of o j e) as (λ b. Memᴰ (line o j s c) (cond b (line o j s c ∷ es) (e ∷ entered o j s c es)))
      [ true ↦ Memᴰ.head refl | false ↦ Memᴰ.tail (entered_there es) ]

  pub outlives : (es : List Listed) → Outlives o j s c (entered o j s c es)
  outlives es held upto h = survives j held upto (entered o j s c es) (line o j s c) h (entered_there es)

module _ (c : ℕ) (heard : ℕ → ℕ) where
  pub raises : (es : List Listed) → Raises c es (joined c heard es)
  unfolding joined
  raises [] h = tt
  raises (e ∷ es) h = (
    elim (ltb (heard e.holder) e.stamp) as (λ b. Raised e (cond b (line e.object e.holder e.stamp c) e))
        [ true ↦ record { same = refl; number = h.0 } | false ↦ record { same = refl; number = omega arith } ],
    raises es h.1,
  )

  leaves : (es : List Listed) → AllByRecursion (λ e. e.census < c) es → swept c (joined c heard es) ≡ joined c heard (unheard heard es)
  unfolding joined swept unheard
  leaves [] h = refl
  leaves (e ∷ es) h =
      let H = ltb (heard e.holder) e.stamp in
      let X = line e.object e.holder e.stamp c in
      let S = swept c (joined c heard es) in
      let U = unheard heard es in
      let r = leaves es h.1 in
      ⊎_elim
      (λ t.
      ap (λ b. cond (eqb (cond b X e).census c) (cond b X e ∷ S) S) t ∙ cond-true (eqb c c) (X ∷ S) S (eq-eqb c c refl) ∙ ap (λ x. X ∷ x) r
      ∙ ap (λ y. y ∷ joined c heard U) (sym (cond-true H X e t)) ∙ ap (joined c heard) (sym (cond-true H (e ∷ U) U t)))
      (λ t.
      ap (λ b. cond (eqb (cond b X e).census c) (cond b X e ∷ S) S) t ∙ cond-false (eqb e.census c) (e ∷ S) S (ne_eqb e.census c (λ q. omega (arith, h.0))) ∙ r
      ∙ ap (joined c heard) (sym (cond-false H (e ∷ U) U t)))
      (cases_Bool H)

pub leaves_unheard : (c : ℕ) (es : List Listed) → LeavesUnheard c es (swept c es)
leaves_unheard c es heard before h e = ap (swept c) e ∙ leaves c heard before h
