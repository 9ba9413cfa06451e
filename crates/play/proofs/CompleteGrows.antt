-- What the tellings of a census make of a house: its objects stay, its tally only grows, and while it stays what is in use does.
use Rattle.std.proofs.Common.{◌≡◌, ℕ, ◌+◌, ◌≤◌, Bool, true, false, cond, not, ◌&&◌, ◌||◌, eqb, List, [], ◌∷◌, sym, refl, ap, ◌∙◌, ⊎_elim, arith}
use Rattle.std.proofs.lemmas.Bool.{and_parts, or_cases, or_left, cond-true, cond-false, eqb-true, eq-eqb, both_ways, cases_Bool}
use Rattle.tables.specs.Model.{Heap}
use Rattle.objects.specs.Executed.{names_in_use}
use Rattle.lines.specs.Listed.{Listed, line, is_of, listed, listed_in, marked, objects_in}
use Rattle.lines.proofs.Marks.{listed_in_none}
use Rattle.rules.specs.House.{House, census}
use Rattle.rules.specs.Step.{used, newly, marks}
use Rattle.rules.specs.Sound.{Single, Sound}
use Rattle.rules.proofs.Sound.{marks_counted}

found : (a b : Bool) → ◌≡◌ {A = ℕ} (cond (a && not b) 1 0) 0 → a ≡ true → b ≡ true
found true true e p = refl
found true false e p = absurd (one e)
  where
    one : ◌≡◌ {A = ℕ} 1 0 → ⊥
    one z = omega arith
found false b e p = absurd (both_ways false refl p)

-- a line that had the number already keeps it
objects_marked : (c o j : ℕ) (es : List Listed) → Single es → newly c o j es ≡ 0 → objects_in c (marked c o j es) ≡ objects_in c es
unfolding listed listed_in marked objects_in
objects_marked c o j [] s z = refl
objects_marked c o j (e ∷ es) s z = ⊎_elim here (λ t. later t (λ less. objects_marked c o j es s.1 less)) (cases_Bool (is_of o j e))
  where
    later : is_of o j e ≡ false → (newly c o j es ≡ 0 → objects_in c (marked c o j es) ≡ objects_in c es) → objects_in c (marked c o j (e ∷ es)) ≡ objects_in c (e ∷ es)
    later t again =
        let less : newly c o j es ≡ 0 = ap (λ (b : Bool). cond ((b || listed o j es) && not ((b && eqb e.census c) || listed_in c o j es)) 1 0) (sym t) ∙ z in
        ap (objects_in c) (cond-false (is_of o j e) (line o j e.stamp c ∷ es) (e ∷ marked c o j es) t) ∙ ap (λ (os : List ℕ). cond (eqb e.census c) (e.object ∷ os) os) (again less)

    here : is_of o j e ≡ true → objects_in c (marked c o j (e ∷ es)) ≡ objects_in c (e ∷ es)
    here t =
        let p = and_parts (eqb e.object o) (eqb e.holder j) t in
        let x = eqb-true e.object o p.0 in
        let y = eqb-true e.holder j p.1 in
        let none : listed o j es ≡ false = ap (λ (k : ℕ). listed k j es) (sym x) ∙ ap (λ (k : ℕ). listed e.object k es) (sym y) ∙ s.0 in
        let both = found (is_of o j e || listed o j es) ((is_of o j e && eqb e.census c) || listed_in c o j es) z (or_left (is_of o j e) (listed o j es) t) in
        let own : eqb e.census c ≡ true = ⊎_elim (λ q. (and_parts (is_of o j e) (eqb e.census c) q).1) (λ q. absurd (both_ways (listed_in c o j es) (listed_in_none c o j es none) q)) (or_cases (is_of o j e && eqb e.census c) (listed_in c o j es) both) in
        ap (objects_in c) (cond-true (is_of o j e) (line o j e.stamp c ∷ es) (e ∷ marked c o j es) t)
        ∙ cond-true (eqb c c) (o ∷ objects_in c es) (objects_in c es) (eq-eqb c c refl)
        ∙ ap (λ (k : ℕ). k ∷ objects_in c es) (sym x)
        ∙ sym (cond-true (eqb e.census c) (e.object ∷ objects_in c es) (objects_in c es) own)

pub record Grows (h g : House) : Type 0 where
  pub heap : g.heap ≡ h.heap
  pub desk : g.desk ≡ h.desk
  pub census : census g ≡ census h
  pub stirred : g.part.stirred ≡ h.part.stirred
  pub tally : h.part.tally ≤ g.part.tally
  pub same : h.part.tally ≡ g.part.tally → objects_in h.part.census g.list ≡ objects_in h.part.census h.list

pub grows_refl : (h : House) → Grows h h
grows_refl h = record { heap = refl; desk = refl; census = refl; stirred = refl; tally = omega arith; same = λ _. refl }

pub between : (a b c : ℕ) → a ≤ b → b ≤ c → a ≡ c → (a ≡ b) × (b ≡ c)
between a b c p q e = (omega arith, omega arith)

over : {a b c : ℕ} → a ≤ b → b ≤ c → a ≤ c
over p q = omega arith

pub grows_on : (h g f : House) → Grows h g → Grows g f → Grows h f
grows_on h g f p q =
    record {
      heap = q.heap ∙ p.heap;
      desk = q.desk ∙ p.desk;
      census = q.census ∙ p.census;
      stirred = q.stirred ∙ p.stirred;
      tally = over p.tally q.tally;
      same = λ e. let z = between h.part.tally g.part.tally f.part.tally p.tally q.tally e in
          ap (λ (k : ℕ). objects_in k f.list) (sym p.census) ∙ q.same z.1 ∙ ap (λ (k : ℕ). objects_in k g.list) p.census ∙ p.same z.0;
    }

-- a telling comes
pub grows_marks : (o j : ℕ) (h : House) → Sound h → Grows h (marks (census h) o j h)
grows_marks o j h s =
    let e = marks_counted o j h s in
    record {
      heap = refl;
      desk = refl;
      census = refl;
      stirred = refl;
      tally = more h.part.tally (newly (census h) o j h.list) (marks (census h) o j h).part.tally e;
      same = λ z. objects_marked (census h) o j h.list s.list.once (none h.part.tally (newly (census h) o j h.list) (marks (census h) o j h).part.tally e z);
    }
  where
    more : (a b c : ℕ) → c ≡ a + b → a ≤ c
    more a b c e = omega arith

    none : (a b c : ℕ) → c ≡ a + b → a ≡ c → b ≡ 0
    none a b c e z = omega arith

-- what is in use goes by the objects and the lines of the census
used_by : (heap1 heap2 : Heap) (c : ℕ) (es fs : List Listed) → heap2 ≡ heap1 → objects_in c fs ≡ objects_in c es → names_in_use (objects_in c fs) heap2 ≡ names_in_use (objects_in c es) heap1
used_by heap1 heap2 c es fs e f = ap (λ (x : Heap). names_in_use (objects_in c fs) x) e ∙ ap (λ (x : List ℕ). names_in_use x heap1) f

pub used_same : (h g : House) → Grows h g → h.part.tally ≡ g.part.tally → used g ≡ used h
used_same h g p e = ap (λ (k : ℕ). names_in_use (objects_in k g.list) g.heap) p.census ∙ used_by h.heap g.heap (census h) h.list g.list p.heap (p.same e)
