-- The objects of the lines that pass a test, gathered one by one.
use Rattle.std.proofs.Common.{◌≡◌, ℕ, ◌+◌, ◌<◌, ◌≤◌, Bool, true, false, cond, ◌==◌, List, [], ◌∷◌, ◌++◌, map, length, take, set, sym, refl, ap, ◌∙◌, subst, arith, length-set}
use Rattle.std.proofs.lemmas.List.{take_more_set, map-append}
use Rattle.std.specs.List.{filter}
use Rattle.wire.specs.Names.{name}
use Rattle.wire.specs.declared.names.Name.{Name}
use Rattle.lines.specs.Listed.{Listed, objects_listed, objects_in}
use Rattle.lines.specs.Columns.{rows}
use Rattle.lines.specs.Lists.{shown, Decides}
use Rattle.lines.specs.declared.line.Line.{Line}
use Rattle.lines.proofs.Rows.{passed, failed}

abbrev pub names : List Listed → List Name
names = map (λ e. name e.object)

-- the rows have been gone through up to place i, and the objects of the k that passed are gathered in xs
pub record Gathering (post : Line → Bool → Type 0) (f : ℕ → Listed) (i k : ℕ) (xs : List Name) : Type 0 where
  pub long : length xs ≡ 2048
  pub behind : k ≤ i
  pub gathered : (p : Listed → Bool) → Decides post p → take k xs ≡ names (filter p (rows f 0 i))

module _ {post : Line → Bool → Type 0} {f : ℕ → Listed} where
  module _ {i k : ℕ} {xs : List Name} (w : Gathering post f i k xs) (l : Line) (is : l ≡ shown (f i)) where
    told : (p : Listed → Bool) → Decides post p → (b : Bool) → post l b → p (f i) ≡ b
    told p d b r = sym (d (f i) b (subst (λ x. post x b) is r))

    pub gathering_more : i < 2048 → post l true → Gathering post f (i + 1) (k + 1) (set xs k l.object)
    gathering_more few r =
        let here : k < length xs = omega (arith, w.long, w.behind) in
        let gathered = λ (p : Listed → Bool). filter p (rows f 0 i) in
        record {
          long = length-set xs k l.object ∙ w.long;
          behind = omega (arith, w.behind);
          gathered = λ p d.
              take_more_set xs k l.object here ∙ ap (λ r. r ++ l.object ∷ []) (w.gathered p d) ∙ ap (λ o. names (gathered p) ++ o ∷ []) (ap (λ x. x.object) is)
              ∙ sym (map-append (λ e. name e.object) (gathered p) (f i ∷ [])) ∙ ap names (sym (passed p f i (told p d true r)));
        }

    pub gathering_same : post l false → Gathering post f (i + 1) k xs
    gathering_same r = record {
      long = w.long;
      behind = omega (arith, w.behind);
      gathered = λ p d. w.gathered p d ∙ ap names (sym (failed p f i (told p d false r)));
    }

  pub gathering_all : {i k : ℕ} {xs : List Name} (n : ℕ) → Gathering post f i k xs → n ≤ i → i ≤ n → (p : Listed → Bool) → Decides post p → take k xs ≡ names (filter p (rows f 0 n))
  gathering_all {i} n w h l p d = let e : i ≡ n = omega arith in w.gathered p d ∙ ap (λ k. names (filter p (rows f 0 k))) e

pub names_listed : (es : List Listed) → names (filter (λ e. true) es) ≡ map name (objects_listed es)
unfolding objects_listed
names_listed [] = refl
names_listed (e ∷ es) = ap (λ r. name e.object ∷ r) (names_listed es)

pub names_in : (c : ℕ) (es : List Listed) → names (filter (λ e. e.census == c) es) ≡ map name (objects_in c es)
unfolding objects_in
names_in c [] = refl
names_in c (e ∷ es) =
    elim (e.census == c) as (λ b. names (cond b (e ∷ filter (λ x. x.census == c) es) (filter (λ x. x.census == c) es)) ≡ map name (cond b (e.object ∷ objects_in c es) (objects_in c es)))
    [ true ↦ ap (λ r. name e.object ∷ r) (names_in c es) | false ↦ names_in c es ]
