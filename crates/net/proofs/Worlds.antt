-- The houses of a row, one of them changed.
use Rattle.std.proofs.Common.{◌≡◌, ℕ, ◌<◌, Bool, true, false, cond, eqb, List, map, length, get_or, set, sym, refl, ap, ◌∙◌, subst}
use mathlib.Core.Path.{fun_ext}
use Rattle.std.proofs.lemmas.List.{map-set, get_or-map, length-set, get_or-set_same, get_or-set_other}
use Rattle.std.proofs.lemmas.Bool.{eqb-true, eqb-false}
use Rattle.rules.specs.House.{House, empty}
use Rattle.rules.specs.Step.{Event}
use Rattle.node.specs.Shown.{Answer, Answers}
use Rattle.play.specs.Play.{put}
use Rattle.store.specs.declared.table.Store.{Store}
use Rattle.store.specs.Stores.{house_in}
use Rattle.net.specs.Worlds.{houses_of}

pub at_row : (hs : List Store) (i : ℕ) (d : Store) → i < length hs → houses_of hs i ≡ house_in (get_or hs i d)
at_row hs i d lt = get_or-map house_in hs i d (empty i (length hs)) lt

module _ (hs : List Store) (i : ℕ) (t : Store) (lt : i < length hs) where
  changed_here : houses_of (set hs i t) i ≡ house_in t
  changed_here = at_row (set hs i t) i t (subst (λ (k : ℕ). i < k) (sym (length-set hs i t)) lt) ∙ ap house_in (get_or-set_same hs i t t lt)

  pub others : houses_of (set hs i t) ≡ put i (houses_of (set hs i t) i) (houses_of hs)
  others = fun_ext (λ k. go k (eqb k i) refl)
    where
      go : (k : ℕ) (b : Bool) → eqb k i ≡ b → houses_of (set hs i t) k ≡ cond b (houses_of (set hs i t) i) (houses_of hs k)
      go k true e = ap (houses_of (set hs i t)) (eqb-true k i e)
      go k false e =
          ap (λ (n : ℕ). get_or (map house_in (set hs i t)) k (empty k n)) (length-set hs i t) ∙ ap (λ (xs : List House). get_or xs k (empty k (length hs))) (map-set house_in hs i t) ∙ get_or-set_other (map house_in hs) i k (house_in t) (empty k (length hs)) (eqb-false k i e)

  pub does_at : (d : Store) (a : Answer) (e : Event) → Answers a e (house_in (get_or hs i d)) (house_in t) → Answers a e (houses_of hs i) (houses_of (set hs i t) i)
  does_at d a e s = subst (λ (x : House). Answers a e x (houses_of (set hs i t) i)) (sym (at_row hs i d lt)) (subst (λ (x : House). Answers a e (house_in (get_or hs i d)) x) (sym changed_here) s)
