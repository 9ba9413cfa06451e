-- Where entries broke off, so did those that begin with them or go on to them.
use Rattle.std.proofs.Common.{◌≡◌, ℕ, zero, suc, ◌≤◌, List, [], ◌∷◌, ◌++◌, map, sym, refl, ap, ◌∙◌, subst, ⊎_elim, arith}
use Rattle.std.proofs.lemmas.List.{map-append}
use Rattle.std.proofs.lemmas.Bool.{cases_eq}
use Rattle.play.specs.Play.{World, Entry, play, plays, delivers}
use Rattle.play.specs.Settle.{below, delivery, each}
use Rattle.net.specs.Settling.{BrokenOff, short, lost, later}

pub broken_front : (n : ℕ) (es fs : List Entry) {w v : World} → BrokenOff n es w v → BrokenOff n (es ++ fs) w v
broken_front n [] fs {w = w} {v = v} b = elim b [ ]
broken_front n (e ∷ es) fs (short a b) = short a b
broken_front n (e ∷ es) fs (lost a) = lost a
broken_front n (e ∷ es) fs (later b) = later (broken_front n es fs b)

pub broken_after : (n : ℕ) (es fs : List Entry) (w : World) {v : World} → BrokenOff n fs (plays n es w) v → BrokenOff n (es ++ fs) w v
broken_after n [] fs w b = b
broken_after n (e ∷ es) fs w b = later (broken_after n es fs (play n e w) b)

-- at the houses below k, and so at those below m
pub broken_each : (n : ℕ) (f : ℕ → World → List Entry) (k m : ℕ) (w : World) {v : World} → k ≤ m → BrokenOff n (each n f k w) w v → BrokenOff n (each n f m w) w v
broken_each n f k zero w {v} l b = subst (λ (j : ℕ). BrokenOff n (each n f j w) w v) (none l) b
  where
    none : {a : ℕ} → a ≤ 0 → a ≡ 0
    none q = omega arith
broken_each n f k (suc m) w {v} l b =
    ⊎_elim (λ e. subst (λ (j : ℕ). BrokenOff n (each n f j w) w v) e b) (λ d. broken_front n (each n f m w) (f m (plays n (each n f m w) w)) (broken_each n f k m w (less l d) b)) (cases_eq k (suc m))
  where
    less : {a c : ℕ} → a ≤ suc c → (a ≡ suc c → ⊥) → a ≤ c
    less q p = omega arith

-- a message to each house
pub to_each : (n m k : ℕ) (w : World) → each n (λ i v. delivers i m ∷ []) k w ≡ map (delivery m) (below k)
to_each n m zero w = refl
to_each n m (suc k) w = ap (λ (es : List Entry). es ++ (delivers k m ∷ [])) (to_each n m k w) ∙ sym (map-append (delivery m) (below k) (k ∷ []))
