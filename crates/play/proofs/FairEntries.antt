-- Lists of entries that are the collector's: the steps of the relation that they are, and that the same references matter after them.
use Rattle.std.proofs.Common.{◌≡◌, ℕ, zero, suc, ◌<◌, ◌≤◌, Bool, true, List, [], ◌∷◌, ◌++◌, sym, refl, subst, arith}
use Rattle.promise.specs.Rounds as promise
use Rattle.play.specs.Play.{World, Entry, play, plays}
use Rattle.play.specs.Seen.{seen}
use Rattle.play.specs.Promise.{SameMatters}
use Rattle.play.specs.Settle.{each}
use Rattle.play.specs.Exact.{AllCleaning}
use Rattle.play.proofs.Frame.{Deed, Way}
use Rattle.play.proofs.Tracking.{Kept, kept_play, deed_of, way_play}
use Rattle.play.proofs.Promise.{has_seen, has_back, way_nothing}

pub plays_append : (n : ℕ) (es fs : List Entry) (w : World) → plays n (es ++ fs) w ≡ plays n fs (plays n es w)
plays_append n [] fs w = refl
plays_append n (e ∷ es) fs w = plays_append n es fs (play n e w)

pub kept_plays : (n : ℕ) (es : List Entry) (w : World) → Kept n w → Kept n (plays n es w)
kept_plays n [] w k = k
kept_plays n (e ∷ es) w k = kept_plays n es (play n e w) (kept_play n e w k)

pub cleanly_append : (n : ℕ) (es fs : List Entry) (w : World) → AllCleaning n es w → AllCleaning n fs (plays n es w) → AllCleaning n (es ++ fs) w
cleanly_append n [] fs w c d = d
cleanly_append n (e ∷ es) fs w c d = (c.0, cleanly_append n es fs (play n e w) c.1 d)

way_on : {d : Deed} {cleaning : Bool} {n : ℕ} {a b c : promise.World} → Way Deed.any cleaning n a b → Way d cleaning n b c → Way Deed.any cleaning n a c
way_on l Way.same = l
way_on l (Way.more m t f s g) = Way.more (way_on l m) t (λ _. tt) (λ _. tt) g

pub way_plays : (n : ℕ) (es : List Entry) (w : World) → Kept n w → AllCleaning n es w → Way Deed.any true n (seen n w) (seen n (plays n es w))
way_plays n [] w k c = Way.same
way_plays n (e ∷ es) w k c =
    way_on (way_on Way.same (subst (λ (b : Bool). Way (deed_of n e w) b n (seen n w) (seen n (play n e w))) c.0 (way_play n e w k))) (way_plays n es (play n e w) (kept_play n e w k) c.1)

pub same_plays : (n : ℕ) (es : List Entry) (w : World) → Kept n w → AllCleaning n es w → SameMatters n w (plays n es w)
same_plays n es w k c j o =
    let z = way_nothing k.few k.runs (way_plays n es w k c) j o in
    (λ h. has_back n (plays n es w) (z.0 (has_seen n w h)), λ h. has_back n w (z.1 (has_seen n (plays n es w) h)))

-- the same at each house: the collector's, if it is at each
pub cleanly_each : (n : ℕ) (f : ℕ → World → List Entry) → ((i : ℕ) (v : World) → Kept n v → AllCleaning n (f i v) v) → (k : ℕ) (w : World) → Kept n w → AllCleaning n (each n f k w) w
cleanly_each n f g zero w x = tt
cleanly_each n f g (suc k) w x =
    cleanly_append n (each n f k w) (f k (plays n (each n f k w) w)) w (cleanly_each n f g k w x) (g k (plays n (each n f k w) w) (kept_plays n (each n f k w) w x))

-- and what each brings about, from what those before it have
pub each_brings : (n : ℕ) (P : ℕ → World → Type 0) (f : ℕ → World → List Entry) → ((i : ℕ) (v : World) → i < n → Kept n v → P i v → P (suc i) (plays n (f i v) v)) →
    (k : ℕ) (w : World) → Kept n w → P 0 w → k ≤ n → P k (plays n (each n f k w) w)
each_brings n P f g zero w x p l = p
each_brings n P f g (suc k) w x p l =
    let before = each n f k w in
    subst (λ (v : World). P (suc k) v) (sym (plays_append n before (f k (plays n before w)) w))
    (g k (plays n before w) l (kept_plays n before w x) (each_brings n P f g k w x p (less l)))
  where
    less : {a b : ℕ} → suc a ≤ b → a ≤ b
    less q = omega arith
