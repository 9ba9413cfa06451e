-- Stamps, the part in a census and the rounds stay within their limits.
use Rattle.std.proofs.Common.{◌≡◌, ℕ, zero, suc, ◌+◌, ◌^◌, ◌<◌, max, Bool, true, false, ◌&&◌, eqb, ltb, ◌⊎◌, List, [], ◌∷◌, get_or, set, replicate, sym, refl, ap, ◌∙◌, ⊎_elim, arith}
use Rattle.std.proofs.lemmas.List.{length-set}
use Rattle.std.proofs.lemmas.Bool.{both_ways, and_parts, cond_both, ltb-true}
use Rattle.wire.specs.Names.{home, name}
use Rattle.wire.specs.Laws.{Named}
use Rattle.tables.specs.Model.{is_in, rising}
use Rattle.lines.specs.Stamping.{unstamped, heard_from, with_given, with_seen, with_heard}
use Rattle.lines.specs.declared.stamps.Stamps.{Stamps}
use Rattle.census.specs.Model.{Part, fresh, with_told, settled, counting, stirring, hearing, telling, polling, replied, due_of}
use Rattle.census.specs.Laws.{IsTold}
use Rattle.census.proofs.Settling.{names_settled}
use Rattle.census.proofs.Entering.{rising_entered_all}
use Rattle.census.proofs.Laws.{laws}
use Rattle.rounds.specs.Model.{Desk, idle, next, begun, noted, notes, ready, said}
use Rattle.rules.specs.Step.{heard_stamp}
use Rattle.rules.specs.Sound.{SoundStamps, SoundPart, SoundDesk}

set_under : (b : ℕ) (xs : List ℕ) (i v : ℕ) → v < b → ((k : ℕ) → get_or xs k 0 < b) → (j : ℕ) → get_or (set xs i v) j 0 < b
set_under b [] i v l f j = f j
set_under b (x ∷ xs) zero v l f zero = l
set_under b (x ∷ xs) zero v l f (suc j) = f (suc j)
set_under b (x ∷ xs) (suc i) v l f zero = f zero
set_under b (x ∷ xs) (suc i) v l f (suc j) = set_under b xs i v l (λ k. f (suc k)) j

zeros : (n j : ℕ) → ◌≡◌ {A = ℕ} (get_or (replicate n 0) j 0) 0
zeros zero j = refl
zeros (suc n) zero = refl
zeros (suc n) (suc j) = zeros n j

pub stamps_new : SoundStamps unstamped
stamps_new = record {
  given_long = refl;
  seen_long = refl;
  heard_long = refl;
  given = λ j. omega (arith, zeros 16 j);
  seen = λ j. omega (arith, zeros 16 j);
  heard = λ j. omega (arith, zeros 16 j);
}

module _ (st : Stamps) (w : SoundStamps st) (j s : ℕ) (l : s < 2 ^ 32) where
  pub stamps_given : SoundStamps (with_given st j s)
  stamps_given = record {
    given_long = length-set st.given j s ∙ w.given_long;
    seen_long = w.seen_long;
    heard_long = w.heard_long;
    given = set_under (2 ^ 32) st.given j s l w.given;
    seen = w.seen;
    heard = w.heard;
  }

  pub stamps_seen : SoundStamps (with_seen st j s)
  stamps_seen = record {
    given_long = w.given_long;
    seen_long = length-set st.seen j s ∙ w.seen_long;
    heard_long = w.heard_long;
    given = w.given;
    seen = set_under (2 ^ 32) st.seen j s l w.seen;
    heard = w.heard;
  }

  stamps_heard_at : SoundStamps (with_heard st j s)
  stamps_heard_at = record {
    given_long = w.given_long;
    seen_long = w.seen_long;
    heard_long = length-set st.heard j s ∙ w.heard_long;
    given = w.given;
    seen = w.seen;
    heard = set_under (2 ^ 32) st.heard j s l w.heard;
  }

greater_under : (a b c : ℕ) → a < c → b < c → max a b < c
greater_under a b c p q = omega arith

pub stamps_heard : (st : Stamps) → SoundStamps st → (j s : ℕ) → s < 2 ^ 32 → SoundStamps (heard_stamp j s st)
stamps_heard st w j s l =
    cond_both (ltb j 16) (with_heard st j (max (heard_from st j) s)) st SoundStamps
    (λ _. stamps_heard_at st w j (max (heard_from st j) s) (greater_under (heard_from st j) s (2 ^ 32) (w.heard j) l))
    (λ _. w)

pub part_fresh : (here n c : ℕ) → c < 2 ^ 32 → SoundPart here n (fresh c)
part_fresh here n c l = record { census = l; order = refl; named = λ o e. absurd (both_ways false refl e); far = λ o e. absurd (both_ways false refl e) }

module _ (here n : ℕ) (p : Part) (w : SoundPart here n p) where
  pub part_counting : (k : ℕ) → SoundPart here n (counting k p)
  part_counting k = record { census = w.census; order = w.order; named = w.named; far = w.far }

  pub part_stirring : SoundPart here n (stirring p)
  part_stirring = record { census = w.census; order = w.order; named = w.named; far = w.far }

  pub part_replied : (c r : ℕ) → SoundPart here n (replied c r p)
  part_replied c r = cond_both (eqb c p.census) (polling r p) p (SoundPart here n) (λ _. record { census = w.census; order = w.order; named = w.named; far = w.far }) (λ _. w)

  pub part_heard : (c o : ℕ) → SoundPart here n (hearing c o p)
  part_heard c o =
      let ns = names_settled o p.told in
      cond_both (eqb c p.census) (with_told (settled o p.told) p) p (SoundPart here n)
      (λ _. record { census = w.census; order = ap rising ns ∙ w.order; named = λ q e. w.named q (ap (is_in q) (sym ns) ∙ e); far = λ q e. w.far q (ap (is_in q) (sym ns) ∙ e) })
      (λ _. w)

  module _ (us : List ℕ) (f : (o : ℕ) → is_in o us ≡ true → (home o ≡ here → ⊥) × Named n (name o)) where
    use_or_told : (o : ℕ) → (is_in o us ≡ true) ⊎ IsTold o p → (home o ≡ here → ⊥) × Named n (name o)
    use_or_told o q = ⊎_elim (λ u. f o u) (λ u. (w.far o u, w.named o u)) q

    pub part_tells : SoundPart here n (telling us p)
    part_tells = record {
      census = w.census;
      order = rising_entered_all us p.told w.order;
      named = λ o e. (use_or_told o ((laws.tells us o p).0.0 e)).1;
      far = λ o e. (use_or_told o ((laws.tells us o p).0.0 e)).0;
    }

    -- what is sent then
    pub due_named : (o : ℕ) → is_in o (due_of us p) ≡ true → Named n (name o)
    due_named o e = (use_or_told o ((laws.due us p w.order).only o e).0).1

pub desk_idle : SoundDesk idle
desk_idle = record { round = omega arith; now = refl; before = refl }

round_fits : (r : ℕ) → ltb r 4294967295 ≡ true → r + 1 < 2 ^ 32
round_fits r t = let l = ltb-true r 4294967295 t in omega arith

module _ (d : Desk) (w : SoundDesk d) where
  pub desk_begun : (n : ℕ) → SoundDesk (begun n d)
  desk_begun n =
      cond_both (ready n d && ltb d.round 4294967295) (next d) d SoundDesk
      (λ t. record { round = round_fits d.round (and_parts (ready n d) (ltb d.round 4294967295) t).1; now = refl; before = w.now })
      (λ _. w)

  pub desk_noted : (r i : ℕ) (calm : Bool) (t : ℕ) → SoundDesk (noted r i calm t d)
  desk_noted r i calm t =
      cond_both (notes r i d) (record { round = d.round; now = set d.now i (said calm t); before = d.before }) d SoundDesk
      (λ _. record { round = w.round; now = length-set d.now i (said calm t) ∙ w.now; before = w.before })
      (λ _. w)
