-- The collector's entries leave exactly what matters, if the census that all have joined ends with all lists swept.
use Rattle.std.proofs.Common.{◌≡◌, ℕ, ◌<◌, true, eqb, List, [], ◌∷◌, sym, refl, ◌∙◌, subst}
use Rattle.std.proofs.lemmas.Bool.{or_left, eq-eqb}
use Rattle.tables.specs.Model.{Object, present}
use Rattle.census.specs.Model as census
use Rattle.rules.specs.House as rules
use Rattle.play.specs.Play.{World, Entry, plays}
use Rattle.play.specs.Seen.{seen}
use Rattle.play.specs.Exact.{Joined, Swept, Exactly, LinesMatter, Settles, AlwaysSettles, NothingLeft}
use Rattle.play.specs.Settle.{words, joins, above, completing, collects, and_then, settling}
use Rattle.play.proofs.Tracking.{Kept, kept}
use Rattle.play.proofs.Promise.{has_there}
use Rattle.play.proofs.FairEntries.{plays_append, kept_plays, way_plays, same_plays}
use Rattle.play.proofs.FairPump.{cleanly_joins, cleanly_completing, cleanly_settling}
use Rattle.play.proofs.FairSteps.{Fairly}
use Rattle.play.proofs.FairWays.{fair_way, fair_first}
use Rattle.play.proofs.SettledWords.{words_parts, words_heard}
use Rattle.play.proofs.SettledJoins.{above_all, above_few, joins_all}
use Rattle.play.proofs.SettledCollects.{collects_all}

-- some entries, and what is then to be done, one after the other
then_plays : (n : ℕ) (w : World) (es : List Entry) (f : World → List Entry) → plays n (and_then n w es f) w ≡ plays n (f (plays n es w)) (plays n es w)
then_plays n w es f = plays_append n es (f (plays n es w)) w

-- a census that all have joined ends with all lists swept
abbrev pub Completes : Type 0
Completes = (n c : ℕ) (w : World) → 0 < n → Kept n w → Joined n c w → Swept n c (plays n (completing n w) w)

module _ (n : ℕ) (w : World) (some : 0 < n) (k : Kept n w) (low : (i : ℕ) → i < n → rules.census (w.house i) < 4294967295) where
  abbrev told : World
  told = plays n (words n w) w

  abbrev c : ℕ
  c = above n told

  abbrev joined : World
  joined = plays n (joins n c told) told

  abbrev ended : World
  ended = plays n (completing n joined) joined

  kept_told : Kept n told
  kept_told = kept_plays n (words n w) w k

  kept_joined : Kept n joined
  kept_joined = kept_plays n (joins n c told) told kept_told

  fair_told : Fairly n c (seen n told).net
  fair_told = fair_first c kept_told.runs (words_heard n w k) (above_all n told)

  fair_joined : Fairly n c (seen n joined).net
  fair_joined = fair_way kept_told.runs (way_plays n (joins n c told) told kept_told (cleanly_joins n c told kept_told)) fair_told

  fair_ended : Fairly n c (seen n ended).net
  fair_ended = fair_way kept_joined.runs (way_plays n (completing n joined) joined kept_joined (cleanly_completing n joined kept_joined)) fair_joined

  -- all have joined a census above all
  pub all_joined : Joined n c joined
  all_joined =
      joins_all n c told some kept_told (above_few n told (λ i l. subst (λ (p : census.Part). p.census < 4294967295) (sym (words_parts n w k i)) (low i l))) (above_all n told)

  whole : plays n (settling n w) w ≡ plays n (collects n ended) ended
  whole =
      then_plays n w (words n w) (λ v. and_then n v (joins n (above n v) v) (λ u. and_then n u (completing n u) (λ t. collects n t)))
      ∙ then_plays n told (joins n c told) (λ u. and_then n u (completing n u) (λ t. collects n t))
      ∙ then_plays n joined (completing n joined) (λ t. collects n t)

  pub settles_from : Swept n c ended → Settles n w (plays n (settling n w) w)
  settles_from swept =
      let left = collects_all n c ended (kept_plays n (completing n joined) joined kept_joined) swept fair_ended in
      record {
        exact = subst (λ (v : World). Exactly n v) (sym whole) left.0;
        lines = subst (λ (v : World). LinesMatter n v) (sym whole) left.1;
        same = same_plays n (settling n w) w k (cleanly_settling n w k);
        there = has_there n (plays n (settling n w) w) (kept_plays n (settling n w) w k);
      }

-- from every world that is kept
pub settles_kept : Completes → (n : ℕ) (w : World) → 0 < n → Kept n w → ((i : ℕ) → i < n → rules.census (w.house i) < 4294967295) → Settles n w (plays n (settling n w) w)
settles_kept completes n w some k low =
    let v = plays n (words n w) w in
    let u = plays n (joins n (above n v) v) v in
    settles_from n w some k low (completes n (above n v) u some (kept_plays n (joins n (above n v) v) v (kept_plays n (words n w) w k)) (all_joined n w some k low))

pub settles : Completes → AlwaysSettles
settles completes n some few w r low = settles_kept completes n w some (kept n few r) low

-- where nothing is present there is no object
none_present : (xs : List Object) → ((o : ℕ) → present o xs ≡ true → ⊥) → xs ≡ []
none_present [] f = refl
none_present (x ∷ xs) f = absurd (f x.name (or_left (eqb x.name x.name) (present x.name xs) (eq-eqb x.name x.name refl)))

pub nothing_left : AlwaysSettles → NothingLeft
nothing_left s n some few w r low empty i l =
    let z = s n some few w r low in
    none_present ((plays n (settling n w) w).house i).heap.objects (λ o e. let h = z.exact i o l e in empty h.0 o ((z.same h.0 o).1 h.1))
