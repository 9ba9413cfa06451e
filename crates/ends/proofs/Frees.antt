-- When the census has ended everywhere and all have collected, just what matters is left.
use Rattle.std.proofs.Common.{◌≡◌, ℕ, zero, suc, ◌<◌, ◌≤◌, Bool, true, ◌⊎◌, List, ◌++◌, sym, refl, ◌∙◌, subst, inl, inr, ⊎_elim, le_of_eq, arith}
use mathlib.Core.List.Memᴰ
use mathlib.Core.List.{Memᴰ}
use Rattle.std.proofs.lemmas.Bool.{cases_eq}
use Rattle.wire.specs.declared.call.Call.TheVariants as call
use Rattle.tables.specs.Model.{present}
use Rattle.tables.specs.Met as tables
use Rattle.objects.specs.Executed.{collected}
use Rattle.objects.proofs.Reached as reached
use Rattle.lines.specs.Listed.{Listed, objects_listed}
use Rattle.rules.specs.House.{House}
use Rattle.promise.specs.Promise as relation
use Rattle.promise.proofs.Base.{mem→is_in}
use Rattle.promise.proofs.Lines.{objects_listed→mem}
use Rattle.promise.proofs.Ends.{good_of}
use Rattle.promise.proofs.Joining.{met_some}
use Rattle.play.specs.Play.{World, Entry, calls, play}
use Rattle.play.specs.Seen.{house_seen}
use Rattle.play.specs.Promise.{Has, SameMatters}
use Rattle.play.specs.Exact.{Settles}
use Rattle.play.proofs.Frame.{Way}
use Rattle.play.proofs.Programs.{truth}
use Rattle.play.proofs.Cleaning.{untruth}
use Rattle.play.proofs.Calm.{swept_own}
use Rattle.play.proofs.Promise.{has_back, has_there, same_matters}
use Rattle.play.proofs.Tracking.{Kept, kept, deed_of, way_play}
use Rattle.play.proofs.FairSteps.{Fairly}
use Rattle.play.proofs.FairWays.{fair_way, fair_first}
use Rattle.ends.specs.Run.{Later, Cleans, Frees, Hears}
use Rattle.ends.proofs.Moments.{Course, later_then, later_as, now, persist, at, house_at, seen_at, kept_at, InC, stays_in, same_census, called}
use Rattle.ends.proofs.Replies.{WornAt}
use Rattle.ends.proofs.Ends.{hears_at}
use Rattle.ends.proofs.Freeing.{Own, way_less}

module _ (n c : ℕ) (run : ℕ → Entry) (v : World) (q : Cleans n c run v) where
  abbrev x : Course
  x = record { n = n; c = c; run = run; w = play n (calls 0 (call.Join c)) v; goes = q.goes }

  kept_first : Kept n v
  kept_first = kept n q.goes.few q.reach

  clean_way : (t : ℕ) → Way (deed_of n (run t) (at x t)) true n (seen_at x t) (seen_at x (suc t))
  clean_way t = subst (λ (b : Bool). Way (deed_of n (run t) (at x t)) b n (seen_at x t) (seen_at x (suc t))) (q.cleans t) (way_play n (run t) (at x t) (kept_at x t))

  fair_at : (t : ℕ) → Fairly n c (seen_at x t).net
  fair_at zero = fair_way kept_first.runs (way_play n (calls 0 (call.Join c)) v kept_first) (fair_first c kept_first.runs q.heard q.low)
  fair_at (suc t) = fair_way (kept_at x t).runs (clean_way t) (fair_at t)

  same_on : (w u z : World) → SameMatters n w u → SameMatters n u z → SameMatters n w z
  same_on w u z a b j o = (λ h. (b j o).0 ((a j o).0 h), λ h. (a j o).1 ((b j o).1 h))

  same_next : (t : ℕ) → SameMatters n (at x t) (at x (suc t))
  same_next t = same_matters n (at x t) (kept_at x t) (run t) (q.cleans t)

  same_at : (t : ℕ) → SameMatters n v (at x t)
  same_at zero = same_matters n v kept_first (calls 0 (call.Join c)) refl
  same_at (suc t) = same_on v (at x t) (at x (suc t)) (same_at t) (same_next t)

  module _ (i : ℕ) (lt : i < n) where
    abbrev OwnAt : ℕ → Type 0
    OwnAt t = Own (house_seen (house_at x t i))

    abbrev ExactAt : ℕ → Type 0
    ExactAt t = (o : ℕ) → present o (house_at x t i).heap.objects ≡ true → (j : ℕ) × Has n (at x t) j o

    exact_next : (t : ℕ) → ExactAt t → ExactAt (suc t)
    exact_next t f o e =
        let l = way_less (kept_at x t).runs (clean_way t) i in
        let z = f o (untruth (l.present o (truth e))) in
        (z.0, (same_next t z.0 o).0 z.1)

    exact_on : (t u : ℕ) → t ≤ u → ExactAt t → ExactAt u
    exact_on t u l f = persist ExactAt t (λ s _ g. exact_next s g) u l f

    own_on : (t u : ℕ) → t ≤ u → InC x i t → OwnAt t → OwnAt u
    own_on t u l e f = persist OwnAt t (λ s m g. (way_less (kept_at x s).runs (clean_way s) i).own (same_census x i s (suc s) lt (omega arith) (stays_in x i t s lt m e)) g) u l f

    -- a collection where all lines are of the census
    collects_at : (s : ℕ) → InC x i s → OwnAt s → run s ≡ calls i call.Collect → ExactAt (suc s)
    collects_at s e f g o m =
        let z = met_some {n = (seen_at x s).net} {i = i} (good_of (kept_at x s).runs).names from (leaves.only o there) in
        (z.0, (same_next s z.0 o).0 (has_back n (at x s) z.1))
      where
        h : House
        h = house_at x s i

        leaves : tables.Collected (house_at x s i).heap (objects_listed (house_at x s i).list) (collected (objects_listed (house_at x s i).list) (house_at x s i).heap)
        leaves = reached.collects (house_at x s i).heap (objects_listed (house_at x s i).list) ((kept_at x s).sound i lt).heap.order

        there : present o (collected (objects_listed (house_at x s i).list) (house_at x s i).heap).objects ≡ true
        there = subst (λ (y : House). present o y.heap.objects ≡ true) (called x i s call.Collect lt g).house m

        from : (y : ℕ) → Memᴰ y ((house_at x s i).heap.roots ++ objects_listed (house_at x s i).list) → (j : ℕ) × relation.Has (seen_at x s).net j y
        from y z =
            ⊎_elim (λ r. (i, relation.Has.root (mem→is_in r)))
            (λ r. let a = objects_listed→mem (house_at x s i).list r in (a.0.holder, subst (λ (b : ℕ). relation.Has (seen_at x s).net a.0.holder b) (sym a.2) ((fair_at s).lines i a.0 a.1 (le_of_eq (sym (f a.0 a.1 ∙ e))))))
            (Memᴰ.append_cases (house_at x s i).heap.roots z)

    -- just what matters is left at this house, and no line of another census
    abbrev DoneAt : ℕ → Type 0
    DoneAt t = ExactAt t × OwnAt t × InC x i t

    done_on : (t u : ℕ) → t ≤ u → DoneAt t → DoneAt u
    done_on t u l d = (exact_on t u l d.0, own_on t u l d.2 d.1, stays_in x i t u lt l d.2)

    done_one : (t : ℕ) → Later t (λ s. DoneAt s ⊎ WornAt x s)
    done_one t =
        later_then (λ s. Hears n c run x.w i s ⊎ WornAt x s) (λ s. DoneAt s ⊎ WornAt x s) t (hears_at x t i lt)
        (λ s _. ⊎_elim (λ h. collecting s h) (λ z. now (λ u. DoneAt u ⊎ WornAt x u) s (inr z)))
      where
        collecting : (s : ℕ) → Hears n c run x.w i s → Later s (λ u. DoneAt u ⊎ WornAt x u)
        collecting s h = go (q.collects (suc s) i lt)
          where
            in_c : InC x i (suc s)
            in_c = stays_in x i s (suc s) lt (omega arith) h.census

            own : OwnAt (suc s)
            own e m = swept_own c (house_at x s i).list e (subst (λ (es : List Listed). Memᴰ e es) h.sweeps m) ∙ sym in_c

            far : {u : ℕ} → suc s ≤ u → s ≤ suc u
            far l = omega arith

            more : {u : ℕ} → suc s ≤ u → suc s ≤ suc u
            more l = omega arith

            go : Later (suc s) (λ u. run u ≡ calls i call.Collect) → Later s (λ u. DoneAt u ⊎ WornAt x u)
            go (u, l, e) = (suc u, far l, inl (collects_at u (stays_in x i (suc s) u lt l in_c) (own_on (suc s) u l in_c own) e, own_on (suc s) (suc u) (more l) in_c own, stays_in x i (suc s) (suc u) lt (more l) in_c))

  done_all : (k t : ℕ) → k ≤ n → Later t (λ s. ((i : ℕ) (lt : i < n) → i < k → DoneAt i lt s) ⊎ WornAt x s)
  done_all zero t le = now (λ s. ((i : ℕ) (lt : i < n) → i < 0 → DoneAt i lt s) ⊎ WornAt x s) t (inl (λ i lt l. absurd (none l)))
    where
      none : {i : ℕ} → i < 0 → ⊥
      none l = omega arith
  done_all (suc k) t le =
      later_then (λ s. ((i : ℕ) (lt : i < n) → i < k → DoneAt i lt s) ⊎ WornAt x s) (λ s. ((i : ℕ) (lt : i < n) → i < suc k → DoneAt i lt s) ⊎ WornAt x s) t (done_all k t (omega arith))
      (λ s _. ⊎_elim (λ f. later_as (λ u. DoneAt k le u ⊎ WornAt x u) (λ u. ((i : ℕ) (lt : i < n) → i < suc k → DoneAt i lt u) ⊎ WornAt x u) s (done_one k le s)
      (λ u l. ⊎_elim (λ g. inl (λ i lt m. ⊎_elim (λ e. same i u lt e g) (λ a. done_on i lt s u l (f i lt (earlier m a))) (cases_eq i k))) (λ z. inr z)))
      (λ z. now (λ u. ((i : ℕ) (lt : i < n) → i < suc k → DoneAt i lt u) ⊎ WornAt x u) s (inr z)))
    where
      earlier : {i : ℕ} → i < suc k → (i ≡ k → ⊥) → i < k
      earlier a b = omega arith

      same : (i u : ℕ) (lt : i < n) → i ≡ k → DoneAt k le u → DoneAt i lt u
      same i u lt e g = subst (λ (m : ℕ). ((o : ℕ) → present o (house_at x u m).heap.objects ≡ true → (j : ℕ) × Has n (at x u) j o) × Own (house_seen (house_at x u m)) × InC x m u) (sym e) g

  settled : (u : ℕ) → ((i : ℕ) (lt : i < n) → DoneAt i lt u) → Settles n v (at x u)
  settled u f =
      record {
        exact = λ i o lt e. (f i lt).0 o e;
        lines = λ i lt e m. has_back n (at x u) ((fair_at u).lines i e m (le_of_eq (sym ((f i lt).1 e m ∙ (f i lt).2))));
        same = same_at u;
        there = has_there n (at x u) (kept_at x u);
      }

  freed : (t : ℕ) → Later t (λ s. ((u : ℕ) → s ≤ u → Settles n v (at x u)) ⊎ WornAt x s)
  freed t =
      later_as (λ s. ((i : ℕ) (lt : i < n) → i < n → DoneAt i lt s) ⊎ WornAt x s) (λ s. ((u : ℕ) → s ≤ u → Settles n v (at x u)) ⊎ WornAt x s) t (done_all n t (omega arith))
      (λ s _. ⊎_elim (λ f. inl (λ u l. settled u (λ i lt. done_on i lt s u l (f i lt lt)))) (λ z. inr z))

pub frees : Frees
frees n c run v q t = freed n c run v q t
