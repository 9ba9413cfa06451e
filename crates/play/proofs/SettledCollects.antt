-- When every line is of what matters, a collection at each house leaves only what matters.
use Rattle.std.proofs.Common.{◌≡◌, ℕ, suc, ◌<◌, true, cond, ◌++◌, sym, refl, subst, ⊎_elim, le_of_eq, arith}
use mathlib.Core.List.Memᴰ
use mathlib.Core.List.{Memᴰ}
use Rattle.wire.specs.declared.call.Call.TheVariants as call
use Rattle.tables.specs.Model.{Heap, present}
use Rattle.tables.specs.Met as tables
use Rattle.objects.specs.Executed.{collected}
use Rattle.objects.proofs.Reached as reached
use Rattle.lines.specs.Listed.{Listed, objects_listed}
use Rattle.rules.specs.House as rules
use Rattle.promise.specs.Promise as relation
use Rattle.promise.proofs.Base.{set_other, last, none_below, mem→is_in}
use Rattle.promise.proofs.Lines.{objects_listed→mem}
use Rattle.promise.proofs.Ends.{good_of}
use Rattle.promise.proofs.Joining.{met_some}
use Rattle.play.specs.Play.{World, put, plays}
use Rattle.play.specs.Seen.{seen}
use Rattle.play.specs.Promise.{Has}
use Rattle.play.specs.Exact.{Swept, Exactly, LinesMatter}
use Rattle.play.specs.Settle.{calling, collects}
use Rattle.play.proofs.Frame.{put_cases}
use Rattle.play.proofs.Promise.{has_seen, has_back}
use Rattle.play.proofs.Tracking.{Kept}
use Rattle.play.proofs.FairEntries.{same_plays, each_brings}
use Rattle.play.proofs.FairPump.{cleanly_calling}
use Rattle.play.proofs.FairSteps.{Fairly}
use Rattle.play.proofs.SettledJoins.{calling_quiet}

-- every line is of what matters, and so are the objects of the houses below a
record Tidy (n a : ℕ) (w : World) : Type 0 where
  lines : LinesMatter n w
  objects : (i : ℕ) → i < a → (o : ℕ) → present o (w.house i).heap.objects ≡ true → (j : ℕ) × Has n w j o

module _ (n a : ℕ) (w : World) (l : a < n) (x : Kept n w) (f : Tidy n a w) where
  abbrev kept : Heap
  kept = collected (objects_listed (w.house a).list) (w.house a).heap

  abbrev freed : World
  freed = record { house = put a (rules.with_heap kept (w.house a)) w.house; sent = w.sent }

  after : plays n (calling n a call.Collect w) w ≡ freed
  after = calling_quiet n a call.Collect w (rules.with_heap kept (w.house a)) l refl

  carry : {j o : ℕ} → Has n w j o → Has n freed j o
  carry {j} {o} h = subst (λ (v : World). Has n v j o) after ((same_plays n (calling n a call.Collect w) w x (cleanly_calling n a call.Collect w refl x) j o).0 h)

  -- what the collection starts from matters
  from : (y : ℕ) → Memᴰ y ((w.house a).heap.roots ++ objects_listed (w.house a).list) → (j : ℕ) × relation.Has (seen n w).net j y
  from y z =
      ⊎_elim (λ r. (a, relation.Has.root (mem→is_in r)))
      (λ r. let e = objects_listed→mem (w.house a).list r in (e.0.holder, subst (λ (b : ℕ). relation.Has (seen n w).net e.0.holder b) (sym e.2) (has_seen n w (f.lines a l e.0 e.1))))
      (Memᴰ.append_cases (w.house a).heap.roots z)

  left : (o : ℕ) → present o kept.objects ≡ true → (j : ℕ) × Has n freed j o
  left o e =
      let leaves : tables.Collected (w.house a).heap (objects_listed (w.house a).list) kept = reached.collects (w.house a).heap (objects_listed (w.house a).list) (x.sound a l).heap.order in
      let z = met_some {n = (seen n w).net} {i = a} (good_of x.runs).names from (leaves.only o e) in
      (z.0, carry (has_back n w z.1))

  tidy_more : Tidy n (suc a) (plays n (calling n a call.Collect w) w)
  tidy_more =
      subst (λ (v : World). Tidy n (suc a) v) (sym after)
      (record {
        lines = put_cases a (λ k b. k < n → (e : Listed) → Memᴰ e (cond b (rules.with_heap kept (w.house a)) (w.house k)).list → Has n freed e.holder e.object)
            (λ q e m. carry (f.lines a q e m)) (λ k q e m. carry (f.lines k q e m));
        objects = set_other (λ i g. i < suc a → (o : ℕ) → present o g.heap.objects ≡ true → (j : ℕ) × Has n freed j o) a (rules.with_heap kept (w.house a)) w.house
            (λ _ o e. left o e) (λ i z q o e. let y = f.objects i (last q z) o e in (y.0, carry y.1));
      })

pub collects_all : (n c : ℕ) (w : World) → Kept n w → Swept n c w → Fairly n c (seen n w).net → Exactly n (plays n (collects n w) w) × LinesMatter n (plays n (collects n w) w)
collects_all n c w k s f =
    let t = each_brings n (Tidy n) (λ i v. calling n i call.Collect v) (λ a v l x t. tidy_more n a v l x t) n w k
    (record { lines = λ j l e m. has_back n w (f.lines j e m (le_of_eq (sym ((s j l).1 e m)))); objects = λ j l. absurd (none_below l) }) (omega arith) in
    (λ i o l e. t.objects i l o e, t.lines)
