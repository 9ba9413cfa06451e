-- What the collector's steps leave of a house: no object more, and no line of another census once all are of its own.
use Rattle.std.proofs.Common.{◌≡◌, ℕ, ◌<◌, ◌≤◌, true, T, List, sym, refl, ap, ◌∙◌, subst, ⊎_elim, arith}
use mathlib.Core.List.{Memᴰ}
use Rattle.tables.specs.Model.{present}
use Rattle.lines.specs.Listed.{Listed, marked, swept}
use Rattle.promise.specs.House.{House}
use Rattle.promise.specs.Net.{Net, put, in_census, with_list, with_objects, heard, Cleans}
use Rattle.promise.specs.Rounds.{World, census_of, AsBefore, Turn, Runs}
use Rattle.promise.specs.Promise.{Collects}
use Rattle.promise.proofs.Base.{set_elim, some_present}
use Rattle.promise.proofs.Lines.{back, became_heard, became_swept, became_marked}
use Rattle.play.proofs.Frame.{Deed, Way}
use Rattle.play.proofs.Tracking.{runs_on}
use Rattle.ends.proofs.Turning.{turn_moves}
use Rattle.ends.proofs.Moments.{way_moves}

-- all lines are of the house's own census
abbrev pub Own : House → Type 0
Own h = (e : Listed) → Memᴰ e h.list → e.census ≡ h.census

pub record Less (h g : House) : Type 0 where
  pub present : (o : ℕ) → T (present o g.objects) → T (present o h.objects)
  pub own : g.census ≡ h.census → Own h → Own g

less_refl : (h : House) → Less h h
less_refl h = record { present = λ o t. t; own = λ _ f. f }

between : {a b c : ℕ} → a ≤ b → b ≤ c → c ≡ a → (b ≡ a) × (c ≡ b)
between p q e = (omega arith, omega arith)

less_on : (h g f : House) → h.census ≤ g.census → g.census ≤ f.census → Less h g → Less g f → Less h f
less_on h g f p q a b = record { present = λ o t. a.present o (b.present o t); own = λ e y. let z = between p q e in b.own z.1 (a.own z.0 y) }

here : (n : Net) (i : ℕ) (h : House) → Less (n.house i) h → (j : ℕ) → Less (n.house j) (put i h n.house j)
here n i h z j = set_elim (λ j g. Less (n.house j) g) i h n.house z (λ j. less_refl (n.house j)) j

cleans_less : {houses : ℕ} {n m : Net} (s : Cleans houses n m) → AsBefore s → (j : ℕ) → Less (n.house j) (m.house j)
cleans_less (Cleans.word n j k held a b d e g) x i = less_refl (n.house i)
cleans_less (Cleans.hear n j k held upto a b) x i =
    here n k (heard j held upto (n.house k)) (record { present = λ o t. t; own = λ _ f e m. let y = back (became_heard j held upto (n.house k).list) e m in ap (λ (z : Listed). z.census) (sym y.3) ∙ f y.0 y.1 }) i
cleans_less (Cleans.collect n k kept a z) x i = here n k (with_objects kept (n.house k)) (record { present = λ o t. some_present o z.some t; own = λ _ f. f }) i
cleans_less (Cleans.join n k d a b) x i = absurd x
cleans_less (Cleans.tell n k o a b d) x i = absurd x
cleans_less (Cleans.mark n k o j a b d) x i = absurd x
cleans_less (Cleans.complete n d a k) x i = absurd x
cleans_less (Cleans.sweep n k a b) x i =
    here n k (with_list (swept (n.house k).census (n.house k).list) (n.house k)) (record { present = λ o t. t; own = λ _ f e m. let y = back (became_swept (n.house k).census (n.house k).list) e m in ap (λ (z : Listed). z.census) (sym y.3) ∙ f y.0 y.1 }) i

turn_less : {houses : ℕ} {w v : World} (t : Turn houses w v) → Collects t → (i : ℕ) → Less (w.net.house i) (v.net.house i)
turn_less (Turn.uses w u) c i = absurd c
turn_less (Turn.cleans w s a) c i = cleans_less s a i
turn_less (Turn.join w k d a b) c i = here w.net k (in_census d (w.net.house k)) (record { present = λ o t. t; own = λ e. absurd (no b e) }) i
  where
    no : {x y : ℕ} → x < y → y ≡ x → ⊥
    no p q = omega arith
turn_less (Turn.tell w k o a b d) c i = less_refl (w.net.house i)
turn_less (Turn.mark w k o j a b d) c i =
    here w.net k (with_list (marked (census_of w k) o j (w.net.house k).list) (w.net.house k))
    (record { present = λ q t. t; own = λ _ f e m. let y = back (became_marked (census_of w k) o j (w.net.house k).list) e m in ⊎_elim (λ p. ap (λ (z : Listed). z.census) (sym p) ∙ f y.0 y.1) (λ p. p.1.1) y.3 }) i
turn_less (Turn.answer w k o a b d) c i = less_refl (w.net.house i)
turn_less (Turn.begin w a b) c i = less_refl (w.net.house i)
turn_less (Turn.reply w k s b a d e f) c i = less_refl (w.net.house i)
turn_less (Turn.note w k b t a d e) c i = less_refl (w.net.house i)
turn_less (Turn.complete w e) c i = less_refl (w.net.house i)
turn_less (Turn.alike w v a) c i =
    let z = a.net.house i in
    record { present = λ o t. subst T (sym (z.objects.present o)) t; own = λ _ f e m. f e (subst (λ (es : List Listed). Memᴰ e es) (sym z.list) m) ∙ z.census }

pub way_less : {d : Deed} {n : ℕ} {w v : World} → Runs n w → Way d true n w v → (i : ℕ) → Less (w.net.house i) (v.net.house i)
way_less {w = w} r Way.same i = less_refl (w.net.house i)
way_less {w = w} r (Way.more {v = v} {u = u} l t _ _ c) i =
    less_on (w.net.house i) (v.net.house i) (u.net.house i) (way_moves r l i).goes.census (turn_moves (runs_on r l) t i).goes.census (way_less r l i) (turn_less t (c refl) i)
