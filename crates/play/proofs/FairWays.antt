-- Along the steps of the collector a census stays fair, and what was heard stays heard.
use Rattle.std.proofs.Common.{◌≡◌, ℕ, ◌<◌, ◌≤◌, max, true, ◌⊎◌, List, sym, refl, subst, inl, inr, le_trans, not-le_of_lt, arith}
use mathlib.Core.List.{Memᴰ}
use Rattle.std.proofs.lemmas.Bool.{cases_lt}
use Rattle.lines.specs.Listed.{Listed}
use Rattle.promise.specs.Net.{Mark, Sweep, Net, Cleans}
use Rattle.promise.specs.Alike.{AlikeNet}
use Rattle.promise.specs.Promise.{Collects}
use Rattle.promise.specs.Rounds.{World, census_of, Turn, Runs}
use Rattle.promise.proofs.Base.{set_elim}
use Rattle.promise.proofs.Inv.{view, MarkOk}
use Rattle.promise.proofs.Steps.{Good}
use Rattle.promise.proofs.Nothing.{sent_more, alike_both}
use Rattle.promise.proofs.Ends.{good_of}
use Rattle.promise.proofs.Sound.{sounds}
use Rattle.play.proofs.Frame.{Deed, Way}
use Rattle.play.proofs.Tracking.{runs_on}
use Rattle.play.proofs.FairSteps.{Told, Fairly, IsMark, told_with, fair_sends, fair_cleans}

-- what was heard stays heard
told_cleans : {houses : ℕ} {n m : Net} → Cleans houses n m → (j k : ℕ) → Told n j k → Told m j k
told_cleans (Cleans.word n a b held x y z u v) j k t = t
told_cleans (Cleans.hear n a b held upto x y) j k t =
    told_with n b _ refl (set_elim (λ c q. (n.house b).heard c ≤ q) a (max ((n.house b).heard a) upto) (n.house b).heard (omega arith) (λ c. omega arith)) j k t
told_cleans (Cleans.collect n i kept a b) j k t = told_with n i _ refl (λ c. omega arith) j k t
told_cleans (Cleans.join n i d a b) j k t = told_with n i _ refl (λ c. omega arith) j k t
told_cleans (Cleans.tell n i o a b u) j k t = t
told_cleans (Cleans.mark n i o a b d e) j k t = told_with n i _ refl (λ c. omega arith) j k t
told_cleans (Cleans.complete n d a b) j k t = t
told_cleans (Cleans.sweep n i a b) j k t = told_with n i _ refl (λ c. omega arith) j k t

told_alike : {n m : Net} → AlikeNet n m → (j k : ℕ) → Told n j k → Told m j k
told_alike a j k t = same ((a.house j).seen k) ((a.house k).heard j) t
  where
    same : {x y p q : ℕ} → x ≡ y → p ≡ q → x ≤ p → y ≤ q
    same e f l = omega arith

told_turn : {houses : ℕ} {w v : World} (t : Turn houses w v) → Collects t → (j k : ℕ) → Told w.net j k → Told v.net j k
told_turn (Turn.uses w u) c j k t = absurd c
told_turn (Turn.cleans w s a) c j k t = told_cleans s j k t
told_turn (Turn.join w i d a b) c j k t = told_cleans (Cleans.join w.net i d a b) j k t
told_turn (Turn.tell w i o a b d) c j k t = told_cleans (Cleans.tell w.net i o a b d) j k t
told_turn (Turn.mark w i o h a b d) c j k t = told_cleans (Cleans.mark w.net i o h a b d) j k t
told_turn (Turn.answer w i o a b d) c j k t = t
told_turn (Turn.begin w a b) c j k t = t
told_turn (Turn.reply w i r b a d e f) c j k t = t
told_turn (Turn.note w i b x a d e) c j k t = t
told_turn (Turn.complete w e) c j k t = t
told_turn (Turn.alike w v a) c j k t = told_alike a.net j k t

pub told_way : {d : Deed} {n : ℕ} {w v : World} → Way d true n w v → (j k : ℕ) → Told w.net j k → Told v.net j k
told_way Way.same j k t = t
told_way (Way.more l u _ _ g) j k t = told_turn u (g refl) j k (told_way l j k t)

-- a fair census
fair_alike : {houses c : ℕ} {n m : Net} → AlikeNet n m → Fairly houses c n → Fairly houses c m
fair_alike a f =
    record {
      told = λ j k l z. told_alike a j k (f.told j k l z);
      lines = λ k e m z. (alike_both a e.holder e.object).0 (f.lines k e (subst (λ (l : List Listed). Memᴰ e l) (sym (a.house k).list) m) z);
      spoken = λ d o i z m. (alike_both a i o).0 (f.spoken d o i z ((a.sent (Mark d o i)).1 m));
    }

fair_turn : {houses c : ℕ} {w v : World} → Runs houses w → (t : Turn houses w v) → Collects t → Fairly houses c w.net → Fairly houses c v.net
fair_turn r (Turn.uses w u) x f = absurd x
fair_turn r (Turn.cleans w s a) x f = fair_cleans (good_of r) (sounds r) s f
fair_turn r (Turn.join w i d a b) x f = fair_cleans (good_of r) (sounds r) (Cleans.join w.net i d a b) f
fair_turn r (Turn.tell w i o a b d) x f = fair_cleans (good_of r) (sounds r) (Cleans.tell w.net i o a b d) f
fair_turn r (Turn.mark w i o h a b d) x f = fair_cleans (good_of r) (sounds r) (Cleans.mark w.net i o h a b d) f
fair_turn r (Turn.answer w i o a b d) x f = f
fair_turn r (Turn.begin w a b) x f = f
fair_turn r (Turn.reply w i q b a d e g) x f = f
fair_turn r (Turn.note w i b t a d e) x f = f
fair_turn r (Turn.complete w e) x f = fair_sends w.net f (Sweep (census_of w 0)) (sent_more w.net (Sweep (census_of w 0)) tt) (λ d o i _ q. absurd (subst IsMark q tt))
fair_turn r (Turn.alike w v a) x f = fair_alike a.net f

pub fair_way : {d : Deed} {n c : ℕ} {w v : World} → Runs n w → Way d true n w v → Fairly n c w.net → Fairly n c v.net
fair_way r Way.same f = f
fair_way r (Way.more l t _ _ g) f = fair_turn (runs_on r l) t (g refl) (fair_way r l f)

-- a census above all has no line and no telling yet, so it is fair when all have heard each other
pub fair_first : {n : ℕ} {w : World} (c : ℕ) → Runs n w → ((j k : ℕ) → j < n → k < n → (j ≡ k → ⊥) → Told w.net j k) → ((i : ℕ) → i < n → census_of w i < c) → Fairly n c w.net
fair_first {n} {w} c r told low =
    record {
      told = λ j k l a. elsewhere j k l a (cases_lt j n);
      lines = λ k e z le. let ok = g.inv.lines k e z in absurd (not-le_of_lt (low k ok.housed) (le_trans le ok.low));
      spoken = λ d o i le z. let ok : MarkOk n g.since (view w.net) d o i = g.inv.sents (Mark d o i) z in absurd (not-le_of_lt (low i ok.housed) (le_trans le ok.below));
    }
  where
    g : Good n w.net
    g = good_of r

    elsewhere : (j k : ℕ) → k < n → (j ≡ k → ⊥) → (j < n) ⊎ (n ≤ j) → Told w.net j k
    elsewhere j k l a (inl lj) = told j k lj l a
    elsewhere j k l a (inr lj) = let q = (sounds r).quiet j k lj in omega arith
