-- Every line was handed out, and who is no house has seen nothing.
use Rattle.std.proofs.Common.{◌≡◌, ℕ, ◌+◌, ◌≤◌, List, ◌∷◌, sym, refl, ap, ◌∙◌, subst, ⊎_elim, not-le_of_lt}
use mathlib.Core.List.Memᴰ
use mathlib.Core.List.{Memᴰ}
use Rattle.lines.specs.Listed.{Listed}
use Rattle.promise.specs.House.{House}
use Rattle.promise.specs.Net.{Msg, Give, Net, Uses, Cleans, with, sends, gave, took}
use Rattle.promise.specs.Alike.{AlikeNet}
use Rattle.promise.specs.Rounds.{World, Turn, Runs}
use Rattle.promise.proofs.Base.{set_elim, same_at}
use Rattle.promise.proofs.Lines.{Kin, back, became_marked, became_joined, became_heard, became_swept, entered_back}
use Rattle.promise.proofs.Steps.{Good}
use Rattle.promise.proofs.Ends.{good_of}

abbrev Handed : Listed → Msg
Handed e = Give e.object e.holder e.stamp

pub record Sound (houses : ℕ) (n : Net) : Type 0 where
  pub quiet : (j k : ℕ) → houses ≤ j → (n.house j).seen k ≡ 0
  pub handed : (k : ℕ) (e : Listed) → Memᴰ e (n.house k).list → Memᴰ (Give e.object e.holder e.stamp) n.sent

module _ {houses : ℕ} (n : Net) (x : Sound houses n) where
  sound_with : (i : ℕ) (h : House) → h.seen ≡ (n.house i).seen → ((e : Listed) → Memᴰ e h.list → Memᴰ (Handed e) n.sent) → Sound houses (with i h n)
  sound_with i h es f =
      record {
        quiet = λ j k l. ap (λ (g : ℕ → ℕ). g k) (same_at (λ g. g.seen) i h n.house es j) ∙ x.quiet j k l;
        handed = set_elim (λ k g. (e : Listed) → Memᴰ e g.list → Memᴰ (Handed e) n.sent) i h n.house f x.handed;
      }

  sound_same : (i : ℕ) (h : House) → h.seen ≡ (n.house i).seen → h.list ≡ (n.house i).list → Sound houses (with i h n)
  sound_same i h es el = sound_with i h es (λ e m. x.handed i e (subst (λ (l : List Listed). Memᴰ e l) el m))

  sound_sends : (m : Msg) → Sound houses (sends m n)
  sound_sends m = record { quiet = x.quiet; handed = λ k e z. Memᴰ.tail (x.handed k e z) }

  sound_kin : (i : ℕ) (e f : Listed) → Memᴰ e (n.house i).list → Kin e f → f.stamp ≡ e.stamp → Memᴰ (Handed f) n.sent
  sound_kin i e f m k p =
      let q : Handed e ≡ Handed f = cc (k.0, k.1, p) in
      subst (λ (y : Msg). Memᴰ y n.sent) q (x.handed i e m)

uses_sound : {houses : ℕ} {n m : Net} → Uses houses n m → Good houses n → Sound houses n → Sound houses m
uses_sound (Uses.make n i k a b d) g x = let z = sound_same n x i (Rattle.promise.specs.Net.made _ (n.house i)) refl refl in record { quiet = z.quiet; handed = z.handed }
uses_sound (Uses.link n i o p a b d e) g x = sound_same n x i _ refl refl
uses_sound (Uses.unlink n i o p a b d) g x = sound_same n x i _ refl refl
uses_sound (Uses.load n i o p a b d e) g x = sound_same n x i _ refl refl
uses_sound (Uses.drop n i o a) g x = sound_same n x i _ refl refl
uses_sound (Uses.ask n i o j a b d) g x = sound_sends n x _
uses_sound (Uses.give n k o i j a b d e f w) g x =
    record {
      quiet = λ q r l. ap (λ (z : ℕ → ℕ). z r) (same_at (λ z. z.seen) k (gave o j (n.house k)) n.house refl q) ∙ x.quiet q r l;
      handed = set_elim (λ q z. (y : Listed) → Memᴰ y z.list → Memᴰ (Handed y) (Give o j ((n.house k).given j + 1) ∷ n.sent)) k (gave o j (n.house k)) n.house
          (λ y m. ⊎_elim (λ p. Memᴰ.head (ap Handed p)) (λ r. Memᴰ.tail (x.handed k y r.0)) (entered_back o j ((n.house k).given j + 1) (n.house k).census (n.house k).list (g.inv.single k) y m))
          (λ q y m. Memᴰ.tail (x.handed q y m));
    }
uses_sound (Uses.give_home n k o i a b d e f) g x = sound_same n x k _ refl refl
uses_sound {houses} (Uses.take n j o s a b d) g x =
    record {
      quiet = set_elim (λ q z. (k : ℕ) → houses ≤ q → z.seen k ≡ 0) j (took o s (n.house j)) n.house (λ k l. absurd (not-le_of_lt a l)) x.quiet;
      handed = set_elim (λ q z. (y : Listed) → Memᴰ y z.list → Memᴰ (Handed y) n.sent) j (took o s (n.house j)) n.house (x.handed j) x.handed;
    }

cleans_sound : {houses : ℕ} {n m : Net} → Cleans houses n m → Sound houses n → Sound houses m
cleans_sound (Cleans.word n j k held a b d e f) x = sound_sends n x _
cleans_sound (Cleans.hear n j k held upto a b) x =
    sound_with n x k _ refl (λ f m. let z = back (became_heard j held upto (n.house k).list) f m in sound_kin n x k z.0 f z.1 z.2 (ap (λ (y : Listed). y.stamp) (sym z.3)))
cleans_sound (Cleans.collect n i kept a k) x = sound_same n x i _ refl refl
cleans_sound (Cleans.join n i c a b) x =
    sound_with n x i _ refl (λ f m. let z = back (became_joined c (n.house i).heard (n.house i).list) f m in
    sound_kin n x i z.0 f z.1 z.2 (⊎_elim (λ p. ap (λ (y : Listed). y.stamp) (sym p.0)) (λ p. p.1.0) z.3))
cleans_sound (Cleans.tell n i o a b d) x = sound_sends n x _
cleans_sound (Cleans.mark n k o i a b d) x =
    sound_with n x k _ refl (λ f m. let z = back (became_marked (n.house k).census o i (n.house k).list) f m in
    sound_kin n x k z.0 f z.1 z.2 (⊎_elim (λ p. ap (λ (y : Listed). y.stamp) (sym p)) (λ p. p.1.0) z.3))
cleans_sound (Cleans.complete n c a k) x = sound_sends n x _
cleans_sound (Cleans.sweep n i a b) x =
    sound_with n x i _ refl (λ f m. let z = back (became_swept (n.house i).census (n.house i).list) f m in sound_kin n x i z.0 f z.1 z.2 (ap (λ (y : Listed). y.stamp) (sym z.3)))

alike_sound : {houses : ℕ} {n m : Net} → AlikeNet n m → Sound houses n → Sound houses m
alike_sound a x =
    record {
      quiet = λ j k l. sym ((a.house j).seen k) ∙ x.quiet j k l;
      handed = λ k e z. (a.sent (Handed e)).0 (x.handed k e (subst (λ (l : List Listed). Memᴰ e l) (sym (a.house k).list) z));
    }

pub sounds : {houses : ℕ} {w : World} → Runs houses w → Sound houses w.net
sounds Runs.begun = record { quiet = λ j k l. refl; handed = λ k e m. absurd (Memᴰ.not-nil m) }
sounds {houses} (Runs.then {w = w} {v = v} r t) = step (good_of r) (sounds r) t
  where
    step : {w v : World} → Good houses w.net → Sound houses w.net → Turn houses w v → Sound houses v.net
    step g x (Turn.uses w u) = uses_sound u g x
    step g x (Turn.cleans w s a) = cleans_sound s x
    step g x (Turn.join w i c a b) = cleans_sound (Cleans.join w.net i c a b) x
    step g x (Turn.tell w i o a b d) = cleans_sound (Cleans.tell w.net i o a b d) x
    step g x (Turn.mark w k o i a b d) = cleans_sound (Cleans.mark w.net k o i a b d) x
    step g x (Turn.answer w i o a b d) = x
    step g x (Turn.begin w a b) = x
    step g x (Turn.reply w i r b a d e f) = x
    step g x (Turn.note w i b t a d e) = x
    step g x (Turn.complete w e) = sound_sends w.net x _
    step g x (Turn.alike w v a) = alike_sound a.net x
