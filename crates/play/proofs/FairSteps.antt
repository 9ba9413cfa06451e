-- When all have heard how far each other has seen, a census above all finds only what matters: that is kept by every step of the collector.
use Rattle.std.proofs.Common.{◌≡◌, ℕ, ◌<◌, ◌≤◌, max, T, List, ◌++◌, sym, refl, ap, ◌∙◌, subst, ⊎_elim, arith}
use mathlib.Core.List.Memᴰ
use mathlib.Core.List.{Memᴰ}
use Rattle.wire.specs.Names.{home}
use Rattle.tables.specs.Met.{Met}
use Rattle.tables.specs.Model.{is_in, present, fields_of}
use Rattle.lines.specs.Listed.{Listed, objects_in}
use Rattle.promise.specs.House.{House, Used}
use Rattle.promise.specs.Net.{Msg, Ask, Give, Word, Mark, Sweep, Net, Cleans, put, with, sends}
use Rattle.promise.specs.Promise.{Has}
use Rattle.promise.proofs.Base.{true→T, true→mem, set_elim, same_at, mem→is_in}
use Rattle.promise.proofs.Lines.{back, became_heard, became_joined, became_marked, became_swept, objects_in→mem}
use Rattle.promise.proofs.Steps.{Good}
use Rattle.promise.proofs.Nothing.{Both, cleans_both}
use Rattle.promise.proofs.Sound.{Sound}
use Rattle.promise.proofs.Joining.{met_some, kin_has}

-- house k has heard how far house j has seen
abbrev pub Told : Net → ℕ → ℕ → Type 0
Told m j k = (m.house j).seen k ≤ (m.house k).heard j

-- all houses have heard each other; lines and tellings of census c and later are of what matters
pub record Fairly (houses c : ℕ) (m : Net) : Type 0 where
  pub told : (j k : ℕ) → k < houses → (j ≡ k → ⊥) → Told m j k
  pub lines : (k : ℕ) (e : Listed) → Memᴰ e (m.house k).list → c ≤ e.census → Has m e.holder e.object
  pub spoken : (d o i : ℕ) → c ≤ d → Memᴰ (Mark d o i) m.sent → Has m i o

pub told_with : (n : Net) (i : ℕ) (h : House) → h.seen ≡ (n.house i).seen → ((a : ℕ) → (n.house i).heard a ≤ h.heard a) → (j k : ℕ) → Told n j k → Told (with i h n) j k
told_with n i h es le j k t =
    let p : (put i h n.house j).seen k ≡ (n.house j).seen k = ap (λ (f : ℕ → ℕ). f k) (same_at (λ g. g.seen) i h n.house es j) in
    let q = set_elim (λ a g. (n.house a).heard j ≤ g.heard j) i h n.house (le j) (λ a. omega arith) k in
    both p q t
  where
    both : {a b x y : ℕ} → a ≡ b → x ≤ y → b ≤ x → a ≤ y
    both p q r = omega arith

abbrev pub IsMark : Msg → Type 0
IsMark (Ask o i j) = ⊥
IsMark (Give o j s) = ⊥
IsMark (Word j k held upto) = ⊥
IsMark (Mark c o i) = Unit {0}
IsMark (Sweep c) = ⊥

module _ {houses c : ℕ} (n : Net) (f : Fairly houses c n) where
  fair_with : (i : ℕ) (h : House) → Both n (with i h n) → h.seen ≡ (n.house i).seen → ((a : ℕ) → (n.house i).heard a ≤ h.heard a) →
      ((e : Listed) → Memᴰ e h.list → c ≤ e.census → Has n e.holder e.object) → Fairly houses c (with i h n)
  fair_with i h both es le lines =
      record {
        told = λ j k l a. told_with n i h es le j k (f.told j k l a);
        lines = λ k e m z. (both e.holder e.object).0
            (set_elim (λ k g. (e : Listed) → Memᴰ e g.list → c ≤ e.census → Has n e.holder e.object) i h n.house lines f.lines k e m z);
        spoken = λ d o j z m. (both j o).0 (f.spoken d o j z m);
      }

  -- a house that changed neither its list nor its stamps
  fair_same : (i : ℕ) (h : House) → Both n (with i h n) → h.seen ≡ (n.house i).seen → h.heard ≡ (n.house i).heard → h.list ≡ (n.house i).list → Fairly houses c (with i h n)
  fair_same i h both es eh el =
      fair_with i h both es (λ a. same (ap (λ (g : ℕ → ℕ). g a) eh)) (λ e m z. f.lines i e (subst (λ (l : List Listed). Memᴰ e l) el m) z)
    where
      same : {a b : ℕ} → a ≡ b → b ≤ a
      same p = omega arith

  pub fair_sends : (x : Msg) → Both n (sends x n) → ((d o i : ℕ) → c ≤ d → Mark d o i ≡ x → Has n i o) → Fairly houses c (sends x n)
  fair_sends x both g =
      record {
        told = f.told;
        lines = λ k e m z. (both e.holder e.object).0 (f.lines k e m z);
        spoken = λ d o i z m. (both i o).0 (⊎_elim (λ e. g d o i z e) (λ r. f.spoken d o i z r) (Memᴰ.cases_cons m));
      }

  -- what a house uses in a census not before c matters
  used_has : Good houses n → (i o : ℕ) → c ≤ (n.house i).census → Used (n.house i).census (n.house i) o → (home o ≡ i → ⊥) → Has n i o
  used_has g i o le u away = own u away
    where
      from : (y : ℕ) → Memᴰ y ((n.house i).roots ++ objects_in (n.house i).census (n.house i).list) → (j : ℕ) × Has n j y
      from y z =
          ⊎_elim (λ r. (i, Has.root (mem→is_in r)))
          (λ r. let e = objects_in→mem (n.house i).census (n.house i).list r in (e.0.holder, subst (λ (b : ℕ). Has n e.0.holder b) (sym e.2) (f.lines i e.0 e.1 (subst (λ (x : ℕ). c ≤ x) (sym e.3) le))))
          (Memᴰ.append_cases (n.house i).roots z)

      own : {y : ℕ} → Met (n.house i).objects ((n.house i).roots ++ objects_in (n.house i).census (n.house i).list) y → (home y ≡ i → ⊥) → Has n i y
      own {y} (Met.start z) a =
          ⊎_elim (λ r. Has.root (mem→is_in r)) (λ r. let e = objects_in→mem (n.house i).census (n.house i).list r in absurd (a (ap (λ (b : ℕ). home b) e.2 ∙ (g.inv.lines i e.0 e.1).own)))
          (Memᴰ.append_cases (n.house i).roots (true→mem y ((n.house i).roots ++ objects_in (n.house i).census (n.house i).list) z))
      own (Met.field {o = b} {p = p} z t w) a =
          let e = (g.names.named i b (true→T t)).0 in
          subst (λ (y : ℕ). Has n y p) e
          (Has.field (met_some g.names from z).1 (subst (λ (y : ℕ). T (present b (n.house y).objects)) (sym e) (true→T t)) (subst (λ (y : ℕ). T (is_in p (fields_of b (n.house y).objects))) (sym e) (true→T w)))

  -- a line above all that its holder has seen is of a reference on its way
  coming_has : Good houses n → Sound houses n → (t : ℕ) → t < houses → (e : Listed) → Memᴰ e (n.house t).list → (n.house t).heard e.holder < e.stamp → Has n e.holder e.object
  coming_has g s t l e z lt =
      let ok = g.inv.lines t e z in
      Has.coming (s.handed t e z) (subst (λ (y : ℕ). (n.house e.holder).seen y < e.stamp) (sym ok.own) (late (f.told e.holder t l ok.out) lt))
    where
      late : {a b x : ℕ} → a ≤ b → b < x → a < x
      late p q = omega arith

pub fair_cleans : {houses c : ℕ} {n m : Net} → Good houses n → Sound houses n → (s : Cleans houses n m) → Fairly houses c n → Fairly houses c m
fair_cleans g s (Cleans.word n j k held a b d e w) f = fair_sends n f _ (cleans_both g (Cleans.word n j k held a b d e w)) (λ x o i _ q. absurd (subst IsMark q tt))
fair_cleans g s (Cleans.hear n j k held upto a b) f =
    fair_with n f k _ (cleans_both g (Cleans.hear n j k held upto a b)) refl
    (set_elim (λ x y. (n.house k).heard x ≤ y) j (max ((n.house k).heard j) upto) (n.house k).heard (omega arith) (λ x. omega arith))
    (λ e z le. let y = back (became_heard j held upto (n.house k).list) e z in f.lines k e (subst (λ (x : Listed). Memᴰ x (n.house k).list) y.3 y.1) le)
fair_cleans g s (Cleans.collect n i kept a k) f = fair_same n f i _ (cleans_both g (Cleans.collect n i kept a k)) refl refl refl
fair_cleans g s (Cleans.join n i d a b) f =
    fair_with n f i _ (cleans_both g (Cleans.join n i d a b)) refl (λ x. omega arith)
    (λ e z le. let y = back (became_joined d (n.house i).heard (n.house i).list) e z in
    ⊎_elim (λ p. f.lines i e (subst (λ (x : Listed). Memᴰ x (n.house i).list) p.0 y.1) le) (λ p. kin_has y.0 e y.2 (coming_has n f g s i a y.0 y.1 p.0)) y.3)
fair_cleans {c = c} g s (Cleans.tell n i o a b u) f =
    fair_sends n f _ (cleans_both g (Cleans.tell n i o a b u)) (λ d p j le q.
    let r = same d p j (n.house i).census o i q in
    subst (λ (y : ℕ). Has n y p) (sym r.2) (subst (λ (y : ℕ). Has n i y) (sym r.1) (used_has n f g i o (subst (λ (y : ℕ). c ≤ y) r.0 le) u b)))
  where
    same : (c1 o1 i1 c2 o2 i2 : ℕ) → Mark c1 o1 i1 ≡ Mark c2 o2 i2 → (c1 ≡ c2) × (o1 ≡ o2) × (i1 ≡ i2)
    same c1 o1 i1 c2 o2 i2 e = (cc, cc, cc)
fair_cleans {c = c} g s (Cleans.mark n k o i a b d) f =
    fair_with n f k _ (cleans_both g (Cleans.mark n k o i a b d)) refl (λ x. omega arith)
    (λ e z le. let y = back (became_marked (n.house k).census o i (n.house k).list) e z in
    ⊎_elim (λ p. f.lines k e (subst (λ (x : Listed). Memᴰ x (n.house k).list) p y.1) le)
    (λ p. kin_has y.0 e y.2 (subst (λ (x : ℕ). Has n x y.0.object) (sym p.0.1) (subst (λ (x : ℕ). Has n i x) (sym p.0.0) (f.spoken (n.house k).census o i (subst (λ (x : ℕ). c ≤ x) p.1.1 le) d)))) y.3)
fair_cleans g s (Cleans.complete n d a k) f = fair_sends n f _ (cleans_both g (Cleans.complete n d a k)) (λ x o i _ q. absurd (subst IsMark q tt))
fair_cleans g s (Cleans.sweep n i a b) f =
    fair_with n f i _ (cleans_both g (Cleans.sweep n i a b)) refl (λ x. omega arith)
    (λ e z le. let y = back (became_swept (n.house i).census (n.house i).list) e z in f.lines i e (subst (λ (x : Listed). Memᴰ x (n.house i).list) y.3 y.1) le)
