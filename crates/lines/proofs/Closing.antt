-- A list that is closed up in place: the lines that pass a test stay, and follow in order.
use Rattle.std.proofs.Common.{◌≡◌, ℕ, ◌+◌, ◌<◌, ◌≤◌, Bool, true, false, cond, not, ◌==◌, ◌≢◌, List, [], ◌∷◌, ◌++◌, get_or, sym, refl, ap, ◌∙◌, subst, ⊎_elim, arith}
use Rattle.std.proofs.lemmas.Bool.{cases_eq}
use Rattle.std.specs.List.{filter}
use Rattle.wire.specs.Names.{home}
use Rattle.lines.specs.Listed.{Listed, goes, heard_of, swept}
use Rattle.lines.specs.Columns.{rows, Alone, Own, Far}
use Rattle.lines.specs.Lists.{lines, row_of, shown, Decides, Lent, Pushed, Ready}
use Rattle.lines.specs.declared.line.Line.{Line}
use Rattle.lines.specs.declared.table.Lines.{Lines}
use Rattle.lines.proofs.Rows.{passed, failed, pushed_other, pushed_here, pushed_lines, fresh_ready}

pub heard_kept : (j : ℕ) (held : List ℕ) (upto : ℕ) (es : List Listed) → filter (λ e. not (goes j held upto e)) es ≡ heard_of j held upto es
unfolding heard_of
heard_kept j held upto [] = refl
heard_kept j held upto (e ∷ es) =
    elim (goes j held upto e) as (λ b. cond (not b) (e ∷ filter (λ x. not (goes j held upto x)) es) (filter (λ x. not (goes j held upto x)) es) ≡ cond b (heard_of j held upto es) (e ∷ heard_of j held upto es))
    [ true ↦ heard_kept j held upto es | false ↦ ap (λ r. e ∷ r) (heard_kept j held upto es) ]

pub swept_kept : (c : ℕ) (es : List Listed) → filter (λ e. e.census == c) es ≡ swept c es
unfolding swept
swept_kept c [] = refl
swept_kept c (e ∷ es) = ap (λ r. cond (e.census == c) (e ∷ r) r) (swept_kept c es)

pub lent_on : (t u v : Lines) → Lent t u → Lent u v → Lent t v
lent_on t u v a b = record {
  objects = b.objects ∙ a.objects;
  holders = b.holders ∙ a.holders;
  stamps = b.stamps ∙ a.stamps;
  censuses = b.censuses ∙ a.censuses;
  objects_long = b.objects_long ∙ a.objects_long;
  holders_long = b.holders_long ∙ a.holders_long;
  stamps_long = b.stamps_long ∙ a.stamps_long;
  censuses_long = b.censuses_long ∙ a.censuses_long;
  room = b.room ∙ a.room;
  home = b.home ∙ a.home;
  houses = b.houses ∙ a.houses;
}

pub lent_same : (t : Lines) → Lent t t
lent_same t = record {
  objects = refl;
  holders = refl;
  stamps = refl;
  censuses = refl;
  objects_long = refl;
  holders_long = refl;
  stamps_long = refl;
  censuses_long = refl;
  room = refl;
  home = refl;
  houses = refl;
}

-- The n rows of the list s, emptied, have been gone through up to place i, and t holds those that passed.
pub record Turn (post : Line → Bool → Type 0) (s : Lines) (n i : ℕ) (t : Lines) : Type 0 where
  pub behind : t.len ≤ i
  pub rest : (x : ℕ) → i ≤ x → row_of t x ≡ row_of s x
  pub kept : (p : Listed → Bool) → Decides post p → lines t ≡ filter p (rows (row_of s) 0 i)
  pub apart : (x y : ℕ) → x < t.len → i ≤ y → y < n → (row_of t x).object ≡ (row_of s y).object → (row_of t x).holder ≡ (row_of s y).holder → ⊥
  pub lent : Lent s t

module _ {post : Line → Bool → Type 0} {s : Lines} {n : ℕ} where
  pub turn_none : s.len ≡ 0 → Turn post s n 0 s
  turn_none z =
      record {
        behind = omega arith;
        rest = λ x h. refl;
        kept = λ p d. ap (rows (row_of s) 0) z;
        apart = λ x y a b d q r. omega arith;
        lent = lent_same s;
      }

  module _ {i : ℕ} {t : Lines} (w : Turn post s n i t) (h : i < n) where
    -- the row at place i is still that of s
    same : row_of t i ≡ row_of s i
    same = w.rest i (omega arith)

    told : (p : Listed → Bool) → Decides post p → (l : Line) → l ≡ shown (row_of t i) → (b : Bool) → post l b → p (row_of s i) ≡ b
    told p d l is b k = sym (d (row_of s i) b (subst (λ x. post x b) (is ∙ ap shown same) k))

    pub turn_gone : (u : Lines) → u ≡ t → (l : Line) → l ≡ shown (row_of t i) → post l false → Turn post s n (i + 1) u
    turn_gone u q l is k = subst (Turn post s n (i + 1)) (sym q) (record {
      behind = omega (arith, w.behind);
      rest = λ x b. w.rest x (omega arith);
      kept = λ p d. w.kept p d ∙ sym (failed p (row_of s) i (told p d l is false k));
      apart = λ x y a b d q r. w.apart x y a (omega arith) d q r;
      lent = w.lent;
    })

    pub turn_kept : (u v : Lines) → u ≡ v → (l : Line) → l ≡ shown (row_of t i) → post l true → Pushed t (row_of t i) v → Lent t v → n ≤ s.room → Alone s.objects.now s.holders.now n → Turn post s n (i + 1) u
    turn_kept u v q l is k pushed on room alone =
        let behind' = w.behind in
        let len' = pushed.len in
        let f = row_of s in
        let fits : t.len < t.room = omega (arith, w.behind, w.lent.room) in
        let others : (x : ℕ) → x ≢ t.len → row_of t x ≡ row_of v x = pushed_other t v (row_of t i) pushed in
        let here : row_of v t.len ≡ f i = pushed_here t v (row_of t i) pushed fits ∙ same in
        subst (Turn post s n (i + 1)) (sym q) (record {
          behind = omega arith;
          rest = λ x b. sym (others x (λ q. omega arith)) ∙ w.rest x (omega arith);
          kept = λ p d.
              pushed_lines t v (row_of t i) pushed fits ∙ ap (λ r. r ++ row_of t i ∷ []) (w.kept p d) ∙ ap (λ r. filter p (rows f 0 i) ++ r ∷ []) same
              ∙ sym (passed p f i (told p d l is true k));
          apart = λ x y a b d q r.
              ⊎_elim
              (λ m.
              let g : row_of v x ≡ f i = ap (row_of v) m ∙ here in
              alone i y (omega arith, d, sym (ap (λ l. l.object) g) ∙ q, sym (ap (λ l. l.holder) g) ∙ r))
              (λ m.
              let g : row_of t x ≡ row_of v x = others x m in
              w.apart x y (omega arith) (omega arith) d (ap (λ l. l.object) g ∙ q) (ap (λ l. l.holder) g ∙ r))
              (cases_eq x t.len);
          lent = lent_on s t v w.lent on;
        })

    -- the line at place i may be written behind those that stayed
    pub turn_ready : n ≤ s.room → Own s.home.0 s.objects.now n → Far s.home.0 s.houses s.holders.now n → Ready t (row_of t i)
    turn_ready room own far =
        let o : (row_of t i).object ≡ get_or s.objects.now i 0 = ap (λ x. x.object) same in
        let j : (row_of t i).holder ≡ get_or s.holders.now i 0 = ap (λ x. x.holder) same in
        let m : t.home.0 ≡ s.home.0 = ap (λ x. x.0) w.lent.home in
        fresh_ready t (row_of t i) (record {
          room = omega (arith, w.behind, w.lent.room);
          own = ap home o ∙ own i h ∙ sym m;
          apart = λ q. (far i h).0 (sym j ∙ q ∙ m);
          below = let b = (far i h).1 in omega (arith, w.lent.houses);
          alone = λ k a q r. w.apart k i a (omega arith) h (q ∙ o) (r ∙ j);
        })

  pub turn_all : {i : ℕ} {t : Lines} → Turn post s n i t → n ≤ i → i ≤ n → (p : Listed → Bool) → Decides post p → lines t ≡ filter p (rows (row_of s) 0 n)
  turn_all {i} {t} w h l p d = let e : i ≡ n = omega arith in w.kept p d ∙ ap (λ k. filter p (rows (row_of s) 0 k)) e
