-- A list whose lines join a census one by one.
use Rattle.std.proofs.Common.{◌≡◌, ℕ, ◌+◌, ◌-◌, ◌<◌, ◌≤◌, true, false, ltb, ◌++◌, length, get_or, sym, refl, ap, ◌∙◌, subst, arith, get_or-set_other, get_or-set_same}
use Rattle.std.proofs.lemmas.Bool.{cond-true, cond-false}
use Rattle.lines.specs.Listed.{Listed, joined}
use Rattle.lines.specs.Columns.{rows}
use Rattle.lines.specs.Lists.{lines, row_of, Lent, Numbered}
use Rattle.lines.specs.declared.table.Lines.{Lines}
use Rattle.lines.proofs.Rows.{line_same}
use Rattle.lines.proofs.Marks.{join_none, join_more, join_all}
use Rattle.lines.proofs.Closing.{lent_same, lent_on}

-- the first i lines of s have joined census c, and t holds them with the others
pub record Joining (c : ℕ) (heard : ℕ → ℕ) (s : Lines) (i : ℕ) (t : Lines) : Type 0 where
  pub len : t.len ≡ s.len
  pub lent : Lent s t
  pub left : joined c heard (lines s) ≡ rows (row_of t) 0 i ++ joined c heard (rows (row_of t) i (s.len - i))

module _ {c : ℕ} {heard : ℕ → ℕ} {s : Lines} where
  pub joining_none : Joining c heard s 0 s
  joining_none = record { len = refl; lent = lent_same s; left = join_none c heard (row_of s) s.len }

  module _ {i : ℕ} {t : Lines} (w : Joining c heard s i t) (h : i < s.len) where
    pub joining_above : (u v : Lines) → u ≡ v → Numbered t i c v → Lent t v → (e : Listed) → e ≡ row_of t i → true ≡ ltb (heard e.holder) e.stamp → Joining c heard s (i + 1) u
    joining_above u v q w' on e is test =
        let above : ltb (heard (row_of t i).holder) (row_of t i).stamp ≡ true = ap (λ (x : Listed). ltb (heard x.holder) x.stamp) (sym is) ∙ sym test in
        let r = t.roomy in
        let l = w.len in
        let k : i < length t.censuses.now = omega (arith, t.within) in
        subst (Joining c heard s (i + 1)) (sym q) (record {
          len = w'.len ∙ w.len;
          lent = lent_on s t v w.lent on;
          left = join_more c heard _ (row_of t) (row_of v) i s.len h
              (λ x ne. line_same (ap (λ xs. get_or xs x 0) (sym w'.objects)) (ap (λ xs. get_or xs x 0) (sym w'.holders)) (ap (λ xs. get_or xs x 0) (sym w'.stamps)) (sym (ap (λ xs. get_or xs x 0) w'.censuses ∙ get_or-set_other _ i x c 0 ne)))
              (line_same (ap (λ xs. get_or xs i 0) w'.objects) (ap (λ xs. get_or xs i 0) w'.holders) (ap (λ xs. get_or xs i 0) w'.stamps) (ap (λ xs. get_or xs i 0) w'.censuses ∙ get_or-set_same _ i c 0 k)
              ∙ sym (cond-true _ _ _ above))
              w.left;
        })

    pub joining_heard : (u : Lines) → u ≡ t → (e : Listed) → e ≡ row_of t i → false ≡ ltb (heard e.holder) e.stamp → Joining c heard s (i + 1) u
    joining_heard u q e is test =
        let below : ltb (heard (row_of t i).holder) (row_of t i).stamp ≡ false = ap (λ (x : Listed). ltb (heard x.holder) x.stamp) (sym is) ∙ sym test in
        subst (Joining c heard s (i + 1)) (sym q) (record {
          len = w.len;
          lent = w.lent;
          left = join_more c heard _ (row_of t) (row_of t) i s.len h (λ x ne. refl)
              (sym (cond-false _ _ _ below))
              w.left;
        })

  pub joining_all : {i : ℕ} {t : Lines} → Joining c heard s i t → s.len ≤ i → i ≤ s.len → lines t ≡ joined c heard (lines s)
  joining_all {i} {t} w h l = ap (rows (row_of t) 0) w.len ∙ join_all c heard _ (row_of t) i s.len h l w.left
