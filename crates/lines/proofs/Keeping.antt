-- What the type of a list says, in terms of its lines.
use Rattle.std.proofs.Common.{◌≡◌, ℕ, zero, suc, ◌+◌, ◌<◌, ◌≤◌, get_or, sym, ap, ◌∙◌, subst, ⊎_elim, arith}
use mathlib.Core.List.Memᴰ
use mathlib.Core.List.{Memᴰ}
use Rattle.std.proofs.lemmas.Bool.{cases_order}
use Rattle.wire.specs.Names.{home}
use Rattle.lines.specs.Listed.{Listed}
use Rattle.lines.specs.Columns.{rows}
use Rattle.lines.specs.Laws.{Kept}
use Rattle.lines.specs.Lists.{lines, row_of}
use Rattle.lines.specs.declared.table.Lines.{Lines}
use Rattle.std.proofs.lemmas.List.FromFn.{length-map-range_with_len}

record At (f : ℕ → Listed) (i n : ℕ) (e : Listed) : Type 0 where
  at : ℕ
  from : i ≤ at
  to : at < i + n
  is : e ≡ f at

row_at : (f : ℕ → Listed) (i n : ℕ) (e : Listed) → Memᴰ e (rows f i n) → At f i n e
row_at f i zero e m = absurd (Memᴰ.not-nil m)
row_at f i (suc n) e m =
    ⊎_elim
    (λ q. record { at = i; from = omega arith; to = omega arith; is = q })
    (λ r. let w = row_at f (i + 1) n e r in record { at = w.at; from = omega (arith, w.from); to = omega (arith, w.to); is = w.is })
    (Memᴰ.cases_cons m)

pub kept : (t : Lines) → Kept t.home.0 t.houses (lines t)
kept t = record {
  one = λ e f m n o j.
      let a = row_at (row_of t) 0 t.len e m in
      let b = row_at (row_of t) 0 t.len f n in
      let p : get_or t.objects.now a.at 0 ≡ get_or t.objects.now b.at 0 = sym (ap (λ (x : Listed). x.object) a.is) ∙ o ∙ ap (λ (x : Listed). x.object) b.is in
      let q : get_or t.holders.now a.at 0 ≡ get_or t.holders.now b.at 0 = sym (ap (λ (x : Listed). x.holder) a.is) ∙ j ∙ ap (λ (x : Listed). x.holder) b.is in
      ⊎_elim
      (λ r. a.is ∙ ap (row_of t) r ∙ sym b.is)
      (λ r. ⊎_elim (λ l. absurd (t.alone a.at b.at (l, omega (arith, b.to), p, q))) (λ l. absurd (t.alone b.at a.at (l, omega (arith, a.to), sym p, sym q))) r)
      (cases_order a.at b.at);
  few = subst (λ n. n ≤ 2048) (sym (length-map-range_with_len (row_of t) 0 t.len)) (omega (arith, t.within, t.most));
  own = λ e m. let a = row_at (row_of t) 0 t.len e m in ap (λ (x : Listed). home x.object) a.is ∙ t.own a.at (omega (arith, a.to));
  apart = λ e m q. let a = row_at (row_of t) 0 t.len e m in (t.far a.at (omega (arith, a.to))).0 (sym (ap (λ (x : Listed). x.holder) a.is) ∙ q);
  below = λ e m. let a = row_at (row_of t) 0 t.len e m in subst (λ n. n < t.houses) (sym (ap (λ (x : Listed). x.holder) a.is)) (t.far a.at (omega (arith, a.to))).1;
}
