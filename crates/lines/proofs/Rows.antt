-- Laws of rows, and of columns with one more line.
use Rattle.std.proofs.Common.{◌≡◌, ℕ, zero, suc, ◌+◌, ◌-◌, ◌<◌, ◌≤◌, Bool, true, false, cond, ◌≢◌, List, [], ◌∷◌, ◌++◌, length, get_or, set, Some, None, sym, refl, ap, ◌∙◌, subst, ⊎_elim, arith, get_or-set_other, get_or-set_same}
use Rattle.std.proofs.lemmas.Bool.{cases_eq}
use Rattle.std.proofs.lemmas.List.{append-nil}
use Rattle.std.proofs.lemmas.List.FromFn.{map-range_with_len_more, filter_of_map_range_with_len_more}
use Rattle.std.specs.List.{filter}
use Rattle.wire.specs.Names.{home}
use Rattle.lines.specs.Listed.{Listed, line}
use Rattle.lines.specs.Columns.{rows, Alone, Own, Far}
use Rattle.lines.specs.Lists.{lines, row_of, shown, line_at, Pushed, Ready}
use Rattle.lines.specs.declared.table.Lines.{Lines}

pub rows_more : (f : ℕ → Listed) (i n : ℕ) → i < n → rows f i (n - i) ≡ f i ∷ rows f (i + 1) (n - (i + 1))
rows_more f i n h = let e : n - i ≡ suc (n - (i + 1)) = omega arith in rw e

pub rows_none : (f : ℕ → Listed) (i n : ℕ) → n ≤ i → rows f i (n - i) ≡ []
rows_none f i n h = let e : n - i ≡ 0 = omega arith in rw e

pub rows_same : (f g : ℕ → Listed) (i n : ℕ) → ((x : ℕ) → i ≤ x → x < i + n → f x ≡ g x) → rows f i n ≡ rows g i n
rows_same f g i zero h = refl
rows_same f g i (suc n) h =
    let a : f i ≡ g i = h i (omega arith) (omega arith) in
    let b : rows f (i + 1) n ≡ rows g (i + 1) n = rows_same f g (i + 1) n (λ x p q. h x (omega arith) (omega arith)) in
    cc

-- the first n rows and one more
pub rows_end : (f : ℕ → Listed) (n : ℕ) → rows f 0 (n + 1) ≡ rows f 0 n ++ f n ∷ []
rows_end f n = map-range_with_len_more f 0 n n (omega arith)

-- and those of them that pass a test
pub passed : (p : Listed → Bool) (f : ℕ → Listed) (n : ℕ) → p (f n) ≡ true → filter p (rows f 0 (n + 1)) ≡ filter p (rows f 0 n) ++ f n ∷ []
passed p f n e = filter_of_map_range_with_len_more p f 0 n n (omega arith) ∙ ap (λ b. filter p (rows f 0 n) ++ cond b (f n ∷ []) []) e

pub failed : (p : Listed → Bool) (f : ℕ → Listed) (n : ℕ) → p (f n) ≡ false → filter p (rows f 0 (n + 1)) ≡ filter p (rows f 0 n)
failed p f n e = filter_of_map_range_with_len_more p f 0 n n (omega arith) ∙ ap (λ b. filter p (rows f 0 n) ++ cond b (f n ∷ []) []) e ∙ append-nil (filter p (rows f 0 n))

pub line_same : {o j s c o' j' s' c' : ℕ} → o ≡ o' → j ≡ j' → s ≡ s' → c ≡ c' → line o j s c ≡ line o' j' s' c'
line_same p q r t = cc

pub line_at_none : (f : ℕ → Listed) (a n i : ℕ) → n ≤ i → line_at i (rows f a n) ≡ None
unfolding line_at
line_at_none f a zero i h = refl
line_at_none f a (suc n) zero h = absurd (omega arith)
line_at_none f a (suc n) (suc i) h = line_at_none f (a + 1) n i (omega arith)

pub line_at_row : (f : ℕ → Listed) (a n i : ℕ) → i < n → line_at i (rows f a n) ≡ Some (shown (f (a + i)))
unfolding line_at
line_at_row f a zero i h = absurd (omega arith)
line_at_row f a (suc n) zero h = let z : a ≡ a + 0 = omega arith in ap (λ k. Some (shown (f k))) z
line_at_row f a (suc n) (suc i) h =
    let z : (a + 1) + i ≡ a + suc i = omega arith in
    line_at_row f (a + 1) n i (omega arith) ∙ ap (λ k. Some (shown (f k))) z

-- the first n places of columns, and a line that is new to them at place n
module _ (os hs : List ℕ) (n o j : ℕ) (in-os : n < length os) (in-hs : n < length hs) where
  pub alone_more : Alone os hs n → ((k : ℕ) → k < n → get_or os k 0 ≡ o → get_or hs k 0 ≡ j → ⊥) → Alone (set os n o) (set hs n j) (n + 1)
  alone_more old new i k (h, l, eo, eh) =
      let ni : i ≢ n = λ q. omega arith in
      let a : get_or (set os n o) i 0 ≡ get_or os i 0 = get_or-set_other os n i o 0 ni in
      let b : get_or (set hs n j) i 0 ≡ get_or hs i 0 = get_or-set_other hs n i j 0 ni in
      ⊎_elim
      (λ q.
      new i (omega arith)
      (sym a ∙ eo ∙ ap (λ x. get_or (set os n o) x 0) q ∙ get_or-set_same os n o 0 in-os)
      (sym b ∙ eh ∙ ap (λ x. get_or (set hs n j) x 0) q ∙ get_or-set_same hs n j 0 in-hs))
      (λ q. old i k (h, omega arith, sym a ∙ eo ∙ get_or-set_other os n k o 0 q, sym b ∙ eh ∙ get_or-set_other hs n k j 0 q))
      (cases_eq k n)

  pub own_more : (here : ℕ) → Own here os n → home o ≡ here → Own here (set os n o) (n + 1)
  own_more here old new k h =
      ⊎_elim
      (λ q. ap (λ x. home (get_or (set os n o) x 0)) q ∙ ap home (get_or-set_same os n o 0 in-os) ∙ new)
      (λ q. ap home (get_or-set_other os n k o 0 q) ∙ old k (omega arith))
      (cases_eq k n)

  pub far_more : (here houses : ℕ) → Far here houses hs n → (j ≡ here → ⊥) → j < houses → Far here houses (set hs n j) (n + 1)
  far_more here houses old new low k h =
      let P : ℕ → Type 0 = λ x. (x ≡ here → ⊥) × (x < houses) in
      ⊎_elim
      (λ q. subst P (sym (ap (λ x. get_or (set hs n j) x 0) q ∙ get_or-set_same hs n j 0 in-hs)) (new, low))
      (λ q. subst P (sym (get_or-set_other hs n k j 0 q)) (old k (omega arith)))
      (cases_eq k n)

-- a line more at the end of a list
module _ (t u : Lines) (e : Listed) (w : Pushed t e u) where
  pub pushed_other : (x : ℕ) → x ≢ t.len → row_of t x ≡ row_of u x
  pushed_other x ne = rw (w.objects, w.holders, w.stamps, w.censuses)
      (line_same (sym (get_or-set_other _ t.len x _ 0 ne)) (sym (get_or-set_other _ t.len x _ 0 ne)) (sym (get_or-set_other _ t.len x _ 0 ne)) (sym (get_or-set_other _ t.len x _ 0 ne)))

  pub pushed_here : t.len < t.room → row_of u t.len ≡ e
  pushed_here h =
      let r = t.roomy in
      rw (w.objects, w.holders, w.stamps, w.censuses)
      (line_same (get_or-set_same _ t.len _ 0 (omega arith)) (get_or-set_same _ t.len _ 0 (omega arith)) (get_or-set_same _ t.len _ 0 (omega arith)) (get_or-set_same _ t.len _ 0 (omega arith)))

  pub pushed_lines : t.len < t.room → lines u ≡ lines t ++ e ∷ []
  pushed_lines h =
      let front : rows (row_of u) 0 t.len ≡ rows (row_of t) 0 t.len = sym (rows_same (row_of t) (row_of u) 0 t.len (λ x a b. pushed_other x (λ q. omega arith))) in
      ap (rows (row_of u) 0) w.len ∙ rows_end (row_of u) t.len ∙ ap (λ r. r ++ row_of u t.len ∷ []) front ∙ ap (λ r. lines t ++ r ∷ []) (pushed_here h)

-- a line that is new to t: there is room, it belongs there, and there is none of its object and holder
pub record Fresh (t : Lines) (e : Listed) : Type 0 where
  pub room : t.len < t.room
  pub own : home e.object ≡ t.home.0
  pub apart : e.holder ≡ t.home.0 → ⊥
  pub below : e.holder < t.houses
  pub alone : (k : ℕ) → k < t.len → get_or t.objects.now k 0 ≡ e.object → get_or t.holders.now k 0 ≡ e.holder → ⊥

pub fresh_ready : (t : Lines) (e : Listed) → Fresh t e → Ready t e
fresh_ready t e w =
    let r = t.roomy in
    let os = t.objects.now in
    let hs = t.holders.now in
    let lo : t.len < length os = omega (arith, w.room) in
    let lh : t.len < length hs = omega (arith, w.room) in
    record {
      room = w.room;
      alone = alone_more os hs t.len e.object e.holder lo lh t.alone w.alone;
      own = own_more os hs t.len e.object e.holder lo lh t.home.0 t.own w.own;
      far = far_more os hs t.len e.object e.holder lo lh t.home.0 t.houses t.far w.apart w.below;
    }
