-- The answers of calm houses come to the house that asks: after the second round it sends that the census is complete, and all sweep.
use Rattle.std.proofs.Common.{◌≡◌, ℕ, zero, suc, ◌+◌, ◌<◌, ◌≤◌, Bool, true, false, cond, ◌&&◌, eqb, List, [], ◌∷◌, ◌++◌, map, Ok, sym, refl, ap, ◌∙◌, subst, append-nil, arith}
use mathlib.Core.List.{Memᴰ}
use Rattle.std.proofs.lemmas.Bool.{eq-eqb, ne_eqb, eqb-false}
use Rattle.lines.specs.Listed.{Listed, swept}
use Rattle.rounds.specs.Model.{Slot, Desk, noted, completes}
use Rattle.rules.specs.House.{House, census, with_list, with_desk}
use Rattle.rules.specs.Step.{Outcome, Letter, sends}
use Rattle.play.specs.Play.{World, delivers, bytes_of, play, plays}
use Rattle.play.specs.Settle.{below, delivery, pump}
use Rattle.play.specs.Exact.{Swept}
use Rattle.play.proofs.Frame.{moved, put_cases}
use Rattle.play.proofs.Pump.{got, Waits, reached, waits_got, waits_next, pump_on, pump_one, pump_end}
use Rattle.play.proofs.Calm.{Calmly, reply_of, complete_of, noting_is, calmly_desk, sweeps_is, swept_own}
use Rattle.play.proofs.CalmDesk.{Heard, heard_noted}
use Rattle.play.proofs.CalmAsked.{AllCalm, calm_moved, below_more}

-- k houses from j on
abbrev ups : ℕ → ℕ → List ℕ
ups j zero = []
ups j (suc k) = j ∷ ups (suc j) k

ups_last : (j k : ℕ) → ups j (suc k) ≡ ups j k ++ ((j + k) ∷ [])
ups_last j zero = let e : j ≡ j + 0 = omega arith in ap (λ (z : ℕ). z ∷ []) e
ups_last j (suc k) = let e : suc j + k ≡ j + suc k = omega arith in ap (λ (z : List ℕ). j ∷ z) (ups_last (suc j) k) ∙ ap (λ (z : ℕ). j ∷ (ups (suc j) k ++ (z ∷ []))) e

below_ups : (n : ℕ) → below n ≡ ups 0 n
below_ups zero = refl
below_ups (suc n) = let e : n ≡ 0 + n = omega arith in ap (λ (z : List ℕ). z ++ (n ∷ [])) (below_ups n) ∙ ap (λ (z : ℕ). ups 0 n ++ (z ∷ [])) e ∙ sym (ups_last 0 n)

module _ (P : World → Type 0) (n c r : ℕ) (t : ℕ → ℕ) (old : List Slot) (two : Bool) (some : 0 < n) (first : 1 ≤ r)
    (ends : (j : ℕ) (d : Desk) → Heard t r j old d → j < n → completes n r j true (t j) d ≡ (eqb (suc j) n && two)) where
  abbrev Then : Type 0
  Then = (v : World) (m k : ℕ) → Waits n m v (cond two (complete_of c ∷ []) []) → AllCalm n c t v → Heard t r n old (v.house 0).desk → 2 ≤ k → P (plays n (pump k n m v) v)

  -- an answer comes
  module _ (j m : ℕ) (w : World) (ls : List Letter) (lt : j < n) (q : Waits n m w (reply_of c r t j ∷ ls)) (calm : AllCalm n c t w) (d : Heard t r j old (w.house 0).desk) where
    noted_house : House
    noted_house = (got (reply_of c r t j) (w.house 0)).house

    new : List Letter
    new = cond (eqb (suc j) n && two) (complete_of c ∷ []) []

    is : got (reply_of c r t j) (w.house 0) ≡ sends new (with_desk (noted r j true (t j) (w.house 0).desk) (w.house 0))
    unfolding new
    is = noting_is n c r j (t j) (w.house 0) (eqb (suc j) n && two) (q.kept.self 0 some) (q.kept.houses 0 some) (calm 0 some).census (ends j (w.house 0).desk d lt)

    after : World
    after = moved 0 (got (reply_of c r t j) (w.house 0)).house (map bytes_of new) w

    hears_one : (k : ℕ) → (Waits n (m + 1) after (ls ++ new) → AllCalm n c t after → Heard t r (suc j) old (after.house 0).desk → P (plays n (pump k n (m + 1) after) after)) → P (plays n (pump (suc k) n m w) w)
    unfolding after
    hears_one k f =
        pump_one n m w (reply_of c r t j) ls q P k 0 refl some new (ap (λ (x : Outcome). x.answer) is) (λ z.
        f z
        (calm_moved n c t w 0 (got (reply_of c r t j) (w.house 0)).house (map bytes_of new) calm (λ _. subst (Calmly c (t 0)) (sym (ap (λ (x : Outcome). x.house) is)) (calmly_desk c (t 0) r j (t j) (w.house 0) (calm 0 some))))
        (subst (Heard t r (suc j) old) (sym (ap (λ (x : Outcome). x.house.desk) is)) (heard_noted t r j old (w.house 0).desk d first (omega (arith, q.kept.few)))))

  last_new : (j : ℕ) → suc j ≡ n → cond (eqb (suc j) n && two) (complete_of c ∷ []) [] ≡ cond two (complete_of c ∷ []) []
  last_new j e = ap (λ (b : Bool). cond (b && two) (complete_of c ∷ []) []) (eq-eqb (suc j) n e)

  no_new : (j : ℕ) → (suc j ≡ n → ⊥) → cond (eqb (suc j) n && two) (complete_of c ∷ []) [] ≡ []
  no_new j e = ap (λ (b : Bool). cond (b && two) (complete_of c ∷ []) []) (ne_eqb (suc j) n e)

  -- all that are left
  hears_rest : (left j m k : ℕ) (w : World) → j + suc left ≡ n → Waits n m w (map (reply_of c r t) (ups j (suc left))) → AllCalm n c t w → Heard t r j old (w.house 0).desk → suc left + 2 ≤ k → Then → P (plays n (pump k n m w) w)
  unfolding new
  hears_rest left j m zero w e q calm d room f = absurd (omega arith)
  hears_rest zero j m (suc k) w e q calm d room f =
      hears_one j m w [] (omega arith) q calm d k (λ z a b.
      f (after j m w [] (omega arith) q calm d) (m + 1) k
      (subst (λ (ls : List Letter). Waits n (m + 1) (after j m w [] (omega arith) q calm d) ls) (last_new j (omega arith)) z) a
      (subst (λ (x : ℕ). Heard t r x old ((after j m w [] (omega arith) q calm d).house 0).desk) (one e) b) (omega arith))
    where
      one : j + 1 ≡ n → suc j ≡ n
      one p = omega arith
  hears_rest (suc left) j m (suc k) w e q calm d room f =
      hears_one j m w (map (reply_of c r t) (ups (suc j) (suc left))) (omega arith) q calm d k (λ z a b.
      hears_rest left (suc j) (m + 1) k (after j m w (map (reply_of c r t) (ups (suc j) (suc left))) (omega arith) q calm d) (omega arith)
      (subst (λ (ls : List Letter). Waits n (m + 1) (after j m w (map (reply_of c r t) (ups (suc j) (suc left))) (omega arith) q calm d) ls)
      (ap (λ (ls : List Letter). map (reply_of c r t) (ups (suc j) (suc left)) ++ ls) (no_new j (λ p. omega arith)) ∙ append-nil (map (reply_of c r t) (ups (suc j) (suc left)))) z) a b (omega arith) f)

  pub hears_all : (m k : ℕ) (w : World) → Waits n m w (map (reply_of c r t) (below n)) → AllCalm n c t w → Heard t r 0 old (w.house 0).desk → n + 2 ≤ k → Then → P (plays n (pump k n m w) w)
  hears_all m k w q calm d room f = go n refl
    where
      go : (x : ℕ) → n ≡ x → P (plays n (pump k n m w) w)
      go zero e = absurd (omega arith)
      go (suc left) e =
          hears_rest left 0 m k w (omega arith) (subst (λ (ls : List ℕ). Waits n m w (map (reply_of c r t) ls)) (below_ups n ∙ ap (ups 0) e) q) calm d (omega arith) f

-- the news that the census is complete comes to all
module _ (n c m : ℕ) where
  record Sweeping (j : ℕ) (w : World) : Type 0 where
    waits : Waits n m w (complete_of c ∷ [])
    census : (i : ℕ) → i < n → census (w.house i) ≡ c
    own : (i : ℕ) → i < j → (e : Listed) → Memᴰ e (w.house i).list → e.census ≡ c

  sweeps_one : (j : ℕ) (w : World) → j < n → Sweeping j w → Sweeping (suc j) (play n (delivers j m) w)
  sweeps_one j w lt a =
      subst (Sweeping (suc j)) (sym (reached n m w (complete_of c) [] a.waits j lt [] answer))
      (record {
        waits = waits_got n m w (complete_of c) [] a.waits j lt [] answer;
        census = put_cases j (λ i b. i < n → census (cond b new (w.house i)) ≡ c) (λ _. ap (λ (x : Outcome). census x.house) is ∙ a.census j lt) (λ i l. a.census i l);
        own = λ i l. go i (eqb i j) refl l;
      })
    where
      new : House
      new = (got (complete_of c) (w.house j)).house

      is : got (complete_of c) (w.house j) ≡ sends [] (with_list (swept c (w.house j).list) (w.house j))
      is = sweeps_is c (w.house j) (a.census j lt)

      answer : (got (complete_of c) (w.house j)).answer ≡ Ok []
      answer = ap (λ (x : Outcome). x.answer) is

      go : (i : ℕ) (b : Bool) → eqb i j ≡ b → i < suc j → (e : Listed) → Memᴰ e (cond b new (w.house i)).list → e.census ≡ c
      go i true e l x z = swept_own c (w.house j).list x (subst (λ (ls : List Listed). Memᴰ x ls) (ap (λ (y : Outcome). y.house.list) is) z)
      go i false e l x z = a.own i (earlier l (eqb-false i j e)) x z
        where
          earlier : i < suc j → (i ≡ j → ⊥) → i < j
          earlier p q = omega arith

  sweeps_all : (j : ℕ) (w : World) → j ≤ n → Sweeping 0 w → Sweeping j (plays n (map (delivery m) (below j)) w)
  sweeps_all zero w le a = a
  sweeps_all (suc j) w le a = subst (Sweeping (suc j)) (sym (below_more n m j w)) (sweeps_one j (plays n (map (delivery m) (below j)) w) (omega arith) (sweeps_all j w (omega arith) a))

pub swept_by : (n c m k : ℕ) (w : World) → Waits n m w (complete_of c ∷ []) → ((i : ℕ) → i < n → census (w.house i) ≡ c) → 1 ≤ k → Swept n c (plays n (pump k n m w) w)
swept_by n c m zero w q e room = absurd (omega arith)
swept_by n c m (suc k) w q e room =
    let v = plays n (map (delivery m) (below n)) w in
    let a = sweeps_all n c m n w (omega arith) (record { waits = q; census = e; own = λ i l. absurd (none l) }) in
    pump_on n m w (complete_of c) [] q (Swept n c) k v refl
    (pump_end (Swept n c) n k (m + 1) v (waits_next n m v (complete_of c) [] a.waits) (λ i l. (a.census i l, a.own i l)))
  where
    none : {x : ℕ} → x < 0 → ⊥
    none l = omega arith
