-- A round among calm houses: it comes to each, and each says that it is calm, with its tally.
use Rattle.std.proofs.Common.{◌≡◌, ℕ, zero, suc, ◌+◌, ◌*◌, ◌<◌, ◌≤◌, true, cond, List, [], ◌∷◌, map, length, Ok, sym, refl, ap, ◌∙◌, subst, arith}
use mathlib.Core.List.{map-append}
use Rattle.std.proofs.lemmas.Bool.{eq-eqb}
use Rattle.wire.specs.declared.call.Call.TheVariants as call
use Rattle.census.specs.Model.{asks, polling}
use Rattle.rounds.specs.Model.{Desk, ready, beginning, begun, next}
use Rattle.rules.specs.House.{House, self, houses, census, with_part, with_desk}
use Rattle.rules.specs.Step.{Outcome, Letter, sends, step, round}
use Rattle.play.specs.Play.{World, Entry, delivers, bytes_of, play, plays}
use Rattle.play.specs.Settle.{below, delivery, pump, rounding}
use Rattle.play.proofs.Frame.{moved, put_cases, desk_kept}
use Rattle.play.proofs.Tracking.{Kept}
use Rattle.play.proofs.FairEntries.{plays_append}
use Rattle.play.proofs.Pump.{got, Waits, reached, waits_got, waits_next, pump_on, calling_on}
use Rattle.play.proofs.Calm.{Calmly, round_of, reply_of, polled_is, calmly_polled}
use Rattle.play.proofs.CalmDesk.{begins_next}

-- all n houses are calm, with these tallies
abbrev pub AllCalm : (n c : ℕ) → (ℕ → ℕ) → World → Type 0
AllCalm n c t w = (i : ℕ) → i < n → Calmly c (t i) (w.house i)

pub calm_moved : (n c : ℕ) (t : ℕ → ℕ) (w : World) (i : ℕ) (h : House) (bss : List (List ℕ)) → AllCalm n c t w → (i < n → Calmly c (t i) h) → AllCalm n c t (moved i h bss w)
calm_moved n c t w i h bss q f = put_cases i (λ j b. j < n → Calmly c (t j) (cond b h (w.house j))) f (λ j l. q j l)

-- one house more
pub below_more : (n m j : ℕ) (w : World) → plays n (map (delivery m) (below (suc j))) w ≡ play n (delivers j m) (plays n (map (delivery m) (below j)) w)
below_more n m j w = ap (λ (es : List Entry). plays n es w) (map-append (delivery m) (below j) (j ∷ [])) ∙ plays_append n (map (delivery m) (below j)) (delivers j m ∷ []) w

module _ (n c r : ℕ) (t : ℕ → ℕ) (d : Desk) (m : ℕ) where
  -- houses below j have answered
  record Asked (j : ℕ) (w : World) : Type 0 where
    waits : Waits n m w (round_of c r ∷ map (reply_of c r t) (below j))
    calm : AllCalm n c t w
    desk : (w.house 0).desk ≡ d

  asked_one : (j : ℕ) (w : World) → j < n → Asked j w → Asked (suc j) (play n (delivers j m) w)
  asked_one j w lt a =
      subst (Asked (suc j)) (sym (reached n m w (round_of c r) (map (reply_of c r t) (below j)) a.waits j lt (reply_of c r t j ∷ []) answer))
      (record {
        waits = subst (λ (ls : List Letter). Waits n m (moved j new (map bytes_of (reply_of c r t j ∷ [])) w) (round_of c r ∷ ls)) (sym (map-append (reply_of c r t) (below j) (j ∷ []))) (waits_got n m w (round_of c r) (map (reply_of c r t) (below j)) a.waits j lt (reply_of c r t j ∷ []) answer);
        calm = calm_moved n c t w j new (map bytes_of (reply_of c r t j ∷ [])) a.calm (λ _. subst (Calmly c (t j)) (sym (ap (λ (x : Outcome). x.house) is)) (calmly_polled c (t j) r (w.house j) (a.calm j lt)));
        desk = sym (desk_kept w j new (sym (ap (λ (x : Outcome). x.house.desk) is))) ∙ a.desk;
      })
    where
      new : House
      new = (got (round_of c r) (w.house j)).house

      is : got (round_of c r) (w.house j) ≡ sends (reply_of c r t j ∷ []) (with_part (polling r (w.house j).part) (w.house j))
      is = polled_is c r t j (w.house j) (a.waits.kept.self j lt) (a.calm j lt)

      answer : (got (round_of c r) (w.house j)).answer ≡ Ok (reply_of c r t j ∷ [])
      answer = ap (λ (x : Outcome). x.answer) is

  asked_all : (j : ℕ) (w : World) → j ≤ n → Asked 0 w → Asked j (plays n (map (delivery m) (below j)) w)
  asked_all zero w le a = a
  asked_all (suc j) w le a = subst (Asked (suc j)) (sym (below_more n m j w)) (asked_one j (plays n (map (delivery m) (below j)) w) (omega arith) (asked_all j w (omega arith) a))

rounds_is : (n c : ℕ) (h : House) → self h ≡ 0 → houses h ≡ n → census h ≡ c → ready n h.desk ≡ true → h.desk.round < 4294967295 →
    step h round ≡ sends (round_of c (h.desk.round + 1) ∷ []) (with_desk (next h.desk) h)
rounds_is n c h own many e may low =
    let a : asks (self h) ≡ true = eq-eqb (self h) 0 own in
    let b = begins_next n h.desk may low in
    let f : beginning (houses h) h.desk ≡ Ok (h.desk.round + 1) = ap (λ (z : ℕ). beginning z h.desk) many ∙ b.0 in
    let g : begun (houses h) h.desk ≡ next h.desk = ap (λ (z : ℕ). begun z h.desk) many ∙ b.1 in
    rw (a, f) (ap (λ (z : Desk). sends (round_of (census h) (h.desk.round + 1) ∷ []) (with_desk z h)) g ∙ ap (λ (z : ℕ). sends (round_of z (h.desk.round + 1) ∷ []) (with_desk (next h.desk) h)) e)

-- the house that asks begins a round, and it comes to all
pub rounding_on : (P : World → Type 0) (n c : ℕ) (t : ℕ → ℕ) (w : World) → Kept n w → 0 < n → AllCalm n c t w → ready n (w.house 0).desk ≡ true → (w.house 0).desk.round < 4294967295 →
    ((v : World) (m k : ℕ) → Waits n m v (map (reply_of c ((w.house 0).desk.round + 1) t) (below n)) → AllCalm n c t v → (v.house 0).desk ≡ next (w.house 0).desk → n + 2 ≤ k → P (plays n (pump k n m v) v)) →
    P (plays n (rounding n w) w)
rounding_on P n c t w kept some calm may low f =
    calling_on n 0 call.Round w kept some tt (round_of c r ∷ []) (ap (λ (x : Outcome). x.answer) is) P (λ q k room. go q k room)
  where
    r : ℕ
    r = (w.house 0).desk.round + 1

    is : step (w.house 0) round ≡ sends (round_of c ((w.house 0).desk.round + 1) ∷ []) (with_desk (next (w.house 0).desk) (w.house 0))
    is = rounds_is n c (w.house 0) (kept.self 0 some) (kept.houses 0 some) (calm 0 some).census may low

    v : World
    v = moved 0 (step (w.house 0) round).house (map bytes_of (round_of c ((w.house 0).desk.round + 1) ∷ [])) w

    begun_calm : Calmly c (t 0) (with_desk (next (w.house 0).desk) (w.house 0))
    begun_calm = let q = calm 0 some in record { census = q.census; calm = q.calm; stirred = q.stirred; tally = q.tally }

    begun_desk : (step (w.house 0) round).house.desk ≡ next (w.house 0).desk
    begun_desk = ap (λ (x : Outcome). x.house.desk) is

    go : Waits n (length w.sent) v (round_of c r ∷ []) → (k : ℕ) → 2 * length (round_of c r ∷ []) + n + 2 ≤ k → P (plays n (pump k n (length w.sent) v) v)
    go q zero room = absurd (omega arith)
    go q (suc k) room =
        let a = asked_all n c r t (next (w.house 0).desk) (length w.sent) n v (omega arith) (record { waits = q; calm = calm_moved n c t w 0 (step (w.house 0) round).house (map bytes_of (round_of c r ∷ [])) calm (λ _. subst (Calmly c (t 0)) (sym (ap (λ (x : Outcome). x.house) is)) begun_calm); desk = begun_desk }) in
        let u = plays n (map (delivery (length w.sent)) (below n)) v in
        pump_on n (length w.sent) v (round_of c r) [] q P k u refl
        (f u (length w.sent + 1) k (waits_next n (length w.sent) u (round_of c r) (map (reply_of c r t) (below n)) a.waits) a.calm a.desk (omega arith))
