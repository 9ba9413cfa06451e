-- All houses join a census above all.
use Rattle.std.proofs.Common.{◌≡◌, ℕ, zero, suc, ◌+◌, ◌<◌, ◌≤◌, max, ◌||◌, ltb, leb, List, [], ◌++◌, length, sym, refl, ap, ◌∙◌, subst, ⊎_elim, arith}
use Rattle.std.proofs.lemmas.List.{append-nil}
use Rattle.std.proofs.lemmas.Bool.{lt-ltb, le-ltb, lt-leb, or_from, cond-true, cond-false, cases_eq}
use Rattle.wire.specs.declared.call.Call.{Call}
use Rattle.wire.specs.declared.call.Call.TheVariants as call
use Rattle.wire.specs.declared.refusal.Refusal.TheVariants.{OutOfNumbers}
use Rattle.census.specs.Model as census
use Rattle.rounds.specs.Model as rounds
use Rattle.rules.specs.House as rules
use Rattle.rules.specs.Step.{Outcome, join, step, sends, refused, in_census, event_of}
use Rattle.promise.proofs.Base.{set_other, last, none_below}
use Rattle.play.specs.Play.{World, Entry, calls, put, happens, play, plays, written}
use Rattle.play.specs.Exact.{Joined}
use Rattle.play.specs.Settle.{pump, enough, calling, joins, above}
use Rattle.play.proofs.Tracking.{Kept}
use Rattle.play.proofs.FairEntries.{each_brings}
use Rattle.play.proofs.SettledWord.{pump_off}

-- a call that sends nothing
pub calling_quiet : (n i : ℕ) (c : Call) (w : World) (h : rules.House) → i < n → step (w.house i) (event_of c) ≡ sends [] h → plays n (calling n i c w) w ≡ record { house = put i h w.house; sent = w.sent }
calling_quiet n i c w h l e =
    ap (λ (v : World). plays n (pump (enough n (length w.sent) v) n (length w.sent) v) v) after
    ∙ ap (λ (es : List Entry). plays n es next) (pump_off (enough n (length w.sent) next) n (length w.sent) next (omega arith))
  where
    next : World
    next = record { house = put i h w.house; sent = w.sent }

    after : play n (calls i c) w ≡ next
    after =
        cond-true (ltb i n) (happens i (event_of c) w) w (lt-ltb i n l)
        ∙ ap (λ (x : Outcome). record { house = put i x.house w.house; sent = w.sent ++ written x.answer }) e
        ∙ ap (λ (bss : List (List ℕ)). record { house = put i h w.house; sent = bss }) (append-nil w.sent)

joins_step : (h : rules.House) (c : ℕ) → rules.census h < c → c ≤ 4294967295 → step h (join c) ≡ sends [] (in_census c h)
joins_step h c lt le =
    cond-false (leb c (rules.census h) || ltb 4294967295 c) (refused OutOfNumbers h) (sends [] (in_census c h)) (or_from (leb c (rules.census h)) (ltb 4294967295 c) (lt-leb c (rules.census h) lt) (le-ltb 4294967295 c le))

-- the houses below a have joined, the others are in earlier censuses
record Some (n c a : ℕ) (w : World) : Type 0 where
  done : (i : ℕ) → i < a → (w.house i).part ≡ census.fresh c
  desk : 0 < a → (w.house 0).desk ≡ rounds.idle
  todo : (i : ℕ) → a ≤ i → i < n → rules.census (w.house i) < c

some_more : (n c a : ℕ) (w : World) → c ≤ 4294967295 → a < n → Some n c a w → Some n c (suc a) (plays n (calling n a (call.Join c) w) w)
some_more n c a w le l f =
    subst (λ (v : World). Some n c (suc a) v) (sym (calling_quiet n a (call.Join c) w (in_census c (w.house a)) l (joins_step (w.house a) c (f.todo a (omega arith) l) le)))
    (record {
      done = set_other (λ i g. i < suc a → g.part ≡ census.fresh c) a (in_census c (w.house a)) w.house (λ _. refl) (λ i z q. f.done i (last q z));
      desk = set_other (λ i g. i ≡ 0 → i < suc a → g.desk ≡ rounds.idle) a (in_census c (w.house a)) w.house (λ _ _. refl)
          (λ i z e q. subst (λ (x : ℕ). (w.house x).desk ≡ rounds.idle) (sym e) (f.desk (subst (λ (x : ℕ). x < a) e (last q z)))) 0 refl;
      todo = set_other (λ i g. suc a ≤ i → i < n → rules.census g < c) a (in_census c (w.house a)) w.house (λ q _. absurd (self q)) (λ i z q y. f.todo i (less q) y);
    })
  where
    self : {x : ℕ} → suc x ≤ x → ⊥
    self q = omega arith

    less : {x y : ℕ} → suc x ≤ y → x ≤ y
    less q = omega arith

pub above_all : (k : ℕ) (w : World) (i : ℕ) → i < k → rules.census (w.house i) < above k w
above_all zero w i l = absurd (none_below l)
above_all (suc k) w i l =
    ⊎_elim (λ (e : i ≡ k). subst (λ (x : ℕ). rules.census (w.house x) < max (above k w) (rules.census (w.house k) + 1)) (sym e) (right (above k w) (rules.census (w.house k))))
    (λ (e : i ≡ k → ⊥). left (rules.census (w.house k) + 1) (above_all k w i (last l e))) (cases_eq i k)
  where
    right : (x y : ℕ) → y < max x (y + 1)
    right x y = omega arith

    left : {x y : ℕ} (z : ℕ) → x < y → x < max y z
    left z p = omega arith

pub above_few : (k : ℕ) (w : World) → ((i : ℕ) → i < k → rules.census (w.house i) < 4294967295) → above k w ≤ 4294967295
above_few zero w f = omega arith
above_few (suc k) w f = both (above_few k w (λ i l. f i (more l))) (f k (omega arith))
  where
    more : {x y : ℕ} → x < y → x < suc y
    more p = omega arith

    both : {x y z : ℕ} → x ≤ z → y < z → max x (y + 1) ≤ z
    both p q = omega arith

pub joins_all : (n c : ℕ) (w : World) → 0 < n → Kept n w → c ≤ 4294967295 → ((i : ℕ) → i < n → rules.census (w.house i) < c) → Joined n c (plays n (joins n c w) w)
joins_all n c w some k le low =
    let z = each_brings n (Some n c) (λ i v. calling n i (call.Join c) v) (λ a v l x f. some_more n c a v le l f) n w k
    (record { done = λ i l. absurd (none_below l); desk = λ l. absurd (none_below l); todo = λ i _ l. low i l }) (omega arith) in
    record { census = λ i l. ap (λ (p : census.Part). p.census) (z.done i l); part = z.done; desk = z.desk some }
