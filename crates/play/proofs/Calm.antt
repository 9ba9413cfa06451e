-- A house that is calm, and how it answers a round and the news that the census is complete.
use Rattle.std.proofs.Common.{◌≡◌, ℕ, Bool, true, false, cond, not, ◌&&◌, eqb, ltb, List, [], ◌∷◌, sym, refl, ap, ◌∙◌, subst, ⊎_elim, arith}
use mathlib.Core.List.Memᴰ
use mathlib.Core.List.{Memᴰ}
use Rattle.std.proofs.lemmas.Bool.{and_from, and_right, not_from_false, cond_both, cond-false, eq-eqb, le-ltb, eqb-true}
use Rattle.wire.specs.declared.message.Message.TheVariants as message
use Rattle.wire.specs.declared.refusal.Refusal.TheVariants.{OtherCensus}
use Rattle.wire.specs.Names.{house}
use Rattle.lines.specs.Listed.{Listed, swept}
use Rattle.census.specs.Model.{Part, calm, says_calm, polling, asks}
use Rattle.rounds.specs.Model.{noted, completes}
use Rattle.rules.specs.House.{House, self, houses, census, with_part, with_list, with_desk}
use Rattle.rules.specs.Step.{Outcome, Letter, refused, sends, letter, used, in_census, caught_up, replies_to}
use Rattle.play.proofs.Pump.{got}

-- in census c, calm, with tally t
pub record Calmly (c t : ℕ) (h : House) : Type 0 where
  pub census : census h ≡ c
  pub calm : calm (used h) h.part ≡ true
  pub stirred : h.part.stirred ≡ false
  pub tally : h.part.tally ≡ t

abbrev pub round_of : ℕ → ℕ → Letter
round_of c r = letter (message.Round (record { 0 = c }) (record { 0 = r }))

-- what calm houses with these tallies say
abbrev pub reply_of : (c r : ℕ) → (ℕ → ℕ) → ℕ → Letter
reply_of c r t i = letter (message.Reply (record { 0 = c }) (record { 0 = r }) (house i) true (record { 0 = t i }))

abbrev pub complete_of : ℕ → Letter
complete_of c = letter (message.Complete (record { 0 = c }))

below_none : (z : ℕ) → ltb z z ≡ false
below_none z = le-ltb z z (omega arith)

says_true : (r : ℕ) (us : List ℕ) (p : Part) → p.stirred ≡ false → calm us p ≡ true → says_calm r us p ≡ true
says_true r us p e f = and_from (not (eqb r 2 && p.stirred)) (calm us p) (not_from_false (eqb r 2 && p.stirred) (and_right (eqb r 2) p.stirred e)) f

-- a round is answered
polled_own : (r : ℕ) (h : House) → got (round_of (census h) r) h ≡ sends (letter (message.Reply (record { 0 = census h }) (record { 0 = r }) (house (self h)) (says_calm r (used h) h.part) (record { 0 = h.part.tally })) ∷ []) (with_part (polling r h.part) h)
polled_own r h =
    cond-false (ltb (census h) (census h)) (refused OtherCensus h) (replies_to (census h) r (caught_up (census h) h)) (below_none (census h))
    ∙ ap (λ (g : House). replies_to (census h) r g) (cond-false (ltb (census h) (census h)) (in_census (census h) h) h (below_none (census h)))
    ∙ rw (eq-eqb (census h) (census h) refl) (rw (eq-eqb (census h) (census h) refl))

pub polled_is : (c r : ℕ) (t : ℕ → ℕ) (i : ℕ) (h : House) → self h ≡ i → Calmly c (t i) h → got (round_of c r) h ≡ sends (reply_of c r t i ∷ []) (with_part (polling r h.part) h)
polled_is c r t i h own q =
    subst (λ (z : ℕ). got (round_of z r) h ≡ sends (letter (message.Reply (record { 0 = z }) (record { 0 = r }) (house i) true (record { 0 = t i })) ∷ []) (with_part (polling r h.part) h)) q.census
    (polled_own r h
    ∙ ap (λ (z : ℕ). says z (says_calm r (used h) h.part) h.part.tally) own
    ∙ ap (λ (z : Bool). says i z h.part.tally) (says_true r (used h) h.part q.stirred q.calm)
    ∙ ap (λ (z : ℕ). says i true z) q.tally)
  where
    says : ℕ → Bool → ℕ → Outcome
    says a b s = sends (letter (message.Reply (record { 0 = census h }) (record { 0 = r }) (house a) b (record { 0 = s })) ∷ []) (with_part (polling r h.part) h)

-- and leaves it as calm as it was
pub calmly_polled : (c t r : ℕ) (h : House) → Calmly c t h → Calmly c t (with_part (polling r h.part) h)
calmly_polled c t r h q = record { census = q.census; calm = q.calm; stirred = q.stirred; tally = q.tally }

-- the house that asks notes an answer
pub noting_is : (n c r i t : ℕ) (h : House) (b : Bool) → self h ≡ 0 → houses h ≡ n → census h ≡ c → completes n r i true t h.desk ≡ b →
    got (letter (message.Reply (record { 0 = c }) (record { 0 = r }) (house i) true (record { 0 = t }))) h ≡ sends (cond b (complete_of c ∷ []) []) (with_desk (noted r i true t h.desk) h)
noting_is n c r i t h b own many e f =
    let a : asks (self h) ≡ true = eq-eqb (self h) 0 own in
    let d : eqb c (census h) ≡ true = eq-eqb c (census h) (sym e) in
    let g : completes (houses h) r i true t h.desk ≡ b = ap (λ (z : ℕ). completes z r i true t h.desk) many ∙ f in
    rw (a, d, g)

pub calmly_desk : (c t r i s : ℕ) (h : House) → Calmly c t h → Calmly c t (with_desk (noted r i true s h.desk) h)
calmly_desk c t r i s h q = record { census = q.census; calm = q.calm; stirred = q.stirred; tally = q.tally }

-- the census is complete
pub sweeps_is : (c : ℕ) (h : House) → census h ≡ c → got (complete_of c) h ≡ sends [] (with_list (swept c h.list) h)
sweeps_is c h e = let d : eqb c (census h) ≡ true = eq-eqb c (census h) (sym e) in rw d

pub swept_own : (c : ℕ) (es : List Listed) (e : Listed) → Memᴰ e (swept c es) → e.census ≡ c
unfolding swept
swept_own c [] e m = absurd (Memᴰ.not-nil m)
swept_own c (x ∷ es) e m =
    cond_both (eqb x.census c) (x ∷ swept c es) (swept c es) (λ fs. Memᴰ e fs → e.census ≡ c)
    (λ t z. ⊎_elim (λ q. ap (λ (y : Listed). y.census) q ∙ eqb-true x.census c t) (λ q. swept_own c es e q) (Memᴰ.cases_cons z))
    (λ t z. swept_own c es e z) m
