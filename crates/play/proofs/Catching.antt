-- A message of a higher census is joined first: two steps of the relation in one.
use Rattle.std.proofs.Common.{◌≡◌, ℕ, ◌<◌, ◌≤◌, Bool, true, false, cond, eqb, ltb, List, ◌++◌, sym, refl, ap, subst, arith}
use mathlib.Core.Path.{fun_ext}
use mathlib.Core.List.Memᴰ
use Rattle.std.proofs.lemmas.List.{append-nil}
use Rattle.std.proofs.lemmas.Bool.{ltb-true, ltb-false, eq-eqb, cond-true}
use Rattle.rules.specs.House as rules
use Rattle.rules.specs.Step.{Outcome, in_census, caught_up}
use Rattle.promise.specs.Rounds as promise
use Rattle.play.specs.Play.{World, put, written}
use Rattle.play.specs.Seen.{seen}
use Rattle.play.proofs.Firm.{Firm}
use Rattle.play.proofs.Frame.{Deed, Way, Tracks}
use Rattle.play.proofs.Cleaning.{tracks_joined}

-- then steps that leave the rounds alone
way_on : {d : Deed} {cleaning : Bool} {n : ℕ} {a b c : promise.World} → Way d cleaning n a b → Way Deed.leaves cleaning n b c → Way d cleaning n a c
way_on l Way.same = l
way_on l (Way.more m t f s g) = Way.more (way_on l m) t (λ e. absurd (f e)) (λ e. absurd (s e)) g

pub put_here : {A : Type 0} (i : ℕ) (x : A) (f : ℕ → A) → put i x f i ≡ x
put_here i x f = cond-true (eqb i i) x (f i) (eq-eqb i i refl)

-- the later of two changes counts
put_again : {A : Type 0} (i : ℕ) (x y : A) (f : ℕ → A) → put i x (put i y f) ≡ put i x f
put_again i x y f = fun_ext (λ j. go (eqb j i) (f j))
  where
    go : (b : Bool) (z : _) → cond b x (cond b y z) ≡ cond b x z
    go true z = refl
    go false z = refl

firm_joined : (n i c : ℕ) (h : rules.House) → Firm n i h → Firm n i (in_census c h)
firm_joined n i c h f =
    record {
      self = f.self;
      houses = f.houses;
      inside = f.inside;
      few = f.few;
      own = f.own;
      upto = f.upto;
      fits = f.fits;
      rises = f.rises;
      told = refl;
      given = f.given;
      seen = f.seen;
      heard = f.heard;
      tally = omega arith;
      slots = refl;
    }

module _ (n i : ℕ) (w : World) (f : Firm n i (w.house i)) (c : ℕ) where
  abbrev joined_to : World
  joined_to = record { house = put i (in_census c (w.house i)) w.house; sent = w.sent }

  -- what holds of a house in census c after the join, or without it, holds of the two together
  pub tracks_caught : (F : rules.House → Outcome) → rules.census (w.house i) ≤ c →
      ((v : World) → Firm n i (v.house i) → rules.census (v.house i) ≡ c → v.sent ≡ w.sent → Tracks true n i v (F (v.house i))) → Tracks true n i w (F (caught_up c (w.house i)))
  tracks_caught F low g = go (ltb (rules.census (w.house i)) c) refl
    where
      same : {a b : ℕ} → a ≤ b → b ≤ a → a ≡ b
      same p q = omega arith

      here : put i (in_census c (w.house i)) w.house i ≡ in_census c (w.house i)
      here = put_here i (in_census c (w.house i)) w.house

      joins : rules.census (w.house i) < c → Way Deed.leaves true n (seen n w) (seen n joined_to)
      joins lt =
          subst (λ (bss : List (List ℕ)). Way Deed.leaves true n (seen n w) (seen n (record { house = put i (in_census c (w.house i)) w.house; sent = bss }))) (append-nil w.sent)
          (tracks_joined n i w f c lt (λ l m. absurd (Memᴰ.not-nil m)))

      then : Tracks true n i joined_to (F (in_census c (w.house i)))
      then =
          subst (λ (z : rules.House). Tracks true n i joined_to (F z)) here
          (g joined_to (subst (λ (z : rules.House). Firm n i z) (sym here) (firm_joined n i c (w.house i) f)) (ap (λ (z : rules.House). rules.census z) here) refl)

      go : (b : Bool) → ltb (rules.census (w.house i)) c ≡ b → Tracks true n i w (F (cond b (in_census c (w.house i)) (w.house i)))
      go true e r =
          subst (λ (hs : ℕ → rules.House). Way Deed.leaves true n (seen n w) (seen n (record { house = hs; sent = w.sent ++ written (F (in_census c (w.house i))).answer })))
          (put_again i (F (in_census c (w.house i))).house (in_census c (w.house i)) w.house) (way_on (joins (ltb-true (rules.census (w.house i)) c e)) (then r))
      go false e r = g w f (same low (ltb-false (rules.census (w.house i)) c e)) refl r
