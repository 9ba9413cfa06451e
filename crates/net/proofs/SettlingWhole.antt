-- The whole of settling: what it leaves is exactly what matters.
use Rattle.std.proofs.Common.{◌≡◌, ℕ, ◌+◌, ◌≤◌, Bool, true, false, List, [], length, IsErrAnd, Ok, Err, Result, vec_items, sym, refl, ap, ◌∙◌, subst}
use mathlib.Core.Logic.{∥∥₁_map}
use Rattle.wire.specs.declared.call.Call.TheVariants as call
use Rattle.objects.specs.declared.fault.Fault.{Fault}
use Rattle.objects.specs.declared.fault.Fault.TheVariants.{NoMemory}
use Rattle.store.specs.declared.table.Store.{Store}
use Rattle.store.specs.Sending.{contents}
use Rattle.play.specs.Play.{World}
use Rattle.play.specs.Settle.{and_then, calling, each, words, above, tallies, joins, completing, collects, settling}
use Rattle.play.specs.ExactPart.{SettlesPart}
use Rattle.play.proofs.ExactPart.{settles_part, bounded_part}
use Rattle.play.specs.Bound.{line_count, most}
use Rattle.net.specs.Worlds.{world_of}
use Rattle.net.specs.Nets.{count, world, Promised}
use Rattle.net.specs.Settling.{Script, Along, IsLeft, Whole, Short, Ends}
use Rattle.net.specs.declared.net.Net.{Net}
use Rattle.net.proofs.Entered.{promised}
use Rattle.net.proofs.SettlingParts.{along_then, along_front, along_as}
use Rattle.net.proofs.SettlingReads.{above_sent, tallies_sent, above_left}

-- a net keeps the promise by itself
pub keeps : (t : Net) → Promised t
keeps t = promised (count t) (world t) t.faithful t.some t.few t.reached

-- what is read off its houses
pub above_in : (k : ℕ) (t : Net) (xs : List Store) → xs ≡ vec_items t.houses → k ≡ above (length xs) (world_of xs []) → k ≡ above (count t) (world t)
above_in k t xs ex e = e ∙ ap (λ (ys : List Store). above (length ys) (world_of ys [])) ex ∙ above_sent (count t) (vec_items t.houses) [] (contents t.sent)

pub tallies_in : (k : ℕ) (t : Net) (xs : List Store) → xs ≡ vec_items t.houses → k ≡ tallies (length xs) (world_of xs []) → k ≡ tallies (count t) (world t)
tallies_in k t xs ex e = e ∙ ap (λ (ys : List Store). tallies (length ys) (world_of ys [])) ex ∙ tallies_sent (count t) (vec_items t.houses) [] (contents t.sent)

pub along_joins : (r : Bool) (k : ℕ) (t u : Net) → k ≡ above (count t) (world t) → Along r (λ n w. each n (λ i v. calling n i (call.Join k) v) n w) t u → Along r (λ n w. joins n (above n w) w) t u
along_joins r k t u e a = along_as r (λ n w. joins n k w) (λ n w. joins n (above n w) w) t u (ap (λ (j : ℕ). joins (count t) j (world t)) e) a

-- joins and what follows, the census and what follows
abbrev pub from_census : Script
from_census n w = and_then n w (completing n w) (λ x. collects n x)

abbrev pub from_joins : Script
from_joins n w = and_then n w (joins n (above n w) w) (λ u. from_census n u)

-- each part was played
module _ (r : Bool) (t a b c d : Net) (words-said : Along true (λ n w. words n w) t a) (all_joined : Along true (λ n w. joins n (above n w) w) a b) where
  pub entries : Along true (λ n w. completing n w) b c → Along r (λ n w. collects n w) c d → Along r (λ n w. settling n w) t d
  entries all_told all-collected =
      along_then r (λ n w. words n w) from_joins t a d words-said (along_then r (λ n v. joins n (above n v) v) from_census a b d all_joined (along_then r (λ n u. completing n u) (λ n x. collects n x) b c d all_told all-collected))

  pub not_told : Along false (λ n w. completing n w) b c → Along false (λ n w. settling n w) t c
  not_told off =
      along_then false (λ n w. words n w) from_joins t a c words-said (along_then false (λ n v. joins n (above n v) v) from_census a b c all_joined (along_front (λ n u. completing n u) (λ n x. collects n x) b c off))

pub not_joined : (t a b : Net) → Along true (λ n w. words n w) t a → Along false (λ n w. joins n (above n w) w) a b → Along false (λ n w. settling n w) t b
not_joined t a b words-said off = along_then false (λ n w. words n w) from_joins t a b words-said (along_front (λ n v. joins n (above n v) v) from_census a b off)

pub not_said : (t a : Net) → Along false (λ n w. words n w) t a → Along false (λ n w. settling n w) t a
not_said t a off = along_front (λ n w. words n w) from_joins t a off

pub whole : (t d : Net) → IsLeft t → Along true (λ n w. settling n w) t d → Whole t d
whole t d le a =
    record {
      left = le;
      faithful = a.faithful;
      played = a.played refl;
      exact = λ f.
          subst (λ (x : World). ∥ SettlesPart (count t) (world t) x ∥₁) (sym (a.played refl))
          (∥∥₁_map (t.reached f) (λ z. settles_part (count t) t.some t.few (world t) z (above_left (count t) (world t) 4294967295 le)));
      bounded = λ f.
          subst (λ (x : World). ∥ length x.sent ≤ length (world t).sent + most (count t) (line_count (count t) (world t)) ∥₁) (sym (a.played refl))
          (∥∥₁_map (t.reached f) (λ z. bounded_part (count t) t.some t.few (world t) z (above_left (count t) (world t) 4294967295 le)));
    }

-- it broke off
pub short_of : (t d : Net) → IsLeft t → Along false (λ n w. settling n w) t d → Short t d
short_of t d le a = record { left = le; faithful = a.faithful; broken = a.broken refl }

-- and says so
pub ends_short : (r : Result (Unit {0}) Fault) (t d : Net) → IsErrAnd r (λ e. e ≡ NoMemory) → Short t d → Ends r t d
ends_short (Ok x) t d q s = absurd q
ends_short (Err e) t d q s = subst (λ (f : Fault). Ends (Err f) t d) (sym q) s
