-- What a part of settling does to a net, and what the whole of it leaves.
use Rattle.std.specs.Prelude.{◌≡◌, ℕ, ◌+◌, ◌<◌, ◌≤◌, Bool, true, false, List, [], ◌∷◌, length, is_ok, Some, None, Ok, Err, Option, Result, ◌≢◌}
use Rattle.wire.specs.declared.refusal.Refusal.TheVariants.{OutOfNumbers}
use Rattle.objects.specs.declared.fault.Fault.{Fault}
use Rattle.objects.specs.declared.fault.Fault.TheVariants.{Refused, NoMemory}
use Rattle.node.specs.declared.sent.Recipient.{Recipient}
use Rattle.node.specs.declared.sent.Recipient.TheVariants.{One, Every}
use Rattle.play.specs.Play.{World, Entry, play, plays, written, answered}
use Rattle.play.specs.Settle.{below, above, settling}
use Rattle.play.specs.ExactPart.{SettlesPart}
use Rattle.play.specs.Bound.{line_count, most}
use Rattle.net.specs.Nets.{count, world, unsent, wanting}
use Rattle.net.specs.declared.net.Net.{Net}

-- entries, computed from the number of houses and the world
abbrev pub Script : Type 0
Script = ℕ → World → List Entry

-- These entries were played from w on, but not all: at v the next one asks for memory that there is not, or the messages of the last one, which sent some, are lost.
pub data BrokenOff (n : ℕ) : List Entry → World → World → Type 0 where
  short : {e : Entry} {es : List Entry} {w : World} → wanting n e w ≡ true → is_ok (answered n e w) ≡ true → BrokenOff n (e ∷ es) w w
  lost : {e : Entry} {es : List Entry} {w : World} → (written (answered n e w) ≢ []) → BrokenOff n (e ∷ es) w (unsent w (play n e w))
  later : {e : Entry} {es : List Entry} {w v : World} → BrokenOff n es (play n e w) v → BrokenOff n (e ∷ es) w v

-- from t to u: the houses are so many as before, the net is as faithful as it was, and these entries were played; or it broke off
pub record Along (r : Bool) (es : Script) (t u : Net) : Type 0 where
  pub houses : count u ≡ count t
  pub faithful : u.faithful ≡ t.faithful
  pub played : r ≡ true → world u ≡ plays (count t) (es (count t) (world t)) (world t)
  pub broken : r ≡ false → BrokenOff (count t) (es (count t) (world t)) (world t) (world u)

-- the houses that a message comes to
abbrev pub receivers : ℕ → Option Recipient → List ℕ
receivers n (Some (One h)) = h.0 ∷ []
receivers n (Some Every) = below n
receivers n None = []

-- a census number above those of all houses is left
abbrev pub IsLeft : Net → Type 0
IsLeft t = above (count t) (world t) ≤ 4294967295

-- all was played; and if the net is faithful, what is left is exactly what matters, over all that was ever sent, and so much was sent at most
pub record Whole (t u : Net) : Type 0 where
  pub left : IsLeft t
  pub faithful : u.faithful ≡ t.faithful
  pub played : world u ≡ plays (count t) (settling (count t) (world t)) (world t)
  pub exact : t.faithful ≡ true → ∥ SettlesPart (count t) (world t) (world u) ∥₁
  pub bounded : t.faithful ≡ true → ∥ length (world u).sent ≤ length (world t).sent + most (count t) (line_count (count t) (world t)) ∥₁

-- memory was wanting: the first of the entries were played, and the net is as faithful as it was
pub record Short (t u : Net) : Type 0 where
  pub left : IsLeft t
  pub faithful : u.faithful ≡ t.faithful
  pub broken : BrokenOff (count t) (settling (count t) (world t)) (world t) (world u)

-- where some house has come to the last census it is refused, always and only there, and nothing is changed; for want of memory it breaks off
abbrev pub Ends : Result (Unit {0}) Fault → Net → Net → Type 0
Ends (Ok x) t u = Whole t u
Ends (Err (Refused e)) t u = (e ≡ OutOfNumbers) × (4294967295 < above (count t) (world t)) × (u ≡ t)
Ends (Err NoMemory) t u = Short t u
