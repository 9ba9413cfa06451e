-- What settling reads off the houses and the messages.
use Rattle.std.proofs.Common.{◌≡◌, ℕ, zero, suc, ◌+◌, ◌<◌, ◌≤◌, max, List, [], map, length, get_or, Some, Ok, Vec, sym, refl, ap, ◌∙◌, subst, ⊎_elim, arith}
use native.Mathlib.Nat.{le-max_left, le-max_right}
use Rattle.std.proofs.lemmas.List.{get_or-map}
use Rattle.std.proofs.lemmas.Bool.{cases_eq}
use Rattle.std.specs.declared.alloc.Global.{Global}
use Rattle.wire.specs.declared.message.Message.{Message}
use Rattle.wire.specs.declared.message.Message.TheVariants as message
use Rattle.rules.specs.House.{census}
use Rattle.node.specs.Recipients.{recipient_of}
use Rattle.store.specs.declared.table.Store.{Store}
use Rattle.store.specs.Sending.{items_in}
use Rattle.play.specs.Play.{World}
use Rattle.play.specs.Settle.{goes_to, above, tallies}
use Rattle.net.specs.Worlds.{houses_of, world_of}
use Rattle.net.specs.Settling.{receivers}

-- neither depends on what was sent
pub above_sent : (k : ℕ) (hs : List Store) (a b : List (List ℕ)) → above k (world_of hs a) ≡ above k (world_of hs b)
above_sent zero hs a b = refl
above_sent (suc k) hs a b = ap (λ (x : ℕ). max x (census (houses_of hs k) + 1)) (above_sent k hs a b)

pub tallies_sent : (k : ℕ) (hs : List Store) (a b : List (List ℕ)) → tallies k (world_of hs a) ≡ tallies k (world_of hs b)
tallies_sent zero hs a b = refl
tallies_sent (suc k) hs a b = ap (λ (x : ℕ). x + (houses_of hs k).part.tally) (tallies_sent k hs a b)

-- a number above all is left for each
pub above_left : (k : ℕ) (w : World) (m : ℕ) → above k w ≤ m → (i : ℕ) → i < k → census (w.house i) < m
above_left zero w m le i lt = absurd (never lt)
  where
    never : {i : ℕ} → i < 0 → ⊥
    never q = omega arith
above_left (suc k) w m le i lt =
    ⊎_elim
    (λ e. subst (λ (j : ℕ). census (w.house j) < m) (sym e) (last (le-max_right (above k w) (census (w.house k) + 1)) le))
    (λ d. above_left k w m (more (le-max_left (above k w) (census (w.house k) + 1)) le) i (lower lt d))
    (cases_eq i k)
  where
    last : {a b c : ℕ} → a + 1 ≤ b → b ≤ c → a < c
    last p q = omega arith

    more : {a b c : ℕ} → a ≤ b → b ≤ c → a ≤ c
    more p q = omega arith

    lower : {i k : ℕ} → i < suc k → (i ≡ k → ⊥) → i < k
    lower p q = omega arith

-- whom a message is for
pub receivers_are : (n : ℕ) (m : Message) → receivers n (Some (recipient_of m)) ≡ goes_to n (Ok m)
receivers_are n (message.Ask o by to) = refl
receivers_are n (message.Give o to s) = refl
receivers_are n (message.Word from to s p) = refl
receivers_are n (message.Telling c o from) = refl
receivers_are n (message.Answer c o from) = refl
receivers_are n (message.Round c r) = refl
receivers_are n (message.Reply c r from calm t) = refl
receivers_are n (message.Complete c) = refl

-- the bytes of a message
pub bytes : (sent : List (Vec ℕ Global)) (k : ℕ) (v : Vec ℕ Global) → k < length sent → v ≡ get_or sent k v → get_or (map items_in sent) k [] ≡ items_in v
bytes sent k v lt is = get_or-map items_in sent k v [] lt ∙ ap items_in (sym is)
