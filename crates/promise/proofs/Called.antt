-- The news that a census is complete is sent only when its rounds have ended.
use Rattle.std.proofs.Common.{◌≡◌, ℕ, Bool, true, false, List, ◌∷◌, sym, subst, ◌⊎◌, refl, inl, inr, ⊎_elim}
use mathlib.Core.List.Memᴰ
use mathlib.Core.List.{Memᴰ}
use Rattle.promise.specs.Net.{Msg, Ask, Give, Word, Mark, Sweep, Net, Uses, Cleans}
use Rattle.promise.specs.Rounds.{World, Ended, census_of, AsBefore, Turn}

abbrev NoSweep : Msg → Type 0
NoSweep (Ask o i j) = Unit {0}
NoSweep (Give o j s) = Unit {0}
NoSweep (Word j k held upto) = Unit {0}
NoSweep (Mark c o i) = Unit {0}
NoSweep (Sweep c) = ⊥

-- another message that is sent is no such news
other : (x : Msg) → NoSweep x → {xs : List Msg} (c : ℕ) → Memᴰ (Sweep c) (x ∷ xs) → Memᴰ (Sweep c) xs
other x p c m = ⊎_elim (λ e. absurd (subst NoSweep (sym e) p)) (λ r. r) (Memᴰ.cases_cons m)

uses_old : {houses : ℕ} {n m : Net} → Uses houses n m → (c : ℕ) → Memᴰ (Sweep c) m.sent → Memᴰ (Sweep c) n.sent
uses_old (Uses.make n i k a b d) c m = m
uses_old (Uses.link n i o p a b d e) c m = m
uses_old (Uses.unlink n i o p a b d) c m = m
uses_old (Uses.load n i o p a b d e) c m = m
uses_old (Uses.drop n i o a) c m = m
uses_old (Uses.ask n i o j a b d) c m = other (Ask o i j) tt c m
uses_old (Uses.give n k o i j a b d e g h) c m = other (Give o j _) tt c m
uses_old (Uses.give_home n k o i a b d e g) c m = m
uses_old (Uses.take n j o s a b d) c m = m

cleans_old : {houses : ℕ} {n m : Net} (s : Cleans houses n m) → AsBefore s → (c : ℕ) → Memᴰ (Sweep c) m.sent → Memᴰ (Sweep c) n.sent
cleans_old (Cleans.word n j k held a b d e f) z c m = other (Word j k held _) tt c m
cleans_old (Cleans.hear n j k held upto a b) z c m = m
cleans_old (Cleans.collect n i kept a k) z c m = m
cleans_old (Cleans.join n i d a b) z c m = absurd z
cleans_old (Cleans.tell n i o a b d) z c m = absurd z
cleans_old (Cleans.mark n k o i a b d) z c m = absurd z
cleans_old (Cleans.complete n d a k) z c m = absurd z
cleans_old (Cleans.sweep n i a b) z c m = m

-- the turn sends the news that the census is complete
abbrev pub tells : {houses : ℕ} {w v : World} → Turn houses w v → Bool
tells (Turn.complete w e) = true
tells t = false

-- the news is old, or the rounds have ended just now
pub turn_news : {houses : ℕ} {w v : World} (t : Turn houses w v) → (c : ℕ) → Memᴰ (Sweep c) v.net.sent → Memᴰ (Sweep c) w.net.sent ⊎ ((tells t ≡ true) × (census_of w 0 ≡ c) × Ended houses w.desk)
turn_news (Turn.uses w u) c m = inl (uses_old u c m)
turn_news (Turn.cleans w s a) c m = inl (cleans_old s a c m)
turn_news (Turn.join w i d a b) c m = inl m
turn_news (Turn.tell w i o a b d) c m = inl (other (Mark _ o i) tt c m)
turn_news (Turn.mark w k o i a b d) c m = inl m
turn_news (Turn.answer w i o a b d) c m = inl m
turn_news (Turn.begin w a b) c m = inl m
turn_news (Turn.reply w i r b a d e f) c m = inl m
turn_news (Turn.note w i b t a d e) c m = inl m
turn_news (Turn.complete w e) c m = ⊎_elim (λ q. inr (refl, same c (census_of w 0) q, e)) (λ r. inl r) (Memᴰ.cases_cons m)
  where
    same : (a b : ℕ) → Sweep a ≡ Sweep b → b ≡ a
    same a b q = cc
turn_news (Turn.alike w v a) c m = inl ((a.net.sent (Sweep c)).1 m)
