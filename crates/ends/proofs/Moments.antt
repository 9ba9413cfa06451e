-- Moments of a play that goes on for ever: what comes later, what stays, and what is sent again and again.
use Rattle.std.proofs.Common.{◌≡◌, ℕ, zero, suc, ◌<◌, ◌≤◌, Bool, true, ◌&&◌, eqb, ltb, ◌⊎◌, List, [], ◌∷◌, length, get_or, Ok, Result, sym, refl, ap, ◌∙◌, subst, inl, inr, ⊎_elim, arith}
use mathlib.Core.List.Memᴰ
use mathlib.Core.List.{Memᴰ}
use Rattle.std.proofs.lemmas.Bool.{and_from, cond-true, eq-eqb, lt-ltb, cases_eq}
use Rattle.wire.specs.declared.call.Call.{Call}
use Rattle.wire.specs.declared.message.Message.{Message}
use Rattle.wire.specs.declared.refusal.Refusal.{Refusal}
use Rattle.wire.specs.Laws.{ReadAs}
use Rattle.lines.specs.Stamping.{seen_from}
use Rattle.rules.specs.House.{House, census}
use Rattle.rules.specs.Step.{Outcome, Letter, came, step, event_of}
use Rattle.promise.specs.Rounds.{Runs}
use Rattle.promise.specs.Rounds as promise
use Rattle.play.specs.Play.{World, Entry, calls, bytes_of, written, happens, play, answered}
use Rattle.play.specs.Seen.{seen}
use Rattle.play.specs.Settle.{below, goes_to}
use Rattle.play.proofs.Pump.{same_step}
use Rattle.play.proofs.Frame.{Deed, Way}
use Rattle.play.proofs.Pump.{got}
use Rattle.play.proofs.Tracking.{Kept, kept, kept_play, runs_on, way_play}
use Rattle.ends.specs.Run.{world, Later, Sends, Comes, Times, of_census, Goes}
use Rattle.ends.proofs.Turning.{Moves, moves_refl, moves_on, turn_moves}
use Rattle.ends.proofs.Asking.{Asks, asks_refl, asks_on, turn_asks}

-- a play, and what is asked of it
pub record Course : Type 0 where
  pub n : ℕ
  pub c : ℕ
  pub run : ℕ → Entry
  pub w : World
  pub goes : Goes n c run w

-- later and later
pub later_then : (P Q : ℕ → Type 0) (t : ℕ) → Later t P → ((s : ℕ) → t ≤ s → P s → Later s Q) → Later t Q
later_then P Q t (s, l, p) f = let z = f s l p in (z.0, omega (arith, z.1), z.2)

pub later_as : (P Q : ℕ → Type 0) (t : ℕ) → Later t P → ((s : ℕ) → t ≤ s → P s → Q s) → Later t Q
later_as P Q t z f = (z.0, z.1, f z.0 z.1 z.2)

pub now : (P : ℕ → Type 0) (t : ℕ) → P t → Later t P
now P t p = (t, omega arith, p)

pub next : (P : ℕ → Type 0) (t : ℕ) → P (suc t) → Later t P
next P t p = (suc t, omega arith, p)

-- what holds from one moment to the next stays
pub persist : (P : ℕ → Type 0) (t : ℕ) → ((s : ℕ) → t ≤ s → P s → P (suc s)) → (u : ℕ) → t ≤ u → P t → P u
persist P t f zero l p = subst P (none l) p
  where
    none : t ≤ 0 → t ≡ 0
    none l = omega arith
persist P t f (suc u) l p = ⊎_elim (λ e. subst P e p) (λ a. let b : t ≤ u = earlier l a in f u b (persist P t f u b p)) (cases_eq t (suc u))
  where
    earlier : t ≤ suc u → (t ≡ suc u → ⊥) → t ≤ u
    earlier l a = omega arith

pub way_moves : {d : Deed} {b : Bool} {n : ℕ} {w v : promise.World} → Runs n w → Way d b n w v → (i : ℕ) → Moves i w v
way_moves {w = w} r Way.same i = moves_refl i w
way_moves {w = w} r (Way.more {v = v} {u = u} l t _ _ c) i = moves_on i w v u (way_moves r l i) (turn_moves (runs_on r l) t i)

way_asks : {d : Deed} {b : Bool} {n : ℕ} {w v : promise.World} → Runs n w → Way d b n w v → Asks w v
way_asks {w = w} r Way.same = asks_refl w
way_asks {w = w} r (Way.more {v = v} {u = u} l t _ _ c) = asks_on w v u (way_asks r l) (turn_asks t (λ i. (turn_moves (runs_on r l) t i).goes.census))

pub below_mem : (n i : ℕ) → i < n → Memᴰ i (below n)
below_mem zero i l = absurd (none l)
  where
    none : i < 0 → ⊥
    none l = omega arith
below_mem (suc n) i l = ⊎_elim (λ e. Memᴰ.append_right (below n) (Memᴰ.head e)) (λ a. Memᴰ.append_left (n ∷ []) (below_mem n i (earlier l a))) (cases_eq i n)
  where
    earlier : i < suc n → (i ≡ n → ⊥) → i < n
    earlier l a = omega arith

module _ (x : Course) where
  abbrev pub at : ℕ → World
  at t = world x.n x.run x.w t

  abbrev pub house_at : ℕ → ℕ → House
  house_at t i = (at t).house i

  abbrev pub seen_at : ℕ → promise.World
  seen_at t = seen x.n (at t)

  abbrev pub Sent : List ℕ → ℕ → Type 0
  Sent bs t = Sends x.n x.run x.w bs t

  abbrev pub Came : ℕ → List ℕ → ℕ → Type 0
  Came i bs t = Comes x.n x.run x.w i bs t

  pub kept_at : (t : ℕ) → Kept x.n (at t)
  kept_at zero = kept x.n x.goes.few x.goes.reach
  kept_at (suc t) = kept_play x.n (x.run t) (at t) (kept_at t)

  moves_next : (i t : ℕ) → Moves i (seen_at t) (seen_at (suc t))
  moves_next i t = way_moves (kept_at t).runs (way_play x.n (x.run t) (at t) (kept_at t)) i

  asks_next : (t : ℕ) → Asks (seen_at t) (seen_at (suc t))
  asks_next t = way_asks (kept_at t).runs (way_play x.n (x.run t) (at t) (kept_at t))

  pub moves_to : (i t u : ℕ) → t ≤ u → Moves i (seen_at t) (seen_at u)
  moves_to i t u l = persist (λ s. Moves i (seen_at t) (seen_at s)) t (λ s _ m. moves_on i (seen_at t) (seen_at s) (seen_at (suc s)) m (moves_next i s)) u l (moves_refl i (seen_at t))

  pub asks_to : (t u : ℕ) → t ≤ u → Asks (seen_at t) (seen_at u)
  asks_to t u l = persist (λ s. Asks (seen_at t) (seen_at s)) t (λ s _ m. asks_on (seen_at t) (seen_at s) (seen_at (suc s)) m (asks_next s)) u l (asks_refl (seen_at t))

  -- house i is in the census
  abbrev pub InC : ℕ → ℕ → Type 0
  InC i t = census (house_at t i) ≡ x.c

  pub stays_in : (i t u : ℕ) → i < x.n → t ≤ u → InC i t → InC i u
  stays_in i t u lt l e = level (moves_to i t u l).goes.census (x.goes.upto u i lt) e
    where
      level : {a b c : ℕ} → a ≤ b → b ≤ c → a ≡ c → b ≡ c
      level p q r = omega arith

  pub asker_in : (t : ℕ) → InC 0 t
  asker_in t = stays_in 0 0 t x.goes.some (omega arith) x.goes.begun

  pub same_census : (i t u : ℕ) → i < x.n → t ≤ u → InC i t → census (house_at u i) ≡ census (house_at t i)
  same_census i t u lt l e = stays_in i t u lt l e ∙ sym e

  pub same_seen : (i t u : ℕ) → i < x.n → (k : ℕ) → seen_from (house_at u i).stamps k ≡ seen_from (house_at t i).stamps k
  same_seen i t u lt k = x.goes.quiet u i k lt ∙ sym (x.goes.quiet t i k lt)

  -- a call, and what it makes of its house
  pub record Outcomes (i s : ℕ) (o : Outcome) : Type 0 where
    pub house : house_at (suc s) i ≡ o.house
    pub sent : written (answered x.n (x.run s) (at s)) ≡ written o.answer

  pub called : (i s : ℕ) (d : Call) → i < x.n → x.run s ≡ calls i d → Outcomes i s (step (house_at s i) (event_of d))
  called i s d lt e =
      record {
        house = ap (λ (y : Entry). (play x.n y (at s)).house i) e ∙ ap (λ (v : World). v.house i) (cond-true (ltb i x.n) (happens i (event_of d) (at s)) (at s) (lt-ltb i x.n lt)) ∙ cond-true (eqb i i) _ _ (eq-eqb i i refl);
        sent = ap (λ (y : Entry). written (answered x.n y (at s))) e ∙ ap written (cond-true (ltb i x.n) (step (house_at s i) (event_of d)).answer _ (lt-ltb i x.n lt));
      }

  pub received : (i s : ℕ) (l : Letter) → i < x.n → ReadAs x.n (bytes_of l) l.0 l.1 → Came i (bytes_of l) s → Outcomes i s (got l (house_at s i))
  received i s l lt r m =
      record {
        house = ap (λ (y : Entry). (play x.n y (at s)).house i) m.entry ∙ ap (λ (v : World). v.house i) (cond-true both (happens i (came bs) (at s)) (at s) there) ∙ cond-true (eqb i i) _ _ (eq-eqb i i refl) ∙ ap (λ (o : Outcome). o.house) it;
        sent = ap (λ (y : Entry). written (answered x.n y (at s))) m.entry ∙ ap written (cond-true both (step (house_at s i) (came bs)).answer _ there) ∙ ap (λ (o : Outcome). written o.answer) it;
      }
    where
      bs : List ℕ
      bs = get_or (world x.n x.run x.w s).sent m.number []

      both : Bool
      both = ltb i x.n && ltb m.number (length (world x.n x.run x.w s).sent)

      there : (ltb i x.n && ltb m.number (length (world x.n x.run x.w s).sent)) ≡ true
      there = and_from (ltb i x.n) (ltb m.number (length (world x.n x.run x.w s).sent)) (lt-ltb i x.n lt) (lt-ltb m.number (length (world x.n x.run x.w s).sent) m.there)

      it : step (house_at s i) (came (get_or (world x.n x.run x.w s).sent m.number [])) ≡ got l (house_at s i)
      it = ap (λ (z : List ℕ). step (house_at s i) (came z)) m.bytes ∙ same_step x.n l (house_at s i) ((kept_at s).houses i lt) r

  -- what is sent again and again comes at last, unless what it is sent for comes before
  pub comes_or : (i : ℕ) (l : Letter) (t : ℕ) (Aim : ℕ → Type 0) → ReadAs x.n (bytes_of l) l.0 l.1 → of_census (Ok l.0) ≡ true → Memᴰ i (goes_to x.n (Ok l.0)) → ((u : ℕ) → t ≤ u → Later u (λ s. Aim s ⊎ Sent (bytes_of l) s)) →
      Later t (λ s. Aim s ⊎ Came i (bytes_of l) s)
  comes_or i l t Aim r kind for f = ⊎_elim (λ z. (z.0, z.1, inl z.2)) (λ z. let y = k.1 z in (y.0, y.1, inr y.2)) (again k.0 t (omega arith))
    where
      k : (k : ℕ) × (Times k (Sends x.n x.run x.w (bytes_of l)) t → Later t (Comes x.n x.run x.w i (bytes_of l)))
      k = x.goes.comes t i (bytes_of l) (ap of_census r.message ∙ kind) (subst (λ (z : Result Message Refusal). Memᴰ i (goes_to x.n z)) (sym r.message) for)

      again : (k u : ℕ) → t ≤ u → Later t Aim ⊎ Times k (Sends x.n x.run x.w (bytes_of l)) u
      again zero u le = inr tt
      again (suc k) u le =
          let z = f u le in
          ⊎_elim (λ a. inl (z.0, far z.1, a)) (λ a. ⊎_elim (λ y. inl y) (λ y. inr (z.0, z.1, a, y)) (again k (suc z.0) (further z.1))) z.2
        where
          far : {s : ℕ} → u ≤ s → t ≤ s
          far p = omega arith

          further : {s : ℕ} → u ≤ s → t ≤ suc s
          further p = omega arith
