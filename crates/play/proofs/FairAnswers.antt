-- What the collector's calls and messages make a house send is the collector's again.
use Rattle.std.proofs.Common.{◌≡◌, ℕ, Bool, true, false, cond, not, ◌||◌, eqb, ltb, leb, List, [], ◌∷◌, map, Ok, Err, Result, sym, refl, subst, ⊎_elim}
use mathlib.Core.List.Memᴰ
use mathlib.Core.List.{Memᴰ}
use Rattle.std.proofs.lemmas.Bool.{false≢true}
use Rattle.wire.specs.declared.call.Call.{Call}
use Rattle.wire.specs.declared.call.Call.TheVariants as call
use Rattle.wire.specs.declared.message.Message.{Message}
use Rattle.wire.specs.declared.message.Message.TheVariants as message
use Rattle.wire.specs.declared.refusal.Refusal.{Refusal}
use Rattle.wire.specs.Format.{part_of}
use Rattle.wire.specs.declared.refusal.Refusal.TheVariants.{Malformed, Misdelivered, OtherCensus, OutOfNumbers, WrongHouse}
use Rattle.wire.specs.Names.{home, house, name}
use Rattle.census.specs.Model.{asks, replying, due_of, says_calm}
use Rattle.rounds.specs.Model.{completes, beginning}
use Rattle.rules.specs.House.{House, self, houses, census}
use Rattle.rules.specs.Step.{Letter, Said, Outcome, step, event_of, sends, refused, refuse_if, receives, read_as, caught_up, replies, begins, letter, used, telling_of}
use Rattle.rules.specs.Sound.{Typed}
use Rattle.play.specs.Play.{of_collector, for_collector}

abbrev pub letters_of : Said → List Letter
letters_of (Ok ls) = ls
letters_of (Err e) = []

abbrev pub AllOf : List Letter → Type 0
AllOf ls = (l : Letter) → Memᴰ l ls → for_collector (Ok l.0) ≡ true

-- each message that is sent is the collector's
pub record Quiet (x : Outcome) : Type 0 where
  pub all : AllOf (letters_of x.answer)

quiet_sends : (ls : List Letter) (h : House) → AllOf ls → Quiet (sends ls h)
quiet_sends ls h f = record { all = f }

quiet_refused : (e : Refusal) (h : House) → Quiet (refused e h)
quiet_refused e h = record { all = λ l m. absurd (Memᴰ.not-nil m) }

none : AllOf []
none l m = absurd (Memᴰ.not-nil m)

one : (x : Letter) → for_collector (Ok x.0) ≡ true → AllOf (x ∷ [])
one x e l m = ⊎_elim (λ z. subst (λ (y : Letter). for_collector (Ok y.0) ≡ true) (sym z) e) (λ z. absurd (Memᴰ.not-nil z)) (Memᴰ.cases_cons m)

quiet_unless : (b : Bool) (e : Refusal) (h : House) (x : Outcome) → Quiet x → Quiet (refuse_if b e h x)
quiet_unless true e h x f = quiet_refused e h
quiet_unless false e h x f = f

either : (b : Bool) (x : Letter) → for_collector (Ok x.0) ≡ true → AllOf (cond b (x ∷ []) [])
either true x e = one x e
either false x e = none

quiet_replies : (r : Result Message Refusal) (c k : ℕ) (h : House) → for_collector r ≡ true → Quiet (replies r c k h)
quiet_replies (Ok m) c k h e = quiet_sends (letter m ∷ []) _ (one (letter m) e)
quiet_replies (Err x) c k h e = quiet_refused x h

replying_for : (c r : ℕ) (h : House) → for_collector (replying (house (self h)) c r (used h) h.part) ≡ true
replying_for c r h = go (eqb c h.part.census)
  where
    go : (b : Bool) → for_collector (cond b (Ok (message.Reply (record { 0 = c }) (record { 0 = r }) (house (self h)) (says_calm r (used h) h.part) (record { 0 = h.part.tally }))) (Err OtherCensus)) ≡ true
    go true = refl
    go false = refl

quiet_begins : (r : Result ℕ Refusal) (h : House) → Quiet (begins r h)
quiet_begins (Ok r) h = quiet_sends _ _ (one (letter (message.Round (record { 0 = census h }) (record { 0 = r }))) refl)
quiet_begins (Err e) h = quiet_refused e h

telling : (h : House) (os : List ℕ) (l : Letter) → Memᴰ l (map (telling_of h) os) → for_collector (Ok l.0) ≡ true
telling h [] l m = absurd (Memᴰ.not-nil m)
telling h (o ∷ os) l m = ⊎_elim (λ z. subst (λ (y : Letter). for_collector (Ok y.0) ≡ true) (sym z) refl) (λ z. telling h os l z) (Memᴰ.cases_cons m)

quiet_received : (m : Message) (part : List ℕ) (h : House) → for_collector (Ok m) ≡ true → Quiet (receives m part h)
quiet_received (message.Ask o by to) part h e = absurd (false≢true e)
quiet_received (message.Give o to s) part h e = absurd (false≢true e)
quiet_received (message.Word from to s p) part h e = quiet_unless (not (eqb to.0 (self h))) Misdelivered h _ (quiet_sends [] _ none)
quiet_received (message.Telling c o from) part h e =
    quiet_unless (not (eqb (home o.0) (self h))) Misdelivered h _ (quiet_unless (ltb c.0 (census h)) OtherCensus h _ (quiet_sends _ _ (one (letter (message.Answer (record { 0 = c.0 }) (name o.0) (house from.0))) refl)))
quiet_received (message.Answer c o from) part h e = quiet_unless (not (eqb from.0 (self h))) Misdelivered h _ (quiet_unless (not (eqb c.0 (census h))) OtherCensus h _ (quiet_sends [] _ none))
quiet_received (message.Round c r) part h e =
    quiet_unless (ltb c.0 (census h)) OtherCensus h _ (quiet_replies (replying (house (self (caught_up c.0 h))) c.0 r.0 (used (caught_up c.0 h)) (caught_up c.0 h).part) c.0 r.0 (caught_up c.0 h) (replying_for c.0 r.0 (caught_up c.0 h)))
quiet_received (message.Reply c r from calm t) part h e =
    quiet_unless (not (asks (self h))) Misdelivered h _ (quiet_unless (not (eqb c.0 (census h))) OtherCensus h _
    (quiet_sends _ _ (either (completes (houses h) r.0 from.0 calm t.0 h.desk) (letter (message.Complete (record { 0 = c.0 }))) refl)))
quiet_received (message.Complete c) part h e = quiet_unless (not (eqb c.0 (census h))) OtherCensus h _ (quiet_sends [] _ none)

pub quiet_read : (r : Result Message Refusal) (bs : List ℕ) (h : House) → for_collector r ≡ true → Quiet (read_as r bs h)
quiet_read (Ok m) bs h e = quiet_received m (part_of m bs) h e
quiet_read (Err x) bs h e = quiet_refused x h

-- a call of the collector: its numbers may be any
pub quiet_call : (c : Call) (h : House) → of_collector c ≡ true → Typed (event_of c) × Quiet (step h (event_of c))
quiet_call (call.Make x) h e = absurd (false≢true e)
quiet_call (call.Link o p) h e = absurd (false≢true e)
quiet_call (call.Unlink o p) h e = absurd (false≢true e)
quiet_call (call.Load o p) h e = absurd (false≢true e)
quiet_call (call.Drop o) h e = absurd (false≢true e)
quiet_call (call.Ask o j) h e = absurd (false≢true e)
quiet_call call.Collect h e = (tt, quiet_sends [] _ none)
quiet_call (call.Word j) h e = (tt, quiet_unless (leb (houses h) j.0) Malformed h _ (quiet_unless (eqb j.0 (self h)) WrongHouse h _ (quiet_sends _ h (one _ refl))))
quiet_call (call.Join c) h e = (tt, quiet_unless (leb c (census h) || ltb 4294967295 c) OutOfNumbers h _ (quiet_sends [] _ none))
quiet_call call.Tell h e = (tt, quiet_sends _ _ (telling h (due_of (used h) h.part)))
quiet_call call.Round h e = (tt, quiet_unless (not (asks (self h))) WrongHouse h _ (quiet_begins (beginning (houses h) h.desk) h))
