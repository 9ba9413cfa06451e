-- What each message makes houses send at most, with all that follows from it.
use Rattle.std.proofs.Common.{◌≡◌, ℕ, zero, suc, ◌+◌, ◌*◌, ◌<◌, ◌≤◌, Bool, true, false, cond, not, ◌&&◌, ◌||◌, eqb, ltb, leb, List, [], ◌∷◌, map, length, Ok, Err, Result, sym, refl, ap, ◌∙◌, subst, arith, length-append}
use Rattle.std.proofs.lemmas.Bool.{ne_eqb, not_from_false, cond_both, cond-true}
use Rattle.wire.specs.declared.message.Message.{Message}
use Rattle.wire.specs.declared.message.Message.TheVariants as message
use Rattle.wire.specs.declared.refusal.Refusal.{Refusal}
use Rattle.wire.specs.declared.refusal.Refusal.TheVariants.{Misdelivered}
use Rattle.wire.specs.Format.{decode, part_of}
use Rattle.wire.specs.Laws.{Bytes, Valid}
use Rattle.wire.specs.Names.{home}
use Rattle.wire.specs.declared.names.Stamp.{Stamp}
use Rattle.tables.specs.Model.{Heap, present}
use Rattle.objects.specs.Calls.{keep_answer, after_keep, take_answer}
use Rattle.lines.specs.Listed.{fits, belongs}
use Rattle.lines.specs.Stamping.{next_for, seen_from}
use Rattle.census.specs.Model.{asks, due_of}
use Rattle.rounds.specs.Model.{Desk, idle, ready, next, begun, beginning, completes}
use Rattle.rules.specs.House.{House, self, houses, census}
use Rattle.rules.specs.Step.{Outcome, Letter, Said, word, join, tell, round, used, telling_of, begins, noting, in_census, refused, letter, caught_up, replies, step, receives, read_as, quietly, authorised, gives, stamped, took_it}
use Rattle.rules.proofs.SoundWords.{read_valid}
use Rattle.play.specs.Settle.{below, goes_to}
use Rattle.play.proofs.BoundDesk.{Tariff, awaits, tight}

-- what one delivery of a message sets off, with all that follows from it, if an answer to a round costs so much
abbrev pub sets : ℕ → Message → ℕ
sets a (message.Ask o by to) = 1
sets a (message.Give o to s) = 0
sets a (message.Word from to s p) = 0
sets a (message.Telling c o from) = 1
sets a (message.Answer c o from) = 0
sets a (message.Round c r) = 1 + a
sets a (message.Reply c r from calm t) = a
sets a (message.Complete c) = 0

abbrev pub times : ℕ → ℕ → ℕ
times zero s = 0
times (suc k) s = s + times k s

-- and all its deliveries among n houses
abbrev pub weight : ℕ → ℕ → Result Message Refusal → ℕ
weight n a (Ok m) = times (length (goes_to n (Ok m))) (sets a m)
weight n a (Err e) = 0

-- of some letters: each counts itself, and what it sets off
abbrev pub bill : ℕ → ℕ → List Letter → ℕ
bill n a [] = 0
bill n a (l ∷ ls) = 1 + weight n a (Ok l.0) + bill n a ls

abbrev pub price : ℕ → ℕ → Said → ℕ
price n a (Ok ls) = bill n a ls
price n a (Err e) = 0

times_none : (k : ℕ) → times k 0 ≡ 0
times_none zero = refl
times_none (suc k) = let z = times_none k in omega arith

-- only the desk of the house that asks counts
abbrev pub desk_of : {n : ℕ} → Tariff n → ℕ → Desk → ℕ
desk_of f zero d = f.desk d
desk_of f (suc i) d = 0

-- an outcome at house i that costs no more
pub record Cheap (n : ℕ) (f : Tariff n) (i b : ℕ) (h : House) (x : Outcome) : Type 0 where
  pub cost : price n f.reply x.answer + desk_of f i x.house.desk ≤ b + desk_of f i h.desk

module _ (n : ℕ) (f : Tariff n) (i : ℕ) where
  unless : (b : ℕ) (h : House) (test : Bool) (e : Refusal) (x : Outcome) → Cheap n f i b h x → Cheap n f i b h (cond test (refused e h) x)
  unless b h true e x p = record { cost = omega arith }
  unless b h false e x p = p

  quiet : {X : Type 0} (r : Result X Refusal) (g : Heap) (h : House) → Cheap n f i 1 h (quietly r g h)
  quiet (Ok x) g h = record { cost = omega arith }
  quiet (Err e) g h = record { cost = omega arith }

  given : (r : Result Stamp Refusal) (o j : ℕ) (h : House) → Cheap n f i 1 h (stamped r o j h)
  given (Err e) o j h = record { cost = omega arith }
  given (Ok s) o j h = unless 1 h (not (belongs (self h) (houses h) o j)) _ _ (record { cost = omega arith })

  took : (r : Result (Unit {0}) Refusal) (o s : ℕ) (h : House) → Cheap n f i 0 h (took_it r o s h)
  took (Err e) o s h = record { cost = omega arith }
  took (Ok u) o s h = record { cost = omega arith }

  idles : (k : ℕ) (d : Desk) → desk_of f k idle ≤ desk_of f k d
  idles zero d = f.idle d
  idles (suc k) d = omega arith

  caught : (c : ℕ) (h : House) → desk_of f i (caught_up c h).desk ≤ desk_of f i h.desk
  caught c h = cond_both (ltb (census h) c) (in_census c h) h (λ g. desk_of f i g.desk ≤ desk_of f i h.desk) (λ _. idles i h.desk) (λ _. omega arith)

  replied_price : (b : Bool) (m : Message) (e : Refusal) (c r : ℕ) (h g : House) → weight n f.reply (Ok m) ≡ f.reply + 0 → desk_of f i h.desk ≤ desk_of f i g.desk → Cheap n f i (1 + f.reply) g (replies (cond b (Ok m) (Err e)) c r h)
  replied_price true m e c r h g q l = record { cost = omega arith }
  replied_price false m e c r h g q l = record { cost = omega arith }

news_price : (n a c : ℕ) (b : Bool) → bill n a (cond b (letter (message.Complete (record { 0 = c })) ∷ []) []) ≡ cond b 1 0
news_price n a c true = let z = times_none (length (below n)) in omega arith
news_price n a c false = refl

-- an answer to a round: at the house that asks as the tariff says, elsewhere it is refused
noting_price : (n : ℕ) (f : Tariff n) (i c r j : ℕ) (calm : Bool) (t : ℕ) (h : House) → self h ≡ i → houses h ≡ n → j < n → Cheap n f i f.reply h (noting c r j calm t h)
noting_price n f zero c r j calm t h own many l =
    unless n f zero f.reply h (not (asks (self h))) _ _ (unless n f zero f.reply h (not (eqb c (census h))) _ _
    (record { cost = add _ _ _ _ (news_price n f.reply c (completes (houses h) r j calm t h.desk) ∙ ap (λ (z : ℕ). cond (completes z r j calm t h.desk) 1 0) many) (f.note r j calm t h.desk l) }))
  where
    add : (a b d e : ℕ) → a ≡ b → b + d ≤ e → a + d ≤ e
    add a b d e p q = omega arith
noting_price n f (suc k) c r j calm t h own many l =
    subst (Cheap n f (suc k) f.reply h) (sym (cond-true (not (asks (self h))) (refused Misdelivered h) _ (not_from_false (asks (self h)) (ne_eqb (self h) 0 (λ e. apart (sym own ∙ e)))))) (record { cost = omega arith })
  where
    apart : suc k ≡ 0 → ⊥
    apart e = omega arith

module _ (n : ℕ) (f : Tariff n) (i : ℕ) where
  -- what a house makes of a message costs no more than the message sets off
  receives_price : (m : Message) (part : List ℕ) (h : House) → self h ≡ i → houses h ≡ n → Valid n m part → Cheap n f i (sets f.reply m) h (receives m part h)
  receives_price (message.Ask o by to) part h own many v =
      unless n f i 1 h (not (eqb (home o.0) (self h))) _ _ (
      unless n f i 1 h (not (present o.0 h.heap.objects)) _ _ (
      unless n f i 1 h (not (authorised o.0 by.0 h)) _ _
      (cond_both (eqb to.0 (self h)) (quietly (keep_answer o.0 h.heap) (after_keep o.0 h.heap) h) (gives o.0 to.0 h) (Cheap n f i 1 h)
      (λ _. quiet n f i (keep_answer o.0 h.heap) (after_keep o.0 h.heap) h) (λ _. unless n f i 1 h (not (fits o.0 to.0 h.list 2048)) _ _ (given n f i (next_for to.0 h.stamps) o.0 to.0 h)))))
  receives_price (message.Give o to s) part h own many v =
      unless n f i 0 h (not (eqb to.0 (self h)) || eqb (home o.0) (self h)) _ _ (unless n f i 0 h (leb s.0 (seen_from h.stamps (home o.0))) _ _ (took n f i (take_answer o.0 h.heap) o.0 s.0 h))
  receives_price (message.Word from to s p) part h own many v = unless n f i 0 h (not (eqb to.0 (self h))) _ _ (record { cost = omega arith })
  receives_price (message.Telling c o from) part h own many v = unless n f i 1 h (not (eqb (home o.0) (self h))) _ _ (unless n f i 1 h (ltb c.0 (census h)) _ _ (record { cost = let z = caught n f i c.0 h in omega arith }))
  receives_price (message.Answer c o from) part h own many v = unless n f i 0 h (not (eqb from.0 (self h))) _ _ (unless n f i 0 h (not (eqb c.0 (census h))) _ _ (record { cost = omega arith }))
  receives_price (message.Round c r) part h own many v =
      unless n f i (1 + f.reply) h (ltb c.0 (census h)) _ _ (replied_price n f i (eqb c.0 (census (caught_up c.0 h))) _ _ c.0 r.0 (caught_up c.0 h) h refl (caught n f i c.0 h))
  receives_price (message.Reply c r from calm t) part h own many v = noting_price n f i c.0 r.0 from.0 calm t.0 h own many v.2
  receives_price (message.Complete c) part h own many v = unless n f i 0 h (not (eqb c.0 (census h))) _ _ (record { cost = omega arith })

-- by what the bytes are read as
abbrev pub sets_by : ℕ → Result Message Refusal → ℕ
sets_by a (Ok m) = sets a m
sets_by a (Err e) = 0

pub read_price : (n : ℕ) (f : Tariff n) (i : ℕ) (r : Result Message Refusal) (bs : List ℕ) (h : House) → decode n bs ≡ r → Bytes bs → self h ≡ i → houses h ≡ n → Cheap n f i (sets_by f.reply r) h (read_as r bs h)
read_price n f i (Ok m) bs h e b own many = receives_price n f i m (part_of m bs) h own many (read_valid n bs b m e)
read_price n f i (Err x) bs h e b own many = record { cost = omega arith }

-- what the calls of the collector cost
pub word_price : (n : ℕ) (f : Tariff n) (i j : ℕ) (h : House) → Cheap n f i 1 h (step h (word j))
word_price n f i j h = unless n f i 1 h (leb (houses h) j) _ _ (unless n f i 1 h (eqb j (self h)) _ _ (record { cost = omega arith }))

pub join_price : (n : ℕ) (f : Tariff n) (i c : ℕ) (h : House) → Cheap n f i 0 h (step h (join c))
join_price n f i c h = unless n f i 0 h (leb c (census h) || ltb 4294967295 c) _ _ (record { cost = let z = idles n f i i h.desk in omega arith })

below_long : (n : ℕ) → length (below n) ≡ n
below_long zero = refl
below_long (suc n) = let z = length-append (below n) (n ∷ []) in let y = below_long n in omega arith

times_one : (k : ℕ) → times k 1 ≡ k
times_one zero = refl
times_one (suc k) = let z = times_one k in omega arith

-- a round, if answers cost nothing: the desk may send the news, from the second round on
pub round_price : (n : ℕ) (h : House) → Cheap n (tight n) 0 (1 + n + cond (leb 2 (h.desk.round + 1)) 1 0) h (step h round)
round_price n h = unless n (tight n) 0 _ h (not (asks (self h))) _ _ (begin (beginning (houses h) h.desk))
  where
    begin : (r : Result ℕ Refusal) → Cheap n (tight n) 0 (1 + n + cond (leb 2 (h.desk.round + 1)) 1 0) h (begins r h)
    begin (Ok r) = record { cost = let z = times_one (length (below n)) in let y = below_long n in let x = new in omega arith }
      where
        new : awaits n (begun (houses h) h.desk) ≤ cond (leb 2 (h.desk.round + 1)) 1 0 + awaits n h.desk
        new = cond_both (ready (houses h) h.desk && ltb h.desk.round 4294967295) (next h.desk) h.desk (λ d. awaits n d ≤ cond (leb 2 (h.desk.round + 1)) 1 0 + awaits n h.desk) (λ _. less (leb 2 (h.desk.round + 1)) _ _) (λ _. omega arith)
          where
            less : (a b : Bool) (c : ℕ) → cond (a && b) 1 0 ≤ cond a 1 0 + c
            less true true c = omega arith
            less true false c = omega arith
            less false b c = omega arith
    begin (Err e) = record { cost = omega arith }

pub tell_price : (n : ℕ) (f : Tariff n) (i : ℕ) (h : House) → Cheap n f i (2 * length (due_of (used h) h.part)) h (step h tell)
tell_price n f i h = record { cost = let z = all (due_of (used h) h.part) in omega arith }
  where
    all : (os : List ℕ) → bill n f.reply (map (telling_of h) os) ≡ 2 * length os
    all [] = refl
    all (o ∷ os) = let z = all os in omega arith
