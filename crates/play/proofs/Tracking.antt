-- Every entry is some steps of the relation, or none: so whatever is promised of its runs holds of every play.
use Rattle.std.proofs.Common.{◌≡◌, ℕ, zero, suc, ◌<◌, ◌≤◌, Bool, true, false, cond, ◌&&◌, ltb, List, [], ◌∷◌, map, length, get_or, replicate, Ok, Err, Result, sym, refl, ap, ◌∙◌, subst, ⊎_elim, arith}
use mathlib.Core.List.Memᴰ
use mathlib.Core.List.{Memᴰ}
use Rattle.std.proofs.lemmas.Bool.{and_parts, ltb-true, or_cases}
use Rattle.wire.specs.declared.call.Call.{Call}
use Rattle.wire.specs.declared.call.Call.TheVariants as call
use Rattle.wire.specs.declared.message.Message.{Message}
use Rattle.wire.specs.declared.message.Message.TheVariants as message
use Rattle.wire.specs.declared.refusal.Refusal.{Refusal}
use Rattle.wire.specs.Format.{decode, part_of, numbers}
use Rattle.wire.specs.Laws.{Bytes, ReadAs}
use Rattle.tables.specs.Model.{is_in}
use Rattle.tables.specs.Met.{everywhere}
use Rattle.tables.proofs.Reach.{is_in_append}
use Rattle.rules.specs.House as rules
use Rattle.rules.specs.Step.{Letter, Said, Event, came, receives, read_as, step, event_of}
use Rattle.rules.specs.Sound.{Sound, Typed}
use Rattle.rules.proofs.Fairness.{always_fair}
use Rattle.rules.proofs.Sound.{sound_empty, sound_step, sent_bytes, sent_read, tally_few}
use Rattle.rules.proofs.SoundWords.{read_valid}
use Rattle.promise.specs.Rounds.{Turn, Runs, Alike}
use Rattle.promise.specs.Rounds as promise
use Rattle.play.specs.Play.{World, Entry, calls, delivers, begin, happens, play, bytes_of, written, Reach, start, more, of_collector, for_collector, cleaning}
use Rattle.play.specs.Seen.{slot_seen, seen}
use Rattle.play.proofs.Sending.{ReadableSaid, msg_seen, note_seen_sent}
use Rattle.play.proofs.Firm.{Firm}
use Rattle.play.proofs.Frame.{Deed, Way, TracksBy, tracks_refused, objects_refl, put_cases}
use Rattle.play.proofs.Programs.{tracks_make, tracks_link, tracks_unlink, tracks_load, tracks_drop, tracks_ask}
use Rattle.play.proofs.Handing.{tracks_handed, tracks_takes}
use Rattle.play.proofs.Cleaning.{tracks_collect, tracks_word, tracks_join, tracks_hears, tracks_sweeps, silent_at}
use Rattle.play.proofs.Marking.{tracks_told, tracks_polled}
use Rattle.play.proofs.Answering.{tracks_settles}
use Rattle.play.proofs.Rounding.{round_at, reply_at, tracks_round, tracks_noting}
use Rattle.play.proofs.Telling.{tracks_tell}

-- what holds of every world that entries lead to
pub record Kept (n : ℕ) (w : World) : Type 0 where
  pub few : n ≤ 16
  pub sound : (i : ℕ) → i < n → Sound (w.house i)
  pub self : (i : ℕ) → i < n → rules.self (w.house i) ≡ i
  pub houses : (i : ℕ) → i < n → rules.houses (w.house i) ≡ n
  pub bytes : (bs : List ℕ) → Memᴰ bs w.sent → Bytes bs
  pub runs : Runs n (seen n w)

firm : (n : ℕ) (w : World) → Kept n w → (i : ℕ) → i < n → Firm n i (w.house i)
firm n w k i lt =
    let s = k.sound i lt in
    record {
      self = k.self i lt;
      houses = k.houses i lt;
      inside = lt;
      few = k.few;
      own = λ o e. (s.heap.own o e).lives ∙ k.self i lt;
      upto = λ o e. (s.heap.own o e).numbered;
      fits = λ o e. ⊎_elim (λ z. (s.heap.roots o z).fits) (λ z. (s.heap.fields o z).fits)
          (or_cases (is_in o (w.house i).heap.roots) (is_in o (everywhere (w.house i).heap.objects)) (sym (is_in_append o (w.house i).heap.roots (everywhere (w.house i).heap.objects)) ∙ e));
      rises = s.heap.order;
      told = s.part.order;
      given = s.stamps.given_long;
      seen = s.stamps.seen_long;
      heard = s.stamps.heard_long;
      tally = tally_few (w.house i) s;
      slots = s.desk.now;
    }

unfoldable pub runs_on : {d : Deed} {b : Bool} {n : ℕ} {w v : promise.World} → Runs n w → Way d b n w v → Runs n v
runs_on r Way.same = r
runs_on r (Way.more l t _ _ c) = Runs.then (runs_on r l) t

-- what an entry does with the rounds: only the call round of the house that asks begins one, and only an answer that comes there tells that two agree
abbrev pub deed_called : ℕ → rules.House → Call → Deed
deed_called i h call.Round = round_at i h
deed_called i h c = Deed.leaves

abbrev pub deed_told : ℕ → Result Message Refusal → Deed
deed_told i (Ok (message.Reply c r from calm t)) = reply_at i
deed_told i r = Deed.leaves

abbrev pub deed_of : ℕ → Entry → World → Deed
deed_of n (calls i c) w = deed_called i (w.house i) c
deed_of n (delivers i m) w = deed_told i (decode n (get_or w.sent m []))

module _ (n i : ℕ) (w : World) (k : Kept n w) (lt : i < n) where
  f : Firm n i (w.house i)
  f = firm n w k i lt

  small : {a b c : ℕ} → a < b → b ≤ c → a < c
  small p q = omega arith

  -- a message that was sent, and came
  tracks_received : (bs : List ℕ) (m : Message) → Memᴰ bs w.sent → decode n bs ≡ Ok m → TracksBy (deed_told i (Ok m)) (for_collector (Ok m)) n i w (receives m (part_of m bs) (w.house i))
  tracks_received bs (message.Ask o by j) s d = tracks_handed n i w f o.0 by.0 j.0 (msg_seen n w.sent bs (message.Ask o by j) _ s d (Memᴰ.head refl))
  tracks_received bs (message.Give o j t) s d = tracks_takes n i w f o.0 j.0 t.0 (msg_seen n w.sent bs (message.Give o j t) _ s d (Memᴰ.head refl))
  tracks_received bs (message.Word from to t p) s d =
      tracks_hears n i w f from.0 to.0 t.0 (numbers (part_of (message.Word from to t p) bs)) (small (read_valid n bs (k.bytes bs s) (message.Word from to t p) d).0 k.few)
      (msg_seen n w.sent bs (message.Word from to t p) _ s d (Memᴰ.head refl))
  tracks_received bs (message.Telling c o from) s d = tracks_told n i w f c.0 o.0 from.0 (msg_seen n w.sent bs (message.Telling c o from) _ s d (Memᴰ.head refl))
  tracks_received bs (message.Answer c o from) s d = tracks_settles n i w f c.0 o.0 from.0 (note_seen_sent n w.sent bs (message.Answer c o from) _ s d (Memᴰ.head refl))
  tracks_received bs (message.Round c r) s d = tracks_polled n i w f c.0 r.0 (note_seen_sent n w.sent bs (message.Round c r) _ s d (Memᴰ.head refl))
  tracks_received bs (message.Reply c r from calm t) s d =
      tracks_noting n i w f c.0 r.0 from.0 calm t.0 (read_valid n bs (k.bytes bs s) (message.Reply c r from calm t) d).2 (note_seen_sent n w.sent bs (message.Reply c r from calm t) _ s d (Memᴰ.head refl))
  tracks_received bs (message.Complete c) s d = tracks_sweeps n i w f c.0 (msg_seen n w.sent bs (message.Complete c) _ s d (Memᴰ.head refl))

  tracks_came : (bs : List ℕ) → Memᴰ bs w.sent → TracksBy (deed_told i (decode n bs)) (for_collector (decode n bs)) n i w (step (w.house i) (came bs))
  tracks_came bs s = subst (λ (z : ℕ). TracksBy (deed_told i (decode n bs)) (for_collector (decode n bs)) n i w (read_as (decode z bs) bs (w.house i))) (sym (k.houses i lt)) (go (decode n bs) refl)
    where
      go : (r : Result Message Refusal) → decode n bs ≡ r → TracksBy (deed_told i r) (for_collector r) n i w (read_as r bs (w.house i))
      go (Ok m) e = tracks_received bs m s e
      go (Err x) e = tracks_refused true n i w x

  tracks_call : (c : Call) → TracksBy (deed_called i (w.house i) c) (of_collector c) n i w (step (w.house i) (event_of c))
  tracks_call (call.Make x) = tracks_make n i w f x
  tracks_call (call.Link o p) = tracks_link n i w f o.0 p.0
  tracks_call (call.Unlink o p) = tracks_unlink n i w f o.0 p.0
  tracks_call (call.Load o p) = tracks_load n i w f o.0 p.0
  tracks_call (call.Drop o) = tracks_drop n i w f o.0
  tracks_call (call.Ask o j) = tracks_ask n i w f o.0 j.0
  tracks_call call.Collect = tracks_collect n i w f
  tracks_call (call.Word j) = tracks_word n i w f j.0
  tracks_call (call.Join c) = tracks_join n i w f c
  tracks_call call.Tell = tracks_tell n i w f k.runs
  tracks_call call.Round = tracks_round n i w f k.runs

  written_bytes : (e : Event) → Typed e → (a : Said) → (step (w.house i) e).answer ≡ a → (bs : List ℕ) → Memᴰ bs (written a) → Bytes bs
  written_bytes e t (Err x) ea bs m = absurd (Memᴰ.not-nil m)
  written_bytes e t (Ok ls) ea bs m = go ls (λ l z. sent_bytes (w.house i) e (k.sound i lt) t ls ea l z) m
    where
      go : (ls : List Letter) → ((l : Letter) → Memᴰ l ls → Bytes (bytes_of l)) → Memᴰ bs (map bytes_of ls) → Bytes bs
      go [] g z = absurd (Memᴰ.not-nil z)
      go (l ∷ ls) g z = ⊎_elim (λ q. subst Bytes (sym q) (g l (Memᴰ.head refl))) (λ q. go ls (λ x y. g x (Memᴰ.tail y)) q) (Memᴰ.cases_cons z)

  pub readable : (e : Event) → Typed e → (a : Said) → (step (w.house i) e).answer ≡ a → ReadableSaid n a
  readable e t (Err x) ea = tt
  readable e t (Ok ls) ea = λ l z. subst (λ (m : ℕ). ReadAs m (bytes_of l) l.0 l.1) (k.houses i lt) (sent_read (w.house i) e (k.sound i lt) t ls ea l z)

  -- something happens at a house
  kept_happens : (d : Deed) (b : Bool) (e : Event) → Typed e → TracksBy d b n i w (step (w.house i) e) → Kept n (happens i e w)
  kept_happens d b e t tracks =
      let fair = always_fair (w.house i) e in
      record {
        few = k.few;
        sound = put_cases i (λ j b. j < n → Sound (cond b (step (w.house i) e).house (w.house j))) (λ _. sound_step (w.house i) e (k.sound i lt) t) (λ j l. k.sound j l);
        self = put_cases i (λ j b. j < n → rules.self (cond b (step (w.house i) e).house (w.house j)) ≡ j) (λ _. fair.home ∙ k.self i lt) (λ j l. k.self j l);
        houses = put_cases i (λ j b. j < n → rules.houses (cond b (step (w.house i) e).house (w.house j)) ≡ n) (λ _. fair.houses ∙ k.houses i lt) (λ j l. k.houses j l);
        bytes = λ bs m. ⊎_elim (λ z. k.bytes bs z) (λ z. written_bytes e t (step (w.house i) e).answer refl bs z) (Memᴰ.append_cases w.sent m);
        runs = runs_on k.runs (tracks (readable e t (step (w.house i) e).answer refl));
      }

call_typed : (c : Call) → Typed (event_of c)
call_typed (call.Make x) = tt
call_typed (call.Link o p) = tt
call_typed (call.Unlink o p) = tt
call_typed (call.Load o p) = tt
call_typed (call.Drop o) = tt
call_typed (call.Ask o j) = tt
call_typed call.Collect = tt
call_typed (call.Word j) = tt
call_typed (call.Join c) = tt
call_typed call.Tell = tt
call_typed call.Round = tt

pub message_there : (bss : List (List ℕ)) (m : ℕ) → m < length bss → Memᴰ (get_or bss m []) bss
message_there [] m lt = absurd (none_below lt)
  where
    none_below : {a : ℕ} → a < 0 → ⊥
    none_below l = omega arith
message_there (bs ∷ bss) zero lt = Memᴰ.head refl
message_there (bs ∷ bss) (suc m) lt = Memᴰ.tail (message_there bss m (omega arith))

pub kept_play : (n : ℕ) (e : Entry) (w : World) → Kept n w → Kept n (play n e w)
kept_play n (calls i c) w k = go (ltb i n) refl
  where
    go : (b : Bool) → ltb i n ≡ b → Kept n (cond b (happens i (event_of c) w) w)
    go true e = kept_happens n i w k (ltb-true i n e) (deed_called i (w.house i) c) (of_collector c) (event_of c) (call_typed c) (tracks_call n i w k (ltb-true i n e) c)
    go false e = k
kept_play n (delivers i m) w k = go (ltb i n && ltb m (length w.sent)) refl
  where
    go : (b : Bool) → (ltb i n && ltb m (length w.sent)) ≡ b → Kept n (cond b (happens i (came (get_or w.sent m [])) w) w)
    go true e =
        let p = and_parts (ltb i n) (ltb m (length w.sent)) e in
        let there = message_there w.sent m (ltb-true m (length w.sent) p.1) in
        kept_happens n i w k (ltb-true i n p.0) (deed_told i (decode n (get_or w.sent m []))) (for_collector (decode n (get_or w.sent m []))) (came (get_or w.sent m [])) (k.bytes (get_or w.sent m []) there) (tracks_came n i w k (ltb-true i n p.0) (get_or w.sent m []) there)
    go false e = k

zero_at : (k i : ℕ) → get_or {A = ℕ} (replicate k 0) i 0 ≡ 0
zero_at zero i = refl
zero_at (suc k) zero = refl
zero_at (suc k) (suc i) = zero_at k i

-- n empty houses are what runs begin with
pub alike_begin : (n : ℕ) → Alike promise.first (seen n (begin n))
alike_begin n =
    record {
      net = record {
        house = λ i. record { roots = λ o. refl; objects = objects_refl []; list = refl; given = λ j. sym (zero_at 16 j); seen = λ j. sym (zero_at 16 j); heard = λ j. sym (zero_at 16 j); census = refl };
        sent = λ x. (λ m. m, λ m. m);
        made = λ i. refl;
      };
      part = λ i. record { told = λ o. refl; answered = λ o. refl; tally = refl; polled = refl; stirred = refl };
      round = refl;
      now = λ i. sym (ap slot_seen (silent_at 16 i));
      before = λ i. sym (ap slot_seen (silent_at 16 i));
      said = λ x. (λ m. m, λ m. m);
    }

pub kept_begin : (n : ℕ) → n ≤ 16 → Kept n (begin n)
kept_begin n few =
    record {
      few = few;
      sound = λ i lt. sound_empty i n few lt;
      self = λ i lt. refl;
      houses = λ i lt. refl;
      bytes = λ bs m. absurd (Memᴰ.not-nil m);
      runs = Runs.then Runs.begun (Turn.alike promise.first (seen n (begin n)) (alike_begin n));
    }

pub kept : (n : ℕ) → n ≤ 16 → {w : World} → Reach n w → Kept n w
kept n few start = kept_begin n few
kept n few (more {w = w} r e) = kept_play n e w (kept n few r)

-- the steps of an entry
pub way_play : (n : ℕ) (e : Entry) (w : World) → Kept n w → Way (deed_of n e w) (cleaning n e w) n (seen n w) (seen n (play n e w))
way_play n (calls i c) w k = go (ltb i n) refl
  where
    go : (b : Bool) → ltb i n ≡ b → Way (deed_called i (w.house i) c) (of_collector c) n (seen n w) (seen n (cond b (happens i (event_of c) w) w))
    go true e = tracks_call n i w k (ltb-true i n e) c (readable n i w k (ltb-true i n e) (event_of c) (call_typed c) (step (w.house i) (event_of c)).answer refl)
    go false e = Way.same
way_play n (delivers i m) w k = go (ltb i n && ltb m (length w.sent)) refl
  where
    go : (b : Bool) → (ltb i n && ltb m (length w.sent)) ≡ b → Way (deed_told i (decode n (get_or w.sent m []))) (for_collector (decode n (get_or w.sent m []))) n (seen n w) (seen n (cond b (happens i (came (get_or w.sent m [])) w) w))
    go true e =
        let p = and_parts (ltb i n) (ltb m (length w.sent)) e in
        let there = message_there w.sent m (ltb-true m (length w.sent) p.1) in
        let lt = ltb-true i n p.0 in
        let bs = get_or w.sent m [] in
        tracks_came n i w k lt bs there (readable n i w k lt (came bs) (k.bytes bs there) (step (w.house i) (came bs)).answer refl)
    go false e = Way.same
