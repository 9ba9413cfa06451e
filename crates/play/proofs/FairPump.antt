-- What the collector sets off is the collector's: its calls, and the delivery of all that was sent since.
use Rattle.std.proofs.Common.{◌≡◌, ℕ, zero, suc, ◌+◌, ◌-◌, ◌*◌, ◌<◌, ◌≤◌, Bool, true, false, cond, ◌&&◌, eqb, ltb, List, [], ◌∷◌, ◌++◌, map, length, get_or, Ok, Err, Result, sym, refl, ap, ◌∙◌, subst, ⊎_elim, arith}
use mathlib.Core.List.Memᴰ
use mathlib.Core.List.{Memᴰ}
use Rattle.std.proofs.lemmas.List.{get_or_append_left, get_or-append-add, get_or_past}
use Rattle.std.proofs.lemmas.Bool.{and_parts, ltb-true, cases_lt}
use Rattle.wire.specs.declared.call.Call.{Call}
use Rattle.wire.specs.declared.call.Call.TheVariants as call
use Rattle.wire.specs.declared.message.Message.{Message}
use Rattle.wire.specs.declared.refusal.Refusal.{Refusal}
use Rattle.wire.specs.Names.{house}
use Rattle.wire.specs.Format.{decode}
use Rattle.wire.specs.Laws.{Bytes, ReadAs}
use Rattle.census.specs.Model.{asker}
use Rattle.rules.specs.Step.{Letter, Said, Event, came, step, event_of}
use Rattle.rules.specs.Sound.{Typed}
use Rattle.rules.proofs.Sound.{sent_read}
use Rattle.play.specs.Play.{World, Entry, calls, delivers, play, plays, happens, bytes_of, written, of_collector, for_collector, cleaning}
use Rattle.play.specs.Settle.{goes_to, delivery, deliveries, and_then, pump, enough, calling, each, word_to, words, joins, pass, passes, tallies, rounding, collects, completing, above, settling}
use Rattle.play.specs.Exact.{AllCleaning, OnlyCleans}
use Rattle.play.proofs.Tracking.{Kept, kept, kept_play}
use Rattle.play.proofs.FairEntries.{cleanly_append, cleanly_each, kept_plays}
use Rattle.play.proofs.FairAnswers.{letters_of, Quiet, quiet_read, quiet_call}

-- every message from number m on is the collector's
abbrev pub Since : ℕ → ℕ → World → Type 0
Since n m w = (k : ℕ) → m ≤ k → for_collector (decode n (get_or w.sent k [])) ≡ true

entry_at : (P : List ℕ → Type 0) (bss : List (List ℕ)) → P [] → ((bs : List ℕ) → Memᴰ bs bss → P bs) → (k : ℕ) → P (get_or bss k [])
entry_at P [] p f k = p
entry_at P (bs ∷ bss) p f zero = f bs (Memᴰ.head refl)
entry_at P (bs ∷ bss) p f (suc k) = entry_at P bss p (λ x m. f x (Memᴰ.tail m)) k

entry_after : (P : List ℕ → Type 0) (m : ℕ) (old new : List (List ℕ)) → P [] → ((k : ℕ) → m ≤ k → P (get_or old k [])) → ((bs : List ℕ) → Memᴰ bs new → P bs) → (k : ℕ) → m ≤ k → P (get_or (old ++ new) k [])
entry_after P m old new p f g k l =
    ⊎_elim (λ lt. subst P (sym (get_or_append_left old new [] k lt)) (f k l))
    (λ le. subst (λ (q : ℕ). P (get_or (old ++ new) q [])) (back le) (subst P (sym (get_or-append-add old new (k - length old) [])) (entry_at P new p g (k - length old)))) (cases_lt k (length old))
  where
    back : {a b : ℕ} → a ≤ b → a + (b - a) ≡ b
    back q = omega arith

module _ (n i : ℕ) (w : World) (k : Kept n w) (lt : i < n) where
  -- what is written then
  quiet_written : (e : Event) → Typed e → Quiet (step (w.house i) e) → (bs : List ℕ) → Memᴰ bs (written (step (w.house i) e).answer) → for_collector (decode n bs) ≡ true
  quiet_written e t q = go (step (w.house i) e).answer refl
    where
      of : (ls : List Letter) → ((l : Letter) → Memᴰ l ls → for_collector (decode n (bytes_of l)) ≡ true) → (bs : List ℕ) → Memᴰ bs (map bytes_of ls) → for_collector (decode n bs) ≡ true
      of [] f bs m = absurd (Memᴰ.not-nil m)
      of (l ∷ ls) f bs m =
          ⊎_elim (λ z. subst (λ (x : List ℕ). for_collector (decode n x) ≡ true) (sym z) (f l (Memᴰ.head refl))) (λ z. of ls (λ y u. f y (Memᴰ.tail u)) bs z) (Memᴰ.cases_cons m)

      go : (a : Said) → (step (w.house i) e).answer ≡ a → (bs : List ℕ) → Memᴰ bs (written a) → for_collector (decode n bs) ≡ true
      go (Err x) ea bs m = absurd (Memᴰ.not-nil m)
      go (Ok ls) ea bs m =
          of ls (λ l u.
          let r = subst (λ (x : ℕ). ReadAs x (bytes_of l) l.0 l.1) (k.houses i lt) (sent_read (w.house i) e (k.sound i lt) t ls ea l u) in
          ap (λ (x : Result Message Refusal). for_collector x) r.message ∙ q.all l (subst (λ (x : List Letter). Memᴰ l x) (sym (ap letters_of ea)) u)) bs m

  since_happens : (m : ℕ) (e : Event) → Typed e → Quiet (step (w.house i) e) → Since n m w → Since n m (happens i e w)
  since_happens m e t q s = entry_after (λ bs. for_collector (decode n bs) ≡ true) m w.sent (written (step (w.house i) e).answer) refl s (quiet_written e t q)

bytes_at : (n : ℕ) (w : World) → Kept n w → (m : ℕ) → Bytes (get_or w.sent m [])
bytes_at n w k m = entry_at Bytes w.sent (λ q. omega arith) k.bytes m

since_play : (n m : ℕ) (e : Entry) (w : World) → Kept n w → cleaning n e w ≡ true → Since n m w → Since n m (play n e w)
since_play n m (calls i c) w k e s = go (ltb i n) refl
  where
    go : (b : Bool) → ltb i n ≡ b → Since n m (cond b (happens i (event_of c) w) w)
    go true l = let q = quiet_call c (w.house i) e in since_happens n i w k (ltb-true i n l) m (event_of c) q.0 q.1 s
    go false l = s
since_play n m (delivers i j) w k e s = go (ltb i n && ltb j (length w.sent)) refl
  where
    bs : List ℕ
    bs = get_or w.sent j []

    go : (b : Bool) → (ltb i n && ltb j (length w.sent)) ≡ b → Since n m (cond b (happens i (came (get_or w.sent j [])) w) w)
    go true l =
        let p = and_parts (ltb i n) (ltb j (length w.sent)) l in
        let lt = ltb-true i n p.0 in
        since_happens n i w k lt m (came bs) (bytes_at n w k j)
        (quiet_read (decode (w.house i).heap.houses bs) bs (w.house i) (ap (λ (x : ℕ). for_collector (decode x bs)) (k.houses i lt) ∙ e)) s
    go false l = s

-- message m comes to some houses
delivering : (n m : ℕ) (to : List ℕ) (w : World) → Kept n w → Since n m w → AllCleaning n (map (delivery m) to) w × Since n m (plays n (map (delivery m) to) w)
delivering n m [] w k s = (tt, s)
delivering n m (i ∷ to) w k s =
    let e = s m (omega arith) in
    let r = delivering n m to (play n (delivers i m) w) (kept_play n (delivers i m) w k) (since_play n m (delivers i m) w k e s) in
    ((e, r.0), r.1)

pub cleanly_pump : (k n m : ℕ) (w : World) → Kept n w → Since n m w → AllCleaning n (pump k n m w) w
cleanly_pump zero n m w x s = tt
cleanly_pump (suc k) n m w x s = go (ltb m (length w.sent)) (cleanly_pump k n (m + 1) v (kept_plays n (deliveries n m w) w x) (λ q l. d.1 q (more l)))
  where
    to : List ℕ
    to = goes_to n (decode n (get_or w.sent m []))

    v : World
    v = plays n (deliveries n m w) w

    more : {a b : ℕ} → a + 1 ≤ b → a ≤ b
    more p = omega arith

    d : AllCleaning n (deliveries n m w) w × Since n m v
    d = delivering n m to w x s

    go : (b : Bool) → AllCleaning n (pump k n (m + 1) v) v → AllCleaning n (cond b (and_then n w (deliveries n m w) (λ v. pump k n (m + 1) v)) []) w
    go true r = cleanly_append n (deliveries n m w) (pump k n (m + 1) v) w d.0 r
    go false r = tt

since_end : (n : ℕ) (w : World) → Since n (length w.sent) w
since_end n w k l = ap (λ (bs : List ℕ). for_collector (decode n bs)) (get_or_past w.sent k [] l)

pub cleanly_calling : (n i : ℕ) (c : Call) (w : World) → of_collector c ≡ true → Kept n w → AllCleaning n (calling n i c w) w
cleanly_calling n i c w e k =
    let v = play n (calls i c) w in
    (e, cleanly_pump (enough n (length w.sent) v) n (length w.sent) v (kept_play n (calls i c) w k) (since_play n (length w.sent) (calls i c) w k e (since_end n w)))

-- and so are all its parts
pub cleanly_word : (n i j : ℕ) (w : World) → Kept n w → AllCleaning n (word_to n i j w) w
cleanly_word n i j w k = go (eqb i j)
  where
    go : (b : Bool) → AllCleaning n (cond b [] (calling n i (call.Word (house j)) w)) w
    go true = tt
    go false = cleanly_calling n i (call.Word (house j)) w refl k

pub cleanly_words : (n : ℕ) (w : World) → Kept n w → AllCleaning n (words n w) w
cleanly_words n w k = cleanly_each n (λ i v. each n (λ j u. word_to n i j u) n v) (λ i v x. cleanly_each n (λ j u. word_to n i j u) (λ j u y. cleanly_word n i j u y) n v x) n w k

pub cleanly_joins : (n c : ℕ) (w : World) → Kept n w → AllCleaning n (joins n c w) w
cleanly_joins n c w k = cleanly_each n (λ i v. calling n i (call.Join c) v) (λ i v x. cleanly_calling n i (call.Join c) v refl x) n w k

cleanly_pass : (n : ℕ) (w : World) → Kept n w → AllCleaning n (pass n w) w
cleanly_pass n w k = cleanly_each n (λ i v. calling n i call.Tell v) (λ i v x. cleanly_calling n i call.Tell v refl x) n w k

cleanly_passes : (t n : ℕ) (w : World) → Kept n w → AllCleaning n (passes t n w) w
cleanly_passes zero n w k = tt
cleanly_passes (suc t) n w k =
    cleanly_append n (pass n w) (cond (eqb (tallies n v) (tallies n w)) [] (passes t n v)) w (cleanly_pass n w k) (go (eqb (tallies n v) (tallies n w)) (cleanly_passes t n v (kept_plays n (pass n w) w k)))
  where
    v : World
    v = plays n (pass n w) w

    go : (b : Bool) → AllCleaning n (passes t n v) v → AllCleaning n (cond b [] (passes t n v)) v
    go true r = tt
    go false r = r

cleanly_rounding : (n : ℕ) (w : World) → Kept n w → AllCleaning n (rounding n w) w
cleanly_rounding n w k = cleanly_calling n asker call.Round w refl k

-- some entries, and what is then to be done
pub cleanly_then : (n : ℕ) (w : World) (es : List Entry) (f : World → List Entry) → Kept n w → AllCleaning n es w → ((v : World) → Kept n v → AllCleaning n (f v) v) → AllCleaning n (and_then n w es f) w
cleanly_then n w es f k c g = cleanly_append n es (f (plays n es w)) w c (g (plays n es w) (kept_plays n es w k))

pub cleanly_completing : (n : ℕ) (w : World) → Kept n w → AllCleaning n (completing n w) w
cleanly_completing n w k =
    cleanly_then n w (passes (2048 * n + 1) n w) (λ v. and_then n v (rounding n v) (λ u. rounding n u)) k (cleanly_passes (2048 * n + 1) n w k)
    (λ v x. cleanly_then n v (rounding n v) (λ u. rounding n u) x (cleanly_rounding n v x) (λ u y. cleanly_rounding n u y))

pub cleanly_collects : (n : ℕ) (w : World) → Kept n w → AllCleaning n (collects n w) w
cleanly_collects n w k = cleanly_each n (λ i v. calling n i call.Collect v) (λ i v x. cleanly_calling n i call.Collect v refl x) n w k

-- all that settling does is the collector's
pub cleanly_settling : (n : ℕ) (w : World) → Kept n w → AllCleaning n (settling n w) w
cleanly_settling n w k =
    cleanly_then n w (words n w) (λ v. and_then n v (joins n (above n v) v) (λ u. and_then n u (completing n u) (λ t. collects n t))) k (cleanly_words n w k) (λ v x.
    cleanly_then n v (joins n (above n v) v) (λ u. and_then n u (completing n u) (λ t. collects n t)) x (cleanly_joins n (above n v) v x) (λ u y.
    cleanly_then n u (completing n u) (λ t. collects n t) y (cleanly_completing n u y) (λ t z. cleanly_collects n t z)))

pub only_cleans : OnlyCleans
only_cleans n few w r = cleanly_settling n w (kept n few r)
