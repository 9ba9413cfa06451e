-- Every step leaves a sound house sound, and what it sends can be read.
use Rattle.std.proofs.Common.{◌≡◌, ℕ, ◌+◌, ◌*◌, ◌^◌, ◌<◌, ◌≤◌, min, Bool, true, false, cond, not, ◌&&◌, ◌||◌, eqb, ltb, leb, List, [], ◌∷◌, map, length, is_ok, Ok, Err, Result, sym, refl, subst, inl, inr, ⊎_elim, arith}
use mathlib.Core.List.{Memᴰ}
use Rattle.std.specs.List.{AllByRecursion}
use Rattle.std.proofs.lemmas.Bool.{and_parts, or_cases, or_left, or_right, or_parts, cond_both, eqb-true, eqb-false, eq-eqb, ltb-true, ltb-false, leb-false, not-true, not-false}
use Rattle.wire.specs.declared.message.Message.{Message}
use Rattle.wire.specs.declared.message.Message.TheVariants as message
use Rattle.wire.specs.declared.names.Stamp.{Stamp}
use Rattle.wire.specs.declared.refusal.Refusal.{Refusal}
use Rattle.wire.specs.declared.refusal.Refusal.TheVariants.{Malformed, Misdelivered, NotRoot, NoField, NotHere, NotHolder, OldStamp, OtherCensus, NoRoom, OutOfNumbers, WrongHouse}
use Rattle.wire.specs.Names.{home, house, name}
use Rattle.wire.specs.Format.{decode, encode, numbers, part_of}
use Rattle.wire.specs.Laws.{Bytes, Named, Valid, ReadAs}
use Rattle.wire.proofs.Trips.{reads_back}
use Rattle.tables.specs.Model.{Heap, is_in, present, fields_of}
use Rattle.objects.specs.Calls.{make_answer, made_new, link_answer, linked_to, unlink_answer, unlinked_from, load_answer, rooted, drop_answer, unrooted, keep_answer, take_answer, root_answer, after_take, malformed, held, roomy, unless_refused}
use Rattle.objects.specs.Executed.{collected, references_of}
use Rattle.objects.proofs.Reached.{refers}
use Rattle.lines.specs.Listed.{Listed, line, fits, belongs, entered, marked, joined, heard_of, swept, objects_listed, objects_in}
use Rattle.lines.specs.Stamping.{stamp, given_to, seen_from, heard_from, with_given, with_seen, next_for}
use Rattle.lines.specs.declared.stamps.Stamps.{Stamps}
use Rattle.census.specs.Model.{Part, asks, stirring, hearing, settled, with_told, telling, due_of, polling, replied, says_calm}
use Rattle.rounds.specs.Model.{Desk, ready, beginning, begun, noted, completes}
use Rattle.rules.specs.House.{House, self, houses, census, empty, with_heap, with_list, with_stamps, with_part, with_desk}
use Rattle.rules.specs.Step.{Letter, Outcome, Event, make, link, unlink, load, drop, ask, collect, word, join, tell, round, came, refused, refuse_if, sends, quietly, letter, used, bytes_of, in_census, caught_up, telling_of, authorised, stamped, handed, took_it, heard_stamp, newly, marks, replies, replies_to, begins, receives, read_as, step}
use Rattle.rules.specs.Sound.{SoundHeap, SoundLine, SoundList, SoundStamps, SoundPart, SoundDesk, stale, Sound, Typed, KeepsSound}
use Rattle.rules.proofs.Fairness.{by_cases, up_home, up_census}
use Rattle.rules.proofs.SoundHeaps.{heap_new, heap_made, heap_linked, heap_unlinked, heap_rooted, heap_unrooted, heap_collected, field_named, used_named, references_fit, references_named}
use Rattle.rules.proofs.SoundLists.{all_mem, list_heard, list_swept, list_joined, list_marked, list_entered, list_named, stale_heard, stale_swept, stale_few, stale_marked, stale_entered}
use Rattle.rules.proofs.SoundParts.{stamps_new, stamps_given, stamps_seen, stamps_heard, part_fresh, part_counting, part_stirring, part_replied, part_heard, part_tells, due_named, desk_idle, desk_begun, desk_noted}
use Rattle.rules.proofs.SoundWords.{read_valid, no_bytes, names_bytes, written_bytes, length_names, word_rises}

pub sound_empty : (i n : ℕ) → n ≤ 16 → i < n → Sound (empty i n)
sound_empty i n few l = record {
  heap = heap_new i n few l;
  list = record { few = omega arith; lines = λ e m. all_mem (SoundLine i n 0) [] tt e m; once = tt };
  stamps = stamps_new;
  part = part_fresh i n 0 (omega arith);
  desk = desk_idle;
  counted = omega arith;
}

-- a house with another table of the same house
module _ (h : House) (s : Sound h) where
  sound_with_heap : (y : Heap) → SoundHeap y → y.home ≡ h.heap.home → y.houses ≡ h.heap.houses → Sound (with_heap y h)
  sound_with_heap y w p q = record {
    heap = w;
    list = subst (λ n. SoundList y.home n (census h) h.list) (sym q) (subst (λ i. SoundList i (houses h) (census h) h.list) (sym p) s.list);
    stamps = s.stamps;
    part = subst (λ n. SoundPart y.home n h.part) (sym q) (subst (λ i. SoundPart i (houses h) h.part) (sym p) s.part);
    desk = s.desk;
    counted = s.counted;
  }

  sound_with_list : (es : List Listed) → SoundList (self h) (houses h) (census h) es → stale (census h) es ≤ stale (census h) h.list → Sound (with_list es h)
  sound_with_list es w l = record { heap = s.heap; list = w; stamps = s.stamps; part = s.part; desk = s.desk; counted = let k = s.counted in omega arith }

  sound_with_stamps : (st : Stamps) → SoundStamps st → Sound (with_stamps st h)
  sound_with_stamps st w = record { heap = s.heap; list = s.list; stamps = w; part = s.part; desk = s.desk; counted = s.counted }

  sound_with_part : (p : Part) → SoundPart (self h) (houses h) p → p.census ≡ h.part.census → p.tally ≡ h.part.tally → Sound (with_part p h)
  sound_with_part p w c t = record {
    heap = s.heap;
    list = subst (λ k. SoundList (self h) (houses h) k h.list) (sym c) s.list;
    stamps = s.stamps;
    part = w;
    desk = s.desk;
    counted = subst (λ k. p.tally + stale k h.list ≤ 2048) (sym c) (subst (λ k. k + stale (census h) h.list ≤ 2048) (sym t) s.counted);
  }

  sound_with_desk : (d : Desk) → SoundDesk d → Sound (with_desk d h)
  sound_with_desk d w = record { heap = s.heap; list = s.list; stamps = s.stamps; part = s.part; desk = w; counted = s.counted }

  sound_in : (c : ℕ) → census h ≤ c → c < 2 ^ 32 → Sound (in_census c h)
  sound_in c l k =
      let es = joined c (heard_from h.stamps) h.list in
      let w : SoundList (self h) (houses h) c es = list_joined (self h) (houses h) (census h) c (heard_from h.stamps) h.list l s.list in
      record { heap = s.heap; list = w; stamps = s.stamps; part = part_fresh (self h) (houses h) c k; desk = desk_idle; counted = omega (arith, stale_few c es, w.few) }

  sound_up : (c : ℕ) → c < 2 ^ 32 → Sound (caught_up c h)
  sound_up c k = cond_both (ltb (census h) c) (in_census c h) h Sound (λ t. let l = ltb-true (census h) c t in sound_in c (omega arith) k) (λ _. s)

  -- what is in use can be told: it has a name, and lives in another house
  pub used_far : (o : ℕ) → is_in o (used h) ≡ true → (home o ≡ self h → ⊥) × Named (houses h) (name o)
  used_far = used_named h.heap s.heap (objects_in (census h) h.list) (list_named (self h) (houses h) (census h) (census h) h.list s.list)

tally_under : (t n a b : ℕ) → t + b ≤ 2048 → n + a ≤ b → min (t + n) 4294967295 + a ≤ 2048
tally_under t n a b p q = omega arith

sound_marks : (o j : ℕ) (g : House) → Sound g → Sound (marks (census g) o j g)
sound_marks o j g s = record {
  heap = s.heap;
  list = list_marked (self g) (houses g) (census g) o j g.list s.list;
  stamps = s.stamps;
  part = part_counting (self g) (houses g) g.part s.part (newly (census g) o j g.list);
  desk = s.desk;
  counted = tally_under g.part.tally (newly (census g) o j g.list) (stale (census g) (marked (census g) o j g.list)) (stale (census g) g.list) s.counted (stale_marked (census g) o j g.list);
}

-- a letter that may be sent
abbrev Fine : ℕ → Letter → Type 0
Fine n l = Valid n l.0 l.1 × Bytes l.1

-- an outcome with a sound house, and with letters that may be sent
record Good (n : ℕ) (x : Outcome) : Type 0 where
  keeps : Sound x.house
  fine : (ls : List Letter) → x.answer ≡ Ok ls → AllByRecursion (Fine n) ls

module _ (n : ℕ) where
  good_refused : (e : Refusal) (h : House) → Sound h → Good n (refused e h)
  good_refused e h s = record { keeps = s; fine = λ ls q. let z : ◌≡◌ {A = ℕ} 0 1 = cc in absurd (omega arith) }

  good_sends : (ls : List Letter) (h : House) → AllByRecursion (Fine n) ls → Sound h → Good n (sends ls h)
  good_sends ls h a s = record { keeps = s; fine = λ ks q. let e : ls ≡ ks = cc in subst (AllByRecursion (Fine n)) e a }

  good_unless : (b : Bool) (e : Refusal) (h : House) (x : Outcome) → Sound h → (b ≡ false → Good n x) → Good n (refuse_if b e h x)
  good_unless true e h x s f = good_refused e h s
  good_unless false e h x s f = f refl

  good_cond : (b : Bool) (x y : Outcome) → (b ≡ true → Good n x) → (b ≡ false → Good n y) → Good n (cond b x y)
  good_cond true x y f g = f refl
  good_cond false x y f g = g refl

  good_heap : {X : Type 0} (r : Result X Refusal) (new : Heap) (h : House) → Sound h → (is_ok r ≡ true → Sound (with_heap new h)) → Good n (quietly r (unless_refused r new h.heap) h)
  good_heap (Err e) new h s f = good_refused e h s
  good_heap (Ok x) new h s f = good_sends [] (with_heap new h) tt (f refl)

-- a letter without objects
plain : (n : ℕ) (m : Message) → Valid n m [] → AllByRecursion (Fine n) (letter m ∷ [])
plain n m v = ((v, no_bytes), tt)

-- what was not refused
ok_rest : {X : Type 0} (b : Bool) (e : Refusal) (rest : Result X Refusal) → is_ok (cond b (Err e) rest) ≡ true → (b ≡ false) × (is_ok rest ≡ true)
ok_rest true e rest t = let z : ◌≡◌ {A = ℕ} 0 1 = cc in absurd (omega arith)
ok_rest false e rest t = (refl, t)

one_at_least : (k : ℕ) → (k ≡ 0 → ⊥) → 1 ≤ k
one_at_least k f = omega arith

-- the calls on objects
module _ (x : Heap) (s : SoundHeap x) where
  makes_sound : (k : ℕ) → is_ok (make_answer k x) ≡ true → SoundHeap (made_new k x)
  makes_sound k t =
      let a = ok_rest (eqb k 0) Malformed _ t in
      let b = ok_rest (not (ltb (length x.objects) 1024 && roomy x)) NoRoom _ a.1 in
      let d = ok_rest (leb k x.made || ltb 4294967295 (k * 16 + x.home)) OutOfNumbers _ b.1 in
      let room = and_parts (ltb (length x.objects) 1024) (roomy x) (not-false _ b.0) in
      let new = or_parts (leb k x.made) (ltb 4294967295 (k * 16 + x.home)) d.0 in
      heap_made x s k (one_at_least k (eqb-false k 0 a.0)) (ltb-true (length x.objects) 1024 room.0) (ltb-true (length x.roots) 256 room.1) (leb-false k x.made new.0) (ltb-false 4294967295 (k * 16 + x.home) new.1)

  links_sound : (o p : ℕ) → is_ok (link_answer o p x) ≡ true → SoundHeap (linked_to o p x)
  links_sound o p t =
      let a = ok_rest (malformed o x || malformed p x) Malformed _ t in
      let b = ok_rest (not (held o x && is_in p x.roots)) NotRoot _ a.1 in
      let d = ok_rest (leb 8 (length (fields_of o x.objects))) NoRoom _ b.1 in
      heap_linked x s o p (and_parts (held o x) (is_in p x.roots) (not-false _ b.0)).1 (leb-false 8 (length (fields_of o x.objects)) d.0)

  roots_sound : (o : ℕ) → Named x.houses (name o) → is_ok (root_answer o x) ≡ true → SoundHeap (rooted o x)
  roots_sound o w t =
      let a = ok_rest (not (is_in o x.roots || roomy x)) NoRoom (Ok tt) t in
      heap_rooted x s o w (⊎_elim (λ u. inl u) (λ u. inr (ltb-true (length x.roots) 256 u)) (or_cases (is_in o x.roots) (roomy x) (not-false _ a.0)))

  loads_sound : (o p : ℕ) → is_ok (load_answer o p x) ≡ true → SoundHeap (rooted p x)
  loads_sound o p t =
      let a = ok_rest (malformed o x || malformed p x) Malformed _ t in
      let b = ok_rest (not (held o x)) NotRoot _ a.1 in
      let d = ok_rest (not (is_in p (fields_of o x.objects))) NoField _ b.1 in
      roots_sound p (field_named x s o p (not-false _ d.0)) d.1

  keeps_sound : (o : ℕ) → Named x.houses (name o) → is_ok (keep_answer o x) ≡ true → SoundHeap (rooted o x)
  keeps_sound o w t = roots_sound o w (ok_rest (malformed o x) Malformed _ t).1

  takes_sound : (o : ℕ) → Named x.houses (name o) → is_ok (take_answer o x) ≡ true → SoundHeap (rooted o x)
  takes_sound o w t =
      let a = ok_rest (malformed o x) Malformed _ t in
      let b = ok_rest (not (roomy x)) NoRoom (Ok tt) a.1 in
      heap_rooted x s o w (inr (ltb-true (length x.roots) 256 (not-false _ b.0)))

-- the next stamp
next_stamp : (j : ℕ) (st : Stamps) (r : Stamp) → next_for j st ≡ Ok r → (r ≡ stamp (given_to st j + 1)) × (given_to st j < 4294967295)
next_stamp j st r e = by_cases (ltb j 16)
    (λ a. by_cases (ltb (given_to st j) 4294967295)
    (λ b. let q : next_for j st ≡ Ok (stamp (given_to st j + 1)) = rw (a, b) in let k : stamp (given_to st j + 1) ≡ r = cc in (sym k, ltb-true (given_to st j) 4294967295 b))
    (λ b. let q : next_for j st ≡ Err OutOfNumbers = rw (a, b) in let z : ◌≡◌ {A = ℕ} 0 1 = cc in absurd (omega arith)))
    (λ a. let q : next_for j st ≡ Err Malformed = rw a in let z : ◌≡◌ {A = ℕ} 0 1 = cc in absurd (omega arith))

next_fits : (a : ℕ) → a < 4294967295 → a + 1 < 2 ^ 32
next_fits a l = omega arith

module _ (h : House) (s : Sound h) where
  good_asked : (o j : ℕ) → is_in o h.heap.roots ≡ true → j < houses h → AllByRecursion (Fine (houses h)) (letter (message.Ask (name o) (house (self h)) (house j)) ∷ [])
  good_asked o j r l = plain (houses h) (message.Ask (name o) (house (self h)) (house j)) (s.heap.roots o r, s.heap.inside, l, refl)

  word_fine : (j : ℕ) → j < houses h → let os = references_of j h.heap in Fine (houses h) (message.Word (house (self h)) (house j) (stamp (seen_from h.stamps j)) (record { at = 9; count = length os }), bytes_of os)
  word_fine j l =
      let os = references_of j h.heap in
      let few = references_fit j h.heap s.heap in
      ((s.heap.inside, l, s.stamps.seen j, refl, omega arith, length_names os, word_rises (houses h) j os (refers h.heap j).rises (references_named j h.heap s.heap)), names_bytes os)

  tellings_fine : (ds : List ℕ) → ((o : ℕ) → is_in o ds ≡ true → Named (houses h) (name o)) → AllByRecursion (Fine (houses h)) (map (telling_of h) ds)
  tellings_fine [] f = tt
  tellings_fine (o ∷ ds) f =
      (((s.part.census, f o (or_left (eqb o o) (is_in o ds) (eq-eqb o o refl)), s.heap.inside, refl), no_bytes), tellings_fine ds (λ q e. f q (or_right (eqb o q) (is_in q ds) e)))

  good_stamped : (r : Result Stamp Refusal) (o j : ℕ) → next_for j h.stamps ≡ r → Named (houses h) (name o) → fits o j h.list 2048 ≡ true → Good (houses h) (stamped r o j h)
  good_stamped (Err e) o j q w room = good_refused (houses h) e h s
  good_stamped (Ok t) o j q w room =
      good_unless (houses h) (not (belongs (self h) (houses h) o j)) Malformed h _ s (λ b.
      let ok = not-false (belongs (self h) (houses h) o j) b in
      let here = and_parts (eqb (home o) (self h)) _ ok in
      let there = and_parts (not (eqb j (self h))) (ltb j (houses h)) here.1 in
      let near : j < houses h = ltb-true j (houses h) there.1 in
      let next = next_stamp j h.stamps t q in
      let small : t.0 < 2 ^ 32 = subst (λ (x : Stamp). x.0 < 2 ^ 32) (sym next.0) (next_fits (given_to h.stamps j) next.1) in
      let new : SoundLine (self h) (houses h) (census h) (line o j t.0 (census h)) =
      record { own = eqb-true (home o) (self h) here.0; named = w; near = near; apart = eqb-false j (self h) (not-true (eqb j (self h)) there.0); stamp = small; census = omega arith } in
      let es = entered o j t.0 (census h) h.list in
      let g = with_list es h in
      let sound' = sound_with_list h s es (list_entered o j t.0 (census h) (self h) (houses h) h.list room new s.list) (stale_entered o j t.0 (census h) h.list) in
      good_sends (houses h) _ _ (plain (houses h) (message.Give (name o) (house j) t) (w, near, small, refl))
      (sound_with_stamps g sound' (with_given h.stamps j (given_to h.stamps j + 1)) (stamps_given h.stamps s.stamps j (given_to h.stamps j + 1) (next_fits (given_to h.stamps j) next.1))))

  -- an ask that came
  good_handed : (o by j : ℕ) → Named (houses h) (name o) → Good (houses h) (handed o by j h)
  good_handed o by j w =
      good_unless (houses h) (not (eqb (home o) (self h))) Misdelivered h _ s (λ _.
      good_unless (houses h) (not (present o h.heap.objects)) NotHere h _ s (λ _.
      good_unless (houses h) (not (authorised o by h)) NotHolder h _ s (λ _.
      good_cond (houses h) (eqb j (self h)) _ _
      (λ _. good_heap (houses h) (keep_answer o h.heap) (rooted o h.heap) h s (λ t. sound_with_heap h s (rooted o h.heap) (keeps_sound h.heap s.heap o w t) refl refl))
      (λ _. good_unless (houses h) (not (fits o j h.list 2048)) NoRoom h _ s (λ b. good_stamped (next_for j h.stamps) o j refl w (not-false (fits o j h.list 2048) b))))))

  sound_after_take : (o : ℕ) → Named (houses h) (name o) → SoundHeap (after_take o h.heap) × ((after_take o h.heap).home ≡ self h) × ((after_take o h.heap).houses ≡ houses h)
  sound_after_take o w =
      cond_both (is_ok (take_answer o h.heap)) (rooted o h.heap) h.heap (λ (y : Heap). SoundHeap y × (y.home ≡ self h) × (y.houses ≡ houses h))
      (λ t. (takes_sound h.heap s.heap o w t, refl, refl))
      (λ _. (s.heap, refl, refl))

  good_took : (r : Result (Unit {0}) Refusal) (o t : ℕ) → Named (houses h) (name o) → t < 2 ^ 32 → Good (houses h) (took_it r o t h)
  good_took (Err e) o t w l = good_refused (houses h) e h s
  good_took (Ok u) o t w l =
      let st = with_seen h.stamps (home o) t in
      let g = with_stamps st h in
      let sg = sound_with_stamps h s st (stamps_seen h.stamps s.stamps (home o) t l) in
      let k = with_part (stirring h.part) g in
      let sk = sound_with_part g sg (stirring h.part) (part_stirring (self h) (houses h) h.part s.part) refl refl in
      let y = sound_after_take o w in
      good_sends (houses h) [] _ tt (sound_with_heap k sk (after_take o h.heap) y.0 y.1 y.2)

hearing_same : (c o : ℕ) (p : Part) → ((hearing c o p).census ≡ p.census) × ((hearing c o p).tally ≡ p.tally)
hearing_same c o p = cond_both (eqb c p.census) (with_told (settled o p.told) p) p (λ (q : Part). (q.census ≡ p.census) × (q.tally ≡ p.tally)) (λ _. (refl, refl)) (λ _. (refl, refl))

replied_same : (c r : ℕ) (p : Part) → ((replied c r p).census ≡ p.census) × ((replied c r p).tally ≡ p.tally)
replied_same c r p = cond_both (eqb c p.census) (polling r p) p (λ (q : Part). (q.census ≡ p.census) × (q.tally ≡ p.tally)) (λ _. (refl, refl)) (λ _. (refl, refl))

module _ (n : ℕ) (g : House) (s : Sound g) where
  good_replies : (b : Bool) (m : Message) (e : Refusal) (c r : ℕ) → Valid n m [] → Good n (replies (cond b (Ok m) (Err e)) c r g)
  good_replies true m e c r v =
      let same = replied_same c r g.part in
      good_sends n (letter m ∷ []) _ (plain n m v) (sound_with_part g s (replied c r g.part) (part_replied (self g) (houses g) g.part s.part c r) same.0 same.1)
  good_replies false m e c r v = good_refused n e g s

tally_fits : (t k : ℕ) → t + k ≤ 2048 → t < 2 ^ 32
tally_fits t k l = omega arith

good_polled : (c r : ℕ) (g : House) → Sound g → c < 2 ^ 32 → r < 2 ^ 32 → Good (houses g) (replies_to c r g)
good_polled c r g s l k =
    good_replies (houses g) g s (eqb c (census g)) (message.Reply (record { 0 = c }) (record { 0 = r }) (house (self g)) (says_calm r (used g) g.part) (record { 0 = g.part.tally })) OtherCensus c r
    (l, k, s.heap.inside, tally_fits g.part.tally (stale (census g) g.list) s.counted, refl)

begin_fits : (n : ℕ) (d : Desk) (r : ℕ) → SoundDesk d → beginning n d ≡ Ok r → r < 2 ^ 32
begin_fits n d r w e = by_cases (ready n d)
    (λ a. by_cases (ltb d.round 4294967295)
    (λ b. let q : beginning n d ≡ Ok (d.round + 1) = rw (a, b) in let k : d.round + 1 ≡ r = cc in subst (λ x. x < 2 ^ 32) k (next_fits d.round (ltb-true d.round 4294967295 b)))
    (λ b. let q : beginning n d ≡ Err OutOfNumbers = rw (a, b) in let z : ◌≡◌ {A = ℕ} 0 1 = cc in absurd (omega arith)))
    (λ a. let q : beginning n d ≡ Ok d.round = rw a in let k : d.round ≡ r = cc in subst (λ x. x < 2 ^ 32) k w.round)

good_begins : (h : House) (r : Result ℕ Refusal) → Sound h → beginning (houses h) h.desk ≡ r → Good (houses h) (begins r h)
good_begins h (Err e) s q = good_refused (houses h) e h s
good_begins h (Ok r) s q =
    good_sends (houses h) _ _ (plain (houses h) (message.Round (record { 0 = census h }) (record { 0 = r })) (s.part.census, begin_fits (houses h) h.desk r s.desk q, refl))
    (sound_with_desk h s (begun (houses h) h.desk) (desk_begun h.desk s.desk (houses h)))

marked_up : (c o j : ℕ) (g : House) → census g ≡ c → Sound g → Sound (marks c o j g)
marked_up c o j g e s = subst (λ k. Sound (marks k o j g)) e (sound_marks o j g s)

good_receives : (m : Message) (part : List ℕ) (h : House) → Sound h → Valid (houses h) m part → Good (houses h) (receives m part h)
good_receives (message.Ask o by j) part h s (w, a, b, e) = good_handed h s o.0 by.0 j.0 w
good_receives (message.Give o j t) part h s (w, a, l, e) =
    good_unless (houses h) (not (eqb j.0 (self h)) || eqb (home o.0) (self h)) Misdelivered h _ s (λ _.
    good_unless (houses h) (leb t.0 (seen_from h.stamps (home o.0))) OldStamp h _ s (λ _. good_took h s (take_answer o.0 h.heap) o.0 t.0 w l))
good_receives (message.Word from to t p) part h s (a, b, l, d, e, f, k) =
    good_unless (houses h) (not (eqb to.0 (self h))) Misdelivered h _ s (λ _.
    let es = heard_of from.0 (numbers part) t.0 h.list in
    let sg = sound_with_list h s es (list_heard (self h) (houses h) (census h) h.list s.list from.0 (numbers part) t.0) (stale_heard (census h) from.0 (numbers part) t.0 h.list) in
    good_sends (houses h) [] _ tt (sound_with_stamps (with_list es h) sg (heard_stamp from.0 t.0 h.stamps) (stamps_heard h.stamps s.stamps from.0 t.0 l)))
good_receives (message.Telling c o from) part h s (l, w, a, e) =
    good_unless (houses h) (not (eqb (home o.0) (self h))) Misdelivered h _ s (λ _.
    good_unless (houses h) (ltb c.0 (census h)) OtherCensus h _ s (λ low.
    good_sends (houses h) _ _ (plain (houses h) (message.Answer c o from) (l, w, a, refl)) (marked_up c.0 o.0 from.0 (caught_up c.0 h) (up_census c.0 h low) (sound_up h s c.0 l))))
good_receives (message.Answer c o from) part h s (l, w, a, e) =
    good_unless (houses h) (not (eqb from.0 (self h))) Misdelivered h _ s (λ _.
    good_unless (houses h) (not (eqb c.0 (census h))) OtherCensus h _ s (λ _.
    let same = hearing_same c.0 o.0 h.part in
    good_sends (houses h) [] _ tt (sound_with_part h s (hearing c.0 o.0 h.part) (part_heard (self h) (houses h) h.part s.part c.0 o.0) same.0 same.1)))
good_receives (message.Round c r) part h s (l, k, e) =
    good_unless (houses h) (ltb c.0 (census h)) OtherCensus h _ s (λ _.
    let g = caught_up c.0 h in
    subst (λ n. Good n (replies_to c.0 r.0 g)) (up_home (ltb (census h) c.0) c.0 h).1 (good_polled c.0 r.0 g (sound_up h s c.0 l) l k))
good_receives (message.Reply c r from calm t) part h s (l, k, a, b, e) =
    good_unless (houses h) (not (asks (self h))) Misdelivered h _ s (λ _.
    good_unless (houses h) (not (eqb c.0 (census h))) OtherCensus h _ s (λ _.
    good_sends (houses h) _ _
    (cond_both (completes (houses h) r.0 from.0 calm t.0 h.desk) (letter (message.Complete c) ∷ []) [] (AllByRecursion (Fine (houses h))) (λ _. plain (houses h) (message.Complete c) (l, refl)) (λ _. tt))
    (sound_with_desk h s (noted r.0 from.0 calm t.0 h.desk) (desk_noted h.desk s.desk r.0 from.0 calm t.0))))
good_receives (message.Complete c) part h s (l, e) =
    good_unless (houses h) (not (eqb c.0 (census h))) OtherCensus h _ s (λ _.
    good_sends (houses h) [] _ tt (sound_with_list h s (swept c.0 h.list) (list_swept (self h) (houses h) (census h) h.list s.list c.0) (stale_swept (census h) c.0 h.list)))

good_read : (r : Result Message Refusal) (bs : List ℕ) (h : House) → Sound h → Bytes bs → decode (houses h) bs ≡ r → Good (houses h) (read_as r bs h)
good_read (Err e) bs h s b q = good_refused (houses h) e h s
good_read (Ok m) bs h s b q = good_receives m (part_of m bs) h s (read_valid (houses h) bs b m q)

good_step : (h : House) (e : Event) → Sound h → Typed e → Good (houses h) (step h e)
good_step h (make k) s _ = good_heap (houses h) (make_answer k h.heap) (made_new k h.heap) h s (λ t. sound_with_heap h s (made_new k h.heap) (makes_sound h.heap s.heap k t) refl refl)
good_step h (link o p) s _ = good_heap (houses h) (link_answer o p h.heap) (linked_to o p h.heap) h s (λ t. sound_with_heap h s (linked_to o p h.heap) (links_sound h.heap s.heap o p t) refl refl)
good_step h (unlink o p) s _ = good_heap (houses h) (unlink_answer o p h.heap) (unlinked_from o p h.heap) h s (λ _. sound_with_heap h s (unlinked_from o p h.heap) (heap_unlinked h.heap s.heap o p) refl refl)
good_step h (load o p) s _ = good_heap (houses h) (load_answer o p h.heap) (rooted p h.heap) h s (λ t. sound_with_heap h s (rooted p h.heap) (loads_sound h.heap s.heap o p t) refl refl)
good_step h (drop o) s _ = good_heap (houses h) (drop_answer o h.heap) (unrooted o h.heap) h s (λ _. sound_with_heap h s (unrooted o h.heap) (heap_unrooted h.heap s.heap o) refl refl)
good_step h (ask o j) s _ =
    good_unless (houses h) (malformed o h.heap || leb (houses h) j) Malformed h _ s (λ a.
    good_unless (houses h) (not (is_in o h.heap.roots)) NotRoot h _ s (λ b.
    good_sends (houses h) _ h (good_asked h s o j (not-false (is_in o h.heap.roots) b) (leb-false (houses h) j (or_parts (malformed o h.heap) (leb (houses h) j) a).1)) s))
good_step h collect s _ = good_sends (houses h) [] _ tt (sound_with_heap h s (collected (objects_listed h.list) h.heap) (heap_collected h.heap s.heap (objects_listed h.list)) refl refl)
good_step h (word j) s _ =
    good_unless (houses h) (leb (houses h) j) Malformed h _ s (λ a.
    good_unless (houses h) (eqb j (self h)) WrongHouse h _ s (λ _. good_sends (houses h) _ h (word_fine h s j (leb-false (houses h) j a), tt) s))
good_step h (join c) s _ =
    good_unless (houses h) (leb c (census h) || ltb 4294967295 c) OutOfNumbers h _ s (λ a.
    let p = or_parts (leb c (census h)) (ltb 4294967295 c) a in
    let low = leb-false c (census h) p.0 in
    let high = ltb-false 4294967295 c p.1 in
    good_sends (houses h) [] (in_census c h) tt (sound_in h s c (omega arith) (omega arith)))
good_step h tell s _ =
    good_sends (houses h) _ _ (tellings_fine h s (due_of (used h) h.part) (due_named (self h) (houses h) h.part s.part (used h) (used_far h s)))
    (sound_with_part h s (telling (used h) h.part) (part_tells (self h) (houses h) h.part s.part (used h) (used_far h s)) refl refl)
good_step h round s _ = good_unless (houses h) (not (asks (self h))) WrongHouse h _ s (λ _. good_begins h (beginning (houses h) h.desk) s refl)
good_step h (came bs) s b = good_read (decode (houses h) bs) bs h s b refl

pub sound_step : KeepsSound
sound_step h e s t = (good_step h e s t).keeps

sent_fine : (h : House) (e : Event) → Sound h → Typed e → (ls : List Letter) → (step h e).answer ≡ Ok ls → (l : Letter) → Memᴰ l ls → Fine (houses h) l
sent_fine h e s t ls q = all_mem (Fine (houses h)) ls ((good_step h e s t).fine ls q)

pub sent_valid : (h : House) (e : Event) → Sound h → Typed e → (ls : List Letter) → (step h e).answer ≡ Ok ls → (l : Letter) → Memᴰ l ls → Valid (houses h) l.0 l.1
sent_valid h e s t ls q l m = (sent_fine h e s t ls q l m).0

pub sent_bytes : (h : House) (e : Event) → Sound h → Typed e → (ls : List Letter) → (step h e).answer ≡ Ok ls → (l : Letter) → Memᴰ l ls → Bytes (encode l.0 l.1)
sent_bytes h e s t ls q l m = let w = sent_fine h e s t ls q l m in written_bytes (houses h) s.heap.sixteen l.0 l.1 w.0 w.1

pub sent_read : (h : House) (e : Event) → Sound h → Typed e → (ls : List Letter) → (step h e).answer ≡ Ok ls → (l : Letter) → Memᴰ l ls → ReadAs (houses h) (encode l.0 l.1) l.0 l.1
sent_read h e s t ls q l m = reads_back l.0 l.1 (houses h) (sent_valid h e s t ls q l m)

pub tally_few : (h : House) → Sound h → h.part.tally ≤ 2048
tally_few h s = let l = s.counted in omega arith

-- a tally never comes to its end: each mark that is new is counted
exactly : (t n a b : ℕ) → t + b ≤ 2048 → n + a ≤ b → min (t + n) 4294967295 ≡ t + n
exactly t n a b p q = omega arith

pub marks_counted : (o j : ℕ) (g : House) → Sound g → (marks (census g) o j g).part.tally ≡ g.part.tally + newly (census g) o j g.list
marks_counted o j g s = exactly g.part.tally (newly (census g) o j g.list) (stale (census g) (marked (census g) o j g.list)) (stale (census g) g.list) s.counted (stale_marked (census g) o j g.list)
