-- A message that comes twice in a row.
use Rattle.std.proofs.Common.{◌≡◌, ℕ, ◌+◌, ◌<◌, min, max, Bool, true, false, cond, not, ◌||◌, eqb, ltb, leb, List, [], ◌∷◌, length, get_or, set, is_ok, Ok, Err, Result, sym, refl, ap, ◌∙◌, arith, get_or-set_same, set-set}
use Rattle.std.proofs.lemmas.Bool.{eq-eqb, le-leb, le-ltb, ltb-true}
use Rattle.wire.specs.declared.message.Message.{Message}
use Rattle.wire.specs.declared.message.Message.TheVariants as message
use Rattle.wire.specs.declared.refusal.Refusal.{Refusal}
use Rattle.wire.specs.declared.refusal.Refusal.TheVariants.{Misdelivered, OldStamp, OtherCensus}
use Rattle.wire.specs.Format.{decode, numbers}
use Rattle.wire.specs.Names.{home}
use Rattle.objects.specs.Calls.{take_answer}
use Rattle.lines.specs.Listed.{Listed, is_of, listed, listed_in, marked, swept, heard_of, line}
use Rattle.lines.specs.Stamping.{seen_from, heard_from}
use Rattle.lines.specs.declared.stamps.Stamps.{Stamps}
use Rattle.lines.proofs.Laws.{again}
use Rattle.census.specs.Model.{Part, asks as isAsker, counting, hearing, polling}
use Rattle.census.proofs.Laws.{laws}
use Rattle.rounds.specs.Model.{noted, completes}
use Rattle.rounds.proofs.Laws.{noted_twice}
use Rattle.rules.specs.House.{House, self, houses, census, with_list, with_part, with_stamps, with_desk}
use Rattle.rules.specs.Step.{Outcome, letter, refused, refuse_if, sends, caught_up, marks, newly, heard_stamp, took_it, replies_to, receives, read_as, came, step}
use Rattle.rules.specs.Laws.{is_ask, asks, Sixteen, TwiceIsOnce}
use Rattle.rules.proofs.Fairness.{by_cases, up_home, up_census, always_fair}

-- a refusal or a rule that, done twice, is done once
idem_if :
    (b : House → Bool) (e : Refusal) (f : House → Outcome) (h : House) → (b h ≡ false → (b (f h).house ≡ false) × ((f (f h).house).house ≡ (f h).house)) →
    (refuse_if (b (refuse_if (b h) e h (f h)).house) e (refuse_if (b h) e h (f h)).house (f (refuse_if (b h) e h (f h)).house)).house ≡ (refuse_if (b h) e h (f h)).house
idem_if b e f h k =
    let F : House → Outcome = λ x. refuse_if (b x) e x (f x) in
    by_cases (b h)
    (λ p. let q : F h ≡ refused e h = rw p in ap (λ x. (F x.house).house) q)
    (λ p.
    let q : F h ≡ f h = rw p in
    let g : F (f h).house ≡ f (f h).house = rw (k p).0 in
    ap (λ x. (F x.house).house) q ∙ ap (λ x. x.house) g ∙ (k p).1 ∙ ap (λ x. x.house) (sym q))

-- a give that was taken is old
took_twice : (o s : ℕ) (h : House) (r : Result (Unit {0}) Refusal) → Sixteen h → take_answer o h.heap ≡ r →
    (refuse_if (leb s (seen_from (took_it r o s h).house.stamps (home o))) OldStamp (took_it r o s h).house (took_it (take_answer o (took_it r o s h).house.heap) o s (took_it r o s h).house)).house ≡ (took_it r o s h).house
took_twice o s h (Err e) six p = by_cases (leb s (seen_from h.stamps (home o))) (λ q. rw q) (λ q. rw (q, p))
took_twice o s h (Ok u) six p =
    let near : home o < length h.stamps.seen = omega (arith, six.0) in
    let seen : get_or (set h.stamps.seen (home o) s) (home o) 0 ≡ s = rw get_or-set_same in
    let old : leb s (get_or (set h.stamps.seen (home o) s) (home o) 0) ≡ true = le-leb s _ (omega (arith, seen)) in
    rw old

take_twice : (o s : ℕ) (h : House) → Sixteen h →
    let F : House → Outcome = λ x. refuse_if (leb s (seen_from x.stamps (home o))) OldStamp x (took_it (take_answer o x.heap) o s x) in (F (F h).house).house ≡ (F h).house
take_twice o s h six =
    let F : House → Outcome = λ x. refuse_if (leb s (seen_from x.stamps (home o))) OldStamp x (took_it (take_answer o x.heap) o s x) in
    by_cases (leb s (seen_from h.stamps (home o)))
    (λ p. let q : F h ≡ refused OldStamp h = rw p in ap (λ x. (F x.house).house) q)
    (λ p. let q : F h ≡ took_it (take_answer o h.heap) o s h = rw p in ap (λ x. (F x.house).house) q ∙ took_twice o s h (take_answer o h.heap) six refl ∙ ap (λ x. x.house) (sym q))

took_self : (o s : ℕ) (h : House) (r : Result (Unit {0}) Refusal) (b : Bool) → (refuse_if b OldStamp h (took_it r o s h)).house.heap.home ≡ h.heap.home
took_self o s h r true = refl
took_self o s h (Err e) false = refl
took_self o s h (Ok u) false = by_cases (is_ok (take_answer o h.heap)) (λ p. rw p) (λ p. rw p)

-- the greater of two stamps is heard
heard_twice : (j s : ℕ) (st : Stamps) → length st.heard ≡ 16 → heard_stamp j s (heard_stamp j s st) ≡ heard_stamp j s st
heard_twice j s st six =
    by_cases (ltb j 16)
    (λ p.
    let near : j < length st.heard = omega (arith, ltb-true j 16 p) in
    let m : ℕ = max (heard_from st j) s in
    let here : get_or (set st.heard j m) j 0 ≡ m = rw get_or-set_same in
    let most : max m s ≡ m = omega arith in
    let twice : set (set st.heard j m) j m ≡ set st.heard j m = set-set st.heard j m m in
    rw (p, here, most, twice))
    (λ p. rw p)

marked_twice : (c o j : ℕ) (es : List Listed) → marked c o j (marked c o j es) ≡ marked c o j es
unfolding marked
marked_twice c o j [] = refl
marked_twice c o j (e ∷ es) =
    by_cases (is_of o j e)
    (λ p. let here : is_of o j (line o j e.stamp c) ≡ true = rw (eq-eqb o o refl, eq-eqb j j refl) in rw (p, eq-eqb o o refl, eq-eqb j j refl))
    (λ p. rw (p, p, marked_twice c o j es))

newly_marked : (c o j : ℕ) (es : List Listed) → newly c o j (marked c o j es) ≡ 0
unfolding marked listed listed_in
newly_marked c o j [] = refl
newly_marked c o j (e ∷ es) =
    by_cases (is_of o j e)
    (λ p. rw (p, eq-eqb o o refl, eq-eqb j j refl, eq-eqb c c refl))
    (λ p. rw (p, p) (newly_marked c o j es))

counted_nothing : (n : ℕ) (p : Part) → counting 0 (counting n p) ≡ counting n p
counted_nothing n p = let e : min (min (p.tally + n) 4294967295 + 0) 4294967295 ≡ min (p.tally + n) 4294967295 = omega arith in rw e

swept_twice : (c : ℕ) (es : List Listed) → swept c (swept c es) ≡ swept c es
unfolding swept
swept_twice c [] = refl
swept_twice c (e ∷ es) = by_cases (eqb e.census c) (λ p. rw (p, p, swept_twice c es)) (λ p. rw p (swept_twice c es))

hearing_census : (c o : ℕ) (p : Part) → (hearing c o p).census ≡ p.census
hearing_census c o p = by_cases (eqb c p.census) (λ e. rw e) (λ e. rw e)

or_twice : (a b : Bool) → ((a || b) || b) ≡ (a || b)
or_twice true b = refl
or_twice false true = refl
or_twice false false = refl

polled_twice : (r : ℕ) (p : Part) → polling r (polling r p) ≡ polling r p
polled_twice r p = rw (or_twice p.polled (eqb r 1))

-- a rule that may refuse keeps the house if its other part does
self_if : (b : Bool) (e : Refusal) (h : House) (x : Outcome) → x.house.heap.home ≡ h.heap.home → (refuse_if b e h x).house.heap.home ≡ h.heap.home
self_if true e h x p = refl
self_if false e h x p = p

-- a house in the census does not join it again
caught_up_again : (c : ℕ) (g : House) → census g ≡ c → caught_up c g ≡ g
caught_up_again c g e = let low : ltb (census g) c ≡ false = le-ltb (census g) c (omega (arith, e)) in rw low

-- a mark of the census that the house is in
marked_again : (c o j : ℕ) (g : House) → census g ≡ c → marks c o j (caught_up c (marks c o j g)) ≡ marks c o j g
marked_again c o j g e =
    ap (marks c o j) (caught_up_again c (marks c o j g) e)
    ∙ rw (newly_marked c o j g.list, marked_twice c o j g.list, counted_nothing (newly c o j g.list) g.part)

replied_house : (c r : ℕ) (g : House) → census g ≡ c → (replies_to c r g).house ≡ with_part (polling r g.part) g
replied_house c r g e = let same : eqb c (census g) ≡ true = eq-eqb c (census g) (sym e) in rw (same, same)

replied_again : (c r : ℕ) (g : House) → census g ≡ c → (replies_to c r (caught_up c (replies_to c r g).house)).house ≡ (replies_to c r g).house
replied_again c r g e =
    let done : House = with_part (polling r g.part) g in
    ap (λ x. (replies_to c r (caught_up c x)).house) (replied_house c r g e)
    ∙ ap (λ x. (replies_to c r x).house) (caught_up_again c done e)
    ∙ replied_house c r done e
    ∙ ap (λ x. with_part x g) (polled_twice r g.part)
    ∙ sym (replied_house c r g e)

told_low : (c : ℕ) (g : House) → census g ≡ c → ltb c (census g) ≡ false
told_low c g e = le-ltb c (census g) (omega (arith, e))

once_more : (m : Message) (part : List ℕ) (h : House) → Sixteen h → is_ask m ≡ false → (receives m part (receives m part h).house).house ≡ (receives m part h).house
once_more (message.Ask o by j) part h six e = let z : ◌≡◌ {A = ℕ} 0 1 = cc in absurd (omega arith)
once_more (message.Give o j s) part h six e =
    idem_if (λ x. not (eqb j.0 (self x)) || eqb (home o.0) (self x)) Misdelivered (λ x. refuse_if (leb s.0 (seen_from x.stamps (home o.0))) OldStamp x (took_it (take_answer o.0 x.heap) o.0 s.0 x)) h
    (λ p. (rw (took_self o.0 s.0 h (take_answer o.0 h.heap) (leb s.0 (seen_from h.stamps (home o.0)))) p, take_twice o.0 s.0 h six))
once_more (message.Word from to s p) part h six e =
    idem_if (λ x. not (eqb to.0 (self x))) Misdelivered (λ x. sends [] (with_stamps (heard_stamp from.0 s.0 x.stamps) (with_list (heard_of from.0 (numbers part) s.0 x.list) x))) h
    (λ q. (q, rw (heard_twice from.0 s.0 h.stamps six.1, again from.0 (numbers part) s.0 h.list)))
once_more (message.Telling c o from) part h six e =
    let f : House → Outcome = λ x. sends (letter (message.Answer c o from) ∷ []) (marks c.0 o.0 from.0 (caught_up c.0 x)) in
    idem_if (λ x. not (eqb (home o.0) (self x))) Misdelivered (λ x. refuse_if (ltb c.0 (census x)) OtherCensus x (f x)) h
    (λ q. (
      rw (self_if (ltb c.0 (census h)) OtherCensus h (f h) (up_home (ltb (census h) c.0) c.0 h).0) q,
      idem_if (λ x. ltb c.0 (census x)) OtherCensus f h
          (λ low. (told_low c.0 (f h).house (up_census c.0 h low), marked_again c.0 o.0 from.0 (caught_up c.0 h) (up_census c.0 h low))),
    ))
once_more (message.Answer c o from) part h six e =
    let f : House → Outcome = λ x. sends [] (with_part (hearing c.0 o.0 x.part) x) in
    idem_if (λ x. not (eqb from.0 (self x))) Misdelivered (λ x. refuse_if (not (eqb c.0 (census x))) OtherCensus x (f x)) h
    (λ q. (
      rw (self_if (not (eqb c.0 (census h))) OtherCensus h (f h) refl) q,
      idem_if (λ x. not (eqb c.0 (census x))) OtherCensus f h (λ low. (rw (hearing_census c.0 o.0 h.part) low, rw (laws.once c.0 o.0 h.part))),
    ))
once_more (message.Round c r) part h six e =
    idem_if (λ x. ltb c.0 (census x)) OtherCensus (λ x. replies_to c.0 r.0 (caught_up c.0 x)) h
    (λ low.
    let g : House = caught_up c.0 h in
    let up : census g ≡ c.0 = up_census c.0 h low in
    (told_low c.0 (replies_to c.0 r.0 g).house (ap census (replied_house c.0 r.0 g up) ∙ up), replied_again c.0 r.0 g up))
once_more (message.Reply c r from calm t) part h six e =
    let f : House → Outcome = λ x. sends (cond (completes (houses x) r.0 from.0 calm t.0 x.desk) (letter (message.Complete (record { 0 = c.0 })) ∷ []) []) (with_desk (noted r.0 from.0 calm t.0 x.desk) x) in
    idem_if (λ x. not (isAsker (self x))) Misdelivered (λ x. refuse_if (not (eqb c.0 (census x))) OtherCensus x (f x)) h
    (λ q. (
      rw (self_if (not (eqb c.0 (census h))) OtherCensus h (f h) refl) q,
      idem_if (λ x. not (eqb c.0 (census x))) OtherCensus f h (λ low. (low, rw (noted_twice r.0 from.0 calm t.0 h.desk))),
    ))
once_more (message.Complete c) part h six e =
    idem_if (λ x. not (eqb c.0 (census x))) OtherCensus (λ x. sends [] (with_list (swept c.0 x.list) x)) h (λ q. (q, rw (swept_twice c.0 h.list)))

read_again : (r : Result Message Refusal) (bs : List ℕ) (h : House) → Sixteen h → asks r ≡ false → (read_as r bs (read_as r bs h).house).house ≡ (read_as r bs h).house
read_again (Err e) bs h six a = refl
read_again (Ok m) bs h six a = once_more m _ h six a

pub twice_is_once : TwiceIsOnce
twice_is_once h bs six a =
    let g : House = (step h (came bs)).house in
    ap (λ n. (read_as (decode n bs) bs g).house) (always_fair h (came bs)).houses ∙ read_again (decode (houses h) bs) bs h six a
