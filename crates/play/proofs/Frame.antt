-- One house moves, the others stay: what the relation sees of it, and how an outcome is reached by its steps.
use Rattle.std.proofs.Common.{◌≡◌, ℕ, Bool, true, false, cond, T, eqb, List, [], ◌∷◌, ◌++◌, map, is_ok, Ok, Err, Result, sym, refl, ap, ◌∙◌, subst, eqb→eq}
use Rattle.std.proofs.lemmas.Bool.{false≢true}
use Rattle.wire.specs.declared.refusal.Refusal.{Refusal}
use Rattle.tables.specs.Model.{Object, Heap}
use Rattle.rounds.specs.Model as rounds
use Rattle.rules.specs.House as rules
use Rattle.rules.specs.Step.{Letter, Outcome, refused, refuse_if, sends, quietly}
use Rattle.promise.specs.House.{House}
use Rattle.promise.specs.Net.{Msg, with}
use Rattle.promise.specs.Net as net
use Rattle.promise.specs.Alike.{AlikeObjects, AlikeHouse}
use Rattle.promise.specs.Rounds.{Part, Desk, Turn, AlikePart, Alike, begins}
use Rattle.promise.specs.Rounds as promise
use Rattle.promise.specs.Promise.{Collects}
use Rattle.promise.proofs.Called.{tells}
use Rattle.play.specs.Play.{World, put, bytes_of, written}
use Rattle.play.specs.Seen.{house_seen, part_seen, desk_seen, msg_of, note_of, seen}
use Rattle.play.proofs.Sending.{ReadableSaid, Readable, Both, both_refl, msgs_of, notes_of, msgs_sent, notes_sent}

-- alike with itself
pub objects_refl : (xs : List Object) → AlikeObjects xs xs
objects_refl xs = record { present = λ o. refl; fields = λ o p. refl; everywhere = λ o. refl; count = λ o. refl }

pub house_refl : (h : House) → AlikeHouse h h
house_refl h = record { roots = λ o. refl; objects = objects_refl h.objects; list = refl; given = λ j. refl; seen = λ j. refl; heard = λ j. refl; census = refl }

pub part_refl : (p : Part) → AlikePart p p
part_refl p = record { told = λ o. refl; answered = λ o. refl; tally = refl; polled = refl; stirred = refl }

-- by cases on whether it is house i
pub put_cases : (i : ℕ) (P : ℕ → Bool → Type 0) → P i true → ((j : ℕ) → P j false) → (j : ℕ) → P j (eqb j i)
put_cases i P here there j = go (eqb j i) refl
  where
    go : (b : Bool) → eqb j i ≡ b → P j b
    go true e = subst (λ (k : ℕ). P k true) (sym (eqb→eq j i (subst T (sym e) tt))) here
    go false e = there j

module _ (w : World) (i : ℕ) (h : rules.House) where
  pub house_put : (g : House) → AlikeHouse g (house_seen h) → (j : ℕ) → AlikeHouse (put i g (λ k. house_seen (w.house k)) j) (house_seen (put i h w.house j))
  house_put g a = put_cases i (λ j b. AlikeHouse (cond b g (house_seen (w.house j))) (house_seen (cond b h (w.house j)))) a (λ j. house_refl (house_seen (w.house j)))

  pub house_kept : AlikeHouse (house_seen (w.house i)) (house_seen h) → (j : ℕ) → AlikeHouse (house_seen (w.house j)) (house_seen (put i h w.house j))
  house_kept a = put_cases i (λ j b. AlikeHouse (house_seen (w.house j)) (house_seen (cond b h (w.house j)))) a (λ j. house_refl (house_seen (w.house j)))

  pub part_put : (q : Part) → AlikePart q (part_seen h.part) → (j : ℕ) → AlikePart (put i q (λ k. part_seen (w.house k).part) j) (part_seen (put i h w.house j).part)
  part_put q a = put_cases i (λ j b. AlikePart (cond b q (part_seen (w.house j).part)) (part_seen (cond b h (w.house j)).part)) a (λ j. part_refl (part_seen (w.house j).part))

  pub part_kept : AlikePart (part_seen (w.house i).part) (part_seen h.part) → (j : ℕ) → AlikePart (part_seen (w.house j).part) (part_seen (put i h w.house j).part)
  part_kept a = put_cases i (λ j b. AlikePart (part_seen (w.house j).part) (part_seen (cond b h (w.house j)).part)) a (λ j. part_refl (part_seen (w.house j).part))

  pub made_put : (k : ℕ) → k ≡ h.heap.made → (j : ℕ) → put i k (λ a. (w.house a).heap.made) j ≡ (put i h w.house j).heap.made
  made_put k e = put_cases i (λ j b. cond b k (w.house j).heap.made ≡ (cond b h (w.house j)).heap.made) e (λ j. refl)

  pub made_kept : (w.house i).heap.made ≡ h.heap.made → (j : ℕ) → (w.house j).heap.made ≡ (put i h w.house j).heap.made
  made_kept e = put_cases i (λ j b. (w.house j).heap.made ≡ (cond b h (w.house j)).heap.made) e (λ j. refl)

  pub desk_kept : (w.house i).desk ≡ h.desk → (w.house 0).desk ≡ (put i h w.house 0).desk
  desk_kept e = put_cases i (λ j b. (w.house j).desk ≡ (cond b h (w.house j)).desk) e (λ j. refl) 0

-- house i becomes this, and these messages are sent
abbrev pub moved : ℕ → rules.House → List (List ℕ) → World → World
moved i h bss w = record { house = put i h w.house; sent = w.sent ++ bss }

-- what some steps do with the rounds: leave them alone, begin one as the very first of the steps, tell that two agree, or any of it
pub data Deed : Type 0 where
  leaves : Deed
  opens : Deed
  closes : Deed
  any : Deed

-- what a step needs to begin a round, where first says that it is the first of all
abbrev pub MayBegin : Deed → Type 0 → Type 0
MayBegin Deed.leaves first = ⊥
MayBegin Deed.opens first = first
MayBegin Deed.closes first = ⊥
MayBegin Deed.any first = Unit {0}

-- and to tell that two rounds agree
abbrev pub MayTell : Deed → Type 0
MayTell Deed.leaves = ⊥
MayTell Deed.opens = ⊥
MayTell Deed.closes = Unit {0}
MayTell Deed.any = Unit {0}

-- steps of the relation, one after the other, that do this with the rounds; all the collector's, if that is wanted
pub data Way (deed : Deed) (cleaning : Bool) (n : ℕ) : promise.World → promise.World → Type 0 where
  same : {w : promise.World} → Way deed cleaning n w w
  more : {w v u : promise.World} → Way deed cleaning n w v → (t : Turn n v u) → (begins t ≡ true → MayBegin deed (w ≡ v)) → (tells t ≡ true → MayTell deed) → (cleaning ≡ true → Collects t) → Way deed cleaning n w u

-- nothing is asked of a step of another kind
pub free : {A : Type 0} → false ≡ true → A
free e = absurd (false≢true e)

-- the steps of the relation lead to what the outcome makes of the world
abbrev pub TracksBy : Deed → Bool → ℕ → ℕ → World → Outcome → Type 0
TracksBy d b n i w x = ReadableSaid n x.answer → Way d b n (seen n w) (seen n (moved i x.house (written x.answer) w))

-- and leave the rounds alone
abbrev pub Tracks : Bool → ℕ → ℕ → World → Outcome → Type 0
Tracks b n i w x = TracksBy Deed.leaves b n i w x

module _ (n i : ℕ) (w : World) (h : rules.House) where
  -- a step that leads to something alike
  pub arrives : {d : Deed} (b : Bool) (ls : List Letter) (v : promise.World) → Way d b n (seen n w) v → Alike v (seen n (moved i h (map bytes_of ls) w)) → Way d b n (seen n w) (seen n (moved i h (map bytes_of ls) w))
  arrives b ls v l a = Way.more l (Turn.alike v _ a) free free (λ _. tt)

  -- the pieces of such a likeness: houses, names made, parts, rounds, and what was sent and said
  pub alike_by : (ls : List Letter) (v : promise.World) → Readable n ls →
      ((j : ℕ) → AlikeHouse (v.net.house j) (house_seen (put i h w.house j))) → ((j : ℕ) → v.net.made j ≡ (put i h w.house j).heap.made) →
      ((j : ℕ) → AlikePart (v.part j) (part_seen (put i h w.house j).part)) → (d : rounds.Desk) → v.desk ≡ desk_seen d → d ≡ (put i h w.house 0).desk →
      Both v.net.sent (msgs_of ls ++ (seen n w).net.sent) → Both v.said (notes_of ls ++ (seen n w).said) → Alike v (seen n (moved i h (map bytes_of ls) w))
  alike_by ls v r hs ms ps d e ed s k =
      record {
        net = record { house = hs; sent = λ x. let m = msgs_sent n w.sent ls r x in (λ z. m.1 ((s x).0 z), λ z. (s x).1 (m.0 z)); made = ms };
        part = ps;
        round = ap (λ (y : Desk). y.round) f;
        now = λ j. ap (λ (y : Desk). y.now j) f;
        before = λ j. ap (λ (y : Desk). y.before j) f;
        said = λ x. let m = notes_sent n w.sent ls r x in (λ z. m.1 ((k x).0 z), λ z. (k x).1 (m.0 z));
      }
    where
      f : v.desk ≡ desk_seen (put i h w.house 0).desk
      f = e ∙ ap desk_seen ed

module _ {d : Deed} (b : Bool) (n i : ℕ) (w : World) where
  pub tracks_refused : (e : Refusal) → TracksBy d b n i w (refused e (w.house i))
  tracks_refused e r =
      arrives n i w (w.house i) b [] (seen n w) Way.same
      (alike_by n i w (w.house i) [] (seen n w) (λ l m. absurd (mathlib.Core.List.Memᴰ.not-nil m)) (house_kept w i (w.house i) (house_refl _)) (made_kept w i (w.house i) refl) (part_kept w i (w.house i) (part_refl _)) (w.house 0).desk refl (desk_kept w i (w.house i) refl) (both_refl _) (both_refl _))

  pub tracks_unless : (t : Bool) (e : Refusal) (x : Outcome) → (t ≡ false → TracksBy d b n i w x) → TracksBy d b n i w (refuse_if t e (w.house i) x)
  tracks_unless true e x f = tracks_refused e
  tracks_unless false e x f = f refl

module _ (b : Bool) (n i : ℕ) (w : World) where
  -- one step that changes house i and sends nothing
  pub tracks_house : (h : rules.House) (g : House) (t : Turn n (seen n w) (record { net = with i g (seen n w).net; part = (seen n w).part; desk = (seen n w).desk; said = (seen n w).said })) → (begins t ≡ true → ⊥) → (tells t ≡ true → ⊥) → (b ≡ true → Collects t) →
      AlikeHouse g (house_seen h) → (w.house i).heap.made ≡ h.heap.made → AlikePart (part_seen (w.house i).part) (part_seen h.part) → (w.house i).desk ≡ h.desk → Tracks b n i w (sends [] h)
  tracks_house h g t f s c a em p ed r =
      arrives n i w h b [] _ (Way.more Way.same t f s c)
      (alike_by n i w h [] (record { net = with i g (seen n w).net; part = (seen n w).part; desk = (seen n w).desk; said = (seen n w).said }) r (house_put w i h g a) (made_kept w i h em) (part_kept w i h p) (w.house 0).desk refl (desk_kept w i h ed) (both_refl _) (both_refl _))

  -- what the objects answered
  pub tracks_heap : {X : Type 0} (r : Result X Refusal) (new : Heap) → (is_ok r ≡ true → Tracks b n i w (sends [] (rules.with_heap new (w.house i)))) → Tracks b n i w (quietly r (cond (is_ok r) new (w.house i).heap) (w.house i))
  tracks_heap (Ok x) new f = f refl
  tracks_heap (Err e) new f = tracks_refused b n i w e

-- an answer that is no refusal passed the test
pub passed : {X : Type 0} (b : Bool) (e : Refusal) (r : Result X Refusal) → is_ok (cond b (Err e) r) ≡ true → (b ≡ false) × (is_ok r ≡ true)
passed true e r ok = absurd (false≢true ok)
passed false e r ok = (refl, ok)

-- a message more
pub both_one : {A : Type 0} (x : A) (front xs : List A) → front ≡ x ∷ [] → Both (x ∷ xs) ((front ++ []) ++ xs)
both_one x front xs e = subst (λ (ys : List _). Both (x ∷ xs) ((ys ++ []) ++ xs)) (sym e) (both_refl (x ∷ xs))

pub both_none : {A : Type 0} (front xs : List A) → front ≡ [] → Both xs ((front ++ []) ++ xs)
both_none front xs e = subst (λ (ys : List _). Both xs ((ys ++ []) ++ xs)) (sym e) (both_refl xs)

module _ (b : Bool) (n i : ℕ) (w : World) where
  -- one step that sends one message, with the house as it is
  pub tracks_send : (l : Letter) (m : Msg) → msg_of l.0 l.1 ≡ m ∷ [] → note_of l.0 ≡ [] →
      (t : Turn n (seen n w) (record { net = net.sends m (seen n w).net; part = (seen n w).part; desk = (seen n w).desk; said = (seen n w).said })) → (begins t ≡ true → ⊥) → (tells t ≡ true → ⊥) → (b ≡ true → Collects t) → Tracks b n i w (sends (l ∷ []) (w.house i))
  tracks_send l m em en t f s c r =
      arrives n i w (w.house i) b (l ∷ []) _ (Way.more Way.same t f s c)
      (alike_by n i w (w.house i) (l ∷ []) (record { net = net.sends m (seen n w).net; part = (seen n w).part; desk = (seen n w).desk; said = (seen n w).said }) r (house_kept w i (w.house i) (house_refl _)) (made_kept w i (w.house i) refl) (part_kept w i (w.house i) (part_refl _)) (w.house 0).desk refl (desk_kept w i (w.house i) refl) (both_one m (msg_of l.0 l.1) (seen n w).net.sent em) (both_none (note_of l.0) (seen n w).said en))
