-- When programs are still, all comes to be heard, and a census that is begun then frees whatever does not matter.
use Rattle.std.proofs.Common.{◌≡◌, ℕ, zero, suc, ◌+◌, ◌-◌, ◌<◌, ◌≤◌, Bool, true, ◌&&◌, eqb, ltb, ◌⊎◌, List, [], length, get_or, Result, sym, refl, ap, ◌∙◌, subst, inl, inr, ⊎_elim, arith}
use Rattle.std.specs.Prelude.{slice_index}
use mathlib.Core.List.{Memᴰ}
use Rattle.std.proofs.lemmas.Bool.{and_from, lt-ltb, eq-eqb, cond-true, cases_eq}
use Rattle.wire.specs.declared.call.Call.{Call}
use Rattle.wire.specs.declared.call.Call.TheVariants as call
use Rattle.wire.specs.declared.message.Message.{Message}
use Rattle.wire.specs.declared.refusal.Refusal.{Refusal}
use Rattle.wire.specs.Names.{house}
use Rattle.wire.specs.Format.{decode}
use Rattle.wire.specs.Laws.{ReadAs}
use Rattle.tables.specs.Model.{Heap}
use Rattle.objects.specs.Executed.{references_of}
use Rattle.lines.specs.Stamping.{stamp, seen_from, heard_from}
use Rattle.rules.specs.House.{House, self, census}
use Rattle.rules.specs.Step.{Outcome, Letter, came, receives, read_as, step, event_of, word}
use Rattle.rules.specs.Step as rule
use Rattle.play.specs.Play.{World, Entry, calls, bytes_of, written, happens, play, answered, for_collector, cleaning}
use Rattle.play.specs.Seen.{seen}
use Rattle.play.specs.Promise.{SameMatters}
use Rattle.play.specs.Settle.{goes_to}
use Rattle.play.specs.Exact.{Settles}
use Rattle.play.proofs.Frame.{Way}
use Rattle.play.proofs.Pump.{got}
use Rattle.play.proofs.Promise.{same_matters}
use Rattle.play.proofs.Tracking.{Kept, kept, way_play, deed_of}
use Rattle.play.proofs.FairSteps.{Told}
use Rattle.play.proofs.FairWays.{told_way}
use Rattle.ends.specs.Run.{world, Later, Sends, Comes, Goes, Cleans, Worn}
use Rattle.ends.specs.Lives.{Lives}
use Rattle.ends.specs.Garbage.{Still, Begins, AllHeard, AlwaysHears, AlwaysFrees}
use Rattle.play.proofs.Pump.{same_step}
use Rattle.ends.proofs.Moments.{later_then, later_as, now, next, persist}
use Rattle.ends.proofs.Lifts.{entry_seen}
use Rattle.ends.proofs.Lives.{reach_world, shift, goes_on, later_back}
use Rattle.ends.proofs.Fair.{clean_gives, collectors, own, below_all}
use Rattle.ends.proofs.Words.{again_or, word_of, word_sends, word_reads, word_heard, Shrunk, entry_keeps}
use Rattle.ends.proofs.Frees.{frees}

module _ (n m : ℕ) (run : ℕ → Entry) (v : World) (x : Still n m run v) where
  abbrev at : ℕ → World
  at t = world n run v t

  kept_at : (t : ℕ) → Kept n (world n run v t)
  kept_at t = kept n x.few (reach_world n run v x.reach t)

  clean_way : (t : ℕ) → m ≤ t → Way (deed_of n (run t) (world n run v t)) true n (seen n (world n run v t)) (seen n (world n run v (suc t)))
  clean_way t l = subst (λ (b : Bool). Way (deed_of n (run t) (world n run v t)) b n (seen n (world n run v t)) (seen n (world n run v (suc t)))) (x.cleans t l) (way_play n (run t) (world n run v t) (kept_at t))

  over : {a b d : ℕ} → a ≤ b → b ≤ d → a ≤ d
  over p q = omega arith

  -- the same references matter
  same_on : (t u : ℕ) → m ≤ t → t ≤ u → SameMatters n (world n run v t) (world n run v u)
  same_on t u l k =
      persist (λ s. SameMatters n (world n run v t) (world n run v s)) t
      (λ s r f j o. let z = same_matters n (world n run v s) (kept_at s) (run s) (x.cleans s (over l r)) j o in (λ h. z.0 ((f j o).0 h), λ h. (f j o).1 (z.1 h))) u k (λ j o. (λ h. h, λ h. h))

  -- what was seen stays, and what was heard is heard
  seen_on : (j k t u : ℕ) → j < n → m ≤ t → t ≤ u → seen_from ((world n run v u).house j).stamps k ≡ seen_from ((world n run v t).house j).stamps k
  seen_on j k t u lj l r =
      persist (λ s. seen_from ((world n run v s).house j).stamps k ≡ seen_from ((world n run v t).house j).stamps k) t
      (λ s q e. ap (λ (xs : List ℕ). slice_index xs k) (entry_seen n (run s) (world n run v s) (kept_at s) (clean_gives n (run s) (world n run v s) (x.cleans s (over l q))) j lj) ∙ e) u r refl

  abbrev Heard : ℕ → ℕ → ℕ → Type 0
  Heard j k t = Told (seen n (world n run v t)).net j k

  heard_on : (j k t u : ℕ) → m ≤ t → t ≤ u → Told (seen n (world n run v t)).net j k → Told (seen n (world n run v u)).net j k
  heard_on j k t u l r h = persist (λ s. Told (seen n (world n run v s)).net j k) t (λ s q e. told_way (clean_way s (over l q)) j k e) u r h

  -- the heap stays, or has fewer objects
  heap_on : (j t u : ℕ) → j < n → m ≤ t → t ≤ u → Shrunk ((world n run v t).house j).heap ((world n run v u).house j).heap
  heap_on j t u lj l r =
      persist (λ s. Shrunk ((world n run v t).house j).heap ((world n run v s).house j).heap) t
      (λ s q e. both ((world n run v t).house j).heap ((world n run v s).house j).heap ((world n run v (suc s)).house j).heap e (entry_keeps n (run s) (world n run v s) (kept_at s) (x.cleans s (over l q)) j lj)) u r (inl refl)
    where
      both : (a b d : Heap) → Shrunk a b → Shrunk b d → Shrunk a d
      both a b d (inl e) (inl f) = inl (f ∙ e)
      both a b d (inl e) (inr f) = inr (subst (λ (y : Heap). length d.objects < length y.objects) e f)
      both a b d (inr e) (inl f) = inr (subst (λ (y : Heap). length y.objects < length a.objects) (sym f) e)
      both a b d (inr e) (inr f) = inr (less e f)
        where
          less : {p q r : ℕ} → q < p → r < q → r < p
          less y z = omega arith

  -- a message comes
  received : (i s : ℕ) (l : Letter) → i < n → ReadAs n (bytes_of l) l.0 l.1 → Comes n run v i (bytes_of l) s → (world n run v (suc s)).house i ≡ (got l ((world n run v s).house i)).house
  received i s l lt r d =
      ap (λ (y : Entry). (play n y (world n run v s)).house i) d.entry
      ∙ ap (λ (w : World). w.house i) (cond-true (ltb i n && ltb d.number (length (world n run v s).sent)) (happens i (came (get_or (world n run v s).sent d.number [])) (world n run v s)) (world n run v s) (and_from (ltb i n) (ltb d.number (length (world n run v s).sent)) (lt-ltb i n lt) (lt-ltb d.number (length (world n run v s).sent) d.there)))
      ∙ cond-true (eqb i i) _ _ (eq-eqb i i refl)
      ∙ ap (λ (z : List ℕ). (step ((world n run v s).house i) (came z)).house) d.bytes
      ∙ ap (λ (o : Outcome). o.house) (same_step n l ((world n run v s).house i) ((kept_at s).houses i lt) r)

  -- what a call sends
  called : (i s : ℕ) (d : Call) → i < n → run s ≡ calls i d → written (answered n (run s) (world n run v s)) ≡ written (step ((world n run v s).house i) (event_of d)).answer
  called i s d lt e = ap (λ (y : Entry). written (answered n y (world n run v s))) e ∙ ap written (cond-true (ltb i n) (step ((world n run v s).house i) (event_of d)).answer _ (lt-ltb i n lt))

  module _ (j k : ℕ) (lj : j < n) (lk : k < n) (apart : j ≡ k → ⊥) where
    abbrev home_at : ℕ → House
    home_at t = (world n run v t).house j

    own_at : (t : ℕ) → self (home_at t) ≡ j
    own_at t = (kept_at t).self j lj

    alone : (t : ℕ) → self (home_at t) ≡ k → ⊥
    alone t e = apart (sym (own_at t) ∙ e)

    reads : (t : ℕ) → ReadAs n (bytes_of (word_of (home_at t) k)) (word_of (home_at t) k).0 (word_of (home_at t) k).1
    reads t = word_reads n k (home_at t) ((kept_at t).sound j lj) ((kept_at t).houses j lj) lk (alone t)

    fewer : ℕ → ℕ → Type 0
    fewer t s = length (home_at s).heap.objects < length (home_at t).heap.objects

    -- the same word is sent again, while there are as many objects
    same_word : (t s : ℕ) → m ≤ t → t ≤ s → (home_at s).heap ≡ (home_at t).heap → word_of (home_at s) k ≡ word_of (home_at t) k
    same_word t s l r e = ap (λ (y : Heap). said y (seen_from (home_at s).stamps k)) e ∙ ap (λ (q : ℕ). said (home_at t).heap q) (seen_on j k t s lj l r)
      where
        said : Heap → ℕ → Letter
        said y q = (Rattle.wire.specs.declared.message.Message.TheVariants.Word (house y.home) (house k) (stamp q) (record { at = 9; count = length (references_of k y) }), rule.bytes_of (references_of k y))

    heard_step : (t : ℕ) → m ≤ t → ((s : ℕ) → t ≤ s → fewer t s → Later s (Heard j k)) → Later t (Heard j k)
    unfolding fewer
    heard_step t l again =
        later_then (λ s. Aim s ⊎ Comes n run v k (bytes_of (word_of (home_at t) k)) s) (Heard j k) t
        (again_or t Aim (Sends n run v (bytes_of (word_of (home_at t) k))) (Comes n run v k (bytes_of (word_of (home_at t) k)))
        (x.comes t k (bytes_of (word_of (home_at t) k)) l (ap for_collector (reads t).message) (subst (λ (z : Result Message Refusal). Memᴰ k (goes_to n z)) (sym (reads t).message) (Memᴰ.head refl)))
        (λ u le. let z = x.words u j k (over l le) lj lk apart in (z.0, z.1, sent z.0 (over le z.1) z.2 (heap_on j t z.0 lj l (over le z.1)))))
        (λ s le. ⊎_elim (λ a. ⊎_elim (λ h. now (Heard j k) s h) (λ f. again s le f) a) (λ d. next (Heard j k) s (comes_to s le d)))
      where
        Aim : ℕ → Type 0
        Aim s = Heard j k s ⊎ fewer t s

        sent : (s : ℕ) → t ≤ s → run s ≡ calls j (call.Word (house k)) → Shrunk (home_at t).heap (home_at s).heap → Aim s ⊎ Sends n run v (bytes_of (word_of (home_at t) k)) s
        sent s r e (inl same) =
            inr (subst (λ (bss : List (List ℕ)). Memᴰ (bytes_of (word_of (home_at t) k)) bss) (sym (called j s (call.Word (house k)) lj e))
            (subst (λ (y : Letter). Memᴰ (bytes_of y) (written (step (home_at s) (word k)).answer)) (same_word t s l r same)
            (word_sends k (home_at s) (subst (λ (q : ℕ). k < q) (sym ((kept_at s).houses j lj)) lk) (alone s))))
        sent s r e (inr f) = inl (inr f)

        small : {y : ℕ} → j < y → y ≤ 16 → j < 16
        small p q = omega arith

        both : {a b d : ℕ} → a ≡ b → b ≤ d → a ≤ d
        both p q = omega arith

        comes_to : (s : ℕ) → t ≤ s → Comes n run v k (bytes_of (word_of (home_at t) k)) s → Heard j k (suc s)
        comes_to s r d =
            both (seen_on j k t (suc s) lj l (omega arith))
            (subst (λ (g : House). seen_from (home_at t).stamps k ≤ heard_from g.stamps j) (sym (received k s (word_of (home_at t) k) lk (reads t) d))
            (word_heard k j (home_at t) ((world n run v s).house k) (own_at t) (small lj x.few) ((kept_at s).self k lk) ((kept_at s).sound k lk).stamps.heard_long))

    -- house k comes to hear how far house j has seen
    heard_one : (f t : ℕ) → m ≤ t → length (home_at t).heap.objects ≤ f → Later t (Heard j k)
    unfolding fewer
    heard_one zero t l room = heard_step t l (λ s r less. absurd (none less room))
      where
        none : {a b : ℕ} → a < b → b ≤ 0 → ⊥
        none p q = omega arith
    heard_one (suc f) t l room = heard_step t l (λ s r less. heard_one f s (over l r) (fit less room))
      where
        fit : {a b : ℕ} → a < b → b ≤ suc f → a ≤ f
        fit p q = omega arith

  -- all do
  abbrev Row : ℕ → ℕ → ℕ → Type 0
  Row j b t = (k : ℕ) → k < b → (j ≡ k → ⊥) → Heard j k t

  row : (j b t : ℕ) → j < n → b ≤ n → m ≤ t → Later t (Row j b)
  row j zero t lj le l = now (Row j 0) t (λ k lk. absurd (none lk))
    where
      none : {k : ℕ} → k < 0 → ⊥
      none p = omega arith
  row j (suc b) t lj le l =
      later_then (Row j b) (Row j (suc b)) t (row j b t lj (omega arith) l) (λ s r f. ⊎_elim
      (λ e. now (Row j (suc b)) s (λ k lk a. ⊎_elim (λ q. absurd (a (e ∙ sym q))) (λ q. f k (earlier lk q) a) (cases_eq k b)))
      (λ a. later_as (Heard j b) (Row j (suc b)) s (heard_one j b lj le a (length ((world n run v s).house j).heap.objects) s (over l r) (omega arith))
      (λ u q h k lk c. ⊎_elim (λ e. subst (λ (y : ℕ). Heard j y u) (sym e) h) (λ e. heard_on j k s u (over l r) q (f k (earlier lk e) c)) (cases_eq k b)))
      (cases_eq j b))
    where
      earlier : {k : ℕ} → k < suc b → (k ≡ b → ⊥) → k < b
      earlier p q = omega arith

  abbrev Rows : ℕ → ℕ → Type 0
  Rows a t = (j : ℕ) → j < a → Row j n t

  rows : (a t : ℕ) → a ≤ n → m ≤ t → Later t (Rows a)
  rows zero t le l = now (Rows 0) t (λ j lj. absurd (none lj))
    where
      none : {k : ℕ} → k < 0 → ⊥
      none p = omega arith
  rows (suc a) t le l =
      later_then (Rows a) (Rows (suc a)) t (rows a t (omega arith) l) (λ s r f.
      later_as (Row a n) (Rows (suc a)) s (row a n s le (omega arith) (over l r))
      (λ u q g j lj. ⊎_elim (λ e. subst (λ (y : ℕ). Row y n u) (sym e) g) (λ e k lk c. heard_on j k s u (over l r) q (f j (earlier lj e) k lk c)) (cases_eq j a)))
    where
      earlier : {k : ℕ} → k < suc a → (k ≡ a → ⊥) → k < a
      earlier p q = omega arith

  pub all_heard : Later m (λ h. (t : ℕ) → h ≤ t → AllHeard n (world n run v t))
  all_heard = later_as (Rows n) (λ h. (t : ℕ) → h ≤ t → AllHeard n (world n run v t)) m (rows n m (omega arith) (omega arith)) (λ h l f t r j k lj lk a. heard_on j k h t l r (f j lj k lk a))

  -- then house 0 begins a census
  module _ (c p : ℕ) (m_p : m ≤ p) (heard : AllHeard n (world n run v p)) (b : Begins n c p run v) where
    joined : world n run v (suc p) ≡ play n (calls 0 (call.Join c)) (world n run v p)
    joined = ap (λ (e : Entry). play n e (world n run v p)) b.entry

    lives : Lives n c (suc p) run v
    lives =
        record {
          some = x.some;
          few = x.few;
          reach = x.reach;
          begun = ap (λ (w : World). census (w.house 0)) joined ∙ own n c (world n run v p) x.some b.above b.fits;
          low = λ i lt. subst (λ (w : World). census (w.house i) ≤ c) (sym joined) (below_all n c (world n run v p) x.some b.above b.fits i lt);
          joins = λ t i d l e. b.last t i d (before l) e;
          quiet = λ t l. clean_gives n (run t) (world n run v t) (x.cleans t (after l));
          tells = λ t i l lt. x.tells t i (after l) lt;
          asks = λ t l. x.asks t (after l);
          comes = λ t i bs l kind for. x.comes t i bs (after l) (collectors (decode n bs) kind) for;
        }
      where
        before : {t : ℕ} → suc p ≤ t → p ≤ t
        before l = omega arith

        after : {t : ℕ} → suc p ≤ t → m ≤ t
        after l = let q = m_p in omega arith

    moment : (t : ℕ) → world n (λ (s : ℕ). run (suc p + s)) (play n (calls 0 (call.Join c)) (world n run v p)) t ≡ world n run v (suc p + t)
    moment t = ap (λ (w : World). world n (λ (s : ℕ). run (suc p + s)) w t) (sym joined) ∙ shift n c (suc p) run v lives t

    cleans : Cleans n c (λ (s : ℕ). run (suc p + s)) (world n run v p)
    cleans =
        record {
          reach = reach_world n run v x.reach p;
          low = b.above;
          heard = heard;
          goes = subst (λ (w : World). Goes n c (λ (s : ℕ). run (suc p + s)) w) joined (goes_on n c (suc p) run v lives);
          cleans = λ t. subst (λ (w : World). cleaning n (run (suc p + t)) w ≡ true) (sym (moment t)) (x.cleans (suc p + t) (let q = m_p in omega arith));
          collects = λ t i lt. later_back n c (suc p) run v lives (λ s. run s ≡ calls i call.Collect) (λ s. run (suc p + s) ≡ calls i call.Collect) t
              (λ s l e. ap run (back s l) ∙ e) (x.collects (suc p + t) i (let q = m_p in omega arith) lt);
        }
      where
        back : (s : ℕ) → suc p ≤ s → suc p + (s - suc p) ≡ s
        back s l = omega arith

    pub freed : (t : ℕ) → p < t → Later t (λ s. ((u : ℕ) → s ≤ u → Settles n (world n run v m) (world n run v u)) ⊎ Worn n run v s)
    freed t l = go (frees n c (λ (s : ℕ). run (suc p + s)) (world n run v p) cleans (t - suc p))
      where
        on : {s : ℕ} → t - suc p ≤ s → t ≤ suc p + s
        on q = omega arith

        settled : (u : ℕ) → Settles n (world n run v p) (world n run v u) → Settles n (world n run v m) (world n run v u)
        settled u y = record { exact = y.exact; lines = y.lines; same = λ j o. let z = same_on m p (omega arith) m_p j o in (λ e. (y.same j o).0 (z.0 e), λ e. z.1 ((y.same j o).1 e)); there = y.there }

        down : {s u : ℕ} → suc p + s ≤ u → s ≤ u - suc p
        down q = omega arith

        back : (s u : ℕ) → suc p + s ≤ u → suc p + (u - suc p) ≡ u
        back s u q = omega arith

        go : Later (t - suc p) (λ s. ((u : ℕ) → s ≤ u → Settles n (world n run v p) (world n (λ (y : ℕ). run (suc p + y)) (play n (calls 0 (call.Join c)) (world n run v p)) u)) ⊎ Worn n (λ (y : ℕ). run (suc p + y)) (play n (calls 0 (call.Join c)) (world n run v p)) s) →
            Later t (λ s. ((u : ℕ) → s ≤ u → Settles n (world n run v m) (world n run v u)) ⊎ Worn n run v s)
        go (s, q, z) = (
          suc p + s,
          on q,
          ⊎_elim (λ f. inl (λ u r. settled u (subst (λ (w : World). Settles n (world n run v p) w) (moment (u - suc p) ∙ ap (world n run v) (back s u r)) (f (u - suc p) (down r)))))
              (λ y. inr (subst (λ (w : World). (w.house 0).desk.round ≡ 4294967295) (moment s) y)) z,
        )

pub always_hears : AlwaysHears
always_hears n m run v x = all_heard n m run v x

pub always_frees : AlwaysFrees
always_frees n m run v x c p l heard b t lt = freed n m run v x c p l heard b t lt
