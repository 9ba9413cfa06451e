-- A word of one house to another, and its delivery: then the other has heard how far the one has seen, and no census has changed.
use Rattle.std.proofs.Common.{◌≡◌, ℕ, zero, suc, ◌+◌, ◌<◌, ◌≤◌, max, Bool, true, false, cond, not, ◌&&◌, eqb, ltb, leb, List, [], ◌∷◌, ◌++◌, map, length, get_or, Result, sym, refl, ap, ◌∙◌, subst, arith}
use mathlib.Core.Path.{fun_ext}
use mathlib.Core.List.Memᴰ
use Rattle.std.proofs.lemmas.List.{append-nil, length-append, get_or_at, get_or-set_same}
use Rattle.std.proofs.lemmas.Bool.{lt-ltb, le-ltb, lt-leb, eq-eqb, ne_eqb, and_from, cond-true, cond-false, not_from_true}
use Rattle.wire.specs.declared.call.Call.TheVariants as call
use Rattle.wire.specs.declared.message.Message.{Message}
use Rattle.wire.specs.declared.message.Message.TheVariants as message
use Rattle.wire.specs.declared.refusal.Refusal.{Refusal}
use Rattle.wire.specs.declared.refusal.Refusal.TheVariants.{Malformed, Misdelivered, WrongHouse}
use Rattle.wire.specs.Names.{house}
use Rattle.wire.specs.Format.{decode, numbers, part_of}
use Rattle.wire.specs.Laws.{ReadAs}
use Rattle.objects.specs.Executed.{references_of}
use Rattle.lines.specs.Listed.{heard_of}
use Rattle.lines.specs.Stamping.{stamp, seen_from, heard_from, with_heard}
use Rattle.lines.specs.declared.stamps.Stamps.{Stamps}
use Rattle.rules.specs.House as rules
use Rattle.rules.specs.Step.{Letter, Outcome, word, came, step, sends, refused, read_as, heard_stamp}
use Rattle.rules.specs.Step as rule
use Rattle.rules.proofs.Sound.{sent_read}
use Rattle.play.specs.Play.{World, Entry, calls, delivers, put, happens, play, plays, bytes_of, written}
use Rattle.play.specs.Seen.{seen}
use Rattle.play.specs.Settle.{goes_to, delivery, deliveries, and_then, pump, enough, calling, word_to}
use Rattle.play.proofs.Frame.{put_cases}
use Rattle.play.proofs.Catching.{put_here}
use Rattle.play.proofs.Tracking.{Kept}
use Rattle.play.proofs.FairSteps.{Told}

-- nothing was sent since
pub pump_off : (k n m : ℕ) (w : World) → length w.sent ≤ m → pump k n m w ≡ []
pump_off zero n m w l = refl
pump_off (suc k) n m w l = cond-false (ltb m (length w.sent)) (and_then n w (deliveries n m w) (λ v. pump k n (m + 1) v)) [] (le-ltb m (length w.sent) l)

-- one message was sent since, and its delivery sends nothing
pub pump_once : (k n m : ℕ) (w : World) → 0 < k → m < length w.sent → length (plays n (deliveries n m w) w).sent ≤ m + 1 → pump k n m w ≡ deliveries n m w
pump_once zero n m w p l s = absurd (none_below p)
  where
    none_below : {a : ℕ} → a < 0 → ⊥
    none_below l = omega arith
pump_once (suc k) n m w p l s =
    cond-true (ltb m (length w.sent)) (and_then n w (deliveries n m w) (λ v. pump k n (m + 1) v)) [] (lt-ltb m (length w.sent) l)
    ∙ ap (λ (es : List Entry). deliveries n m w ++ es) (pump_off k n (m + 1) (plays n (deliveries n m w) w) s) ∙ append-nil (deliveries n m w)

-- a house that becomes what it was
pub put_same : (i : ℕ) (f : ℕ → rules.House) → put i (f i) f ≡ f
put_same i f = fun_ext (put_cases i (λ j b. cond b (f i) (f j) ≡ f j) refl (λ j. refl))

-- the word of a house to house j
abbrev word_of : rules.House → ℕ → Letter
word_of h j =
    (message.Word (house (rules.self h)) (house j) (stamp (seen_from h.stamps j)) (record { at = 9; count = length (references_of j h.heap) }), rule.bytes_of (references_of j h.heap))

module _ (n i j : ℕ) (w : World) (k : Kept n w) (li : i < n) (lj : j < n) (apart : i ≡ j → ⊥) where
  abbrev h : rules.House
  h = w.house i

  abbrev g : rules.House
  g = w.house j

  abbrev b : List ℕ
  b = bytes_of (word_of (w.house i) j)

  sends_word : step (w.house i) (word j) ≡ sends (word_of (w.house i) j ∷ []) (w.house i)
  sends_word =
      cond-false (leb (rules.houses h) j) (refused Malformed h) _ (lt-leb (rules.houses h) j (subst (λ (x : ℕ). j < x) (sym (k.houses i li)) lj))
      ∙ cond-false (eqb j (rules.self h)) (refused WrongHouse h) _ (ne_eqb j (rules.self h) (λ e. apart (sym (e ∙ k.self i li))))

  abbrev told : World
  told = record { house = w.house; sent = w.sent ++ (b ∷ []) }

  after_word : play n (calls i (call.Word (house j))) w ≡ told
  after_word =
      cond-true (ltb i n) (happens i (word j) w) w (lt-ltb i n li)
      ∙ ap (λ (x : Outcome). record { house = put i x.house w.house; sent = w.sent ++ written x.answer }) sends_word
      ∙ ap (λ (f : ℕ → rules.House). record { house = f; sent = w.sent ++ (b ∷ []) }) (put_same i w.house)

  reads : ReadAs n b (word_of (w.house i) j).0 (word_of (w.house i) j).1
  reads =
      subst (λ (x : ℕ). ReadAs x b (word_of (w.house i) j).0 (word_of (w.house i) j).1) (k.houses i li)
      (sent_read (w.house i) (word j) (k.sound i li) tt (word_of (w.house i) j ∷ []) (ap (λ (x : Outcome). x.answer) sends_word) (word_of (w.house i) j) (Memᴰ.head refl))

  abbrev m : ℕ
  m = length w.sent

  there : get_or told.sent m [] ≡ b
  there = get_or_at w.sent b [] [] m refl

  longer : length told.sent ≡ m + 1
  longer = length-append w.sent (b ∷ [])

  abbrev new : rules.House
  new =
      rules.with_stamps (heard_stamp (rules.self h) (seen_from h.stamps j) g.stamps)
      (rules.with_list (heard_of (rules.self h) (numbers (part_of (word_of (w.house i) j).0 b)) (seen_from h.stamps j) g.list) g)

  hears_word : step (w.house j) (came b) ≡ sends [] new
  hears_word =
      ap (λ (r : Result Message Refusal). read_as r b g) (ap (λ (x : ℕ). decode x b) (k.houses j lj) ∙ reads.message)
      ∙ cond-false (not (eqb j (rules.self g))) (refused Misdelivered g) (sends [] new) (not_from_true (eqb j (rules.self g)) (eq-eqb j (rules.self g) (sym (k.self j lj))))

  abbrev heard : World
  heard = record { house = put j new w.house; sent = (w.sent ++ (b ∷ [])) ++ [] }

  after_hearing : play n (delivers j m) told ≡ heard
  after_hearing =
      cond-true (ltb j n && ltb m (length told.sent)) (happens j (came (get_or told.sent m [])) told) told (and_from (ltb j n) (ltb m (length told.sent)) (lt-ltb j n lj) (lt-ltb m (length told.sent) below))
      ∙ ap (λ (bs : List ℕ). happens j (came bs) told) there
      ∙ ap (λ (x : Outcome). record { house = put j x.house w.house; sent = (w.sent ++ (b ∷ [])) ++ written x.answer }) hears_word
    where
      one : {x y : ℕ} → x ≡ y + 1 → y < x
      one e = omega arith

      below : m < length told.sent
      below = one longer

  delivered : deliveries n m told ≡ delivers j m ∷ []
  delivered = ap (λ (r : Result Message Refusal). map (delivery m) (goes_to n r)) (ap (λ (bs : List ℕ). decode n bs) there ∙ reads.message)

  -- the word, and that it comes
  pub word_plays : plays n (word_to n i j w) w ≡ heard
  word_plays =
      ap (λ (es : List Entry). plays n es w) (cond-false (eqb i j) [] (calling n i (call.Word (house j)) w) (ne_eqb i j apart))
      ∙ ap (λ (v : World). plays n (pump (enough n m v) n m v) v) after_word
      ∙ ap (λ (es : List Entry). plays n es told) (pump_once (enough n m told) n m told some below short ∙ delivered)
      ∙ after_hearing
    where
      one : {x y : ℕ} → x ≡ y + 1 → y < x
      one e = omega arith

      upto : {x y z : ℕ} → x ≡ y → y ≡ z → x ≤ z
      upto e f = omega arith

      below : m < length told.sent
      below = one longer

      some : 0 < enough n m told
      some = omega arith

      short : length (plays n (deliveries n m told) told).sent ≤ m + 1
      short = upto (ap (λ (es : List Entry). length (plays n es told).sent) delivered ∙ ap (λ (v : World). length v.sent) after_hearing ∙ ap length (append-nil (w.sent ++ (b ∷ [])))) longer

  pub word_parts : (a : ℕ) → ((plays n (word_to n i j w) w).house a).part ≡ (w.house a).part
  word_parts a = ap (λ (v : World). (v.house a).part) word_plays ∙ put_cases j (λ x t. (cond t new (w.house x)).part ≡ (w.house x).part) refl (λ x. refl) a

  pub word_told : Told (seen n (plays n (word_to n i j w) w)).net i j
  word_told = subst (λ (v : World). seen_from (v.house i).stamps j ≤ heard_from (v.house j).stamps i) (sym word_plays) (least now (at_new i (k.self i li)) (ap (λ (x : rules.House). heard_from x.stamps i) (put_here j new w.house)))
    where
      least : {x y z u : ℕ} → x ≡ y → y ≤ z → u ≡ z → x ≤ u
      least p q r = omega arith

      now : seen_from (put j new w.house i).stamps j ≡ seen_from (w.house i).stamps j
      now = put_cases j (λ x t. seen_from (cond t new (w.house x)).stamps j ≡ seen_from (w.house x).stamps j) (seen_kept (ltb (rules.self (w.house i)) 16)) (λ x. refl) i
        where
          seen_kept : (t : Bool) → seen_from (cond t (with_heard (w.house j).stamps (rules.self (w.house i)) (max (heard_from (w.house j).stamps (rules.self (w.house i))) (seen_from (w.house i).stamps j))) (w.house j).stamps) j ≡ seen_from (w.house j).stamps j
          seen_kept true = refl
          seen_kept false = refl

      greater : (x y : ℕ) → y ≤ max x y
      greater x y = omega arith

      at_new : (a : ℕ) → rules.self (w.house i) ≡ a → seen_from (w.house i).stamps j ≤ heard_from new.stamps a
      at_new a e = subst (λ (x : ℕ). seen_from (w.house i).stamps j ≤ heard_from new.stamps x) e
          (subst (λ (st : Stamps). seen_from (w.house i).stamps j ≤ heard_from st self) (sym (cond-true (ltb self 16) _ _ (lt-ltb self 16 small)))
          (subst (λ (x : ℕ). seen_from (w.house i).stamps j ≤ x) (sym (get_or-set_same (w.house j).stamps.heard self (max (heard_from (w.house j).stamps self) (seen_from (w.house i).stamps j)) 0 (subst (λ (x : ℕ). self < x) (sym (k.sound j lj).stamps.heard_long) small)))
          (greater (heard_from (w.house j).stamps self) (seen_from (w.house i).stamps j))))
        where
          self : ℕ
          self = rules.self (w.house i)

          fits : {x y z : ℕ} → x ≡ y → y < z → z ≤ 16 → x < 16
          fits p q r = omega arith

          small : rules.self (w.house i) < 16
          small = fits (k.self i li) li k.few
