-- A telling, its answer and a round that come.
use Rattle.std.proofs.Common.{◌≡◌, ℕ, ◌+◌, ◌≤◌, min, Bool, true, false, cond, not, ◌&&◌, ◌||◌, eqb, ltb, List, [], ◌∷◌, Ok, Err, Decides, sym, refl, ap, ◌∙◌, subst, arith}
use mathlib.Core.List.{Memᴰ}
use Rattle.std.proofs.lemmas.Bool.{not-false, ltb-false, both_ways, eqb-true, eq-eqb, cond-true}
use Rattle.wire.specs.Names.{home, name, house}
use Rattle.wire.specs.declared.message.Message.{Message}
use Rattle.wire.specs.declared.message.Message.TheVariants as message
use Rattle.wire.specs.declared.refusal.Refusal.TheVariants.{Misdelivered, OtherCensus}
use Rattle.tables.specs.Model.{is_in}
use Rattle.tables.specs.Met as tables
use Rattle.objects.proofs.Reached.{in_use}
use Rattle.lines.specs.Listed.{listed, listed_in, marked, objects_in}
use Rattle.census.specs.Model.{Told, names, answered_in, says_calm}
use Rattle.census.specs.Model as census
use Rattle.census.specs.Laws.{Calm}
use Rattle.census.proofs.Laws.{laws}
use Rattle.rules.specs.House as rules
use Rattle.rules.specs.Step.{Letter, sends, letter, told, marks, polled, replies_to, replies, used}
use Rattle.promise.specs.Net.{Mark, with, with_list}
use Rattle.promise.specs.Rounds.{Turn, AlikePart, Answer, Round, Reply, Fine}
use Rattle.promise.specs.Rounds as promise
use Rattle.play.specs.Play.{World}
use Rattle.play.specs.Seen.{house_seen, part_seen, answered_names, seen, msgs_seen, notes_seen}
use Rattle.play.proofs.Sending.{both_refl}
use Rattle.play.proofs.Firm.{Firm}
use Rattle.play.proofs.Frame.{Way, free, Tracks, tracks_unless, arrives, alike_by, house_put, house_kept, house_refl, part_put, part_refl, made_kept, desk_kept, both_one}
use Rattle.play.proofs.Programs.{truth}
use Rattle.play.proofs.Cleaning.{untruth}
use Rattle.play.proofs.Catching.{tracks_caught}

pub answered_in_part : (o : ℕ) (ts : List Told) → is_in o (answered_names ts) ≡ answered_in o ts
answered_in_part o [] = refl
answered_in_part o (t ∷ ts) = go t.answered (answered_in_part o ts)
  where
    go : (b : Bool) → is_in o (answered_names ts) ≡ answered_in o ts → is_in o (cond b (t.name ∷ answered_names ts) (answered_names ts)) ≡ ((eqb t.name o && b) || answered_in o ts)
    go true e = test (eqb t.name o) (is_in o (answered_names ts)) (answered_in o ts) e
      where
        test : (a b d : Bool) → b ≡ d → (a || b) ≡ ((a && true) || d)
        test true b d e = refl
        test false b d e = e
    go false e = test (eqb t.name o) (is_in o (answered_names ts)) (answered_in o ts) e
      where
        test : (a b d : Bool) → b ≡ d → b ≡ ((a && false) || d)
        test true b d e = e
        test false b d e = e

-- the census's part after a mark
part_counted : (p : census.Part) (b : Bool) → p.tally ≤ 2048 → AlikePart (promise.counting b (part_seen p)) (part_seen (census.counting (cond b 1 0) p))
part_counted p b low = record { told = λ o. refl; answered = λ o. refl; tally = less p.tally (cond b 1 0) low (one b); polled = refl; stirred = refl }
  where
    one : (b : Bool) → cond b 1 0 ≤ 1
    one true = omega arith
    one false = omega arith

    less : (a d : ℕ) → a ≤ 2048 → d ≤ 1 → a + d ≡ min (a + d) 4294967295
    less a d p q = omega arith

module _ (n i : ℕ) (w : World) (f : Firm n i (w.house i)) where
  abbrev h : rules.House
  h = w.house i

  -- a telling of the house's own census
  tracks_marks : (c o from : ℕ) → rules.census h ≡ c → home o ≡ i → Memᴰ (Mark c o from) (seen n w).net.sent → Tracks true n i w (sends (letter (message.Answer (record { 0 = c }) (name o) (house from)) ∷ []) (marks c o from h))
  tracks_marks c o from own at_home sent =
      subst (λ (z : ℕ). Tracks true n i w (sends (letter (message.Answer (record { 0 = z }) (name o) (house from)) ∷ []) (marks z o from h))) own
      (λ r. arrives n i w new true (l ∷ []) _ (Way.more Way.same (Turn.mark (seen n w) i o from f.inside at_home (subst (λ (z : ℕ). Memᴰ (Mark z o from) (seen n w).net.sent) (sym own) sent)) free free (λ _. tt))
      (alike_by n i w new (l ∷ [])
      (record { net = with i (with_list (marked (rules.census h) o from h.list) (house_seen h)) (seen n w).net; part = promise.set i (promise.counting b (part_seen h.part)) (seen n w).part; desk = (seen n w).desk; said = Answer (rules.census h) o from ∷ (seen n w).said }) r
      (house_put w i new (with_list (marked (rules.census h) o from h.list) (house_seen h)) (house_refl _)) (made_kept w i new refl) (part_put w i new (promise.counting b (part_seen h.part)) (part_counted h.part b f.tally))
      (w.house 0).desk refl (desk_kept w i new refl) (both_refl _) (both_refl _)))
    where
      b : Bool
      b = listed o from (w.house i).list && not (listed_in (rules.census (w.house i)) o from (w.house i).list)

      l : Letter
      l = letter (message.Answer (record { 0 = rules.census (w.house i) }) (name o) (house from))

      new : rules.House
      new = marks (rules.census (w.house i)) o from (w.house i)

  -- what a house says to a round
  says_fine : (r : ℕ) → Decides (says_calm r (used h) h.part) (Fine r i (rules.census h) (house_seen h) (part_seen h.part))
  says_fine r = (
    λ e. let z = law.0 e in (
      record {
        all_told = λ o away u. truth (z.0.all_told o (uses.all o (λ q. away (q ∙ f.self), u)));
        all_answered = λ o t. truth (answered_in_part o h.part.told ∙ z.0.all_answered o (untruth t));
      },
      λ two t. z.1 two (untruth t),
    ),
    λ z. law.1 (
      record {
        all_told = λ o m. let u = uses.only o m in untruth (z.0.all_told o (λ q. u.0 (q ∙ sym f.self)) u.1);
        all_answered = λ o t. sym (answered_in_part o h.part.told) ∙ untruth (z.0.all_answered o (truth t));
      },
      λ two t. z.1 two (truth t),
    ),
  )
    where
      law : Decides (says_calm r (used (w.house i)) (w.house i).part) (Calm (used (w.house i)) (w.house i).part × (r ≡ 2 → (w.house i).part.stirred ≡ true → ⊥))
      law = laws.says r (used (w.house i)) (w.house i).part f.told

      uses : tables.Lists (used (w.house i)) (tables.FarInUse (w.house i).heap (objects_in (rules.census (w.house i)) (w.house i).list))
      uses = in_use (w.house i).heap (objects_in (rules.census (w.house i)) (w.house i).list) f.rises

  tracks_replies : (c r : ℕ) → rules.census h ≡ c → Memᴰ (Round c r) (seen n w).said → Tracks true n i w (replies_to c r h)
  tracks_replies c r own asked =
      subst (λ (z : ℕ). Tracks true n i w (replies_to z r h)) own
      (go (eqb (rules.census h) (rules.census h)) (eq-eqb (rules.census h) (rules.census h) refl))
    where
      b : Bool
      b = says_calm r (used (w.house i)) (w.house i).part

      l : Message
      l = message.Reply (record { 0 = rules.census (w.house i) }) (record { 0 = r }) (house (rules.self (w.house i))) b (record { 0 = (w.house i).part.tally })

      new : rules.House
      new = rules.with_part (census.polling r (w.house i).part) (w.house i)

      falsely : b ≡ false → Fine r i (rules.census (w.house i)) (house_seen (w.house i)) (part_seen (w.house i).part) → ⊥
      falsely e z = both_ways b e ((says_fine r).1 z)

      go : (a : Bool) → a ≡ true → Tracks true n i w (replies (cond a (Ok l) (Err OtherCensus)) (rules.census (w.house i)) r (w.house i))
      go a e = subst (λ (x : Bool). Tracks true n i w (replies (cond x (Ok l) (Err OtherCensus)) (rules.census (w.house i)) r (w.house i))) (sym e)
          (subst (λ (p : census.Part). Tracks true n i w (sends (letter l ∷ []) (rules.with_part p (w.house i)))) (sym (cond-true (eqb (rules.census (w.house i)) (rules.census (w.house i))) (census.polling r (w.house i).part) (w.house i).part (eq-eqb (rules.census (w.house i)) (rules.census (w.house i)) refl))) turn)
        where
          turn : Tracks true n i w (sends (letter l ∷ []) new)
          turn q =
              arrives n i w new true (letter l ∷ []) _ (Way.more Way.same (Turn.reply (seen n w) i r b f.inside (subst (λ (z : ℕ). Memᴰ (Round z r) (seen n w).said) (sym own) asked) (says_fine r).0 falsely) free free (λ _. tt))
              (alike_by n i w new (letter l ∷ [])
              (record { net = (seen n w).net; part = promise.set i (promise.polling r (part_seen (w.house i).part)) (seen n w).part; desk = (seen n w).desk; said = Reply (rules.census (w.house i)) r i b (w.house i).part.tally ∷ (seen n w).said }) q
              (house_kept w i new (house_refl _)) (made_kept w i new refl) (part_put w i new (promise.polling r (part_seen (w.house i).part)) (part_refl _)) (w.house 0).desk refl (desk_kept w i new refl) (both_refl _)
              (both_one (Reply (rules.census (w.house i)) r i b (w.house i).part.tally) (Reply (rules.census (w.house i)) r (rules.self (w.house i)) b (w.house i).part.tally ∷ []) (seen n w).said (ap (λ (z : ℕ). Reply (rules.census (w.house i)) r z b (w.house i).part.tally ∷ []) f.self)))

module _ (n i : ℕ) (w : World) (f : Firm n i (w.house i)) where
  pub tracks_told : (c o from : ℕ) → Memᴰ (Mark c o from) (seen n w).net.sent → Tracks true n i w (told c o from (w.house i))
  tracks_told c o from sent =
      tracks_unless true n i w (not (eqb (home o) (rules.self (w.house i)))) Misdelivered _ (λ a.
      tracks_unless true n i w (ltb c (rules.census (w.house i))) OtherCensus _ (λ b.
      let at_home = eqb-true (home o) (rules.self (w.house i)) (not-false (eqb (home o) (rules.self (w.house i))) a) ∙ f.self in
      tracks_caught n i w f c (λ g. sends (letter (message.Answer (record { 0 = c }) (name o) (house from)) ∷ []) (marks c o from g)) (ltb-false c (rules.census (w.house i)) b)
      (λ v k own same. tracks_marks n i v k c o from own at_home (subst (λ (bss : List (List ℕ)). Memᴰ (Mark c o from) (msgs_seen n bss)) (sym same) sent))))

  pub tracks_polled : (c r : ℕ) → Memᴰ (Round c r) (seen n w).said → Tracks true n i w (polled c r (w.house i))
  tracks_polled c r asked =
      tracks_unless true n i w (ltb c (rules.census (w.house i))) OtherCensus _ (λ b.
      tracks_caught n i w f c (λ g. replies_to c r g) (ltb-false c (rules.census (w.house i)) b)
      (λ v k own same. tracks_replies n i v k c r own (subst (λ (bss : List (List ℕ)). Memᴰ (Round c r) (notes_seen n bss)) (sym same) asked)))
