-- No entry of the collector makes a list longer.
use Rattle.std.proofs.Common.{◌≡◌, ℕ, zero, suc, ◌+◌, ◌≤◌, Bool, true, false, cond, not, ◌&&◌, ◌||◌, eqb, ltb, leb, List, [], ◌∷◌, length, get_or, Ok, Err, Result, sym, refl, ap, ◌∙◌, subst, arith}
use Rattle.std.proofs.lemmas.Bool.{cond_both, both_ways, and_parts, ltb-true}
use Rattle.wire.specs.declared.call.Call.{Call}
use Rattle.wire.specs.declared.call.Call.TheVariants as call
use Rattle.wire.specs.declared.message.Message.{Message}
use Rattle.wire.specs.declared.message.Message.TheVariants as message
use Rattle.wire.specs.declared.refusal.Refusal.{Refusal}
use Rattle.wire.specs.Format.{decode, numbers, part_of}
use Rattle.lines.specs.Listed.{Listed, line, is_of, goes, marked, joined, heard_of, swept}
use Rattle.lines.specs.Stamping.{heard_from}
use Rattle.census.specs.Model.{asks, replying}
use Rattle.rounds.specs.Model.{beginning}
use Rattle.rules.specs.House.{House, self, houses, census}
use Rattle.rules.specs.Step.{Outcome, refused, in_census, caught_up, replies, begins, step, event_of, receives, read_as, came}
use Rattle.play.specs.Play.{World, Entry, calls, delivers, put, happens, play, plays, of_collector, for_collector, cleaning}
use Rattle.play.specs.Bound.{line_count}
use Rattle.play.proofs.Frame.{put_cases}
use Rattle.play.proofs.Tracking.{Kept, kept_play}
use Rattle.play.specs.Exact.{AllCleaning}

same : {a b : ℕ} → a ≡ b → a ≤ b
same e = omega arith

more : {a b c : ℕ} → a ≤ b → b ≤ c → a ≤ c
more p q = omega arith

add : {a b c d : ℕ} → a ≤ b → c ≤ d → a + c ≤ b + d
add p q = omega arith

long_marked : (c o j : ℕ) (es : List Listed) → length (marked c o j es) ≡ length es
unfolding marked
long_marked c o j [] = refl
long_marked c o j (e ∷ es) = cond_both (is_of o j e) (line o j e.stamp c ∷ es) (e ∷ marked c o j es) (λ fs. length fs ≡ suc (length es)) (λ _. refl) (λ _. ap suc (long_marked c o j es))

long_joined : (c : ℕ) (f : ℕ → ℕ) (es : List Listed) → length (joined c f es) ≡ length es
unfolding joined
long_joined c f [] = refl
long_joined c f (e ∷ es) = ap suc (long_joined c f es)

long_heard : (j : ℕ) (held : List ℕ) (upto : ℕ) (es : List Listed) → length (heard_of j held upto es) ≤ length es
unfolding heard_of
long_heard j held upto [] = omega arith
long_heard j held upto (e ∷ es) =
    let z = long_heard j held upto es in
    cond_both (goes j held upto e) (heard_of j held upto es) (e ∷ heard_of j held upto es) (λ fs. length fs ≤ suc (length es)) (λ _. omega arith) (λ _. omega arith)

long_swept : (c : ℕ) (es : List Listed) → length (swept c es) ≤ length es
unfolding swept
long_swept c [] = omega arith
long_swept c (e ∷ es) =
    let z = long_swept c es in
    cond_both (eqb e.census c) (e ∷ swept c es) (swept c es) (λ fs. length fs ≤ suc (length es)) (λ _. omega arith) (λ _. omega arith)

-- the list of an outcome is no longer than that of the house
abbrev NoLonger : House → Outcome → Type 0
NoLonger h x = length x.house.list ≤ length h.list

unless : (h : House) (test : Bool) (e : Refusal) (x : Outcome) → NoLonger h x → NoLonger h (cond test (refused e h) x)
unless h true e x p = omega arith
unless h false e x p = p

caught : (c : ℕ) (h : House) → length (caught_up c h).list ≡ length h.list
caught c h = cond_both (ltb (census h) c) (in_census c h) h (λ g. length g.list ≡ length h.list) (λ _. long_joined c (heard_from h.stamps) h.list) (λ _. refl)

replied_list : (r : Result Message Refusal) (c k : ℕ) (h : House) → NoLonger h (replies r c k h)
replied_list (Ok m) c k h = omega arith
replied_list (Err e) c k h = omega arith

begins_list : (r : Result ℕ Refusal) (h : House) → NoLonger h (begins r h)
begins_list (Ok m) h = omega arith
begins_list (Err e) h = omega arith

calls_list : (c : Call) (h : House) → of_collector c ≡ true → NoLonger h (step h (event_of c))
calls_list (call.Make k) h e = absurd (both_ways false refl e)
calls_list (call.Link o p) h e = absurd (both_ways false refl e)
calls_list (call.Unlink o p) h e = absurd (both_ways false refl e)
calls_list (call.Load o p) h e = absurd (both_ways false refl e)
calls_list (call.Drop o) h e = absurd (both_ways false refl e)
calls_list (call.Ask o j) h e = absurd (both_ways false refl e)
calls_list call.Collect h e = omega arith
calls_list (call.Word j) h e = unless h (leb (houses h) j.0) _ _ (unless h (eqb j.0 (self h)) _ _ (omega arith))
calls_list (call.Join c) h e = unless h (leb c (census h) || ltb 4294967295 c) _ _ (same (long_joined c (heard_from h.stamps) h.list))
calls_list call.Tell h e = omega arith
calls_list call.Round h e = unless h (not (asks (self h))) _ _ (begins_list (beginning (houses h) h.desk) h)

receives_list : (m : Message) (part : List ℕ) (h : House) → for_collector (Ok m) ≡ true → NoLonger h (receives m part h)
receives_list (message.Ask o by to) part h e = absurd (both_ways false refl e)
receives_list (message.Give o to s) part h e = absurd (both_ways false refl e)
receives_list (message.Word from to s p) part h e = unless h (not (eqb to.0 (self h))) _ _ (long_heard from.0 (numbers part) s.0 h.list)
receives_list (message.Telling c o from) part h e =
    unless h _ _ _ (unless h (ltb c.0 (census h)) _ _ (same (long_marked c.0 o.0 from.0 (caught_up c.0 h).list ∙ caught c.0 h)))
receives_list (message.Answer c o from) part h e = unless h (not (eqb from.0 (self h))) _ _ (unless h (not (eqb c.0 (census h))) _ _ (omega arith))
receives_list (message.Round c r) part h e =
    unless h (ltb c.0 (census h)) _ _ (more (replied_list (replying _ c.0 r.0 _ (caught_up c.0 h).part) c.0 r.0 (caught_up c.0 h)) (same (caught c.0 h)))
receives_list (message.Reply c r from calm t) part h e = unless h (not (asks (self h))) _ _ (unless h (not (eqb c.0 (census h))) _ _ (omega arith))
receives_list (message.Complete c) part h e = unless h (not (eqb c.0 (census h))) _ _ (long_swept c.0 h.list)

read_list : (r : Result Message Refusal) (bs : List ℕ) (h : House) → for_collector r ≡ true → NoLonger h (read_as r bs h)
read_list (Ok m) bs h e = receives_list m (part_of m bs) h e
read_list (Err x) bs h e = omega arith

moved_list : (i : ℕ) (x : Outcome) (w : World) → NoLonger (w.house i) x → (j : ℕ) → length (put i x.house w.house j).list ≤ length (w.house j).list
moved_list i x w p = put_cases i (λ j b. length (cond b x.house (w.house j)).list ≤ length (w.house j).list) p (λ j. omega arith)

play_list : (n : ℕ) (e : Entry) (w : World) → Kept n w → cleaning n e w ≡ true → (j : ℕ) → length ((play n e w).house j).list ≤ length (w.house j).list
play_list n (calls i c) w k e j =
    cond_both (ltb i n) (happens i (event_of c) w) w (λ v. length (v.house j).list ≤ length (w.house j).list) (λ _. moved_list i (step (w.house i) (event_of c)) w (calls_list c (w.house i) e) j) (λ _. omega arith)
play_list n (delivers i m) w k e j =
    cond_both (ltb i n && ltb m (length w.sent)) (happens i (came bs) w) w (λ v. length (v.house j).list ≤ length (w.house j).list)
    (λ t. moved_list i (step (w.house i) (came bs)) w (here (and_parts (ltb i n) (ltb m (length w.sent)) t).0) j) (λ _. omega arith)
  where
    bs : List ℕ
    bs = get_or w.sent m []

    here : ltb i n ≡ true → NoLonger (w.house i) (step (w.house i) (came bs))
    here t = subst (λ (z : ℕ). NoLonger (w.house i) (read_as (decode z bs) bs (w.house i))) (sym (k.houses i (ltb-true i n t))) (read_list (decode n bs) bs (w.house i) e)

plays_list : (n : ℕ) (es : List Entry) (w : World) → Kept n w → AllCleaning n es w → (j : ℕ) → length ((plays n es w).house j).list ≤ length (w.house j).list
plays_list n [] w k c j = omega arith
plays_list n (e ∷ es) w k c j = more (plays_list n es (play n e w) (kept_play n e w k) c.1 j) (play_list n e w k c.0 j)

-- so in all there are never more lines
pub fewer_lines : (n : ℕ) (es : List Entry) (w : World) → Kept n w → AllCleaning n es w → (k : ℕ) → line_count k (plays n es w) ≤ line_count k w
fewer_lines n es w x c zero = omega arith
fewer_lines n es w x c (suc k) = add (fewer_lines n es w x c k) (plays_list n es w x c k)
