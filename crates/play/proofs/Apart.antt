-- A world that has only a part of what was sent is as safe as one that has all of it, and stays such a world whatever is played, delivered or lost.
use Rattle.std.proofs.Common.{◌≡◌, ℕ, zero, suc, ◌<◌, Bool, true, false, cond, ◌&&◌, ltb, List, [], ◌∷◌, ◌++◌, length, get_or, Err, Result, sym, refl, ap, ◌∙◌, subst, ⊎_elim, arith}
use mathlib.Core.List.Memᴰ
use mathlib.Core.List.{Memᴰ}
use Rattle.std.proofs.lemmas.Bool.{and_parts, and_from, cond-true, lt-ltb, ltb-true}
use Rattle.wire.specs.declared.call.Call.{Call}
use Rattle.wire.specs.declared.refusal.Refusal.{Refusal}
use Rattle.wire.specs.declared.message.Message.{Message}
use Rattle.rules.specs.House.{House}
use Rattle.rules.specs.Step.{Said, came, step, event_of, read_as}
use Rattle.rules.proofs.Fairness.{always_fair}
use Rattle.play.specs.Play.{World, Entry, calls, delivers, begin, put, written, happens, play, plays, Reach, start, more}
use Rattle.play.specs.Promise.{Has}
use Rattle.play.specs.Apart.{Among, PartOf, PartSafe, apart, call, got, refused, lost, NoMessage, AlwaysPart, Apart, ApartSafe}
use Rattle.play.proofs.Promise.{always_safe}
use Rattle.play.proofs.SettledWord.{put_same}

-- a message that is in a list has a place there
place_in : (xs : List (List ℕ)) (bs : List ℕ) → Memᴰ bs xs → (m : ℕ) × (m < length xs) × (get_or xs m [] ≡ bs)
place_in [] bs m = absurd (Memᴰ.not-nil m)
place_in (x ∷ xs) bs m = ⊎_elim (λ e. (0, omega arith, sym e)) (λ z. let r = place_in xs bs z in (suc r.0, omega (arith, r.1), r.2)) (Memᴰ.cases_cons m)

-- and what has a place in a list is in it
at_place : (xs : List (List ℕ)) (m : ℕ) → m < length xs → Memᴰ (get_or xs m []) xs
at_place [] m lt = absurd (omega arith)
at_place (x ∷ xs) zero lt = Memᴰ.head refl
at_place (x ∷ xs) (suc m) lt = Memᴰ.tail (at_place xs m (omega arith))

among_more : (xs ys zs : List (List ℕ)) → Among xs ys → Among (xs ++ zs) (ys ++ zs)
among_more xs ys zs s bs m = ⊎_elim (λ z. Memᴰ.append_left zs (s bs z)) (λ z. Memᴰ.append_right ys z) (Memᴰ.append_cases xs m)

-- at first all that was sent is there
pub part_begin : (n : ℕ) → PartOf n (begin n)
part_begin n = record { all = []; reached = start; among = λ bs m. m }

pub part_reach : (n : ℕ) (w : World) → Reach n w → PartOf n w
part_reach n w r = record { all = w.sent; reached = r; among = λ bs m. m }

-- some of it is lost
pub part_less : (n : ℕ) (w : World) → PartOf n w → (less : List (List ℕ)) → Among less w.sent → PartOf n (record { house = w.house; sent = less })
part_less n w p less s = record { all = p.all; reached = p.reached; among = λ bs m. p.among bs (s bs m) }

module _ (n i : ℕ) (w : World) (p : PartOf n w) (lt : i < n) where
  abbrev whole : World
  whole = record { house = w.house; sent = p.all }

  -- a call at house i
  pub part_call : (c : Call) → PartOf n (happens i (event_of c) w)
  part_call c =
      record {
        all = p.all ++ written (step (w.house i) (event_of c)).answer;
        reached = subst (Reach n) (cond-true (ltb i n) (happens i (event_of c) whole) whole (lt-ltb i n lt)) (more p.reached (calls i c));
        among = among_more w.sent p.all (written (step (w.house i) (event_of c)).answer) p.among;
      }

  -- bytes that are there come to it
  pub part_came : (bs : List ℕ) → Memᴰ bs w.sent → PartOf n (happens i (came bs) w)
  part_came bs m =
      record {
        all = p.all ++ written (step (w.house i) (came bs)).answer;
        reached = subst (λ (xs : List ℕ). Reach n (happens i (came xs) whole)) at.2 (subst (Reach n) here (more p.reached (delivers i at.0)));
        among = among_more w.sent p.all (written (step (w.house i) (came bs)).answer) p.among;
      }
    where
      at : (k : ℕ) × (k < length p.all) × (get_or p.all k [] ≡ bs)
      at = place_in p.all bs (p.among bs m)

      here : play n (delivers i at.0) whole ≡ happens i (came (get_or p.all at.0 [])) whole
      here =
          cond-true (ltb i n && ltb at.0 (length p.all)) (happens i (came (get_or p.all at.0 [])) whole) whole (and_from (ltb i n) (ltb at.0 (length p.all)) (lt-ltb i n lt) (lt-ltb at.0 (length p.all) at.1))

  -- bytes that it refuses come to it: nothing is changed
  pub part_refused : (bs : List ℕ) (e : Refusal) → (step (w.house i) (came bs)).answer ≡ Err e → PartOf n (happens i (came bs) w)
  part_refused bs e d =
      record {
        all = p.all;
        reached = subst (λ (h : ℕ → House). Reach n (record { house = h; sent = p.all })) (sym same) p.reached;
        among = λ ys m. ⊎_elim (λ z. p.among ys z) (λ z. absurd (Memᴰ.not-nil (subst (λ (a : Said). Memᴰ ys (written a)) d z))) (Memᴰ.append_cases w.sent m);
      }
    where
      same : put i (step (w.house i) (came bs)).house w.house ≡ w.house
      same = ap (λ (h : House). put i h w.house) ((always_fair (w.house i) (came bs)).unchanged e d) ∙ put_same i w.house

-- any entry is played
pub part_play : (n : ℕ) (w : World) → PartOf n w → (e : Entry) → PartOf n (play n e w)
part_play n w p (calls i c) = go (ltb i n) refl
  where
    go : (b : Bool) → ltb i n ≡ b → PartOf n (cond b (happens i (event_of c) w) w)
    go true l = part_call n i w p (ltb-true i n l) c
    go false l = p
part_play n w p (delivers i m) = go (ltb i n && ltb m (length w.sent)) refl
  where
    go : (b : Bool) → (ltb i n && ltb m (length w.sent)) ≡ b → PartOf n (cond b (happens i (came (get_or w.sent m [])) w) w)
    go true l =
        let q = and_parts (ltb i n) (ltb m (length w.sent)) l in
        part_came n i w p (ltb-true i n q.0) (get_or w.sent m []) (at_place w.sent m (ltb-true m (length w.sent) q.1))
    go false l = p

pub part_plays : (n : ℕ) (es : List Entry) (w : World) → PartOf n w → PartOf n (plays n es w)
part_plays n [] w p = p
part_plays n (e ∷ es) w p = part_plays n es (play n e w) (part_play n w p e)

-- what was there stays
kept_sent : (n : ℕ) (e : Entry) (w : World) → Among w.sent (play n e w).sent
kept_sent n (calls i c) w = go (ltb i n)
  where
    go : (b : Bool) → Among w.sent (cond b (happens i (event_of c) w) w).sent
    go true bs m = Memᴰ.append_left (written (step (w.house i) (event_of c)).answer) m
    go false bs m = m
kept_sent n (delivers i k) w = go (ltb i n && ltb k (length w.sent))
  where
    go : (b : Bool) → Among w.sent (cond b (happens i (came (get_or w.sent k [])) w) w).sent
    go true bs m = Memᴰ.append_left (written (step (w.house i) (came (get_or w.sent k []))).answer) m
    go false bs m = m

-- an entry is played, and what it makes a house send is lost
pub part_unsent : (n : ℕ) (w : World) → PartOf n w → (e : Entry) → PartOf n (record { house = (play n e w).house; sent = w.sent })
part_unsent n w p e = part_less n (play n e w) (part_play n w p e) w.sent (kept_sent n e w)

-- what matters by less matters by more
fewer : (n : ℕ) (f : ℕ → House) (xs ys : List (List ℕ)) → Among xs ys → {j o : ℕ} → Has n (record { house = f; sent = xs }) j o → Has n (record { house = f; sent = ys }) j o
fewer n f xs ys s (Has.root m) = Has.root m
fewer n f xs ys s (Has.coming t bs m d lt) = Has.coming t bs (s bs m) d lt
fewer n f xs ys s (Has.field h p m) = Has.field (fewer n f xs ys s h) p m

pub part_safe : PartSafe
part_safe n some few w p =
    let whole = always_safe n some few (record { house = w.house; sent = p.all }) p.reached in
    record {
      all = p.all;
      reached = p.reached;
      among = p.among;
      safe = whole;
      there = λ j o h. let t = whole.there j o (fewer n w.house w.sent p.all p.among h) in record { present_at_home = t.present_at_home; known = t.known };
    }

-- HOUSES APART

pub no_message : NoMessage
no_message h bs e d = ap (λ (z : Result Message Refusal). (read_as z bs h).answer) d

pub always_part : AlwaysPart
always_part n f sent apart = part_begin n
always_part n f sent (call {f = g} {sent = s} q i lt c) = part_call n i (record { house = g; sent = s }) (always_part n g s q) lt c
always_part n f sent (got {f = g} {sent = s} q i lt bs m) = part_came n i (record { house = g; sent = s }) (always_part n g s q) lt bs m
always_part n f sent (refused {f = g} {sent = s} q i lt bs e d) = part_refused n i (record { house = g; sent = s }) (always_part n g s q) lt bs e d
always_part n f sent (lost {sent = s} q less) = part_less n (record { house = f; sent = s }) (always_part n f s q) sent less

pub apart_safe : ApartSafe
apart_safe n some few f sent q = part_safe n some few (record { house = f; sent = sent }) (always_part n f sent q)

pub holds_apart : Apart
holds_apart n some few f sent q j o h = (apart_safe n some few f sent q).there j o h
