-- What becomes of the world of a net by one entry, and that it stays a part of one that entries lead to.
use Rattle.std.proofs.Common.{rules, ◌≡◌, ℕ, ◌<◌, ◌≤◌, Bool, true, false, ◌&&◌, ◌||◌, ltb, List, [], ◌∷◌, ◌++◌, length, get_or, is_ok, Ok, Err, vec_items, Vec, sym, refl, ap, ◌∙◌, subst, ⊎_elim}
use mathlib.Core.Logic.{∥∥₁_map}
use Rattle.std.proofs.lemmas.Bool.{cond-true, lt-ltb, and_from, and_parts, or_cases, both_ways}
use Rattle.std.specs.declared.alloc.Global.{Global}
use Rattle.std.specs.Vec.{with_items}
use Rattle.std.proofs.lemmas.List.{with_items_is}
use Rattle.wire.specs.declared.call.Call.{Call}
use Rattle.wire.specs.declared.refusal.Refusal.TheVariants.{Malformed}
use Rattle.rules.specs.House.{House}
use Rattle.rules.specs.Step.{Event, Outcome, Letter, Said, came, step, event_of}
use Rattle.rules.proofs.Fairness.{always_fair}
use Rattle.objects.specs.declared.fault.Fault.TheVariants.{Refused, NoMemory}
use Rattle.node.specs.Shown.{Answer, Answers, letters, allocates}
use Rattle.store.specs.declared.table.Store.{Store}
use Rattle.store.specs.Sending.{contents}
use mathlib.Core.List.Memᴰ
use mathlib.Core.List.{Memᴰ}
use Rattle.play.specs.Play.{World, Entry, calls, delivers, put, happens, written, play, answered}
use Rattle.play.specs.Apart.{PartOf, SafePart}
use Rattle.play.proofs.Apart.{part_safe, part_play, part_unsent, part_came, part_less}
use Rattle.play.proofs.SettledWord.{put_same}
use Rattle.net.specs.Worlds.{houses_of, world_of}
use Rattle.net.specs.Posted.{Posted}
use Rattle.net.specs.Nets.{Played, Plays, Acts, changed_nothing, unsent, wanting}
use Rattle.net.specs.declared.played.Setback.TheVariants.{Fault, Lost}

-- a house that stays as it is
pub put_back : (i : ℕ) (h : House) (f : ℕ → House) → h ≡ f i → put i h f ≡ f
put_back i h f e = ap (λ (x : House). put i x f) e ∙ put_same i f

abbrev world_from : (ℕ → House) → List (List ℕ) → World
world_from f a = record { house = f; sent = a }

pub world_same : {f g : ℕ → House} {a b : List (List ℕ)} → f ≡ g → a ≡ b → world_from f a ≡ world_from g b
world_same e d = λ t. record { house = e t; sent = d t }

module _ (i : ℕ) (e : Event) (f g : ℕ → House) (others : g ≡ put i (g i) f) (before after : Vec (Vec ℕ Global) Global) where
  pub acts : (r : Played) (a : Answer) → Answers a e (f i) (g i) → Posted r a before after → Acts r i e (record { house = f; sent = contents before }) (record { house = g; sent = contents after })
  acts (Ok u) a d p =
      let q : Answers (Ok p.0) e (f i) (g i) = subst (λ (x : Answer). Answers x e (f i) (g i)) p.1 d in (
        ap (λ (x : Outcome). is_ok x.answer) q,
        world_same (others ∙ ap (λ (x : Outcome). put i x.house f) (sym q)) (p.2 ∙ ap (λ (x : Outcome). contents before ++ written x.answer) (sym q)),
      )
  acts (Err (Fault (Refused x))) a d p =
      let q : Answers (Err (Refused x)) e (f i) (g i) = subst (λ (y : Answer). Answers y e (f i) (g i)) p.0 d in
      let n : (step (f i) e).answer ≡ Err x = ap (λ (y : Outcome). y.answer) q in
      (n, world_same (others ∙ put_back i (g i) f (sym (ap (λ (y : Outcome). y.house) q) ∙ (always_fair (f i) e).unchanged x n)) p.1)
  acts (Err (Fault NoMemory)) a d p =
      let q : Answers (Err NoMemory) e (f i) (g i) = subst (λ (y : Answer). Answers y e (f i) (g i)) p.0 d in
      (q.0, q.1, world_same (others ∙ put_back i (g i) f q.2) p.1)
  acts (Err Lost) a d p =
      let q : Answers (Ok p.0) e (f i) (g i) = subst (λ (x : Answer). Answers x e (f i) (g i)) p.1 d in (
        λ z. p.2 (none (letters p.0) (ap (λ (x : Outcome). written x.answer) (sym q) ∙ z)),
        world_same (others ∙ ap (λ (x : Outcome). put i x.house f) (sym q)) p.3,
      )
    where
      none : (ls : List Letter) → written (Ok ls) ≡ [] → ls ≡ []
      none [] z = refl
      none (l ∷ ls) z = absurd (search (z, rules))

-- an entry is this event at this house
abbrev pub Is : ℕ → Entry → ℕ → Event → World → Type 0
Is n x i e w = (play n x w ≡ happens i e w) × (answered n x w ≡ (step (w.house i) e).answer) × (wanting n x w ≡ allocates e (w.house i))

played_by : (r : Played) (n i : ℕ) (e : Event) (x : Entry) (w v : World) → Is n x i e w → Acts r i e w v → Plays r n x w v
played_by (Ok u) n i e x w v is p = (ap (λ (a : Said). is_ok a) is.1 ∙ p.0, p.1 ∙ sym is.0)
played_by (Err (Fault (Refused y))) n i e x w v is p = (is.1 ∙ p.0, p.1)
played_by (Err (Fault NoMemory)) n i e x w v is p = (is.2 ∙ p.0, ap (λ (a : Said). is_ok a) is.1 ∙ p.1, p.2)
played_by (Err Lost) n i e x w v is p = (λ z. p.0 (ap written (sym is.1) ∙ z), p.1 ∙ ap (unsent w) (sym is.0))

pub is_call : (n i : ℕ) (c : Call) (w : World) → i < n → Is n (calls i c) i (event_of c) w
is_call n i c w lt = (cond-true (ltb i n) _ w (lt-ltb i n lt), cond-true (ltb i n) _ (Err Malformed) (lt-ltb i n lt), cond-true (ltb i n) (allocates (event_of c) (w.house i)) false (lt-ltb i n lt))

pub is_delivery : (n i m : ℕ) (w : World) → i < n → m < length w.sent → Is n (delivers i m) i (came (get_or w.sent m [])) w
is_delivery n i m w lt ls =
    let both = and_from (ltb i n) (ltb m (length w.sent)) (lt-ltb i n lt) (lt-ltb m (length w.sent) ls) in
    (cond-true (ltb i n && ltb m (length w.sent)) _ w both, cond-true (ltb i n && ltb m (length w.sent)) _ (Err Malformed) both, refl)

pub acts_at : (r : Played) (i j : ℕ) (e : Event) (w v : World) → i ≡ j → Acts r i e w v → Acts r j e w v
acts_at r i j e w v q a = subst (λ (k : ℕ). Acts r k e w v) q a

-- what is there is a part of what was sent still
pub part_on : (r : Played) (n : ℕ) (x : Entry) (w v : World) → Plays r n x w v → PartOf n w → PartOf n v
part_on (Ok u) n x w v p q = subst (PartOf n) (sym p.1) (part_play n w q x)
part_on (Err (Fault (Refused y))) n x w v p q = subst (PartOf n) (sym p.1) q
part_on (Err (Fault NoMemory)) n x w v p q = subst (PartOf n) (sym p.2) q
part_on (Err Lost) n x w v p q = subst (PartOf n) (sym p.1) (part_unsent n w q x)

-- bytes that were sent, or that did nothing
pub part_brought : (r : Played) (n i : ℕ) (bs : List ℕ) (w v : World) → i < n → Acts r i (came bs) w v → (changed_nothing r ≡ false → Memᴰ bs w.sent) → PartOf n w → PartOf n v
part_brought (Ok u) n i bs w v lt p m q = subst (PartOf n) (sym p.1) (part_came n i w q lt bs (m refl))
part_brought (Err (Fault (Refused y))) n i bs w v lt p m q = subst (PartOf n) (sym p.1) q
part_brought (Err (Fault NoMemory)) n i bs w v lt p m q = subst (PartOf n) (sym p.2) q
part_brought (Err Lost) n i bs w v lt p m q = subst (PartOf n) (sym p.1) (part_less n (happens i (came bs) w) (part_came n i w q lt bs (m refl)) w.sent (λ b z. Memᴰ.append_left _ z))

pub promised : (n : ℕ) (w : World) (f : Bool) → 0 < n → n ≤ 16 → (f ≡ true → ∥ PartOf n w ∥₁) → f ≡ true → ∥ SafePart n w ∥₁
promised n w f some few k t = ∥∥₁_map (k t) (λ p. part_safe n some few w p)

-- what an entry makes of a net with houses vs and messages before: so many houses as before, the entry was played, and what is there now is a part of what was sent
pub record Turned (r : Played) (x : Entry) (vs ws : Vec Store Global) (before after : Vec (Vec ℕ Global) Global) (g : Bool) : Type 0 where
  pub same : length (vec_items ws) ≡ length (vec_items vs)
  pub some : 0 < length (vec_items ws)
  pub few : length (vec_items ws) ≤ 16
  pub plays : Plays r (length (vec_items vs)) x (world_of (vec_items vs) (contents before)) (world_of (vec_items ws) (contents after))
  pub reached : g ≡ true → ∥ PartOf (length (vec_items ws)) (world_of (vec_items ws) (contents after)) ∥₁
  pub safe : g ≡ true → ∥ SafePart (length (vec_items ws)) (world_of (vec_items ws) (contents after)) ∥₁

-- a row of houses is lent, and put back
module _ (vs : Vec Store Global) (xs gs : List Store) (ex : xs ≡ vec_items vs) (long : length gs ≡ length xs) where
  filled : vec_items (with_items vs gs) ≡ gs
  filled = with_items_is vs gs (long ∙ ap length ex ∙ sym vs.ok.0)

  pub count_same : length (vec_items (with_items vs gs)) ≡ length (vec_items vs)
  count_same = ap length filled ∙ long ∙ ap length ex

  -- the same for bytes that anybody wrote
  pub forged : (i : ℕ) (e : Event) (before after : Vec (Vec ℕ Global) Global) (r : Played) (a : Answer) → houses_of gs ≡ put i (houses_of gs i) (houses_of xs) → Answers a e (houses_of xs i) (houses_of gs i) → Posted r a before after →
      Acts r i e (world_of (vec_items vs) (contents before)) (world_of (vec_items (with_items vs gs)) (contents after))
  forged i e before after r a others does posted =
      subst (λ (ys : List Store). Acts r i e (world_of (vec_items vs) (contents before)) (world_of ys (contents after))) (sym filled)
      (acts i e (houses_of (vec_items vs)) (houses_of gs) (subst (λ (ys : List Store). houses_of gs ≡ put i (houses_of gs i) (houses_of ys)) ex others) before after r a
      (subst (λ (ys : List Store). Answers a e (houses_of ys i) (houses_of gs i)) ex does) posted)

  pub turned : (i : ℕ) (e : Event) (x : Entry) (before after : Vec (Vec ℕ Global) Global) (r : Played) (a : Answer) (f : Bool) → Is (length (vec_items vs)) x i e (world_of (vec_items vs) (contents before)) →
      houses_of gs ≡ put i (houses_of gs i) (houses_of xs) → Answers a e (houses_of xs i) (houses_of gs i) → Posted r a before after → 0 < length (vec_items vs) → length (vec_items vs) ≤ 16 →
      (f ≡ true → ∥ PartOf (length (vec_items vs)) (world_of (vec_items vs) (contents before)) ∥₁) →
      Turned r x vs (with_items vs gs) before after f
  turned i e x before after r a f is others does posted some few reach =
      record { same = count_same; some = subst (λ (k : ℕ). 0 < k) (sym count_same) some; few = subst (λ (k : ℕ). k ≤ 16) (sym count_same) few; plays = plays; reached = reached; safe = promised _ _ f (subst (λ (k : ℕ). 0 < k) (sym count_same) some) (subst (λ (k : ℕ). k ≤ 16) (sym count_same) few) reached }
    where
      n : ℕ
      n = length (vec_items vs)

      w : World
      w = world_of (vec_items vs) (contents before)

      acted : Acts r i e (world_of (vec_items vs) (contents before)) (world_of gs (contents after))
      acted =
          acts i e (houses_of (vec_items vs)) (houses_of gs) (subst (λ (ys : List Store). houses_of gs ≡ put i (houses_of gs i) (houses_of ys)) ex others) before after r a
          (subst (λ (ys : List Store). Answers a e (houses_of ys i) (houses_of gs i)) ex does) posted

      plays : Plays r (length (vec_items vs)) x (world_of (vec_items vs) (contents before)) (world_of (vec_items (with_items vs gs)) (contents after))
      plays = subst (λ (ys : List Store). Plays r (length (vec_items vs)) x (world_of (vec_items vs) (contents before)) (world_of ys (contents after))) (sym filled) (played_by r (length (vec_items vs)) i e x _ _ is acted)

      reached : f ≡ true → ∥ PartOf (length (vec_items (with_items vs gs))) (world_of (vec_items (with_items vs gs)) (contents after)) ∥₁
      reached t = subst (λ (k : ℕ). ∥ PartOf k (world_of (vec_items (with_items vs gs)) (contents after)) ∥₁) (sym count_same) (∥∥₁_map (reach t) (λ q. part_on r (length (vec_items vs)) x _ _ plays q))

  -- what bytes that anybody wrote make of a net, which is faithful (g) if it was (f) and they were sent (s) or did nothing
  module _ (i : ℕ) (bs : List ℕ) (before after : Vec (Vec ℕ Global) Global) (r : Played) (a : Answer) (f s g : Bool) (lt : i < length (vec_items vs)) (others : houses_of gs ≡ put i (houses_of gs i) (houses_of xs)) (does : Answers a (came bs) (houses_of xs i) (houses_of gs i)) (posted : Posted r a before after)
      (known : s ≡ true → Memᴰ bs (contents before)) (eg : g ≡ (f && (s || changed_nothing r))) (some : 0 < length (vec_items vs)) (few : length (vec_items vs) ≤ 16)
      (reach : f ≡ true → ∥ PartOf (length (vec_items vs)) (world_of (vec_items vs) (contents before)) ∥₁) where
    pub brought_some : 0 < length (vec_items (with_items vs gs))
    brought_some = subst (λ (k : ℕ). 0 < k) (sym count_same) some

    pub brought_few : length (vec_items (with_items vs gs)) ≤ 16
    brought_few = subst (λ (k : ℕ). k ≤ 16) (sym count_same) few

    pub brought : g ≡ true → ∥ PartOf (length (vec_items (with_items vs gs))) (world_of (vec_items (with_items vs gs)) (contents after)) ∥₁
    brought t =
        let p = and_parts f (s || changed_nothing r) (sym eg ∙ t) in
        let sent : changed_nothing r ≡ false → Memᴰ bs (contents before) = λ z. known (⊎_elim (λ y. y) (λ y. absurd (both_ways (changed_nothing r) z y)) (or_cases s (changed_nothing r) p.1)) in
        subst (λ (k : ℕ). ∥ PartOf k (world_of (vec_items (with_items vs gs)) (contents after)) ∥₁) (sym count_same)
        (∥∥₁_map (reach p.0) (λ q. part_brought r (length (vec_items vs)) i bs _ _ lt (forged i (came bs) before after r a others does posted) sent q))

    pub brought_safe : g ≡ true → ∥ SafePart (length (vec_items (with_items vs gs))) (world_of (vec_items (with_items vs gs)) (contents after)) ∥₁
    brought_safe = promised _ _ g brought_some brought_few brought
