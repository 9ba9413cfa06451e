-- Whether bytes are among those of messages, and whether a net is faithful after them.
use Rattle.std.proofs.Common.{◌≡◌, ℕ, zero, suc, ◌+◌, ◌<◌, Bool, true, false, ◌&&◌, ◌||◌, List, [], ◌∷◌, map, length, get_or, take, vec_items, Vec, IsTrue, sym, refl, ap, ◌∙◌, subst, ⊎_elim, arith}
use mathlib.Core.List.Memᴰ
use mathlib.Core.List.{Memᴰ}
use Rattle.std.proofs.lemmas.List.{map-append, take_more}
use Rattle.std.specs.declared.alloc.Global.{Global}
use Rattle.store.specs.Sending.{items_in, contents}
use Rattle.play.specs.Play.{World}
use Rattle.net.specs.Nets.{Played, Trusts, changed_nothing}

-- those of the message at place i are
pub sent_at : (vs : List (Vec ℕ Global)) (i : ℕ) (v : Vec ℕ Global) (bs : List ℕ) → i < length vs → v ≡ get_or vs i v → items_in v ≡ bs → Memᴰ bs (map items_in vs)
sent_at [] i v bs lt e s = absurd (omega arith)
sent_at (x ∷ vs) zero v bs lt e s = Memᴰ.head (sym s ∙ ap items_in e)
sent_at (x ∷ vs) (suc i) v bs lt e s = Memᴰ.tail (sent_at vs i v bs (omega arith) e s)

-- those that are not among the first i, nor at place i
pub sent_more : (vs : List (Vec ℕ Global)) (i : ℕ) (v : Vec ℕ Global) (bs : List ℕ) → i < length vs → v ≡ get_or vs i v → (Memᴰ bs (map items_in (take i vs)) → ⊥) → (items_in v ≡ bs → ⊥) → Memᴰ bs (map items_in (take (i + 1) vs)) → ⊥
sent_more vs i v bs lt e before other m =
    ⊎_elim before
    (λ z. ⊎_elim (λ q. other (ap items_in e ∙ sym q)) (λ q. Memᴰ.not-nil q) (Memᴰ.cases_cons z))
    (Memᴰ.append_cases (map items_in (take i vs)) (subst (λ (xs : List (List ℕ)). Memᴰ bs xs) (ap (map items_in) (take_more vs i v lt) ∙ map-append items_in (take i vs) (get_or vs i v ∷ [])) m))

-- a net is faithful (g) if it was (f) and the bytes were sent (s) or did nothing
pub trusted : (r : Played) (bs : List ℕ) (w : World) (f s g : Bool) → g ≡ (f && (s || changed_nothing r)) → (s ≡ true → Memᴰ bs w.sent) → (Memᴰ bs w.sent → s ≡ true) → Trusts r bs w f g
trusted r bs w f s g e there back =
    record {
      refused = λ z. e ∙ ap (λ (b : Bool). f && (s || b)) z ∙ either f s;
      sent = λ m. e ∙ ap (λ (b : Bool). f && (b || changed_nothing r)) (back m) ∙ both f;
      forged = λ z n. e ∙ ap (λ (b : Bool). f && (s || b)) z ∙ neither f s (λ y. n (there y));
    }
  where
    either : (f s : Bool) → (f && (s || true)) ≡ f
    either true true = refl
    either true false = refl
    either false s = refl

    both : (f : Bool) → (f && true) ≡ f
    both true = refl
    both false = refl

    neither : (f s : Bool) → (s ≡ true → ⊥) → (f && (s || false)) ≡ false
    neither f true n = absurd (n refl)
    neither true false n = refl
    neither false false n = refl

-- what a search of the messages says, of the messages of a net
pub known_sent : (vs : Vec (Vec ℕ Global) Global) (xs : List (Vec ℕ Global)) (bs : List ℕ) (s : Bool) → xs ≡ vec_items vs → (IsTrue s → Memᴰ bs (map items_in xs)) → s ≡ true → Memᴰ bs (contents vs)
known_sent vs xs bs s e f t = subst (λ (ys : List (Vec ℕ Global)). Memᴰ bs (map items_in ys)) e (f t)

pub sent_known : (vs : Vec (Vec ℕ Global) Global) (xs : List (Vec ℕ Global)) (bs : List ℕ) (s : Bool) → xs ≡ vec_items vs → (Memᴰ bs (map items_in xs) → IsTrue s) → Memᴰ bs (contents vs) → s ≡ true
sent_known vs xs bs s e f m = f (subst (λ (ys : List (Vec ℕ Global)). Memᴰ bs (map items_in ys)) (sym e) m)
