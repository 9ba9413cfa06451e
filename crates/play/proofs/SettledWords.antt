-- All houses tell each other what they hold: then all have heard how far each other has seen, and no census has changed.
use Rattle.std.proofs.Common.{◌≡◌, ℕ, suc, ◌<◌, eqb, List, [], sym, refl, ◌∙◌, subst, ⊎_elim, arith}
use Rattle.std.proofs.lemmas.Bool.{cases_eq, eq-eqb, cond-true}
use Rattle.wire.specs.declared.call.Call.TheVariants as call
use Rattle.wire.specs.Names.{house}
use Rattle.promise.proofs.Base.{last, none_below}
use Rattle.play.specs.Play.{World, Entry, plays}
use Rattle.play.specs.Seen.{seen}
use Rattle.play.specs.Settle.{calling, each, word_to, words}
use Rattle.play.proofs.Tracking.{Kept}
use Rattle.play.proofs.FairEntries.{way_plays, each_brings}
use Rattle.play.proofs.FairPump.{cleanly_word}
use Rattle.play.proofs.FairSteps.{Told}
use Rattle.play.proofs.FairWays.{told_way}
use Rattle.play.proofs.SettledWord.{word_parts, word_told}

-- house k has heard how far house j has seen
abbrev pub Hears : ℕ → World → ℕ → ℕ → Type 0
Hears n w j k = Told (seen n w).net j k

module _ (n : ℕ) (w : World) where
  -- no part has changed, and those below a were heard by all
  record Heard (a : ℕ) (v : World) : Type 0 where
    parts : (i : ℕ) → (v.house i).part ≡ (w.house i).part
    below : (j k : ℕ) → j < a → k < n → (j ≡ k → ⊥) → Hears n v j k

  -- and house j by those below k
  record Hearing (j k : ℕ) (v : World) : Type 0 where
    all : Heard j v
    some : (i : ℕ) → i < k → (j ≡ i → ⊥) → Hears n v j i

  word_more : (j : ℕ) → j < n → (k : ℕ) (v : World) → k < n → Kept n v → Hearing j k v → Hearing j (suc k) (plays n (word_to n j k v) v)
  word_more j lj k v lk x f = ⊎_elim same other (cases_eq j k)
    where
      same : j ≡ k → Hearing j (suc k) (plays n (word_to n j k v) v)
      same e =
          subst (λ (es : List Entry). Hearing j (suc k) (plays n es v)) (sym (cond-true (eqb j k) [] (calling n j (call.Word (house k)) v) (eq-eqb j k e)))
          (record { all = f.all; some = λ i l a. f.some i (last l (λ q. a (e ∙ sym q))) a })

      keeps : (a b : ℕ) → Hears n v a b → Hears n (plays n (word_to n j k v) v) a b
      keeps a b t = told_way (way_plays n (word_to n j k v) v x (cleanly_word n j k v x)) a b t

      other : (j ≡ k → ⊥) → Hearing j (suc k) (plays n (word_to n j k v) v)
      other apart =
          record {
            all = record { parts = λ i. word_parts n j k v x lj lk apart i ∙ f.all.parts i; below = λ a b l m z. keeps a b (f.all.below a b l m z) };
            some = λ i l a. ⊎_elim (λ (e : i ≡ k). subst (λ (y : ℕ). Hears n (plays n (word_to n j k v) v) j y) (sym e) (word_told n j k v x lj lk apart)) (λ (e : i ≡ k → ⊥). keeps j i (f.some i (last l e) a)) (cases_eq i k);
          }

  words_more : (j : ℕ) (v : World) → j < n → Kept n v → Heard j v → Heard (suc j) (plays n (each n (λ k u. word_to n j k u) n v) v)
  words_more j v lj x f =
      let z = each_brings n (Hearing j) (λ k u. word_to n j k u) (λ k u l y q. word_more j lj k u l y q) n v x (record { all = f; some = λ i l a. absurd (none_below l) }) (omega arith) in
      let u = plays n (each n (λ k u. word_to n j k u) n v) v in
      record {
        parts = z.all.parts;
        below = λ a b l m q. ⊎_elim (λ (e : a ≡ j). subst (λ (y : ℕ). Hears n u y b) (sym e) (z.some b m (λ p. q (e ∙ p)))) (λ (e : a ≡ j → ⊥). z.all.below a b (last l e) m q) (cases_eq a j);
      }

  heard_all : Kept n w → Heard n (plays n (words n w) w)
  heard_all x =
      each_brings n Heard (λ i v. each n (λ j u. word_to n i j u) n v) (λ j v l y f. words_more j v l y f) n w x (record { parts = λ i. refl; below = λ j k l. absurd (none_below l) }) (omega arith)

  pub words_parts : Kept n w → (i : ℕ) → ((plays n (words n w) w).house i).part ≡ (w.house i).part
  words_parts x = (heard_all x).parts

  pub words_heard : Kept n w → (j k : ℕ) → j < n → k < n → (j ≡ k → ⊥) → Hears n (plays n (words n w) w) j k
  words_heard x = (heard_all x).below
