-- Words one by one.
use Rattle.std.proofs.Common.{◌≡◌, ℕ, suc, ◌<◌, ◌≤◌, true, false, not, List, [], ◌∷◌, ◌++◌, length, take, drop, position, unwrap_or, Some, None, ltb, ltb-true, ltb-false, refl, sym, ap, ⊎_elim, ◌∙◌, append_assoc, append-nil, arith, rules}
use Rattle.std.proofs.lemmas.Bool.{cases_Bool}
use Rattle.std.proofs.lemmas.List.Sums.{prefix_len-le-length}
use Rattle.std.specs.List.{position_or_len}
use Rattle.text.specs.Words.{is_space, split, words, ended, Full, NoneEmpty}

-- how many spaces are in front, and how many bytes come before the first space
abbrev spaces : List ℕ → ℕ
spaces t = position_or_len (λ c. not (is_space c)) t

abbrev span : List ℕ → ℕ
span s = position_or_len is_space s

words_space : (c : ℕ) (cs : List ℕ) → is_space c ≡ true → words (c ∷ cs) ≡ words cs
unfolding split
words_space c cs e = rw e

split_letter : (begun : List ℕ) (c : ℕ) (cs : List ℕ) → is_space c ≡ false → split begun (c ∷ cs) ≡ split (begun ++ (c ∷ [])) cs
unfolding split
split_letter begun c cs e = rw e

spaces_more : (c : ℕ) (cs : List ℕ) → is_space c ≡ true → spaces (c ∷ cs) ≡ suc (spaces cs)
spaces_more c cs e = rw e (omega arith)

spaces_none : (c : ℕ) (cs : List ℕ) → is_space c ≡ false → spaces (c ∷ cs) ≡ 0
spaces_none c cs e = rw e

span_letter : (c : ℕ) (cs : List ℕ) → is_space c ≡ false → span (c ∷ cs) ≡ suc (span cs)
span_letter c cs e = rw e (omega arith)

-- the word that is begun ends where its bytes do
split_word : (begun s : List ℕ) → split begun s ≡ ended (begun ++ take (span s) s) (words (drop (span s) s))
unfolding split
split_word begun [] = rw append-nil
split_word begun (c ∷ cs) =
    ⊎_elim (λ e. rw e (ap (ended begun) (sym (words_space c cs e)) ∙ ap (λ w. ended w (words (c ∷ cs))) (sym (append-nil begun)))) (λ e.
    split_letter begun c cs e
    ∙ split_word (begun ++ (c ∷ [])) cs
    ∙ ap (λ w. ended w (words (drop (span cs) cs))) (append_assoc begun (c ∷ []) (take (span cs) cs))
    ∙ ap (λ n. ended (begun ++ take n (c ∷ cs)) (words (drop n (c ∷ cs)))) (sym (span_letter c cs e))) (cases_Bool (is_space c))

no_word : (t : List ℕ) (n : ℕ) → n ≡ spaces t → length t ≤ n → words t ≡ []
unfolding split
no_word [] n p h = refl
no_word (c ∷ cs) n p h =
    ⊎_elim (λ e. let q = spaces_more c cs e in words_space c cs e ∙ no_word cs (spaces cs) refl (omega arith)) (λ e. let q = spaces_none c cs e in absurd (omega arith)) (cases_Bool (is_space c))

-- what the word is that begins at place n, and what follows it
abbrev Begins : List ℕ → ℕ → Type 0
Begins t n = words t ≡ take (span (drop n t)) (drop n t) ∷ words (drop (span (drop n t)) (drop n t))

begins_letter : (c : ℕ) (cs : List ℕ) → is_space c ≡ false → Begins (c ∷ cs) 0
begins_letter c cs e =
    let q = span_letter c cs e in
    split_word [] (c ∷ cs) ∙ rw q

begins : (t : List ℕ) (n : ℕ) → n ≡ spaces t → n < length t → Begins t n
begins [] n p h = absurd (omega arith)
begins (c ∷ cs) n p h =
    ⊎_elim (λ e.
    let q : n ≡ suc (spaces cs) = p ∙ spaces_more c cs e in
    let g : Begins (c ∷ cs) (suc (spaces cs)) = words_space c cs e ∙ begins cs (spaces cs) refl (omega arith) in
    rw q g) (λ e. let q : n ≡ 0 = p ∙ spaces_none c cs e in rw q (begins_letter c cs e)) (cases_Bool (is_space c))

pub or_length : (s : List ℕ) → unwrap_or (position is_space s) (length s) ≡ span s
or_length s =
    let short = prefix_len-le-length (λ c. not (is_space c)) s in
    ⊎_elim (λ b. rw b) (λ b. rw b (omega (arith, ltb-false))) (cases_Bool (ltb (span s) (length s)))

module _ (t : List ℕ) where
  pub none_of : position (λ c. not (is_space c)) t ≡ None → words t ≡ []
  none_of e = ⊎_elim (λ b. absurd (search (e, b, rules))) (λ b. no_word t (spaces t) refl (omega (arith, ltb-false))) (cases_Bool (ltb (spaces t) (length t)))

  -- the same by the parts that the code has
  pub first_of : (n k : ℕ) (s w r : List ℕ) → position (λ c. not (is_space c)) t ≡ Some n → s ≡ drop n t → k ≡ unwrap_or (position is_space s) (length s) → w ≡ take k s → r ≡ drop k s → words t ≡ w ∷ words r
  first_of n k s w r e p q u v =
      ⊎_elim (λ b.
      let f : n ≡ spaces t = search (e, b, rules) in
      begins t n f (omega (arith, ltb-true)) ∙ rw (u, v, q ∙ or_length s, p)) (λ b. absurd (search (e, b, rules))) (cases_Bool (ltb (spaces t) (length t)))

full_ended : (begun : List ℕ) (ws : List (List ℕ)) → Full ws → Full (ended begun ws)
full_ended [] ws h = h
full_ended (c ∷ cs) ws h = h

full_split : (begun s : List ℕ) → Full (split begun s)
unfolding split
full_split begun [] = full_ended begun [] tt
full_split begun (c ∷ cs) = ⊎_elim (λ e. rw e (full_ended begun (split [] cs) (full_split [] cs))) (λ e. rw e (full_split (begun ++ (c ∷ [])) cs)) (cases_Bool (is_space c))

pub none_empty : NoneEmpty
none_empty t = full_split [] t
