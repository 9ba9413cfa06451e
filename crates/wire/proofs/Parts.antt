-- The numbers of a part one by one.
use Rattle.std.proofs.Common.{◌≡◌, ℕ, suc, ◌+◌, ◌/◌, ◌%◌, ◌<◌, ◌≤◌, Bool, true, false, ◌&&◌, eqb, ltb, List, [], ◌∷◌, map, length, get_or, drop, w32, sym, refl, ap, ◌∙◌, arith}
use native.Mathlib.Nat.{add-div_left}
use Rattle.std.specs.Int.{from_be_bytes}
use Rattle.std.specs.Simd.{first_chunks}
use Rattle.std.proofs.lemmas.List.{at_drop_more, at_drop_all}
use Rattle.std.proofs.lemmas.Bool.{and_left}
use Rattle.wire.specs.Format.{numbers, follows, rising}

-- the numbers are those of the chunks of four bytes
pub chunk_numbers : (xs : List ℕ) → map (from_be_bytes w32) (first_chunks 4 (length xs / 4) xs) ≡ numbers xs
unfolding numbers
chunk_numbers [] = refl
chunk_numbers (a ∷ []) = refl
chunk_numbers (a ∷ b ∷ []) = refl
chunk_numbers (a ∷ b ∷ c ∷ []) = refl
chunk_numbers (a ∷ b ∷ c ∷ d ∷ rest) =
    let z : length (a ∷ b ∷ c ∷ d ∷ rest) ≡ 4 + length rest = omega arith in
    let p : 0 < 4 = omega arith in
    let q : (4 + length rest) / 4 ≡ suc (length rest / 4) = add-div_left (length rest) p ∙ omega arith in
    ap (λ n. map (from_be_bytes w32) (first_chunks 4 n (a ∷ b ∷ c ∷ d ∷ rest))) (ap (λ n. n / 4) z ∙ q)
    ∙ ap (λ r. from_be_bytes w32 (a ∷ b ∷ c ∷ d ∷ []) ∷ r) (chunk_numbers rest) ∙ ap (λ x. x ∷ numbers rest) refl

and_assoc : (a b c : Bool) → ((a && b) && c) ≡ (a && (b && c))
and_assoc true b c = refl
and_assoc false b c = refl

rising_cons : (j low o : ℕ) (os : List ℕ) → rising j low (o ∷ os) ≡ (follows j low o && rising j o os)
unfolding rising
rising_cons j low o os = sym (and_assoc (ltb low o) (eqb (o % 16) j) (rising j o os))

-- the numbers of chunks from a place on
module _ (j low o : ℕ) (cs : List (List ℕ)) (i : ℕ) (h : i < length cs) (is : o ≡ from_be_bytes w32 (get_or cs i [])) where
  rising_step : rising j low (map (from_be_bytes w32) (drop i cs)) ≡ (follows j low o && rising j o (map (from_be_bytes w32) (drop (i + 1) cs)))
  rising_step =
      let rest : List ℕ = map (from_be_bytes w32) (drop (i + 1) cs) in
      at_drop_more (λ x. rising j low (map (from_be_bytes w32) x)) cs i [] h
      ∙ rising_cons j low (from_be_bytes w32 (get_or cs i [])) rest
      ∙ ap (λ z. follows j low z && rising j z rest) (sym is)

  pub rising_stop : follows j low o ≡ false → rising j low (map (from_be_bytes w32) (drop i cs)) ≡ false
  rising_stop e = rising_step ∙ and_left _ _ e

  pub rising_more : follows j low o ≡ true → rising j low (map (from_be_bytes w32) (drop i cs)) ≡ rising j o (map (from_be_bytes w32) (drop (i + 1) cs))
  rising_more e = rising_step ∙ ap (λ b. b && rising j o (map (from_be_bytes w32) (drop (i + 1) cs))) e

pub rising_end : (j low : ℕ) (cs : List (List ℕ)) (i : ℕ) → length cs ≤ i → rising j low (map (from_be_bytes w32) (drop i cs)) ≡ true
unfolding rising
rising_end j low cs i h = at_drop_all (λ x. rising j low (map (from_be_bytes w32) x)) cs i h
