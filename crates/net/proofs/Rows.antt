-- A row of empty houses is the beginning of a world.
use Rattle.std.proofs.Common.{◌≡◌, ℕ, zero, suc, ◌+◌, ◌<◌, ◌≤◌, ◌⊎◌, List, [], ◌∷◌, ◌++◌, map, length, get_or, sym, refl, ap, ◌∙◌, subst, inl, inr, arith}
use mathlib.Core.Path.{fun_ext}
use Rattle.std.proofs.lemmas.List.{length-map, length_push, get_or_append_left, get_or_past, get_or_push}
use Rattle.std.proofs.lemmas.Bool.{cases_order}
use Rattle.rules.specs.House.{House, empty}
use Rattle.play.specs.Play.{begin}
use Rattle.store.specs.declared.table.Store.{Store}
use Rattle.store.specs.Stores.{house_in}
use Rattle.net.specs.Rows.{empties}
use Rattle.net.specs.Worlds.{world_of}

pub empties_long : (n k : ℕ) → length (empties n k) ≡ k
empties_long n zero = refl
empties_long n (suc k) = length_push (empties n k) (empty k n) ∙ more (empties_long n k)
  where
    more : {a b : ℕ} → a ≡ b → a + 1 ≡ suc b
    more p = omega arith

empties_at : (n k j : ℕ) → get_or (empties n k) j (empty j n) ≡ empty j n
empties_at n zero j = refl
empties_at n (suc k) j = go (empties_at n k j) (cases_order j k)
  where
    long : length (empties n k) ≡ k
    long = empties_long n k

    past : {a b c : ℕ} → a ≡ b + 1 → b ≡ k → k < c → a ≤ c
    past p q r = omega arith

    go : get_or (empties n k) j (empty j n) ≡ empty j n → (j ≡ k) ⊎ ((j < k) ⊎ (k < j)) → get_or (empties n k ++ empty k n ∷ []) j (empty j n) ≡ empty j n
    go rest (inl e) = get_or_push (empties n k) (empty k n) (empty j n) j (long ∙ sym e) ∙ ap (λ (i : ℕ). empty i n) (sym e)
    go rest (inr (inl lt)) = get_or_append_left (empties n k) (empty k n ∷ []) (empty j n) j (subst (λ (i : ℕ). j < i) (sym long) lt) ∙ rest
    go rest (inr (inr lt)) = get_or_past (empties n k ++ empty k n ∷ []) j (empty j n) (past (length_push (empties n k) (empty k n)) long lt)

pub row_count : (n : ℕ) (xs : List Store) → map house_in xs ≡ empties n n → length xs ≡ n
row_count n xs e = sym (length-map xs house_in) ∙ ap length e ∙ empties_long n n

pub row_begins : (n : ℕ) (xs : List Store) → map house_in xs ≡ empties n n → world_of xs [] ≡ begin n
row_begins n xs e =
    ap (λ (f : ℕ → House). record { house = f; sent = [] })
    (fun_ext (λ k. ap (λ (hs : List House). get_or hs k (empty k (length xs))) e ∙ ap (λ (m : ℕ). get_or (empties n n) k (empty k m)) (row_count n xs e) ∙ empties_at n n k))
