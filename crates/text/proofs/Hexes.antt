-- Hexadecimal digits two by two.
use Rattle.std.proofs.Common.{◌≡◌, ℕ, suc, ◌+◌, ◌-◌, ◌*◌, ◌/◌, ◌%◌, ◌<◌, ◌≤◌, true, false, cond, eqb, ltb, List, [], ◌∷◌, ◌++◌, length, get_or, take, drop, Some, None, Option, Ok, Err, Result, OkIff, sym, refl, ap, ◌∙◌, ⊎_elim, append_assoc, append-nil, arith}
use native.Mathlib.Nat.{add-div_left}
use Rattle.std.proofs.lemmas.List.{take_all, take_more, at_drop_more, at_drop_all}
use Rattle.std.proofs.lemmas.Bool.{eqb-true, eqb-false, lt-ltb, le-ltb, le-leb, lt-leb, cases_lt, cond_both}
use Rattle.std.proofs.lemmas.Bool.Decides.{nat_tests}
use Rattle.std.specs.Simd.{first_chunks}
use Rattle.std.specs.Char.{digit_value}
use Rattle.std.specs.Result.{result_ok}
use Rattle.text.specs.Hex.{digit_of, byte_of, hex_of, before, after, char_of, hex_text, ReadsBack}

before_none : (b : Option ℕ) → before b None ≡ None
before_none None = refl
before_none (Some b) = refl

pub after_nothing : (r : Option (List ℕ)) → after [] r ≡ r
after_nothing None = refl
after_nothing (Some cs) = refl

-- the bytes that pairs of digits spell
unfoldable pub spelled : List (List ℕ) → Option (List ℕ)
spelled [] = Some []
spelled (p ∷ ps) = before (byte_of (get_or p 0 0) (get_or p 1 0)) (spelled ps)

in_pairs : (xs : List ℕ) → length xs % 2 ≡ 0 → hex_of xs ≡ spelled (first_chunks 2 (length xs / 2) xs)
unfolding hex_of spelled
in_pairs [] e = refl
in_pairs (a ∷ []) e = absurd (omega arith)
in_pairs (a ∷ b ∷ cs) e =
    let z : length (a ∷ b ∷ cs) ≡ 2 + length cs = omega arith in
    let p : 0 < 2 = omega arith in
    let q : (2 + length cs) / 2 ≡ suc (length cs / 2) = add-div_left (length cs) p ∙ omega arith in
    ap (before (byte_of a b)) (in_pairs cs (omega arith)) ∙ ap (λ n. spelled (first_chunks 2 n (a ∷ b ∷ cs))) (sym (ap (λ n. n / 2) z ∙ q))

one_over : (xs : List ℕ) → length xs % 2 ≡ 1 → hex_of xs ≡ None
unfolding hex_of
one_over [] e = absurd (omega arith)
one_over (a ∷ []) e = refl
one_over (a ∷ b ∷ cs) e = ap (before (byte_of a b)) (one_over cs (omega arith)) ∙ before_none (byte_of a b)

-- what is left over after the pairs decides
module _ (xs : List ℕ) (left : ℕ) (e : left ≡ length xs % 2) where
  pub even : true ≡ eqb left 0 → hex_of xs ≡ spelled (first_chunks 2 (length xs / 2) xs)
  even t = let z = eqb-true left 0 (sym t) in in_pairs xs (omega arith)

  pub odd : false ≡ eqb left 0 → hex_of xs ≡ None
  odd f = let z = eqb-false left 0 (sym f) in one_over xs (omega arith)

joined : (out : List ℕ) (b : ℕ) (r : Option (List ℕ)) → after out (before (Some b) r) ≡ after (out ++ (b ∷ [])) r
joined out b None = refl
joined out b (Some cs) = ap Some (sym (append_assoc out (b ∷ []) cs))

module _ (out : List ℕ) (ps : List (List ℕ)) (i : ℕ) where
  pub bad : i < length ps → byte_of (get_or (get_or ps i []) 0 0) (get_or (get_or ps i []) 1 0) ≡ None → after out (spelled (drop i ps)) ≡ None
  unfolding spelled
  bad h e = at_drop_more (λ r. after out (spelled r)) ps i [] h ∙ rw e

  pub both : (more : List ℕ) (b : ℕ) → i < length ps → byte_of (get_or (get_or ps i []) 0 0) (get_or (get_or ps i []) 1 0) ≡ Some b → more ≡ out ++ (b ∷ []) → after out (spelled (drop i ps)) ≡ after more (spelled (drop (i + 1) ps))
  unfolding spelled
  both more b h e g = at_drop_more (λ r. after out (spelled r)) ps i [] h ∙ rw (e, g) (joined out b (spelled (drop (i + 1) ps)))

  pub ended : length ps ≤ i → after out (spelled (drop i ps)) ≡ Some out
  unfolding spelled
  ended h = at_drop_all (λ r. after out (spelled r)) ps i h ∙ ap Some (append-nil out)

hex_text_append : (xs bs : List ℕ) → hex_text (xs ++ bs) ≡ hex_text xs ++ hex_text bs
unfolding hex_text
hex_text_append [] bs = refl
hex_text_append (a ∷ xs) bs = ap (λ t. char_of (a / 16) ∷ char_of (a % 16) ∷ t) (hex_text_append xs bs)

hex_text_one : (b : ℕ) → hex_text (b ∷ []) ≡ char_of (b / 16) ∷ char_of (b % 16) ∷ []
unfolding hex_text
hex_text_one b = refl

pub hex_text_none : (s : List ℕ) → s ≡ s ++ hex_text []
unfolding hex_text
hex_text_none s = sym (append-nil s)

-- two digits more
pub pushed :
    (bs : List ℕ) (i : ℕ) (base s t u e f : List ℕ) → i < length bs → s ≡ base ++ hex_text (take i bs) → t ≡ s ++ e → e ≡ char_of (get_or bs i 0 / 16) ∷ [] → u ≡ t ++ f →
    f ≡ char_of (get_or bs i 0 % 16) ∷ [] → u ≡ base ++ hex_text (take (i + 1) bs)
pushed bs i base s t u e f h p q r v w =
    let x : ℕ = char_of (get_or bs i 0 / 16) in
    let y : ℕ = char_of (get_or bs i 0 % 16) in
    let more : hex_text (take (i + 1) bs) ≡ hex_text (take i bs) ++ (x ∷ y ∷ []) = ap hex_text (take_more bs i 0 h) ∙ hex_text_append (take i bs) (get_or bs i 0 ∷ []) ∙ ap (λ z. hex_text (take i bs) ++ z) (hex_text_one (get_or bs i 0)) in
    let all : u ≡ ((base ++ hex_text (take i bs)) ++ (x ∷ [])) ++ (y ∷ []) = rw (v, w, q, r, p) in
    all ∙ append_assoc (base ++ hex_text (take i bs)) (x ∷ []) (y ∷ []) ∙ append_assoc base (hex_text (take i bs)) (x ∷ y ∷ []) ∙ ap (λ z. base ++ z) (sym more)

pub hex_text_all : (bs : List ℕ) (i : ℕ) → length bs ≤ i → hex_text (take i bs) ≡ hex_text bs
hex_text_all bs i h = ap hex_text (take_all i bs h)

pub char_small : (n : ℕ) → n < 16 → char_of n < 128
char_small n h = cond_both (ltb n 10) (48 + n) (87 + n) (λ x. x < 128) (λ _. omega arith) (λ _. omega arith)

-- a digit that was written has its value
digit_back : (n : ℕ) → n < 16 → digit_of (char_of n) ≡ Some n
digit_back n h =
    ⊎_elim
    (λ low.
    let c : char_of n ≡ 48 + n = rw (lt-ltb n 10 low) in
    let v : 48 + n - 48 ≡ n = omega arith in
    rw (c, le-leb 48 (48 + n) (omega arith), le-leb (48 + n) 57 (omega arith), v))
    (λ high.
    let c : char_of n ≡ 87 + n = rw (le-ltb n 10 high) in
    let v : 87 + n - 87 ≡ n = omega arith in
    rw (c, le-leb 48 (87 + n) (omega arith), lt-leb (87 + n) 57 (omega arith), le-leb 97 (87 + n) (omega arith), le-leb (87 + n) 102 (omega arith), v))
    (cases_lt n 10)

pub reads_back : ReadsBack
unfolding hex_text hex_of
reads_back [] h = refl
reads_back (b ∷ bs) h =
    let top : b / 16 < 16 = let below = h 0 in omega arith in
    let whole : b / 16 * 16 + b % 16 ≡ b = omega arith in
    rw (digit_back (b / 16) top, digit_back (b % 16) (omega arith), reads_back bs (λ k. h (suc k)), whole)

-- the digits of the library are those of the format
library_digit : (c : ℕ) → digit_of c ≡ cond (ltb (digit_value c) 16) (Some (digit_value c)) None
library_digit c = grind (arith, nat_tests)

pub read_digit : (c k d : ℕ) → k ≡ c → (digit_value k < 16) × (d ≡ digit_value k) → digit_of c ≡ Some d
read_digit c k d e h =
    let same : d ≡ digit_value c = h.1 ∙ ap digit_value e in
    let below : digit_value c < 16 = rw (sym e) h.0 in
    library_digit c ∙ rw (lt-ltb (digit_value c) 16 below, same)

pub made : {E : Type 0} (r : Result ℕ E) (n : ℕ) → OkIff r (n < 256) n → n < 256 → result_ok r ≡ Some n
made (Ok x) n h l = ap Some h.1
made (Err e) n h l = absurd (h l)
