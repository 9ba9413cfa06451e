-- Numbers and the bytes that they are written with.
use Rattle.std.proofs.Common.{◌≡◌, ℕ, ◌+◌, ◌*◌, ◌/◌, ◌%◌, ◌^◌, ◌<◌, arith}
use native.Mathlib.Nat.{div-div-eq-div-mul}
use Rattle.wire.specs.Format.{number}

joins : (t u v w q r y x : ℕ) → t ≡ q → q * 256 + u ≡ r → r * 256 + v ≡ y → y * 256 + w ≡ x → number t u v w ≡ x
joins t u v w q r y x a b c d = omega arith

low : (y : ℕ) → y / 256 * 256 + y % 256 ≡ y
low y = omega arith

-- four bytes of a number make it again
pub four : (x : ℕ) → x < 2 ^ 32 → number (x / 16777216 % 256) (x / 65536 % 256) (x / 256 % 256) (x % 256) ≡ x
four x h =
    let top : x / 16777216 % 256 ≡ x / 16777216 = omega arith in
    let a : x / 16777216 * 256 + x / 65536 % 256 ≡ x / 65536 = rw div-div-eq-div-mul at (low (x / 65536)) in
    let b : x / 65536 * 256 + x / 256 % 256 ≡ x / 256 = rw div-div-eq-div-mul at (low (x / 256)) in
    let c : x / 256 * 256 + x % 256 ≡ x = low x in
    joins (x / 16777216 % 256) (x / 65536 % 256) (x / 256 % 256) (x % 256) (x / 16777216) (x / 65536) (x / 256) x top a b c

pub two : (x : ℕ) → x < 2 ^ 16 → x / 256 % 256 * 256 + x % 256 ≡ x
two x h = omega arith

-- the bytes of a number made of bytes are these
module _ (a b c d : ℕ) (p : a < 256) (q : b < 256) (r : c < 256) (s : d < 256) where
  pub digit1 : number a b c d / 16777216 % 256 ≡ a
  digit1 = omega arith

  pub digit2 : number a b c d / 65536 % 256 ≡ b
  digit2 = omega arith

  pub digit3 : number a b c d / 256 % 256 ≡ c
  digit3 = omega arith

  pub digit4 : number a b c d % 256 ≡ d
  digit4 = omega arith

pub high2 : (a b : ℕ) → a < 256 → b < 256 → (a * 256 + b) / 256 % 256 ≡ a
high2 a b p q = omega arith

pub low2 : (a b : ℕ) → a < 256 → b < 256 → (a * 256 + b) % 256 ≡ b
low2 a b p q = omega arith
