use Rattle.std.proofs.Common.{◌≡◌, ◌+◌, ◌*◌, ◌<◌, Some, ◌∙◌, arith}
use Rattle.text.specs.Hex.{digit_of}
use Rattle.text.proofs.Hexes.{read_digit, made}
use Rattle.text.proofs.hex.byte.Goals as goal

pub returns : goal.returns
returns c =
    let h = c.in_ok-high.high in
    let l = c.in_ok-low.low in
    let high : digit_of c.args.high ≡ Some h = read_digit c.args.high c.from.result h c.from.ensures c.in_ok-high.ensures.value in
    let low : digit_of c.args.low ≡ Some l = read_digit c.args.low c.from-2.result l c.from-2.ensures c.in_ok-low.ensures.value in
    let above = c.in_ok-high.ensures.value in
    let below = c.in_ok-low.ensures.value in
    let byte : h * 16 + l < 256 = omega arith in
    c.ok.ensures.value ∙ made c.try_from.result (h * 16 + l) c.try_from.ensures byte ∙ rw (high, low)
