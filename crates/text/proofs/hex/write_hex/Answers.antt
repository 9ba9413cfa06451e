use Rattle.std.proofs.Common.{◌/◌, ◌%◌, ◌<◌, [], ◌∷◌, ◌++◌, get_or, string_bytes, ap, ◌∙◌, arith, rules}
use Rattle.text.proofs.Hexes.{pushed, hex_text_none, hex_text_all, char_small, reads_back}
use Rattle.text.proofs.hex.write_hex.Goals as goal

pub loop-byte-init : goal.loop-byte-init
loop-byte-init c = hex_text_none (string_bytes c.args.out.now)

pub loop-byte-preserved : goal.loop-byte-preserved
loop-byte-preserved c =
    let b = get_or c.args.bytes.now c.loop-byte.byte-index 0 in
    let fits = c.type_inv.bytes c.loop-byte.byte-index in
    let top : b / 16 < 16 = omega arith in
    let high : c.digit.result < 128 = rw c.digit.ensures (char_small (b / 16) top) in
    let low : c.digit-in-loop-byte.result < 128 = rw c.digit-in-loop-byte.ensures (char_small (b % 16) (omega arith)) in
    pushed c.args.bytes.now c.loop-byte.byte-index (string_bytes c.args.out.now) (string_bytes c.loop-byte.out) (string_bytes c.push.new.self) (string_bytes c.push-in-loop-byte.new.self) _ _
    c.loop-byte-test.true
    c.loop-byte.invariant
    c.in_ok-push.ensures.bytes
    (c.in_ok-push.ensures.ascii high ∙ ap (λ x. x ∷ []) c.digit.ensures)
    c.in_ok-push-2.ensures.bytes
    (c.in_ok-push-2.ensures.ascii low ∙ ap (λ x. x ∷ []) c.digit-in-loop-byte.ensures)

pub returns : goal.returns
returns c = record { text = c.loop-byte.invariant ∙ ap (λ t. string_bytes c.args.out.now ++ t) (hex_text_all c.args.bytes.now c.loop-byte.byte-index c.loop-byte-test.false); read_back = reads_back }

pub returns-in_err-push : goal.returns-in_err-push
returns-in_err-push c = record { text = search rules; read_back = reads_back }

pub returns-in_err-push-2 : goal.returns-in_err-push-2
returns-in_err-push-2 c = record { text = search rules; read_back = reads_back }
