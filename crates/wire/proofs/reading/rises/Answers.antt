use Rattle.std.proofs.Common.{map, w32, sym, ap, ◌∙◌}
use Rattle.std.specs.Int.{from_be_bytes}
use Rattle.wire.specs.Format.{rising}
use Rattle.wire.proofs.Parts.{chunk_numbers, rising_stop, rising_more, rising_end}
use Rattle.wire.proofs.reading.rises.Goals as goal

pub loop-number-init : goal.loop-number-init
loop-number-init c = ap (rising c.args.to 15) (sym (ap (map (from_be_bytes w32)) c.as_chunks.ensures.front ∙ chunk_numbers c.args.objects.now))

pub returns-then-not-is_next : goal.returns-then-not-is_next
returns-then-not-is_next c =
    sym
    (c.loop-number.invariant
    ∙ rising_stop c.args.to c.loop-number.low c.from_be_bytes-object.result c.as_chunks.result.0.now c.loop-number.number-index c.loop-number-test.true c.from_be_bytes-object.ensures (sym c.if-not-is_next.ensures))

pub loop-number-preserved : goal.loop-number-preserved
loop-number-preserved c =
    c.loop-number.invariant
    ∙ rising_more c.args.to c.loop-number.low c.from_be_bytes-object.result c.as_chunks.result.0.now c.loop-number.number-index c.loop-number-test.true c.from_be_bytes-object.ensures (sym c.if-not-is_next.ensures)

pub returns : goal.returns
returns c = sym (c.loop-number.invariant ∙ rising_end c.args.to c.loop-number.low c.as_chunks.result.0.now c.loop-number.number-index c.loop-number-test.false)
