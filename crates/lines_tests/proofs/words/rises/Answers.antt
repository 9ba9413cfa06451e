use Rattle.std.proofs.Common.{◌<◌, ◌≤◌, length, sym, ◌∙◌, arith, ltb-false, ltb-true}
use Rattle.lines_tests.proofs.Parts.{rising_low, rising_far, rising_more, rising_none}
use Rattle.lines_tests.proofs.words.rises.Goals as goal
use Rattle.lines_tests.proofs.words.rises.Goals.{then-object-low-via-then-object-low, then-object-low-via-else-object-low+then-object-home}

pub returns-then-object-low : goal.returns-then-object-low
returns-then-object-low c =
    let h : 4 ≤ length c.loop-rest.rest.now = omega (arith, ltb-false) in
    let xs = c.loop-rest.rest.now in
    sym (c.loop-rest.invariant ∙ elim c.then-object-low.branch [
      | then-object-low-via-then-object-low w ↦ rising_low c.args.home.0 c.loop-rest.low c.from_be_bytes-object.result xs h c.from_be_bytes-object.ensures w.if-object-low.true
      | then-object-low-via-else-object-low+then-object-home w ↦ rising_far c.args.home.0 c.loop-rest.low c.from_be_bytes-object.result xs h c.from_be_bytes-object.ensures w.if-object-home.true
    ])

pub loop-rest-preserved : goal.loop-rest-preserved
loop-rest-preserved c =
    let h : 4 ≤ length c.loop-rest.rest.now = omega (arith, ltb-false) in
    c.loop-rest.invariant ∙ rising_more c.args.home.0 c.loop-rest.low c.from_be_bytes-object.result c.loop-rest.rest.now h c.from_be_bytes-object.ensures c.if-object-low.false c.if-object-home.false

pub returns : goal.returns
returns c =
    let h : length c.loop-rest.rest.now < 4 = omega (arith, ltb-true) in
    sym (c.loop-rest.invariant ∙ rising_none c.args.home.0 c.loop-rest.low c.loop-rest.rest.now h)
