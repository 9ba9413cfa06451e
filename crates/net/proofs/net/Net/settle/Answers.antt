use Rattle.std.proofs.Common.{rules, true, false}
use Rattle.net.specs.Settling.{IsLeft}
use Rattle.net.proofs.SettlingWhole.{keeps, above_in, entries, not_told, not_joined, not_said, whole, short_of, ends_short}
use Rattle.net.proofs.net.Net.settle.Goals as goal

pub returns-then-above-from-clause-promise : goal.returns-then-above-from-clause-promise
returns-then-above-from-clause-promise c = keeps c.args.self.now

pub returns-in_err-words-clause-promise : goal.returns-in_err-words-clause-promise
returns-in_err-words-clause-promise c = keeps c.words.new.self

pub returns-in_err-join_all-clause-promise : goal.returns-in_err-join_all-clause-promise
returns-in_err-join_all-clause-promise c = keeps c.join_all.new.self

pub returns-in_err-complete-clause-promise : goal.returns-in_err-complete-clause-promise
returns-in_err-complete-clause-promise c = keeps c.complete.new.self

pub returns-in_err-calling_each-clause-promise : goal.returns-in_err-calling_each-clause-promise
returns-in_err-calling_each-clause-promise c = keeps c.calling_each.new.self

pub returns-clause-promise : goal.returns-clause-promise
returns-clause-promise c = keeps c.calling_each.new.self

pub returns-then-above-from-clause-ends : goal.returns-then-above-from-clause-ends
returns-then-above-from-clause-ends c = search (above_in c.above.result c.args.self.now c.deref.result.now c.deref.ensures.value c.above.ensures, rules)

pub returns-in_err-words-clause-ends : goal.returns-in_err-words-clause-ends
returns-in_err-words-clause-ends c =
    let t = c.args.self.now in
    let le : IsLeft t = search (above_in c.above.result t c.deref.result.now c.deref.ensures.value c.above.ensures, rules) in
    ends_short c.from_residual.result t c.words.new.self c.from_residual.ensures.1 (short_of t c.words.new.self le (not_said t c.words.new.self c.in_err-words.ensures))

pub returns-in_err-join_all-clause-ends : goal.returns-in_err-join_all-clause-ends
returns-in_err-join_all-clause-ends c =
    let t = c.args.self.now in
    let le : IsLeft t = search (above_in c.above.result t c.deref.result.now c.deref.ensures.value c.above.ensures, rules) in
    ends_short c.from_residual-in_err-join_all.result t c.join_all.new.self c.from_residual-in_err-join_all.ensures.1 (short_of t c.join_all.new.self le (not_joined t c.words.new.self c.join_all.new.self c.in_ok-words.ensures c.in_err-join_all.ensures))

pub returns-in_err-complete-clause-ends : goal.returns-in_err-complete-clause-ends
returns-in_err-complete-clause-ends c =
    let t = c.args.self.now in
    let le : IsLeft t = search (above_in c.above.result t c.deref.result.now c.deref.ensures.value c.above.ensures, rules) in
    ends_short c.from_residual-in_err-complete.result t c.complete.new.self c.from_residual-in_err-complete.ensures.1 (short_of t c.complete.new.self le (not_told false t c.words.new.self c.join_all.new.self c.complete.new.self c.complete.new.self c.in_ok-words.ensures c.in_ok-join_all.ensures c.in_err-complete.ensures))

pub returns-in_err-calling_each-clause-ends : goal.returns-in_err-calling_each-clause-ends
returns-in_err-calling_each-clause-ends c =
    let t = c.args.self.now in
    let le : IsLeft t = search (above_in c.above.result t c.deref.result.now c.deref.ensures.value c.above.ensures, rules) in
    ends_short c.from_residual-in_err-calling_each.result t c.calling_each.new.self c.from_residual-in_err-calling_each.ensures.1 (short_of t c.calling_each.new.self le (entries false t c.words.new.self c.join_all.new.self c.complete.new.self c.calling_each.new.self c.in_ok-words.ensures c.in_ok-join_all.ensures c.in_ok-complete.ensures c.in_err-calling_each.ensures))

pub returns-clause-ends : goal.returns-clause-ends
returns-clause-ends c =
    let t = c.args.self.now in
    let le : IsLeft t = search (above_in c.above.result t c.deref.result.now c.deref.ensures.value c.above.ensures, rules) in
    whole t c.calling_each.new.self le (entries true t c.words.new.self c.join_all.new.self c.complete.new.self c.calling_each.new.self c.in_ok-words.ensures c.in_ok-join_all.ensures c.in_ok-complete.ensures c.in_ok-calling_each.ensures)
