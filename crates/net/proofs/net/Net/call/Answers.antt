use Rattle.std.proofs.Common.{rules, refl, ℕ, subst}
use Rattle.std.specs.Vec.{with_items}
use Rattle.rules.specs.Step.{event_of}
use Rattle.play.specs.Play.{calls}
use Rattle.net.specs.Nets.{world, count}
use Rattle.net.proofs.Entered.{Is, Turned, turned, is_call}
use Rattle.net.proofs.SettlingWhole.{keeps}
use Rattle.net.proofs.net.Net.call.Goals as goal

pub returns-then-i-len-clause-promise : goal.returns-then-i-len-clause-promise
returns-then-i-len-clause-promise c = keeps c.args.self.now

played : (c : goal.After-keep) → Turned c.keep.result (calls c.args.house.0 c.args.call) c.args.self.now.houses (with_items c.args.self.now.houses c.step_at-answer.new.houses) c.args.self.now.sent c.keep.new.sent c.args.self.now.faithful
played c =
    let s = c.args.self.now in
    let i = c.from-i.result in
    let e = event_of c.args.call in
    let is : Is (count s) (calls c.args.house.0 c.args.call) i e (world s) = subst (λ (k : ℕ). Is (count s) (calls k c.args.call) i e (world s)) c.from-i.ensures (is_call (count s) i c.args.call (world s) (search rules)) in
    turned s.houses c.deref_mut.result.now c.step_at-answer.new.houses c.deref_mut.ensures.value c.step_at-answer.ensures.long i e (calls c.args.house.0 c.args.call) s.sent c.keep.new.sent c.keep.result c.step_at-answer.result s.faithful is
    c.step_at-answer.ensures.others c.step_at-answer.ensures.does c.keep.ensures s.some s.few s.reached

pub invariant_of-self : goal.invariant_of-self
invariant_of-self c = let z = played c in record { some = z.some; few = z.few; reached = z.reached }

pub returns : goal.returns
returns c = let z = played c.before in record { plays = z.plays; faithful = refl; count = z.same; promise = z.safe }
