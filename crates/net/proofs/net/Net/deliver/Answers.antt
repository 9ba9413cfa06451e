use Rattle.std.proofs.Common.{rules, refl, ◌≡◌, ◌<◌, ℕ, List, [], length, get_or, vec_items, arith, subst}
use Rattle.std.specs.Vec.{with_items}
use Rattle.rules.specs.Step.{came}
use Rattle.play.specs.Play.{delivers}
use Rattle.std.proofs.lemmas.List.{length-map}
use Rattle.store.specs.Sending.{contents, items_in}
use Rattle.net.specs.Nets.{world, count}
use Rattle.net.proofs.Entered.{Is, Turned, turned, is_delivery}
use Rattle.net.proofs.SettlingReads.{bytes}
use Rattle.net.proofs.SettlingWhole.{keeps}
use Rattle.net.proofs.net.Net.deliver.Goals as goal

pub returns-then-i-len-clause-promise : goal.returns-then-i-len-clause-promise
returns-then-i-len-clause-promise c = keeps c.then-i-len.self

played : (c : goal.After-keep) → Turned c.keep.result (delivers c.args.house.0 c.args.message) c.args.self.now.houses (with_items c.args.self.now.houses c.step_at-answer.new.houses) c.args.self.now.sent c.keep.new.sent c.args.self.now.faithful
played c =
    let s = c.args.self.now in
    let i = c.from-i.result in
    let m = c.args.message in
    let bs = c.deref.result.now in
    let there : m < length (vec_items s.sent) = search rules in
    let same : get_or (contents s.sent) m [] ≡ bs = search (bytes (vec_items s.sent) m c.index.result.now there, c.index.ensures, rules) in
    let known : m < length (contents s.sent) = omega (arith, length-map (vec_items s.sent) items_in, there) in
    let is : Is (count s) (delivers i m) i (came bs) (world s) = subst (λ (xs : List ℕ). Is (count s) (delivers i m) i (came xs) (world s)) same (is_delivery (count s) i m (world s) (search rules) known) in
    let at : Is (count s) (delivers c.args.house.0 m) i (came bs) (world s) = subst (λ (k : ℕ). Is (count s) (delivers k m) i (came bs) (world s)) c.from-i.ensures is in
    turned s.houses c.deref_mut.result.now c.step_at-answer.new.houses c.deref_mut.ensures.value c.step_at-answer.ensures.long i (came bs) (delivers c.args.house.0 m) s.sent c.keep.new.sent c.keep.result c.step_at-answer.result s.faithful at
    c.step_at-answer.ensures.others c.step_at-answer.ensures.does c.keep.ensures s.some s.few s.reached

pub invariant_of-self-2 : goal.invariant_of-self-2
invariant_of-self-2 c = let z = played c in record { some = z.some; few = z.few; reached = z.reached }

pub returns : goal.returns
returns c = let z = played c.before in record { plays = z.plays; faithful = refl; count = z.same; promise = z.safe }
