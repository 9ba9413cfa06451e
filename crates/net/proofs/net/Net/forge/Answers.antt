use Rattle.std.proofs.Common.{rules}
use Rattle.rules.specs.Step.{came}
use Rattle.net.specs.Nets.{world}
use Rattle.net.proofs.Entered.{forged, acts_at, brought, brought_some, brought_few, brought_safe}
use Rattle.net.proofs.Sent.{known_sent, sent_known, trusted}
use Rattle.net.proofs.SettlingWhole.{keeps}
use Rattle.net.proofs.net.Net.forge.Goals as goal

pub returns-then-i-len-clause-promise : goal.returns-then-i-len-clause-promise
returns-then-i-len-clause-promise c = keeps c.args.self.now

pub invariant_of-self : goal.invariant_of-self
invariant_of-self c =
    let s = c.args.self.now in
    record {
      some = brought_some s.houses c.deref_mut.result.now c.step_at-answer.new.houses c.deref_mut.ensures.value c.step_at-answer.ensures.long c.from-i.result c.args.bytes.now s.sent c.keep-played.new.sent c.keep-played.result c.step_at-answer.result s.faithful c.was_sent-sent.result c.trusts-self.result (search rules) c.step_at-answer.ensures.others c.step_at-answer.ensures.does c.keep-played.ensures (λ e. known_sent s.sent c.deref.result.now c.args.bytes.now c.was_sent-sent.result c.deref.ensures.value c.was_sent-sent.ensures.0 e) c.trusts-self.ensures s.some s.few s.reached;
      few = brought_few s.houses c.deref_mut.result.now c.step_at-answer.new.houses c.deref_mut.ensures.value c.step_at-answer.ensures.long c.from-i.result c.args.bytes.now s.sent c.keep-played.new.sent c.keep-played.result c.step_at-answer.result s.faithful c.was_sent-sent.result c.trusts-self.result (search rules) c.step_at-answer.ensures.others c.step_at-answer.ensures.does c.keep-played.ensures (λ e. known_sent s.sent c.deref.result.now c.args.bytes.now c.was_sent-sent.result c.deref.ensures.value c.was_sent-sent.ensures.0 e) c.trusts-self.ensures s.some s.few s.reached;
      reached = brought s.houses c.deref_mut.result.now c.step_at-answer.new.houses c.deref_mut.ensures.value c.step_at-answer.ensures.long c.from-i.result c.args.bytes.now s.sent c.keep-played.new.sent c.keep-played.result c.step_at-answer.result s.faithful c.was_sent-sent.result c.trusts-self.result (search rules) c.step_at-answer.ensures.others c.step_at-answer.ensures.does c.keep-played.ensures (λ e. known_sent s.sent c.deref.result.now c.args.bytes.now c.was_sent-sent.result c.deref.ensures.value c.was_sent-sent.ensures.0 e) c.trusts-self.ensures s.some s.few s.reached;
    }

pub returns-clause-acts : goal.returns-clause-acts
returns-clause-acts c =
    let s = c.args.self.now in (
      λ _. acts_at c.keep-played.result c.from-i.result c.args.house.0 (came c.args.bytes.now) _ _ c.from-i.ensures
          (forged s.houses c.deref_mut.result.now c.step_at-answer.new.houses c.deref_mut.ensures.value c.step_at-answer.ensures.long c.from-i.result (came c.args.bytes.now) s.sent c.keep-played.new.sent c.keep-played.result c.step_at-answer.result c.step_at-answer.ensures.others c.step_at-answer.ensures.does c.keep-played.ensures),
      λ le. search rules,
    )

pub returns-clause-faithful : goal.returns-clause-faithful
returns-clause-faithful c =
    let s = c.args.self.now in
    trusted c.keep-played.result c.args.bytes.now (world s) s.faithful c.was_sent-sent.result c.trusts-self.result c.trusts-self.ensures
    (λ e. known_sent s.sent c.deref.result.now c.args.bytes.now c.was_sent-sent.result c.deref.ensures.value c.was_sent-sent.ensures.0 e)
    (λ m. sent_known s.sent c.deref.result.now c.args.bytes.now c.was_sent-sent.result c.deref.ensures.value c.was_sent-sent.ensures.1 m)

pub returns-clause-promise : goal.returns-clause-promise
returns-clause-promise c =
    let s = c.args.self.now in
    brought_safe s.houses c.deref_mut.result.now c.step_at-answer.new.houses c.deref_mut.ensures.value c.step_at-answer.ensures.long c.from-i.result c.args.bytes.now s.sent c.keep-played.new.sent c.keep-played.result c.step_at-answer.result s.faithful c.was_sent-sent.result c.trusts-self.result (search rules) c.step_at-answer.ensures.others c.step_at-answer.ensures.does c.keep-played.ensures (λ e. known_sent s.sent c.deref.result.now c.args.bytes.now c.was_sent-sent.result c.deref.ensures.value c.was_sent-sent.ensures.0 e) c.trusts-self.ensures s.some s.few s.reached
