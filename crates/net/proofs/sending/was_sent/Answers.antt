use Rattle.std.proofs.Common.{◌≡◌, sym, ◌∙◌, rules}
use Rattle.std.proofs.lemmas.Bool.{false≢true}
use Rattle.std.proofs.lemmas.Bool.Decides.{Decides-eqb}
use Rattle.std.proofs.lemmas.Slice.Eq.{slice_eq-Decides}
use Rattle.store.specs.Sending.{items_in}
use Rattle.net.proofs.Sent.{sent_at, sent_more}
use Rattle.net.proofs.sending.was_sent.Goals as goal

pub returns-then-eq : goal.returns-then-eq
returns-then-eq c =
    let same : items_in c.message-item.result ≡ c.args.bytes.now = sym c.as_slice.ensures.value ∙ (slice_eq-Decides Decides-eqb _ _ _ c.eq.ensures).0 c.if-eq.true in
    (λ _. sent_at c.args.sent.now c.loop-message.message-index c.message-item.result c.args.bytes.now c.loop-message-test.true c.message-item.is same, λ _. search rules)

pub loop-message-preserved : goal.loop-message-preserved
loop-message-preserved c =
    sent_more c.args.sent.now c.loop-message.message-index c.message-item.result c.args.bytes.now c.loop-message-test.true c.message-item.is c.loop-message.invariant
    (λ e. false≢true (sym c.if-eq.false ∙ (slice_eq-Decides Decides-eqb _ _ _ c.eq.ensures).1 (c.as_slice.ensures.value ∙ e)))
