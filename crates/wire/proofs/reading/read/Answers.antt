use Rattle.std.proofs.Common.{◌≡◌, ℕ, ◌<◌, List, IfOk, Ok, Err, Result, subst, arith, w8, Fits, MatchResult}
use Rattle.wire.specs.declared.reading.Received.{Received}
use Rattle.wire.specs.declared.refusal.Refusal.{Refusal}
use Rattle.wire.specs.Format.{decode}
use Rattle.wire.specs.Laws.{Bytes, Rises, ReadAs, Unique}
use Rattle.wire.proofs.Shapes.{reading, rises, unique}
use Rattle.wire.proofs.reading.read.Goals as goal

below : (x : ℕ) → Fits w8 x → x < 256
below x f = omega arith

each : (n : ℕ) (bs : List ℕ) (r : Result Received Refusal) → Bytes bs → MatchResult r (λ x. ReadAs n bs x.message x.objects.now) (λ e. decode n bs ≡ Err e) → IfOk r (λ x. Unique n bs x.message)
each n bs (Ok x) bytes h = unique n bs x.message bytes h.message
each n bs (Err e) bytes h = tt

ascends : (n : ℕ) (bs : List ℕ) (r : Result Received Refusal) → MatchResult r (λ x. ReadAs n bs x.message x.objects.now) (λ e. decode n bs ≡ Err e) → IfOk r (λ x. Rises x.message x.objects.now)
ascends n bs (Ok x) h = subst (Rises x.message) h.part (rises bs x.message (reading n bs x.message h.message))
ascends n bs (Err e) h = tt

pub returns : goal.returns
returns c =
    record {
      value = c.received.ensures;
      rises = ascends c.args.houses c.args.bytes.now c.received.result c.received.ensures;
      unique = each c.args.houses c.args.bytes.now c.received.result (λ k. below _ (c.type_inv.bytes k)) c.received.ensures;
    }
