use Rattle.std.proofs.Common.{rules, ◌≡◌, false, Bool, ◌+◌, ◌*◌, ℕ, [], ◌∷◌, length, is_ok, ap}
use Rattle.wire.specs.declared.call.Call.{Call}
use Rattle.play.specs.Play.{calls}
use Rattle.play.specs.Settle.{and_then, calling, enough, pump}
use Rattle.net.specs.Nets.{count, world}
use Rattle.net.specs.Settling.{Script, Along}
use Rattle.net.specs.declared.net.Net.{Net}
use Rattle.net.proofs.SettlingParts.{along_then, along_front, along_off, along_as}
use Rattle.net.proofs.net.Net.calling.Goals as goal

abbrev one : ℕ → Call → Script
one i c n w = calls i c ∷ []

-- what is sent from message number k on is delivered
abbrev rest : ℕ → Script
rest k n x = pump (enough n k x) n k x

whole : (r : Bool) (i k : ℕ) (c : Call) (t u : Net) → k ≡ length (world t).sent → Along r (λ n w. and_then n w (one i c n w) (λ x. rest k n x)) t u → Along r (λ n w. calling n i c w) t u
whole r i k c t u e a = along_as r _ (λ n w. calling n i c w) t u (ap (λ (j : ℕ). and_then (count t) (world t) (one i c (count t) (world t)) (λ x. rest j (count t) x)) e) a

pub returns-in_err-calls : goal.returns-in_err-calls
returns-in_err-calls c =
    let t = c.args.self.now in
    let k = c.message_count-before.result in
    along_off (is_ok c.from_residual.result) _ t c.calls.new.self (search rules)
    (whole false c.args.house.0 k c.args.call t c.calls.new.self c.message_count-before.ensures (along_front (one c.args.house.0 c.args.call) (rest k) t c.calls.new.self c.in_err-calls.ensures))

pub returns : goal.returns
returns c =
    let t = c.args.self.now in
    let u = c.calls.new.self in
    let k = c.message_count-before.result in
    let r = is_ok c.pump.result in
    let most : 2 * c.saturating_sub-new.result + c.from.result + 2 ≡ enough (count u) k (world u) = search rules in
    let last : Along r (rest k) u c.pump.new.self = along_as r _ (rest k) u c.pump.new.self (ap (λ (j : ℕ). pump j (count u) k (world u)) most) c.pump.ensures in
    whole r c.args.house.0 k c.args.call t c.pump.new.self c.message_count-before.ensures (along_then r (one c.args.house.0 c.args.call) (rest k) t u c.pump.new.self c.in_ok-calls.ensures last)
