use Rattle.std.proofs.Common.{rules, true, false, Bool, [], ◌∷◌, map, is_ok}
use Rattle.play.specs.Play.{delivers}
use Rattle.play.specs.Settle.{below, delivery, each}
use Rattle.net.specs.Nets.{count, world}
use Rattle.net.specs.Settling.{Along}
use Rattle.net.specs.declared.net.Net.{Net}
use Rattle.net.proofs.Broken.{to_each}
use Rattle.net.proofs.SettlingParts.{along_as, along_each, along_off, each_off}
use Rattle.net.proofs.net.Net.deliver_each.Goals as goal

as_map : (r : Bool) (m : _) (t u : Net) → Along r (λ n w. each n (λ i v. delivers i m ∷ []) n w) t u → Along r (λ n w. map (delivery m) (below n)) t u
as_map r m t u a = along_as r _ (λ n w. map (delivery m) (below n)) t u (to_each (count t) m (count t) (world t)) a

pub loop-to-preserved : goal.loop-to-preserved
loop-to-preserved c = along_each (λ n i v. delivers i c.args.message ∷ []) c.loop-to.to c.args.self.now c.loop-to.self c.delivers.new.self c.loop-to.invariant c.in_ok-delivers.ensures

pub returns-in_err-delivers : goal.returns-in_err-delivers
returns-in_err-delivers c =
    along_off (is_ok c.from_residual.result) _ c.args.self.now c.delivers.new.self (search rules)
    (as_map false c.args.message c.args.self.now c.delivers.new.self (each_off (λ n i v. delivers i c.args.message ∷ []) c.loop-to.to c.args.self.now c.loop-to.self c.delivers.new.self (search rules) c.loop-to.invariant c.in_err-delivers.ensures))

pub returns : goal.returns
returns c = as_map true c.args.message c.args.self.now c.loop-to.self (search (c.loop-to.invariant, rules))
