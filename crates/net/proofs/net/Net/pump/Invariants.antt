use Rattle.play.specs.Settle.{pump}
use Rattle.net.proofs.SettlingParts.{Rest}
use Rattle.net.proofs.net.Net.pump.Given as goal

abbrev pub invariant-loop-left : goal.invariant-loop-left
invariant-loop-left l = Rest (λ n w. pump l.most n l.from w) (λ n w. pump l.left n l.next w) l.initial.self l.self

abbrev pub decreases-loop-left : goal.decreases-loop-left
decreases-loop-left l = l.left
