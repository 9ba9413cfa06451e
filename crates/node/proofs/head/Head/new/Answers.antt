use Rattle.std.proofs.Common.{rules}
use Rattle.objects.proofs.Reached.{collects}
use Rattle.lines.specs.Listed.{objects_listed}
use Rattle.rules.specs.Laws.{Lawful}
use Rattle.rules.proofs.Fairness.{always_fair}
use Rattle.rules.proofs.Twice.{twice_is_once}
use Rattle.node.proofs.head.Head.new.Goals as goal

lawful : Lawful
lawful = record { fair = always_fair; twice = twice_is_once; collects = λ h r. collects h.heap (objects_listed h.list) r }

pub returns : goal.returns
returns c = record { stamps = search rules; part = search rules; desk = search rules; lawful = lawful }
