use Rattle.std.proofs.Common.{◌≡◌, ◌-◌, length, take, drop}
use Rattle.std.specs.List.{remove}
use Rattle.tables.proofs.object.Object.unlink.Given as goal

abbrev pub invariant-loop-i : goal.invariant-loop-i
invariant-loop-i l =
    (remove (take l.i l.self.slots) l.at ≡ take (l.i - 1) l.slots) × (drop l.i l.slots ≡ drop l.i l.self.slots) × (length l.slots ≡ 8)
