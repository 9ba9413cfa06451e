-- The bytes of messages that are sent.
use Rattle.std.specs.Prelude.{ℕ, List, map, vec_items, Vec}
use Rattle.std.specs.declared.alloc.Global.{Global}
use Rattle.wire.specs.declared.message.Message.TheVariants.{Telling}
use Rattle.wire.specs.declared.names.Census.{Census}
use Rattle.wire.specs.declared.names.House.{House}
use Rattle.wire.specs.declared.names.Name.{Name}
use Rattle.wire.specs.Format.{encode}
use Rattle.wire.specs.Names.{name}
use Rattle.tables.specs.Shown.{numbers}
use Rattle.rules.specs.Step.{Letter, letter}

abbrev pub bytes_of : Letter → List ℕ
bytes_of l = encode l.0 l.1

abbrev pub items_in : Vec ℕ Global → List ℕ
items_in v = vec_items v

-- what several byte strings hold
abbrev pub contents : Vec (Vec ℕ Global) Global → List (List ℕ)
contents v = map items_in (vec_items v)

abbrev pub tellings : Census → House → List Name → List Letter
tellings c from ns = map (λ o. letter (Telling c (name o) from)) (numbers ns)
