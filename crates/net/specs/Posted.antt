-- What becomes of an answer.
use Rattle.std.specs.Prelude.{◌≡◌, ℕ, [], ◌++◌, map, Ok, Err, Vec, ◌≢◌}
use Rattle.std.specs.declared.alloc.Global.{Global}
use Rattle.node.specs.declared.sent.Sent.{Sent}
use Rattle.node.specs.Shown.{Answer, letters}
use Rattle.store.specs.Sending.{bytes_of, contents}
use Rattle.net.specs.declared.played.Setback.TheVariants.{Fault, Lost}
use Rattle.net.specs.Nets.{Played}

abbrev pub Posted : Played → Answer → Vec (Vec ℕ Global) Global → Vec (Vec ℕ Global) Global → Type 0
Posted (Ok u) a before after = (s : Sent) × (a ≡ Ok s) × (contents after ≡ contents before ++ map bytes_of (letters s))
Posted (Err (Fault f)) a before after = (a ≡ Err f) × (contents after ≡ contents before)
Posted (Err Lost) a before after = (s : Sent) × (a ≡ Ok s) × (letters s ≢ []) × (contents after ≡ contents before)
