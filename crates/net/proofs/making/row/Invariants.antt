use Rattle.std.proofs.Common.{◌≡◌, map, vec_items}
use Rattle.std.specs.Vec.{vec_len, vec_capacity}
use Rattle.store.specs.Stores.{house_in}
use Rattle.net.specs.Rows.{empties}
use Rattle.net.proofs.making.row.Given as goal

abbrev pub invariant-loop-house : goal.invariant-loop-house
invariant-loop-house l = (map house_in (vec_items l.houses) ≡ empties l.count l.house) × (vec_len l.houses ≡ l.house) × (vec_capacity l.houses ≡ l.count)
