-- What houses in memory, and the messages beside them, stand for.
use Rattle.std.specs.Prelude.{ℕ, List, map, length, slice_index_or}
use Rattle.rules.specs.House.{House, empty}
use Rattle.play.specs.Play.{World}
use Rattle.store.specs.declared.table.Store.{Store}
use Rattle.store.specs.Stores.{house_in}

abbrev pub houses_of : List Store → ℕ → House
houses_of hs k = slice_index_or (map house_in hs) k (empty k (length hs))

abbrev pub world_of : List Store → List (List ℕ) → World
world_of hs sent = record { house = houses_of hs; sent = sent }
