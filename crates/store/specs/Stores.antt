-- What a house with its tables stands for.
use Rattle.lines.specs.Columns.{model}
use Rattle.objects.specs.Calls.{heap_of}
use Rattle.census.specs.Standings.{part_of}
use Rattle.rounds.specs.Shown.{desk_of}
use Rattle.rules.specs.House.{House}
use Rattle.store.specs.declared.table.Store.{Store}

abbrev pub house_in : Store → House
house_in s = record { heap = heap_of s.objects; list = model s.held s.holders s.stamps s.censuses s.len; stamps = s.head.stamps; part = part_of s.head.standing; desk = desk_of s.head.desk }
