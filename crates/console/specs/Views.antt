-- What is shown of a house.
use Rattle.std.specs.Prelude.{length}
use Rattle.wire.specs.declared.names.House as declared
use Rattle.rules.specs.House.{House, census}
use Rattle.text.specs.declared.status.Status.{Status}

-- its census, how many lines it has marked in it, the round that it has asked, and how many objects, roots and lines it has
abbrev pub standing : declared.House → House → Status
standing i h =
    record {
      house = i;
      census = record { 0 = census h };
      tally = record { 0 = h.part.tally };
      round = record { 0 = h.desk.round };
      objects = length h.heap.objects;
      roots = length h.heap.roots;
      lines = length h.list;
    }
