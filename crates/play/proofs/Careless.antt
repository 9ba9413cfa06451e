-- The run that loses an object where houses forget that they took something: the checker plays it.
use Rattle.std.proofs.Common.{false, List, [], ◌∷◌, refl, inr}
use Rattle.std.proofs.lemmas.Bool.{both_ways}
use Rattle.wire.specs.Format.{numbers, rising}
use Rattle.objects.specs.Executed.{picked, spread, kept_in, sorted_by}
use Rattle.lines.specs.Listed.{is_in, listed, listed_in, entered, marked, joined, heard_of, swept, objects_listed, objects_in}
use Rattle.play.specs.Play.{Entry, delivers}
use Rattle.play.specs.Promise.{Has}
use Rattle.play.specs.Cases.{make, link, drop, ask, collect, word, join, tell, round}
use Rattle.play.specs.Careless.{CarelessLoses}

-- A message goes by its place among all that were sent, from 0.
abbrev hasty : List Entry
hasty =
    -- 16 is made at 0 and handed to 1, by messages 0 and 1, which makes 33 and has it in a field
    make 0 1
    ∷ ask 0 16 1
    ∷ delivers 0 0
    ∷ delivers 1 1
    ∷ make 1 2
    ∷ link 1 33 16
    -- 0 hears by message 2 that 1 has 16, and both drop it
    ∷ word 1 0
    ∷ delivers 0 2
    ∷ drop 1 16
    ∷ drop 0 16
    -- 0 joins census 1, and answers round 1, message 3, by 4
    ∷ join 0 1
    ∷ round 0
    ∷ delivers 0 3
    -- 1, not yet in the census, hands 33 to 0 by messages 5 and 6, hears by 7 that 0 has it, and drops it
    ∷ ask 1 33 0
    ∷ delivers 1 5
    ∷ delivers 0 6
    ∷ word 0 1
    ∷ delivers 1 7
    ∷ drop 1 33
    -- 1 joins by round 1, uses nothing, and answers it by 8 and round 2, message 9, by 10
    ∷ delivers 1 3
    ∷ delivers 0 4
    ∷ delivers 0 8
    ∷ round 0
    ∷ delivers 1 9
    -- 0 tells of 33 by message 11, which is answered by 12; only now it answers round 2, by 13
    ∷ tell 0
    ∷ delivers 1 11
    ∷ delivers 0 12
    ∷ delivers 0 9
    ∷ delivers 0 10
    ∷ delivers 0 13
    -- message 14 is that the census is complete, if 0 has forgotten that it took 33, whose field was never told: 0 sweeps, collects, and 16 is gone
    ∷ delivers 0 14
    ∷ collect 0
    ∷ []

pub careless_loses : CarelessLoses
unfolding numbers rising picked spread kept_in sorted_by is_in listed listed_in entered marked joined heard_of swept objects_listed objects_in
careless_loses = (
  hasty,
  1,
  16,
  record {
    ends = refl;
    matters = Has.field (Has.root {j = 0} {o = 33} refl) refl refl;
    gone = λ t. both_ways false refl t.present_at_home;
    goes_on = refl;
    has = Has.field (Has.root {j = 0} {o = 33} refl) refl refl;
    there = record { present_at_home = refl; known = inr refl };
  },
)
