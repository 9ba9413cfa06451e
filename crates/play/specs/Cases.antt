-- Eight cases, each a script with every answer and with what the houses then hold, written down from the rules. Played, each comes out as it is written.
use Rattle.std.specs.Prelude.{◌≡◌, ℕ, Bool, true, false, List, [], ◌∷◌, ◌++◌, map, length, Ok, Err}
use Rattle.wire.specs.declared.call.Call.TheVariants as call
use Rattle.wire.specs.declared.message.Message.TheVariants as message
use Rattle.wire.specs.Names.{house, name}
use Rattle.wire.specs.Refusals.{number_of}
use Rattle.tables.specs.Model.{Object}
use Rattle.lines.specs.Listed.{Listed, line}
use Rattle.lines.specs.Stamping.{stamp}
use Rattle.rules.specs.House.{House, census}
use Rattle.rules.specs.Step.{Letter, Said, letter, bytes_of}
use Rattle.play.specs.Play.{World, Entry, calls, delivers, begin, play, answered, plays}
use Rattle.play.specs.Settle.{below}

-- what can be seen of a house: its census, its objects with their fields, its roots and its lines
pub record Shown : Type 0 where
  pub census : ℕ
  pub objects : List Object
  pub roots : List ℕ
  pub lines : List Listed

abbrev pub shown : House → Shown
shown h = record { census = census h; objects = h.heap.objects; roots = h.heap.roots; lines = h.list }

-- all of n houses, in order
abbrev pub all_shown : ℕ → World → List Shown
all_shown n w = map (λ i. shown (w.house i)) (below n)

-- A turn of a script: an entry with the messages that the house sends, an entry with the number that it is refused by, or a look at all houses.
pub data Turn : Type 0 where
  sends : Entry → List Letter → Turn
  refused : Entry → ℕ → Turn
  shows : List Shown → Turn

-- an entry with what the house answers to it
abbrev pub turn_of : Entry → Said → Turn
turn_of e (Ok ls) = sends e ls
turn_of e (Err r) = refused e (number_of r)

-- the same entries and looks, with what comes of them in place of what is written
abbrev pub played : ℕ → List Turn → World → List Turn
played n [] w = []
played n (sends e ls ∷ ts) w = turn_of e (answered n e w) ∷ played n ts (play n e w)
played n (refused e k ∷ ts) w = turn_of e (answered n e w) ∷ played n ts (play n e w)
played n (shows hs ∷ ts) w = shows (all_shown n w) ∷ played n ts w

abbrev pub entries_of : List Turn → List Entry
entries_of [] = []
entries_of (sends e ls ∷ ts) = e ∷ entries_of ts
entries_of (refused e k ∷ ts) = e ∷ entries_of ts
entries_of (shows hs ∷ ts) = entries_of ts

-- wherever a script is cut, its second half goes on in the world that the entries of the first half lead to
abbrev pub GoesOn : Type 0
GoesOn = (n : ℕ) (ts us : List Turn) (w : World) → played n (ts ++ us) w ≡ played n ts w ++ played n us (plays n (entries_of ts) w)

-- so many houses, with nothing in them at first, and a script
pub record Case : Type 0 where
  pub houses : ℕ
  pub script : List Turn

abbrev pub rehearsed : Case → Case
rehearsed c = record { houses = c.houses; script = played c.houses c.script (begin c.houses) }

-- the calls, each at house i
abbrev pub make : ℕ → ℕ → Entry
make i k = calls i (call.Make k)

abbrev pub link : ℕ → ℕ → ℕ → Entry
link i o p = calls i (call.Link (name o) (name p))

abbrev pub drop : ℕ → ℕ → Entry
drop i o = calls i (call.Drop (name o))

abbrev pub ask : ℕ → ℕ → ℕ → Entry
ask i o j = calls i (call.Ask (name o) (house j))

abbrev pub collect : ℕ → Entry
collect i = calls i call.Collect

abbrev pub word : ℕ → ℕ → Entry
word i j = calls i (call.Word (house j))

abbrev pub join : ℕ → ℕ → Entry
join i c = calls i (call.Join c)

abbrev pub tell : ℕ → Entry
tell i = calls i call.Tell

abbrev pub round : ℕ → Entry
round i = calls i call.Round

-- the messages, each with its parts in the order of its bytes
abbrev pub asking : ℕ → ℕ → ℕ → Letter
asking o by j = letter (message.Ask (name o) (house by) (house j))

abbrev pub giving : ℕ → ℕ → ℕ → Letter
giving o j s = letter (message.Give (name o) (house j) (stamp s))

abbrev pub wording : ℕ → ℕ → ℕ → List ℕ → Letter
wording from to s os = (message.Word (house from) (house to) (stamp s) (record { at = 9; count = length os }), bytes_of os)

abbrev pub telling : ℕ → ℕ → ℕ → Letter
telling c o from = letter (message.Telling (record { 0 = c }) (name o) (house from))

abbrev pub answering : ℕ → ℕ → ℕ → Letter
answering c o from = letter (message.Answer (record { 0 = c }) (name o) (house from))

abbrev pub polling : ℕ → ℕ → Letter
polling c r = letter (message.Round (record { 0 = c }) (record { 0 = r }))

abbrev pub replying : ℕ → ℕ → ℕ → Bool → ℕ → Letter
replying c r from calm t = letter (message.Reply (record { 0 = c }) (record { 0 = r }) (house from) calm (record { 0 = t }))

abbrev pub completing : ℕ → Letter
completing c = letter (message.Complete (record { 0 = c }))

-- an entry at which nothing is sent, or one message
abbrev pub quiet : Entry → Turn
quiet e = sends e []

abbrev pub says : Entry → Letter → Turn
says e l = sends e (l ∷ [])

-- a house with its census, objects, roots and lines
abbrev pub holding : ℕ → List Object → List ℕ → List Listed → Shown
holding c xs rs ls = record { census = c; objects = xs; roots = rs; lines = ls }

-- a house with nothing in it
abbrev pub bare : ℕ → Shown
bare c = holding c [] [] []

abbrev pub object : ℕ → List ℕ → Object
object o fs = record { name = o; fields = fs }

-- House 0 makes 16 and asks to hand it to house 1; the ask, message 0, comes to house 0 itself, which sends the give, message 1.
abbrev pub given : List Turn
given =
    quiet (make 0 1)
    ∷ says (ask 0 16 1) (asking 16 0 1)
    ∷ says (delivers 0 0) (giving 16 1 1)
    ∷ []

-- the same among three houses: the list has the line before the give is taken
abbrev pub listed : List Turn
listed = given ++ shows (holding 0 (object 16 [] ∷ []) (16 ∷ []) (line 16 1 1 0 ∷ []) ∷ bare 0 ∷ bare 0 ∷ []) ∷ []

-- only house 1 has 16, and the line keeps it
abbrev pub held_afar : Turn
held_afar = shows (holding 0 (object 16 [] ∷ []) [] (line 16 1 1 0 ∷ []) ∷ holding 0 [] (16 ∷ []) [] ∷ bare 0 ∷ [])

-- house 1 takes it, house 0 drops it and collects
abbrev pub taken : List Turn
taken =
    quiet (delivers 1 1)
    ∷ quiet (drop 0 16)
    ∷ quiet (collect 0)
    ∷ held_afar
    ∷ []

-- House 1 drops 16 and says so by a word, message m: stamp 1 is seen, and nothing is held. The line goes, and then the object.
abbrev pub let_go : ℕ → List Turn
let_go m =
    quiet (drop 1 16)
    ∷ says (word 1 0) (wording 1 0 1 [])
    ∷ quiet (delivers 0 m)
    ∷ shows (holding 0 (object 16 [] ∷ []) [] [] ∷ bare 0 ∷ bare 0 ∷ [])
    ∷ quiet (collect 0)
    ∷ shows (bare 0 ∷ bare 0 ∷ bare 0 ∷ [])
    ∷ []

-- house 1 takes 16 and has it in a field of its own 33
abbrev pub linked : List Turn
linked = given ++ quiet (delivers 1 1) ∷ quiet (make 1 2) ∷ quiet (link 1 33 16) ∷ []

-- A ring: 33 comes to house 0 by messages 2 and 3, and 16 gets it in a field. The words, messages 4 and 5, say that both are held. Root 16 of house 0 is the only one left.
abbrev pub ring : List Turn
ring =
    linked
    ++ says (ask 1 33 0) (asking 33 1 0)
    ∷ says (delivers 1 2) (giving 33 0 1)
    ∷ quiet (delivers 0 3)
    ∷ quiet (link 0 16 33)
    ∷ quiet (drop 0 33)
    ∷ quiet (drop 1 16)
    ∷ quiet (drop 1 33)
    ∷ says (word 0 1) (wording 0 1 1 (33 ∷ []))
    ∷ says (word 1 0) (wording 1 0 1 (16 ∷ []))
    ∷ quiet (delivers 1 4)
    ∷ quiet (delivers 0 5)
    ∷ []

-- without that root the ring stands in two houses: only the lines, of census c, keep it
abbrev pub ring_at : ℕ → ℕ → List Shown
ring_at now c = holding now (object 16 (33 ∷ []) ∷ []) [] (line 16 1 1 c ∷ []) ∷ holding now (object 33 (16 ∷ []) ∷ []) [] (line 33 0 1 c ∷ []) ∷ []

-- the same, and house 2 has 16 as a root
abbrev pub held_ring_at : ℕ → ℕ → List Shown
held_ring_at now c =
    holding now (object 16 (33 ∷ []) ∷ []) [] (line 16 1 1 c ∷ line 16 2 1 c ∷ [])
    ∷ holding now (object 33 (16 ∷ []) ∷ []) [] (line 33 0 1 c ∷ [])
    ∷ holding now [] (16 ∷ []) []
    ∷ []

-- in census 1: 33, a root of house 0, leads to 16 by way of house 1; the line of 33 was marked, that of 16 has number c
abbrev pub chain_at : ℕ → List Shown
chain_at c = holding 1 (object 16 [] ∷ []) (33 ∷ []) (line 16 1 1 c ∷ []) ∷ holding 1 (object 33 (16 ∷ []) ∷ []) [] (line 33 0 1 1 ∷ []) ∷ []

-- THE CASES. Names: 16 is number 1 of house 0, 33 is number 2 of house 1. A message goes by its place among all that were sent, from 0.
abbrev pub cases : List Case
cases =
    -- A: what is handed over stays while the other house holds it
    record { houses = 3; script = listed ++ taken }
    -- B: when that house says that it has it no more, it is freed
    ∷ record { houses = 3; script = listed ++ (taken ++ let_go 2) }
    -- C: a word that was sent before the give was taken has stamp 0; heard after the take, it takes nothing away
    ∷ record {
      houses = 3;
      script =
          listed
          ++ says (word 1 0) (wording 1 0 0 [])
          ∷ (taken ++ quiet (delivers 0 2) ∷ quiet (collect 0) ∷ held_afar ∷ []);
    }
    -- D: the give comes twice: the second is refused by 7, and brings nothing back that was dropped
    ∷ record {
      houses = 3;
      script =
          listed
          ++ (taken
          ++ refused (delivers 1 1) 7
          ∷ held_afar
          ∷ quiet (drop 1 16)
          ∷ refused (delivers 1 1) 7
          ∷ shows (holding 0 (object 16 [] ∷ []) [] (line 16 1 1 0 ∷ []) ∷ bare 0 ∷ bare 0 ∷ [])
          ∷ []);
    }
    -- E: house 1 asks for 16 to go to house 2, but lets it go, and 16 is freed, before that ask, message 2, comes: it is refused by 5
    ∷ record {
      houses = 3;
      script =
          listed
          ++ (taken
          ++ says (ask 1 16 2) (asking 16 1 2)
          ∷ (let_go 3
          ++ refused (delivers 0 2) 5
          ∷ shows (bare 0 ∷ bare 0 ∷ bare 0 ∷ [])
          ∷ []));
    }
    -- F: a ring through two houses without any root: no collection frees it, and a census does
    ∷ record {
      houses = 2;
      script =
          ring
          ++ quiet (drop 0 16)
          ∷ quiet (collect 0)
          ∷ quiet (collect 1)
          ∷ shows (ring_at 0 0)
          -- both lines are heard of, so the join does not mark them; nothing is in use, and nothing is told
          ∷ quiet (join 0 1)
          ∷ quiet (join 1 1)
          ∷ quiet (tell 0)
          ∷ quiet (tell 1)
          ∷ shows (ring_at 1 0)
          -- round 1 is message 6, its replies are 7 and 8
          ∷ says (round 0) (polling 1 1)
          ∷ says (delivers 0 6) (replying 1 1 0 true 0)
          ∷ says (delivers 1 6) (replying 1 1 1 true 0)
          ∷ quiet (delivers 0 7)
          ∷ quiet (delivers 0 8)
          -- round 2 is message 9, its replies are 10 and 11; with the last of them the census is complete: message 12
          ∷ says (round 0) (polling 1 2)
          ∷ says (delivers 0 9) (replying 1 2 0 true 0)
          ∷ says (delivers 1 9) (replying 1 2 1 true 0)
          ∷ quiet (delivers 0 10)
          ∷ says (delivers 0 11) (completing 1)
          ∷ quiet (delivers 0 12)
          ∷ quiet (delivers 1 12)
          ∷ quiet (collect 0)
          ∷ quiet (collect 1)
          ∷ shows (bare 1 ∷ bare 1 ∷ [])
          ∷ [];
    }
    -- G: the same ring, with a root at a third house: one telling leads to the next around the ring, and the census keeps it all
    ∷ record {
      houses = 3;
      script =
          ring
          -- house 0 hands 16 to house 2 by messages 6 and 7; house 2's word is message 8
          ++ says (ask 0 16 2) (asking 16 0 2)
          ∷ says (delivers 0 6) (giving 16 2 1)
          ∷ quiet (delivers 2 7)
          ∷ quiet (drop 0 16)
          ∷ says (word 2 0) (wording 2 0 1 (16 ∷ []))
          ∷ quiet (delivers 0 8)
          ∷ quiet (collect 0)
          ∷ quiet (collect 1)
          ∷ quiet (collect 2)
          ∷ shows (held_ring_at 0 0)
          ∷ quiet (join 0 1)
          ∷ quiet (join 1 1)
          ∷ quiet (join 2 1)
          ∷ shows (held_ring_at 1 0)
          -- at first only what house 2 has is in use: it tells of 16, then house 0 of 33, then house 1 of 16; messages 9 to 14
          ∷ quiet (tell 0)
          ∷ quiet (tell 1)
          ∷ says (tell 2) (telling 1 16 2)
          ∷ says (delivers 0 9) (answering 1 16 2)
          ∷ quiet (delivers 2 10)
          ∷ says (tell 0) (telling 1 33 0)
          ∷ says (delivers 1 11) (answering 1 33 0)
          ∷ quiet (delivers 0 12)
          ∷ says (tell 1) (telling 1 16 1)
          ∷ says (delivers 0 13) (answering 1 16 1)
          ∷ quiet (delivers 1 14)
          ∷ quiet (tell 0)
          ∷ quiet (tell 1)
          ∷ quiet (tell 2)
          ∷ shows (held_ring_at 1 1)
          -- round 1 is message 15, its replies are 16 to 18; two lines were marked at house 0, one at house 1
          ∷ says (round 0) (polling 1 1)
          ∷ says (delivers 0 15) (replying 1 1 0 true 2)
          ∷ says (delivers 1 15) (replying 1 1 1 true 1)
          ∷ says (delivers 2 15) (replying 1 1 2 true 0)
          ∷ quiet (delivers 0 16)
          ∷ quiet (delivers 0 17)
          ∷ quiet (delivers 0 18)
          -- round 2 is message 19, its replies are 20 to 22, and the census is complete: message 23
          ∷ says (round 0) (polling 1 2)
          ∷ says (delivers 0 19) (replying 1 2 0 true 2)
          ∷ says (delivers 1 19) (replying 1 2 1 true 1)
          ∷ says (delivers 2 19) (replying 1 2 2 true 0)
          ∷ quiet (delivers 0 20)
          ∷ quiet (delivers 0 21)
          ∷ says (delivers 0 22) (completing 1)
          ∷ quiet (delivers 0 23)
          ∷ quiet (delivers 1 23)
          ∷ quiet (delivers 2 23)
          ∷ quiet (collect 0)
          ∷ quiet (collect 1)
          ∷ quiet (collect 2)
          ∷ shows (held_ring_at 1 1)
          ∷ [];
    }
    -- H: rounds 1 and 2 overlap with a handing over by a house that is not in the census yet: the house that took it says no to round 2, so that the census is not called complete before 16 is marked
    ∷ record {
      houses = 2;
      script =
          linked
          -- only root 33 of house 1 leads to 16; message 2 says that 16 is held, so the join does not mark its line
          ++ quiet (drop 1 16)
          ∷ says (word 1 0) (wording 1 0 1 (16 ∷ []))
          ∷ quiet (delivers 0 2)
          ∷ quiet (drop 0 16)
          ∷ quiet (join 0 1)
          -- round 1 is message 3; house 0 replies by 4
          ∷ says (round 0) (polling 1 1)
          ∷ says (delivers 0 3) (replying 1 1 0 true 0)
          -- house 1, still in census 0, hands 33 to house 0 by messages 5 and 6, hears by 7 that it is held, and drops it
          ∷ says (ask 1 33 0) (asking 33 1 0)
          ∷ says (delivers 1 5) (giving 33 0 1)
          ∷ quiet (delivers 0 6)
          ∷ says (word 0 1) (wording 0 1 1 (33 ∷ []))
          ∷ quiet (delivers 1 7)
          ∷ quiet (drop 1 33)
          -- now round 1 comes to house 1: it joins, has nothing in use, and replies by 8
          ∷ says (delivers 1 3) (replying 1 1 1 true 0)
          ∷ quiet (delivers 0 4)
          ∷ quiet (delivers 0 8)
          -- round 2 is message 9; house 1 replies by 10, and only then is 33 told by 11, marked, and answered by 12
          ∷ says (round 0) (polling 1 2)
          ∷ says (delivers 1 9) (replying 1 2 1 true 0)
          ∷ says (tell 0) (telling 1 33 0)
          ∷ says (delivers 1 11) (answering 1 33 0)
          ∷ quiet (delivers 0 12)
          -- house 0 has told all and was answered, but it took 33 after round 1: it says no, by 13
          ∷ says (delivers 0 9) (replying 1 2 0 false 0)
          ∷ quiet (delivers 0 10)
          ∷ quiet (delivers 0 13)
          ∷ shows (chain_at 0)
          ∷ quiet (collect 0)
          ∷ quiet (collect 1)
          ∷ shows (chain_at 0)
          -- house 1 tells of 16 by message 14, and its line is marked; answered by 15
          ∷ says (tell 1) (telling 1 16 1)
          ∷ says (delivers 0 14) (answering 1 16 1)
          ∷ quiet (delivers 1 15)
          -- round 3 is message 16, its replies are 17 and 18: calm, but the round before was not
          ∷ says (round 0) (polling 1 3)
          ∷ says (delivers 0 16) (replying 1 3 0 true 1)
          ∷ says (delivers 1 16) (replying 1 3 1 true 1)
          ∷ quiet (delivers 0 17)
          ∷ quiet (delivers 0 18)
          -- round 4 is message 19, its replies are 20 and 21, and the census is complete: message 22
          ∷ says (round 0) (polling 1 4)
          ∷ says (delivers 0 19) (replying 1 4 0 true 1)
          ∷ says (delivers 1 19) (replying 1 4 1 true 1)
          ∷ quiet (delivers 0 20)
          ∷ says (delivers 0 21) (completing 1)
          ∷ quiet (delivers 0 22)
          ∷ quiet (delivers 1 22)
          ∷ quiet (collect 0)
          ∷ quiet (collect 1)
          ∷ shows (chain_at 1)
          ∷ [];
    }
    ∷ []

-- every case, played, comes out as it is written
abbrev pub AllCases : Type 0
AllCases = map rehearsed cases ≡ cases
