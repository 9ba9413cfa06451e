-- The stamps of a house: for each house what was given to it, seen from it and heard of it.
use Rattle.std.specs.Prelude.{ℕ, ◌+◌, cond, List, replicate, Ok, Err, Result, nat_lt, slice_index, slice_set}
use Rattle.wire.specs.declared.names.Stamp.{Stamp}
use Rattle.wire.specs.declared.refusal.Refusal.{Refusal}
use Rattle.wire.specs.declared.refusal.Refusal.TheVariants.{Malformed, OldStamp, OutOfNumbers}
use Rattle.lines.specs.declared.stamps.Stamps.{Stamps}

abbrev pub stamp : ℕ → Stamp
stamp s = record { 0 = s }

-- what stands for house j in a row of sixteen
abbrev pub stamp_at : ℕ → List ℕ → Result Stamp Refusal
stamp_at j row = cond (nat_lt j 16) (Ok (stamp (slice_index row j))) (Err Malformed)

-- nothing given, seen or heard yet
abbrev pub unstamped : Stamps
unstamped = record { given = replicate 16 0; seen = replicate 16 0; heard = replicate 16 0 }

abbrev pub given_to : Stamps → ℕ → ℕ
given_to st j = slice_index st.given j

abbrev pub seen_from : Stamps → ℕ → ℕ
seen_from st j = slice_index st.seen j

abbrev pub heard_from : Stamps → ℕ → ℕ
heard_from st j = slice_index st.heard j

abbrev pub with_given : Stamps → ℕ → ℕ → Stamps
with_given st j s = record { given = slice_set st.given j s; seen = st.seen; heard = st.heard }

abbrev pub with_seen : Stamps → ℕ → ℕ → Stamps
with_seen st j s = record { given = st.given; seen = slice_set st.seen j s; heard = st.heard }

abbrev pub with_heard : Stamps → ℕ → ℕ → Stamps
with_heard st j s = record { given = st.given; seen = st.seen; heard = slice_set st.heard j s }

-- the next stamp for house j: one more than the last, while there is one
abbrev pub next_for : ℕ → Stamps → Result Stamp Refusal
next_for j st = cond (nat_lt j 16) (cond (nat_lt (given_to st j) 4294967295) (Ok (stamp (given_to st j + 1))) (Err OutOfNumbers)) (Err Malformed)

-- a stamp of house j is new only above the highest seen
abbrev pub seeing : ℕ → ℕ → Stamps → Result (Unit {0}) Refusal
seeing j s st = cond (nat_lt j 16) (cond (nat_lt (seen_from st j) s) (Ok tt) (Err OldStamp)) (Err Malformed)

abbrev pub hearing : ℕ → Result (Unit {0}) Refusal
hearing j = cond (nat_lt j 16) (Ok tt) (Err Malformed)
