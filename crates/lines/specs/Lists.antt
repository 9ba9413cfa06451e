-- The list that lent columns hold.
use Rattle.std.specs.Prelude.{◌≡◌, ℕ, zero, suc, ◌+◌, ◌<◌, Bool, cond, List, [], ◌∷◌, length, Some, None, Ok, Err, Option, Result, slice_set}
use Rattle.wire.specs.declared.refusal.Refusal.{Refusal}
use Rattle.wire.specs.declared.refusal.Refusal.TheVariants.{Malformed, NoRoom}
use Rattle.wire.specs.Names.{house, name}
use Rattle.lines.specs.Listed.{Listed, line, belongs, fits}
use Rattle.lines.specs.Columns.{row, model, Alone, Own, Far}
use Rattle.lines.specs.declared.line.Line.{Line}
use Rattle.lines.specs.declared.table.Lines.{Lines}

abbrev pub row_of : Lines → ℕ → Listed
row_of t = row t.objects.now t.holders.now t.stamps.now t.censuses.now

abbrev pub lines : Lines → List Listed
lines t = model t.objects.now t.holders.now t.stamps.now t.censuses.now t.len

-- a line of the list as a program reads it, and back
abbrev pub shown : Listed → Line
shown e = record { object = name e.object; holder = house e.holder; stamp = record { 0 = e.stamp }; census = record { 0 = e.census } }

abbrev pub listing : Line → Listed
listing l = line l.object.0 l.holder.0 l.stamp.0 l.census.0

-- the calls of a test of lines answer what p says of each
abbrev pub Decides : (Line → Bool → Type 0) → (Listed → Bool) → Type 0
Decides post p = (e : Listed) (b : Bool) → post (shown e) b → b ≡ p e

unfoldable pub line_at : ℕ → List Listed → Option Line
line_at i [] = None
line_at zero (e ∷ es) = Some (shown e)
line_at (suc i) (e ∷ es) = line_at i es

-- what `enter` answers
abbrev pub entering : ℕ → ℕ → ℕ → ℕ → ℕ → List Listed → Result (Unit {0}) Refusal
entering here houses room o j es = cond (belongs here houses o j) (cond (fits o j es room) (Ok tt) (Err NoRoom)) (Err Malformed)

-- u lies in the memory that t lies in, and is the list of the same house: each call that changes a list says so of what it was and what it is, which no invariant of one list can
pub record Lent (t u : Lines) : Type 0 where
  pub objects : u.objects.ghost_name ≡ t.objects.ghost_name
  pub holders : u.holders.ghost_name ≡ t.holders.ghost_name
  pub stamps : u.stamps.ghost_name ≡ t.stamps.ghost_name
  pub censuses : u.censuses.ghost_name ≡ t.censuses.ghost_name
  pub objects_long : length u.objects.now ≡ length t.objects.now
  pub holders_long : length u.holders.now ≡ length t.holders.now
  pub stamps_long : length u.stamps.now ≡ length t.stamps.now
  pub censuses_long : length u.censuses.now ≡ length t.censuses.now
  pub room : u.room ≡ t.room
  pub home : u.home ≡ t.home
  pub houses : u.houses ≡ t.houses

-- u is t with one more line at the end
pub record Pushed (t : Lines) (e : Listed) (u : Lines) : Type 0 where
  pub objects : u.objects.now ≡ slice_set t.objects.now t.len e.object
  pub holders : u.holders.now ≡ slice_set t.holders.now t.len e.holder
  pub stamps : u.stamps.now ≡ slice_set t.stamps.now t.len e.stamp
  pub censuses : u.censuses.now ≡ slice_set t.censuses.now t.len e.census
  pub len : u.len ≡ t.len + 1

-- u is t, where the line at place i has another stamp and another census
pub record Changed (t : Lines) (i s c : ℕ) (u : Lines) : Type 0 where
  pub objects : u.objects.now ≡ t.objects.now
  pub holders : u.holders.now ≡ t.holders.now
  pub stamps : u.stamps.now ≡ slice_set t.stamps.now i s
  pub censuses : u.censuses.now ≡ slice_set t.censuses.now i c
  pub len : u.len ≡ t.len

-- u is t, where the line at place i has another number
pub record Numbered (t : Lines) (i c : ℕ) (u : Lines) : Type 0 where
  pub objects : u.objects.now ≡ t.objects.now
  pub holders : u.holders.now ≡ t.holders.now
  pub stamps : u.stamps.now ≡ t.stamps.now
  pub censuses : u.censuses.now ≡ slice_set t.censuses.now i c
  pub len : u.len ≡ t.len

-- t may have this line at its end: there is room, and with it the list is one of this house
pub record Ready (t : Lines) (e : Listed) : Type 0 where
  pub room : t.len < t.room
  pub alone : Alone (slice_set t.objects.now t.len e.object) (slice_set t.holders.now t.len e.holder) (t.len + 1)
  pub own : Own t.home.0 (slice_set t.objects.now t.len e.object) (t.len + 1)
  pub far : Far t.home.0 t.houses (slice_set t.holders.now t.len e.holder) (t.len + 1)
