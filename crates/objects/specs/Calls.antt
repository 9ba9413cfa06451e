-- What each call answers, and what it leaves.
use Rattle.std.specs.Prelude.{◌≡◌, ℕ, ◌+◌, ◌*◌, Bool, true, false, cond, not, ◌&&◌, ◌||◌, List, [], ◌∷◌, ◌++◌, length, is_ok, Ok, Err, vec_items, Result, ◌==◌, nat_le, nat_lt}
use Rattle.wire.specs.declared.names.Name.{Name}
use Rattle.wire.specs.declared.refusal.Refusal.{Refusal}
use Rattle.wire.specs.declared.refusal.Refusal.TheVariants.{Malformed, NotRoot, NoField, NoRoom, OutOfNumbers}
use Rattle.wire.specs.Names.{well_formed, name}
use Rattle.objects.specs.declared.store.Objects.{Objects}
use Rattle.objects.specs.declared.fault.Fault.{Fault}
use Rattle.objects.specs.declared.fault.Fault.TheVariants.{Refused, NoMemory}
use Rattle.tables.specs.Model.{Heap, Object, is_in, present, fields_of, changed, without, without_first, added, names, below, bare}
use Rattle.tables.specs.Shown.{objects_of, numbers}

-- the tables as lists
abbrev pub heap_of : Objects → Heap
heap_of t = record { home = t.home.0; houses = t.houses; made = t.made; objects = objects_of (vec_items t.objects); roots = numbers (vec_items t.roots) }

abbrev pub with_objects : List Object → Heap → Heap
with_objects xs h = record { home = h.home; houses = h.houses; made = h.made; objects = xs; roots = h.roots }

abbrev pub with_roots : List ℕ → Heap → Heap
with_roots os h = record { home = h.home; houses = h.houses; made = h.made; objects = h.objects; roots = os }

-- a call's answer where it has nothing to hand back
abbrev pub Answer : Type 0
Answer = Result (Unit {0}) Refusal

-- a refusal, or what the rest of the rule says: so the lowest number is given
abbrev pub refuse_if : {X : Type 0} → Bool → Refusal → Result X Refusal → Result X Refusal
refuse_if test e rest = cond test (Err e) rest

-- a refusal changes nothing
abbrev pub unless_refused : {X : Type 0} → Result X Refusal → Heap → Heap → Heap
unless_refused r new old = cond (is_ok r) new old

abbrev pub malformed : ℕ → Heap → Bool
malformed o h = not (well_formed h.houses (name o))

-- a root that lives here
abbrev pub held : ℕ → Heap → Bool
held o h = is_in o h.roots && present o h.objects

-- the place of o, which must be a root that lives here, where p can be a name too
abbrev pub held_answer : ℕ → ℕ → Heap → Result ℕ Refusal
held_answer o p h = refuse_if (malformed o h || malformed p h) Malformed (refuse_if (not (held o h)) NotRoot (Ok (below o (names h.objects))))

-- there is room for one more root
abbrev pub roomy : Heap → Bool
roomy h = nat_lt (length h.roots) 256

-- a name as a root, where it is one or there is room
abbrev pub root_answer : ℕ → Heap → Answer
root_answer o h = refuse_if (not (is_in o h.roots || roomy h)) NoRoom (Ok tt)

abbrev pub rooted : ℕ → Heap → Heap
rooted o h = with_roots (added o h.roots) h

-- make: an object without fields, which is a root
abbrev pub make_answer : ℕ → Heap → Result Name Refusal
make_answer k h =
    refuse_if (k == 0) Malformed (
    refuse_if (not (nat_lt (length h.objects) 1024 && roomy h)) NoRoom (
    refuse_if (nat_le k h.made || nat_lt 4294967295 (k * 16 + h.home)) OutOfNumbers (
    Ok (name (k * 16 + h.home)))))

abbrev pub made_new : ℕ → Heap → Heap
made_new k h = record { home = h.home; houses = h.houses; made = k; objects = h.objects ++ bare (k * 16 + h.home) ∷ []; roots = added (k * 16 + h.home) h.roots }

abbrev pub after_make : ℕ → Heap → Heap
after_make k h = unless_refused (make_answer k h) (made_new k h) h

-- link: p at the end of the fields of o
abbrev pub link_answer : ℕ → ℕ → Heap → Answer
link_answer o p h =
    refuse_if (malformed o h || malformed p h) Malformed (
    refuse_if (not (held o h && is_in p h.roots)) NotRoot (
    refuse_if (nat_le 8 (length (fields_of o h.objects))) NoRoom (
    Ok tt)))

abbrev pub linked_to : ℕ → ℕ → Heap → Heap
linked_to o p h = with_objects (changed o (fields_of o h.objects ++ p ∷ []) h.objects) h

abbrev pub after_link : ℕ → ℕ → Heap → Heap
after_link o p h = unless_refused (link_answer o p h) (linked_to o p h) h

-- unlink: the first field p of o goes
abbrev pub unlink_answer : ℕ → ℕ → Heap → Answer
unlink_answer o p h =
    refuse_if (malformed o h || malformed p h) Malformed (
    refuse_if (not (held o h)) NotRoot (
    refuse_if (not (is_in p (fields_of o h.objects))) NoField (
    Ok tt)))

abbrev pub unlinked_from : ℕ → ℕ → Heap → Heap
unlinked_from o p h = with_objects (changed o (without_first p (fields_of o h.objects)) h.objects) h

abbrev pub after_unlink : ℕ → ℕ → Heap → Heap
after_unlink o p h = unless_refused (unlink_answer o p h) (unlinked_from o p h) h

-- load: a field p of o is a root
abbrev pub load_answer : ℕ → ℕ → Heap → Answer
load_answer o p h =
    refuse_if (malformed o h || malformed p h) Malformed (
    refuse_if (not (held o h)) NotRoot (
    refuse_if (not (is_in p (fields_of o h.objects))) NoField (
    root_answer p h)))

abbrev pub after_load : ℕ → ℕ → Heap → Heap
after_load o p h = unless_refused (load_answer o p h) (rooted p h) h

-- drop: o is a root no longer
abbrev pub drop_answer : ℕ → Heap → Answer
drop_answer o h = refuse_if (malformed o h) Malformed (refuse_if (not (is_in o h.roots)) NotRoot (Ok tt))

abbrev pub unrooted : ℕ → Heap → Heap
unrooted o h = with_roots (without o h.roots) h

abbrev pub after_drop : ℕ → Heap → Heap
after_drop o h = unless_refused (drop_answer o h) (unrooted o h) h

-- a name that came is made a root
abbrev pub keep_answer : ℕ → Heap → Answer
keep_answer o h = refuse_if (malformed o h) Malformed (root_answer o h)

abbrev pub after_keep : ℕ → Heap → Heap
after_keep o h = unless_refused (keep_answer o h) (rooted o h) h

-- a name that was handed over is made a root, if there is room for one more
abbrev pub take_answer : ℕ → Heap → Answer
take_answer o h = refuse_if (malformed o h) Malformed (refuse_if (not (roomy h)) NoRoom (Ok tt))

abbrev pub after_take : ℕ → Heap → Heap
after_take o h = unless_refused (take_answer o h) (rooted o h) h

-- a house's tables at first
abbrev pub new_heap : ℕ → ℕ → Heap
new_heap home houses = record { home = home; houses = houses; made = 0; objects = []; roots = [] }

abbrev pub bad_house : ℕ → ℕ → Bool
bad_house home houses = nat_lt 16 houses || nat_le houses home

-- why there are none: a house that is none of at most sixteen, or else want of memory
abbrev pub Unmade : ℕ → ℕ → Fault → Type 0
Unmade home houses (Refused e) = (e ≡ Malformed) × (bad_house home houses ≡ true)
Unmade home houses NoMemory = bad_house home houses ≡ false
