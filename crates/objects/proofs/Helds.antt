-- An object that is a root here, and what a call leaves.
use Rattle.std.proofs.Common.{◌≡◌, ℕ, ◌<◌, Bool, true, false, not, ◌||◌, ltb, List, length, get_or, set, cond, ◌&&◌, Some, None, Option, Ok, Err, vec_items, vec_len, Result, sym, refl, ap, ◌∙◌, subst, arith}
use Rattle.std.proofs.lemmas.List.{length-map, get_or-map}
use Rattle.tables.specs.declared.object.Object.{Object}
use Rattle.tables.specs.Model as model
use Rattle.tables.specs.Model.{rising, names, below, changed, fields_of, is_in, present, with_fields, all_well, fields_well, Heap}
use Rattle.objects.specs.declared.store.Objects.{Objects}
use Rattle.objects.specs.Calls.{heap_of, roomy, malformed, held, held_answer, refuse_if, unless_refused}
use Rattle.wire.specs.declared.refusal.Refusal.{Refusal}
use Rattle.wire.specs.declared.refusal.Refusal.TheVariants.{Malformed, NotRoot}
use Rattle.std.proofs.lemmas.Bool.{and_parts, both_ways}
use Rattle.std.specs.Option.{ok_or}
use Rattle.tables.specs.Shown.{number, object_of, objects_of, names_in, name_in}
use Rattle.tables.proofs.Table.{fields_at, names_set, put_changed}
use Rattle.tables.proofs.Places.{names_in_place, get_d_below, read_map}
use Rattle.tables.proofs.Well.{changed_well}

pub roomy_len : (s : Objects) → ltb (vec_len s.roots) 256 ≡ roomy (heap_of s)
roomy_len s = ap (λ n. ltb n 256) (s.roots.ok.0 ∙ sym (length-map (vec_items s.roots) number))

-- what is known of an object that is a root here, and of a name beside it
pub record Held (s : Objects) (o p at : ℕ) : Type 0 where
  pub named : (malformed o (heap_of s) || malformed p (heap_of s)) ≡ false
  pub held : held o (heap_of s) ≡ true
  pub within : at < length (vec_items s.objects)
  pub called : get_or (names_in (vec_items s.objects)) at 0 ≡ o

held_parts : (a b : Bool) (at i : ℕ) → Ok at ≡ refuse_if a Malformed (refuse_if (not b) NotRoot (Ok i)) → (a ≡ false) × (b ≡ true) × (at ≡ i)
held_parts true b at i e = absurd (let z : ◌≡◌ {A = ℕ} 0 1 = cc in omega arith)
held_parts false true at i e = (refl, refl, cc)
held_parts false false at i e = absurd (let z : ◌≡◌ {A = ℕ} 0 1 = cc in omega arith)

pub held_found : (a r i : Bool) (k : ℕ) → a ≡ false → r ≡ true → ok_or (cond i (Some k) None) NotRoot ≡ refuse_if a Malformed (refuse_if (not (r && i)) NotRoot (Ok k))
held_found true r i k e f = absurd (both_ways true e refl)
held_found false false i k e f = absurd (both_ways false refl f)
held_found false true true k e f = refl
held_found false true false k e f = refl

pub missed : {X : Type 0} (q : Option X) (d e : Refusal) → Err e ≡ ok_or q d → (None ≡ q) × (e ≡ d)
missed None d e r = (refl, cc)
missed (Some x) d e r = absurd (let z : ◌≡◌ {A = ℕ} 0 1 = cc in omega arith)

pub hit : {X : Type 0} (q : Option X) (d : Refusal) (x : X) → Ok x ≡ ok_or q d → Some x ≡ q
hit None d x r = absurd (let z : ◌≡◌ {A = ℕ} 0 1 = cc in omega arith)
hit (Some y) d x r = cc

pub held_facts : (s : Objects) (o p at : ℕ) → Ok at ≡ held_answer o p (heap_of s) → Held s o p at
held_facts s o p at e =
    let xs = vec_items s.objects in
    let h = heap_of s in
    let ns = names (objects_of xs) in
    let f = held_parts (malformed o h || malformed p h) (held o h) at (below o ns) e in
    let q = get_d_below o ns (ap rising (names_in_place xs) ∙ s.ordered) (and_parts (is_in o h.roots) (present o h.objects) f.1).1 in
    record {
      named = f.0;
      held = f.1;
      within = omega (arith, f.2, q.0, length-map (objects_of xs) model.name_of, length-map xs object_of);
      called = ap (λ ns. get_or ns at 0) (sym (names_in_place xs)) ∙ ap (λ k. get_or ns k 0) f.2 ∙ q.1;
    }

pub held_name : (s : Objects) (o p at : ℕ) → Held s o p at → (x : Object) → x ≡ get_or (vec_items s.objects) at x → name_in x ≡ o
held_name s o p at h x e = sym (read_map name_in (vec_items s.objects) at x h.within e) ∙ h.called

pub held_fields : (s : Objects) (o p at : ℕ) → Held s o p at → (x : Object) → x ≡ get_or (vec_items s.objects) at x → fields_of o (heap_of s).objects ≡ (object_of x).fields
held_fields s o p at h x e =
    let xs = vec_items s.objects in
    fields_at o (objects_of xs) at (object_of x) (ap rising (names_in_place xs) ∙ s.ordered) (omega (arith, h.within, length-map xs object_of)) (ap (λ ns. get_or ns at 0) (names_in_place xs) ∙ h.called)
    ∙ ap (λ y. y.fields) (get_or-map object_of xs at x (object_of x) h.within ∙ ap object_of (sym e))

-- what is not refused is done
pub accepted : {X : Type 0} (r : Result X Refusal) (x : X) (new old : Heap) → Ok x ≡ r → new ≡ unless_refused r new old
accepted r x new old e = subst (λ q. new ≡ unless_refused q new old) e refl

pub refused_so : {X : Type 0} (r : Result X Refusal) (d : Refusal) (new old : Heap) → Err d ≡ r → old ≡ unless_refused r new old
refused_so r d new old e = subst (λ q. old ≡ unless_refused q new old) e refl

-- another object in the place of one that is a root here: one of its name, with other fields
module _ (s : Objects) (o p at : ℕ) (h : Held s o p at) (x y : Object) (fs : List ℕ) (here : x ≡ get_or (vec_items s.objects) at x) (new : object_of y ≡ with_fields (object_of x) fs) where
  same_name : get_or (names_in (vec_items s.objects)) at 0 ≡ name_in y
  same_name = h.called ∙ sym (held_name s o p at h x here) ∙ ap (λ z. z.name) (sym new)

  pub set_names : names_in (set (vec_items s.objects) at y) ≡ names_in (vec_items s.objects)
  set_names = names_set (vec_items s.objects) at y same_name

  pub set_objects : objects_of (set (vec_items s.objects) at y) ≡ changed o fs (heap_of s).objects
  set_objects =
      put_changed (vec_items s.objects) at y s.ordered h.within same_name
      ∙ ap (λ z. changed z.name z.fields (heap_of s).objects) new
      ∙ ap (λ n. changed n fs (heap_of s).objects) (held_name s o p at h x here)

  pub set_well : all_well s.houses fs ≡ true → fields_well s.houses (objects_of (set (vec_items s.objects) at y)) ≡ true
  set_well w = ap (fields_well s.houses) set_objects ∙ changed_well s.houses o fs (heap_of s).objects w s.well_fields
