use Rattle.std.proofs.Common.{◌≡◌, ℕ, ◌+◌, ◌<◌, ◌≤◌, Bool, true, false, cond, List, [], ◌∷◌, length, is_ok, vec_len, vec_capacity, sym, refl, ap, ◌∙◌, subst, arith}
use Rattle.std.specs.List.{insert}
use Rattle.std.proofs.lemmas.Bool.{cond-true}
use Rattle.std.proofs.lemmas.List.{length-map}
use Rattle.tables.specs.Model.{rising, is_in, below}
use Rattle.tables.proofs.Places.{below_within}
use Rattle.wire.specs.declared.names.Name.{Name}
use Rattle.census.specs.declared.telling.Telling.TheVariants.{Awaited}
use Rattle.census.specs.declared.telling.Told.{Told}
use Rattle.census.specs.Model.{names, untold, entered}
use Rattle.census.specs.Shown.{told_of, name_in, names_in}
use Rattle.census.proofs.Entering.{entered_in, untold_one, rising_entered}
use Rattle.census.proofs.Tabled.{names_told, table_entered}
use Rattle.census.proofs.tellings.Tellings.enter.Goals as goal

pub returns-then-stands-clause-after : goal.returns-then-stands-clause-after
returns-then-stands-clause-after c =
    let ts = c.args.self.now.entries.items in
    sym (entered_in c.args.o.0 (told_of ts) (ap rising (names_told ts) ∙ c.args.self.now.ordered) (sym c.if-stands.ensures))

pub insert-requires : goal.insert-requires
insert-requires c =
    let ts = c.args.self.now.entries.items in
    let b = below_within c.args.o.0 (names_in ts) in
    let k : c.place-at.result ≡ below c.args.o.0 (names_in ts) = subst (λ xs. c.place-at.result ≡ below c.args.o.0 (names_in xs)) c.deref.ensures.value c.place-at.ensures in
    omega (arith, k, b, length-map ts name_in, c.deref.ensures.len, ap length c.deref.ensures.value)

abbrev new : Name → Told
new o = record { object = o; state = Awaited }

-- where there is room
fits : (o len cap : ℕ) (ts : List Told) → false ≡ is_in o (names (told_of ts)) → len + length (untold (o ∷ []) (told_of ts)) ≤ cap → len < cap
fits o len cap ts out h = omega (arith, untold_one o (told_of ts) (sym out))

module _ (o : Name) (at : ℕ) (ts read : List Told) (out : false ≡ is_in o.0 (names (told_of ts))) (same : read ≡ ts) (place : at ≡ below o.0 (names_in read)) where
  put : (b : Bool) (xs : List Told) → b ≡ true → xs ≡ cond b (insert ts at (new o)) ts → told_of xs ≡ entered o.0 (told_of ts)
  put b xs t e = ap told_of (e ∙ cond-true b _ _ t) ∙ table_entered o.0 at ts (new o) refl (sym out) (place ∙ ap (λ ys. below o.0 (names_in ys)) same)

  put_rises : (b : Bool) (xs : List Told) → b ≡ true → xs ≡ cond b (insert ts at (new o)) ts → rising (names_in ts) ≡ true → rising (names_in xs) ≡ true
  put_rises b xs t e r = ap rising (sym (names_told xs) ∙ ap names (put b xs t e)) ∙ rising_entered o.0 (told_of ts) (ap rising (names_told ts) ∙ r)

pub invariant_of-self : goal.invariant_of-self
invariant_of-self c =
    let v = c.args.self.now.entries in
    let room = fits c.args.o.0 (vec_len v) (vec_capacity v) v.items c.if-stands.ensures c.requires in
    let rises = put_rises c.args.o c.place-at.result v.items c.deref.result.now c.if-stands.ensures c.deref.ensures.value c.place-at.ensures in
    record { ordered = rises (is_ok c.insert.result) c.insert.new.self.items (c.insert.ensures.succeeds room) c.insert.ensures.items c.args.self.now.ordered }

pub returns-clause-after : goal.returns-clause-after
returns-clause-after c =
    let v = c.args.self.now.entries in
    let room = fits c.args.o.0 (vec_len v) (vec_capacity v) v.items c.if-stands.ensures c.requires in
    put c.args.o c.place-at.result v.items c.deref.result.now c.if-stands.ensures c.deref.ensures.value c.place-at.ensures (is_ok c.insert.result) c.insert.new.self.items (c.insert.ensures.succeeds room) c.insert.ensures.items
