use Rattle.std.proofs.Common.{◌≡◌, ℕ, ◌<◌, true, length, arith, Some, None, List, get_or, set, sym, ap, ◌∙◌, subst}
use Rattle.tables.specs.Model.{rising, is_in, place_of}
use Rattle.tables.proofs.Places.{place_facts, place_missing}
use Rattle.std.proofs.lemmas.List.{length-map}
use Rattle.census.specs.declared.telling.Telling.TheVariants.{Answered}
use Rattle.census.specs.declared.telling.Told.{Told}
use Rattle.census.specs.Model.{names, settled}
use Rattle.census.specs.Shown.{told_of, name_in, names_in}
use Rattle.census.proofs.Settling.{names_settled, settled_out}
use Rattle.census.proofs.Tabled.{names_told, table_settled}
use Rattle.tables.proofs.Places.{read_map}
use Rattle.census.proofs.tellings.Tellings.settle.Goals as goal

abbrev done_at : List Told → ℕ → Told → List Told
done_at ts at t = set ts at (record { object = t.object; state = Answered })

module _ (o at : ℕ) (ts read : List Told) (t : Told) (r : rising (names_in ts) ≡ true) (a : read ≡ ts) (e : Some at ≡ place_of o (names_in read)) (g : t ≡ get_or ts at t) where
  written : told_of (done_at ts at t) ≡ settled o (told_of ts)
  written =
      let f = place_facts o (names_in ts) at r (subst (λ xs. Some at ≡ place_of o (names_in xs)) a e) in
      let h : at < length ts = omega (arith, f.1, length-map ts name_in) in
      let n : t.object.0 ≡ o = sym (read_map name_in ts at t h g) ∙ f.2 in
      table_settled o at ts _ r f.1 f.2 (ap (λ k. record { name = k; answered = true }) n)

  still_rises : rising (names_in (done_at ts at t)) ≡ true
  still_rises = ap rising (sym (names_told (done_at ts at t)) ∙ ap names written ∙ names_settled o (told_of ts) ∙ names_told ts) ∙ r

pub returns-in-Some : goal.returns-in-Some
returns-in-Some c =
    written c.args.o.0 c.in-Some.at c.args.self.now.entries.items _ c.index_mut.result.now c.args.self.now.ordered c.deref.ensures.value c.in-Some.ensures.value c.index_mut.ensures.value

pub invariant_of-self : goal.invariant_of-self
invariant_of-self c =
    record { ordered = still_rises c.args.o.0 c.in-Some.at c.args.self.now.entries.items _ c.index_mut.result.now c.args.self.now.ordered c.deref.ensures.value c.in-Some.ensures.value c.index_mut.ensures.value }

pub returns-in_default : goal.returns-in_default
returns-in_default c =
    let ts = c.args.self.now.entries.items in
    let o = c.args.o.0 in
    let f : None ≡ place_of o (names_in ts) = subst (λ xs. None ≡ place_of o (names_in xs)) c.deref.ensures.value c.in_default.ensures.value in
    sym (settled_out o (told_of ts) (ap (is_in o) (names_told ts) ∙ place_missing o (names_in ts) f))
