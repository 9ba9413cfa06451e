use Rattle.std.proofs.Common.{◌<◌, true, length, set, sym, ◌∙◌, arith}
use Rattle.std.proofs.lemmas.List.{length-map}
use Rattle.std.proofs.lemmas.Bool.{lt-ltb}
use Rattle.tables.specs.Marks.{count}
use Rattle.tables.specs.Shown.{names_in, name_in}
use Rattle.tables.proofs.Places.{place_facts, place_missing}
use Rattle.tables.proofs.Noted.{noted_out, noted_at, set_same, count_set}
use Rattle.tables.proofs.marking.Marking.note.Goals as goal

pub returns-in_default-clause-after : goal.returns-in_default-clause-after
returns-in_default-clause-after c =
    let s = c.args.self.now in
    let ns = names_in s.objects.now in
    sym (noted_out c.args.p.0 ns s.marks.now (place_missing c.args.p.0 ns c.in_default.ensures.value))

pub returns-then-self-at-clause-after : goal.returns-then-self-at-clause-after
returns-then-self-at-clause-after c =
    let s = c.args.self.now in
    let ns = names_in s.objects.now in
    let ms = s.marks.now in
    let at = c.in-Some.at in
    let f = place_facts c.args.p.0 ns at s.ordered c.in-Some.ensures.value in
    sym (set_same ms at c.if-self-at.true) ∙ noted_at c.args.p.0 ns ms at s.ordered f.1 (omega (arith, f.1, length-map s.objects.now name_in, s.room)) f.2

pub returns-clause-after : goal.returns-clause-after
returns-clause-after c =
    let s = c.args.self.now in
    let ns = names_in s.objects.now in
    let f = place_facts c.args.p.0 ns c.in-Some.at s.ordered c.in-Some.ensures.value in
    noted_at c.args.p.0 ns s.marks.now c.in-Some.at s.ordered f.1 (omega (arith, f.1, length-map s.objects.now name_in, s.room)) f.2

pub returns-clause-added : goal.returns-clause-added
returns-clause-added c =
    let s = c.args.self.now in
    let ms = s.marks.now in
    let at = c.in-Some.at in
    let f = place_facts c.args.p.0 (names_in s.objects.now) at s.ordered c.in-Some.ensures.value in
    let l : at < length ms = omega (arith, f.1, length-map s.objects.now name_in, s.room) in
    sym (lt-ltb (count ms) (count (set ms at true)) (omega (arith, count_set ms at l c.if-self-at.false)))
