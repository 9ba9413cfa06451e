use Rattle.std.proofs.Common.{◌≡◌, Bool, true, false, ◌&&◌, List, ℕ, ◌++◌, map, vec_items, sym, refl, ap, ◌∙◌, rules}
use Rattle.std.specs.List.{list_all}
use Rattle.tables.specs.Gathered.{all_there}
use Rattle.tables.specs.Marks.{Marked, kept_by}
use Rattle.tables.specs.Met.{everywhere}
use Rattle.tables.specs.Model.{is_in}
use Rattle.tables.specs.Shown.{numbers, objects_of}
use Rattle.tables.specs.declared.which.Which.TheVariants.{NotOf}
use Rattle.objects.specs.Calls.{heap_of}
use Rattle.objects.specs.Executed.{names_in_use}
use Rattle.objects.specs.declared.store.Objects.{Objects}
use Rattle.objects.proofs.Reached.{ordered}
use Rattle.objects.proofs.Sought.{far_stand}
use Rattle.objects.proofs.store.Objects.uses_only.Goals as goal

-- what is asked, by its three parts
parts : (s : Objects) (from ts : List ℕ) (ms : List Bool) → Marked (vec_items s.objects) ((heap_of s).roots ++ from) ms → (a b d : Bool) → a ≡ all_there (NotOf s.home) ts (heap_of s).roots → b ≡ all_there (NotOf s.home) ts from → d ≡ all_there (NotOf s.home) ts (everywhere (kept_by ms (heap_of s).objects)) →
    (a && (b && d)) ≡ list_all (λ o. is_in o ts) (names_in_use from (heap_of s))
parts s from ts ms marked a b d ea eb ed =
    ap (λ x. x && (b && d)) ea ∙ ap (λ x. all_there (NotOf s.home) ts (heap_of s).roots && (x && d)) eb ∙ ap (λ x. all_there (NotOf s.home) ts (heap_of s).roots && (all_there (NotOf s.home) ts from && x)) ed
    ∙ sym (far_stand (heap_of s) s.home (vec_items s.objects) from ts ms refl refl s.ordered (ordered s) marked)

pub returns-then-not-all_stand : goal.returns-then-not-all_stand
returns-then-not-all_stand g c =
    let s = c.args.self.now in
    let ts = map g.X.Named.called c.args.table.now in
    let from = numbers c.args.from.now in
    let no : c.all_stand.result ≡ false = search rules in
    let e : false ≡ all_there (NotOf s.home) ts (heap_of s).roots = sym no ∙ c.all_stand.ensures ∙ ap (λ rs. all_there (NotOf s.home) ts (numbers rs)) c.deref.ensures.value in
    parts s from ts c.met-marks.result c.met-marks.ensures false _ _ e refl refl

pub returns-then-not-all_stand-2 : goal.returns-then-not-all_stand-2
returns-then-not-all_stand-2 g c =
    let s = c.args.self.now in
    let ts = map g.X.Named.called c.args.table.now in
    let from = numbers c.args.from.now in
    let yes : c.all_stand.result ≡ true = search rules in
    let no : c.all_stand-2.result ≡ false = search rules in
    let e : true ≡ all_there (NotOf s.home) ts (heap_of s).roots = sym yes ∙ c.all_stand.ensures ∙ ap (λ rs. all_there (NotOf s.home) ts (numbers rs)) c.deref.ensures.value in
    parts s from ts c.met-marks.result c.met-marks.ensures true false _ e (sym no ∙ c.all_stand-2.ensures) refl

pub returns : goal.returns
returns g c =
    let s = c.args.self.now in
    let ts = map g.X.Named.called c.args.table.now in
    let from = numbers c.args.from.now in
    let yes : c.all_stand.result ≡ true = search rules in
    let yes2 : c.all_stand-2.result ≡ true = search rules in
    let e : true ≡ all_there (NotOf s.home) ts (heap_of s).roots = sym yes ∙ c.all_stand.ensures ∙ ap (λ rs. all_there (NotOf s.home) ts (numbers rs)) c.deref.ensures.value in
    parts s from ts c.met-marks.result c.met-marks.ensures true true c.all_fields_stand.result e (sym yes2 ∙ c.all_stand-2.ensures) (c.all_fields_stand.ensures ∙ ap (λ xs. all_there (NotOf s.home) ts (everywhere (kept_by c.met-marks.result (objects_of xs)))) c.deref-2.ensures.value)
