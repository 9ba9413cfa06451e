use Rattle.std.proofs.Common.{◌≡◌, ℕ, true, false, rules, vec_items, is_ok, IfOk, refl, sym, ap, subst, ◌∙◌, take}
use Rattle.std.proofs.lemmas.Bool.{or_left, false≢true}
use Rattle.wire.specs.Names.{house}
use Rattle.tables.specs.Shown.{numbers}
use Rattle.census.specs.Model.{calm, due_of, telling}
use Rattle.census.specs.Standings.{part_of}
use Rattle.rules.specs.House.{with_part}
use Rattle.rules.specs.Step.{used}
use Rattle.node.specs.Shown.{house_lent, is_listed}
use Rattle.node.proofs.Bytes.{in_use_of, listed_in_use}
use Rattle.node.proofs.Words.{tell_step}
use Rattle.node.proofs.Wants.{tell_listed}
use Rattle.node.proofs.head.Head.tell.Goals as goal

pub returns-in_default : goal.returns-in_default
returns-in_default c =
    let h = house_lent c.args.self c.args.tables.now in
    let all = in_use_of h c.census-census.result (take c.objects_in-count.result c.objects_in-count.new.into) c.census-census.ensures c.objects_in-count.ensures.after in
    record { step = (or_left (is_listed (used h)) (is_listed (due_of (used h) h.part)) (ap is_listed (sym all) ∙ c.in_default.ensures.asks), refl, refl); lent = search rules }

pub returns-in_default-due : goal.returns-in_default-due
returns-in_default-due c =
    let h = house_lent c.args.self c.args.tables.now in
    let p = part_of c.args.self.standing in
    let all = listed_in_use h c.census-census.result (take c.objects_in-count.result c.objects_in-count.new.into) (vec_items c.in-Ok.in_use) c.deref.result.now c.census-census.ensures c.objects_in-count.ensures.after c.in-Ok.ensures.names c.deref.ensures.value in
    let broke : is_ok c.tell-standing.result.1 ≡ false = ap is_ok c.in_default-due.is in
    let restless : calm (used h) p ≡ true → ⊥ = λ e. false≢true (sym broke ∙ c.tell-standing.ensures.quiet (ap (λ us. calm us p) all ∙ e)) in
    let same : part_of c.tell-standing.result.0 ≡ p = c.tell-standing.ensures.after ∙ rw broke in
    record { step = (tell_listed (used h) p restless, refl, ap (λ q. with_part q h) same); lent = search rules }

pub returns : goal.returns
returns c =
    let h = house_lent c.args.self c.args.tables.now in
    let p = part_of c.args.self.standing in
    let all = listed_in_use h c.census-census.result (take c.objects_in-count.result c.objects_in-count.new.into) (vec_items c.in-Ok.in_use) c.deref.result.now c.census-census.ensures c.objects_in-count.ensures.after c.in-Ok.ensures.names c.deref.ensures.value in
    let went : is_ok c.tell-standing.result.1 ≡ true = ap is_ok c.in-Ok-due.is in
    let due : numbers (vec_items c.in-Ok-due.names) ≡ due_of (numbers c.deref.result.now) p = subst (λ r. IfOk r (λ v. numbers (vec_items v) ≡ due_of (numbers c.deref.result.now) p)) c.in-Ok-due.is c.tell-standing.ensures.due in
    let told : part_of c.tell-standing.result.0 ≡ telling (numbers c.deref.result.now) p = c.tell-standing.ensures.after ∙ rw went in
    record {
      step = tell_step h c.census-census.result c.args.tables.now.list.now.home (numbers (vec_items c.in-Ok-due.names)) (part_of c.tell-standing.result.0)
          (ap (λ (k : ℕ). record { 0 = k }) c.census-census.ensures) (ap house c.args.tables.now.tied.home) (due ∙ ap (λ us. due_of us p) all) (told ∙ ap (λ us. telling us p) all);
      lent = search rules;
    }
