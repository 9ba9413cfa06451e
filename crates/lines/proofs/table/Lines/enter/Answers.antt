use Rattle.std.proofs.Common.{sym, refl, subst, rules}
use Rattle.std.proofs.lemmas.Bool.{false≢true}
use Rattle.lines.specs.Laws.{Outlives}
use Rattle.lines.specs.Lists.{lines}
use Rattle.lines.proofs.Entering.{enter_full, enter_new, enter_found, enter_ready, entered_new, entered_old}
use Rattle.lines.proofs.Laws.{outlives}
use Rattle.lines.proofs.table.Lines.enter.Goals as goal

pub returns-then-self : goal.returns-then-self
returns-then-self c = record {
  value = enter_full c.args.self.now c.args.object.0 c.args.holder.0 c.if-not-takes.ensures c.in_default.ensures.place c.if-self.true;
  after = refl;
  outlives = λ q. absurd (false≢true q);
  lent = search rules;
}

pub push-requires : goal.push-requires
push-requires c = enter_ready c.args.self.now c.args.object.0 c.args.holder.0 c.if-not-takes.ensures c.args.stamp.0 c.args.census.0 c.in_default.ensures.place c.if-self.false

pub returns-in_default : goal.returns-in_default
returns-in_default c =
    let t = c.args.self.now in
    let o = c.args.object.0 in
    let j = c.args.holder.0 in
    let s = c.args.stamp.0 in
    let n = c.args.census.0 in
    let e = entered_new t o j s n c.push.new.self c.in_default.ensures.place c.push.ensures.pushed c.if-self.false in
    record {
      value = enter_new t o j c.if-not-takes.ensures c.if-self.false;
      after = e;
      outlives = λ _. subst (λ es. Outlives o j s n es) (sym e) (outlives o j s n (lines t));
      lent = c.push.ensures.lent;
    }

pub returns : goal.returns
returns c =
    let t = c.args.self.now in
    let o = c.args.object.0 in
    let j = c.args.holder.0 in
    let s = c.args.stamp.0 in
    let n = c.args.census.0 in
    let e = entered_old t o j s n c.change.new.self c.in-Some.at c.in-Some.ensures.place c.in-Some.ensures.within c.change.ensures.changed in
    record {
      value = enter_found t o j c.if-not-takes.ensures c.in-Some.at c.in-Some.ensures.place;
      after = e;
      outlives = λ _. subst (λ es. Outlives o j s n es) (sym e) (outlives o j s n (lines t));
      lent = c.change.ensures.lent;
    }
