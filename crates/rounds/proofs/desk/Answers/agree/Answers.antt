use Rattle.std.proofs.Common.{◌∙◌, refl, rules, tests, arith}
use Rattle.std.proofs.lemmas.Iterator.{YieldsList-from_range}
use Rattle.std.proofs.lemmas.Iterator.Search.{all_from_yields_List}
use Rattle.rounds.specs.Model.{slot_of, agrees, all_agree}
use Rattle.rounds.specs.Shown.{slots_of}
use Rattle.rounds.proofs.Laws.{all_below}
use Rattle.rounds.proofs.desk.Answers.agree.Goals as goal

pub returns : goal.returns
returns c =
    let xs = slots_of c.args.self.now in
    let ys = slots_of c.args.before.now in
    all_from_yields_List (λ i. agrees (slot_of i xs) (slot_of i ys)) _ _ _ c.all.ensures.ran (YieldsList-from_range 0 c.args.houses c.args.houses refl (omega arith)) (λ x b q k. search (rules, tests))
    ∙ all_below _ (λ n. all_agree n xs ys) refl (λ n. refl) c.args.houses
