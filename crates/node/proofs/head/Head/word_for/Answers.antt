use Rattle.std.proofs.Common.{rules, ◌≡◌, true, false, eqb, leb, length, vec_items, OnErr, sym, refl, ap, ◌∙◌, subst}
use Rattle.std.proofs.lemmas.List.{length-map}
use Rattle.wire.specs.Names.{house}
use Rattle.tables.specs.Shown.{number, numbers}
use Rattle.objects.specs.Calls.{heap_of}
use Rattle.objects.specs.Executed.{references_of}
use Rattle.objects.proofs.Reached.{refers}
use Rattle.tables.specs.Met.{Refers}
use Rattle.node.specs.Shown.{Answer, Gives, house_of, is_listed}
use Rattle.rules.specs.Step.{worded, bytes_of}
use Rattle.node.proofs.Wants.{wants_listed, no_memory}
use Rattle.node.proofs.Words.{word_step, word_ok}
use Rattle.node.proofs.head.Head.word_for.Goals as goal

pub returns : goal.returns
returns c =
    let t = heap_of c.args.objects.now in
    let j = c.args.to.0 in
    let there : leb t.houses j ≡ false = search rules in
    let other : eqb j t.home ≡ false = search rules in
    let refs : numbers (vec_items c.in_ok-names.names) ≡ references_of j t = sym (c.in_ok-names.ensures.sole (references_of j t) (refers t j)) in
    let bytes : vec_items c.in_ok-bytes.bytes ≡ bytes_of (references_of j t) = c.in_ok-bytes.ensures.bytes ∙ ap (λ ns. bytes_of (numbers ns)) c.deref.ensures.value ∙ ap bytes_of refs in
    let long = c.in_ok-names.names.ok.0 in
    let count : c.len-count.result ≡ length (references_of j t) = c.len-count.ensures ∙ long ∙ sym (length-map (vec_items c.in_ok-names.names) number) ∙ ap length refs in
    λ ls.
    word_step (house_of c.args.self.now c.args.objects.now ls) j c.home-from.result c.args.to c.seen_from.result c.len-count.result (vec_items c.in_ok-bytes.bytes) there other (ap house c.home-from.ensures) refl c.seen_from.ensures count bytes

pub returns-in_err-names : goal.returns-in_err-names
returns-in_err-names c = λ ls.
    let t = heap_of c.args.objects.now in
    let j = c.args.to.0 in
    let h = house_of c.args.self.now c.args.objects.now ls in
    let there : leb t.houses j ≡ false = search rules in
    let other : eqb j t.home ≡ false = search rules in
    let listed : is_listed (references_of j t) ≡ true = subst (λ r. OnErr r (is_listed (references_of j t) ≡ true)) c.in_err-names.was (wants_listed c.references_of.result (references_of j t) (Refers t j) (refers t j) c.references_of.ensures.none) in
    subst (λ (a : Answer). Gives (is_listed (references_of j t)) a (worded j h) h h) (sym (no_memory c.from_residual.result c.from_residual.ensures.1)) (listed, word_ok h j there other, refl)

pub returns-in_err-bytes : goal.returns-in_err-bytes
returns-in_err-bytes c = λ ls.
    let t = heap_of c.args.objects.now in
    let j = c.args.to.0 in
    let h = house_of c.args.self.now c.args.objects.now ls in
    let there : leb t.houses j ≡ false = search rules in
    let other : eqb j t.home ≡ false = search rules in
    let refs : numbers (vec_items c.in_ok-names.names) ≡ references_of j t = sym (c.in_ok-names.ensures.sole (references_of j t) (refers t j)) in
    let listed : is_listed (references_of j t) ≡ true = ap is_listed (sym (ap numbers c.deref.ensures.value ∙ refs)) ∙ c.in_err-bytes.ensures.asks in
    subst (λ (a : Answer). Gives (is_listed (references_of j t)) a (worded j h) h h) (sym (no_memory c.from_residual-in_err-bytes.result c.from_residual-in_err-bytes.ensures.1)) (listed, word_ok h j there other, refl)
