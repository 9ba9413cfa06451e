use Rattle.std.proofs.Common.{◌≡◌, ℕ, ◌<◌, true, nat_eq, List, length, get_or, sym, ap, ◌∙◌, ⊎_elim, arith}
use Rattle.std.proofs.lemmas.Bool.{eqb-true, eqb-false, ltb-false, cases_Bool}
use Rattle.std.proofs.lemmas.List.{length-map}
use Rattle.tables.specs.Model.{rising, is_in, below}
use Rattle.tables.proofs.Places.{is_in_at, is_in_none, read_map}
use Rattle.census.specs.Shown.{name_in, names_in}
use Rattle.census.proofs.Tabled.{names_told}
use Rattle.census.proofs.tellings.Tellings.stands.Goals as goal

-- what stands in the place of o decides
decides : (o at n : ℕ) (ns : List ℕ) → at ≡ below o ns → rising ns ≡ true → at < length ns → get_or ns at 0 ≡ n → nat_eq n o ≡ is_in o ns
decides o at n ns e r l g =
    ⊎_elim
    (λ t. t ∙ sym (is_in_at o ns at l (g ∙ eqb-true n o t)))
    (λ f. f ∙ sym (is_in_none o ns r (λ k h. eqb-false n o f (sym g ∙ ap (λ i. get_or ns i 0) e ∙ h))))
    (cases_Bool (nat_eq n o))

pub returns-in-Some : goal.returns-in-Some
returns-in-Some c =
    let o = c.args.o.0 in
    let xs = c.deref.result.now in
    let ts = c.args.self.now.entries.items in
    let same : xs ≡ ts = c.deref.ensures.value in
    let at : c.args.at ≡ below o (names_in xs) = c.requires ∙ ap (λ ys. below o (names_in ys)) (sym same) in
    let rises : rising (names_in xs) ≡ true = ap (λ ys. rising (names_in ys)) same ∙ c.args.self.now.ordered in
    let found = c.in-Some.ensures.lookup in
    let here = read_map name_in xs c.args.at c.in-Some.told.now found.3.0 found.1 in
    c.eq.ensures ∙ decides o c.args.at c.in-Some.told.now.object.0 (names_in xs) at rises (omega (arith, length-map xs name_in, found.3.0)) here
    ∙ ap (λ ys. is_in o (names_in ys)) same ∙ ap (is_in o) (sym (names_told ts))

pub returns-in-None : goal.returns-in-None
returns-in-None c =
    let o = c.args.o.0 in
    let xs = c.deref.result.now in
    let ts = c.args.self.now.entries.items in
    let same : xs ≡ ts = c.deref.ensures.value in
    let at : c.args.at ≡ below o (names_in xs) = c.requires ∙ ap (λ ys. below o (names_in ys)) (sym same) in
    let rises : rising (names_in xs) ≡ true = ap (λ ys. rising (names_in ys)) same ∙ c.args.self.now.ordered in
    let past = ltb-false c.args.at (length xs) (sym c.in-None.ensures.lookup.0) in
    sym (is_in_none o (names_in xs) rises (λ l h. absurd (omega (arith, l, at, past, length-map xs name_in))))
    ∙ ap (λ ys. is_in o (names_in ys)) same ∙ ap (is_in o) (sym (names_told ts))
