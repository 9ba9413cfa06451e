-- A step keeps the house's objects tied to its list.
use Rattle.std.proofs.Common.{◌≡◌, Bool, Ok, Err, sym, ap, ◌∙◌}
use Rattle.lines.specs.declared.table.Lines.{Lines}
use Rattle.objects.specs.declared.fault.Fault.TheVariants.{Refused, NoMemory}
use Rattle.objects.specs.declared.store.Objects.{Objects}
use Rattle.rules.specs.House.{House}
use Rattle.rules.specs.Laws.{Fair}
use Rattle.rules.specs.Step.{Outcome, Event, step}
use Rattle.rules.proofs.Fairness.{always_fair}
use Rattle.node.specs.declared.head.Head.{Head}
use Rattle.node.specs.Tied.{Tied}
use Rattle.node.specs.Shown.{Answer, Gives, Steps, allocates, house_of}

-- the house afterwards is the same house
same_house : (b : Bool) (a : Answer) (h g : House) (x : Outcome) → Fair h x → Gives b a x h g → (g.heap.home ≡ h.heap.home) × (g.heap.houses ≡ h.heap.houses)
same_house b (Ok s) h g x f e = (sym (ap (λ y. y.house.heap.home) e) ∙ f.home, sym (ap (λ y. y.house.heap.houses) e) ∙ f.houses)
same_house b (Err (Refused r)) h g x f e = (sym (ap (λ y. y.house.heap.home) e) ∙ f.home, sym (ap (λ y. y.house.heap.houses) e) ∙ f.houses)
same_house b (Err NoMemory) h g x f e = (ap (λ y. y.heap.home) e.2, ap (λ y. y.heap.houses) e.2)

pub still_tied : (e : Event) (h : Head) (os qs : Objects) (ls : Lines) (r : Head × Answer) → Tied os ls → Steps r e (house_of h os ls) qs ls → Tied qs ls
still_tied e h os qs ls r t s =
    let same = same_house (allocates e (house_of h os ls)) r.1 (house_of h os ls) (house_of r.0 qs ls) (step (house_of h os ls) e) (always_fair (house_of h os ls) e) s in
    record { home = t.home ∙ sym same.0; houses = t.houses ∙ sym same.1; room = t.room }
