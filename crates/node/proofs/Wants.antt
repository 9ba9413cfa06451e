-- Where memory is wanting something is to be listed.
use Rattle.std.proofs.Common.{◌≡◌, ℕ, true, ◌||◌, List, [], ◌∷◌, is_ok, OnErr, IsErrAnd, Ok, Err, Result, Vec, refl, ap}
use Rattle.std.proofs.lemmas.Bool.{false≢true}
use Rattle.std.specs.declared.alloc.AllocError.{AllocError}
use Rattle.std.specs.declared.alloc.Global.{Global}
use Rattle.wire.specs.declared.names.Name.{Name}
use Rattle.tables.specs.Met.{Lists}
use Rattle.census.specs.Model.{Part, unanswered, due_of, calm}
use Rattle.objects.specs.declared.fault.Fault.{Fault}
use Rattle.objects.specs.declared.fault.Fault.TheVariants.{NoMemory}
use Rattle.node.specs.Shown.{Answer, is_listed}

-- no memory is wanted where there is no reference to list
pub wants_listed : (r : Result (Vec Name Global) AllocError) (os : List ℕ) (P : ℕ → Type 0) → Lists os P → (Lists [] P → is_ok r ≡ true) → OnErr r (is_listed os ≡ true)
wants_listed (Ok v) os P l none = tt
wants_listed (Err e) [] P l none = absurd (false≢true (none l))
wants_listed (Err e) (o ∷ os) P l none = refl

-- a house that is not calm has something to tell, or to tell again
pub tell_listed : (us : List ℕ) (p : Part) → (calm us p ≡ true → ⊥) → (is_listed us || is_listed (due_of us p)) ≡ true
tell_listed (u ∷ us) p e = refl
tell_listed [] p e = go (unanswered p.told) refl
  where
    go : (ds : List ℕ) → unanswered p.told ≡ ds → is_listed (unanswered p.told) ≡ true
    go [] q = absurd (e (rw q refl))
    go (d ∷ ds) q = rw q refl

-- an error of memory is handed on as one
pub no_memory : (a : Answer) → IsErrAnd a (λ e. e ≡ NoMemory) → a ≡ Err NoMemory
no_memory (Ok s) e = absurd e
no_memory (Err f) e = ap (λ (x : Fault). Err x) e
