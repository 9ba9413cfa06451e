-- Every case comes out as it is written: the checker plays it.
use Rattle.std.proofs.Common.{[], ◌∷◌, refl, ap}
use Rattle.wire.specs.Format.{numbers, rising}
use Rattle.objects.specs.Executed.{picked, spread, kept_in, sorted_by}
use Rattle.lines.specs.Listed.{is_in, listed, listed_in, entered, marked, joined, heard_of, swept, objects_listed, objects_in}
use Rattle.play.specs.Play.{play, answered}
use Rattle.play.specs.Cases.{sends, refused, shows, all_shown, turn_of, AllCases, GoesOn}

pub all_cases : AllCases
unfolding numbers rising picked spread kept_in sorted_by is_in listed listed_in entered marked joined heard_of swept objects_listed objects_in
all_cases = refl

pub goes_on : GoesOn
goes_on n [] us w = refl
goes_on n (sends e ls ∷ ts) us w = ap (λ rest. turn_of e (answered n e w) ∷ rest) (goes_on n ts us (play n e w))
goes_on n (refused e k ∷ ts) us w = ap (λ rest. turn_of e (answered n e w) ∷ rest) (goes_on n ts us (play n e w))
goes_on n (shows hs ∷ ts) us w = ap (λ rest. shows (all_shown n w) ∷ rest) (goes_on n ts us w)
