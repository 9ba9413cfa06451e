-- Where a house stands, as text.
use Rattle.std.specs.Prelude.{ℕ, List, [], ◌∷◌, ◌++◌, codes, decimal}
use Rattle.text.specs.declared.status.Status.{Status}

abbrev pub progress : Status → List ℕ
progress s = codes "house " ++ (decimal s.house.0 ++ (codes " census " ++ (decimal s.census.0 ++ (codes " tally " ++ (decimal s.tally.0 ++ (codes " round " ++ decimal s.round.0))))))

abbrev pub counts : Status → List ℕ
counts s = codes " objects " ++ (decimal s.objects ++ (codes " roots " ++ (decimal s.roots ++ (codes " lines " ++ (decimal s.lines ++ (10 ∷ []))))))

abbrev pub status_line : Status → List ℕ
status_line s = progress s ++ counts s
