-- Houses with nothing in them.
use Rattle.std.specs.Prelude.{ℕ, zero, suc, List, [], ◌∷◌, ◌++◌}
use Rattle.rules.specs.House.{House, empty}

-- the first k of n
abbrev pub empties : ℕ → ℕ → List House
empties n zero = []
empties n (suc k) = empties n k ++ empty k n ∷ []
