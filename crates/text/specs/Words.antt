-- A text as words.
use Rattle.std.specs.Prelude.{ℕ, Bool, true, false, cond, ◌||◌, List, [], ◌∷◌, ◌++◌, ◌==◌, ⊤}

-- a space, a tab or a carriage return
abbrev pub is_space : ℕ → Bool
is_space c = c == 32 || (c == 9 || c == 13)

-- a word, begun already, and those after it; one that is empty does not count
abbrev pub ended : List ℕ → List (List ℕ) → List (List ℕ)
ended [] ws = ws
ended (c ∷ cs) ws = (c ∷ cs) ∷ ws

unfoldable pub split : List ℕ → List ℕ → List (List ℕ)
split begun [] = ended begun []
split begun (c ∷ cs) = cond (is_space c) (ended begun (split [] cs)) (split (begun ++ (c ∷ [])) cs)

-- the words of a text: what stands between spaces
abbrev pub words : List ℕ → List (List ℕ)
words text = split [] text

abbrev pub none : List (List ℕ) → Bool
none [] = true
none (w ∷ ws) = false

abbrev pub Full : List (List ℕ) → Type 0
Full [] = ⊤
Full ([] ∷ ws) = ⊥
Full ((c ∷ cs) ∷ ws) = Full ws

-- no word of a text is empty
abbrev pub NoneEmpty : Type 0
NoneEmpty = (text : List ℕ) → Full (words text)
