-- Calls by their words.
use Rattle.std.specs.Prelude.{ℕ, cond, List, [], ◌∷◌, Some, None, codes, Option, option_map, option_and_then}
use Rattle.std.specs.Option.{option_zip}
use Rattle.std.specs.Str.{bytes_eq}
use Rattle.wire.specs.declared.names.House.{House}
use Rattle.wire.specs.declared.names.Name.{Name}
use Rattle.text.specs.declared.calls.Command.{Command}
use Rattle.text.specs.declared.calls.Command.TheVariants as command
use Rattle.wire.specs.declared.call.Call.{Call}
use Rattle.wire.specs.declared.call.Call.TheVariants as call
use Rattle.text.specs.Words.{none}
use Rattle.text.specs.Numbers.{number_value, name_value, house_value}

abbrev pub command_of : List ℕ → Option Command
command_of w =
    cond (bytes_eq w (codes "make")) (Some command.Make)
    (cond (bytes_eq w (codes "link")) (Some command.Link)
    (cond (bytes_eq w (codes "unlink")) (Some command.Unlink)
    (cond (bytes_eq w (codes "load")) (Some command.Load)
    (cond (bytes_eq w (codes "drop")) (Some command.Drop)
    (cond (bytes_eq w (codes "ask")) (Some command.Ask)
    (cond (bytes_eq w (codes "collect")) (Some command.Collect)
    (cond (bytes_eq w (codes "word")) (Some command.Word)
    (cond (bytes_eq w (codes "join")) (Some command.Join)
    (cond (bytes_eq w (codes "tell")) (Some command.Tell)
    (cond (bytes_eq w (codes "round")) (Some command.Round) None))))))))))

-- the only word
abbrev pub sole : List (List ℕ) → Option (List ℕ)
sole [] = None
sole (w ∷ []) = Some w
sole (w ∷ v ∷ ws) = None

-- what the only word is read as
abbrev pub sole_of : {A : Type 0} → (List ℕ → Option A) → List (List ℕ) → Option A
sole_of f ws = option_and_then f (sole ws)

-- what the only two words are read as
abbrev pub pair_of : {A B : Type 0} → (List ℕ → Option A) → (List ℕ → Option B) → List (List ℕ) → Option (A × B)
pair_of f g [] = None
pair_of f g (w ∷ ws) = option_zip (f w) (sole_of g ws)

abbrev pub number_in : List (List ℕ) → Option ℕ
number_in ws = sole_of number_value ws

abbrev pub name_in : List (List ℕ) → Option Name
name_in ws = sole_of name_value ws

abbrev pub house_in : List (List ℕ) → Option House
house_in ws = sole_of house_value ws

abbrev pub names_in : List (List ℕ) → Option (Name × Name)
names_in ws = pair_of name_value name_value ws

abbrev pub name_and_house_in : List (List ℕ) → Option (Name × House)
name_and_house_in ws = pair_of name_value house_value ws

-- a call and what has to follow its first word, no more and no less
abbrev pub call_of : Command → List (List ℕ) → Option Call
call_of command.Make ws = option_map call.Make (number_in ws)
call_of command.Link ws = option_map (λ p. call.Link p.0 p.1) (names_in ws)
call_of command.Unlink ws = option_map (λ p. call.Unlink p.0 p.1) (names_in ws)
call_of command.Load ws = option_map (λ p. call.Load p.0 p.1) (names_in ws)
call_of command.Drop ws = option_map call.Drop (name_in ws)
call_of command.Ask ws = option_map (λ p. call.Ask p.0 p.1) (name_and_house_in ws)
call_of command.Collect ws = cond (none ws) (Some call.Collect) None
call_of command.Word ws = option_map call.Word (house_in ws)
call_of command.Join ws = option_map call.Join (number_in ws)
call_of command.Tell ws = cond (none ws) (Some call.Tell) None
call_of command.Round ws = cond (none ws) (Some call.Round) None
