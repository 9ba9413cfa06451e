-- Arguments by their text.
use Rattle.std.specs.Prelude.{ℕ, cond, List, Some, None, codes, Option, option_map}
use Rattle.std.specs.Str.{bytes_eq}
use Rattle.text.specs.declared.arguments.Argument.{Argument}
use Rattle.text.specs.declared.arguments.Argument.TheVariants as argument
use Rattle.text.specs.Numbers.{number_value}

abbrev pub option_of : List ℕ → Option Argument
option_of w =
    cond (bytes_eq w (codes "--help")) (Some argument.Help)
    (cond (bytes_eq w (codes "--version")) (Some argument.Version)
    (cond (bytes_eq w (codes "--names")) (Some argument.Names)
    (cond (bytes_eq w (codes "--framed")) (Some argument.Framed) None)))

-- what is no option is a number, or wrong
abbrev pub or_number : Option Argument → List ℕ → Option Argument
or_number None w = option_map argument.Number (number_value w)
or_number (Some a) w = Some a

abbrev pub argument_of : List ℕ → Option Argument
argument_of w = or_number (option_of w) w
