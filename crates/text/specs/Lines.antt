-- Lines by their words.
use Rattle.std.specs.Prelude.{ℕ, Bool, false, cond, List, [], ◌∷◌, Some, None, Ok, Err, codes, Option, Result, ok_or, option_map, option_and_then, ◌==◌}
use Rattle.std.specs.Str.{bytes_eq}
use Rattle.wire.specs.declared.names.House.{House}
use Rattle.wire.specs.declared.call.Call.{Call}
use Rattle.wire.specs.declared.refusal.Refusal.{Refusal}
use Rattle.wire.specs.declared.refusal.Refusal.TheVariants.{Malformed}
use Rattle.text.specs.declared.lines.Order.{Order}
use Rattle.text.specs.declared.lines.Order.TheVariants as order
use Rattle.text.specs.declared.lines.View.{View}
use Rattle.text.specs.declared.lines.View.TheVariants as views
use Rattle.text.specs.declared.lines.Request.{Request}
use Rattle.text.specs.declared.lines.Request.TheVariants as request
use Rattle.text.specs.declared.lines.Play.{Play}
use Rattle.text.specs.declared.lines.Play.TheVariants as play
use Rattle.text.specs.Words.{none}
use Rattle.text.specs.Numbers.{house_value}
use Rattle.text.specs.Calls.{command_of, call_of, sole, number_in}

-- what a house is told, with the digits themselves in place of a reference to them
pub data Said : Type 0 where
  call : Call → Said
  got : List ℕ → Said

abbrev pub said : Order → Said
said (order.Call c) = call c
said (order.Got ds) = got ds.now

-- hexadecimal digits, of which there must be some, or a call
abbrev pub order_of : List ℕ → List (List ℕ) → Option Said
order_of w ws = cond (bytes_eq w (codes "got")) (option_map got (sole ws)) (option_map call (option_and_then (λ c. call_of c ws) (command_of w)))

-- what is printed on request, by its word
abbrev pub view_of : List ℕ → Option View
view_of w =
    cond (bytes_eq w (codes "show")) (Some views.Show)
    (cond (bytes_eq w (codes "status")) (Some views.Status)
    (cond (bytes_eq w (codes "help")) (Some views.Help) None))

-- nothing follows the word of what is printed; any other word says something else
abbrev pub by_view : {A : Type 0} → Option View → List (List ℕ) → (View → A) → Option A → Option A
by_view None ws f o = o
by_view (Some v) ws f o = cond (none ws) (Some (f v)) None

-- what a house's line asks for
pub data Requested : Type 0 where
  told : Said → Requested
  shown : View → Requested

abbrev pub requested : Request → Requested
requested (request.Order o) = told (said o)
requested (request.View v) = shown v

abbrev pub request_of : List ℕ → List (List ℕ) → Option Requested
request_of w ws = by_view (view_of w) ws shown (option_map told (order_of w ws))

-- a line that begins with # is a comment
abbrev pub comment : List ℕ → Bool
comment [] = false
comment (c ∷ cs) = c == 35

-- a line that says something has to be of the right form
abbrev pub formed : {A : Type 0} → Option A → Result (Option A) Refusal
formed o = ok_or (option_map Some o) Malformed

abbrev pub line_said : Result (Option Request) Refusal → Result (Option Requested) Refusal
line_said (Err e) = Err e
line_said (Ok o) = Ok (option_map requested o)

-- nothing is said by an empty line, nor by a comment
abbrev pub line_of : List (List ℕ) → Result (Option Requested) Refusal
line_of [] = Ok None
line_of (w ∷ ws) = cond (comment w) (Ok None) (formed (request_of w ws))

-- what a line of a rehearsal says
pub data Played : Type 0 where
  at : House → Said → Played
  deliver_at : House → ℕ → Played
  deliver : ℕ → Played
  view : View → Played
  settle : Played

abbrev pub played : Play → Played
played (play.At h o) = at h (said o)
played (play.DeliverAt h m) = deliver_at h m
played (play.Deliver m) = deliver m
played (play.View v) = view v
played play.Settle = settle

-- by the first word of what is said at a house
abbrev pub by_word_at_house : House → List ℕ → List (List ℕ) → Option Played
by_word_at_house h w ws = cond (bytes_eq w (codes "deliver")) (option_map (deliver_at h) (number_in ws)) (option_map (at h) (order_of w ws))

abbrev pub at_house : House → List (List ℕ) → Option Played
at_house h [] = None
at_house h (w ∷ ws) = by_word_at_house h w ws

-- by the first word of a line that is no comment and asks for nothing to be printed
abbrev pub by_other_word : List ℕ → List (List ℕ) → Option Played
by_other_word w ws =
    cond (bytes_eq w (codes "settle")) (cond (none ws) (Some settle) None)
    (cond (bytes_eq w (codes "deliver")) (option_map deliver (number_in ws)) (option_and_then (λ h. at_house h ws) (house_value w)))

abbrev pub by_word : List ℕ → List (List ℕ) → Option Played
by_word w ws = by_view (view_of w) ws view (by_other_word w ws)

abbrev pub play_said : Result (Option Play) Refusal → Result (Option Played) Refusal
play_said (Err e) = Err e
play_said (Ok o) = Ok (option_map played o)

abbrev pub play_of : List (List ℕ) → Result (Option Played) Refusal
play_of [] = Ok None
play_of (w ∷ ws) = cond (comment w) (Ok None) (formed (by_word w ws))
