-- The codes of the causes that words are not taken.
use Rattle.std.specs.Prelude.{ℕ}
use Rattle.router_words.specs.declared.fault.Refusal.{Refusal}
use Rattle.router_words.specs.declared.fault.Refusal.TheVariants.{Clash, Command, Form, Number, Overwriting}

-- the code that a report gives
abbrev pub code_of : Refusal → ℕ
code_of Command = 1
code_of Form = 2
code_of Number = 3
code_of Clash = 4
code_of Overwriting = 5
