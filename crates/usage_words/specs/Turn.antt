-- What a word of a command is, behind those before it.
use Rattle.std.specs.Prelude.{ℕ, suc, Bool, not, ◌||◌, ◌==◌, ◌∷◌, Option, None, Some, false, bytes_eq, codes, if◌then◌else◌}
use Rattle.std.specs.List.{list_any}
use Rattle.std.specs.Option.{option_map_or}
use Rattle.usage_words.specs.Command.{has_flag, option_of, word_of}
use Rattle.usage_words.specs.Item.{takes}
use Rattle.usage_words.specs.Word.{Word}
use Rattle.usage_words.specs.declared.command.Command.{Command}
use Rattle.usage_words.specs.declared.item.Item.{Item}
use Rattle.usage_words.specs.declared.turn.Standing.{Standing}
use Rattle.usage_words.specs.declared.turn.Turn.{Turn}
use Rattle.usage_words.specs.declared.turn.Turn.TheVariants.{Goes, NoOption, NoValue, Open, OutOfRange, TooMany}

-- whether a word begins with a dash, and has more
abbrev pub has_dash : Word → Bool
has_dash (first ∷ second ∷ more) = first == 45
has_dash _ = false

-- whether there is an equals sign in it
abbrev pub has_equals : Word → Bool
has_equals word = list_any (λ byte. byte == 61) word

abbrev pub goes : (words : ℕ) → (option : Option Item) → Turn
goes words option = Goes (record { words = words; option = option })

-- as the value of an option
abbrev pub value : Standing → Item → Word → Turn
value standing item word =
    if has_dash word then NoValue item else
    if not (takes item word) then OutOfRange item else goes standing.words None

-- as an option; clap takes a value behind an equals sign, and what comes behind two dashes as words
-- without one
abbrev pub option : Command → Standing → Word → Turn
option command standing word =
    if has_flag command word then Goes standing else
    option_map_or (λ item. goes standing.words (Some item)) (option_of command word)
    (if bytes_eq word (codes "--") || has_equals word then Open else NoOption)

-- as a word without a dash
abbrev pub plain : Command → Standing → Word → Turn
plain command standing word =
    option_map_or (λ item.
    if not (takes item word) then OutOfRange item else goes (suc standing.words) None)
    (word_of command standing.words) TooMany

-- what a word is behind words that have come to this
abbrev pub turn_of : Command → Standing → Word → Turn
turn_of command standing word =
    option_map_or (λ item. value standing item word) standing.option
    (if has_dash word then option command standing word else plain command standing word)
