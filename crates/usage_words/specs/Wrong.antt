-- Which word of a command is wrong, or what is missing, and how that is said.
use Rattle.std.specs.Prelude.{◌≡◌, ℕ, Bool, List, [], ◌∷◌, ◌++◌, None, Some, Option, codes, decimal, is_some, option_map, unwrap_or}
use Rattle.std.specs.Option.{option_map_or}
use Rattle.usage_words.specs.Command.{word_of}
use Rattle.usage_words.specs.Command as command
use Rattle.usage_words.specs.Item.{range_of}
use Rattle.usage_words.specs.Item as item
use Rattle.usage_words.specs.Turn.{turn_of}
use Rattle.usage_words.specs.Word.{Word}
use Rattle.usage_words.specs.declared.command.Command.{Command}
use Rattle.usage_words.specs.declared.item.Item.{Item}
use Rattle.usage_words.specs.declared.phrases.TheConstants.{WRONG_MISSING, WRONG_NO_VALUE, WRONG_OPTION, WRONG_RANGE_FROM, WRONG_RANGE_NOT, WRONG_RANGE_TO, WRONG_TOO_MANY}
use Rattle.usage_words.specs.declared.turn.Standing.{Standing}
use Rattle.usage_words.specs.declared.turn.Turn.{Turn}
use Rattle.usage_words.specs.declared.turn.Turn.TheVariants.{Goes, NoOption, NoValue, Open, OutOfRange, TooMany}

-- ---- the phrases

abbrev pub no_option_said : (command : List ℕ) → Word → List ℕ
no_option_said command word = command ++ (WRONG_OPTION.now ++ (word ++ codes ".\n"))

abbrev pub no_value_said : (option : List ℕ) → List ℕ
no_value_said option = option ++ WRONG_NO_VALUE.now

abbrev pub too_many_said : Word → List ℕ
too_many_said word = word ++ WRONG_TOO_MANY.now

abbrev pub no_word_said : (name : List ℕ) → List ℕ
no_word_said name = name ++ WRONG_MISSING.now

abbrev pub not_within_said : (name : List ℕ) → (least greatest : ℕ) → Word → List ℕ
not_within_said name least greatest word =
    name ++ (WRONG_RANGE_FROM.now ++ (decimal least ++ (WRONG_RANGE_TO.now
    ++ (decimal greatest ++ (WRONG_RANGE_NOT.now ++ (word ++ codes ".\n"))))))

abbrev pub out_of_range_said : Item → Word → List ℕ
out_of_range_said name word =
    option_map_or
    (λ range. not_within_said (item.name_of name) range.least range.greatest word)
    (range_of name) []

-- ---- which is said

-- of a word that is wrong
abbrev pub stop_said : Command → Word → Turn → Option (List ℕ)
stop_said name word (Goes standing) = None
stop_said name word Open = None
stop_said name word NoOption = Some (no_option_said (command.name_of name) word)
stop_said name word (NoValue option) = Some (no_value_said (item.name_of option))
stop_said name word TooMany = Some (too_many_said word)
stop_said name word (OutOfRange of) = Some (out_of_range_said of word)

-- of what is missing behind words that have come to this
abbrev pub end_said : Command → Standing → Option (List ℕ)
end_said name standing =
    option_map_or (λ option. Some (no_value_said (item.name_of option)))
    standing.option (option_map (λ missing. no_word_said (item.name_of missing))
    (word_of name standing.words))

-- no words so far
abbrev pub begun : Standing
begun = record { words = 0; option = None }

-- of a word, unless the walk goes on behind it
abbrev pub said_at : Command → Word → Turn → (on : Standing → Option (List ℕ)) → Option (List ℕ)
said_at name word (Goes standing) on = on standing
said_at name word stop on = stop_said name word stop

-- of the first word that is wrong behind words that have come to this, or of what is missing behind
-- them all
abbrev pub wrong_said : Command → Standing → List Word → Option (List ℕ)
wrong_said name standing [] = end_said name standing
wrong_said name standing (word ∷ words) =
    said_at name word (turn_of name standing word) (λ next. wrong_said name next words)

-- this was appended, and it is told whether it was something
abbrev pub IsTold : (said : Option (List ℕ)) → (old new : List ℕ) → (told : Bool) → Type 0
IsTold said old new told = (told ≡ is_some said) × (new ≡ old ++ unwrap_or said [])
