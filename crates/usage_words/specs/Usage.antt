-- What is said of words that are not taken.
use Rattle.std.specs.Prelude.{ℕ, ◌++◌, ◌==◌, ◌||◌, List, [], ◌∷◌, Option, None, Some, unwrap_or, if◌then◌else◌}
use Rattle.usage_words.specs.Command.{command_of}
use Rattle.usage_words.specs.Word.{Word}
use Rattle.usage_words.specs.Wrong.{begun, wrong_said}
use Rattle.usage_words.specs.declared.command.Command.{Command}
use Rattle.usage_words.specs.declared.command.Command.TheVariants.{Route, Sweep, Encode, Decode, Core, Check, Verify, Judge, Bound, Global, Least, Gen, Trial}
use Rattle.usage_words.specs.declared.phrases.TheConstants.{CLASH_OF_COUNT, CLASH_OF_METHODS, CLASH_OF_ORDERS, CLASH_OF_SEARCHES, CODE_NO_COMMAND, CODE_NUMBER, CODE_OTHER_WORDS, CODE_WRITTEN_OVER, EXAMPLE_BOUND, EXAMPLE_CHECK, EXAMPLE_CORE, EXAMPLE_DECODE, EXAMPLE_ENCODE, EXAMPLE_GEN, EXAMPLE_GLOBAL, EXAMPLE_JUDGE, EXAMPLE_LEAST, EXAMPLE_ROUTE, EXAMPLE_SWEEP, EXAMPLE_TRIAL, EXAMPLE_VERIFY, FORM_EXAMPLE, FORM_TAKES, TAKES_BOUND, TAKES_CHECK, TAKES_CORE, TAKES_DECODE, TAKES_ENCODE, TAKES_GEN, TAKES_GLOBAL, TAKES_JUDGE, TAKES_LEAST, TAKES_ROUTE, TAKES_SWEEP, TAKES_TRIAL, TAKES_VERIFY, WRONG_COMMAND}

-- which options of a command exclude each other, or need another
abbrev pub clash_said : Command → List ℕ
clash_said Encode = CLASH_OF_METHODS.now
clash_said Decode = CLASH_OF_METHODS.now
clash_said Core = CLASH_OF_ORDERS.now
clash_said Trial = CLASH_OF_COUNT.now
clash_said _ = CLASH_OF_SEARCHES.now

-- the words that a command takes
abbrev pub takes_said : Command → List ℕ
takes_said Route = TAKES_ROUTE.now
takes_said Sweep = TAKES_SWEEP.now
takes_said Encode = TAKES_ENCODE.now
takes_said Decode = TAKES_DECODE.now
takes_said Core = TAKES_CORE.now
takes_said Check = TAKES_CHECK.now
takes_said Verify = TAKES_VERIFY.now
takes_said Judge = TAKES_JUDGE.now
takes_said Bound = TAKES_BOUND.now
takes_said Global = TAKES_GLOBAL.now
takes_said Least = TAKES_LEAST.now
takes_said Gen = TAKES_GEN.now
takes_said Trial = TAKES_TRIAL.now

-- a command as it may be given
abbrev pub example_said : Command → List ℕ
example_said Route = EXAMPLE_ROUTE.now
example_said Sweep = EXAMPLE_SWEEP.now
example_said Encode = EXAMPLE_ENCODE.now
example_said Decode = EXAMPLE_DECODE.now
example_said Core = EXAMPLE_CORE.now
example_said Check = EXAMPLE_CHECK.now
example_said Verify = EXAMPLE_VERIFY.now
example_said Judge = EXAMPLE_JUDGE.now
example_said Bound = EXAMPLE_BOUND.now
example_said Global = EXAMPLE_GLOBAL.now
example_said Least = EXAMPLE_LEAST.now
example_said Gen = EXAMPLE_GEN.now
example_said Trial = EXAMPLE_TRIAL.now

-- what the command takes, and an example
abbrev pub lines_said : (takes example : List ℕ) → List ℕ
lines_said takes example =
    FORM_TAKES.now ++ (takes ++ (FORM_EXAMPLE.now ++ example))

abbrev pub form_said : Command → List ℕ
form_said command = lines_said (takes_said command) (example_said command)

-- what the code of the report says
abbrev pub code_said : (code : ℕ) → Command → List ℕ
code_said code command =
    if code == 1 then CODE_NO_COMMAND.now else
    if code == 3 then CODE_NUMBER.now else
    if code == 4 then clash_said command else
    if code == 5 then CODE_WRITTEN_OVER.now else CODE_OTHER_WORDS.now

-- the first word names no command
abbrev pub no_command_said : Word → List ℕ
no_command_said name = name ++ WRONG_COMMAND.now

-- what is wrong with the words behind the name of a command: which of them, where the report is of
-- one and the form tells it, or else what the code says
abbrev pub why_said : Command → List Word → (code : ℕ) → List ℕ
why_said command words code =
    if code == 2 || code == 3
    then unwrap_or (wrong_said command begun words) (code_said code command)
    else code_said code command

-- what is wrong, what the command takes, and an example
abbrev pub said_of : Word → Option Command → List Word → (code : ℕ) → List ℕ
said_of name (Some command) words code = why_said command words code ++ form_said command
said_of name None words code =
    no_command_said name ++ (code_said 1 Route ++ form_said Route)

abbrev pub usage_said : List Word → (code : ℕ) → List ℕ
usage_said [] code = code_said code Route ++ form_said Route
usage_said (name ∷ words) code = said_of name (command_of name) words code
