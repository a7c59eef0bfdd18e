-- The commands, and the job that the words of one ask for.
use Rattle.std.specs.Prelude.{◌≡◌, ℕ, nat_le, ◌&&◌, ◌||◌, Bool, false, List, [], ◌∷◌, codes, find, Result, Ok, Err, Option, None, Some, is_some, ok_or, unwrap_or, IfSome, ⊤, if◌then◌else◌}
use Rattle.std.specs.Option.{option_map_or}
use Rattle.std.specs.Str.{bytes_eq}
use Rattle.clap.specs.Words.{App, Row, first_of, matches_of}
use Rattle.fpga_text.specs.Numbers.{whole_number_of}
use Rattle.fpga_types.specs.declared.limits.TheConstants.{REACH_LIMIT, SIDE_LIMIT, WIDTH_LIMIT}
use Rattle.fpga_problem.specs.Files.{FileNames, PlacedNames}
use Rattle.router_words.specs.Form.{bound_form, check_form, core_form, decode_form, encode_form, gen_form, global_form, judge_form, least_form, route_form, sweep_form, trial_form, verify_form}
use Rattle.router_words.specs.Near.{has_one_track}
use Rattle.router_words.specs.Job.{Blames, Bounds, Checks, Decodes, Encodes, Generates, JobAsked, Judges, MembersAsked, Narrows, Negotiates, RecipeAsked, Routes, SearchAsked, Sweeps, Tries, Verifies, asks_stats, job_said}
use Rattle.router_words.specs.Overwriting.{overwrites}
use Rattle.router_words.specs.Results.{and_then, map_ok}
use Rattle.router_words.specs.Taken.{HasRequired, is_taken}
use Rattle.router_words.specs.Word.{Word}
use Rattle.router_words.specs.declared.command_name.CommandName.{CommandName}
use Rattle.router_words.specs.declared.command_name.CommandName.TheVariants.{Bound, Check, Core, Decode, Encode, Gen, Global, Judge, Least, Route, Sweep, Trial, Verify}
use Rattle.router_words.specs.declared.fault.Refusal.{Refusal}
use Rattle.router_words.specs.declared.fault.Refusal.TheVariants.{Clash, Command, Form, Number, Overwriting}
use Rattle.router_words.specs.declared.fault.WordsFault.{WordsFault}
use Rattle.router_words.specs.declared.fault.WordsFault.TheVariants.{Memory, Refused}
use Rattle.router_words.specs.declared.job.Job.{Job}
use Rattle.router_words.specs.declared.limits.TheConstants.{BUDGET_DEFAULT, BUDGET_LIMIT, GENERATED_NETS_LIMIT, MEMBER_LIMIT, ROUND_DEFAULT, ROUND_LIMIT, SECOND_LIMIT, SEED_DEFAULT, SEED_LIMIT}
use Rattle.router_words.specs.declared.method.Method.{Method}
use Rattle.router_words.specs.declared.method.Method.TheVariants.{Ordered, Pinned, Strictly, Within}

-- ---- what stands in the matches of a form

-- the word for a name that the form requires
abbrev pub word_in : Word → List Row → Word
word_in name rows = unwrap_or (first_of name rows) []

-- the option without a value was given
abbrev pub has_flag : Word → List Row → Bool
has_flag name rows = option_map_or (λ text. bytes_eq text (codes "true")) (first_of name rows) false

-- the number is from the least to the greatest, or is refused
abbrev pub in_range : (least greatest number : ℕ) → Result ℕ Refusal
in_range least greatest number =
    if nat_le least number && nat_le number greatest then Ok number else Err Number

-- the whole number that a word says, where it is from the least to the greatest
abbrev pub number_within : (least greatest : ℕ) → Word → Result ℕ Refusal
number_within least greatest word =
    and_then (ok_or (whole_number_of word) Number) (in_range least greatest)

-- ARCH NET PLACE ROUTE
abbrev pub files_asked : List Row → FileNames
files_asked rows = record {
  architecture = word_in (codes "architecture") rows;
  netlist = word_in (codes "netlist") rows;
  placement = word_in (codes "placement") rows;
  route = word_in (codes "route") rows;
}

-- ARCH NET PLACE
abbrev pub placed_asked : List Row → PlacedNames
placed_asked rows = record {
  architecture = word_in (codes "architecture") rows;
  netlist = word_in (codes "netlist") rows;
  placement = word_in (codes "placement") rows;
}

-- WIDTH, or MAX
abbrev pub width_asked : List Row → Result ℕ Refusal
width_asked rows = number_within 1 WIDTH_LIMIT (word_in (codes "width") rows)

-- N of `--conflicts N`, or the default
abbrev pub conflicts_asked : List Row → Result ℕ Refusal
conflicts_asked rows =
    option_map_or (number_within 1 BUDGET_LIMIT) (first_of (codes "conflicts") rows)
    (Ok BUDGET_DEFAULT)

-- the number that the word for a name says, where there is such a word and it is from the least to
-- the greatest
abbrev pub number_if_any : (least greatest : ℕ) → Word → List Row → Result (Option ℕ) Refusal
number_if_any least greatest name rows =
    option_map_or (λ word. map_ok Some (number_within least greatest word)) (first_of name rows)
    (Ok None)

-- T of `--seconds T`, where it was given
abbrev pub seconds_asked : List Row → Result (Option ℕ) Refusal
seconds_asked rows = number_if_any 1 SECOND_LIMIT (codes "seconds") rows

-- N of `--rounds N`, or the default
abbrev pub rounds_asked : List Row → Result ℕ Refusal
rounds_asked rows =
    option_map_or (number_within 1 ROUND_LIMIT) (first_of (codes "rounds") rows) (Ok ROUND_DEFAULT)

-- the method of words without `--pin` and `--symmetry`: within a reach, where there is one
abbrev pub method_within : (reach : Option ℕ) → Method
method_within None = Strictly
method_within (Some reach) = Within reach

-- the method that the words choose: with pinned tracks where `--pin` was given, and with tracks in
-- order where `--symmetry` was
abbrev pub method_asked : (reach : Option ℕ) → List Row → Method
method_asked reach rows =
    if has_flag (codes "pin") rows then Pinned else
    if has_flag (codes "symmetry") rows then Ordered else
    method_within reach

-- WIDTH PREFIX [--conflicts N] [--seconds T] [--keep] [--count] [--stats], or with MAX, by a
-- method; within a reach nothing is counted, and the commands refuse both together
abbrev pub search_asked : Method → List Row → Result SearchAsked Refusal
search_asked method rows =
    and_then (width_asked rows) (λ width.
    and_then (conflicts_asked rows) (λ conflicts.
    map_ok (λ seconds. record {
      width = width;
      prefix = word_in (codes "prefix") rows;
      conflicts = conflicts;
      seconds = seconds;
      keep = has_flag (codes "keep") rows;
      count = has_flag (codes "count") rows && has_one_track method;
      method = method;
      stats = has_flag (codes "stats") rows;
    }) (seconds_asked rows)))

-- SEED
abbrev pub seed_asked : List Row → Result ℕ Refusal
seed_asked rows = number_within 0 SEED_LIMIT (word_in (codes "seed") rows)

-- NX
abbrev pub side_asked : List Row → Result ℕ Refusal
side_asked rows = number_within 1 SIDE_LIMIT (word_in (codes "side") rows)

-- NETS
abbrev pub nets_asked : List Row → Result ℕ Refusal
nets_asked rows = number_within 1 GENERATED_NETS_LIMIT (word_in (codes "nets") rows)

-- SEED NX NETS
abbrev pub recipe_asked : List Row → Result RecipeAsked Refusal
recipe_asked rows =
    and_then (seed_asked rows) (λ seed.
    and_then (side_asked rows) (λ side.
    map_ok (λ nets. record { seed = seed; side = side; nets = nets }) (nets_asked rows)))

-- as many searches take turns as `--members` says, by the seed or the default one; without it there
-- is to be no seed
abbrev pub members_with : (count seed : Option ℕ) → Result (Option MembersAsked) Refusal
members_with (Some count) seed =
    Ok (Some (record { count = count; seed = unwrap_or seed SEED_DEFAULT }))
members_with None (Some seed) = Err Clash
members_with None None = Ok None

-- [--members K] [--seed S]
abbrev pub members_asked : List Row → Result (Option MembersAsked) Refusal
members_asked rows =
    and_then (number_if_any 1 MEMBER_LIMIT (codes "members") rows) (λ count.
    and_then (number_if_any 0 SEED_LIMIT (codes "seed") rows) (λ seed. members_with count seed))

-- L of `--reach L`, where it was given
abbrev pub reach_asked : List Row → Result (Option ℕ) Refusal
reach_asked rows = number_if_any 1 REACH_LIMIT (codes "reach") rows

-- two of `--pin`, `--symmetry` and `--reach` were given
abbrev pub has_two_methods : List Row → Bool
has_two_methods rows =
    (has_flag (codes "pin") rows && has_flag (codes "symmetry") rows)
    || ((has_flag (codes "pin") rows || has_flag (codes "symmetry") rows)
    && is_some (first_of (codes "reach") rows))

-- options of a search were given of which one excludes another: two such, or `--count` and
-- `--reach`
abbrev pub has_clash : List Row → Bool
has_clash rows = has_two_methods rows
    || (has_flag (codes "count") rows && is_some (first_of (codes "reach") rows))

-- ---- the commands

-- a command: its name, its form, and the job that the matches of the form say, or why they say none
pub record CommandRow : Type 0 where
  pub name : Word
  pub form : App
  pub job : List Row → Result JobAsked Refusal

-- WIDTH PREFIX [--conflicts N] [--seconds T] [--keep] [--count] [--reach L] [--stats] [--pin]
-- [--symmetry], or with MAX
abbrev pub search_by_method : List Row → Result SearchAsked Refusal
search_by_method rows =
    and_then (reach_asked rows) (λ reach. search_asked (method_asked reach rows) rows)

-- what a search is told, and the searches that take turns: pinned tracks, tracks in order and a
-- reach exclude each other, and so do counting and a reach
abbrev pub turns_asked : List Row → Result (SearchAsked × Option MembersAsked) Refusal
turns_asked rows =
    and_then (search_by_method rows) (λ search.
    and_then (members_asked rows) (λ members.
    if has_clash rows then Err Clash else Ok (search, members)))

-- what `route` is asked for
abbrev pub route_asked : List Row → Result JobAsked Refusal
route_asked rows = map_ok (λ told. Routes (record {
  files = files_asked rows;
  search = told.0;
  members = told.1;
})) (turns_asked rows)

-- what `sweep` is asked for: the same
abbrev pub sweep_asked : List Row → Result JobAsked Refusal
sweep_asked rows = map_ok (λ told. Sweeps (record {
  files = files_asked rows;
  search = told.0;
  members = told.1;
})) (turns_asked rows)

-- what `encode` is asked for: pinned tracks, tracks in order and a reach exclude each other
abbrev pub encode_asked : List Row → Result JobAsked Refusal
encode_asked rows =
    and_then (width_asked rows) (λ width.
    and_then (reach_asked rows) (λ reach.
    if has_two_methods rows then Err Clash else Ok (Encodes (record {
      files = files_asked rows;
      width = width;
      prefix = word_in (codes "prefix") rows;
      method = method_asked reach rows;
      names = has_flag (codes "names") rows;
    }))))

-- what `decode` is asked for: pinned tracks, tracks in order and a reach exclude each other
abbrev pub decode_asked : List Row → Result JobAsked Refusal
decode_asked rows =
    and_then (width_asked rows) (λ width.
    and_then (reach_asked rows) (λ reach.
    if has_two_methods rows then Err Clash else Ok (Decodes (record {
      files = files_asked rows;
      width = width;
      model = word_in (codes "model") rows;
      prefix = word_in (codes "prefix") rows;
      method = method_asked reach rows;
    }))))

-- what `core` is asked for: pinned tracks and tracks in order exclude each other
abbrev pub core_asked : List Row → Result JobAsked Refusal
core_asked rows =
    and_then (width_asked rows) (λ width.
    and_then (conflicts_asked rows) (λ conflicts.
    and_then (seconds_asked rows) (λ seconds.
    if has_two_methods rows then Err Clash else Ok (Blames (record {
      files = files_asked rows;
      width = width;
      prefix = word_in (codes "prefix") rows;
      conflicts = conflicts;
      seconds = seconds;
      method = method_asked None rows;
      stats = has_flag (codes "stats") rows;
    })))))

-- what `check` is asked for
abbrev pub check_asked : List Row → Result JobAsked Refusal
check_asked rows =
    Ok (Checks (record { cnf = word_in (codes "cnf") rows; lrat = word_in (codes "lrat") rows }))

-- what `verify` is asked for
abbrev pub verify_asked : List Row → Result JobAsked Refusal
verify_asked rows =
    and_then (width_asked rows) (λ width.
    map_ok (λ reach. Verifies (record {
      files = files_asked rows;
      width = width;
      routed = word_in (codes "routed") rows;
      reach = reach;
      all = has_flag (codes "all") rows;
    })) (reach_asked rows))

-- what `judge` is asked for
abbrev pub judge_asked : List Row → Result JobAsked Refusal
judge_asked rows =
    map_ok (λ width. Judges (record {
      files = placed_asked rows;
      width = width;
      routed = word_in (codes "routed") rows;
      strict = has_flag (codes "strict") rows;
    })) (width_asked rows)

-- what `bound` is asked for
abbrev pub bound_asked : List Row → Result JobAsked Refusal
bound_asked rows = Ok (Bounds (record { files = placed_asked rows }))

-- what `global` is asked for
abbrev pub global_asked : List Row → Result JobAsked Refusal
global_asked rows =
    and_then (width_asked rows) (λ width.
    and_then (rounds_asked rows) (λ rounds.
    map_ok (λ seconds. Negotiates (record {
      files = placed_asked rows;
      width = width;
      prefix = word_in (codes "prefix") rows;
      free = has_flag (codes "free") rows;
      from = first_of (codes "from") rows;
      rounds = rounds;
      seconds = seconds;
      stats = has_flag (codes "stats") rows;
    })) (seconds_asked rows)))

-- what `least` is asked for
abbrev pub least_asked : List Row → Result JobAsked Refusal
least_asked rows =
    and_then (width_asked rows) (λ last.
    and_then (rounds_asked rows) (λ rounds.
    map_ok (λ seconds. Narrows (record {
      files = placed_asked rows;
      last = last;
      prefix = word_in (codes "prefix") rows;
      free = has_flag (codes "free") rows;
      from = first_of (codes "from") rows;
      rounds = rounds;
      seconds = seconds;
      stats = has_flag (codes "stats") rows;
    })) (seconds_asked rows)))

-- what `gen` is asked for
abbrev pub gen_asked : List Row → Result JobAsked Refusal
gen_asked rows = map_ok
    (λ recipe. Generates (record { recipe = recipe; prefix = word_in (codes "prefix") rows }))
    (recipe_asked rows)

-- what `trial` is asked for: counting and a reach exclude each other
abbrev pub trial_asked : List Row → Result JobAsked Refusal
trial_asked rows =
    and_then (recipe_asked rows) (λ recipe.
    and_then (reach_asked rows) (λ reach.
    and_then (search_asked (method_within reach) rows) (λ search.
    if has_clash rows then Err Clash else Ok (Tries (record {
      recipe = recipe;
      search = search;
    })))))

abbrev pub route_row : CommandRow
route_row = record { name = codes "route"; form = route_form; job = route_asked }

abbrev pub sweep_row : CommandRow
sweep_row = record { name = codes "sweep"; form = sweep_form; job = sweep_asked }

abbrev pub encode_row : CommandRow
encode_row = record { name = codes "encode"; form = encode_form; job = encode_asked }

abbrev pub decode_row : CommandRow
decode_row = record { name = codes "decode"; form = decode_form; job = decode_asked }

abbrev pub core_row : CommandRow
core_row = record { name = codes "core"; form = core_form; job = core_asked }

abbrev pub check_row : CommandRow
check_row = record { name = codes "check"; form = check_form; job = check_asked }

abbrev pub verify_row : CommandRow
verify_row = record { name = codes "verify"; form = verify_form; job = verify_asked }

abbrev pub judge_row : CommandRow
judge_row = record { name = codes "judge"; form = judge_form; job = judge_asked }

abbrev pub bound_row : CommandRow
bound_row = record { name = codes "bound"; form = bound_form; job = bound_asked }

abbrev pub global_row : CommandRow
global_row = record { name = codes "global"; form = global_form; job = global_asked }

abbrev pub least_row : CommandRow
least_row = record { name = codes "least"; form = least_form; job = least_asked }

abbrev pub gen_row : CommandRow
gen_row = record { name = codes "gen"; form = gen_form; job = gen_asked }

abbrev pub trial_row : CommandRow
trial_row = record { name = codes "trial"; form = trial_form; job = trial_asked }

-- the row of each command
abbrev pub row_of : CommandName → CommandRow
row_of Route = route_row
row_of Sweep = sweep_row
row_of Encode = encode_row
row_of Decode = decode_row
row_of Core = core_row
row_of Check = check_row
row_of Verify = verify_row
row_of Judge = judge_row
row_of Bound = bound_row
row_of Global = global_row
row_of Least = least_row
row_of Gen = gen_row
row_of Trial = trial_row

abbrev pub commands : List CommandRow
commands =
    route_row ∷ sweep_row ∷ encode_row ∷ decode_row ∷ core_row ∷ check_row ∷ verify_row ∷ judge_row
    ∷ bound_row ∷ global_row ∷ least_row ∷ gen_row ∷ trial_row ∷ []

-- ---- the job of words

-- the job, unless a file that it may write is one that it reads
abbrev pub unless_overwriting : JobAsked → Result JobAsked Refusal
unless_overwriting job = if overwrites job then Err Overwriting else Ok job

-- the job that the command makes of the words behind its name, or why it makes none
abbrev pub command_job : CommandRow → List Word → Result JobAsked Refusal
command_job command words =
    if is_taken command.form words
    then and_then (command.job (matches_of command.form words)) unless_overwriting
    else Err Form

-- the command that a word names
abbrev pub command_named : Word → Option CommandRow
command_named name = find (λ command. bytes_eq name command.name) commands

-- the job that the words behind this name ask for, or why they ask for none
abbrev pub job_behind : Word → List Word → Result JobAsked Refusal
job_behind name words =
    option_map_or (λ command. command_job command words) (command_named name) (Err Command)

-- the job that the words ask for, or why they ask for none
abbrev pub job_of : List Word → Result JobAsked Refusal
job_of [] = Err Command
job_of (name ∷ words) = job_behind name words

-- what is asked for is a job, and that the numbers of its run are told
abbrev pub asked_stats : Result JobAsked Refusal → Bool
asked_stats (Ok job) = asks_stats job
asked_stats (Err refusal) = false

-- the words ask for that
abbrev pub words_ask_stats : List Word → Bool
words_ask_stats words = asked_stats (job_of words)

-- what is answered where this is asked for: that, or memory ran out
abbrev pub Answers : Result JobAsked Refusal → Result Job WordsFault → Type 0
Answers asked (Ok job) = asked ≡ Ok (job_said job)
Answers asked (Err (Refused refusal)) = asked ≡ Err refusal
Answers asked (Err Memory) = ⊤

-- each name that the command's form requires has a word
abbrev pub HasItsWords : CommandRow → List Word → Type 0
HasItsWords command words = HasRequired command.form (matches_of command.form words)

-- and so it is of the command that the first word names
abbrev pub AreThere : List Word → Type 0
AreThere [] = ⊤
AreThere (name ∷ words) = IfSome (command_named name) (λ command. HasItsWords command words)
