-- The forms of the commands, which say what clap takes behind the name of a command.
use Rattle.std.specs.Prelude.{Bool, false, not, ◌&&◌, List, [], ◌∷◌, Option, Some, true, nat_le, codes, if◌then◌else◌}
use Rattle.std.specs.List.{list_any}
use Rattle.std.specs.Str.{bytes_eq}
use Rattle.clap.specs.Facts.{unwrap_or_range}
use Rattle.clap.specs.Faults.{has_free_rules}
use Rattle.clap.specs.Walk.{is_empty}
use Rattle.clap.specs.Words.{App, Rule, is_simple_and_free, new_app, new_rule, with_rule}
use Rattle.clap.specs.declared.builder.action.ArgAction.{ArgAction}
use Rattle.clap.specs.declared.builder.action.ArgAction.TheVariants.{Set, SetTrue}
use Rattle.router_words.specs.Word.{Word}

-- ---- what forms are made of

-- no arguments yet; the words begin behind the command's name
abbrev pub empty_form : Word → App
empty_form name =
    let form = new_app name in record form { top = record form.top { no_binary_name = true } }

-- a word that has to be there
abbrev pub required_rule : Word → Rule
required_rule name = record (new_rule name) { required = true; action = Some Set }

-- an option `--name VALUE`
abbrev pub option_rule : Word → Rule
option_rule name = record (new_rule name) { long = Some name }

-- an option `--name`
abbrev pub flag_rule : Word → Rule
flag_rule name = record (new_rule name) { long = Some name; action = Some SetTrue }

abbrev pub with_word : Word → App → App
with_word name form = with_rule form (required_rule name)

abbrev pub with_option : Word → App → App
with_option name form = with_rule form (option_rule name)

abbrev pub with_flag : Word → App → App
with_flag name form = with_rule form (flag_rule name)

-- ARCH NET PLACE
abbrev pub with_placed : App → App
with_placed form =
    with_word (codes "placement")
    (with_word (codes "netlist") (with_word (codes "architecture") form))

-- ARCH NET PLACE ROUTE
abbrev pub with_files : App → App
with_files form = with_word (codes "route") (with_placed form)

-- WIDTH PREFIX, or MAX PREFIX
abbrev pub with_width_and_prefix : App → App
with_width_and_prefix form = with_word (codes "prefix") (with_word (codes "width") form)

-- [--conflicts N] [--seconds T] [--keep] [--count]
abbrev pub with_effort : App → App
with_effort form =
    with_flag (codes "count") (with_flag (codes "keep")
    (with_option (codes "seconds") (with_option (codes "conflicts") form)))

-- WIDTH PREFIX [--conflicts N] [--seconds T] [--keep] [--count] [--reach L] [--stats], or with MAX
abbrev pub with_search : App → App
with_search form =
    with_flag (codes "stats") (with_option (codes "reach")
    (with_effort (with_width_and_prefix form)))

-- SEED NX NETS
abbrev pub with_recipe : App → App
with_recipe form =
    with_word (codes "nets") (with_word (codes "side") (with_word (codes "seed") form))

-- ---- the forms

-- [--pin] [--symmetry]
abbrev pub with_symmetry : App → App
with_symmetry form = with_flag (codes "symmetry") (with_flag (codes "pin") form)

-- [--members K] [--seed S]
abbrev pub with_members : App → App
with_members form = with_option (codes "seed") (with_option (codes "members") form)

-- ARCH NET PLACE ROUTE WIDTH PREFIX [--conflicts N] [--seconds T] [--keep] [--count] [--reach L]
-- [--stats] [--pin] [--symmetry] [--members K] [--seed S]
abbrev pub search_form : Word → App
search_form name = with_members (with_symmetry (with_search (with_files (empty_form name))))

abbrev pub route_form : App
route_form = search_form (codes "route")

-- the same, with MAX in the place of WIDTH
abbrev pub sweep_form : App
sweep_form = search_form (codes "sweep")

-- ARCH NET PLACE ROUTE WIDTH PREFIX [--pin] [--symmetry] [--reach L] [--names]
abbrev pub encode_form : App
encode_form =
    with_flag (codes "names") (with_option (codes "reach")
    (with_symmetry (with_width_and_prefix (with_files (empty_form (codes "encode"))))))

-- ARCH NET PLACE ROUTE WIDTH MODEL PREFIX [--pin] [--symmetry] [--reach L]
abbrev pub decode_form : App
decode_form =
    with_option (codes "reach")
    (with_symmetry (with_word (codes "prefix") (with_word (codes "model")
    (with_word (codes "width") (with_files (empty_form (codes "decode")))))))

-- ARCH NET PLACE ROUTE WIDTH PREFIX [--conflicts N] [--seconds T] [--pin] [--symmetry] [--stats]
abbrev pub core_form : App
core_form =
    with_flag (codes "stats") (with_symmetry (with_option (codes "seconds")
    (with_option (codes "conflicts") (with_width_and_prefix
    (with_files (empty_form (codes "core")))))))

-- CNF LRAT
abbrev pub check_form : App
check_form = with_word (codes "lrat") (with_word (codes "cnf") (empty_form (codes "check")))

-- ARCH NET PLACE ROUTE WIDTH ROUTED [--reach L] [--all]
abbrev pub verify_form : App
verify_form = with_flag (codes "all") (with_option (codes "reach") (with_word (codes "routed")
    (with_word (codes "width") (with_files (empty_form (codes "verify"))))))

-- ARCH NET PLACE WIDTH ROUTED [--strict]
abbrev pub judge_form : App
judge_form = with_flag (codes "strict") (with_word (codes "routed") (with_word (codes "width")
    (with_placed (empty_form (codes "judge")))))

-- ARCH NET PLACE
abbrev pub bound_form : App
bound_form = with_placed (empty_form (codes "bound"))

-- ARCH NET PLACE WIDTH PREFIX [--free] [--from ROUTE] [--rounds N] [--seconds T]
-- [--stats], or with MAX
abbrev pub with_negotiation : App → App
with_negotiation form =
    with_flag (codes "stats") (with_option (codes "seconds") (with_option (codes "rounds")
    (with_option (codes "from") (with_flag (codes "free")
    (with_width_and_prefix (with_placed form))))))

abbrev pub global_form : App
global_form = with_negotiation (empty_form (codes "global"))

-- the same, with MAX in the place of WIDTH
abbrev pub least_form : App
least_form = with_negotiation (empty_form (codes "least"))

-- SEED NX NETS PREFIX
abbrev pub gen_form : App
gen_form = with_word (codes "prefix") (with_recipe (empty_form (codes "gen")))

-- SEED NX NETS MAX PREFIX [--conflicts N] [--seconds T] [--keep] [--count] [--reach L] [--stats]
abbrev pub trial_form : App
trial_form = with_search (with_recipe (empty_form (codes "trial")))

-- ---- what holds of a form

-- clap's definitions say what the form takes, and what it finds there
abbrev pub is_form : App → Bool
is_form form =
    is_simple_and_free form && (has_free_rules form.top && not form.top.subcommand_negates_reqs)

abbrev pub is_set : Option ArgAction → Bool
is_set (Some Set) = true
is_set _ = false

-- what the rule speaks of has to be given, with a value
abbrev pub wants_value : Rule → Bool
wants_value rule =
    rule.required && (is_set rule.action && nat_le 1 (unwrap_or_range rule.range).start_inclusive)

-- one rule alone has this name, and it wants a value
abbrev pub wants : Word → List Rule → Bool
wants name [] = false
wants name (rule ∷ rules) =
    if bytes_eq rule.id name
    then wants_value rule && not (list_any (λ other. bytes_eq other.id name) rules)
    else wants name rules

-- a name that clap gives to no argument of its own
abbrev pub is_own_name : Word → Bool
is_own_name name = not (is_empty name)
    && (not (bytes_eq name (codes "help")) && not (bytes_eq name (codes "version")))

-- the form requires a word of this name
abbrev pub requires_word : App → Word → Bool
requires_word form name = is_own_name name && wants name form.top.rules
