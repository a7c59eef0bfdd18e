-- Worked rows: the jobs that words ask for, each by computation.
use Rattle.std.proofs.Common.{◌≡◌, ℕ, Bool, true, false, List, [], ◌∷◌, codes, refl}
use Rattle.std.specs.Fmt.{digits}
use Rattle.std.specs.Prelude.{Option, Result, Ok, Err, None, Some}
use Rattle.clap.proofs.OnLiterals.{clap_on_literals}
use Rattle.fpga_problem.specs.Files.{FileNames, PlacedNames}
use Rattle.router_words.specs.Command.{job_of}
use Rattle.router_words.specs.Job.{Blames, Bounds, Checks, CoreAsked, Decodes, Encodes, Generates, GlobalAsked, JobAsked, Judges, LeastAsked, Narrows, Negotiates, Routes, SearchAsked, Sweeps, Tries, Verifies}
use Rattle.router_words.specs.Word.{Word}
use Rattle.router_words.specs.declared.fault.Refusal.{Refusal}
use Rattle.router_words.specs.declared.fault.Refusal.TheVariants.{Clash, Command, Form, Number, Overwriting}
use Rattle.router_words.specs.declared.method.Method.{Method}
use Rattle.router_words.specs.declared.method.Method.TheVariants.{Ordered, Pinned, Strictly, Within}

abbrev Asked : Type 0
Asked = Result JobAsked Refusal

abbrev four_files : FileNames
four_files = record {
  architecture = codes "a";
  netlist = codes "n";
  placement = codes "p";
  route = codes "r";
}

-- what a search is told without an option of its method
abbrev told : ℕ → Word → ℕ → Bool → SearchAsked
told width prefix conflicts keep = record {
  width = width;
  prefix = prefix;
  conflicts = conflicts;
  seconds = None;
  keep = keep;
  count = false;
  method = Strictly;
  stats = false;
}

-- the same at width 5 to `out`, with no option at all
abbrev usual : SearchAsked
usual = told 5 (codes "out") 1_000_000 false

-- a route of the files a, n, p and r, by one search
abbrev routes_by : SearchAsked → Asked
routes_by search = Ok (Routes (record { files = four_files; search = search; members = None }))

-- the same, told without an option of its method
abbrev routes : ℕ → Word → ℕ → Bool → Asked
routes width prefix conflicts keep = routes_by (told width prefix conflicts keep)

-- a route at width 5 to `out` by so many searches, with the order of this seed
abbrev turns : (count seed : ℕ) → Asked
turns count seed = Ok (Routes (record {
  files = four_files;
  search = usual;
  members = Some (record { count = count; seed = seed });
}))

-- `route a n p r` and more words
abbrev route : List Word → Asked
route more = job_of (codes "route" ∷ codes "a" ∷ codes "n" ∷ codes "p" ∷ codes "r" ∷ more)

-- `route a n p r 5 out` and more words
abbrev route_out : List Word → Asked
route_out more = route (codes "5" ∷ codes "out" ∷ more)

pub no_words : job_of [] ≡ Err Command
no_words = refl

pub no_command : job_of (codes "drive" ∷ []) ≡ Err Command
no_command = refl

pub too_few : job_of (codes "route" ∷ codes "a" ∷ []) ≡ Err Form
unfolding clap_on_literals
too_few = refl

pub too_many : route_out (codes "x" ∷ []) ≡ Err Form
unfolding clap_on_literals
too_many = refl

pub plain : route (codes "64" ∷ codes "out" ∷ []) ≡ routes 64 (codes "out") 1_000_000 false
unfolding clap_on_literals
plain = refl

pub too_wide : route (codes "65" ∷ codes "out" ∷ []) ≡ Err Number
unfolding clap_on_literals
too_wide = refl

pub signed : route (codes "-5" ∷ codes "out" ∷ []) ≡ Err Form
unfolding clap_on_literals
signed = refl

-- no file that is written is to be one that is read, by its name
pub writes_over : job_of (codes "route" ∷ codes "a" ∷ codes "n" ∷ codes "p" ∷ codes "d.route"
    ∷ codes "5" ∷ codes "d" ∷ []) ≡ Err Overwriting
unfolding clap_on_literals
writes_over = refl

pub writes_beside : job_of (codes "route" ∷ codes "d.arch" ∷ codes "d.net" ∷ codes "d.place"
    ∷ codes "d.route" ∷ codes "65" ∷ codes "d" ∷ []) ≡ Err Number
unfolding clap_on_literals
writes_beside = refl

-- options stand anywhere, with a value behind them or behind `=`
pub options : job_of (codes "route" ∷ codes "--conflicts=5" ∷ codes "a" ∷ codes "n"
    ∷ codes "--keep" ∷ codes "p" ∷ codes "r" ∷ codes "005" ∷ codes "out" ∷ [])
    ≡ routes 5 (codes "out") 5 true
unfolding clap_on_literals
options = refl

pub no_budget : route_out (codes "--conflicts" ∷ codes "0" ∷ []) ≡ Err Number
unfolding clap_on_literals
no_budget = refl

-- a limit in seconds
pub limited : route_out (codes "--seconds" ∷ codes "1000000" ∷ [])
    ≡ routes_by (record usual { seconds = Some 1_000_000 })
unfolding clap_on_literals
limited = refl

pub no_second : route_out (codes "--seconds=0" ∷ []) ≡ Err Number
unfolding clap_on_literals
no_second = refl

pub too_many_seconds : route_out (codes "--seconds=1000001" ∷ []) ≡ Err Number
unfolding clap_on_literals
too_many_seconds = refl

-- the numbers of the run
pub tells_numbers : route_out (codes "--stats" ∷ []) ≡ routes_by (record usual { stats = true })
unfolding clap_on_literals
tells_numbers = refl

pub tells_numbers_twice : route_out (codes "--stats" ∷ codes "--stats" ∷ []) ≡ Err Form
unfolding clap_on_literals
tells_numbers_twice = refl

-- behind `--` no word is an option; a word may be empty
pub dashes : route (codes "5" ∷ codes "--" ∷ codes "--keep" ∷ [])
    ≡ routes 5 (codes "--keep") 1_000_000 false
unfolding clap_on_literals
dashes = refl

pub empty : route (codes "5" ∷ [] ∷ []) ≡ routes 5 [] 1_000_000 false
unfolding clap_on_literals
empty = refl

pub twice : route_out (codes "--keep" ∷ codes "--keep" ∷ []) ≡ Err Form
unfolding clap_on_literals
twice = refl

pub with_value : route_out (codes "--keep=x" ∷ []) ≡ Err Form
unfolding clap_on_literals
with_value = refl

pub cut_name : route_out (codes "--conf" ∷ codes "5" ∷ []) ≡ Err Form
unfolding clap_on_literals
cut_name = refl

pub help : route_out (codes "--help" ∷ []) ≡ Err Form
unfolding clap_on_literals
help = refl

pub by_turns : route_out (codes "--members" ∷ codes "3" ∷ codes "--seed=7" ∷ []) ≡ turns 3 7
unfolding clap_on_literals
by_turns = refl

pub default_seed : route_out (codes "--members" ∷ codes "8" ∷ []) ≡ turns 8 1
unfolding clap_on_literals
default_seed = refl

pub nine_members : route_out (codes "--members" ∷ codes "9" ∷ []) ≡ Err Number
unfolding clap_on_literals
nine_members = refl

pub seed_alone : route_out (codes "--seed" ∷ codes "3" ∷ []) ≡ Err Clash
unfolding clap_on_literals
seed_alone = refl

-- a number that is out of range is told before the seed that stands alone
pub great_seed_alone : route_out (codes "--seed" ∷ codes "2147483648" ∷ []) ≡ Err Number
unfolding clap_on_literals
great_seed_alone = refl

pub seed_alone_too_wide : route (codes "65" ∷ codes "out" ∷ codes "--seed" ∷ codes "3" ∷ [])
    ≡ Err Number
unfolding clap_on_literals
seed_alone_too_wide = refl

-- a route with pinned tracks
pub pinned : route (codes "--pin" ∷ codes "5" ∷ codes "out" ∷ [])
    ≡ routes_by (record usual { method = Pinned })
unfolding clap_on_literals
pinned = refl

-- a route with tracks in order
pub ordered : route (codes "5" ∷ codes "--symmetry" ∷ codes "out" ∷ [])
    ≡ routes_by (record usual { method = Ordered })
unfolding clap_on_literals
ordered = refl

pub pinned_and_ordered : route_out (codes "--symmetry" ∷ codes "--pin" ∷ []) ≡ Err Clash
unfolding clap_on_literals
pinned_and_ordered = refl

-- a route within a reach
pub reaches : route_out (codes "--reach=01" ∷ []) ≡ routes_by (record usual { method = Within 1 })
unfolding clap_on_literals
reaches = refl

pub no_reach : route_out (codes "--reach=0" ∷ []) ≡ Err Number
unfolding clap_on_literals
no_reach = refl

pub route_pins_and_reaches : route_out (codes "--reach=1" ∷ codes "--pin" ∷ []) ≡ Err Clash
unfolding clap_on_literals
route_pins_and_reaches = refl

-- a route that counts first, in any method with one track in each cell
pub counts : route (codes "--count" ∷ codes "5" ∷ codes "out" ∷ codes "--pin" ∷ [])
    ≡ routes_by (record usual { count = true; method = Pinned })
unfolding clap_on_literals
counts = refl

pub counts_and_reaches : route_out (codes "--count" ∷ codes "--reach=1" ∷ []) ≡ Err Clash
unfolding clap_on_literals
counts_and_reaches = refl

pub counts_twice : route_out (codes "--count" ∷ codes "--count" ∷ []) ≡ Err Form
unfolding clap_on_literals
counts_twice = refl

-- a number that is out of range is told before options that exclude each other
pub no_members_pin_and_reach : route_out (codes "--reach=1" ∷ codes "--pin" ∷ codes "--members=0"
    ∷ []) ≡ Err Number
unfolding clap_on_literals
no_members_pin_and_reach = refl

-- `sweep a n p r` and more words
abbrev sweep : List Word → Asked
sweep more = job_of (codes "sweep" ∷ codes "a" ∷ codes "n" ∷ codes "p" ∷ codes "r" ∷ more)

-- `sweep a n p r 8 out` and more words
abbrev sweep_out : List Word → Asked
sweep_out more = sweep (codes "8" ∷ codes "out" ∷ more)

-- a sweep of the files a, n, p and r, by one search
abbrev sweeps_by : SearchAsked → Asked
sweeps_by search = Ok (Sweeps (record { files = four_files; search = search; members = None }))

pub sweeps : sweep_out (codes "--conflicts" ∷ codes "7" ∷ [])
    ≡ sweeps_by (told 8 (codes "out") 7 false)
unfolding clap_on_literals
sweeps = refl

pub sweeps_by_turns : sweep (codes "8" ∷ codes "out" ∷ codes "--seed=7" ∷ codes "--members"
    ∷ codes "3" ∷ [])
    ≡ Ok (Sweeps (record {
      files = four_files;
      search = told 8 (codes "out") 1_000_000 false;
      members = Some (record { count = 3; seed = 7 });
    }))
unfolding clap_on_literals
sweeps_by_turns = refl

pub sweep_seed_alone : sweep_out (codes "--seed" ∷ codes "3" ∷ []) ≡ Err Clash
unfolding clap_on_literals
sweep_seed_alone = refl

pub sweep_nine_members : sweep_out (codes "--members=9" ∷ []) ≡ Err Number
unfolding clap_on_literals
sweep_nine_members = refl

pub sweep_writes_over : job_of (codes "sweep" ∷ codes "a" ∷ codes "n" ∷ codes "p"
    ∷ codes "d.w3.cnf" ∷ codes "8" ∷ codes "d" ∷ []) ≡ Err Overwriting
unfolding clap_on_literals digits
sweep_writes_over = refl

-- no file of a width that is not tried
pub sweep_writes_beside : job_of (codes "sweep" ∷ codes "a" ∷ codes "n" ∷ codes "p"
    ∷ codes "d.w3.cnf" ∷ codes "2" ∷ codes "d" ∷ [])
    ≡ Ok (Sweeps (record {
      files = record four_files { route = codes "d.w3.cnf" };
      search = told 2 (codes "d") 1_000_000 false;
      members = None;
    }))
unfolding clap_on_literals digits
sweep_writes_beside = refl

pub sweep_reaches : sweep_out (codes "--reach" ∷ codes "2" ∷ [])
    ≡ sweeps_by (record (told 8 (codes "out") 1_000_000 false) { method = Within 2 })
unfolding clap_on_literals
sweep_reaches = refl

pub sweep_orders_and_reaches : sweep_out (codes "--symmetry" ∷ codes "--reach=2" ∷ []) ≡ Err Clash
unfolding clap_on_literals
sweep_orders_and_reaches = refl

pub sweep_pins_and_reaches : sweep_out (codes "--pin" ∷ codes "--reach=2" ∷ []) ≡ Err Clash
unfolding clap_on_literals
sweep_pins_and_reaches = refl

pub too_many_widths : sweep (codes "65" ∷ codes "out" ∷ []) ≡ Err Number
unfolding clap_on_literals
too_many_widths = refl

pub no_prefix : sweep (codes "8" ∷ []) ≡ Err Form
unfolding clap_on_literals
no_prefix = refl

-- `encode a n p r 5 out` and more words
abbrev encode : List Word → Asked
encode more = job_of (codes "encode" ∷ codes "a" ∷ codes "n" ∷ codes "p" ∷ codes "r"
    ∷ codes "5" ∷ codes "out" ∷ more)

-- the clauses by a method, and whether the variables are named
abbrev encodes : (method : Method) → (names : Bool) → Asked
encodes method names = Ok (Encodes (record {
  files = four_files;
  width = 5;
  prefix = codes "out";
  method = method;
  names = names;
}))

pub encode_keeps : encode (codes "--keep" ∷ []) ≡ Err Form
unfolding clap_on_literals
encode_keeps = refl

pub encode_pins : encode (codes "--pin" ∷ []) ≡ encodes Pinned false
unfolding clap_on_literals
encode_pins = refl

pub encode_reaches : encode (codes "--reach" ∷ codes "64" ∷ []) ≡ encodes (Within 64) false
unfolding clap_on_literals
encode_reaches = refl

-- the variables are named where that is asked for, but not within a reach
pub encode_names : encode (codes "--names" ∷ codes "--symmetry" ∷ []) ≡ encodes Ordered true
unfolding clap_on_literals
encode_names = refl

pub encode_tells_no_numbers : encode (codes "--stats" ∷ []) ≡ Err Form
unfolding clap_on_literals
encode_tells_no_numbers = refl

pub names_within : encode (codes "--names" ∷ codes "--reach=2" ∷ []) ≡ encodes (Within 2) true
unfolding clap_on_literals
names_within = refl

pub reach_too_far : encode (codes "--pin" ∷ codes "--reach=65" ∷ []) ≡ Err Number
unfolding clap_on_literals
reach_too_far = refl

pub pins_and_reaches : encode (codes "--pin" ∷ codes "--reach=2" ∷ []) ≡ Err Clash
unfolding clap_on_literals
pins_and_reaches = refl

-- `decode a n p r 5 m out` and more words
abbrev decode : List Word → Asked
decode more = job_of (codes "decode" ∷ codes "a" ∷ codes "n" ∷ codes "p" ∷ codes "r"
    ∷ codes "5" ∷ codes "m" ∷ codes "out" ∷ more)

pub decodes : decode (codes "--symmetry" ∷ [])
    ≡ Ok (Decodes (record {
      files = four_files;
      width = 5;
      model = codes "m";
      prefix = codes "out";
      method = Ordered;
    }))
unfolding clap_on_literals
decodes = refl

pub decodes_two_ways : decode (codes "--pin" ∷ codes "--symmetry" ∷ []) ≡ Err Clash
unfolding clap_on_literals
decodes_two_ways = refl

pub decodes_over_the_model : job_of (codes "decode" ∷ codes "a" ∷ codes "n" ∷ codes "p" ∷ codes "r"
    ∷ codes "5" ∷ codes "m.route" ∷ codes "m" ∷ []) ≡ Err Overwriting
unfolding clap_on_literals
decodes_over_the_model = refl

-- `core a n p r 5 out` and more words
abbrev core : List Word → Asked
core more = job_of (codes "core" ∷ codes "a" ∷ codes "n" ∷ codes "p" ∷ codes "r"
    ∷ codes "5" ∷ codes "out" ∷ more)

-- what it is asked without an option
abbrev usual_core : CoreAsked
usual_core = record {
  files = four_files;
  width = 5;
  prefix = codes "out";
  conflicts = 1_000_000;
  seconds = None;
  method = Strictly;
  stats = false;
}

pub blames : core (codes "--conflicts" ∷ codes "7" ∷ [])
    ≡ Ok (Blames (record usual_core { conflicts = 7 }))
unfolding clap_on_literals
blames = refl

pub blames_in_time : core (codes "--seconds=60" ∷ [])
    ≡ Ok (Blames (record usual_core { seconds = Some 60 }))
unfolding clap_on_literals
blames_in_time = refl

pub blames_with_numbers : core (codes "--stats" ∷ [])
    ≡ Ok (Blames (record usual_core { stats = true }))
unfolding clap_on_literals
blames_with_numbers = refl

pub blames_in_order : core (codes "--symmetry" ∷ [])
    ≡ Ok (Blames (record usual_core { method = Ordered }))
unfolding clap_on_literals
blames_in_order = refl

pub blames_two_ways : core (codes "--pin" ∷ codes "--symmetry" ∷ []) ≡ Err Clash
unfolding clap_on_literals
blames_two_ways = refl

pub blames_within : core (codes "--reach=2" ∷ []) ≡ Err Form
unfolding clap_on_literals
blames_within = refl

pub core_keeps : core (codes "--keep" ∷ []) ≡ Err Form
unfolding clap_on_literals
core_keeps = refl

pub checks : job_of (codes "check" ∷ codes "c" ∷ codes "-" ∷ [])
    ≡ Ok (Checks (record { cnf = codes "c"; lrat = codes "-" }))
unfolding clap_on_literals
checks = refl

-- `verify a n p r` and more words
abbrev verify : List Word → Asked
verify more = job_of (codes "verify" ∷ codes "a" ∷ codes "n" ∷ codes "p" ∷ codes "r" ∷ more)

-- the file f is judged at a width, within a reach or without, telling each cause or the first
abbrev verified : (width : ℕ) → (reach : Option ℕ) → (all : Bool) → Asked
verified width reach all = Ok (Verifies (record {
  files = four_files;
  width = width;
  routed = codes "f";
  reach = reach;
  all = all;
}))

pub verifies : verify (codes "64" ∷ codes "f" ∷ []) ≡ verified 64 None false
unfolding clap_on_literals
verifies = refl

pub verifies_within : verify (codes "5" ∷ codes "f" ∷ codes "--reach=64" ∷ [])
    ≡ verified 5 (Some 64) false
unfolding clap_on_literals
verifies_within = refl

-- each cause is told where that is asked for, wherever the option stands
pub verifies_all : verify (codes "--all" ∷ codes "5" ∷ codes "f" ∷ codes "--reach=64" ∷ [])
    ≡ verified 5 (Some 64) true
unfolding clap_on_literals
verifies_all = refl

pub verifies_too_far : verify (codes "5" ∷ codes "f" ∷ codes "--reach=65" ∷ []) ≡ Err Number
unfolding clap_on_literals
verifies_too_far = refl

pub no_routed : verify (codes "5" ∷ []) ≡ Err Form
unfolding clap_on_literals
no_routed = refl

pub routed_before_width : verify (codes "f" ∷ codes "5" ∷ []) ≡ Err Number
unfolding clap_on_literals
routed_before_width = refl

-- `judge a n p` and more words
abbrev judge : List Word → Asked
judge more = job_of (codes "judge" ∷ codes "a" ∷ codes "n" ∷ codes "p" ∷ more)

abbrev three_files : PlacedNames
three_files = record { architecture = codes "a"; netlist = codes "n"; placement = codes "p" }

-- a routed file that is judged at width 5, strictly or not
abbrev judges : (strict : Bool) → Asked
judges strict = Ok (Judges (record {
  files = three_files;
  width = 5;
  routed = codes "f";
  strict = strict;
}))

pub judges_freely : judge (codes "5" ∷ codes "f" ∷ []) ≡ judges false
unfolding clap_on_literals
judges_freely = refl

pub judges_strictly : judge (codes "--strict" ∷ codes "5" ∷ codes "f" ∷ []) ≡ judges true
unfolding clap_on_literals
judges_strictly = refl

pub judges_a_problem : judge (codes "r" ∷ codes "5" ∷ codes "f" ∷ []) ≡ Err Form
unfolding clap_on_literals
judges_a_problem = refl

pub judges_within : judge (codes "5" ∷ codes "f" ∷ codes "--reach=2" ∷ []) ≡ Err Form
unfolding clap_on_literals
judges_within = refl

pub judges_no_width : judge (codes "0" ∷ codes "f" ∷ []) ≡ Err Number
unfolding clap_on_literals
judges_no_width = refl

pub bounds : job_of (codes "bound" ∷ codes "a" ∷ codes "n" ∷ codes "p" ∷ [])
    ≡ Ok (Bounds (record { files = three_files }))
unfolding clap_on_literals
bounds = refl

pub bounds_a_width : job_of (codes "bound" ∷ codes "a" ∷ codes "n" ∷ codes "p" ∷ codes "5" ∷ [])
    ≡ Err Form
unfolding clap_on_literals
bounds_a_width = refl

-- `global a n p` and more words
abbrev global : List Word → Asked
global more = job_of (codes "global" ∷ codes "a" ∷ codes "n" ∷ codes "p" ∷ more)

-- `global a n p 5 out` and more words
abbrev global_out : List Word → Asked
global_out more = global (codes "5" ∷ codes "out" ∷ more)

-- what it is asked without an option
abbrev usual_global : GlobalAsked
usual_global = record {
  files = three_files;
  width = 5;
  prefix = codes "out";
  free = false;
  from = None;
  rounds = 500;
  seconds = None;
  stats = false;
}

pub negotiates : global_out [] ≡ Ok (Negotiates usual_global)
unfolding clap_on_literals
negotiates = refl

pub negotiates_from : global (codes "5" ∷ codes "--from" ∷ codes "r" ∷ codes "out" ∷ codes "--free"
    ∷ codes "--rounds=100000" ∷ [])
    ≡ Ok (Negotiates (record usual_global {
      free = true;
      from = Some (codes "r");
      rounds = 100_000;
    }))
unfolding clap_on_literals
negotiates_from = refl

pub negotiates_in_time : global_out (codes "--seconds=60" ∷ [])
    ≡ Ok (Negotiates (record usual_global { seconds = Some 60 }))
unfolding clap_on_literals
negotiates_in_time = refl

pub negotiates_with_numbers : global_out (codes "--stats" ∷ [])
    ≡ Ok (Negotiates (record usual_global { stats = true }))
unfolding clap_on_literals
negotiates_with_numbers = refl

pub negotiates_in_no_time : global_out (codes "--seconds=0" ∷ []) ≡ Err Number
unfolding clap_on_literals
negotiates_in_no_time = refl

pub negotiates_over : global (codes "5" ∷ codes "d" ∷ codes "--from=d.route" ∷ [])
    ≡ Err Overwriting
unfolding clap_on_literals
negotiates_over = refl

pub no_rounds : global_out (codes "--rounds=0" ∷ []) ≡ Err Number
unfolding clap_on_literals
no_rounds = refl

pub too_many_rounds : global_out (codes "--rounds=100001" ∷ []) ≡ Err Number
unfolding clap_on_literals
too_many_rounds = refl

pub no_global_prefix : global (codes "5" ∷ []) ≡ Err Form
unfolding clap_on_literals
no_global_prefix = refl

-- `least a n p` and more words
abbrev least : List Word → Asked
least more = job_of (codes "least" ∷ codes "a" ∷ codes "n" ∷ codes "p" ∷ more)

-- what `least a n p 64 out` asks
abbrev usual_least : LeastAsked
usual_least = record {
  files = three_files;
  last = 64;
  prefix = codes "out";
  free = false;
  from = None;
  rounds = 500;
  seconds = None;
  stats = false;
}

pub narrows : least (codes "64" ∷ codes "out" ∷ []) ≡ Ok (Narrows usual_least)
unfolding clap_on_literals
narrows = refl

pub narrows_from : least (codes "--rounds" ∷ codes "7" ∷ codes "5" ∷ codes "out" ∷ codes "--free"
    ∷ codes "--from=r" ∷ [])
    ≡ Ok (Narrows (record usual_least {
      last = 5;
      free = true;
      from = Some (codes "r");
      rounds = 7;
    }))
unfolding clap_on_literals
narrows_from = refl

pub narrows_in_time : least (codes "--seconds" ∷ codes "1000000" ∷ codes "64" ∷ codes "out" ∷ [])
    ≡ Ok (Narrows (record usual_least { seconds = Some 1_000_000 }))
unfolding clap_on_literals
narrows_in_time = refl

pub narrows_over : job_of (codes "least" ∷ codes "a" ∷ codes "d.route" ∷ codes "p" ∷ codes "5"
    ∷ codes "d" ∷ []) ≡ Err Overwriting
unfolding clap_on_literals
narrows_over = refl

pub too_wide_at_last : least (codes "65" ∷ codes "out" ∷ []) ≡ Err Number
unfolding clap_on_literals
too_wide_at_last = refl

-- `gen` and more words
abbrev gen : List Word → Asked
gen more = job_of (codes "gen" ∷ more)

pub generates : gen (codes "0" ∷ codes "100" ∷ codes "10000" ∷ codes "g" ∷ [])
    ≡ Ok (Generates (record {
      recipe = record { seed = 0; side = 100; nets = 10_000 };
      prefix = codes "g";
    }))
unfolding clap_on_literals
generates = refl

pub seed_too_great : gen (codes "2147483648" ∷ codes "1" ∷ codes "1" ∷ codes "g" ∷ []) ≡ Err Number
unfolding clap_on_literals
seed_too_great = refl

pub no_side : gen (codes "1" ∷ codes "0" ∷ codes "1" ∷ codes "g" ∷ []) ≡ Err Number
unfolding clap_on_literals
no_side = refl

pub gen_keeps : gen (codes "1" ∷ codes "2" ∷ codes "1" ∷ codes "g" ∷ codes "--keep" ∷ []) ≡ Err Form
unfolding clap_on_literals
gen_keeps = refl

-- `trial 1 6 30 10 t` and more words
abbrev trial : List Word → Asked
trial more = job_of (codes "trial" ∷ codes "1" ∷ codes "6" ∷ codes "30" ∷ codes "10" ∷ codes "t"
    ∷ more)

-- a trial of that problem
abbrev tries_by : SearchAsked → Asked
tries_by search = Ok (Tries (record {
  recipe = record { seed = 1; side = 6; nets = 30 };
  search = search;
}))

pub trial_pins : trial (codes "--pin" ∷ []) ≡ Err Form
unfolding clap_on_literals
trial_pins = refl

pub tries : trial (codes "--conflicts" ∷ codes "200" ∷ [])
    ≡ tries_by (told 10 (codes "t") 200 false)
unfolding clap_on_literals
tries = refl

pub tries_counting : trial (codes "--count" ∷ [])
    ≡ tries_by (record (told 10 (codes "t") 1_000_000 false) { count = true })
unfolding clap_on_literals
tries_counting = refl

pub tries_counting_within : trial (codes "--count" ∷ codes "--reach" ∷ codes "3" ∷ []) ≡ Err Clash
unfolding clap_on_literals
tries_counting_within = refl

pub encode_counts : encode (codes "--count" ∷ []) ≡ Err Form
unfolding clap_on_literals
encode_counts = refl

pub tries_within : trial (codes "--reach" ∷ codes "3" ∷ [])
    ≡ tries_by (record (told 10 (codes "t") 1_000_000 false) { method = Within 3 })
unfolding clap_on_literals
tries_within = refl
