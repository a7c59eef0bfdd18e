-- What the words of a command ask for.
use Rattle.std.specs.Prelude.{ℕ, Bool, false, Option, option_map}
use Rattle.fpga_problem.specs.Files.{FileNames, PlacedNames, names_said, placed_names_said}
use Rattle.router_words.specs.Word.{Word}
use Rattle.router_words.specs.declared.job.BoundJob.{BoundJob}
use Rattle.router_words.specs.declared.job.CheckJob.{CheckJob}
use Rattle.router_words.specs.declared.job.CoreJob.{CoreJob}
use Rattle.router_words.specs.declared.job.DecodeJob.{DecodeJob}
use Rattle.router_words.specs.declared.job.EncodeJob.{EncodeJob}
use Rattle.router_words.specs.declared.job.GenJob.{GenJob}
use Rattle.router_words.specs.declared.job.GlobalJob.{GlobalJob}
use Rattle.router_words.specs.declared.job.Job.{Job}
use Rattle.router_words.specs.declared.job.Job.TheVariants.{Bound, Check, Core, Decode, Encode, Gen, Global, Judge, Least, Route, Sweep, Trial, Verify}
use Rattle.router_words.specs.declared.job.JudgeJob.{JudgeJob}
use Rattle.router_words.specs.declared.job.LeastJob.{LeastJob}
use Rattle.router_words.specs.declared.job.Members.{Members}
use Rattle.router_words.specs.declared.job.Recipe.{Recipe}
use Rattle.router_words.specs.declared.job.RouteJob.{RouteJob}
use Rattle.router_words.specs.declared.job.SearchJob.{SearchJob}
use Rattle.router_words.specs.declared.job.SweepJob.{SweepJob}
use Rattle.router_words.specs.declared.job.TrialJob.{TrialJob}
use Rattle.router_words.specs.declared.job.VerifyJob.{VerifyJob}
use Rattle.router_words.specs.declared.method.Method.{Method}

-- what a search is told: the width, or the greatest one that is tried; what the names of written
-- files begin with; how many clauses may be learned at each width, after how many seconds searches
-- are stopped, if they are, and whether no clause is deleted; whether a width that numbers alone
-- forbid is refuted by counting; how routings are said by clauses; and whether the numbers of the
-- run are told
pub record SearchAsked : Type 0 where
  pub width : ℕ
  pub prefix : Word
  pub conflicts : ℕ
  pub seconds : Option ℕ
  pub keep : Bool
  pub count : Bool
  pub method : Method
  pub stats : Bool

-- searches that take turns: how many, and the number by which their order is drawn
pub record MembersAsked : Type 0 where
  pub count : ℕ
  pub seed : ℕ

-- to look for a routing: the files, what the search is told, and the searches that take turns,
-- where there is not one alone
pub record RouteAsked : Type 0 where
  pub files : FileNames
  pub search : SearchAsked
  pub members : Option MembersAsked

-- to look for the least width that has a routing: the same, at each width
pub record SweepAsked : Type 0 where
  pub files : FileNames
  pub search : SearchAsked
  pub members : Option MembersAsked

-- to write the clauses: the files, the width, what the name of the written file begins with, how
-- routings are said by clauses, and whether the variables are named before them
pub record EncodeAsked : Type 0 where
  pub files : FileNames
  pub width : ℕ
  pub prefix : Word
  pub method : Method
  pub names : Bool

-- to make a route of a model: the files, the width, the name of the file with the model, what the
-- name of the written file begins with, and how routings are said by the clauses that it satisfies
pub record DecodeAsked : Type 0 where
  pub files : FileNames
  pub width : ℕ
  pub model : Word
  pub prefix : Word
  pub method : Method

-- to look for a routing, or else for the nets to blame: the files, the width, what the names of
-- written files begin with, how many clauses may be learned, after how many seconds the search is
-- stopped, if it is, how routings are said by clauses, and whether the numbers of the run are told
pub record CoreAsked : Type 0 where
  pub files : FileNames
  pub width : ℕ
  pub prefix : Word
  pub conflicts : ℕ
  pub seconds : Option ℕ
  pub method : Method
  pub stats : Bool

-- to check a refutation: the names of the CNF file and of the LRAT file
pub record CheckAsked : Type 0 where
  pub cnf : Word
  pub lrat : Word

-- to judge a routed file: the files of the problem, the width, the name of the routed file, within
-- how many joins of wires a net is to reach its sinks, where it may have several wires of a cell,
-- and whether each cause against the file is told
pub record VerifyAsked : Type 0 where
  pub files : FileNames
  pub width : ℕ
  pub routed : Word
  pub reach : Option ℕ
  pub all : Bool

-- to judge a routed file as a routing of a placement: the files of the placed netlist, the width,
-- the name of the routed file, and whether each net may have one wire of a cell alone
pub record JudgeAsked : Type 0 where
  pub files : PlacedNames
  pub width : ℕ
  pub routed : Word
  pub strict : Bool

-- to say how many tracks a placement needs at least: its files
pub record BoundAsked : Type 0 where
  pub files : PlacedNames

-- to look for a route of a placement together with its tracks: the files of the placed netlist, the
-- width, what the name of the written file begins with, whether a net may have several wires of a
-- cell, the file with the route to begin with, if there is one, after how many rounds to give up,
-- after how many seconds the search is stopped, if it is, and whether the numbers of the run are
-- told
pub record GlobalAsked : Type 0 where
  pub files : PlacedNames
  pub width : ℕ
  pub prefix : Word
  pub free : Bool
  pub from : Option Word
  pub rounds : ℕ
  pub seconds : Option ℕ
  pub stats : Bool

-- to look for the least width that has a route of a placement: the files of the placed netlist, the
-- greatest width that is tried, what the name of the written file begins with, whether a net may
-- have several wires of a cell, the file with the route to begin with, if there is one, after how
-- many rounds to give up at a width, after how many seconds searches are stopped, if they are, and
-- whether the numbers of the run are told
pub record LeastAsked : Type 0 where
  pub files : PlacedNames
  pub last : ℕ
  pub prefix : Word
  pub free : Bool
  pub from : Option Word
  pub rounds : ℕ
  pub seconds : Option ℕ
  pub stats : Bool

-- what a generated problem is made from: a number, how many logic blocks each side of its array
-- has, and how many nets it has
pub record RecipeAsked : Type 0 where
  pub seed : ℕ
  pub side : ℕ
  pub nets : ℕ

-- to write a generated problem: what it is made from, and what the names of its files begin with
pub record GenAsked : Type 0 where
  pub recipe : RecipeAsked
  pub prefix : Word

-- to look for the least width that has a routing of a generated problem: what that is made from,
-- and what the searches are told
pub record TrialAsked : Type 0 where
  pub recipe : RecipeAsked
  pub search : SearchAsked

-- what is asked for
pub data JobAsked : Type 0 where
  Routes : RouteAsked → JobAsked
  Sweeps : SweepAsked → JobAsked
  Encodes : EncodeAsked → JobAsked
  Decodes : DecodeAsked → JobAsked
  Blames : CoreAsked → JobAsked
  Checks : CheckAsked → JobAsked
  Verifies : VerifyAsked → JobAsked
  Judges : JudgeAsked → JobAsked
  Bounds : BoundAsked → JobAsked
  Negotiates : GlobalAsked → JobAsked
  Narrows : LeastAsked → JobAsked
  Generates : GenAsked → JobAsked
  Tries : TrialAsked → JobAsked

-- ---- what a job says, by the bytes of its words

abbrev pub search_said : SearchJob → SearchAsked
search_said search = record {
  width = search.width;
  prefix = search.prefix.now;
  conflicts = search.conflicts;
  seconds = search.seconds;
  keep = search.keep;
  count = search.count;
  method = search.method;
  stats = search.stats;
}

abbrev pub members_said : Members → MembersAsked
members_said members = record { count = members.count; seed = members.seed }

abbrev pub turns_said : SearchJob × Option Members → SearchAsked × Option MembersAsked
turns_said told = (search_said told.0, option_map members_said told.1)

abbrev pub route_said : RouteJob → RouteAsked
route_said job = record {
  files = names_said job.files;
  search = search_said job.search;
  members = option_map members_said job.members;
}

abbrev pub sweep_said : SweepJob → SweepAsked
sweep_said job = record {
  files = names_said job.files;
  search = search_said job.search;
  members = option_map members_said job.members;
}

abbrev pub encode_said : EncodeJob → EncodeAsked
encode_said job = record {
  files = names_said job.files;
  width = job.width;
  prefix = job.prefix.now;
  method = job.method;
  names = job.names;
}

abbrev pub decode_said : DecodeJob → DecodeAsked
decode_said job = record {
  files = names_said job.files;
  width = job.width;
  model = job.model.now;
  prefix = job.prefix.now;
  method = job.method;
}

abbrev pub core_said : CoreJob → CoreAsked
core_said job = record {
  files = names_said job.files;
  width = job.width;
  prefix = job.prefix.now;
  conflicts = job.conflicts;
  seconds = job.seconds;
  method = job.method;
  stats = job.stats;
}

abbrev pub check_said : CheckJob → CheckAsked
check_said job = record { cnf = job.cnf.now; lrat = job.lrat.now }

abbrev pub verify_said : VerifyJob → VerifyAsked
verify_said job = record {
  files = names_said job.files;
  width = job.width;
  routed = job.routed.now;
  reach = job.reach;
  all = job.all;
}

abbrev pub judge_said : JudgeJob → JudgeAsked
judge_said job = record {
  files = placed_names_said job.files;
  width = job.width;
  routed = job.routed.now;
  strict = job.strict;
}

abbrev pub bound_said : BoundJob → BoundAsked
bound_said job = record { files = placed_names_said job.files }

abbrev pub global_said : GlobalJob → GlobalAsked
global_said job = record {
  files = placed_names_said job.files;
  width = job.width;
  prefix = job.prefix.now;
  free = job.free;
  from = option_map (λ word. word.now) job.from;
  rounds = job.rounds;
  seconds = job.seconds;
  stats = job.stats;
}

abbrev pub least_said : LeastJob → LeastAsked
least_said job = record {
  files = placed_names_said job.files;
  last = job.last;
  prefix = job.prefix.now;
  free = job.free;
  from = option_map (λ word. word.now) job.from;
  rounds = job.rounds;
  seconds = job.seconds;
  stats = job.stats;
}

abbrev pub recipe_said : Recipe → RecipeAsked
recipe_said recipe = record { seed = recipe.seed; side = recipe.side; nets = recipe.nets }

abbrev pub gen_said : GenJob → GenAsked
gen_said job = record { recipe = recipe_said job.recipe; prefix = job.prefix.now }

abbrev pub trial_said : TrialJob → TrialAsked
trial_said job = record { recipe = recipe_said job.recipe; search = search_said job.search }

abbrev pub job_said : Job → JobAsked
job_said (Route job) = Routes (route_said job)
job_said (Sweep job) = Sweeps (sweep_said job)
job_said (Encode job) = Encodes (encode_said job)
job_said (Decode job) = Decodes (decode_said job)
job_said (Core job) = Blames (core_said job)
job_said (Check job) = Checks (check_said job)
job_said (Verify job) = Verifies (verify_said job)
job_said (Judge job) = Judges (judge_said job)
job_said (Bound job) = Bounds (bound_said job)
job_said (Global job) = Negotiates (global_said job)
job_said (Least job) = Narrows (least_said job)
job_said (Gen job) = Generates (gen_said job)
job_said (Trial job) = Tries (trial_said job)

-- ---- what is asked of a job

-- the numbers of the run are to be told
abbrev pub asks_stats : JobAsked → Bool
asks_stats (Routes job) = job.search.stats
asks_stats (Sweeps job) = job.search.stats
asks_stats (Blames job) = job.stats
asks_stats (Negotiates job) = job.stats
asks_stats (Narrows job) = job.stats
asks_stats (Tries job) = job.search.stats
asks_stats job = false
