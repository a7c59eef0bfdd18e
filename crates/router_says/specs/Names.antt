-- The names of the files that a job reads, as its words give them.
use Rattle.std.specs.Prelude.{ℕ, ◌++◌, Bool, false, not, is_some, List, codes, Option, Some, None, Result, Ok, Err, option_and_then, option_map}
use Rattle.fpga_problem.specs.Files.{FileNames, PlacedNames}
use Rattle.fpga_problem.specs.declared.text_file.TextFile.TheVariants.{Architecture, Netlist, Placement, Route}
use Rattle.run_outcome.specs.Report.{file_word}
use Rattle.router_says.specs.declared.names.Written.{Written}
use Rattle.router_says.specs.declared.names.Written.TheVariants.{Each, One}
use Rattle.router_says.specs.declared.phrases.TheConstants.{FILE}
use Rattle.run_outcome.specs.SlotNames.{OfEach, OfOne, Prefix, prefix_given}
use Rattle.run_outcome.specs.declared.text_file.TextFile.{TextFile}
use Rattle.run_outcome.specs.declared.text_file.TextFile.TheVariants.{Cnf, Lrat, Model, Problem, Routed}
use Rattle.router_words.specs.Command.{job_of}
use Rattle.router_words.specs.Job.{CheckAsked, DecodeAsked, JobAsked, JudgeAsked, VerifyAsked, Routes, Sweeps, Decodes, Encodes, Blames, Bounds, Checks, Judges, Narrows, Negotiates, Verifies, Generates, Tries, job_said}
use Rattle.router_words.specs.Word.{Word}
use Rattle.router_words.specs.declared.fault.Refusal.{Refusal}
use Rattle.router_words.specs.declared.job.Job.{Job}
use Rattle.router_words.specs.declared.method.Method.{Method}
use Rattle.router_words.specs.declared.method.Method.TheVariants.{Within}

-- the name among those of a problem's four files
abbrev pub name_of_four : FileNames → TextFile → Option Word
name_of_four files (Problem Architecture) = Some files.architecture
name_of_four files (Problem Netlist) = Some files.netlist
name_of_four files (Problem Placement) = Some files.placement
name_of_four files (Problem Route) = Some files.route
name_of_four files _ = None

-- the name among those of the clauses and of their log
abbrev pub name_of_two : CheckAsked → TextFile → Option Word
name_of_two ask Cnf = Some ask.cnf
name_of_two ask Lrat = Some ask.lrat
name_of_two ask _ = None

-- the name of the routed file, or among those of the problem
abbrev pub name_of_five : VerifyAsked → TextFile → Option Word
name_of_five ask Routed = Some ask.routed
name_of_five ask file = name_of_four ask.files file

-- the name of the model, or among those of the problem
abbrev pub name_of_decoded : DecodeAsked → TextFile → Option Word
name_of_decoded ask Model = Some ask.model
name_of_decoded ask file = name_of_four ask.files file

-- the name among those of a placed netlist's three files
abbrev pub name_of_three : PlacedNames → TextFile → Option Word
name_of_three files (Problem Architecture) = Some files.architecture
name_of_three files (Problem Netlist) = Some files.netlist
name_of_three files (Problem Placement) = Some files.placement
name_of_three files _ = None

-- the name of the routed file, or among those of the placed netlist
abbrev pub name_of_judged : JudgeAsked → TextFile → Option Word
name_of_judged ask Routed = Some ask.routed
name_of_judged ask file = name_of_three ask.files file

-- the name of the route that a search begins with, or among those of the placed netlist
abbrev pub name_of_begun : PlacedNames → (from : Option Word) → TextFile → Option Word
name_of_begun files from (Problem Route) = from
name_of_begun files from file = name_of_three files file

-- the name that is given for a file, if the job reads it
abbrev pub name_given : JobAsked → TextFile → Option Word
name_given (Routes ask) file = name_of_four ask.files file
name_given (Sweeps ask) file = name_of_four ask.files file
name_given (Encodes ask) file = name_of_four ask.files file
name_given (Blames ask) file = name_of_four ask.files file
name_given (Checks ask) file = name_of_two ask file
name_given (Decodes ask) file = name_of_decoded ask file
name_given (Verifies ask) file = name_of_five ask file
name_given (Judges ask) file = name_of_judged ask file
name_given (Bounds ask) file = name_of_three ask.files file
name_given (Negotiates ask) file = name_of_begun ask.files ask.from file
name_given (Narrows ask) file = name_of_begun ask.files ask.from file
name_given (Generates ask) file = None
name_given (Tries ask) file = None

-- what words ask for, where they ask for a job
abbrev pub asked_of : Result JobAsked Refusal → Option JobAsked
asked_of (Ok ask) = Some ask
asked_of (Err refusal) = None

abbrev pub asked_in : List Word → Option JobAsked
asked_in words = asked_of (job_of words)

-- what a job asks for, if there is one
abbrev pub asked : Option Job → Option JobAsked
asked job = option_map job_said job

-- the name that is given for a file, if a job is asked for that reads it
abbrev pub name_of : Option JobAsked → TextFile → Option Word
name_of (Some ask) file = name_given ask file
name_of None file = None

-- within how many joins of wires nets are to reach their sinks, where that is asked for
abbrev pub reach_by : Method → Option ℕ
reach_by (Within reach) = Some reach
reach_by _ = None

abbrev pub reach_given : JobAsked → Option ℕ
reach_given (Routes ask) = reach_by ask.search.method
reach_given (Sweeps ask) = reach_by ask.search.method
reach_given (Encodes ask) = reach_by ask.method
reach_given (Decodes ask) = reach_by ask.method
reach_given (Verifies ask) = ask.reach
reach_given (Tries ask) = reach_by ask.search.method
reach_given _ = None

abbrev pub reach_of : Option JobAsked → Option ℕ
reach_of asked = option_and_then reach_given asked

-- the job judges a routed file in which nets may have several wires of a cell
abbrev pub has_several : JobAsked → Bool
has_several (Verifies ask) = is_some ask.reach
has_several (Judges ask) = not ask.strict
has_several _ = false

abbrev pub may_have_several : Option JobAsked → Bool
may_have_several (Some ask) = has_several ask
may_have_several None = false

-- what the job begins the names of the files with that it writes, if it writes some
abbrev pub prefix_of : Option JobAsked → Option Prefix
prefix_of asked = option_and_then prefix_given asked

abbrev pub prefix_said : Written → Prefix
prefix_said (One prefix) = OfOne prefix.now
prefix_said (Each prefix) = OfEach prefix.now

-- the kind of a file, and the name that was given for it
abbrev pub file_said : TextFile → Option Word → List ℕ
file_said file (Some name) = file_word file ++ (FILE.now ++ (codes " " ++ name))
file_said file None = file_word file ++ FILE.now
