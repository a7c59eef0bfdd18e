-- What is said of an outcome that was not asked for, or of which there is more to say.
use Rattle.std.specs.Prelude.{◌≡◌, ℕ, ◌++◌, ◌*◌, Bool, List, [], codes, decimal, false, min, nat_le, nat_lt, Option, Some, None, true, if◌then◌else◌}
use Rattle.std.specs.declared.io.ErrorKind.{ErrorKind}
use Rattle.code_words.specs.Errors.{error_phrase}
use Rattle.code_words.specs.Refused.{judged_said, limit_said, line_said, step_said}
use Rattle.desk_io.specs.DeskState.{DeskState}
use Rattle.fpga_problem.specs.Files.{FileNames}
use Rattle.fpga_types.specs.Problem.{RoutingProblem}
use Rattle.fpga_types.specs.declared.limits.TheConstants.{WIDTH_LIMIT}
use Rattle.problem_facts.specs.declared.full.Asymmetry.{Asymmetry}
use Rattle.problem_facts.specs.declared.full.Asymmetry.TheVariants.{Inputs, Outputs, Pads, Pattern}
use Rattle.route_sweep.specs.Names.{numbered_prefix}
use Rattle.router_says.specs.AtFault.{Shows, sought_of}
use Rattle.router_says.specs.Names.{asked_in, file_said, may_have_several, name_of, prefix_of, reach_of}
use Rattle.router_says.specs.Raised.{raised_said}
use Rattle.router_says.specs.Seen.{Sees}
use Rattle.router_says.specs.declared.sought.Sought.TheVariants.{Routed as RoutedLine}
use Rattle.router_says.specs.Unfound.{no_way_said, unfound_said}
use Rattle.usage_words.specs.Usage.{usage_said}
use Rattle.router_says.specs.declared.faults.SystemErrors.{SystemErrors}
use Rattle.router_says.specs.declared.phrases.TheConstants.{ASKS, ASKS_CLAUSES, ASKS_CUT, ASKS_REFUTED, ASYMMETRY_AT, ASYMMETRY_FORBIDS, ASYMMETRY_INPUTS, ASYMMETRY_NOT_SUBSET, ASYMMETRY_OTHER_PATTERN, ASYMMETRY_OUTPUTS, ASYMMETRY_PADS, ASYMMETRY_SO, BOUND_ANY_ROUTE, BOUND_CELLS, BOUND_CROSSING, BOUND_ROUTING, FAULT_CLAUSE, FAULT_NO_MODEL, FILE_CLAUSES, FILE_LOG, FILE_STANDARD_OUTPUT, FILE_UNREAD, FILE_UNWRITTEN, LEAST_FOR, LEAST_FOUND, LOG_CHECK, LOG_CHECK_LAST, LOG_EACH_CLAUSES, LOG_EACH_REFUTES, LOG_REFUTES, MEMORY_NOTHING, MEMORY_REFUTED, MEMORY_WIDTHS, NEAR_FOR, NEAR_NEEDS, OPEN_BUDGET_SPENT, OPEN_LEARNED, OPEN_ROUTING, OPEN_TIME_OVER, OPTION_PIN, OPTION_SYMMETRY, REACH_JOINS, REACH_WITHIN, REFUTED_ROUTING, REFUTED_UP_TO, ROUTE_GIVEN, ROUTE_OTHERS, TO, TRACKS, TRACKS_LEGAL, TRY_ANOTHER_SOLVER, TRY_CONFLICTS, TRY_GREATER_WIDTH, TRY_HAND, TRY_NO_BUDGET, TRY_OR, TRY_OTHER_WIDTH, TRY_SECONDS}
use Rattle.run_outcome.specs.SlotNames.{OfEach, OfOne, Prefix, slot_name}
use Rattle.run_outcome.specs.Stopped.{budget_asked}
use Rattle.run_outcome.specs.declared.outcome.Obstacle.{Obstacle}
use Rattle.run_outcome.specs.declared.outcome.Obstacle.TheVariants.{Order, Pins}
use Rattle.run_outcome.specs.declared.outcome.Outcome.{Outcome}
use Rattle.run_outcome.specs.declared.outcome.Outcome.TheVariants.{Bound, NotAccepted, NotLegal, NotModel, NotSymmetric, InputFault, Limit, ReadFault, Undecided, Unroutable, WriteFault, Usage, OutOfMemory, Unfound, NoWay, Narrowed, Beyond}
use Rattle.run_outcome.specs.declared.ran.Reason.{Reason}
use Rattle.run_outcome.specs.declared.slot.Slot.{Slot as SlotOf}
use Rattle.run_outcome.specs.declared.slot.Slot.TheVariants.{Said as SaidSlot}
use Rattle.run_outcome.specs.declared.text_file.TextFile.{TextFile}
use Rattle.run_outcome.specs.declared.text_file.TextFile.TheVariants.{Lrat, Model, Routed}
use Rattle.router_words.specs.Job.{JobAsked, Routes, Sweeps}
use Rattle.router_words.specs.Word.{Word}
use Rattle.router_words.specs.declared.limits.TheConstants.{BUDGET_LIMIT}

-- what is said first: the file that is meant, by the name that the words give
abbrev pub about_said : Option JobAsked → TextFile → List ℕ
about_said asked file = file_said file (name_of asked file)

-- the clause that a model leaves unsatisfied, and of which clauses it is one
abbrev pub unmet_said : (clause : ℕ) → List ℕ
unmet_said clause = FAULT_CLAUSE.now ++ (decimal clause ++ FAULT_NO_MODEL.now)

-- the file that holds what passes its limit, if one does
abbrev pub limit_place : Option JobAsked → Option TextFile → List ℕ
limit_place asked (Some file) = about_said asked file ++ codes ": "
limit_place asked None = []

-- what keeps tracks from being alike enough: the switch blocks, of which this is said, or the boxes
abbrev pub lack_said : (blocks : List ℕ) → Asymmetry → List ℕ
lack_said blocks Pattern = blocks
lack_said blocks Outputs = ASYMMETRY_OUTPUTS.now
lack_said blocks Inputs = ASYMMETRY_INPUTS.now
lack_said blocks Pads = ASYMMETRY_PADS.now

-- what keeps tracks from being pinned or kept in order
abbrev pub reason_said : Obstacle → List ℕ
reason_said (Pins why) = lack_said ASYMMETRY_NOT_SUBSET.now why
reason_said (Order why) = lack_said ASYMMETRY_OTHER_PATTERN.now why

-- the option that asks for it
abbrev pub option_said : Obstacle → List ℕ
option_said (Pins why) = OPTION_PIN.now
option_said (Order why) = OPTION_SYMMETRY.now

-- at which width tracks are not alike enough, what keeps them from it, and which option can't be
-- used
abbrev pub obstacle_said : (width : ℕ) → Obstacle → List ℕ
obstacle_said width why =
    ASYMMETRY_AT.now ++ (decimal width ++ (TRACKS.now ++ (reason_said why
    ++ (ASYMMETRY_SO.now ++ (option_said why ++ ASYMMETRY_FORBIDS.now)))))

-- ---- a search that found no routing

-- within how many joins, where a reach was given
abbrev pub reach_said : (reach : Option ℕ) → List ℕ
reach_said (Some reach) = REACH_WITHIN.now ++ decimal reach ++ REACH_JOINS.now
reach_said None = []

-- how a log is checked against its clauses
abbrev pub check_one_said : (prefix : List ℕ) → List ℕ
check_one_said prefix =
    LOG_CHECK.now ++ (prefix ++ (FILE_CLAUSES.now ++ (codes " " ++ (prefix ++ FILE_LOG.now))))

-- what shows it
abbrev pub log_one_said : (prefix : List ℕ) → List ℕ
log_one_said prefix =
    codes ": " ++ (prefix ++ (FILE_LOG.now ++ (LOG_REFUTES.now ++ (prefix ++ (FILE_CLAUSES.now
    ++ codes ".")))))

-- that, and how it is checked
abbrev pub refuted_one_said : (prefix : List ℕ) → List ℕ
refuted_one_said prefix = log_one_said prefix ++ check_one_said prefix

abbrev pub refuted_each_said : (prefix : List ℕ) → List ℕ
refuted_each_said prefix =
    codes ": " ++ (prefix ++ (LOG_EACH_REFUTES.now ++ (prefix ++ LOG_EACH_CLAUSES.now)))

abbrev pub check_each_said : (name : List ℕ) → List ℕ
check_each_said name =
    LOG_CHECK_LAST.now ++ (name ++ (FILE_CLAUSES.now ++ (codes " " ++ (name ++ FILE_LOG.now))))

abbrev pub refuted_said : Option Prefix → (width : ℕ) → List ℕ
refuted_said (Some (OfOne prefix)) width = refuted_one_said prefix
refuted_said (Some (OfEach prefix)) width =
    refuted_each_said prefix ++ check_each_said (numbered_prefix prefix width)
refuted_said None width = codes "."

-- a climb has refuted the lower widths too
abbrev pub up_to_said : Option Prefix → List ℕ
up_to_said (Some (OfEach prefix)) = REFUTED_UP_TO.now
up_to_said _ = []

-- what is claimed, with these words before the width
abbrev pub claim_said : (up_to : List ℕ) → (width : ℕ) → List ℕ
claim_said up_to width = REFUTED_ROUTING.now ++ (up_to ++ (decimal width ++ TRACKS_LEGAL.now))

abbrev pub unroutable_by : Option Prefix → (reach : Option ℕ) → (width : ℕ) → List ℕ
unroutable_by prefix reach width =
    claim_said (up_to_said prefix) width ++ (reach_said reach ++ refuted_said prefix width)

-- that is so of the global route that was given; of all routes of the placement another command
-- speaks
abbrev pub elsewhere_by : FileNames → (prefix : List ℕ) → (width : ℕ) → List ℕ
elsewhere_by files prefix width =
    ROUTE_GIVEN.now ++ (files.route ++ (ROUTE_OTHERS.now ++ (files.architecture
    ++ (codes " " ++ (files.netlist ++ (codes " " ++ (files.placement ++ (codes " "
    ++ (decimal width ++ (codes " " ++ prefix))))))))))

abbrev pub elsewhere_said : Option JobAsked → (width : ℕ) → List ℕ
elsewhere_said (Some (Routes ask)) width = elsewhere_by ask.files ask.search.prefix width
elsewhere_said (Some (Sweeps ask)) width = elsewhere_by ask.files ask.search.prefix width
elsewhere_said asked width = []

abbrev pub unroutable_said : Option JobAsked → (width : ℕ) → List ℕ
unroutable_said asked width =
    unroutable_by (prefix_of asked) (reach_of asked) width ++ elsewhere_said asked width

-- the budget that can be tried next: ten times as much, but no more than the words take
abbrev pub more_said : (budget : ℕ) → List ℕ
more_said budget = TRY_CONFLICTS.now ++ (decimal budget ++ TRY_OR.now)

abbrev pub budget_said : (learned : ℕ) → List ℕ
budget_said learned =
    if nat_le BUDGET_LIMIT learned then TRY_NO_BUDGET.now
    else more_said (min (learned * 10) BUDGET_LIMIT)

-- the search of the job was stopped before its budget was spent
abbrev pub was_stopped : Option JobAsked → (learned : ℕ) → Bool
was_stopped None learned = false
was_stopped (Some job) learned = nat_lt learned (budget_asked job)

-- more time can be tried, where it was stopped, or else another budget
abbrev pub effort_said : (stopped : Bool) → (learned : ℕ) → List ℕ
effort_said stopped learned =
    if stopped then TRY_SECONDS.now ++ TRY_OR.now else budget_said learned

-- a greater width can be tried, where the words take one
abbrev pub greater_said : (width : ℕ) → List ℕ
greater_said width =
    if nat_lt width WIDTH_LIMIT then TRY_OR.now ++ TRY_GREATER_WIDTH.now else codes "."

-- the clauses can be handed on
abbrev pub hand_one_said : (prefix : List ℕ) → List ℕ
hand_one_said prefix =
    TRY_HAND.now ++ (prefix ++ (FILE_CLAUSES.now ++ (TRY_ANOTHER_SOLVER.now ++ (TRY_OR.now
    ++ TRY_OTHER_WIDTH.now))))

abbrev pub hand_each_said : (name : List ℕ) → (width : ℕ) → List ℕ
hand_each_said name width =
    TRY_HAND.now ++ (name ++ (FILE_CLAUSES.now ++ (TRY_ANOTHER_SOLVER.now ++ greater_said width)))

abbrev pub next_said : Option Prefix → (stopped : Bool) → (width learned : ℕ) → List ℕ
next_said (Some (OfOne prefix)) stopped width learned =
    effort_said stopped learned ++ hand_one_said prefix
next_said (Some (OfEach prefix)) stopped width learned =
    effort_said stopped learned ++ hand_each_said (numbered_prefix prefix width) width
next_said None stopped width learned = []

-- what has ended the search
abbrev pub end_said : (stopped : Bool) → List ℕ
end_said stopped = if stopped then OPEN_TIME_OVER.now else OPEN_BUDGET_SPENT.now

abbrev pub open_said : (stopped : Bool) → (learned : ℕ) → List ℕ
open_said stopped learned = OPEN_LEARNED.now ++ (decimal learned ++ end_said stopped)

abbrev pub undecided_by : Option Prefix → (reach : Option ℕ) → (stopped : Bool)
    → (width learned : ℕ) → List ℕ
undecided_by prefix reach stopped width learned =
    (OPEN_ROUTING.now ++ (decimal width ++ TRACKS_LEGAL.now))
    ++ (reach_said reach ++ (open_said stopped learned ++ next_said prefix stopped width learned))

abbrev pub undecided_said : Option JobAsked → (width learned : ℕ) → List ℕ
undecided_said asked width learned =
    undecided_by (prefix_of asked) (reach_of asked) (was_stopped asked learned) width learned

-- ---- a cut that was found

-- how many tracks it asks for, and why
abbrev pub bound_said : (tracks cells nets : ℕ) → List ℕ
bound_said tracks cells nets =
    BOUND_ROUTING.now ++ (decimal tracks ++ (BOUND_ANY_ROUTE.now ++ (decimal nets
    ++ (BOUND_CROSSING.now ++ (decimal cells ++ BOUND_CELLS.now)))))

-- the width that was found is the least of the placement, or how near that it is
abbrev pub found_said : (is_open : Bool) → (tracks width : ℕ) → List ℕ
found_said is_open tracks width =
    if is_open then NEAR_NEEDS.now ++ (decimal tracks ++ (TO.now ++ (decimal width ++ TRACKS.now)))
    else decimal width ++ LEAST_FOUND.now

-- which of these numbers is asked for
abbrev pub for_said : (is_open : Bool) → List ℕ
for_said is_open = if is_open then NEAR_FOR.now else LEAST_FOR.now

-- that clauses ask for it, which a log refutes, and how that is checked
abbrev pub log_said : (prefix asked_for : List ℕ) → List ℕ
log_said prefix asked_for =
    (ASKS_CLAUSES.now ++ (ASKS_REFUTED.now ++ (prefix ++ (FILE_LOG.now ++ (codes ","
    ++ (ASKS.now ++ asked_for)))))) ++ check_one_said prefix

abbrev pub clauses_said : Option Prefix → (asked_for : List ℕ) → List ℕ
clauses_said (Some (OfOne prefix)) asked_for = log_said prefix asked_for
clauses_said _ asked_for = ASKS_CLAUSES.now ++ (ASKS.now ++ asked_for)

-- what asks for so many tracks: clauses, where they are more than the cut asks for
abbrev pub asker_said : Option Prefix → (is_raised : Bool) → (asked_for : List ℕ) → List ℕ
asker_said prefix is_raised asked_for =
    if is_raised then clauses_said prefix asked_for else ASKS_CUT.now ++ asked_for

abbrev pub narrowed_by : Option Prefix → (is_raised is_open : Bool) → (tracks width : ℕ) → List ℕ
narrowed_by prefix is_raised is_open tracks width =
    found_said is_open tracks width ++ asker_said prefix is_raised (for_said is_open)

abbrev pub narrowed_said : Option JobAsked → (tracks width cut : ℕ) → List ℕ
narrowed_said asked tracks width cut =
    narrowed_by (prefix_of asked) (nat_lt cut tracks) (nat_lt tracks width) tracks width

-- ---- what failed

abbrev pub memory_said : Option Prefix → List ℕ
memory_said (Some (OfEach prefix)) = MEMORY_WIDTHS.now ++ prefix ++ MEMORY_REFUTED.now
memory_said _ = MEMORY_NOTHING.now

-- why the system refused it, where it told
abbrev pub error_said : Option ErrorKind → List ℕ
error_said (Some kind) = codes ": " ++ error_phrase kind
error_said None = []

-- a file can't be read
abbrev pub unread_said : Option ErrorKind → List ℕ
unread_said error = FILE_UNREAD.now ++ error_said error

-- what is written, by its name; a job that writes no files says its lines alone
abbrev pub slot_said : Option Prefix → SlotOf → List ℕ
slot_said (Some prefix) slot = slot_name prefix slot
slot_said None slot = FILE_STANDARD_OUTPUT.now

-- the last error of the system on what is written
abbrev pub error_on : SlotOf → SystemErrors → Option ErrorKind
error_on SaidSlot errors = errors.saying
error_on slot errors = errors.writing

-- what is written can't be
abbrev pub refused_said : Option Prefix → SlotOf → Option ErrorKind → List ℕ
refused_said prefix slot error =
    slot_said prefix slot ++ (FILE_UNWRITTEN.now ++ error_said error)

abbrev pub unwritten_said : Option Prefix → SlotOf → SystemErrors → List ℕ
unwritten_said prefix slot errors = refused_said prefix slot (error_on slot errors)

-- ---- the whole

-- this is said, and the desk is as before
abbrev pub JustSays : (before now : DeskState) → (text said : List ℕ) → Type 0
JustSays before now text said = (said ≡ text) × (now ≡ before)

-- this is said, and something behind it
abbrev pub SaysAnd : (IsMore : List ℕ → Type 0) → (text said : List ℕ) → Type 0
SaysAnd IsMore text said = (more : List ℕ) × IsMore more × (said ≡ text ++ more)

-- what is said of each outcome, up to the newline at its end: which file is meant, what is wrong
-- there and why, and what can be tried. What is at fault in a file is named, or its line stands
-- there, for which it is read once more; and of a width it is told what is seen without a search of
-- the problem that was worked on, if one was
abbrev pub Says : (before now : DeskState) → List Word → Option JobAsked → SystemErrors
    → Option RoutingProblem → Outcome → List ℕ → Type 0
Says before now words asked errors problem (NotAccepted step cause) said =
    JustSays before now (about_said asked Lrat ++ step_said step cause) said
Says before now words asked errors problem (NotLegal line cause) said =
    SaysAnd (Shows before now (name_of asked) Routed line RoutedLine)
    (about_said asked Routed ++ judged_said (may_have_several asked) line cause) said
Says before now words asked errors problem (NotModel clause) said =
    JustSays before now (about_said asked Model ++ unmet_said clause) said
Says before now words asked errors problem (InputFault file line code) said =
    SaysAnd (Shows before now (name_of asked) file line (sought_of file code))
    (about_said asked file ++ line_said line code) said
Says before now words asked errors problem (Limit file code count) said =
    JustSays before now (limit_place asked file ++ limit_said code count) said
Says before now words asked errors problem (NotSymmetric width why) said =
    JustSays before now (obstacle_said width why) said
Says before now words asked errors problem (Unroutable width) said =
    SaysAnd (Sees problem asked width false) (unroutable_said asked width) said × (now ≡ before)
Says before now words asked errors problem (Undecided width learned) said =
    SaysAnd (Sees problem asked width true) (undecided_said asked width learned) said
    × (now ≡ before)
Says before now words asked errors problem (Bound tracks cells nets) said =
    JustSays before now (bound_said tracks cells nets) said
Says before now words asked errors problem (Narrowed tracks width cut) said =
    JustSays before now (narrowed_said asked tracks width cut) said
Says before now words asked errors problem (Beyond tracks cells nets) said =
    JustSays before now (bound_said tracks cells nets) said
Says before now words asked errors problem (Unfound width rounds stopped) said =
    JustSays before now (unfound_said asked width rounds stopped) said
Says before now words asked errors problem (NoWay width) said =
    JustSays before now (no_way_said width) said
Says before now words asked errors problem (Usage code) said =
    JustSays before now (usage_said words code) said
Says before now words asked errors problem (ReadFault file) said =
    JustSays before now (about_said asked file ++ unread_said errors.reading) said
Says before now words asked errors problem (WriteFault slot) said =
    JustSays before now (unwritten_said (prefix_of asked) slot errors) said
Says before now words asked errors problem OutOfMemory said =
    JustSays before now (memory_said (prefix_of asked)) said
Says before now words asked errors problem _ said = JustSays before now [] said

-- after what stood in a text comes what is to be said of a run with these words, then which nets
-- need so many tracks, where that is the reason, and a newline
abbrev pub IsSaid : (before now : DeskState) → List Word → SystemErrors → Option RoutingProblem
    → Option Reason → Outcome → (old new : List ℕ) → Type 0
IsSaid before now words errors problem reason outcome old new = (said : List ℕ)
    × Says before now words (asked_in words) errors problem outcome said
    × (new ≡ old ++ said ++ raised_said reason outcome ++ codes "\n")
