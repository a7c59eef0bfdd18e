-- The numbers of a run as JSON.
use Rattle.std.specs.Prelude.{ℕ, ◌++◌, List, Option, Some, None, codes}
use Rattle.serde_json.specs.Data.{Data, member, no_members, null, number, object, unsigned}
use Rattle.serde_json.specs.Written.{compact_text}
use Rattle.run_stats.specs.declared.sizes.FormulaSize.{FormulaSize}
use Rattle.run_stats.specs.declared.sizes.LogSize.{LogSize}
use Rattle.run_stats.specs.declared.problem_size.ProblemSize.{ProblemSize}
use Rattle.run_stats.specs.declared.sizes.RouteSize.{RouteSize}
use Rattle.run_stats.specs.declared.stats.Stages.{Stages}
use Rattle.run_stats.specs.declared.stats.Stats.{Stats}

-- a number, or null where it is not known
abbrev pub number_data : Option ℕ → Data
number_data (Some n) = number (unsigned n)
number_data None = null

-- how large the problem is, or null
abbrev pub problem_data : Option ProblemSize → Data
problem_data None = null
problem_data (Some size) = object
    (member (codes "fullest_cell") (number (unsigned size.fullest_cell))
    (member (codes "greatest_crowd") (number (unsigned size.greatest_crowd))
    (member (codes "pairs") (number (unsigned size.pairs))
    (member (codes "slots") (number (unsigned size.slots))
    (member (codes "steps") (number (unsigned size.steps)) no_members)))))

-- how large the clauses are, or null
abbrev pub formula_data : Option FormulaSize → Data
formula_data None = null
formula_data (Some size) = object
    (member (codes "clauses") (number (unsigned size.clauses))
    (member (codes "variables") (number (unsigned size.variables)) no_members))

-- how large the log is, or null
abbrev pub log_data : Option LogSize → Data
log_data None = null
log_data (Some size) = object
    (member (codes "deleted") (number (unsigned size.deleted))
    (member (codes "hints") (number (unsigned size.hints))
    (member (codes "learned") (number (unsigned size.learned)) no_members)))

-- how large the route is, or null
abbrev pub route_data : Option RouteSize → Data
route_data None = null
route_data (Some size) = object
    (member (codes "tracks_used") (number (unsigned size.tracks_used))
    (member (codes "wire_length") (number (unsigned size.wire_length)) no_members))

-- the number of each stage, or null
abbrev pub stages_data : Stages → Data
stages_data stages = object
    (member (codes "clauses") (number_data stages.clauses)
    (member (codes "reading") (number_data stages.reading)
    (member (codes "run") (number_data stages.run)
    (member (codes "search") (number_data stages.search) no_members))))

-- all numbers
abbrev pub stats_data : Stats → Data
stats_data stats = object
    (member (codes "formula") (formula_data stats.formula)
    (member (codes "kibibytes") (stages_data stats.kibibytes)
    (member (codes "log") (log_data stats.log)
    (member (codes "milliseconds") (stages_data stats.milliseconds)
    (member (codes "problem") (problem_data stats.problem)
    (member (codes "restarts") (number_data stats.restarts)
    (member (codes "rounds") (number_data stats.rounds)
    (member (codes "route") (route_data stats.route)
    (member (codes "width") (number_data stats.width) no_members)))))))))

-- the line that has them
abbrev pub stats_line : Stats → List ℕ
stats_line stats = compact_text (stats_data stats) ++ codes "\n"
