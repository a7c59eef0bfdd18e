-- What most pages here speak of: files, desks and shelves, problems, clauses and logs, jobs, and
-- the outcomes of runs.
pub use Rattle.desk_io.specs.DeskState.{DeskState}
pub use Rattle.desk_io.specs.Files.{Bytes, FileMap}
pub use Rattle.desk_io.specs.ShelfState.{FailsToSay, ShelfState, after_say}
pub use Rattle.fpga_problem.specs.Files.{FileNames, Poses}
pub use Rattle.fpga_problem.specs.Sources.{IsHalted, IsStopped, ReadsThen, Says, Source, route_source}
pub use Rattle.fpga_problem.specs.declared.unread.FileFault.{FileFault}
pub use Rattle.fpga_types.specs.Problem.{RoutingProblem}
pub use Rattle.fpga_types.specs.declared.route.RouteText.{RouteText}
pub use Rattle.route_sweep.specs.Found.{HasFew}
pub use Rattle.sat_clause.specs.Formula.{Cnf}
pub use Rattle.sat_clause.specs.Step.{Step}
pub use Rattle.router_words.specs.Command.{job_of}
pub use Rattle.router_words.specs.Job.{BoundAsked, CheckAsked, CoreAsked, DecodeAsked, EncodeAsked, GenAsked, GlobalAsked, JobAsked, JudgeAsked, LeastAsked, RecipeAsked, RouteAsked, SearchAsked, SweepAsked, TrialAsked, VerifyAsked, Blames, Bounds, Checks, Decodes, Encodes, Generates, Judges, Narrows, Negotiates, Routes, Sweeps, Tries, Verifies}
pub use Rattle.router_words.specs.Word.{Word}
pub use Rattle.router_words.specs.declared.method.Method.{Method}
pub use Rattle.router_words.specs.declared.method.Method.TheVariants.{Ordered, Pinned, Strictly, Within}
