-- The numbers of a run are whole ones.
use Rattle.std.proofs.Common.{◌≡◌, ℕ, false, Option, Some, None, refl}
use Rattle.serde_json.specs.Written.{has_float}
use Rattle.run_stats.specs.Data.{formula_data, log_data, number_data, problem_data, route_data, stats_data}
use Rattle.run_stats.specs.declared.problem_size.ProblemSize.{ProblemSize}
use Rattle.run_stats.specs.declared.sizes.FormulaSize.{FormulaSize}
use Rattle.run_stats.specs.declared.sizes.LogSize.{LogSize}
use Rattle.run_stats.specs.declared.sizes.RouteSize.{RouteSize}
use Rattle.run_stats.specs.declared.stats.Stats.{Stats}

number-whole : (number : Option ℕ) → has_float (number_data number) ≡ false
number-whole (Some n) = refl
number-whole None = refl

problem-whole : (size : Option ProblemSize) → has_float (problem_data size) ≡ false
problem-whole (Some size) = refl
problem-whole None = refl

formula-whole : (size : Option FormulaSize) → has_float (formula_data size) ≡ false
formula-whole (Some size) = refl
formula-whole None = refl

log-whole : (size : Option LogSize) → has_float (log_data size) ≡ false
log-whole (Some size) = refl
log-whole None = refl

route-whole : (size : Option RouteSize) → has_float (route_data size) ≡ false
route-whole (Some size) = refl
route-whole None = refl

pub stats-whole : (stats : Stats) → has_float (stats_data stats) ≡ false
stats-whole stats =
    rw (
      formula-whole stats.formula,
      number-whole stats.kibibytes.clauses,
      number-whole stats.kibibytes.reading,
      number-whole stats.kibibytes.run,
      number-whole stats.kibibytes.search,
      log-whole stats.log,
      number-whole stats.milliseconds.clauses,
      number-whole stats.milliseconds.reading,
      number-whole stats.milliseconds.run,
      number-whole stats.milliseconds.search,
      problem-whole stats.problem,
      number-whole stats.restarts,
      number-whole stats.rounds,
      route-whole stats.route,
      number-whole stats.width,
    ) refl
