-- What the decoding of a model leaves, read from an earlier state of the desk.
use Rattle.std.proofs.Common.{◌≡◌, Option, subst, inl, inr}
use Rattle.fpga_problem.specs.declared.unread.FileFault.{FileFault}
use Rattle.fpga_problem.proofs.SourceLemmas.{stop-before}
use Rattle.run_clauses.specs.Decode.{DecodeLeaves, DecodesProblem, LeavesClauses, LeavesModel}
use Rattle.run_outcome.specs.Subject.{DeskState, FileMap, ShelfState, IsStopped, Source, RoutingProblem, RouteText, Cnf, DecodeAsked}
use Rattle.run_outcome.specs.declared.outcome.Outcome.{Outcome}

module _ (stops others : Source → FileFault → Type 0) (files : Option FileMap) (job : DecodeAsked)
    (kept : (source : Source) (fault : FileFault) → stops source fault → others source fault)
    (before now : ShelfState) (o : Outcome) where
  -- where a reading that stops so also stops otherwise, so does the work
  model-kept : (formula : Cnf) (good : RouteText → Type 0)
      → LeavesModel stops files job formula good before now o
      → LeavesModel others files job formula good before now o
  model-kept formula good (inl (stop, same)) = inl (
    record { fault = stop.fault; because = kept _ stop.fault stop.because; tells = stop.tells },
    same,
  )
  model-kept formula good (inr h) = inr h

  clauses-kept : (formula : Cnf) (good : RouteText → Type 0)
      → LeavesClauses stops files job formula good before now o
      → LeavesClauses others files job formula good before now o
  clauses-kept formula good (inl h) = inl h
  clauses-kept formula good (inr (few, h)) = inr (few, model-kept formula good h)

  problem-kept : (p : RoutingProblem) → DecodesProblem stops files job p before now o
      → DecodesProblem others files job p before now o
  problem-kept p h = record {
    given = h.given;
    narrow = h.narrow;
    crowd = h.crowd;
    known = h.known;
    left = clauses-kept _ _ h.left;
  }

  pub leaves-kept : (p : RoutingProblem) → DecodeLeaves stops files job p before now o
      → DecodeLeaves others files job p before now o
  leaves-kept p (inl h) = inl h
  leaves-kept p (inr (suits, inl h)) = inr (suits, inl h)
  leaves-kept p (inr (suits, inr h)) = inr (suits, inr (problem-kept p h))

-- what is left by a later state of the desk that tells the same is left by the earlier one
pub leaves-before : (desk between now : DeskState) (job : DecodeAsked) (p : RoutingProblem)
    (before after : ShelfState) (o : Outcome) → between.files ≡ desk.files
    → between.faults ≡ desk.faults
    → DecodeLeaves (IsStopped between now) between.files job p before after o
    → DecodeLeaves (IsStopped desk now) desk.files job p before after o
leaves-before desk between now job p before after o files faults h =
    subst (λ (f : Option FileMap). DecodeLeaves (IsStopped desk now) f job p before after o) files
    (leaves-kept (IsStopped between now) (IsStopped desk now) between.files job
    (λ source fault stopped. stop-before between now desk source fault files faults stopped)
    before after o p h)
