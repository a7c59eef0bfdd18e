-- What the judging of a routed file leaves, by what its parts come to.
use Rattle.std.proofs.Common.{◌≡◌, ◌∙◌, ◌⊎◌, true, List, [], ◌∷◌, Option, None, Some, refl, sym, ap, subst, inl, inr}
use Rattle.std.specs.Prelude.{slice_get}
use Rattle.fpga_problem.specs.Sources.{Reads, Stops}
use Rattle.fpga_problem.specs.declared.unread.FileFault.TheVariants.{Text}
use Rattle.fpga_text.specs.declared.fault.TextFault.TheVariants.{Memory}
use Rattle.fpga_route.specs.Value.{route_value}
use Rattle.fpga_types.specs.declared.route.RouteNet.{RouteNet}
use Rattle.route_verify.specs.Reach.{judged_by}
use Rattle.route_verify.specs.declared.line_cause.LineCause.{LineCause}
use Rattle.run_checks.specs.Causes.{IsIllegal, LeavesVerified, TellsCauses, TellsLines, cause_lines}
use Rattle.run_checks.specs.Check.{VerifiesTo, judged_outcome}
use Rattle.run_outcome.specs.Report.{unread_outcome}
use Rattle.run_outcome.specs.Subject.{FailsToSay, FileFault, FileMap, after_say, Poses, RouteText, RoutingProblem, Says, ShelfState, Source, VerifyAsked, route_source}
use Rattle.run_outcome.specs.declared.outcome.Outcome.{Outcome}
use Rattle.run_outcome.specs.declared.outcome.Outcome.TheVariants.{LegalRoute, NotLegal, OutOfMemory, WriteFault}
use Rattle.run_outcome.specs.declared.slot.Slot.TheVariants.{Said}
use Rattle.run_outcome.specs.declared.text_file.TextFile.{TextFile}
use Rattle.run_outcome.proofs.StopLaws.{HoldsOfStops, unread-holds}

-- what keeps a run from its work is no judgement
stops-lawful : HoldsOfStops (λ o. ¬ IsIllegal o)
stops-lawful = record {
  memory = λ bad. bad;
  read = λ file bad. bad;
  input = λ file line code bad. bad;
  limit = λ file code count bad. bad;
}

pub unread-lawful : (file : TextFile) (fault : FileFault) (o : Outcome)
    → o ≡ unread_outcome file fault → ¬ IsIllegal o
unread-lawful file fault o is =
    subst (λ (o : Outcome). ¬ IsIllegal o) (sym is)
    (unread-holds (λ o. ¬ IsIllegal o) stops-lawful file fault)

module _ (stops : Source → FileFault → Type 0) (files : Option FileMap) (job : VerifyAsked)
    (p : RoutingProblem) (poses : Poses files job.files p) (found : RouteText)
    (reads : Says files (route_source job.routed) route_value found)
    (memory : stops (route_source job.routed) (Text Memory)) where
  -- the routed file was judged, or memory ran out
  pub judged-to : (o : Outcome)
      → (o ≡ OutOfMemory) ⊎ (o ≡ judged_outcome (judged_by job.reach job.width p found))
      → VerifiesTo stops files job o
  judged-to o (inl spent) =
      inr (p, poses, Stops (record { fault = Text Memory; because = memory; tells = spent }))
  judged-to o (inr is) = inr (p, poses, Reads found reads is)

  -- each cause against it was told, or there was none, or memory ran out
  pub told-to : (before now : ShelfState) (o : Outcome) → job.all ≡ true
      → TellsCauses job.reach job.width p found before now o
      → LeavesVerified stops files job before now o
  told-to before now o all (inl (spent, same)) = inl (
    judged-to o (inl spent),
    same,
    λ asked. subst (λ (o : Outcome). ¬ IsIllegal o) (sym spent) (λ bad. bad),
  )
  told-to before now o all (inr ([], are, told)) = inl (
    judged-to o (inr (told.0 ∙ ap judged_outcome (sym are.first))),
    told.1,
    λ asked. subst (λ (o : Outcome). ¬ IsIllegal o) (sym told.0) (λ bad. bad),
  )
  told-to before now o all (inr (first ∷ more, are, says)) = inr (
    record {
      all = all;
      p = p;
      poses = poses;
      found = found;
      reads = reads;
      first = first;
      more = more;
      are = are;
    },
    says,
  )

module _ (nets : List RouteNet) (before now : ShelfState) where
  -- there is no first cause
  pub no-lines : (causes : List LineCause) → None ≡ slice_get causes 0 → now ≡ before
      → TellsLines nets causes before now LegalRoute
  no-lines [] none same = (refl, same)
  no-lines (cause ∷ causes) none same = absurd (let clash : None ≡ Some cause = none in cc)

  -- there is one, and all lines were said
  pub said-lines : (causes : List LineCause) (first : LineCause) → Some first ≡ slice_get causes 0
      → now ≡ after_say before (cause_lines nets causes)
      → TellsLines nets causes before now (NotLegal first.line first.cause)
  said-lines [] first some said = absurd (let clash : Some first ≡ None = some in cc)
  said-lines (cause ∷ causes) first some said =
      let one : first ≡ cause = cc in
      inl (said, ap (λ (at : LineCause). NotLegal at.line at.cause) one)

  -- or a front part of them was
  pub cut-lines : (causes : List LineCause) (first : LineCause) (o : Outcome)
      → Some first ≡ slice_get causes 0 → FailsToSay before (cause_lines nets causes) now
      → o ≡ WriteFault Said → TellsLines nets causes before now o
  cut-lines [] first o some fails is = absurd (let clash : Some first ≡ None = some in cc)
  cut-lines (cause ∷ causes) first o some fails is = inr (fails, is)
