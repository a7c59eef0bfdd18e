-- Where no fault has risen, what a run leaves is true, or memory ran out.
use Rattle.std.specs.Prelude.{None, Some}
use Rattle.std.proofs.Common.{◌≡◌, ◌∙◌, ◌⊎◌, ℕ, ◌<◌, ◌≤◌, List, [], ◌∷◌, Option, Ok, Err, Result, refl, sym, ap, subst, inl, inr, arith, length}
use Rattle.desk_io.specs.Files.{HasRisen}
use Rattle.desk_io.specs.WholeFile.{FailsToWrite, after_writing}
use Rattle.desk_io.proofs.FileLemmas.{has_risen}
use Rattle.route_sweep.specs.Asked.{Asked}
use Rattle.route_sweep.specs.Climb.{IsRefuted}
use Rattle.route_sweep.specs.Found.{FailsOn}
use Rattle.route_sweep.specs.declared.found.FileSlot.{FileSlot}
use Rattle.route_sweep.specs.declared.found.FileSlot.TheVariants.{Route as RouteSlot, Clauses, Log}
use Rattle.route_sweep.specs.declared.found.Found.{Found}
use Rattle.route_sweep.specs.declared.found.Found.TheVariants.{Routed as IsRouted, Refuted, Spent}
use Rattle.route_sweep.specs.declared.found.Stop.{Stop}
use Rattle.route_sweep.specs.declared.found.Stop.TheVariants.{Fault, TooManyClauses, TooManyHeld, Memory}
use Rattle.route_ways.specs.Way.{MayEndAfter}
use Rattle.route_ways.proofs.WayLaws.{way-ends}
use Rattle.sat_clause.specs.declared.limits.TheConstants.{CLAUSE_LIMIT}
use Rattle.run_outcome.specs.SizeCauses.{size_code}
use Rattle.run_outcome.specs.declared.size_cause.SizeCause.TheVariants.{FormulaClauses, ClausesOfTurns}
use Rattle.run_outcome.specs.Written.{FailsAmong, WritesFiles, JobFile}
use Rattle.router_top.specs.Comes.{EndsSearch}
use Rattle.run_clauses.specs.Method.{IsRoutingBy}
use Rattle.run_outcome.specs.Report.{found_outcome, line_of}
use Rattle.router_top.specs.Run.{Runs}
use Rattle.run_outcome.specs.Scene.{Scene, scene}
use Rattle.router_top.specs.Search.{Search, clauses_held, clauses_at}
use Rattle.router_top.specs.Truth.{AgreeByCrowd, IsComplete, IsReached, IsTrueAt, IsTrueOf, IsTrueOfCount}
use Rattle.router_top.specs.Work.{Finds}
use Rattle.run_outcome.specs.Subject.{DeskState, Bytes, FileMap, ShelfState, after_say, RouteText, Cnf, Step, Word}
use Rattle.run_outcome.specs.declared.outcome.Outcome.{Outcome}
use Rattle.run_outcome.specs.declared.outcome.Outcome.TheVariants.{Routed, Unroutable, Undecided, Limit, OutOfMemory}
use Rattle.run_outcome.specs.declared.slot.Slot.{Slot}
use Rattle.router_top.proofs.AgreeLaws.{outcomes-agree}
use Rattle.router_top.proofs.Came.{Came, Cut, HasCome, HasWritten, Idle, Searched, Told, Wrote, ended_with}
use Rattle.router_top.proofs.EndLaws.{refutes-none}
use Rattle.run_outcome.proofs.WrittenLaws.{faults-after}
use Rattle.run_clauses.proofs.MethodLaws.{one-legal}

-- ---- the shelf's count of faults

-- a count that has risen twice has risen
risen-then : (a b c : ℕ) → a ≤ b → HasRisen b c → HasRisen a c
risen-then a b c h g = record {
  later = omega (arith, h, g.later);
  more = elim g.more [ inl below ↦ inl (omega (arith, h, below)) | inr end ↦ inr end ];
}

write-risen : (before : ShelfState) (name text : Bytes) (now : ShelfState) →
    FailsToWrite before name text now → HasRisen before.faults now.faults
write-risen before name text now (inl h) = has_risen _ _ h.risen
write-risen before name text now (inr h) = has_risen _ _ h.risen

faults-same : (before now : ShelfState) → now ≡ before → before.faults ≤ now.faults
faults-same before now e = omega (arith, ap (λ (s : ShelfState). s.faults) e)

-- the shelf's count of faults has not fallen, and where it has not risen, the outcome has the
-- property, or memory ran out
record Settles (before now : ShelfState) (says : Outcome → Type 0) (o : Outcome) : Type 0 where
  kept : before.faults ≤ now.faults
  settled : ¬ HasRisen before.faults now.faults → says o ⊎ (o ≡ OutOfMemory)

module _ (before now : ShelfState) (says : Outcome → Type 0) (o : Outcome) where
  by-fault : HasRisen before.faults now.faults → Settles before now says o
  by-fault h = record { kept = h.later; settled = λ quiet. absurd (quiet h) }

  by-word : before.faults ≤ now.faults → says o → Settles before now says o
  by-word kept h = record { kept = kept; settled = λ quiet. inl h }

-- ---- what the work has come to

module _ (ask : Asked) (width : ℕ) (formula : Cnf) (good : RouteText → Type 0)
    (Ends : List Step → Type 0) (before now : ShelfState) where
  fails-risen : (slot : FileSlot) → FailsOn ask width formula good Ends before now slot →
      HasRisen before.faults now.faults
  fails-risen RouteSlot h = write-risen before _ _ now h.fails
  fails-risen (Clauses of) h = write-risen before _ _ now h.fails.1
  fails-risen (Log of) h = write-risen _ _ _ now h.fails.1

among-risen : (files : List JobFile) (before now : ShelfState) (slot : Slot)
    → FailsAmong files before now slot → HasRisen before.faults now.faults
among-risen [] before now slot h = absurd h
among-risen (file ∷ files) before now slot (inl h) =
    write-risen before file.name file.text now h.1
among-risen (file ∷ files) before now slot (inr h) =
    among-risen files (after_writing before file.name file.text) now slot h

module _ (words : List Word) (at : Scene) (calm : ¬ HasRisen at.desk.faults at.desk_now.faults)
  where
    -- what is true of the words and the files
    abbrev Says : Outcome → Type 0
    Says = IsTrueOf words at.desk.files

    abbrev SettlesHere : Outcome → Type 0
    SettlesHere = Settles at.shelf at.shelf_now Says

    -- a search that has come to a width, on this shelf
    module _ (wrote : ShelfState) (faults : at.shelf_now.faults ≡ wrote.faults) (o : Outcome)
        (h : HasCome words (ended_with wrote at) o) where
      abbrev search : Search
      search = h.comes.search

      reached : IsReached search h.comes.p h.width
      reached = record {
        crowd = h.comes.crowd;
        from = h.comes.from;
        to = h.comes.to;
        lower = λ k from high.
            let refuted = h.comes.lower k from high in (refuted.held, refuted.none_legal);
      }

      -- an outcome that is true of the width
      true-there : (says : Outcome)
          → IsTrueOfCount FormulaClauses
          (length (clauses_at search h.width h.comes.p).clauses)
          (IsTrueOfCount ClausesOfTurns (clauses_held search h.width h.comes.p)
          (IsTrueAt search h.comes.p h.width says) says) says
          → wrote.faults ≡ h.between.faults → SettlesHere says
      true-there says there same = by-word at.shelf at.shelf_now Says says
          (omega (arith, faults, same, h.calm)) (h.told says (h.width, reached, there))

      found-settles : (came : Result Found Stop)
          → Finds search h.comes.p h.width h.between wrote came
          → (IsRefuted came → h.width ≡ search.last) → SettlesHere (found_outcome h.width came)
      found-settles (Ok IsRouted) f last = true-there (Routed h.width)
          (inr (
            f.0.few,
            inr (
              f.0.all,
              inl (
                one-legal search.method h.width h.comes.p f.1.found h.given h.comes.poses.fits
                    f.1.routing,
                refl,
              ),
            ),
          ))
          (ap (λ (s : ShelfState). s.faults) f.1.written)
      found-settles (Ok (Refuted lead)) f last = true-there (Unroutable h.width)
          (inr (
            f.0.few,
            inr (
              f.0.all,
              inr (inl (
                refutes-none search h.width h.comes.p f.1.log lead.items h.given
                    h.comes.poses.fits h.comes.crowd f.1.ends,
                last tt,
                refl,
              )),
            ),
          ))
          (ap (λ (s : ShelfState). s.faults) f.1.written)
      found-settles (Ok (Spent learned)) f last = true-there (Undecided h.width learned)
          (inr (
            f.0.few,
            inr (
              f.0.all,
              inr (inr (
                learned,
                subst (MayEndAfter search.way) (sym f.1.ends.many)
                    (way-ends search.way h.comes.p h.width
                    (clauses_at search h.width h.comes.p) f.1.log f.1.ends.opens),
                refl,
              )),
            ),
          ))
          (ap (λ (s : ShelfState). s.faults) f.1.written)
      found-settles (Err (Fault slot)) f last =
          by-fault at.shelf at.shelf_now Says (found_outcome h.width (Err (Fault slot)))
          (subst (λ (n : ℕ). HasRisen at.shelf.faults n) (sym faults)
          (subst (λ (n : ℕ). HasRisen n wrote.faults) h.calm
          (fails-risen search.ask h.width (clauses_at search h.width h.comes.p)
          (IsRoutingBy search.method h.width h.comes.p)
          (EndsSearch search h.comes.p h.width)
          h.between wrote slot f.1)))
      found-settles (Err (TooManyClauses count)) f last = true-there
          (Limit None (size_code FormulaClauses) count)
          (inl (
            subst (λ (n : ℕ). CLAUSE_LIMIT < n) f.0.0 f.0.1,
            ap (Limit None (size_code FormulaClauses)) f.0.0,
          ))
          (ap (λ (s : ShelfState). s.faults) f.1)
      found-settles (Err (TooManyHeld count)) f last = true-there
          (Limit None (size_code ClausesOfTurns) count)
          (inr (
            f.0.0,
            inl (
              subst (λ (n : ℕ). CLAUSE_LIMIT < n) f.0.1 f.0.2,
              ap (Limit None (size_code ClausesOfTurns)) f.0.1,
            ),
          ))
          (ap (λ (s : ShelfState). s.faults) f.1)
      found-settles (Err Memory) f last = record {
        kept = omega (arith, faults, ap (λ (s : ShelfState). s.faults) f.1, h.calm);
        settled = λ quiet. inr refl;
      }

    -- files in a row
    files-settle : (o : Outcome) (h : HasWritten words at o)
        → WritesFiles h.done h.files h.between at.shelf_now o → SettlesHere o
    files-settle o h (inl done) = by-word at.shelf at.shelf_now Says o
        (omega (
          arith,
          ap (λ (s : ShelfState). s.faults) done.1,
          faults-after h.files h.between,
          h.calm,
        ))
        (subst Says (sym done.0) h.told)
    files-settle o h (inr fails) = by-fault at.shelf at.shelf_now Says o
        (subst (λ (n : ℕ). HasRisen n at.shelf_now.faults) h.calm
        (among-risen h.files h.between at.shelf_now fails.0 fails.1))

    came-settles : (o : Outcome) → Came words at o → SettlesHere o
    came-settles o (Idle h) = record {
      kept = faults-same at.shelf at.shelf_now h.same;
      settled = λ quiet. h.told calm;
    }
    came-settles o (Searched h) = subst SettlesHere (sym h.come.is)
        (found-settles h.wrote h.faults o h.come h.come.came h.come.finds h.come.last)
    came-settles o (Wrote h) = files-settle o h h.writes
    came-settles o (Told h) = record {
      kept = omega (arith, h.faults);
      settled = λ quiet. h.told;
    }
    came-settles o (Cut h) = by-fault at.shelf at.shelf_now Says o h.risen

-- ---- a run

-- where neither count of faults has risen, a run has said its report
said : (words : List Word) (desk desk_now : DeskState) (shelf now : ShelfState) (answer : Outcome)
    (r : Runs words desk desk_now shelf now answer) → shelf.faults ≤ r.between.faults
    → ¬ HasRisen shelf.faults now.faults
    → (answer ≡ r.outcome) × (now ≡ after_say r.between (line_of r.outcome))
said words desk desk_now shelf now answer r kept quiet = elim r.reports [
  | inl h ↦ h
  | inr h ↦ absurd (quiet (risen-then shelf.faults r.between.faults now.faults kept
      (has_risen _ _ h.1.failed.risen)))
]

pub runs-complete : (words : List Word) (desk desk_now : DeskState) (shelf now : ShelfState)
    (answer : Outcome) (r : Runs words desk desk_now shelf now answer)
    → Came words (scene desk desk_now shelf r.between) r.outcome
    → IsComplete words desk desk_now shelf now answer
runs-complete words desk desk_now shelf now answer r came = λ o files told true_of calm quiet.
    let at = scene desk desk_now shelf r.between in
    let settles = came-settles words at calm r.outcome came in
    let done = said words desk desk_now shelf now answer r settles.kept quiet in
    let faults = ap (λ (s : ShelfState). s.faults) done.1 in
    elim (settles.settled
    (λ risen. quiet (subst (λ (n : ℕ). HasRisen shelf.faults n) (sym faults) risen))) [
      | inl h ↦ (let true_too =
          subst (λ (f : Option FileMap). IsTrueOf words f r.outcome) told h in
          inl (subst (λ (a : Outcome).
          IsTrueOf words (Some files) a × AgreeByCrowd words files a o) (sym done.0)
          (true_too, λ crowd. outcomes-agree crowd words files r.outcome o)))
      | inr spent ↦ inr (done.0 ∙ spent)
    ]
