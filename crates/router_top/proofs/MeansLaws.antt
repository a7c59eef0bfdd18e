-- What the answer of a run means.
use Rattle.std.proofs.Common.{◌≡◌, ◌∙◌, ℕ, List, [], ◌∷◌, ◌++◌, Option, Ok, Err, Result, refl, sym, ap, subst, inl, inr}
use Rattle.std.specs.Prelude.{Vec}
use Rattle.std.specs.Global.{Global}
use Rattle.route_sweep.specs.Climb.{IsRefuted as IsRefutation}
use Rattle.route_sweep.specs.declared.found.Found.{Found}
use Rattle.route_sweep.specs.declared.found.Found.TheVariants.{Routed as IsRoutedThere, Refuted, Spent}
use Rattle.route_sweep.specs.declared.found.Stop.{Stop}
use Rattle.route_sweep.specs.declared.found.Stop.TheVariants.{Fault, TooManyClauses, TooManyHeld, Memory}
use Rattle.route_ways.specs.Way.{MayEndAfter}
use Rattle.route_ways.proofs.WayLaws.{way-ends}
use Rattle.router_top.specs.Comes.{lower_files}
use Rattle.run_outcome.specs.Written.{WritesFiles, AreWritten, JobFile, with_files}
use Rattle.router_top.specs.Headline.{IsRefuted}
use Rattle.router_top.specs.Means.{Means}
use Rattle.run_outcome.specs.Report.{found_outcome, unsaid}
use Rattle.router_top.specs.Run.{Runs}
use Rattle.run_outcome.specs.Scene.{Scene, scene}
use Rattle.router_top.specs.Search.{proof_files, route_file, clauses_at}
use Rattle.router_top.specs.Work.{Finds}
use Rattle.run_outcome.specs.Subject.{DeskState, FileMap, ShelfState, Word}
use Rattle.run_outcome.specs.declared.outcome.Outcome.{Outcome}
use Rattle.run_outcome.specs.declared.outcome.Outcome.TheVariants.{WriteFault}
use Rattle.router_top.proofs.Came.{Came, Cut, HasCome, HasWritten, Idle, Searched, Told, Wrote, ended_with}
use Rattle.router_top.proofs.EndLaws.{refuted-at}
use Rattle.run_outcome.proofs.WrittenLaws.{files-after, AreApart, are-written, with_files-append}
use Rattle.run_clauses.proofs.MethodLaws.{routing-printable}

module _ (words : List Word) (at : Scene) where
  -- what an outcome means behind this work
  abbrev MeansHere : Outcome → Type 0
  MeansHere = Means words at.desk.files at.shelf.files at.shelf_now.files

  -- a search that has come to a width
  module _ (o : Outcome) (h : HasCome words at o) where
    -- more files behind those of lower widths
    pub behind : (more : List JobFile) → AreApart (lower_files h.comes ++ more)
        → (wrote : ShelfState) → at.shelf_now ≡ wrote
        → wrote.files ≡ with_files more h.between.files
        → AreWritten (lower_files h.comes ++ more) at.shelf.files at.shelf_now.files
    behind more apart wrote is written =
        are-written (lower_files h.comes ++ more) at.shelf.files at.shelf_now.files
        (ap (λ (s : ShelfState). s.files) is ∙ written ∙ ap (with_files more) h.lower
        ∙ sym (with_files-append (lower_files h.comes) more at.shelf.files)) apart

    -- a refutation, and the log that was written
    abbrev pub refuted-there : (lead : Vec ℕ Global)
        → Finds h.comes.search h.comes.p h.width h.between at.shelf_now (Ok (Refuted lead))
        → h.width ≡ h.comes.search.last
        → IsRefuted words at.desk.files at.shelf.files at.shelf_now.files h.width
    refuted-there lead f last = record {
      comes = h.comes;
      last = last;
      log = f.1.log;
      refuted = refuted-at h.comes.search h.width h.comes.p f.1.log lead.items h.given
          h.comes.poses.fits h.comes.crowd f.1.ends f.0 f.1.clauses_back;
      written = behind (proof_files h.comes.search h.comes.p h.width f.1.log)
          (h.proof_apart f.1.log) _ f.1.written refl;
    }

    found-means : (came : Result Found Stop)
        → Finds h.comes.search h.comes.p h.width h.between at.shelf_now came
        → (IsRefutation came → h.width ≡ h.comes.search.last)
        → MeansHere (found_outcome h.width came)
    found-means (Ok IsRoutedThere) f last = inl (record {
      comes = h.comes;
      few = f.0.few;
      found = f.1.found;
      routing = f.1.routing;
      reads_back = f.1.reads_back (routing-printable h.comes.search.method h.width h.comes.p
          f.1.found h.comes.poses.route.text h.given h.comes.poses.fits h.narrow
          (h.comes.poses.route.faultless, h.comes.poses.route.says) f.1.routing);
      written = behind (route_file h.comes.search f.1.found ∷ []) (h.route_apart f.1.found) _
          f.1.written refl;
    })
    found-means (Ok (Refuted lead)) f last = refuted-there lead f (last tt)
    found-means (Ok (Spent learned)) f last = record {
      comes = h.comes;
      few = f.0.few;
      ends = subst (MayEndAfter h.comes.search.way) (sym f.1.ends.many)
          (way-ends h.comes.search.way h.comes.p h.width
          (clauses_at h.comes.search h.width h.comes.p) f.1.log f.1.ends.opens);
      log = f.1.log;
      many = f.1.ends.many;
      open_by = f.1.ends.opens;
      clauses_back = f.1.clauses_back;
      written = behind (proof_files h.comes.search h.comes.p h.width f.1.log)
          (h.proof_apart f.1.log) _ f.1.written refl;
    }
    found-means (Err (Fault slot)) f last = tt
    found-means (Err (TooManyClauses count)) f last = tt
    found-means (Err (TooManyHeld count)) f last = tt
    found-means (Err Memory) f last = tt

    pub come-means : MeansHere o
    come-means = subst MeansHere (sym h.is) (found-means h.came h.finds h.last)

  -- files that were written
  files-mean : (o : Outcome) (h : HasWritten words at o)
      → WritesFiles h.done h.files h.between at.shelf_now o → MeansHere o
  files-mean o h (inl done) = subst MeansHere (sym done.0)
      (h.means done.0 (are-written h.files at.shelf.files at.shelf_now.files
      (ap (λ (s : ShelfState). s.files) done.1 ∙ files-after h.files h.between
      ∙ ap (with_files h.files) h.begun) h.apart))
  files-mean o h (inr fails) = subst MeansHere (sym fails.2) tt

module _ (words : List Word) (at : Scene) where
  came-means : (o : Outcome) → Came words at o → MeansHere words at o
  came-means o (Idle h) = h.means
  came-means o (Searched h) = subst (λ (files : Option FileMap).
      Means words at.desk.files at.shelf.files files o) (sym h.files)
      (come-means words (ended_with h.wrote at) o h.come)
  came-means o (Wrote h) = files-mean words at o h h.writes
  came-means o (Told h) = h.means
  came-means o (Cut h) = subst (MeansHere words at) (sym h.is) tt

-- a run whose report line was not said means nothing more
unsaid-means : (words : List Word) (desk before now : Option FileMap) (o : Outcome)
    → Means words desk before now (unsaid o)
unsaid-means words desk before now (WriteFault slot) = tt
unsaid-means words desk before now o = tt

pub runs-mean : (words : List Word) (desk desk_now : DeskState) (shelf now : ShelfState)
    (answer : Outcome) (r : Runs words desk desk_now shelf now answer)
    → Came words (scene desk desk_now shelf r.between) r.outcome
    → Means words desk.files shelf.files now.files answer
runs-mean words desk desk_now shelf now answer r came =
    let at = scene desk desk_now shelf r.between in
    elim r.reports [
      | inl h ↦ subst (Means words desk.files shelf.files now.files) (sym h.0)
          (subst (λ (f : Option FileMap). Means words desk.files shelf.files f r.outcome)
          (sym (ap (λ (s : ShelfState). s.files) h.1)) (came-means words at r.outcome came))
      | inr h ↦ subst (Means words desk.files shelf.files now.files) (sym h.0)
          (unsaid-means words desk.files shelf.files now.files r.outcome)
    ]
