-- What a run says, whatever fails.
use Rattle.std.proofs.Common.{◌≡◌, ◌∙◌, ◌⊎◌, ℕ, ◌≤◌, List, [], ◌∷◌, ◌++◌, length, take, Option, Some, None, Ok, Err, Result, refl, sym, ap, subst, inl, inr, append_assoc, arith}
use Rattle.std.proofs.lemmas.List.{append-nil}
use Rattle.std.proofs.Math.Seq.{take-length}
use Rattle.desk_io.specs.WholeFile.{FailsToWrite, after_writing}
use Rattle.route_sweep.specs.Written.{after_clauses}
use Rattle.route_sweep.specs.declared.found.FileSlot.TheVariants.{Route as RouteSlot, Clauses, Log}
use Rattle.route_sweep.specs.declared.found.Found.{Found}
use Rattle.route_sweep.specs.declared.found.Found.TheVariants.{Routed as IsRouted, Refuted, Spent}
use Rattle.route_sweep.specs.declared.found.Stop.{Stop}
use Rattle.route_sweep.specs.declared.found.Stop.TheVariants.{Fault, TooManyClauses, TooManyHeld, Memory}
use Rattle.run_outcome.specs.Written.{FailsAmong, WritesFiles, after_files, JobFile}
use Rattle.run_outcome.specs.Report.{found_outcome, line_of, unsaid, Reports}
use Rattle.router_top.specs.Run.{Runs}
use Rattle.run_outcome.specs.Scene.{Scene, scene}
use Rattle.router_top.specs.Saying.{IsLead, Leads, Speaks, more_said}
use Rattle.router_top.specs.Search.{Search, clauses_at}
use Rattle.router_top.specs.Work.{Finds}
use Rattle.run_outcome.specs.Subject.{DeskState, Bytes, FileMap, ShelfState, RoutingProblem, Word}
use Rattle.run_outcome.specs.declared.outcome.Outcome.{Outcome}
use Rattle.run_outcome.specs.declared.outcome.Outcome.TheVariants.{WriteFault}
use Rattle.run_outcome.specs.declared.slot.Slot.{Slot}
use Rattle.run_outcome.specs.declared.slot.Slot.TheVariants.{Said}
use Rattle.router_top.proofs.Came.{Came, Cut, HasWritten, Idle, IsCut, IsSpared, NeedsNoFile, Searched, Told, Wrote, IsDone}
use Rattle.run_outcome.proofs.WrittenLaws.{IsHeard}
use Rattle.router_top.proofs.LeftLaws.{among-heard}

-- ---- texts behind texts

pub more-none : (said : Option Bytes) → more_said said [] ≡ said
more-none None = refl
more-none (Some bytes) = ap (λ (b : Bytes). Some b) (append-nil bytes)

more-more : (said : Option Bytes) (first second : Bytes)
    → more_said (more_said said first) second ≡ more_said said (first ++ second)
more-more None first second = refl
more-more (Some bytes) first second =
    ap (λ (b : Bytes). Some b) (append_assoc bytes first second)

whole-within : (text : Bytes) → length text ≤ length text
whole-within text = omega arith

-- ---- files are written in silence

fails-silent : (before now : ShelfState) (name text : Bytes) → FailsToWrite before name text now
    → now.said ≡ before.said
fails-silent before now name text (inl h) = h.said
fails-silent before now name text (inr h) = h.said

-- what a search finds is not said
module _ (search : Search) (p : RoutingProblem) (width : ℕ) (before now : ShelfState) where
  pub finds-silent : (came : Result Found Stop) → Finds search p width before now came
      → now.said ≡ before.said
  finds-silent (Ok IsRouted) h = ap (λ (s : ShelfState). s.said) h.1.written
  finds-silent (Ok (Refuted lead)) h = ap (λ (s : ShelfState). s.said) h.1.written
  finds-silent (Ok (Spent learned)) h = ap (λ (s : ShelfState). s.said) h.1.written
  finds-silent (Err (Fault RouteSlot)) h = fails-silent before now _ _ h.1.fails
  finds-silent (Err (Fault (Clauses of))) h = fails-silent before now _ _ h.1.fails.1
  finds-silent (Err (Fault (Log of))) h =
      fails-silent (after_clauses before search.ask width (clauses_at search width p)) now
      _ _ h.1.fails.1
  finds-silent (Err (TooManyClauses count)) h = ap (λ (s : ShelfState). s.said) h.1
  finds-silent (Err (TooManyHeld count)) h = ap (λ (s : ShelfState). s.said) h.1
  finds-silent (Err Memory) h = ap (λ (s : ShelfState). s.said) h.1

after-silent : (files : List JobFile) (before : ShelfState)
    → (after_files files before).said ≡ before.said
after-silent [] before = refl
after-silent (file ∷ more) before =
    after-silent more (after_writing before file.name file.text)

among-silent : (files : List JobFile) (before now : ShelfState) (slot : Slot)
    → FailsAmong files before now slot → now.said ≡ before.said
among-silent [] before now slot h = absurd h
among-silent (file ∷ files) before now slot (inl h) =
    fails-silent before now file.name file.text h.1
among-silent (file ∷ files) before now slot (inr h) =
    among-silent files (after_writing before file.name file.text) now slot h

-- ---- what the work has said

found-heard : (width : ℕ) (came : Result Found Stop) → IsHeard (found_outcome width came)
found-heard width (Ok IsRouted) = tt
found-heard width (Ok (Refuted lead)) = tt
found-heard width (Ok (Spent learned)) = tt
found-heard width (Err (Fault slot)) = tt
found-heard width (Err (TooManyClauses count)) = tt
found-heard width (Err (TooManyHeld count)) = tt
found-heard width (Err Memory) = tt

spared-heard : (o : Outcome) → IsSpared o → IsHeard o
spared-heard (WriteFault slot) spared = absurd spared
spared-heard o spared = tt

fileless-heard : (o : Outcome) → NeedsNoFile o → IsHeard o
fileless-heard (WriteFault slot) fileless = absurd fileless
fileless-heard o fileless = tt

done-heard : (o : Outcome) → IsDone o → IsHeard o
done-heard (WriteFault slot) is_done = absurd is_done
done-heard o is_done = tt

module _ (words : List Word) (at : Scene) where
  -- the lead was said, and no fault of what is said has come; or there was one in the lead
  abbrev HasLed : Outcome → Type 0
  HasLed o =
      ((lead : Bytes) × Leads words at.desk.files at.shelf.files at.shelf_now.files o lead
      × (at.shelf_now.said ≡ more_said at.shelf.said lead) × IsHeard o)
      ⊎ IsCut words at o

  files-led : (o : Outcome) (h : HasWritten words at o)
      → WritesFiles h.done h.files h.between at.shelf_now o → HasLed o
  files-led o h (inl done) = inl (
    h.lead,
    h.leads,
    ap (λ (s : ShelfState). s.said) done.1 ∙ after-silent h.files h.between ∙ h.said,
    subst IsHeard (sym done.0) (done-heard h.done h.is_done),
  )
  files-led o h (inr (slot, fails, is)) = inl (
    h.lead,
    h.leads,
    among-silent h.files h.between at.shelf_now slot fails ∙ h.said,
    subst IsHeard (sym is) (among-heard h.files h.between at.shelf_now slot h.heard fails),
  )

  came-led : (o : Outcome) → Came words at o → HasLed o
  came-led o (Idle h) = inl (
    [],
    inr (refl, h.leads),
    ap (λ (s : ShelfState). s.said) h.same ∙ sym (more-none at.shelf.said),
    spared-heard o h.spared,
  )
  came-led o (Searched h) =
      inl (
        h.lead,
        h.leads,
        h.said,
        subst IsHeard (sym h.come.is) (found-heard h.come.width h.come.came),
      )
  came-led o (Wrote h) = files-led o h h.writes
  came-led o (Told h) = inl (h.lead, h.leads, h.said, fileless-heard o h.fileless)
  came-led o (Cut h) = inr h

-- ---- the report

module _ (words : List Word) (desk : Option FileMap) (before now : ShelfState) (lead : Bytes) where
  -- what is said first
  abbrev LeadsHere : Outcome → Type 0
  LeadsHere o = Leads words desk before.files now.files o lead

  -- the lead, and all of the report line
  all-said : (o : Outcome) → IsHeard o → LeadsHere o
      → now.said ≡ more_said before.said (lead ++ line_of o) → Speaks words desk before now o
  all-said (WriteFault Said) heard leads said = absurd heard
  all-said (WriteFault slot) heard leads said = record {
    lead = lead;
    leads = leads;
    count = length (line_of (WriteFault slot));
    within = whole-within (line_of (WriteFault slot));
    said = said ∙ ap (λ (line : Bytes). more_said before.said (lead ++ line))
        (sym (take-length (line_of (WriteFault slot))));
  }
  all-said o heard leads said = record { lead = lead; leads = leads; said = said }

  -- the lead, and a front part of it
  module _ (count : ℕ) where
    part-said : (o : Outcome) → IsHeard o → LeadsHere o → count ≤ length (line_of o)
        → now.said ≡ more_said before.said (lead ++ take count (line_of o))
        → Speaks words desk before now (unsaid o)
    part-said (WriteFault Said) heard leads within said = absurd heard
    part-said (WriteFault slot) heard leads within said =
        record { lead = lead; leads = leads; count = count; within = within; said = said }
    part-said o heard leads within said = inr (
      o,
      (λ bad. bad),
      record { lead = lead; leads = leads; count = count; within = within; said = said },
    )

module _ (words : List Word) (desk desk_now : DeskState) (shelf now : ShelfState)
    (answer : Outcome) (r : Runs words desk desk_now shelf now answer) where
  abbrev at : Scene
  at = scene desk desk_now shelf r.between

  abbrev SpeaksHere : Outcome → Type 0
  SpeaksHere = Speaks words desk.files shelf now

  -- the report line changes no file
  same-files : Reports r.between r.outcome now answer → r.between.files ≡ now.files
  same-files (inl h) = sym (ap (λ (s : ShelfState). s.files) h.1)
  same-files (inr h) = sym h.1.failed.files

  -- two texts, one behind the other
  both-said : (first second : Bytes) → r.between.said ≡ more_said shelf.said first
      → now.said ≡ more_said r.between.said second
      → now.said ≡ more_said shelf.said (first ++ second)
  both-said first second led said =
      said ∙ ap (λ (s : Option Bytes). more_said s second) led ∙ more-more shelf.said first second

  -- so many bytes at the front of the report line of a fault of what is said came behind the lead
  -- that was cut
  cut-says : (h : IsCut words at r.outcome) → r.between.files ≡ now.files → (count : ℕ)
      → count ≤ length (line_of (WriteFault Said))
      → now.said ≡ more_said r.between.said (take count (line_of (WriteFault Said)))
      → SpeaksHere (WriteFault Said)
  cut-says h files count within said = inl (record {
    outcome = h.outcome;
    lead = h.lead;
    leads = subst (λ (fs : Option FileMap).
        IsLead words desk.files shelf.files fs h.outcome h.lead) files h.leads;
    count = h.count;
    within = h.within;
    line_count = count;
    line_within = within;
    said = both-said (take h.count h.lead) (take count (line_of (WriteFault Said))) h.said said;
  })

  cut-speaks : (h : IsCut words at r.outcome) → r.between.files ≡ now.files
      → Reports r.between (WriteFault Said) now answer → SpeaksHere answer
  cut-speaks h files (inl all) = subst SpeaksHere (sym all.0)
      (cut-says h files (length (line_of (WriteFault Said)))
      (whole-within (line_of (WriteFault Said)))
      (ap (λ (s : ShelfState). s.said) all.1
      ∙ ap (more_said r.between.said) (sym (take-length (line_of (WriteFault Said))))))
  cut-speaks h files (inr part) = subst SpeaksHere (sym part.0)
      (cut-says h files part.1.count part.1.within part.1.failed.said)

  led-speaks : HasLed words at r.outcome → r.between.files ≡ now.files
      → Reports r.between r.outcome now answer → SpeaksHere answer
  led-speaks (inl (lead, leads, led, heard)) files (inl h) = subst SpeaksHere (sym h.0)
      (all-said words desk.files shelf now lead r.outcome heard
      (subst (λ (fs : Option FileMap). Leads words desk.files shelf.files fs r.outcome lead) files
      leads)
      (both-said lead (line_of r.outcome) led (ap (λ (s : ShelfState). s.said) h.1)))
  led-speaks (inl (lead, leads, led, heard)) files (inr h) = subst SpeaksHere (sym h.0)
      (part-said words desk.files shelf now lead h.1.count r.outcome heard
      (subst (λ (fs : Option FileMap). Leads words desk.files shelf.files fs r.outcome lead) files
      leads) h.1.within
      (both-said lead (take h.1.count (line_of r.outcome)) led h.1.failed.said))
  led-speaks (inr h) files reports = cut-speaks h files
      (subst (λ (o : Outcome). Reports r.between o now answer) h.is reports)

  pub runs-speak : Came words at r.outcome → SpeaksHere answer
  runs-speak came = led-speaks (came-led words at r.outcome came) (same-files r.reports) r.reports
