-- A file that a job writes has the name that its slot tells.
use Rattle.std.proofs.Common.{◌≡◌, ◌⊎◌, ℕ, ◌-◌, List, [], ◌∷◌, ◌++◌, codes, None, Option, Some, Ok, refl, sym, subst, inl, inr}
use Rattle.std.specs.Prelude.{flat_map}
use Rattle.cell_bound.specs.declared.refuting.CellRefutation.{CellRefutation}
use Rattle.desk_io.specs.Files.{Bytes, FileMap}
use Rattle.fpga_types.specs.declared.route.RouteText.{RouteText}
use Rattle.list_laws.proofs.Places.{some_is}
use Rattle.route_sweep.specs.Names.{cnf_name, lrat_name, route_name}
use Rattle.route_sweep.specs.declared.found.FileSlot.TheVariants.{Route, Clauses, Log}
use Rattle.sat_clause.specs.Step.{Step}
use Rattle.router_words.specs.Command.{job_of}
use Rattle.fpga_problem.specs.Files.{FileNames, names_behind}
use Rattle.router_words.specs.Job.{JobAsked, LeastAsked, Routes, Sweeps, Decodes, Encodes, Blames, Bounds, Checks, Judges, Narrows, Negotiates, Verifies, Generates, Tries}
use Rattle.router_words.specs.Word.{Word}
use Rattle.router_top.specs.Comes.{lower_files}
use Rattle.router_top.specs.JobFiles.{AreFilesOf, AreFound, AreSearched, IsNamed}
use Rattle.run_placed.specs.Raised.{least_names, narrowed_files, reason_files}
use Rattle.run_outcome.specs.Written.{JobFile}
use Rattle.router_top.specs.Search.{Search, lower_widths, proof_files, search_asked}
use Rattle.run_outcome.specs.SlotNames.{name_written}
use Rattle.run_clauses.specs.Encode.{clauses_name}
use Rattle.run_outcome.specs.declared.slot.Slot.{Slot}
use Rattle.run_outcome.specs.declared.slot.Slot.TheVariants.{File, Architecture, Netlist, Placement, GlobalRoute}

-- a search has the names that its job gives
record HasNames (job : JobAsked) (search : Search) : Type 0 where
  route : name_written job (File Route) ≡ Some (route_name search.ask)
  clauses : (k : ℕ) → name_written job (File (Clauses k)) ≡ Some (cnf_name search.ask k)
  log : (k : ℕ) → name_written job (File (Log k)) ≡ Some (lrat_name search.ask k)

search-names : (job : JobAsked) (search : Search) → search_asked job search.crowd ≡ Some search
    → HasNames job search
search-names (Routes ask) search is = subst (λ (s : Search). HasNames (Routes ask) s) (some_is is)
    (record { route = refl; clauses = λ k. refl; log = λ k. refl })
search-names (Sweeps ask) search is = subst (λ (s : Search). HasNames (Sweeps ask) s) (some_is is)
    (record { route = refl; clauses = λ k. refl; log = λ k. refl })
search-names (Blames ask) search is = subst (λ (s : Search). HasNames (Blames ask) s) (some_is is)
    (record { route = refl; clauses = λ k. refl; log = λ k. refl })
search-names (Tries ask) search is = subst (λ (s : Search). HasNames (Tries ask) s) (some_is is)
    (record { route = refl; clauses = λ k. refl; log = λ k. refl })
search-names (Encodes ask) search is = cc
search-names (Decodes ask) search is = cc
search-names (Checks ask) search is = cc
search-names (Verifies ask) search is = cc
search-names (Judges ask) search is = cc
search-names (Bounds ask) search is = cc
search-names (Negotiates ask) search is = cc
search-names (Narrows ask) search is = cc
search-names (Generates ask) search is = cc

module _ (words : List Word) where
  abbrev AreNamed : List JobFile → Type 0
  AreNamed [] = Unit {0}
  AreNamed (file ∷ more) = IsNamed words file × AreNamed more

  both-named : (front back : List JobFile) → AreNamed front → AreNamed back
      → AreNamed (front ++ back)
  both-named [] back named more = more
  both-named (file ∷ front) back named more = (named.0, both-named front back named.1 more)

  each-named : (files : ℕ → List JobFile) → ((k : ℕ) → AreNamed (files k)) → (row : List ℕ)
      → AreNamed (flat_map files row)
  each-named files named [] = tt
  each-named files named (k ∷ row) =
      both-named (files k) (flat_map files row) (named k) (each-named files named row)

  part-of : (whole : List JobFile) (part : JobFile) (later : List JobFile)
      → AreNamed (whole ++ part ∷ later) → IsNamed words part
  part-of [] part later named = named.0
  part-of (file ∷ whole) part later named = part-of whole part later named.1

  -- the words ask for no other job
  by-job : (job : JobAsked) → job_of words ≡ Ok job → (slot : Slot) (name : Bytes)
      → name_written job slot ≡ Some name → (other : JobAsked) → job_of words ≡ Ok other
      → name_written other slot ≡ Some name
  by-job job asked slot name named other other_asked =
      let same : job ≡ other = cc in
      subst (λ (j : JobAsked). name_written j slot ≡ Some name) same named

  searched-named : (desk : Option FileMap) (files : List JobFile)
      → AreSearched words desk files → AreNamed files
  searched-named desk files h =
      subst AreNamed (sym h.order) (both-named (lower_files h.comes) h.here lower (here h.found))
    where
      names : HasNames h.comes.job h.comes.search
      names = search-names h.comes.job h.comes.search h.comes.searches

      pair : (k : ℕ) (log : List Step)
          → AreNamed (proof_files h.comes.search h.comes.p k log)
      pair k log = (
        by-job h.comes.job h.comes.asked (File (Clauses k)) (cnf_name h.comes.search.ask k)
            (names.clauses k),
        (
          by-job h.comes.job h.comes.asked (File (Log k)) (lrat_name h.comes.search.ask k)
              (names.log k),
          tt,
        ),
      )

      lower : AreNamed (lower_files h.comes)
      lower = each-named (λ k. proof_files h.comes.search h.comes.p k (h.comes.logs k))
          (λ k. pair k (h.comes.logs k)) (lower_widths h.comes.search h.width)

      here : AreFound h.comes.search h.comes.p h.width h.here ⊎ (h.here ≡ []) → AreNamed h.here
      here (inl (few, inl (found, routing, is))) = subst AreNamed (sym is) (
        by-job h.comes.job h.comes.asked (File Route)
            (route_name h.comes.search.ask) names.route,
        tt,
      )
      here (inl (few, inr (log, ends, is))) = subst AreNamed (sym is) (pair h.width log)
      here (inr none) = subst AreNamed (sym none) tt

  narrowed-named : (job : LeastAsked) → job_of words ≡ Ok (Narrows job) → (found : RouteText)
      (tracks : ℕ) (why : Option CellRefutation)
      → AreNamed (narrowed_files (least_names job.prefix) found tracks why)
  narrowed-named job asked found tracks why = (
    by-job (Narrows job) asked (File Route) (job.prefix ++ codes ".route") refl,
    reason why,
  )
    where
      reason : (why : Option CellRefutation)
          → AreNamed (reason_files (least_names job.prefix) tracks why)
      reason None = tt
      reason (Some refutation) = (
        by-job (Narrows job) asked (File (Clauses (tracks - 1))) (job.prefix ++ codes ".cnf") refl,
        (
          by-job (Narrows job) asked (File (Log (tracks - 1))) (job.prefix ++ codes ".lrat") refl,
          tt,
        ),
      )

  files-named : (desk : Option FileMap) (files : List JobFile) → AreFilesOf words desk files
      → AreNamed files
  files-named desk files (inl h) = searched-named desk files h
  files-named desk files (inr (inl h)) = subst AreNamed (sym h.order)
      (by-job (Encodes h.job) h.asked (File (Clauses h.job.width)) (clauses_name h.job) refl, tt)
  files-named desk files (inr (inr (inl h))) =
      let names : FileNames = names_behind h.job.prefix in
      let named = by-job (Generates h.job) h.asked in
      subst AreNamed (sym h.order) (
        named Architecture names.architecture refl,
        (
          named Netlist names.netlist refl,
          (named Placement names.placement refl, (named GlobalRoute names.route refl, tt)),
        ),
      )
  files-named desk files (inr (inr (inr (inl h)))) = subst AreNamed (sym h.order)
      (by-job (Negotiates h.job) h.asked (File Route) (h.job.prefix ++ codes ".route") refl, tt)
  files-named desk files (inr (inr (inr (inr (inl h))))) = subst AreNamed (sym h.order)
      (narrowed-named h.least.job h.least.asked h.at.found h.raised.tracks h.raised.why)
  files-named desk files (inr (inr (inr (inr (inr (inl h)))))) = subst AreNamed (sym h.order)
      (by-job (Decodes h.job) h.asked (File Route) (h.job.prefix ++ codes ".route") refl, tt)
  files-named desk files (inr (inr (inr (inr (inr (inr none)))))) = subst AreNamed (sym none) tt

  -- so has the file that was being written
  pub part-named : (desk : Option FileMap) (files : List JobFile) → AreFilesOf words desk files
      → (whole : List JobFile) (part : JobFile) (later : List JobFile)
      → files ≡ whole ++ part ∷ later → IsNamed words part
  part-named desk files of whole part later order =
      part-of whole part later (subst AreNamed order (files-named desk files of))
