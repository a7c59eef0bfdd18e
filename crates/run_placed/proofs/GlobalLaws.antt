-- What keeps a search for a route of a placement from its work is one thing; what is found says a
-- routing, and two outcomes that are true of the same files agree.
use Rattle.std.proofs.Common.{Bool, ◌≡◌, ◌∙◌, ◌⊎◌, ℕ, Option, Some, None, sym, subst, inl, inr, refl, arith}
use Rattle.std.specs.Prelude.{is_some, not}
use Rattle.desk_io.specs.Files.{HasRisen}
use Rattle.fpga_problem.proofs.FileLemmas.{one-placed, placed-lack-poses}
use Rattle.fpga_problem.proofs.SourceLemmas.{calm-stops, halted-says, stops-alike}
use Rattle.fpga_problem.specs.declared.text_file.TextFile.TheVariants.{Route as RouteFile}
use Rattle.fpga_types.specs.Placed.{NetWires}
use Rattle.fpga_types.specs.Problem.{PlacedNetlist}
use Rattle.route_judge.specs.Says.{SaysRouting}
use Rattle.route_parts.specs.Unreached.{AreNetsReached, IsFirstNet}
use Rattle.route_parts.specs.declared.unreached.Unreached.{Unreached}
use Rattle.route_judge.proofs.OwnEnds.{own-ends}
use Rattle.route_judge.proofs.SaysLemmas.{says}
use Rattle.run_placed.specs.Global.{EndsUnfound, HasFiles, HasStart, IsFoundRoute, IsTrueOfFound, IsTrueOfSought, LacksFiles, LacksStart, IsTrueOfGlobal}
use Rattle.run_outcome.specs.Agrees.{Agrees, IsOpenBelow}
use Rattle.run_outcome.specs.Subject.{DeskState, FileMap, IsHalted, IsStopped, Source, FileFault, RouteText, GlobalAsked, Word}
use Rattle.run_outcome.specs.declared.outcome.Outcome.{Outcome}
use Rattle.run_outcome.specs.declared.outcome.Outcome.TheVariants.{Routed, Unfound}
use Rattle.run_outcome.specs.declared.text_file.TextFile.TheVariants.{Problem}
use Rattle.run_outcome.proofs.PlacedLaws.{calm-placed, placed-agrees, placed-lacks-hold}
use Rattle.run_outcome.proofs.StopLaws.{HoldsOfStops, IsSpent, unread-holds}
use Rattle.fpga_problem.specs.declared.unread.FileFault.{FileFault}
use Rattle.run_outcome.specs.Stopped.{AreRoundsStopped}

-- ---- the route to begin with

module _ (Q : Outcome → Type 0) (each : HoldsOfStops Q) (stops : Source → FileFault → Type 0) where
  start-holds : (start : Option Word) (o : Outcome) → LacksStart stops start o → Q o
  start-holds None o h = absurd h
  start-holds (Some name) o h =
      subst Q (sym h.tells) (unread-holds Q each (Problem RouteFile) h.fault)

  -- what holds of want of memory, of faults and of limits holds of files that give nothing
  pub lacking-holds : (files : Option FileMap) (job : GlobalAsked) (o : Outcome)
      → LacksFiles stops files job o → Q o
  lacking-holds files job o (inl h) = placed-lacks-hold Q each stops files job.files o h
  lacking-holds files job o (inr (placed, poses, h)) = start-holds job.from o h

module _ (desk now : DeskState) (calm : ¬ HasRisen desk.faults now.faults) where
  calm-start : (start : Option Word) (o : Outcome) → LacksStart (IsStopped desk now) start o
      → LacksStart (IsHalted desk.files) start o ⊎ IsSpent o
  calm-start None o h = absurd h
  calm-start (Some name) o h = calm-stops desk now IsSpent calm refl h

  -- where the desk has not failed, files that give nothing are kept from it by what they hold
  pub calm-lacking : (job : GlobalAsked) (o : Outcome)
      → LacksFiles (IsStopped desk now) desk.files job o
      → LacksFiles (IsHalted desk.files) desk.files job o ⊎ IsSpent o
  calm-lacking job = calm-placed desk now job.files calm (λ placed. calm-start job.from)

module _ (files : FileMap) where
  -- what the files of a desk hold keeps a job from its work
  abbrev Lacks : GlobalAsked → Outcome → Type 0
  Lacks job o = LacksFiles (IsHalted (Some files)) (Some files) job o

  one-start : (start : Option Word) (a b : Outcome)
      → LacksStart (IsHalted (Some files)) start a → LacksStart (IsHalted (Some files)) start b
      → a ≡ b
  one-start None a b h g = absurd h
  one-start (Some name) a b h g = stops-alike files h g

  no-start : (start : Option Word) (a : Outcome) → LacksStart (IsHalted (Some files)) start a
      → HasStart (Some files) start → ⊥
  no-start None a h has = h
  no-start (Some name) a h has = halted-says files h.fault h.because has.1

  -- what keeps files from giving something is told in one way
  pub lacking-agrees : (timed : Bool) (job : GlobalAsked) (a b : Outcome) → Lacks job a → Lacks job b
      → Agrees timed a b
  lacking-agrees timed job a b h g =
      placed-agrees timed files job.files (λ placed. LacksStart (IsHalted (Some files)) job.from) a b h g
      (λ placed u v. inl (one-start job.from a b u v))

  -- files that give all are not kept from it
  pub lacking-has : (job : GlobalAsked) (placed : PlacedNetlist) (a : Outcome) → Lacks job a
      → HasFiles (Some files) job placed → ⊥
  lacking-has job placed a (inl h) has =
      placed-lack-poses files job.files placed h.0 h.1 has.poses
  lacking-has job placed a (inr (other, poses, h)) has = no-start job.from a h has.start

-- ---- what is found

-- it says a routing of the placement
pub routing-said : (files : Option FileMap) (job : GlobalAsked) (placed : PlacedNetlist)
    (found : RouteText) → HasFiles files job placed → IsFoundRoute job placed found
    → (has : ℕ → NetWires) × SaysRouting placed job.width found has
routing-said files job placed found has route =
    let net = has.poses.netlist in
    says (not job.free) job.width placed found route.sound
    (own-ends placed.arch net.text placed.netlist placed.placement (net.faultless, net.says)
    has.sound.netlist has.sound.placement) route.legal

-- that none was found leaves the width of one that was found open
open-at : (timed : Bool) (job : GlobalAsked) (a b : Outcome) → EndsUnfound (is_some job.seconds) job.width job.rounds a
    → b ≡ Routed job.width → IsOpenBelow timed a b
open-at timed job a b (rounds, stopped, most, limit, none) is =
    subst (λ (o : Outcome). IsOpenBelow timed o b) (sym none)
    (subst (IsOpenBelow timed (Unfound job.width rounds stopped)) (sym is) (omega arith))

-- so does one after other rounds
pub open-both : (timed limited : Bool) (width most : ℕ) (a b : Outcome)
    → EndsUnfound limited width most a → EndsUnfound limited width most b → IsOpenBelow timed a b
open-both timed limited width most a b (rounds, stopped, few, limit, none)
    (others, other_stopped, few_too, other_limit, is) =
    subst (λ (o : Outcome). IsOpenBelow timed o b) (sym none)
    (subst (IsOpenBelow timed (Unfound width rounds stopped)) (sym is) refl)

-- outcomes that are true of one placed netlist agree: they are one, or no route was found for the
-- one and some was for the other
found-agrees : (timed : Bool) (job : GlobalAsked) (placed : PlacedNetlist) (a b : Outcome)
    → IsTrueOfFound job placed a → IsTrueOfFound job placed b → Agrees timed a b
found-agrees timed job placed a b (inl (found, route, is)) (inl (other, others, is_other)) =
    inl (is ∙ sym is_other)
found-agrees timed job placed a b (inl (found, route, is)) (inr none) =
    inr (inr (inl (open-at timed job b a none is)))
found-agrees timed job placed a b (inr none) (inl (found, route, is)) =
    inr (inl (open-at timed job a b none is))
found-agrees timed job placed a b (inr none) (inr others) =
    inr (inl (open-both timed (is_some job.seconds) job.width job.rounds a b none others))

-- wires reach each sink, or there is one that they do not
not-unreached : (placed : PlacedNetlist) (width : ℕ) (first : Unreached)
    → IsFirstNet placed width first → AreNetsReached placed width → ⊥
not-unreached placed width first h reached =
    let sink = h.is.sink.is in
    sink.unreached (reached first.net h.is.net h.is.is_net h.is.is_ordinary first.sink sink.pin
    sink.is_pin sink.at sink.is_there)

-- so do those that are true of it before a search, of which one alone says that there is no way
sought-agrees : (timed : Bool) (job : GlobalAsked) (placed : PlacedNetlist) (a b : Outcome)
    → IsTrueOfSought job placed a → IsTrueOfSought job placed b → Agrees timed a b
sought-agrees timed job placed a b (inl (first, none, is)) (inl (other, none_too, is_other)) =
    inl (is ∙ sym is_other)
sought-agrees timed job placed a b (inl (first, none, is)) (inr (reached, h)) =
    absurd (not-unreached placed job.width first none reached)
sought-agrees timed job placed a b (inr (reached, h)) (inl (first, none, is)) =
    absurd (not-unreached placed job.width first none reached)
sought-agrees timed job placed a b (inr (reached, h)) (inr (reached_too, g)) =
    found-agrees timed job placed a b h g

pub global-agrees : (timed : Bool) (job : GlobalAsked) (files : FileMap) (a b : Outcome)
    → IsTrueOfGlobal job (Some files) a → IsTrueOfGlobal job (Some files) b → Agrees timed a b
global-agrees timed job files a b (inl h) (inl g) = lacking-agrees files timed job a b h g
global-agrees timed job files a b (inl h) (inr (placed, has, g)) =
    absurd (lacking-has files job placed a h has)
global-agrees timed job files a b (inr (placed, has, h)) (inl g) =
    absurd (lacking-has files job placed b g has)
global-agrees timed job files a b (inr (placed, has, h)) (inr (other, others, g)) =
    sought-agrees timed job placed a b h (subst (λ (p : PlacedNetlist). IsTrueOfSought job p b)
    (one-placed files job.files other placed others.poses has.poses) g)

-- files that give no placed netlist or no route to begin with
pub lacking-unstopped : (stops : Source → FileFault → Type 0) (files : Option FileMap)
    (job : GlobalAsked) (o : Outcome) → LacksFiles stops files job o → AreRoundsStopped o → ⊥
lacking-unstopped stops files job o =
    lacking-holds (λ (o : Outcome). ¬ AreRoundsStopped o) (record {
      memory = λ h. h;
      read = λ file h. h;
      input = λ file line code h. h;
      limit = λ file code count h. h;
    }) stops files job o
