-- The files of a generated problem: their names differ, so that on a desk of their own each stands
-- with its text; and what is left where they are written one after the other.
use Rattle.std.specs.FinMap.{empty}
use Rattle.std.specs.Prelude.{◌==◌, false}
use Rattle.std.proofs.Common.{◌≡◌, ◌≢◌, ◌∙◌, ◌+◌, ◌<◌, ◌≤◌, ◌++◌, codes, get_or, length, Some, refl, sym, ap, subst, inl, inr, arith}
use Rattle.std.proofs.lemmas.Bool.{eq-eqb, false≢true}
use Rattle.std.proofs.lemmas.List.{append_cancel_left}
use Rattle.fpga_bounds.proofs.SlotCountLemmas.{many-slots}
use Rattle.fpga_net.specs.Value.{net_value}
use Rattle.fpga_place.specs.Value.{place_value}
use Rattle.fpga_problem.specs.Files.{names_behind}
use Rattle.fpga_problem.specs.Texts.{faults_of, problem_said}
use Rattle.fpga_problem.specs.declared.text_file.TextFile.{TextFile as ProblemFile}
use Rattle.fpga_problem.specs.declared.text_file.TextFile.TheVariants.{Architecture, Netlist as NetlistFile, Placement, Route}
use Rattle.fpga_problem.specs.declared.unread.FileFault.TheVariants.{Text}
use Rattle.fpga_route.specs.Codes.{route_faults}
use Rattle.fpga_text.specs.FirstFault.{IsFirst, IsRefusal, first_fault}
use Rattle.fpga_text.specs.declared.fault.TextFault.{TextFault}
use Rattle.fpga_text.specs.declared.fault.TextFault.TheVariants.{Bad, Limit as PastLimit, Memory}
use Rattle.fpga_text.proofs.FaultLemmas.{past-nothing, past-part}
use Rattle.fpga_types.specs.FitCauses.{code_of}
use Rattle.fpga_types.specs.Fits.{Fits, problem_faults}
use Rattle.fpga_types.specs.Problem.{problem_of}
use Rattle.fpga_types.specs.Slots.{slots}
use Rattle.fpga_types.specs.Texts.{Texts}
use Rattle.fpga_types.specs.declared.fit_cause.FitCause.TheVariants.{PastLimit as TooManySlots}
use Rattle.fpga_types.specs.declared.arch.Arch.{Arch}
use Rattle.fpga_types.specs.declared.limits.TheConstants.{SIDE_LIMIT, SLOT_LIMIT}
use Rattle.fpga_types.specs.declared.netlist.Netlist.{Netlist}
use Rattle.list_laws.proofs.Places.{none_is_not_some, some_is}
use Rattle.route_gen.specs.Fitting.{AreRead, IsForSlots}
use Rattle.route_gen.proofs.FittingLemmas.{first-fits, texts-read}
use Rattle.route_gen.proofs.LengthLemmas.{texts-short}
use Rattle.run_outcome.specs.Written.{with_files}
use Rattle.run_made.specs.Generated.{HasRoom, IsMade, Makes, PosesNone, generated_files, problem_files, texts_of}
use Rattle.run_outcome.specs.Report.{unread_outcome}
use Rattle.run_outcome.specs.Subject.{Bytes, Poses, RoutingProblem, RecipeAsked, Word}
use Rattle.run_outcome.specs.declared.text_file.TextFile.TheVariants.{Problem}
use Rattle.run_made.proofs.TrackLaws.{texts-tracks}
use Rattle.run_outcome.proofs.WrittenLaws.{AreApart, written-stand}

-- ---- names

-- endings whose second bytes differ make different names
endings-differ : (prefix xs ys : Bytes) → (get_or xs 1 0 == get_or ys 1 0) ≡ false →
    prefix ++ xs ≢ prefix ++ ys
endings-differ prefix xs ys differ same =
    let second : get_or xs 1 0 ≡ get_or ys 1 0 =
    ap (λ (bytes : Bytes). get_or bytes 1 0) (append_cancel_left prefix xs ys same) in
    false≢true (sym differ ∙ eq-eqb (get_or xs 1 0) (get_or ys 1 0) second)

module _ (prefix : Bytes) where
  arch-net : prefix ++ codes ".arch" ≢ prefix ++ codes ".net"
  arch-net = endings-differ prefix (codes ".arch") (codes ".net") refl

  arch-place : prefix ++ codes ".arch" ≢ prefix ++ codes ".place"
  arch-place = endings-differ prefix (codes ".arch") (codes ".place") refl

  arch-route : prefix ++ codes ".arch" ≢ prefix ++ codes ".route"
  arch-route = endings-differ prefix (codes ".arch") (codes ".route") refl

  net-place : prefix ++ codes ".net" ≢ prefix ++ codes ".place"
  net-place = endings-differ prefix (codes ".net") (codes ".place") refl

  net-route : prefix ++ codes ".net" ≢ prefix ++ codes ".route"
  net-route = endings-differ prefix (codes ".net") (codes ".route") refl

  place-route : prefix ++ codes ".place" ≢ prefix ++ codes ".route"
  place-route = endings-differ prefix (codes ".place") (codes ".route") refl

  module _ (texts : Texts) where
    pub problem-apart : AreApart (problem_files (names_behind prefix) texts)
    problem-apart = (
      (arch-net, (arch-place, (arch-route, tt))),
      ((net-place, (net-route, tt)), ((place-route, tt), (tt, tt))),
    )

-- ---- the problem that is made

-- what texts are read as they say
read-said : (texts : Texts) (p : RoutingProblem) → AreRead texts p → p ≡ problem_said texts
read-said texts p read =
    let netlist = read.netlist.1 ∙ ap (λ (a : Arch). net_value a texts.netlist) read.arch in
    let placement = read.placement.1
    ∙ ap (λ (n : Netlist). place_value n texts.placement) netlist in
    λ i. problem_of (read.arch i) (netlist i) (placement i) (read.route.1 i)

-- the texts of a recipe read as one problem
pub one-made : (recipe : RecipeAsked) (p q : RoutingProblem) → IsMade recipe p → IsMade recipe q →
    p ≡ q
one-made recipe p q made other =
    read-said (texts_of recipe) p made.read ∙ sym (read-said (texts_of recipe) q other.read)

-- a problem that was made is refused only where it has more slots than may be
made-many : (recipe : RecipeAsked) (p : RoutingProblem) → IsMade recipe p →
    IsFirst (problem_faults p) (PastLimit (code_of TooManySlots) (SLOT_LIMIT + 1)) →
    SLOT_LIMIT < length (slots p.route)
made-many recipe p made past =
    many-slots p (code_of TooManySlots) (SLOT_LIMIT + 1)
    (texts-tracks recipe.seed recipe.side recipe.nets p made.side.0 made.side.1 made.room
    made.read) past

-- the values of a problem that was made fit, where it is not too large
pub made-fits : (recipe : RecipeAsked) (p : RoutingProblem) → Makes recipe p → Fits p
made-fits recipe p makes =
    let made = makes.made in
    go (first-fits recipe.seed recipe.side recipe.nets p made.side.0 made.side.1 made.room
    made.read)
  where
    go : IsForSlots (first_fault (problem_faults p)) → Fits p
    go (inl clean) = clean
    go (inr past) = absurd (omega (arith, makes.few, made-many recipe p makes.made past))

-- where its files stand alone on a desk, a problem that is not too large is posed by them
pub made-poses : (recipe : RecipeAsked) (prefix : Word) (p : RoutingProblem) → Makes recipe p →
    Poses (with_files (generated_files recipe prefix) (Some empty)) (names_behind prefix) p
made-poses recipe prefix p makes =
    let texts : Texts = texts_of recipe in
    let made = makes.made in
    let read = made.read in
    let stands = written-stand (generated_files recipe prefix) (Some empty)
    (problem-apart prefix texts) in
    let short = texts-short recipe.seed recipe.side recipe.nets made.side.0 made.side.1
    made.room in
    record {
      arch = record {
        text = texts.architecture;
        there = stands.0;
        short = short.architecture;
        faultless = read.faultless;
        says = read.arch;
      };
      netlist = record {
        text = texts.netlist;
        there = stands.1.0;
        short = short.netlist;
        faultless = read.netlist.0;
        says = read.netlist.1;
      };
      placement = record {
        text = texts.placement;
        there = stands.1.1.0;
        short = short.placement;
        faultless = read.placement.0;
        says = read.placement.1;
      };
      route = record {
        text = texts.route;
        there = stands.1.1.1.0;
        short = short.route;
        faultless = read.route.0;
        says = read.route.1;
      };
      fits = made-fits recipe p makes;
    }

module _ (recipe : RecipeAsked) (side : (1 ≤ recipe.side) × (recipe.side ≤ SIDE_LIMIT))
    (room : HasRoom recipe) where
  abbrev said : RoutingProblem
  said = problem_said (texts_of recipe)

  -- what the texts say was made
  pub said-made : IsMade recipe said
  said-made =
      let read = texts-read recipe.seed recipe.side recipe.nets side.0 side.1 room in
      record {
        side = side;
        room = room;
        read = subst (AreRead (texts_of recipe)) (read-said (texts_of recipe) read.0 read.1) read.1;
      }

  -- the first fault of what the texts say is that there are too many slots
  said-many : (file : ProblemFile) (fault : TextFault) →
      IsFirst (faults_of (texts_of recipe) file) fault →
      PosesNone recipe (unread_outcome (Problem file) (Text fault))
  said-many Architecture fault first =
      absurd (none_is_not_some (sym said-made.read.faultless ∙ first))
  said-many NetlistFile fault first =
      absurd (none_is_not_some (sym said-made.read.netlist.0 ∙ first))
  said-many Placement fault first =
      absurd (none_is_not_some (sym said-made.read.placement.0 ∙ first))
  said-many Route fault first =
      let past = past-part (route_faults (texts_of recipe).route) (problem_faults said)
      (past-nothing _) said-made.read.route.0 in
      elim (first-fits recipe.seed recipe.side recipe.nets said side.0 side.1 room
      said-made.read) [
        | inl clean ↦ absurd (none_is_not_some (sym clean ∙ sym past.same ∙ first))
        | inr many ↦ inr (
          said,
          said-made,
          made-many recipe said said-made many,
          ap (λ (f : TextFault). unread_outcome (Problem Route) (Text f))
              (some_is (sym first ∙ past.same ∙ many)),
        )
      ]

  -- where the texts are refused, there are too many slots, or memory ran out
  pub refused-many : (file : ProblemFile) (fault : TextFault) →
      IsRefusal (faults_of (texts_of recipe) file) fault →
      PosesNone recipe (unread_outcome (Problem file) (Text fault))
  refused-many file (Bad line code) refused = said-many file (Bad line code) refused
  refused-many file (PastLimit code count) refused = said-many file (PastLimit code count) refused
  refused-many file Memory refused = inl (inr refl)

-- ---- writing
