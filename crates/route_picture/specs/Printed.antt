-- What is printed of the words and the files, or why nothing is.
use Rattle.std.specs.Prelude.{◌≡◌, ◌⊎◌, ℕ, List, Option, None, Some}
use Rattle.desk_io.specs.DeskState.{DeskState}
use Rattle.desk_io.specs.Files.{FileMap}
use Rattle.desk_io.specs.ShelfState.{FailsToSay, ShelfState, after_say}
use Rattle.fpga_problem.specs.Refused.{IsRefused}
use Rattle.fpga_problem.specs.Texts.{AreFaultless, netlist_said, problem_said}
use Rattle.fpga_problem.specs.declared.refusal.Refusal.{Refusal}
use Rattle.fpga_route.specs.Codes.{route_faults}
use Rattle.fpga_route.specs.Value.{route_value}
use Rattle.fpga_text.specs.Bytes.{Bytes}
use Rattle.fpga_text.specs.FirstFault.{IsFaultless, IsRefusal}
use Rattle.fpga_types.specs.Problem.{RoutingProblem}
use Rattle.route_draw.specs.Blamed.{Blame}
use Rattle.route_draw.specs.Cut.{CutSaid}
use Rattle.route_draw.specs.Picture.{IsPicture, IsRoutedPicture}
use Rattle.route_picture.specs.Blame.{NamesNetsIf, NamesOthersIf, blame_said}
use Rattle.route_picture.specs.Cut.{cut_said}
use Rattle.route_picture.specs.Files.{AreTexts, GivenTexts, IsUnread}
use Rattle.route_picture.specs.Page.{asks_page, picture_words, printed_as}
use Rattle.route_picture.specs.Words.{Asked, RoutedAsked, asked}
use Rattle.route_picture.specs.declared.stop.Stop.{Stop}
use Rattle.route_picture.specs.declared.stop.Stop.TheVariants.{BadRouted, Faulty, Illegal, Memory, Unprinted, Usage}
use Rattle.route_verify.specs.Reach.{reach_judged}
use Rattle.route_verify.specs.declared.judgement.Judgement.TheVariants.{Legal, NotLegal}

-- a text says a routing of a problem that is legal within a reach, and this is a picture of it
pub record ShowsRouted (problem : RoutingProblem) (width reach : ℕ) (text picture : Bytes) :
    Type 0 where
  pub faultless : IsFaultless (route_faults text)
  pub legal : reach_judged width reach problem (route_value text) ≡ Legal
  pub is_picture : IsRoutedPicture problem (route_value text) width picture

-- what a picture shows: the routing that is asked for, or else the route of the problem
abbrev pub Shows : Option RoutedAsked → (text : Option Bytes) → RoutingProblem → (width : ℕ) →
    Blame → (shown : Option CutSaid) → (picture : Bytes) → Type 0
Shows (Some routed) (Some text) problem width blame shown picture =
    ShowsRouted problem width routed.reach text picture
Shows _ _ problem width blame shown picture = IsPicture problem width blame shown picture

-- a picture of the problem that the files of the words say, in channels of the width that they say;
-- where a file of names is asked for, the nets with these names are to blame, and there are some,
-- and the first cut that it says is shown, if it says one
pub record IsDrawn (ask : Asked) (limit : ℕ) (files : Option FileMap) (picture : Bytes) :
    Type 0 where
  pub texts : GivenTexts
  pub are_texts : AreTexts ask limit files texts
  pub faultless : AreFaultless texts.four
  pub names_nets : NamesNetsIf (netlist_said texts.four).nets texts.names
  pub shows : Shows ask.routed texts.routed (problem_said texts.four) ask.width
      (blame_said texts.names) (cut_said texts.names) picture

-- one of the texts of the files is refused, and the stop says which and why
pub record AreRefused (ask : Asked) (limit : ℕ) (files : Option FileMap) (stop : Stop) :
    Type 0 where
  pub texts : GivenTexts
  pub are_texts : AreTexts ask limit files texts
  pub refusal : Refusal
  pub refused : IsRefused texts.four refusal
  pub told : stop ≡ Faulty refusal

-- the file of names gives none, or one that no net of the netlist has
pub record AreMisnamed (ask : Asked) (limit : ℕ) (files : Option FileMap) (stop : Stop) :
    Type 0 where
  pub texts : GivenTexts
  pub are_texts : AreTexts ask limit files texts
  pub faultless : AreFaultless texts.four
  pub names_others : NamesOthersIf (netlist_said texts.four).nets texts.names stop

-- the text of a routing has a fault, or its routing is not legal within the reach
abbrev pub StopsRouted : RoutingProblem → (width reach : ℕ) → (text : Bytes) → Stop → Type 0
StopsRouted problem width reach text (BadRouted fault) = IsRefusal (route_faults text) fault
StopsRouted problem width reach text (Illegal line cause) =
    IsFaultless (route_faults text)
    × (reach_judged width reach problem (route_value text) ≡ NotLegal line cause)
StopsRouted problem width reach text _ = ⊥

-- the same of a routing that is asked for
abbrev pub StopsRoutedIf : Option RoutedAsked → (text : Option Bytes) → RoutingProblem →
    (width : ℕ) → Stop → Type 0
StopsRoutedIf (Some routed) (Some text) problem width stop =
    StopsRouted problem width routed.reach text stop
StopsRoutedIf _ _ problem width stop = ⊥

-- the file with a routing is refused
pub record IsMisrouted (ask : Asked) (limit : ℕ) (files : Option FileMap) (stop : Stop) :
    Type 0 where
  pub texts : GivenTexts
  pub are_texts : AreTexts ask limit files texts
  pub faultless : AreFaultless texts.four
  pub stops : StopsRoutedIf ask.routed texts.routed (problem_said texts.four) ask.width stop

-- no picture is drawn: a file is not read, its text is refused, its names are those of no nets, its
-- routing is refused, or there was no memory
abbrev pub IsUndrawn : Asked → (limit : ℕ) → (before now : DeskState) → Stop → Type 0
IsUndrawn ask limit before now stop =
    IsUnread ask limit before now stop ⊎ AreRefused ask limit before.files stop
    ⊎ AreMisnamed ask limit before.files stop ⊎ IsMisrouted ask limit before.files stop
    ⊎ (stop ≡ Memory)

-- the picture that the words ask for was said, itself or in a page as they ask, and nothing else
pub record IsPrinted (words : List Bytes) (limit : ℕ) (files : Option FileMap)
    (before now : ShelfState) : Type 0 where
  pub ask : Asked
  pub asks : asked (picture_words words) ≡ Some ask
  pub picture : Bytes
  pub drawn : IsDrawn ask limit files picture
  pub said : now ≡ after_say before (printed_as (asks_page words) picture)

-- the words ask for no picture
pub record IsUnasked (words : List Bytes) (stop : Stop) : Type 0 where
  pub none : asked (picture_words words) ≡ None
  pub usage : stop ≡ Usage

-- the picture that the words ask for is not drawn
pub record IsUnmade (words : List Bytes) (limit : ℕ) (before now : DeskState) (stop : Stop) :
    Type 0 where
  pub ask : Asked
  pub asks : asked (picture_words words) ≡ Some ask
  pub undrawn : IsUndrawn ask limit before now stop

-- the picture that the words ask for was not taken to its end
pub record IsUnsaid (words : List Bytes) (limit : ℕ) (files : Option FileMap)
    (before now : ShelfState) (stop : Stop) : Type 0 where
  pub ask : Asked
  pub asks : asked (picture_words words) ≡ Some ask
  pub picture : Bytes
  pub drawn : IsDrawn ask limit files picture
  pub fails : FailsToSay before (printed_as (asks_page words) picture) now
  pub unprinted : stop ≡ Unprinted

-- why nothing is printed, and that nothing is; or that the picture was not taken to its end
abbrev pub IsStopped : List Bytes → (limit : ℕ) → (before now : DeskState) →
    (old new : ShelfState) → Stop → Type 0
IsStopped words limit before now old new stop =
    ((new ≡ old) × (IsUnasked words stop ⊎ IsUnmade words limit before now stop))
    ⊎ IsUnsaid words limit before.files old new stop
