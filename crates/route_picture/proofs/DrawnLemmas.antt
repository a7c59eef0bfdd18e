-- What is read of the files, one behind the other, and what is drawn of it or why nothing is.
use Rattle.std.proofs.Common.{◌≡◌, ◌⊎◌, ℕ, List, Option, Some, None, ap, subst, sym, inl, inr, refl, ◌∙◌}
use Rattle.desk_io.specs.DeskState.{DeskState}
use Rattle.desk_io.specs.Files.{FileMap}
use Rattle.fpga_problem.specs.Refused.{IsRefused}
use Rattle.fpga_problem.specs.Texts.{AreFaultless, problem_said}
use Rattle.fpga_problem.specs.declared.refusal.Refusal.{Refusal}
use Rattle.fpga_text.specs.Bytes.{Bytes}
use Rattle.fpga_types.specs.Problem.{RoutingProblem}
use Rattle.fpga_types.specs.Texts.{Texts}
use Rattle.fpga_types.specs.declared.netlist.Net.{Net}
use Rattle.route_draw.specs.Blamed.{Blame}
use Rattle.route_draw.specs.Cut.{CutSaid}
use Rattle.route_draw.specs.Picture.{IsPicture}
use Rattle.route_picture.specs.Blame.{IsStopped, NamesNetsIf, NamesOthersIf, blame_said}
use Rattle.route_picture.specs.Cut.{cut_said}
use Rattle.route_picture.specs.Files.{AreTexts, GivenTexts, IsReached, IsText, IsTextIf, IsUnread, StopsAt, StopsAtIf, name_of}
use Rattle.route_picture.specs.Printed.{IsDrawn, IsUndrawn, Shows, ShowsRouted, StopsRouted, StopsRoutedIf}
use Rattle.route_picture.specs.Words.{Asked, RoutedAsked}
use Rattle.route_picture.specs.declared.given_file.GivenFile.{GivenFile}
use Rattle.route_picture.specs.declared.stop.Stop.{Stop}
use Rattle.route_picture.specs.declared.stop.Stop.TheVariants.{Faulty, Memory}

-- the files and the count of faults are still those before
pub text-before : (files later : Option FileMap) (name : Bytes) (limit : ℕ) (bytes : Bytes)
    → later ≡ files → IsText later name limit bytes → IsText files name limit bytes
text-before files later name limit bytes same =
    subst (λ (f : Option FileMap). IsText f name limit bytes) same

pub stop-before : (file : GivenFile) (name : Bytes) (limit : ℕ) (files later : Option FileMap)
    (faults more : ℕ) (now : DeskState) (stop : Stop) → later ≡ files → more ≡ faults
    → StopsAt file name limit later more now stop → StopsAt file name limit files faults now stop
stop-before file name limit files later faults more now stop same none stops =
    subst (λ (f : Option FileMap). StopsAt file name limit f faults now stop) same
    (subst (λ (n : ℕ). StopsAt file name limit later n now stop) none stops)

-- the same of a file that may be not asked for
pub text-before-if : (files later : Option FileMap) (name : Option Bytes) (limit : ℕ)
    (bytes : Option Bytes) → later ≡ files → IsTextIf later name limit bytes
    → IsTextIf files name limit bytes
text-before-if files later name limit bytes same =
    subst (λ (f : Option FileMap). IsTextIf f name limit bytes) same

pub unread-if : (ask : Asked) (limit : ℕ) (before later now : DeskState) (file : GivenFile)
    (name : Option Bytes) (stop : Stop) → name ≡ name_of ask file
    → IsReached ask limit before.files file → later.files ≡ before.files
    → later.faults ≡ before.faults → StopsAtIf file name limit later.files later.faults now stop
    → IsUnread ask limit before now stop
unread-if ask limit before later now file None stop named reached same none stops = absurd stops
unread-if ask limit before later now file (Some name) stop named reached same none stops = record {
  file = file;
  name = name;
  named = sym named;
  reached = reached;
  stops = stop-before file name limit before.files later.files before.faults later.faults now stop
      same none stops;
}

-- a text is refused
pub refused-of : (ask : Asked) (limit : ℕ) (before now : DeskState) (texts : GivenTexts)
    (four : Texts) (refusal : Refusal) → AreTexts ask limit before.files texts → four ≡ texts.four
    → IsRefused four refusal → IsUndrawn ask limit before now (Faulty refusal)
refused-of ask limit before now texts four refusal are same refused = inr (inl (record {
  texts = texts;
  are_texts = are;
  refusal = refusal;
  refused = subst (λ (t : Texts). IsRefused t refusal) same refused;
  told = refl;
}))

-- the nets of the problem that the texts say
nets-said : (texts : GivenTexts) (four : Texts) (problem : RoutingProblem) (nets : List Net)
    → four ≡ texts.four → problem ≡ problem_said four → nets ≡ problem.netlist.nets
    → nets ≡ (problem_said texts.four).netlist.nets
nets-said texts four problem nets same said are =
    are ∙ ap (λ (p : RoutingProblem). p.netlist.nets) said
    ∙ ap (λ (t : Texts). (problem_said t).netlist.nets) same

-- the file of names is refused
pub misnamed-of : (ask : Asked) (limit : ℕ) (before now : DeskState) (texts : GivenTexts)
    (four : Texts) (problem : RoutingProblem) (nets : List Net) (names : Option Bytes) (stop : Stop)
    → AreTexts ask limit before.files texts → four ≡ texts.four → AreFaultless four
    → problem ≡ problem_said four → nets ≡ problem.netlist.nets → names ≡ texts.names
    → IsStopped nets names stop → IsUndrawn ask limit before now stop
misnamed-of ask limit before now texts four problem nets names stop are same faultless said given
    named (inr memory) =
    inr (inr (inr (inr memory)))
misnamed-of ask limit before now texts four problem nets names stop are same faultless said given
    named (inl others) =
    inr (inr (inl (record {
      texts = texts;
      are_texts = are;
      faultless = subst AreFaultless same faultless;
      names_others = subst
          (λ (ns : List Net). NamesOthersIf ns texts.names stop)
          (nets-said texts four problem nets same said given)
          (subst (λ (n : Option Bytes). NamesOthersIf nets n stop) named others);
    })))

-- the routing is refused, or there was no memory
pub misrouted-of : (ask : Asked) (limit : ℕ) (before now : DeskState) (texts : GivenTexts)
    (four : Texts) (problem : RoutingProblem) (text : Option Bytes) (stop : Stop)
    → AreTexts ask limit before.files texts → four ≡ texts.four → AreFaultless four
    → problem ≡ problem_said four → text ≡ texts.routed
    → StopsRoutedIf ask.routed text problem ask.width stop ⊎ (stop ≡ Memory)
    → IsUndrawn ask limit before now stop
misrouted-of ask limit before now texts four problem text stop are same faultless said given
    (inr memory) =
    inr (inr (inr (inr memory)))
misrouted-of ask limit before now texts four problem text stop are same faultless said given
    (inl stops) =
    inr (inr (inr (inl (record {
      texts = texts;
      are_texts = are;
      faultless = subst AreFaultless same faultless;
      stops = subst (λ (p : RoutingProblem). StopsRoutedIf ask.routed texts.routed p ask.width stop)
          (said ∙ ap problem_said same)
          (subst (λ (t : Option Bytes). StopsRoutedIf ask.routed t problem ask.width stop) given
          stops);
    }))))

-- the picture is drawn
pub drawn-of : (ask : Asked) (limit : ℕ) (files : Option FileMap) (texts : GivenTexts)
    (four : Texts) (problem : RoutingProblem) (nets : List Net) (names text : Option Bytes)
    (blame : Blame) (shown : Option CutSaid) (picture : Bytes) → AreTexts ask limit files texts → four ≡ texts.four
    → AreFaultless four → problem ≡ problem_said four → nets ≡ problem.netlist.nets
    → names ≡ texts.names → NamesNetsIf nets names → blame ≡ blame_said names
    → shown ≡ cut_said names → text ≡ texts.routed
    → Shows ask.routed text problem ask.width blame shown picture
    → IsDrawn ask limit files picture
drawn-of ask limit files texts four problem nets names text blame shown picture are same faultless
    said given named there blamed cut is shows =
    record {
      texts = texts;
      are_texts = are;
      faultless = subst AreFaultless same faultless;
      names_nets = subst (λ (ns : List Net). NamesNetsIf ns texts.names)
          (nets-said texts four problem nets same said given)
          (subst (λ (n : Option Bytes). NamesNetsIf nets n) named there);
      shows = subst
          (λ (p : RoutingProblem).
          Shows ask.routed texts.routed p ask.width (blame_said texts.names)
          (cut_said texts.names) picture)
          (said ∙ ap problem_said same)
          (subst (λ (b : Blame).
          Shows ask.routed texts.routed problem ask.width b (cut_said texts.names) picture)
          (blamed ∙ ap blame_said named)
          (subst (λ (c : Option CutSaid).
          Shows ask.routed texts.routed problem ask.width blame c picture)
          (cut ∙ ap cut_said named)
          (subst (λ (t : Option Bytes). Shows ask.routed t problem ask.width blame shown picture)
          is shows)));
    }

-- no routing is asked for
pub shows-own : (routed : Option RoutedAsked) (text : Option Bytes) (problem : RoutingProblem)
    (width : ℕ) (blame : Blame) (shown : Option CutSaid) (picture : Bytes) → routed ≡ None
    → IsPicture problem width blame shown picture
    → Shows routed text problem width blame shown picture
shows-own routed text problem width blame shown picture none =
    subst (λ (r : Option RoutedAsked). Shows r text problem width blame shown picture) (sym none)

-- there is no text of one
pub shows-textless : (routed : Option RoutedAsked) (text : Option Bytes)
    (problem : RoutingProblem) (width : ℕ) (blame : Blame) (shown : Option CutSaid)
    (picture : Bytes) → text ≡ None → IsPicture problem width blame shown picture
    → Shows routed text problem width blame shown picture
shows-textless None text problem width blame shown picture none shows = shows
shows-textless (Some routed) text problem width blame shown picture none shows =
    subst (λ (t : Option Bytes). Shows (Some routed) t problem width blame shown picture)
    (sym none) shows

-- a routing is asked for, and there is its text
pub shows-routed : (routed : Option RoutedAsked) (text : Option Bytes) (asked : RoutedAsked)
    (said : Bytes) (problem : RoutingProblem) (width : ℕ) (blame : Blame)
    (shown : Option CutSaid) (picture : Bytes) → routed ≡ Some asked → text ≡ Some said
    → ShowsRouted problem width asked.reach said picture
    → Shows routed text problem width blame shown picture
shows-routed routed text asked said problem width blame shown picture is there shows =
    subst (λ (r : Option RoutedAsked). Shows r text problem width blame shown picture) (sym is)
    (subst (λ (t : Option Bytes). Shows (Some asked) t problem width blame shown picture)
    (sym there) shows)

pub stops-routed : (routed : Option RoutedAsked) (text : Option Bytes) (asked : RoutedAsked)
    (said : Bytes) (problem : RoutingProblem) (width : ℕ) (stop : Stop)
    → routed ≡ Some asked → text ≡ Some said
    → StopsRouted problem width asked.reach said stop ⊎ (stop ≡ Memory)
    → StopsRoutedIf routed text problem width stop ⊎ (stop ≡ Memory)
stops-routed routed text asked said problem width stop is there stops =
    subst (λ (r : Option RoutedAsked). StopsRoutedIf r text problem width stop ⊎ (stop ≡ Memory))
    (sym is)
    (subst (λ (t : Option Bytes).
    StopsRoutedIf (Some asked) t problem width stop ⊎ (stop ≡ Memory)) (sym there) stops)
