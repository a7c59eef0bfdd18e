use Rattle.std.proofs.Common.{◌≡◌, ◌<◌, List, None, Some, length, get_or, refl, sym, ap, subst, ◌∙◌}
use Rattle.std.specs.Prelude.{slice_get}
use Rattle.std.specs.List.{last_or}
use Rattle.std.proofs.lemmas.Result.{on_ok_weaker}
use Rattle.list_laws.proofs.Members.{contains-In}
use Rattle.list_laws.proofs.Places.{get-In, get-there, last-push}
use Rattle.fpga_bounds.proofs.LineLemmas.{NO_ELEM}
use Rattle.fpga_types.specs.declared.route.Elem.{Elem}
use Rattle.route_reach.specs.Printer.{frame_of}
use Rattle.route_reach.specs.Printing.{ends_of}
use Rattle.route_reach.proofs.BranchLemmas.{ends-same}
use Rattle.route_reach.proofs.PrintSteps.{first-source, net-some, source-done, source-kinds}
use Rattle.route_reach.proofs.printer.NetPrinter.print_source.Goals as goal

some : goal.bounds-as_slice-0
some c = subst (λ (es : List Elem). 0 < length es) (sym c.as_slice.ensures)
    (net-some (frame_of c.args.self.now) c.requires.is.frame)

pub bounds-as_slice-0 : goal.bounds-as_slice-0
bounds-as_slice-0 c = some c

module _ (c : goal.After-push) where
  abbrev source : Elem
  source = get_or c.as_slice.result.now 0 NO_ELEM

  at : slice_get c.args.self.now.net.now.elems 0 ≡ Some source
  at = ap (λ (es : List Elem). slice_get es 0) (sym c.as_slice.ensures)
      ∙ get-there c.as_slice.result.now 0 source NO_ELEM
      (subst (λ (es : List Elem). 0 < length es) (sym c.as_slice.ensures)
      (net-some (frame_of c.args.self.now) c.requires.is.frame)) refl

pub returns-clause-so_far : goal.returns-clause-so_far
returns-clause-so_far c = on_ok_weaker c.push.result
    (λ lines. source-done (frame_of c.args.self.now) c.requires.is.frame c.args.printed.now
    c.push.new.self c.requires.so_far (source c) (at c) c.requires.open
    (contains-In c.args.self.now.net.now.elems (source c)
    (get-In c.args.self.now.net.now.elems 0 (source c) (at c)))
    lines c.push.ensures.marks c.push.ensures.opins) c.push.ensures.lines

pub returns-clause-ends : goal.returns-clause-ends
returns-clause-ends c = on_ok_weaker c.push.result
    (λ lines. ap ends_of lines ∙ ends-same c.args.printed.now.lines.items (source c)
    (source-kinds (source c).kind
    (first-source (frame_of c.args.self.now) c.requires.is.frame (source c) (at c))).2)
    c.push.ensures.lines

pub returns-clause-last : goal.returns-clause-last
returns-clause-last c = on_ok_weaker c.push.result
    (λ lines. ap (last_or None) lines
    ∙ last-push None c.args.printed.now.lines.items (source c) ∙ sym (at c)) c.push.ensures.lines
