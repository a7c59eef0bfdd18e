use Rattle.std.proofs.Common.{◌≡◌, ◌<◌, List, Some, false, length, get_or, refl, sym, ap, subst, ◌∙◌}
use Rattle.std.specs.Prelude.{slice_get}
use Rattle.list_laws.proofs.Places.{get-there}
use Rattle.fpga_bounds.proofs.LineLemmas.{NO_ELEM}
use Rattle.fpga_types.specs.Kinds.{is_ipin, is_sink}
use Rattle.fpga_types.specs.declared.route.Elem.{Elem}
use Rattle.fpga_types.specs.declared.route.ElemKind.{ElemKind}
use Rattle.fpga_types.specs.declared.route.ElemKind.TheVariants.{Ipin, Sink}
use Rattle.route_reach.specs.Printer.{frame_of}
use Rattle.route_reach.proofs.EndSteps.{skipped}
use Rattle.route_reach.proofs.printer.NetPrinter.print_line.Goals as goal

no-ipin : (k : ElemKind) → (k ≡ Ipin → ⊥) → is_ipin k ≡ false
no-ipin Ipin h = absurd (h refl)
no-ipin k h = refl

no-sink : (k : ElemKind) → (k ≡ Sink → ⊥) → is_sink k ≡ false
no-sink Sink h = absurd (h refl)
no-sink k h = refl

pub returns-in_default : goal.returns-in_default
returns-in_default c =
    let e : Elem = get_or c.as_slice.result.now c.args.i NO_ELEM in
    let at : slice_get c.args.self.now.net.now.elems c.args.i ≡ Some e =
    ap (λ (es : List Elem). slice_get es c.args.i) (sym c.as_slice.ensures)
    ∙ get-there c.as_slice.result.now c.args.i e NO_ELEM
    (subst (λ (es : List Elem). c.args.i < length es) (sym c.as_slice.ensures) c.requires.line)
    refl in
    skipped (frame_of c.args.self.now) c.requires.is.frame c.args.i e at c.args.printed.now
    c.requires.so_far (no-ipin e.kind c.in_default.not-Ipin) (no-sink e.kind c.in_default.not-Sink)
