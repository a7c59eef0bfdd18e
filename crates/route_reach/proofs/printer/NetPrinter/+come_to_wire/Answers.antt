use Rattle.std.proofs.Common.{◌≡◌, ◌<◌, ◌≢◌, Bool, List, Some, true, false, sym, ap, subst, ◌∙◌, arith}
use Rattle.std.specs.Prelude.{ℕ, slice_index_or, slice_set}
use Rattle.std.proofs.lemmas.List.{get_or-set_other}
use Rattle.std.proofs.lemmas.Result.{on_ok_weaker}
use Rattle.list_laws.proofs.Places.{some_is}
use Rattle.fpga_types.specs.Slots.{slots}
use Rattle.route_reach.specs.Printer.{frame_of}
use Rattle.route_reach.specs.Printing.{NetFrame, graph_in, wire_of}
use Rattle.route_reach.specs.Tree.{IsLedBy, reached_at}
use Rattle.route_reach.specs.declared.printed.Printed.{Printed}
use Rattle.route_reach.specs.declared.tree.Lead.TheVariants.{Wire as WireLead}
use Rattle.route_reach.specs.declared.tree.Reached.{Reached}
use Rattle.route_reach.proofs.BranchLemmas.{IsNext, mark-read, next-branch, next-by_pin, next-by_wire, some-found}
use Rattle.route_verify.specs.Lines.{has_wire, is_on_wire}
use Rattle.route_reach.proofs.printer.NetPrinter.+come_to_wire.Goals as goal

-- a wire that has a line
module _ (t : ℕ) (c : goal.After-print_wire-arg-1 t) where
  abbrev there-1 : reached_at c.args.self.now.tree.now c.args.k ≡ Some c.in-Some.reached
  there-1 = sym c.reached.ensures ∙ c.in-Some.is

  has-1 : has_wire c.args.printed.now.lines.items (wire_of (frame_of c.args.self.now) c.args.k)
      ≡ true
  has-1 = sym (c.requires.so_far.marked c.args.k c.in-Some.reached there-1)
      ∙ mark-read (frame_of c.args.self.now) c.requires.is.frame c.args.k c.in-Some.reached there-1
      c.args.printed.now c.requires.so_far c.index.result.now true c.index.ensures c.if-index.true

  next-1 : IsNext (frame_of c.args.self.now) c.requires.is.frame c.args.printed.now
      c.requires.so_far c.args.k c.in-Some.reached there-1
  next-1 = next-branch (frame_of c.args.self.now) c.requires.is.frame c.args.printed.now
      c.requires.so_far c.args.k c.in-Some.reached there-1 c.requires.open has-1

pub print_wire-requires-clause-quiet : goal.print_wire-requires-clause-quiet
print_wire-requires-clause-quiet t c = (next-1 t c).quiet

pub print_wire-requires-clause-deep : goal.print_wire-requires-clause-deep
print_wire-requires-clause-deep t c = (c.in-Some.reached, there-1 t c, (next-1 t c).depth)

pub print_wire-requires-clause-begun : goal.print_wire-requires-clause-begun
print_wire-requires-clause-begun t c =
    some-found (is_on_wire (wire_of (frame_of c.args.self.now) c.args.k))
    c.args.printed.now.lines.items (has-1 t c)

-- a wire that an OPIN leads to
module _ (t : ℕ) (c : goal.After-print_wire-arg-in-Pin-1 t) where
  abbrev there-2 : reached_at c.args.self.now.tree.now c.args.k ≡ Some c.in-Some.reached
  there-2 = sym c.reached.ensures ∙ c.in-Some.is

  next-2 : IsNext (frame_of c.args.self.now) c.requires.is.frame c.come_to_opin.new.printed
      c.in-Ok.ensures.so_far c.args.k c.in-Some.reached there-2
  next-2 = next-by_pin (frame_of c.args.self.now) c.requires.is.frame c.args.k c.in-Some.reached
      there-2 c.come_to_opin.new.printed c.in-Ok.ensures.so_far
      (ap (λ (m : _). slice_index_or m.items c.args.k false) c.in-Ok.ensures.marks
      ∙ mark-read (frame_of c.args.self.now) c.requires.is.frame c.args.k c.in-Some.reached there-2
      c.args.printed.now c.requires.so_far c.index.result.now false c.index.ensures
      c.if-index.false)
      c.in-Pin.pin c.in-Pin.is c.in-Ok.ensures.last

pub print_wire-requires-in-Pin-clause-quiet : goal.print_wire-requires-in-Pin-clause-quiet
print_wire-requires-in-Pin-clause-quiet t c = (next-2 t c).quiet

pub print_wire-requires-in-Pin-clause-deep : goal.print_wire-requires-in-Pin-clause-deep
print_wire-requires-in-Pin-clause-deep t c = (c.in-Some.reached, there-2 t c, (next-2 t c).depth)

-- a wire that another wire leads to
module _ (t : ℕ) (c : goal.After-print_wire-arg-in-Wire-1 t) where
  abbrev there-3 : reached_at c.args.self.now.tree.now c.args.k ≡ Some c.in-Some.reached
  there-3 = sym c.reached.ensures ∙ c.in-Some.is

  led-3 : IsLedBy (graph_in (frame_of c.args.self.now)) (slots c.args.self.now.problem.now.route)
      c.args.self.now.net.now c.args.self.now.tree.now c.args.k c.in-Some.reached.depth
      (WireLead c.in-Wire.other)
  led-3 = subst (IsLedBy (graph_in (frame_of c.args.self.now))
      (slots c.args.self.now.problem.now.route) c.args.self.now.net.now c.args.self.now.tree.now
      c.args.k c.in-Some.reached.depth) c.in-Wire.is
      (c.requires.is.frame.tree.led c.args.k c.in-Some.reached there-3)

  unmarked-3 : slice_index_or c.come_to_wire.new.printed.marks.items c.args.k false ≡ false
  unmarked-3 =
      c.in-Ok-come_to_wire.ensures.deeper led-3.0 led-3.1 c.args.k c.in-Some.reached there-3
      (let more = led-3.2 in omega (arith, more))
      ∙ mark-read (frame_of c.args.self.now) c.requires.is.frame c.args.k c.in-Some.reached there-3
      c.args.printed.now c.requires.so_far c.index.result.now false c.index.ensures
      c.if-index.false

  next-3 : IsNext (frame_of c.args.self.now) c.requires.is.frame c.come_to_wire.new.printed
      c.in-Ok-come_to_wire.ensures.so_far c.args.k c.in-Some.reached there-3
  next-3 = next-by_wire (frame_of c.args.self.now) c.requires.is.frame c.args.k c.in-Some.reached
      there-3 c.come_to_wire.new.printed c.in-Ok-come_to_wire.ensures.so_far unmarked-3
      c.in-Wire.other c.in-Wire.is c.in-Ok-come_to_wire.ensures.last

pub print_wire-requires-in-Wire-clause-quiet : goal.print_wire-requires-in-Wire-clause-quiet
print_wire-requires-in-Wire-clause-quiet t c = (next-3 t c).quiet

pub print_wire-requires-in-Wire-clause-deep : goal.print_wire-requires-in-Wire-clause-deep
print_wire-requires-in-Wire-clause-deep t c = (c.in-Some.reached, there-3 t c, (next-3 t c).depth)

-- the wires deeper than one, once its line and those of wires less deep are printed
deeper : (f : NetFrame) (k : ℕ) (r s : Reached) (old mid new : Printed)
    → reached_at f.tree k ≡ Some r → s.depth < r.depth
    → ((m : ℕ) (q : Reached) → reached_at f.tree m ≡ Some q → s.depth < q.depth
    → slice_index_or mid.marks.items m false ≡ slice_index_or old.marks.items m false)
    → new.marks.items ≡ slice_set mid.marks.items k true
    → (x : Reached) → reached_at f.tree k ≡ Some x
    → (m : ℕ) (q : Reached) → reached_at f.tree m ≡ Some q → x.depth < q.depth
    → slice_index_or new.marks.items m false ≡ slice_index_or old.marks.items m false
deeper f k r s old mid new there less keeps marks x again m q here low =
    let one : r ≡ x = some_is (sym there ∙ again) in
    let depths : r.depth ≡ x.depth = ap (λ (y : Reached). y.depth) one in
    let apart : m ≢ k = (λ same.
    let both : q ≡ x = some_is (sym here ∙ ap (reached_at f.tree) same ∙ again) in
    let equal : q.depth ≡ x.depth = ap (λ (y : Reached). y.depth) both in
    absurd (omega (arith, equal, low))) in
    ap (λ (ms : List Bool). slice_index_or ms m false) marks
    ∙ get_or-set_other mid.marks.items k m true false apart
    ∙ keeps m q here (omega (arith, less, depths, low))

pub returns-in-Ok-come_to_wire-clause-deeper : goal.returns-in-Ok-come_to_wire-clause-deeper
returns-in-Ok-come_to_wire-clause-deeper t c =
    let there : reached_at c.args.self.now.tree.now c.args.k ≡ Some c.in-Some.reached =
    sym c.reached.ensures ∙ c.in-Some.is in
    let led = subst (IsLedBy (graph_in (frame_of c.args.self.now))
    (slots c.args.self.now.problem.now.route) c.args.self.now.net.now c.args.self.now.tree.now
    c.args.k c.in-Some.reached.depth) c.in-Wire.is
    (c.requires.is.frame.tree.led c.args.k c.in-Some.reached there) in
    on_ok_weaker c.print_wire-in-Wire.result
    (λ marks. deeper (frame_of c.args.self.now) c.args.k c.in-Some.reached led.0
    c.args.printed.now c.come_to_wire.new.printed c.print_wire-in-Wire.new.printed there
    (let more = led.2 in omega (arith, more))
    (c.in-Ok-come_to_wire.ensures.deeper led.0 led.1) marks)
    c.print_wire-in-Wire.ensures.marks
