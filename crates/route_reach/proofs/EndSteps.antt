-- The lines of the global route, one after the other, and what is printed for each.
use Rattle.std.proofs.Common.{◌≡◌, ℕ, ◌+◌, ◌-◌, ◌<◌, true, false, Option, Some, None, List, [], ◌∷◌, ◌++◌, length, take, refl, sym, ap, subst, ◌∙◌, arith, add-one, length-append}
use Rattle.std.specs.Prelude.{◌&&◌, ◌||◌, not, nat_lt, slice_get, slice_index_or, option_and_then, Contains}
use Rattle.std.specs.List.{last_or, list_any}
use Rattle.std.specs.Option.{option_map_or}
use Rattle.std.proofs.Math.Seq.{take-append_seam}
use Rattle.std.proofs.lemmas.Bool.{false≢true, le-ltb}
use Rattle.std.proofs.lemmas.List.Elements.{filter-append}
use Rattle.list_laws.proofs.Members.{In-contains, contains-In}
use Rattle.list_laws.proofs.Places.{get-In, last-push, none_is_not_some, take-get}
use Rattle.fpga_bounds.specs.Keys.{has_elem}
use Rattle.fpga_graph.specs.Wires.{Reaches}
use Rattle.fpga_types.specs.Fit.{same_elem}
use Rattle.fpga_types.specs.Kinds.{is_channel, is_ipin, is_opin, is_sink, is_source, may_follow}
use Rattle.fpga_types.specs.Slots.{elem_pin}
use Rattle.fpga_types.specs.declared.grid.PinAt.{PinAt}
use Rattle.fpga_types.specs.declared.route.Elem.{Elem}
use Rattle.fpga_types.specs.declared.route.ElemKind.{ElemKind}
use Rattle.fpga_types.specs.declared.route.ElemKind.TheVariants.{Source, Opin, ChanX, ChanY, Ipin, Sink}
use Rattle.route_reach.specs.Printing.{IsAtPin, IsFrame, IsOwn, IsPrintedTo, IsPrinting, IsQuietBehind, NetFrame, StandsBehind, ends_of, graph_in, is_end, is_open, wire_line, wire_of}
use Rattle.route_reach.specs.Tree.{reached_at}
use Rattle.route_reach.specs.declared.printed.Printed.{Printed}
use Rattle.route_reach.specs.declared.tree.Reached.{Reached}
use Rattle.route_reach.proofs.BranchLemmas.{ends-same, opins-same, plain-step}
use Rattle.route_reach.proofs.FrameLemmas.{wire-low}
use Rattle.route_reach.proofs.LineFacts.{line-channel, line-wire, no-wire, sink-kinds}
use Rattle.route_reach.proofs.NetSinks.{before-sink}
use Rattle.route_reach.proofs.OwnLines.{in-order, ipin-quiet, sink-quiet}
use Rattle.route_reach.proofs.PrintingLemmas.{last-deep, printed-more}
use Rattle.route_reach.proofs.Wires.{is-reaches}
use Rattle.route_verify.specs.Depths.{DeepLine, deep_line, deep_lines, same_tracked}
use Rattle.route_verify.specs.Lines.{has_wire}
use Rattle.route_verify.specs.Reach.{depth_at_pin}
use Rattle.route_verify.specs.Wiring.{elem_wire, misses, pin_on, reaches, wire_on}
use Rattle.route_verify.proofs.DepthLemmas.{deep-push, last-In}

-- what is left of the kinds of lines
end-kinds : (k : ElemKind) → (is_ipin k || is_sink k) ≡ true
    → (is_channel k ≡ false) × (is_opin k ≡ false)
end-kinds Ipin h = (refl, refl)
end-kinds Sink h = (refl, refl)
end-kinds k h = absurd (false≢true h)

pub ipin-kinds : (k : ElemKind) → is_ipin k ≡ true
    → (is_sink k ≡ false) × ((is_ipin k || is_sink k) ≡ true)
ipin-kinds Ipin h = (refl, refl)
ipin-kinds k h = absurd (false≢true h)

-- behind an IPIN only a SINK may stand
not-ipin : (k m : ElemKind) → may_follow k m ≡ true → is_sink m ≡ false → is_ipin k ≡ false
not-ipin Ipin m h is = absurd (false≢true (sym is ∙ h))
not-ipin Source m h is = refl
not-ipin Opin m h is = refl
not-ipin ChanX m h is = refl
not-ipin ChanY m h is = refl
not-ipin Sink m h is = refl

-- before the last of one more stands the last
but-one : {T : Type 0} (xs : List T) (x : T)
    → last_or None (take (length (xs ++ x ∷ []) - 1) (xs ++ x ∷ [])) ≡ last_or None xs
but-one {T} xs x =
    let count : length (xs ++ x ∷ []) - 1 ≡ length xs =
    (let all : length (xs ++ x ∷ []) ≡ length xs + 1 = length-append xs (x ∷ []) in
    omega (arith, all)) in
    ap (λ (n : ℕ). last_or None (take n (xs ++ x ∷ []))) count
    ∙ ap (last_or None) (take-append_seam xs (x ∷ []))

-- some lines have a last one
pub some-lines : (xs : List Elem) (a : Elem) → last_or None xs ≡ Some a → 0 < length xs
some-lines [] a h = cc
some-lines (x ∷ xs) a h = omega arith

-- an end more
end-more : (xs ys : List Elem) (e : Elem) → is_end e ≡ true → ends_of xs ≡ ends_of ys
    → ends_of (xs ++ e ∷ []) ≡ ends_of (ys ++ e ∷ [])
end-more xs ys e end same =
    filter-append is_end xs (e ∷ []) ∙ (λ i. same i ++ ends_of (e ∷ []))
    ∙ sym (filter-append is_end ys (e ∷ []))

module _ (f : NetFrame) (is : IsFrame f) (i : ℕ) (e : Elem)
    (at : slice_get f.net.elems i ≡ Some e) where
  front : take (i + 1) f.net.elems ≡ take i f.net.elems ++ e ∷ []
  front = rw add-one (take-get f.net.elems i e at)

  last : last_or None (take (i + 1) f.net.elems) ≡ Some e
  last = ap (last_or None) front ∙ last-push None (take i f.net.elems) e

  -- before a line other than a SINK a branch may begin
  pub open-here : (printed : Printed) → IsPrintedTo f i printed → is_sink e.kind ≡ false
      → is_open printed.lines.items ≡ true
  open-here printed so_far other =
      go (last_or None (take i f.net.elems)) so_far.stands (in-order f is i e at)
    where
      go : (o : Option Elem) → StandsBehind f printed.lines.items o
          → option_map_or (λ (a : Elem). may_follow a.kind e.kind) o (is_source e.kind) ≡ true
          → is_open printed.lines.items ≡ true
      go None stands order = stands
      go (Some a) stands order = stands.1 (not-ipin a.kind e.kind order other)

  -- a line that is neither an IPIN nor a SINK is passed over
  pub skipped : (printed : Printed) → IsPrintedTo f i printed → is_ipin e.kind ≡ false
      → is_sink e.kind ≡ false → IsPrintedTo f (i + 1) printed
  skipped printed so_far no_pin no_sink = record {
    printing = so_far.printing;
    ends = so_far.ends ∙ sym (ends-same (take i f.net.elems) e (λ n. no_pin n || no_sink n))
        ∙ ap ends_of (sym front);
    stands = subst (StandsBehind f printed.lines.items) (sym last) (
      λ pin. absurd (false≢true (sym no_pin ∙ pin)),
      λ other. open-here printed so_far no_sink,
    );
  }

  own : is_channel e.kind ≡ false → IsOwn f e
  own other = record {
    pin = λ no. contains-In f.net.elems e (get-In f.net.elems i e at);
    wire = λ channel. absurd (false≢true (sym other ∙ channel));
  }

  -- an end of the net is printed
  module _ (old new : Printed) (so_far : IsPrinting f old) (end : is_end e ≡ true)
      (ends : ends_of old.lines.items ≡ ends_of (take i f.net.elems))
      (some : 0 < length old.lines.items) (quiet : IsQuietBehind f old.lines.items e)
      (lines : new.lines.items ≡ old.lines.items ++ e ∷ []) (marks : new.marks ≡ old.marks)
      (opins : new.opins ≡ old.opins) where
    other : (is_channel e.kind ≡ false) × (is_opin e.kind ≡ false)
    other = end-kinds e.kind end

    end-printing : IsPrinting f new
    end-printing = printed-more f old new e so_far
        (plain-step f is old new e other.0 lines marks (opins-same f is old new e other.1 opins))
        quiet (own other.0)
        (λ k r there on. absurd (none_is_not_some (sym (no-wire e other.0) ∙ on)))
        (λ s first. λ n. so_far.begun s first some n || same_elem s e)

    end-ends : ends_of new.lines.items ≡ ends_of (take (i + 1) f.net.elems)
    end-ends = ap ends_of lines
        ∙ end-more old.lines.items (take i f.net.elems) e end ends
        ∙ ap ends_of (sym front)

    end-last : last_or None new.lines.items ≡ Some e
    end-last = ap (last_or None) lines ∙ last-push None old.lines.items e

  -- an IPIN behind a wire that it reaches
  pub ipin-done : (before old new : Printed) → IsPrintedTo f i before → is_ipin e.kind ≡ true
      → (pin : PinAt) → elem_pin e ≡ Some pin → (k : ℕ) (r : Reached)
      → reached_at f.tree k ≡ Some r → Reaches (graph_in f) pin (wire_of f k)
      → IsPrinting f old → ends_of old.lines.items ≡ ends_of before.lines.items
      → last_or None old.lines.items ≡ Some (wire_line (wire_of f k))
      → new.lines.items ≡ old.lines.items ++ e ∷ [] → new.marks ≡ old.marks
      → new.opins ≡ old.opins → IsPrintedTo f (i + 1) new
  ipin-done before old new so_far ipin pin has k r there reaches_it printing same at_wire lines
      marks opins =
      let kinds = ipin-kinds e.kind ipin in
      let a : Elem = wire_line (wire_of f k) in
      let ends : ends_of old.lines.items ≡ ends_of (take i f.net.elems) = same ∙ so_far.ends in
      let some : 0 < length old.lines.items = some-lines old.lines.items a at_wire in
      let reached : reaches (graph_in f) pin (wire_of f k) ≡ true =
      is-reaches (graph_in f) pin (wire_of f k) reaches_it in
      let touched : misses (graph_in f) (pin_on (Some e)) (wire_on (Some a)) ≡ false =
      (λ n. misses (graph_in f) (has n) (line-wire (wire_of f k) n))
      ∙ (λ n. wire-low f is k r there n && not (reached n)) in
      let quiet : IsQuietBehind f old.lines.items e =
      ipin-quiet f is old printing e i at ends ipin a at_wire (line-channel (wire_of f k))
      touched in
      let deep : List DeepLine = deep_lines same_tracked old.lines.items in
      let made = last-deep old.lines.items a at_wire in
      let depth : made.0.depth ≡ Some r.depth =
      printing.deep made.0 k r (contains-In deep made.0 (last-In deep made.0 made.1)) there
      (ap elem_wire made.2 ∙ line-wire (wire_of f k)) in
      record {
        printing = end-printing old new printing kinds.1 ends some quiet lines marks opins;
        ends = end-ends old new printing kinds.1 ends some quiet lines marks opins;
        stands = subst (StandsBehind f new.lines.items) (sym last) (
          λ yes. record {
            last = end-last old new printing kinds.1 ends some quiet lines marks opins;
            depth = r.depth;
            deep = ap (λ (ls : List Elem). depth_at_pin (deep_lines same_tracked ls)) lines
                ∙ ap depth_at_pin (deep-push same_tracked old.lines.items e)
                ∙ ap (option_and_then (λ (l : DeepLine). l.depth))
                (but-one deep (deep_line same_tracked deep e) ∙ made.1)
                ∙ depth;
            low = is.tree.low k r there;
          },
          λ no. absurd (false≢true (sym no ∙ ipin)),
        );
      }

  -- a SINK behind its IPIN
  pub sink-done : (old new : Printed) → IsPrintedTo f i old → is_sink e.kind ≡ true
      → new.lines.items ≡ old.lines.items ++ e ∷ [] → new.marks ≡ old.marks
      → new.opins ≡ old.opins → IsPrintedTo f (i + 1) new
  sink-done old new so_far sink lines marks opins =
      go (last_or None (take i f.net.elems)) refl so_far.stands (in-order f is i e at)
    where
      kinds : (is_ipin e.kind ≡ false) × ((is_ipin e.kind || is_sink e.kind) ≡ true)
          × (is_source e.kind ≡ false)
      kinds = sink-kinds e.kind sink

      go : (o : Option Elem) → last_or None (take i f.net.elems) ≡ o
          → StandsBehind f old.lines.items o
          → option_map_or (λ (a : Elem). may_follow a.kind e.kind) o (is_source e.kind) ≡ true
          → IsPrintedTo f (i + 1) new
      go None before stands order = absurd (false≢true (sym kinds.2 ∙ order))
      go (Some a) before stands order =
          let ipin : is_ipin a.kind ≡ true = before-sink a.kind e.kind order sink in
          let pin : IsAtPin f old.lines.items a = stands.0 ipin in
          let some : 0 < length old.lines.items = some-lines old.lines.items a pin.last in
          let quiet : IsQuietBehind f old.lines.items e =
          sink-quiet f is old so_far.printing e i at so_far.ends sink a pin.last before ipin
          (ap (λ (d : Option ℕ). option_map_or (λ n. nat_lt f.reach n) d false) pin.deep
          ∙ le-ltb f.reach pin.depth pin.low) in
          record {
            printing = end-printing old new so_far.printing kinds.1 so_far.ends some quiet lines
                marks opins;
            ends = end-ends old new so_far.printing kinds.1 so_far.ends some quiet lines marks
                opins;
            stands = subst (StandsBehind f new.lines.items) (sym last) (
              λ yes. absurd (false≢true (sym kinds.0 ∙ yes)),
              λ no. ap (λ (o : Option Elem). option_map_or (λ (b : Elem). is_sink b.kind) o true)
                  (end-last old new so_far.printing kinds.1 so_far.ends some quiet lines marks
                  opins) ∙ sink,
            );
          }

take-none : {T : Type 0} (xs : List T) → take 0 xs ≡ []
take-none [] = refl
take-none (x ∷ xs) = refl

-- nothing is printed at first
pub nothing-printed : (f : NetFrame) (printed : Printed) → printed.lines.items ≡ []
    → length printed.marks.items ≡ length f.tree.wires
    → ((k : ℕ) → slice_index_or printed.marks.items k false ≡ false)
    → ((e : Elem) → has_elem printed.opins e ≡ false) → IsPrintedTo f 0 printed
nothing-printed f printed lines places marks opins = record {
  printing = record {
    quiet = subst (λ (ls : List Elem). (i : ℕ) (y : Elem) → slice_get ls i ≡ Some y
        → IsQuietBehind f (take i ls) y) (sym lines)
        (λ i y at. absurd (none_is_not_some at));
    own = subst (λ (ls : List Elem). (y : Elem) → Contains ls y → IsOwn f y) (sym lines)
        (λ y has. absurd (In-contains [] y has));
    deep = subst (λ (ls : List Elem). (line : DeepLine) (k : ℕ) (r : Reached)
        → Contains (deep_lines same_tracked ls) line → reached_at f.tree k ≡ Some r
        → elem_wire line.elem ≡ Some (wire_of f k) → line.depth ≡ Some r.depth) (sym lines)
        (λ line k r has there on. absurd (In-contains [] line has));
    places = places;
    marked = λ k r there. marks k
        ∙ ap (λ (ls : List Elem). has_wire ls (wire_of f k)) (sym lines);
    seen = λ e opin. opins e ∙ ap (list_any (same_elem e)) (sym lines);
    begun = λ s first some.
        absurd (let none : length printed.lines.items ≡ 0 = ap length lines in
        omega (arith, none, some));
  };
  ends = ap ends_of lines ∙ sym (ap ends_of (take-none f.net.elems));
  stands = subst (StandsBehind f printed.lines.items)
      (sym (ap (last_or None) (take-none f.net.elems))) (ap is_open lines);
}
