-- What each step of printing leaves.
use Rattle.std.proofs.Common.{◌≡◌, ℕ, zero, suc, ◌<◌, true, false, Some, None, List, [], ◌∷◌, ◌++◌, length, take, refl, sym, ap, ◌∙◌, arith, slice_set}
use Rattle.std.specs.Prelude.{◌&&◌, ◌||◌, ◌==◌, not, Ok, Err, OnOk, Result, Contains, slice_get}
use Rattle.std.specs.List.{last_or, list_any}
use Rattle.std.specs.Option.{option_map_or}
use Rattle.std.proofs.lemmas.Bool.{false≢true}
use Rattle.list_laws.proofs.Places.{none_is_not_some, some_is}
use Rattle.fpga_bounds.specs.Keys.{GainsElem}
use Rattle.fpga_types.specs.Fit.{same_elem}
use Rattle.fpga_types.specs.Kinds.{is_channel, is_ipin, is_opin, is_sink, is_source, may_follow}
use Rattle.fpga_types.specs.declared.route.Elem.{Elem}
use Rattle.fpga_types.specs.declared.route.ElemKind.{ElemKind}
use Rattle.fpga_types.specs.declared.route.ElemKind.TheVariants.{Source}
use Rattle.route_reach.specs.Printing.{IsFrame, IsOwn, IsPrinting, IsQuietBehind, NetFrame, is_open, wire_line, wire_of}
use Rattle.route_reach.specs.Tree.{reached_at}
use Rattle.route_reach.specs.declared.printed.Printed.{Printed}
use Rattle.route_reach.specs.declared.tree.Reached.{Reached}
use Rattle.route_reach.proofs.BranchLemmas.{opins-same, plain-step, reached-low, wire-step}
use Rattle.route_reach.proofs.FrameLemmas.{head-fits, one-number, wire-own}
use Rattle.route_reach.proofs.LineFacts.{line-wire, no-wire, opin-other, or-true, same_elem-itself}
use Rattle.route_reach.proofs.OwnLines.{in-order, source-quiet}
use Rattle.route_reach.proofs.PrintingLemmas.{depth_of, printed-more}

-- two facts of a value that is there
pub on_ok_two : {T E P Q R : Type 0} (r : Result T E) → (P → Q → R) → OnOk r P → OnOk r Q
    → OnOk r R
on_ok_two (Ok x) f p q = f p q
on_ok_two (Err e) f p q = tt

pub source-kinds : (k : ElemKind) → is_source k ≡ true
    → (is_channel k ≡ false) × (is_opin k ≡ false) × ((is_ipin k || is_sink k) ≡ false)
source-kinds Source h = (refl, refl, refl)
source-kinds k h = absurd (false≢true h)

module _ (f : NetFrame) (is : IsFrame f) where
  -- an ordinary net has a line, and the first is a SOURCE
  pub net-some : 0 < length f.net.elems
  net-some = go (length f.net.elems) refl
    where
      go : (n : ℕ) → length f.net.elems ≡ n → 0 < length f.net.elems
      go zero none = absurd (false≢true (sym (sym (λ i. not (is.ordinary i)
          && (false || none i == 0 && not false)) ∙ (head-fits f is).order)))
      go (suc n) some = omega (arith, some)

  pub first-source : (e : Elem) → slice_get f.net.elems 0 ≡ Some e → is_source e.kind ≡ true
  first-source e at = go f.net.elems (in-order f is 0 e at)
    where
      go : (es : List Elem)
          → option_map_or (λ (a : Elem). may_follow a.kind e.kind) (last_or None (take 0 es))
          (is_source e.kind) ≡ true
          → is_source e.kind ≡ true
      go [] h = h
      go (x ∷ xs) h = h

  pub first-line : (e : Elem) × (slice_get f.net.elems 0 ≡ Some e) × (is_source e.kind ≡ true)
  first-line = go f.net.elems net-some refl
    where
      go : (es : List Elem) → 0 < length es → f.net.elems ≡ es
          → (e : Elem) × (slice_get f.net.elems 0 ≡ Some e) × (is_source e.kind ≡ true)
      go [] some e = absurd (omega (arith, some))
      go (x ∷ xs) some e =
          let at : slice_get f.net.elems 0 ≡ Some x = ap (λ (es : List Elem). slice_get es 0) e in
          (x, at, first-source x at)

  own-plain : (e : Elem) → is_channel e.kind ≡ false → Contains f.net.elems e → IsOwn f e
  own-plain e other among = record {
    pin = λ no. among;
    wire = λ channel. absurd (false≢true (sym other ∙ channel));
  }

  module _ (old new : Printed) (so_far : IsPrinting f old) where
    -- the SOURCE
    pub source-done : (e : Elem) → slice_get f.net.elems 0 ≡ Some e → is_open old.lines.items ≡ true
        → Contains f.net.elems e → new.lines.items ≡ old.lines.items ++ e ∷ []
        → new.marks ≡ old.marks → new.opins ≡ old.opins → IsPrinting f new
    source-done e at begin among lines marks opins =
        let source = first-source e at in
        let kinds = source-kinds e.kind source in
        printed-more f old new e so_far
        (plain-step f is old new e kinds.0 lines marks (opins-same f is old new e kinds.1 opins))
        (source-quiet f is old so_far e at source begin) (own-plain e kinds.0 among)
        (λ k r there on. absurd (none_is_not_some (sym (no-wire e kinds.0) ∙ on)))
        (λ s first. let same : e ≡ s = some_is (sym at ∙ first) in
        (λ i. list_any (same_elem s) old.lines.items || same_elem s (same i))
        ∙ (λ i. list_any (same_elem s) old.lines.items || same_elem-itself s i)
        ∙ or-true (list_any (same_elem s) old.lines.items))

    -- an OPIN
    pub opin-done : (e : Elem) → is_opin e.kind ≡ true → Contains f.net.elems e
        → IsQuietBehind f old.lines.items e → 0 < length old.lines.items
        → new.lines.items ≡ old.lines.items ++ e ∷ [] → new.marks ≡ old.marks
        → GainsElem old.opins e new.opins → IsPrinting f new
    opin-done e opin among quiet some lines marks opins =
        let kinds = opin-other e.kind opin in
        printed-more f old new e so_far
        (plain-step f is old new e kinds.0 lines marks (λ q kind. opins q))
        quiet (own-plain e kinds.0 among)
        (λ k r there on. absurd (none_is_not_some (sym (no-wire e kinds.0) ∙ on)))
        (λ s first. λ i. so_far.begun s first some i || same_elem s e)

    -- a wire
    pub wire-done : (k : ℕ) (r : Reached) → reached_at f.tree k ≡ Some r
        → IsQuietBehind f old.lines.items (wire_line (wire_of f k))
        → depth_of f old.lines.items (wire_line (wire_of f k)) ≡ Some r.depth
        → 0 < length old.lines.items
        → new.lines.items ≡ old.lines.items ++ wire_line (wire_of f k) ∷ []
        → new.marks.items ≡ slice_set old.marks.items k true → new.opins ≡ old.opins
        → IsPrinting f new
    wire-done k r there quiet depth some lines marks opins =
        let low : k < length old.marks.items =
        (let inside = reached-low f.tree.wires k r there in
        omega (arith, inside, so_far.places)) in
        printed-more f old new (wire_line (wire_of f k)) so_far
        (wire-step f is old new k r there low lines marks opins) quiet (wire-own f is k r there)
        (λ j q here on.
        let same : k ≡ j = one-number f is k j r q there here
        (some_is (sym (line-wire (wire_of f k)) ∙ on)) in
        let one : r ≡ q = some_is (sym there ∙ ap (reached_at f.tree) same ∙ here) in
        depth ∙ ap (λ (x : Reached). Some x.depth) one)
        (λ s first. λ i. so_far.begun s first some i || same_elem s (wire_line (wire_of f k)))
