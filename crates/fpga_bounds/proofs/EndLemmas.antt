-- The terminals of nets, as sets and rows have them.
use Rattle.std.proofs.Common.{◌≡◌, ℕ, ◌+◌, Bool, true, false, Option, Some, None, List, [], ◌∷◌, ◌++◌, take, refl, sym, ap, ◌∙◌, add-one}
use Rattle.std.specs.Prelude.{◌==◌, ◌&&◌, ◌||◌, not, filter_map, slice_get}
use Rattle.std.specs.BTreeSet.{BTreeSet}
use Rattle.std.specs.List.{cons_option, list_all, list_any}
use Rattle.std.specs.Option.{option_to_list}
use Rattle.std.proofs.Math.Bool.{or-false}
use Rattle.std.proofs.lemmas.List.Elements.{filter_map-append}
use Rattle.std.proofs.lemmas.List.Folds.{list_any-append}
use Rattle.list_laws.proofs.Places.{take-get}
use Rattle.fpga_types.specs.Fit.{same_elem}
use Rattle.fpga_types.specs.Fits.{has_sink}
use Rattle.fpga_types.specs.Kinds.{is_sink, same_label}
use Rattle.fpga_types.specs.Terminals.{is_terminal}
use Rattle.fpga_types.specs.declared.netlist.PinRef.{PinRef}
use Rattle.fpga_types.specs.declared.problem.Terminal.{Terminal}
use Rattle.fpga_types.specs.declared.route.Elem.{Elem}
use Rattle.fpga_types.specs.declared.route.Label.{Label}
use Rattle.fpga_types.specs.declared.route.Label.TheVariants.{Class, Pin, Pad, Track}
use Rattle.fpga_types.proofs.SpotLemmas.{equal-swap}
use Rattle.fpga_bounds.specs.Keys.{GainsElem, has_elem}
use Rattle.fpga_bounds.specs.NetEnds.{GainsTerminal, HasTerminals, as_sink, lacks_one, sink_line}
use Rattle.fpga_bounds.specs.declared.keys.ElemKey.{ElemKey}

-- a set with one terminal more
pub gains-terminal : (before after : BTreeSet ElemKey) (terminal : Option Terminal) (at : Terminal)
    (line : Elem) → terminal ≡ Some at → line ≡ sink_line at → GainsElem before line after
    → GainsTerminal before terminal after
gains-terminal before after terminal at line there is gains e =
    gains (as_sink e) ∙ (λ i. has_elem before (as_sink e) || same_elem (as_sink e) (is i))
    ∙ (λ i. has_elem before (as_sink e) || sym (or-false (is_terminal e at)) i)
    ∙ (λ i. has_elem before (as_sink e) || list_any (is_terminal e) (option_to_list (sym there i)))

-- the terminals of the front pins, with that of the next
pub terminals-more : (f : PinRef → Option Terminal) (pins : List PinRef) (i : ℕ) (pin : PinRef)
    (terminal : Option Terminal) (before after : BTreeSet ElemKey) → slice_get pins i ≡ Some pin
    → terminal ≡ f pin → GainsTerminal before terminal after
    → HasTerminals before (filter_map f (take i pins))
    → HasTerminals after (filter_map f (take (i + 1) pins))
terminals-more f pins i pin terminal before after here is gains has e =
    gains e ∙ (λ k. has e k || list_any (is_terminal e) (option_to_list (is k)))
    ∙ sym (list_any-append (is_terminal e) (filter_map f (take i pins)) (option_to_list (f pin)))
    ∙ ap (list_any (is_terminal e)) (sym more)
  where
    one : (o : Option Terminal) → cons_option o [] ≡ option_to_list o
    one None = refl
    one (Some x) = refl

    more : filter_map f (take (i + 1) pins) ≡ filter_map f (take i pins) ++ option_to_list (f pin)
    more = rw (add-one, take-get pins i pin here) (filter_map-append f (take i pins) (pin ∷ [])
        ∙ ap (λ (last : List Terminal). filter_map f (take i pins) ++ last) (one (f pin)))

same_label-swap : (a b : Label) → same_label a b ≡ same_label b a
same_label-swap Class Class = refl
same_label-swap Class Pin = refl
same_label-swap Class Pad = refl
same_label-swap Class Track = refl
same_label-swap Pin Class = refl
same_label-swap Pin Pin = refl
same_label-swap Pin Pad = refl
same_label-swap Pin Track = refl
same_label-swap Pad Class = refl
same_label-swap Pad Pin = refl
same_label-swap Pad Pad = refl
same_label-swap Pad Track = refl
same_label-swap Track Class = refl
same_label-swap Track Pin = refl
same_label-swap Track Pad = refl
same_label-swap Track Track = refl

-- a line equals the SINK line at a terminal where it is a SINK that names it
sink-named : (at : Terminal) (e : Elem) → same_elem (sink_line at) e
    ≡ (is_sink e.kind && is_terminal e at)
sink-named at e =
    (λ i. is_sink e.kind && (equal-swap at.x e.x i && equal-swap at.y e.y i
    && same_label-swap at.label e.label i) && equal-swap at.number e.number i)
    ∙ group (is_sink e.kind) (e.x == at.x && e.y == at.y && same_label e.label at.label)
    (e.number == at.number)
  where
    group : (a b c : Bool) → (a && b && c) ≡ (a && (b && c))
    group true b c = refl
    group false b c = refl

any-sink : (at : Terminal) (elems : List Elem) → list_any (same_elem (sink_line at)) elems
    ≡ has_sink elems at
any-sink at [] = refl
any-sink at (e ∷ es) = λ i. sink-named at e i || any-sink at es i

-- what is lacking by the set of lines is lacking by the lines
pub lacks-lines : (seen : BTreeSet ElemKey) (elems : List Elem) (terminals : List Terminal)
    → ((q : Elem) → has_elem seen q ≡ list_any (same_elem q) elems)
    → lacks_one seen terminals ≡ not (list_all (has_sink elems) terminals)
lacks-lines seen elems terminals has = ap not (go terminals)
  where
    go : (ts : List Terminal) → list_all (λ at. has_elem seen (sink_line at)) ts
        ≡ list_all (has_sink elems) ts
    go [] = refl
    go (at ∷ ts) = λ i. (has (sink_line at) ∙ any-sink at elems) i && go ts i
