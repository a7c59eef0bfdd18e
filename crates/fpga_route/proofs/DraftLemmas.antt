-- What one more line does to the value as far as it was read.
use Rattle.std.proofs.Common.{◌≡◌, ◌+◌, false, List, [], ◌∷◌, ◌++◌, length, Option, Some, None, refl, sym, ap, ◌∙◌, append_assoc, arith, length-append}
use Rattle.std.specs.Prelude.{not, option_map, option_to_list}
use Rattle.std.specs.List.{cons_option}
use Rattle.std.proofs.lemmas.List.{append-nil}
use Rattle.std.proofs.lemmas.List.Sums.{take_while-cons}
use Rattle.fpga_types.specs.Size.{Size}
use Rattle.fpga_types.specs.declared.route.Elem.{Elem}
use Rattle.fpga_types.specs.declared.route.RouteNet.{RouteNet}
use Rattle.fpga_text.specs.Bytes.{Bytes}
use Rattle.fpga_text.specs.Words.{TextLine}
use Rattle.fpga_route.specs.Forms.{NetWords, ElemWords, Form, Net, Elem as ElemForm, Block, later_form}
use Rattle.fpga_route.specs.Standings.{later_fault}
use Rattle.fpga_route.specs.Value.{begins_net, elem_of, elems_of, form_elem, form_kept, kept_of, net_of, own_lines, nets_of, with_net}
use Rattle.fpga_route.specs.Drafts.{Progress, standing_of, net_count, nets_begun, with_lines, nets_with, BeginsNet, AddsElem, KeepsLine, TakesLine}

-- a net is open or not; with no more lines it is what it was
with_no_lines : (open_net : Option RouteNet) → option_map (with_lines []) open_net ≡ open_net
with_no_lines None = refl
with_no_lines (Some net) =
    λ i. Some (record net { elems = append-nil net.elems i; kept = append-nil net.kept i })

counted : (draft : Progress) → length (nets_begun draft) + 1 ≡ net_count draft + 1
counted draft = omega (arith, length-append draft.closed (option_to_list draft.open_net))

-- a Net line
pub takes_line-net : (old new : Progress) (line : TextLine) (net : NetWords)
    → Net net ≡ later_form line.words → BeginsNet old new net line.number → TakesLine old new line
takes_line-net old new line net h taken = record {
  clean = ap (later_fault (standing_of old) line.number) (sym h) ∙ taken.clean;
  after = rw (taken.is, ← h, counted old) refl;
  value = λ more. rw (
    taken.is,
    take_while-cons (λ (l : TextLine). not (begins_net (later_form l.words))) line more,
    ← h,
    with_no_lines old.open_net,
    append_assoc (nets_begun old) (option_to_list (option_map (with_lines (own_lines more))
        (Some (net_of net line.number [])))) (nets_of more),
  ) refl;
}

-- a line that begins no net, where a net is open
nets_with-line : (closed : List RouteNet) (grid : Size) (net : RouteNet) (line : TextLine)
    (form : Form) (elem : Option Elem) (kept : Option Bytes) (more : List TextLine)
    → later_form line.words ≡ form → begins_net form ≡ false
    → with_net form line.number more (nets_of more) ≡ nets_of more
    → form_elem line.number form ≡ elem → form_kept line.raw form ≡ kept
    → nets_with (record {
      grid = grid;
      closed = closed;
      open_net = Some (record net {
        elems = net.elems ++ option_to_list elem;
        kept = net.kept ++ option_to_list kept;
      });
    }) more
    ≡ nets_with (record { grid = grid; closed = closed; open_net = Some net }) (line ∷ more)
nets_with-line closed grid net line form elem kept more h no_net rest e k = rw (
  take_while-cons (λ (l : TextLine). not (begins_net (later_form l.words))) line more,
  h,
  no_net,
  h,
  rest,
  e,
  k,
) (λ i. (closed ++ record net {
  elems = joined net.elems elem (elems_of (own_lines more)) i;
  kept = joined net.kept kept (kept_of (own_lines more)) i;
} ∷ []) ++ nets_of more)
  where
    joined : {X : Type 0} (front : List X) (o : Option X) (back : List X)
        → (front ++ option_to_list o) ++ back ≡ front ++ cons_option o back
    joined front None back = ap (λ xs. xs ++ back) (append-nil front)
    joined front (Some x) back = append_assoc front (x ∷ []) back

-- nothing is added
nothing_more : {X : Type 0} (xs : List X) → xs ≡ xs ++ []
nothing_more xs = sym (append-nil xs)

-- an element line
pub takes_line-elem : (old new : Progress) (line : TextLine) (e : ElemWords)
    → ElemForm e ≡ later_form line.words → AddsElem old new e line.number → TakesLine old new line
takes_line-elem old new line e h taken = record {
  clean = ap (later_fault (standing_of old) line.number) (sym h) ∙ taken.clean;
  after = rw (taken.is, ← h, taken.was) refl;
  value = λ more. ap (λ d. nets_with d more) taken.is
      ∙ (λ i. nets_with (record {
        grid = old.grid;
        closed = old.closed;
        open_net = Some (record taken.net {
          elems = taken.net.elems ++ elem_of line.number e ∷ [];
          kept = nothing_more taken.net.kept i;
        });
      }) more)
      ∙ nets_with-line old.closed old.grid taken.net line (ElemForm e)
      (Some (elem_of line.number e))
      None more (sym h) refl refl refl refl
      ∙ (λ i. nets_with (record old { open_net = sym taken.was i }) (line ∷ more));
}

-- a Block line
pub takes_line-block : (old new : Progress) (line : TextLine) → Block ≡ later_form line.words
    → KeepsLine old new line.raw line.number → TakesLine old new line
takes_line-block old new line h taken = record {
  clean = ap (later_fault (standing_of old) line.number) (sym h) ∙ taken.clean;
  after = rw (taken.is, ← h, taken.was) refl;
  value = λ more. ap (λ d. nets_with d more) taken.is
      ∙ (λ i. nets_with (record {
        grid = old.grid;
        closed = old.closed;
        open_net = Some (record taken.net {
          elems = nothing_more taken.net.elems i;
          kept = taken.net.kept ++ line.raw ∷ [];
        });
      }) more)
      ∙ nets_with-line old.closed old.grid taken.net line Block None (Some line.raw) more (sym h)
      refl refl refl refl
      ∙ (λ i. nets_with (record old { open_net = sym taken.was i }) (line ∷ more));
}
