-- The places of a placement that was read are lawful.
use Rattle.std.proofs.Common.{◌≡◌, ℕ, Bool, true, false, Option, Some, None, List, refl, sym, ap, ◌∙◌}
use Rattle.std.specs.Prelude.{IfOk, Err, Ok, Result, Vec, if◌then◌else◌, is_some, map, not, option_and_then, option_map, slice_get, unwrap_or}
use Rattle.std.specs.BTreeSet.{BTreeSet}
use Rattle.std.specs.Global.{Global}
use Rattle.std.specs.List.{list_any}
use Rattle.std.proofs.lemmas.List.Folds.{list_any_at}
use Rattle.std.proofs.lemmas.Option.{get_or_from_slice_get, slice_get-map, slice_get_within}
use Rattle.list_laws.proofs.Places.{some_is}
use Rattle.fpga_types.specs.Placements.{AreLawful, HaveOwnNames, StandsAt}
use Rattle.fpga_types.specs.Size.{Size}
use Rattle.fpga_types.specs.declared.netlist.Block.{Block}
use Rattle.fpga_types.specs.declared.placement.Place.{Place}
use Rattle.fpga_types.specs.declared.placement.Spot.{Spot}
use Rattle.fpga_text.specs.FirstFault.{AnswersFault}
use Rattle.fpga_text.specs.declared.fault.TextFault.{TextFault}
use Rattle.fpga_place.specs.Drafts.{IsInOrder, Progress, Stands, last_fault, placed, places_alone}
use Rattle.fpga_place.specs.Value.{place_of}
use Rattle.fpga_place.proofs.BlockLemmas.{own_number}
use Rattle.fpga_place.proofs.DraftLemmas.{so_far}

-- the block had no line
abbrev pub lacks : Progress → Block → Bool
lacks draft block = not (is_some (placed draft block.name))

module _ (io_rat : ℕ) (grid : Size) (blocks : List Block) (places : List (Option Place))
    (taken : BTreeSet Spot) (order : IsInOrder io_rat grid blocks places taken)
    (own : HaveOwnNames blocks) (final : List Place)
    (final_is : final ≡ map (place_of (placed (so_far io_rat grid blocks places))) blocks)
    (all : list_any (lacks (so_far io_rat grid blocks places)) blocks ≡ false) where
  draft : Progress
  draft = so_far io_rat grid blocks places

  module _ (i : ℕ) (b : Block) (p : Place) (stands : StandsAt blocks final i b p) where
    had_line : lacks (so_far io_rat grid blocks places) b ≡ false
    had_line = go (lacks (so_far io_rat grid blocks places) b) refl
      where
        go : (t : Bool) → lacks (so_far io_rat grid blocks places) b ≡ t
            → lacks (so_far io_rat grid blocks places) b ≡ false
        go false e = e
        go true e =
            let clash : true ≡ false =
            sym (list_any_at (lacks (so_far io_rat grid blocks places)) blocks i b
            (slice_get_within blocks i b stands.block_is)
            (ap (lacks (so_far io_rat grid blocks places))
            (get_or_from_slice_get blocks i b b stands.block_is) ∙ e)) ∙ all in
            cc

    -- its entry is at its own number
    entry_is : placed (so_far io_rat grid blocks places) b.name ≡ unwrap_or (slice_get places i)
        None
    entry_is = λ k. option_and_then (λ n. unwrap_or (slice_get places n) None)
        (own_number blocks i b own stands.block_is k)

    place_is : p ≡ place_of (placed (so_far io_rat grid blocks places)) b
    place_is = some_is
        (sym stands.place_is ∙ ap (λ xs. slice_get xs i) final_is
        ∙ slice_get-map (place_of (placed (so_far io_rat grid blocks places))) blocks i
        ∙ ap (option_map (place_of (placed (so_far io_rat grid blocks places)))) stands.block_is)

    stood : Stands blocks places i b p
    stood = record { block_is = stands.block_is; place_is = go (slice_get places i) refl }
      where
        go : (o : Option (Option Place)) → slice_get places i ≡ o → slice_get places i ≡ Some
            (Some p)
        go None e =
            let clash : true ≡ false =
            sym (ap (λ o. not (is_some o)) (entry_is ∙ ap (λ o. unwrap_or o None) e)) ∙ had_line in
            cc
        go (Some None) e =
            let clash : true ≡ false =
            sym (ap (λ o. not (is_some o)) (entry_is ∙ ap (λ o. unwrap_or o None) e)) ∙ had_line in
            cc
        go (Some (Some q)) e =
            let same : p ≡ q =
            place_is ∙ ap (λ o. unwrap_or o (record { x = 0; y = 0; sub = 0 }))
            (entry_is ∙ ap (λ o. unwrap_or o None) e) in
            e ∙ (λ k. Some (Some (sym same k)))

  are_lawful : AreLawful grid io_rat blocks final
  are_lawful = record {
    lawful = λ i b p stands. order.lawful i b p (stood i b p stands);
    apart = λ i j a b p q below first second.
        order.apart i j a b p q below (stood i a p first) (stood j b q second);
  }

-- where no block lacks a line, none does
no_lack : (b : Bool) (fault : TextFault) → (if b then Some fault else None) ≡ None → b ≡ false
no_lack true fault none = cc
no_lack false fault none = refl

-- the places that a reader of the rows answers are lawful
pub lawful_answer : (io_rat : ℕ) (grid : Size) (blocks : List Block) (places : List (Option Place))
    (taken : BTreeSet Spot) → IsInOrder io_rat grid blocks places taken → (end : ℕ)
    → (result : Result (Vec Place Global) TextFault)
    → AnswersFault (last_fault (places_alone blocks places) end)
    (λ all. all.items ≡ map (place_of (placed (places_alone blocks places))) blocks) result
    → IfOk result (λ all. HaveOwnNames blocks → AreLawful grid io_rat blocks all.items)
lawful_answer io_rat grid blocks places taken order end (Ok all) answers =
    λ own. are_lawful io_rat grid blocks places taken order own all.items answers.1
    (no_lack (list_any (lacks (places_alone blocks places)) blocks) _ answers.0)
lawful_answer io_rat grid blocks places taken order end (Err fault) answers = tt
