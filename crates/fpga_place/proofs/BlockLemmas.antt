-- Blocks by their names.
use Rattle.std.proofs.Common.{◌≡◌, ℕ, ◌<◌, true, false, Some, None, List, length, get_or, sym, ap, ◌∙◌}
use Rattle.std.specs.Prelude.{find, option_and_then, slice_get}
use Rattle.std.proofs.lemmas.Bool.{false_from_ne_true}
use Rattle.std.proofs.lemmas.Option.{get_or_from_slice_get, slice_get_within}
use Rattle.list_laws.proofs.Searches.{find-position, position-first, position-passes, position-within}
use Rattle.fpga_types.specs.Placements.{HaveOwnNames}
use Rattle.fpga_types.specs.declared.netlist.Block.{Block}
use Rattle.fpga_types.proofs.NameLaws.{name_itself, same_name}
use Rattle.fpga_text.specs.Bytes.{Bytes}
use Rattle.fpga_place.specs.Blocks.{block_named, has_name, number_named}

-- the block with a number that a name has
module _ (blocks : List Block) (name : Bytes) (number : ℕ)
    (is : number_named blocks name ≡ Some number) where
  pub number-within : number < length blocks
  number-within = position-within (has_name name) blocks number is

  pub named-at : (block : Block) → slice_get blocks number ≡ Some block
      → block_named blocks name ≡ Some block
  named-at block here =
      find-position (has_name name) blocks ∙ (λ i. option_and_then (slice_get blocks) (is i)) ∙ here

  pub name-at : (block : Block) → slice_get blocks number ≡ Some block → block.name ≡ name
  name-at block here =
      same_name block.name name
      (ap (has_name name) (sym (get_or_from_slice_get blocks number block block here))
      ∙ position-passes (has_name name) blocks number block is)

-- a name without a number is of no block
pub unnamed : (blocks : List Block) (name : Bytes) → number_named blocks name ≡ None
    → block_named blocks name ≡ None
unnamed blocks name none =
    find-position (has_name name) blocks ∙ (λ i. option_and_then (slice_get blocks) (none i))

-- where no two blocks have one name, a block is found at its own number
pub own_number : (blocks : List Block) (i : ℕ) (block : Block) → HaveOwnNames blocks
    → slice_get blocks i ≡ Some block → number_named blocks block.name ≡ Some i
own_number blocks i block own here =
    position-first (has_name block.name) blocks i block within before at
  where
    within : i < length blocks
    within = slice_get_within blocks i block here

    is : get_or blocks i block ≡ block
    is = get_or_from_slice_get blocks i block block here

    before : (k : ℕ) → k < i → has_name block.name (get_or blocks k block) ≡ false
    before k below = false_from_ne_true _
        (λ e. own k i block below within (same_name _ _ e ∙ ap (λ (b : Block). b.name) (sym is)))

    at : has_name block.name (get_or blocks i block) ≡ true
    at = ap (has_name block.name) is ∙ name_itself block.name
