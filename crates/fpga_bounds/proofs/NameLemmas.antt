-- Nets by their names.
use Rattle.std.proofs.Common.{◌≡◌, ℕ, ◌<◌, Some, None, List, length, sym, ap, ◌∙◌}
use Rattle.std.specs.Prelude.{find, option_and_then, slice_get}
use Rattle.std.proofs.lemmas.Option.{get_or_from_slice_get}
use Rattle.list_laws.proofs.Searches.{find-position, position-passes, position-within}
use Rattle.fpga_text.specs.Bytes.{Bytes}
use Rattle.fpga_types.specs.Terminals.{is_net_named}
use Rattle.fpga_types.specs.declared.netlist.Net.{Net}
use Rattle.fpga_types.proofs.NameLaws.{same_name}
use Rattle.fpga_bounds.specs.NetTable.{number_named}

module _ (nets : List Net) (name : Bytes) where
  -- the net with a number that a name has
  module _ (number : ℕ) (is : number_named nets name ≡ Some number) where
    pub number-within : number < length nets
    number-within = position-within (is_net_named name) nets number is

    pub named-at : (net : Net) → slice_get nets number ≡ Some net
        → find (is_net_named name) nets ≡ Some net
    named-at net here =
        find-position (is_net_named name) nets
        ∙ (λ i. option_and_then (slice_get nets) (is i)) ∙ here

    pub name-at : (net : Net) → slice_get nets number ≡ Some net → net.name ≡ name
    name-at net here =
        same_name net.name name
        (ap (is_net_named name) (sym (get_or_from_slice_get nets number net net here))
        ∙ position-passes (is_net_named name) nets number net is)

  -- a name without a number is of no net
  pub unnamed : number_named nets name ≡ None → find (is_net_named name) nets ≡ None
  unnamed none = find-position (is_net_named name) nets
      ∙ (λ i. option_and_then (slice_get nets) (none i))
