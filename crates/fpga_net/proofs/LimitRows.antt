-- The limits of a netlist: 65,535 blocks and 65,535 nets are taken, and one more of either is not.
use Rattle.std.proofs.Common.{◌≡◌, ℕ, ◌++◌, List, length, Some, None, ap}
use Rattle.std.specs.Prelude.{◌==◌, nat_lt, if◌then◌else◌}
use Rattle.fpga_types.specs.declared.netlist.BlockKind.{BlockKind}
use Rattle.fpga_text.specs.Bytes.{Bytes}
use Rattle.fpga_net.specs.Codes.{Context, net_count, past_limit, pinlist_uses, uses_before}
use Rattle.fpga_net.specs.Forms.{Begins, Pinlist}

module _ (context : Context) (kind : BlockKind) (names : List Bytes) where
  pub last_block : length context.names ≡ 65534 → past_limit context (Begins kind names) ≡ None
  last_block count = ap (λ (n : ℕ). if n == 65535 then Some 65536 else None) count

  pub block_past : length context.names ≡ 65535
      → past_limit context (Begins kind names) ≡ Some 65536
  block_past count = ap (λ (n : ℕ). if n == 65535 then Some 65536 else None) count

-- so many nets stand with those of the pinlist
module _ (context : Context) (nets : List Bytes) where
  pub last_net : net_count (uses_before context ++ pinlist_uses context nets) ≡ 65535
      → past_limit context (Pinlist nets) ≡ None
  last_net count = ap (λ (n : ℕ). if nat_lt 65535 n then Some 65536 else None) count

  pub net_past : net_count (uses_before context ++ pinlist_uses context nets) ≡ 65536
      → past_limit context (Pinlist nets) ≡ Some 65536
  net_past count = ap (λ (n : ℕ). if nat_lt 65535 n then Some 65536 else None) count
