use Rattle.std.proofs.Common.{rules, ℕ, refl}
use Rattle.std.specs.Ordering.{is_lt}
use Rattle.std.proofs.Math.Seq.{take-length}
use Rattle.fpga_place.specs.BlockTables.{StandByName, number_cmp}
use Rattle.fpga_place.proofs.RowLemmas.{always-same, numbers_ranked, own-names, row-stands}
use Rattle.fpga_place.proofs.block_table.BlockTable.of.Goals as goal

pub invariant_of-result : goal.invariant_of-result
invariant_of-result c =
    let blocks = c.args.blocks.now in
    let stand : StandByName blocks c.sort_unstable_by.new.self.items =
    row-stands blocks _ c.in-Ok.by_name.items c.sort_unstable_by.new.self.items refl
    c.in-Ok.ensures c.sort_unstable_by.ensures.permutation
    (c.sort_unstable_by.ensures.sorted (λ (a b : ℕ). is_lt (number_cmp blocks a b))
    (numbers_ranked blocks)
    (always-same _ _ _ (λ a r q k. search (rules, take-length)))) in
    record {
      stand = stand;
      own = λ apart. own-names blocks c.sort_unstable_by.new.self.items stand
          (rw c.deref.ensures.value at (c.names_differ-are_apart.ensures apart));
    }
