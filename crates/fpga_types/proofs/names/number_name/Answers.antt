use Rattle.std.proofs.Common.{Some, ◌∙◌, sym}
use Rattle.std.proofs.lemmas.Map.Text.{btree_map_updates_str}
use Rattle.fpga_types.specs.Names.{number_in}
use Rattle.fpga_types.proofs.NameLaws.{gains-name}
use Rattle.fpga_types.proofs.names.number_name.Goals as goal

pub returns : goal.returns
returns c = λ other.
    btree_map_updates_str c.args.name.now c.args.numbers.now c.insert.new.self (Some c.args.number)
    c.in_ok-insert.ensures.updates other
    ∙ gains-name (number_in c.args.numbers.now) c.args.name.now other c.args.number
    (sym c.contains_key.ensures ∙ c.if-contains_key.false)
