use Rattle.std.proofs.Common.{◌≡◌, false, refl}
use Rattle.fpga_text.specs.Said.{has_text}
use Rattle.fpga_net.specs.Entries.{names_in}
use Rattle.fpga_net.proofs.EntryLemmas.{having-new, names-new, number-new}
use Rattle.fpga_net.proofs.NameLemmas.{number_of-none, number_of-some}
use Rattle.fpga_net.proofs.net_table.NetTable.number_for.Goals as goal
use Rattle.fpga_net.proofs.net_table.NetTable.number_for.Goals.{In_default}

-- no net has the name
new : (c : In_default) → has_text (names_in c.self.inside.nets.items) c.args.name.now ≡ false
new c = rw (← c.self.invariant)
    (number_of-none c.self.inside.names c.args.name.now c.in_default.ensures.number)

pub add_new-requires : goal.add_new-requires
add_new-requires c =
    number_of-none c.self.inside.names c.args.name.now c.in_default.ensures.number

pub returns-in-Some-clause-entries : goal.returns-in-Some-clause-entries
returns-in-Some-clause-entries c =
    let there = number_of-some c.self.inside.names c.args.name.now c.in-Some.number
    c.in-Some.ensures.number in
    let named = rw (c.self.invariant, c.self.view_is) at there in
    rw named refl

pub invariant_of-self-in_err-add_new : goal.invariant_of-self-in_err-add_new
invariant_of-self-in_err-add_new c =
    rw (c.reserve.ensures.items, c.in_err-add_new.ensures.err) c.self.invariant

pub invariant_of-self-2 : goal.invariant_of-self-2
invariant_of-self-2 c =
    rw (
      c.in_ok-add_new.ensures.ok,
      c.push_reserved.ensures.items,
      c.reserve.ensures.items,
      c.new-net.ensures,
      c.self.invariant,
    ) (names-new c.self.inside.nets.items c.args.name.now
    (new (goal.at.invariant_of-self-2 c).In_default) c.contains.result)

pub returns-clause-entries : goal.returns-clause-entries
returns-clause-entries c =
    rw (
      c.push_reserved.ensures.items,
      c.reserve.ensures.items,
      c.new-net.ensures,
      c.contains.ensures,
      ← c.self.view_is,
    ) (having-new c.self.inside.nets.items c.args.name.now
    (new (goal.at.returns-clause-entries c).In_default) (has_text c.args.globals.now))

pub returns-clause-number : goal.returns-clause-number
returns-clause-number c =
    rw (
      c.push_reserved.ensures.items,
      c.reserve.ensures.items,
      c.new-net.ensures,
      c.len-number.ensures,
      c.self.inside.nets.ok.0,
    ) (number-new c.self.inside.nets.items c.args.name.now
    (new (goal.at.returns-clause-number c).In_default) c.contains.result)
