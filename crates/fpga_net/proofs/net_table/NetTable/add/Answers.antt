use Rattle.std.proofs.Common.{sym, ap, ◌∙◌}
use Rattle.std.proofs.Math.Seq.{map-set_same}
use Rattle.fpga_net.specs.Entries.{Entry, with_use}
use Rattle.fpga_net.specs.NetUses.{use_said}
use Rattle.fpga_net.proofs.EntryLemmas.{changed_at-place}
use Rattle.fpga_net.proofs.net_table.NetTable.add.Goals as goal

pub invariant_of-self : goal.invariant_of-self
invariant_of-self c =
    c.self.invariant ∙ sym (map-set_same (λ (e : Entry). e.net.name) c.self.inside.nets.items
    c.in_ok-number.number c.add.new.self c.index_mut.result.now
    (c.add.ensures.name ∙ ap (λ (e : Entry). e.net.name) c.index_mut.ensures.value))

pub invariant_of-self-2 : goal.invariant_of-self-2
invariant_of-self-2 c =
    c.self.invariant ∙ sym (map-set_same (λ (e : Entry). e.net.name) c.self.inside.nets.items
    c.in_ok-number.number c.add.new.self c.index_mut.result.now
    (c.add.ensures.name ∙ ap (λ (e : Entry). e.net.name) c.index_mut.ensures.value))

pub returns : goal.returns
returns c =
    let place = c.in_ok-number.ensures.number in
    rw (c.in_ok-add.ensures.ok, ← c.in_ok-number.ensures.entries, ← c.self.view_is)
    (changed_at-place c.args.used.now.net.now (with_use (use_said c.args.used.now))
    c.self.inside.nets.items c.in_ok-number.number c.index_mut.result.now
    (rw c.self.view_is place) c.index_mut.ensures.value)
