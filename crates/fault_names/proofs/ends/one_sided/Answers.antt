use Rattle.std.proofs.Common.{◌∙◌, ◌++◌, List, ap}
use Rattle.std.specs.Prelude.{not}
use Rattle.std.specs.Borrow.{Bor}
use Rattle.fpga_text.specs.Bytes.{Bytes}
use Rattle.fault_names.specs.Lookups.{bytes_of}
use Rattle.fault_names.specs.PinNets.{pin_nets}
use Rattle.fault_names.proofs.NameListLemmas.{looked}
use Rattle.fault_names.proofs.ends.one_sided.Goals as goal

pub returns : goal.returns
returns c =
    let pins = c.args.pins.now in
    let text = c.args.text.now in
    looked c.first_apart.result _ _ _ _
    (ap bytes_of c.deref.ensures.value ∙ c.in_ok-add_pin_nets-2.ensures
    ∙ ap (λ (xs : List (Bor Bytes)). bytes_of xs ++ pin_nets c.args.drives pins text)
    c.new-names.ensures.items)
    (ap bytes_of c.deref-2.ensures.value ∙ c.in_ok-add_pin_nets.ensures
    ∙ ap (λ (xs : List Bytes). xs ++ pin_nets (not c.args.drives) pins text)
    c.in_ok-others.ensures)
    c.first_apart.ensures
