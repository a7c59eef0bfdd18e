use Rattle.std.proofs.Common.{◌≡◌, [], ◌∷◌, ◌++◌, List, length, Some, false, ap, sym, ◌∙◌, subst}
use Rattle.std.specs.Prelude.{is_some}
use Rattle.std.specs.Borrow.{Bor}
use Rattle.std.proofs.lemmas.List.{map-append}
use Rattle.std.proofs.lemmas.Map.Text.{btree_map_updates_str}
use Rattle.fpga_text.specs.Bytes.{Bytes}
use Rattle.fpga_text.specs.Said.{has_text}
use Rattle.fpga_types.specs.Names.{number_in}
use Rattle.fpga_types.proofs.NameLaws.{gains-name}
use Rattle.fpga_net.specs.Names.{AreNumbered, bytes_of}
use Rattle.fpga_net.proofs.NameLemmas.{number_of-there, numbered-push}
use Rattle.fpga_net.proofs.names.NameTable.add_new.Goals as goal

pub invariant_of-self-2 : goal.invariant_of-self-2
invariant_of-self-2 c =
    let names : List Bytes = bytes_of c.self.inside.names.items in
    let name : Bytes = c.args.name.now in
    let old = c.self.inside.numbers in
    let absent : is_some (number_in old name) ≡ false =
    ap is_some (c.self.invariant.found name) ∙ number_of-there names name
    ∙ ap (λ ns. has_text ns name) c.self.view_is ∙ c.requires in
    let count : c.len-number.result ≡ length names =
    c.len-number.ensures.count ∙ ap length (sym c.self.view_is) in
    let items : bytes_of c.push_reserved.new.self.items ≡ names ++ name ∷ [] =
    ap bytes_of (c.push_reserved.ensures.items
    ∙ ap (λ ns. ns ++ c.args.name ∷ []) c.reserve.ensures.items)
    ∙ map-append (λ (n : Bor Bytes). n.now) c.self.inside.names.items (c.args.name ∷ []) in
    subst (λ ns. AreNumbered ns c.insert.new.self) (sym items)
    (numbered-push names name c.len-number.result old c.insert.new.self count
    (λ other. btree_map_updates_str name old c.insert.new.self (Some c.len-number.result)
    c.in_ok-insert.ensures.updates other
    ∙ gains-name (number_in old) name other c.len-number.result absent)
    c.self.invariant)
