use Rattle.std.proofs.Common.{◌≡◌, ◌∙◌, [], ap}
use Rattle.std.specs.FinMap.{get, insert}
use Rattle.desk_io.specs.Files.{FileMap}
use Rattle.desk_io.specs.ShelfState.{ShelfState}
use Rattle.desk_io.proofs.FileLemmas.{get-inserted}
use Rattle.fpga_route.specs.Printed.{printed}
use Rattle.list_laws.proofs.Places.{none_is_not_some, some_is}
use Rattle.run_placed.proofs.negotiating.printed_form.Goals as goal

pub unreachable-requires : goal.unreachable-requires
unreachable-requires c =
    let text = printed c.args.route in
    let files : c.write_file.new.shelf.files ≡ insert c.new-shelf.result.files [] text =
    some_is (ap (λ (s : ShelfState). s.files) c.in-Ok.ensures.ok) in
    none_is_not_some (c.in_default-into_file.ensures ∙ ap (λ (m : FileMap). get m []) files
    ∙ get-inserted c.new-shelf.result.files [] text)

pub returns : goal.returns
returns c =
    let text = printed c.args.route in
    let files : c.write_file.new.shelf.files ≡ insert c.new-shelf.result.files [] text =
    some_is (ap (λ (s : ShelfState). s.files) c.in-Ok.ensures.ok) in
    some_is (c.in-Some.ensures ∙ ap (λ (m : FileMap). get m []) files
    ∙ get-inserted c.new-shelf.result.files [] text)
