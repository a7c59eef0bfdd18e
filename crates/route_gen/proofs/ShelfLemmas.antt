-- What a table in memory holds after one file was written to it.
use Rattle.std.proofs.Common.{◌≡◌, [], Some, ap, ◌∙◌}
use Rattle.std.specs.Prelude.{codes}
use Rattle.std.specs.FinMap.{empty, get, get-insert, insert}
use Rattle.std.specs.Cmp.Lexicographic.{nat_list_cmp_total}
use Rattle.desk_io.specs.Files.{Bytes}
use Rattle.desk_io.specs.Memory.{MemShelfView, new_shelf, shelf_state}
use Rattle.desk_io.specs.WholeFile.{after_writing}

-- the file has the text
pub text_there : (shelf : MemShelfView) (text : Bytes) →
    shelf_state shelf ≡ after_writing (shelf_state (new_shelf [])) (codes "route") text →
    get shelf.files (codes "route") ≡ Some text
text_there shelf text written =
    let files : Some shelf.files ≡ Some (insert empty (codes "route") text)
    = ap (λ state. state.files) written in
    let same : shelf.files ≡ insert empty (codes "route") text = cc in
    ap (λ files. get files (codes "route")) same
    ∙ get-insert nat_list_cmp_total empty (codes "route") text (codes "route")
