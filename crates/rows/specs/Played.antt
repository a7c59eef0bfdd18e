-- What is compared: runs of the router on the words and the files of a case. What a run comes to is
-- told over any desk and shelf, so which calls failed is no part of it.
use Rattle.std.specs.Prelude.{◌+◌, ◌-◌, ℕ, List, [], ◌∷◌, map, min, string_bytes}
use Rattle.std.specs.List.{range_with_len}
use Rattle.desk_io.specs.DeskState.{DeskState}
use Rattle.desk_io.specs.Memory.{MemShelfView, desk_state, new_desk, new_shelf, shelf_state}
use Rattle.desk_io.specs.Table.{table_map}
use Rattle.rows.specs.declared.cases.row.Row.{Row}
use Rattle.rows.specs.declared.cases.series.Failing.{Failing}
use Rattle.rows.specs.declared.cases.series.Failing.TheVariants.{Desk, Shelf, ShelfOn}
use Rattle.rows.specs.declared.cases.series.TheConstants.{MORE}
use Rattle.router_top.specs.Run.{Runs}
use Rattle.run_outcome.specs.declared.outcome.Outcome.{Outcome}

-- a run on the words of the row, over a new desk with its files and a new shelf, comes to this
abbrev pub Plays : Row → Outcome → MemShelfView → Type 0
Plays row outcome shelf =
    (desk_now : DeskState)
    × Runs (map string_bytes row.words.items)
    (desk_state (new_desk (table_map row.files.items) [])) desk_now
    (shelf_state (new_shelf [])) (shelf_state shelf) outcome

-- the calls of the desk that are to fail at the run of a number, and those of the shelf: that one,
-- or as many from it on as no case makes
abbrev pub desk_calls : Failing → ℕ → List ℕ
desk_calls Desk number = number ∷ []
desk_calls Shelf number = []
desk_calls ShelfOn number = []

abbrev pub shelf_calls : Failing → ℕ → List ℕ
shelf_calls Desk number = []
shelf_calls Shelf number = number ∷ []
shelf_calls ShelfOn number =
    map (λ k. number + k) (range_with_len 0 (min MORE (18446744073709551615 - number)))
