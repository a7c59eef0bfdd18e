-- What the tables in memory are to contracts, and what they tell as a desk and as a shelf.
use Rattle.std.specs.Prelude.{[], ℕ, List, Bool, false, Option, Some, None, Contains, is_some, refl}
use Rattle.std.specs.Coded.{Coded, code_by, coded×, coded_ℕ, coded_bool, coded_list, coded_option}
use Rattle.std.specs.FinMap.{code, empty}
use Rattle.desk_io.specs.Files.{Bytes, FileMap, next_call}
use Rattle.desk_io.specs.DeskState.{DeskState}
use Rattle.desk_io.specs.ShelfState.{ShelfState}

-- the next call is one of those that fail
abbrev pub IsNextListed : (calls : ℕ) (fail : List ℕ) → Type 0
IsNextListed calls fail = Contains fail (next_call calls)

-- the files, the name of the started one and what is left of it, how often the desk has failed
-- and the name of the file that the last time was on, how many calls there were, and the numbers
-- of those that fail
pub record MemDeskView : Type 0 where
  pub files : FileMap
  pub started : Option Bytes
  pub left : Option Bytes
  pub faults : ℕ
  pub fault_name : Option Bytes
  pub calls : ℕ
  pub fail : List ℕ

-- nothing was called yet
abbrev pub new_desk : FileMap → List ℕ → MemDeskView
new_desk files fail = record {
  files = files;
  started = None;
  left = None;
  faults = 0;
  fault_name = None;
  calls = 0;
  fail = fail;
}

-- what the desk tells
abbrev pub desk_state : MemDeskView → DeskState
desk_state desk = record {
  files = Some desk.files;
  is_started = is_some desk.started;
  started = desk.started;
  left = desk.left;
  faults = desk.faults;
  fault_name = desk.fault_name;
}

-- the files and the bytes said, the name of the created file, how often the shelf has failed and
-- whether the last time was in a `say`, how many calls there were, and the numbers of those that
-- fail
pub record MemShelfView : Type 0 where
  pub files : FileMap
  pub said : Bytes
  pub created : Option Bytes
  pub faults : ℕ
  pub say_failed : Bool
  pub calls : ℕ
  pub fail : List ℕ

-- nothing was called yet
abbrev pub new_shelf : List ℕ → MemShelfView
new_shelf fail = record {
  files = empty;
  said = [];
  created = None;
  faults = 0;
  say_failed = false;
  calls = 0;
  fail = fail;
}

-- what the shelf tells
abbrev pub shelf_state : MemShelfView → ShelfState
shelf_state shelf = record {
  files = Some shelf.files;
  said = Some shelf.said;
  is_created = is_some shelf.created;
  created = shelf.created;
  faults = shelf.faults;
  say_failed = shelf.say_failed;
}

-- how the two are stored, as the tuples of their fields
abbrev pub bytes_code : Coded Bytes
bytes_code = coded_list coded_ℕ

abbrev pub name_code : Coded (Option Bytes)
name_code = coded_option bytes_code

abbrev pub files_code : Coded FileMap
files_code = code bytes_code bytes_code

abbrev pub calls_code : Coded (ℕ × List ℕ)
calls_code = coded× coded_ℕ bytes_code

abbrev pub mem_desk_code : Coded MemDeskView
mem_desk_code = code_by
    (FileMap × ((Option Bytes × Option Bytes) × ((ℕ × Option Bytes) × (ℕ × List ℕ))))
    (coded× files_code (coded× (coded× name_code name_code)
    (coded× (coded× coded_ℕ name_code) calls_code)))
    (λ d. (d.files, ((d.started, d.left), ((d.faults, d.fault_name), (d.calls, d.fail)))))
    (λ p. record {
      files = p.0;
      started = p.1.0.0;
      left = p.1.0.1;
      faults = p.1.1.0.0;
      fault_name = p.1.1.0.1;
      calls = p.1.1.1.0;
      fail = p.1.1.1.1;
    })
    (λ _. refl)

abbrev pub mem_shelf_code : Coded MemShelfView
mem_shelf_code = code_by
    (FileMap × ((Bytes × Option Bytes) × ((ℕ × Bool) × (ℕ × List ℕ))))
    (coded× files_code (coded× (coded× bytes_code name_code)
    (coded× (coded× coded_ℕ coded_bool) calls_code)))
    (λ s. (s.files, ((s.said, s.created), ((s.faults, s.say_failed), (s.calls, s.fail)))))
    (λ p. record {
      files = p.0;
      said = p.1.0.0;
      created = p.1.0.1;
      faults = p.1.1.0.0;
      say_failed = p.1.1.0.1;
      calls = p.1.1.1.0;
      fail = p.1.1.1.1;
    })
    (λ _. refl)
