-- The names of the files that a search writes.
use Rattle.std.specs.Prelude.{ℕ, ◌++◌, codes, decimal, if◌then◌else◌}
use Rattle.desk_io.specs.Files.{Bytes}
use Rattle.route_sweep.specs.Asked.{Asked}

-- the name of the file of the routing
abbrev pub route_name : Asked → Bytes
route_name ask = ask.prefix ++ codes ".route"

-- what the names for a width begin with
abbrev pub numbered_prefix : Bytes → (width : ℕ) → Bytes
numbered_prefix prefix width = prefix ++ codes ".w" ++ decimal width

-- what the names of the clauses and of the log begin with
abbrev pub proof_prefix : Asked → (width : ℕ) → Bytes
proof_prefix ask width =
    if ask.numbered then numbered_prefix ask.prefix width else ask.prefix

-- the name of the file of the clauses
abbrev pub cnf_name : Asked → (width : ℕ) → Bytes
cnf_name ask width = proof_prefix ask width ++ codes ".cnf"

-- the name of the file of the log
abbrev pub lrat_name : Asked → (width : ℕ) → Bytes
lrat_name ask width = proof_prefix ask width ++ codes ".lrat"
