-- Which numbers are codes.
use Rattle.std.specs.Prelude.{ℕ, Bool, ◌&&◌, ◌||◌, ◌==◌, nat_le}

-- whether a number is one of these
abbrev pub is_from : ℕ → ℕ → ℕ → Bool
is_from first last code = nat_le first code && nat_le code last

abbrev pub is_architecture_code : ℕ → Bool
is_architecture_code code = is_from 101 111 code

abbrev pub is_netlist_code : ℕ → Bool
is_netlist_code code = is_from 201 209 code

abbrev pub is_placement_code : ℕ → Bool
is_placement_code code = is_from 301 308 code

abbrev pub is_route_code : ℕ → Bool
is_route_code code = is_from 401 407 code

abbrev pub is_fit_code : ℕ → Bool
is_fit_code code = is_from 501 515 code

abbrev pub is_clause_code : ℕ → Bool
is_clause_code code = is_from 601 605 code

abbrev pub is_log_code : ℕ → Bool
is_log_code code = is_from 701 705 code

abbrev pub is_judge_code : ℕ → Bool
is_judge_code code = is_from 801 808 code

abbrev pub is_model_code : ℕ → Bool
is_model_code code = is_from 1001 1006 code

abbrev pub is_size_code : ℕ → Bool
is_size_code code = code == 901 || code == 903 || code == 904 || is_from 911 918 code

-- whether a number is a code of a reader, of the fit, of the judge or of a size
abbrev pub is_code : ℕ → Bool
is_code code =
    is_architecture_code code || is_netlist_code code || is_placement_code code
    || is_route_code code || is_fit_code code || is_clause_code code || is_log_code code
    || is_judge_code code || is_model_code code || is_size_code code

-- whether a number is a cause for which a step of a log is refused
abbrev pub is_refusal_cause : ℕ → Bool
is_refusal_cause cause = is_from 1 10 cause
