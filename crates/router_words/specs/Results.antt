-- A value, or the cause that there is none.
use Rattle.std.specs.Prelude.{Result, Ok, Err}
use Rattle.router_words.specs.declared.fault.Refusal.{Refusal}

-- what is made of the value, or the cause
abbrev pub and_then : {T U : Type 0} → Result T Refusal → (T → Result U Refusal) → Result U Refusal
and_then (Ok value) made = made value
and_then (Err cause) made = Err cause

-- another value for the value, or the cause
abbrev pub map_ok : {T U : Type 0} → (T → U) → Result T Refusal → Result U Refusal
map_ok other (Ok value) = Ok (other value)
map_ok other (Err cause) = Err cause
