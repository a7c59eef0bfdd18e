use Rattle.std.proofs.Common.{◌≡◌, ◌++◌, take}
use Rattle.std.specs.Prelude.{flat_map, string_bytes}
use Rattle.fault_names.specs.NameBytes.{byte_said}
use Rattle.fault_names.proofs.name_bytes.append_name.Given as goal

-- the bytes so far were appended
abbrev pub invariant-loop-byte : goal.invariant-loop-byte
invariant-loop-byte l =
    string_bytes l.out ≡ string_bytes l.initial.out ++ flat_map byte_said (take l.byte-index l.name)
