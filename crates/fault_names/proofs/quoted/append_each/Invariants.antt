-- the words so far were appended
use Rattle.std.proofs.Common.{◌≡◌, ◌++◌, take}
use Rattle.std.specs.Prelude.{flat_map, string_bytes}
use Rattle.fault_names.specs.Lookups.{bytes_of}
use Rattle.fault_names.specs.Quoted.{word_quoted}
use Rattle.fault_names.proofs.quoted.append_each.Given as goal

abbrev pub invariant-loop-word : goal.invariant-loop-word
invariant-loop-word l = string_bytes l.out
    ≡ string_bytes l.initial.out ++ flat_map word_quoted (bytes_of (take l.word-index l.words))
