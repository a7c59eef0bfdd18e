use Rattle.std.proofs.Common.{rules, ℕ, List, ◌∙◌, ◌++◌, ap, sym, arith, add-one, append_assoc, get_or}
use Rattle.std.specs.Prelude.{flat_map, string_bytes, take}
use Rattle.list_laws.proofs.FrontParts.{made-next, made-whole}
use Rattle.list_laws.proofs.Places.{get-there}
use Rattle.fault_names.specs.NameBytes.{byte_said}
use Rattle.fault_names.proofs.name_bytes.append_name.Goals as goal

pub loop-byte-preserved : goal.loop-byte-preserved
loop-byte-preserved c =
    let name : List ℕ = c.args.name.now in
    let i : ℕ = c.loop-byte.byte-index in
    let byte : ℕ = get_or name i 0 in
    let old : List ℕ = string_bytes c.args.out.now in
    let front : List ℕ = flat_map byte_said (take i name) in
    let at = get-there name i byte byte (search rules) (search rules) in
    rw add-one
    (c.in_ok-append_byte.ensures ∙ ap (λ (t : List ℕ). t ++ byte_said byte) c.loop-byte.invariant
    ∙ append_assoc old front (byte_said byte)
    ∙ ap (λ (t : List ℕ). old ++ t) (sym (made-next byte_said name i byte at)))

pub returns : goal.returns
returns c =
    c.loop-byte.invariant
    ∙ ap (λ (t : List ℕ). string_bytes c.args.out.now ++ t)
    (made-whole byte_said c.args.name.now c.loop-byte.byte-index (omega arith))
