-- Names that are looked for among others.
use Rattle.std.proofs.Common.{◌≡◌, ℕ, ◌+◌, ◌<◌, Bool, true, List, Option, drop, drop-cons, add-one, get_or, length, refl, subst, sym, ◌∙◌}
use Rattle.std.specs.Prelude.{IfOk, Result, is_some, option_map}
use Rattle.std.specs.BTreeMap.{BTreeMap}
use Rattle.std.specs.Borrow.{Bor}
use Rattle.fpga_text.specs.Bytes.{Bytes}
use Rattle.fpga_text.specs.Said.{has_text}
use Rattle.fpga_types.specs.Names.{number_in}
use Rattle.fault_names.specs.Lookups.{Holds, bytes_of, first_apart}

-- the next name is one of the others, as a map that holds them shows
pub apart-next : (others : List Bytes) (held : BTreeMap (Bor Bytes) ℕ) (names : List (Bor Bytes))
    (i : ℕ) (d : Bor Bytes) (is_held : Bool) (found : Option Bytes) → Holds others held →
    i < length names → is_held ≡ is_some (number_in held (get_or names i d).now) →
    is_held ≡ true → first_apart others (bytes_of (drop i names)) ≡ found →
    first_apart others (bytes_of (drop (i + 1) names)) ≡ found
apart-next others held names i d is_held found holds inside is holds_here so_far =
    let there : has_text others (get_or names i d).now ≡ true =
    sym (holds (get_or names i d).now) ∙ sym is ∙ holds_here in
    let step : first_apart others (bytes_of (drop i names))
    ≡ first_apart others (bytes_of (drop (i + 1) names)) =
    rw (drop-cons names i d, add-one, there) refl in
    sym step ∙ so_far

-- what was found of names and others is what these are found to have
pub looked : {E : Type 0} (result : Result (Option (Bor Bytes)) E)
    (ns os names others : List Bytes) →
    ns ≡ names → os ≡ others →
    IfOk result (λ found. option_map (λ name. name.now) found ≡ first_apart os ns) →
    IfOk result (λ found. option_map (λ name. name.now) found ≡ first_apart others names)
looked result ns os names others e f h =
    subst (λ (xs : List Bytes). IfOk result
    (λ found. option_map (λ name. name.now) found ≡ first_apart others xs)) e
    (subst (λ (xs : List Bytes). IfOk result
    (λ found. option_map (λ name. name.now) found ≡ first_apart xs ns)) f h)
