use Rattle.std.proofs.Common.{rules, ℕ, List, ◌∙◌, ◌++◌, ap, sym, arith, add-one, append_assoc, get_or}
use Rattle.std.specs.Prelude.{flat_map, string_bytes, take}
use Rattle.list_laws.proofs.FrontParts.{made-next, made-whole}
use Rattle.list_laws.proofs.Places.{get-there}
use Rattle.router_says.specs.Raised.{net_said}
use Rattle.router_says.proofs.raised.append_named.Goals as goal

pub loop-number-preserved : goal.loop-number-preserved
loop-number-preserved c =
    let row : List ℕ = c.args.row.now in
    let i : ℕ = c.loop-number.number-index in
    let number : ℕ = get_or row i 0 in
    let said = net_said c.args.netlist.now in
    let old : List ℕ = string_bytes c.args.out.now in
    let front : List ℕ = flat_map said (take i row) in
    let at = get-there row i number number (search rules) (search rules) in
    rw add-one
    (c.in_ok-append_net.ensures ∙ ap (λ (t : List ℕ). t ++ said number) c.loop-number.invariant
    ∙ append_assoc old front (said number)
    ∙ ap (λ (t : List ℕ). old ++ t) (sym (made-next said row i number at)))

pub returns : goal.returns
returns c =
    c.loop-number.invariant
    ∙ ap (λ (t : List ℕ). string_bytes c.args.out.now ++ t)
    (made-whole (net_said c.args.netlist.now) c.args.row.now c.loop-number.number-index (omega arith))
