use Rattle.std.proofs.Common.{◌∙◌, ◌++◌, List, ℕ, ap, append_assoc, codes, string_bytes}
use Rattle.fault_names.specs.Ends.{net_said}
use Rattle.fault_names.proofs.ends.append_second.Goals as goal

pub returns : goal.returns
returns c = let end : List ℕ = codes " has a second one here" in
    c.in_ok-push_str.ensures.bytes
    ∙ ap (λ (text : List ℕ). text ++ end) c.in_ok-append_named.ensures
    ∙ append_assoc (string_bytes c.args.out.now) (net_said c.args.name.now) end
