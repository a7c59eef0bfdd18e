use Rattle.std.proofs.Common.{◌∙◌, ◌++◌, List, ℕ, ap, append_assoc, decimal, string_bytes}
use Rattle.router_says.specs.Said.{end_said}
use Rattle.router_says.specs.declared.phrases.TheConstants.{OPEN_LEARNED}
use Rattle.router_says.proofs.unsettled.append_open.Goals as goal

pub returns : goal.returns
returns c =
    let learned : List ℕ = OPEN_LEARNED.now ++ decimal c.args.learned in
    c.in_ok-push_str.ensures.bytes
    ∙ ap (λ (text : List ℕ). string_bytes c.write.new.self ++ text) c.end_said.ensures
    ∙ ap (λ (text : List ℕ). text ++ end_said c.args.stopped) c.in_ok-write.ensures.bytes
    ∙ append_assoc (string_bytes c.args.out.now) learned (end_said c.args.stopped)
