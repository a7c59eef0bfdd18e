use Rattle.std.proofs.Common.{◌∙◌, ◌++◌, List, ℕ, ap, append_assoc, string_bytes}
use Rattle.std.proofs.lemmas.Result.{on_ok_weaker}
use Rattle.router_says.specs.Said.{effort_said, hand_one_said}
use Rattle.router_says.proofs.unsettled.append_next_of_one.Goals as goal

pub returns : goal.returns
returns c =
    let hand : List ℕ = hand_one_said c.args.prefix.now in
    on_ok_weaker c.write.result (λ bytes. bytes
    ∙ ap (λ (text : List ℕ). text ++ hand) c.in_ok-append_effort.ensures
    ∙ append_assoc (string_bytes c.args.out.now) (effort_said c.args.stopped c.args.learned) hand)
    c.write.ensures.bytes
