use Rattle.std.proofs.Common.{◌∙◌, ◌++◌, List, ℕ, ap, append_assoc, string_bytes}
use Rattle.router_says.specs.Unfound.{freer_said, wider_said}
use Rattle.router_says.specs.declared.phrases.TheConstants.{ROUNDS_PLACEMENT}
use Rattle.router_says.proofs.unfound.append_others.Goals as goal

pub returns : goal.returns
returns c =
    let start : List ℕ = string_bytes c.args.out.now in
    let freer : List ℕ = string_bytes c.push_str.new.self in
    let wider = wider_said c.args.width in
    let last = ROUNDS_PLACEMENT.now in
    let first = c.in_ok-push_str.ensures.bytes
    ∙ ap (λ (text : List ℕ). start ++ text) c.freer_said.ensures in
    let second = c.in_ok-push_str-2.ensures.bytes
    ∙ ap (λ (text : List ℕ). freer ++ text) c.wider_said.ensures
    ∙ ap (λ (text : List ℕ). text ++ wider) first in
    c.in_ok-push_str-3.ensures.bytes ∙ ap (λ (text : List ℕ). text ++ last) second
    ∙ append_assoc (start ++ freer_said c.args.free) wider last
    ∙ append_assoc start (freer_said c.args.free) (wider ++ last)
