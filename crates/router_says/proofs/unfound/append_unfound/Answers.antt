use Rattle.std.proofs.Common.{◌∙◌, ◌++◌, Bool, List, ℕ, ap, append_assoc, string_bytes}
use Rattle.router_says.specs.Names.{asked}
use Rattle.router_says.specs.Unfound.{is_free, rounds_asked, rounds_end_said, rounds_said, tries_said}
use Rattle.router_says.proofs.unfound.append_unfound.Goals as goal

pub returns : goal.returns
returns c =
    let width = c.args.width in
    let rounds = c.args.rounds in
    let stopped = c.args.stopped in
    let start : List ℕ = string_bytes c.args.out.now in
    let between : List ℕ = string_bytes c.append_rounds.new.out in
    let job = asked c.args.job in
    let tries = tries_said (is_free job) stopped (rounds_asked job) width rounds in
    let first = c.in_ok-append_rounds.ensures
    ∙ ap (λ (end : List ℕ). start ++ rounds_said width rounds end) c.rounds_end.ensures in
    let second = c.in_ok-append_tries.ensures
    ∙ ap (λ (free : Bool). between ++ tries_said free stopped c.rounds_asked.result width rounds)
    c.is_free.ensures
    ∙ ap (λ (most : ℕ). between ++ tries_said (is_free job) stopped most width rounds)
    c.rounds_asked.ensures in
    second ∙ ap (λ (text : List ℕ). text ++ tries) first
    ∙ append_assoc start (rounds_said width rounds (rounds_end_said stopped)) tries
