use Rattle.std.proofs.Common.{◌++◌, ◌∙◌, List, ℕ, ap, codes}
use Rattle.serde_json.specs.Written.{compact_text}
use Rattle.run_stats.proofs.FloatLemmas.{stats-whole}
use Rattle.run_stats.proofs.line.stats_line.Goals as goal

pub returns : goal.returns
returns c =
    let is = c.in_ok-value.ensures in
    let text = c.in_ok-line.ensures.text (rw is (stats-whole c.args.stats.now)) in
    c.in_ok-push_str.ensures.bytes
    ∙ ap (λ (line : List ℕ). line ++ codes "\n") (text ∙ ap compact_text is)
