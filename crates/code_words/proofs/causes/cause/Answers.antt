use Rattle.std.proofs.Common.{rules, ◌∙◌}
use Rattle.code_words.proofs.PhraseLemmas.{size-phrase}
use Rattle.code_words.proofs.causes.cause.Goals as goal

pub returns-in_default-clause-says : goal.returns-in_default-clause-says
returns-in_default-clause-says c = c.size_cause.ensures.says
    ∙ size-phrase c.args.code (search rules) (search rules) (search rules) (search rules)
    (search rules) (search rules) (search rules) (search rules) (search rules)
