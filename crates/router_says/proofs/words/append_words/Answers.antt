use Rattle.router_says.proofs.SaidLemmas.{said-whole}
use Rattle.router_says.specs.Names.{asked}
use Rattle.router_words.specs.Word.{words_of}
use Rattle.router_says.proofs.words.append_words.Goals as goal

pub returns-clause-said : goal.returns-clause-said
returns-clause-said g c = λ loud. said-whole _ _ (words_of c.args.words.now) c.args.errors
    (c.args.ran.now).problem (c.args.ran.now).reason (c.args.ran.now).outcome
    (asked c.in_ok-job.job) _ _ _ _ c.in_ok-job.ensures c.in_ok-append_meaning.ensures
    c.in_ok-append_raised.ensures c.in_ok-push_str.ensures.bytes
