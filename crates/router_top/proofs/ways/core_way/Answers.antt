use Rattle.router_top.proofs.ways.core_way.Goals as goal

pub returns-clause-serves : goal.returns-clause-serves
returns-clause-serves c = λ p width formula fair.
    let job = c.args.job.now in
    (fair, record { some = job.affordable.0; affordable = job.affordable.1; turns = tt })
