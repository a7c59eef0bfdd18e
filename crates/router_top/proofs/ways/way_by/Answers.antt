use Rattle.std.proofs.Common.{sym, subst}
use Rattle.std.specs.Prelude.{IsSomeAnd, Option, option_map}
use Rattle.problem_facts.specs.Facts.{AreFactsOf, FactsState}
use Rattle.route_ways.specs.Plain.{CanSearch}
use Rattle.route_ways.specs.declared.plain.Plain.{Plain}
use Rattle.router_words.specs.Job.{members_said, search_said}
use Rattle.run_clauses.proofs.KnownLaws.{count-goes}
use Rattle.router_top.proofs.ServeLaws.{can-search, said-turn}
use Rattle.router_top.proofs.ways.way_by.Goals as goal

pub returns-then-search-clause-serves : goal.returns-then-search-clause-serves
returns-then-search-clause-serves c = λ p width formula known begun.
    let search = c.args.search.now in (
      subst (λ (found : Option FactsState). IsSomeAnd found (AreFactsOf p)) c.in-Some.is
          (known (count-goes search.method search.count c.if-search.true)),
      begun c.if-search.true,
      subst (λ (w : Plain). CanSearch w) (sym c.plain_by-plain.ensures)
          (can-search (search_said search) (option_map members_said c.args.members)
          (said-turn c.args.members) search.affordable.0 search.affordable.1),
    )

pub returns-clause-serves : goal.returns-clause-serves
returns-clause-serves c = λ p width formula known begun.
    let search = c.args.search.now in
    subst (λ (w : Plain). CanSearch w) (sym c.plain_by-plain.ensures)
    (can-search (search_said search) (option_map members_said c.args.members)
    (said-turn c.args.members) search.affordable.0 search.affordable.1)
