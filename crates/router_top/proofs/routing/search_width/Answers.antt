use Rattle.std.proofs.Common.{◌∙◌, ℕ, ap, subst, sym}
use Rattle.std.specs.Prelude.{option_map}
use Rattle.route_sweep.specs.Found.{FindsBy, FindsShort}
use Rattle.route_ways.specs.Way.{Course, budget_of, copies_by, course_of, opens_by, refutes_by}
use Rattle.router_words.specs.Job.{members_said, route_said, search_said}
use Rattle.run_clauses.specs.Known.{crowd_of}
use Rattle.router_top.specs.Search.{route_search}
use Rattle.run_clauses.specs.Suited.{clauses_along}
use Rattle.router_top.specs.Work.{Finds}
use Rattle.run_clauses.proofs.KnownLaws.{count-goes, known-crowd, known-some, order-goes}
use Rattle.run_clauses.proofs.PreparedLaws.{by-encoder, encoder-begins}
use Rattle.router_top.proofs.ServeLaws.{budget-said}
use Rattle.run_outcome.proofs.StoppedLaws.{found-early}
use Rattle.router_top.proofs.routing.search_width.Goals as goal

pub of-encoder-requires-clause-known : goal.of-encoder-requires-clause-known
of-encoder-requires-clause-known g c = λ is.
    let search = c.args.job.now.search in
    known-some search.method search.count c.args.problem.now c.args.known.now c.requires
    (order-goes search.method search.count is)

pub way_by-way-requires : goal.way_by-way-requires
way_by-way-requires g c = λ counts.
    let search = c.args.job.now.search in
    known-some search.method search.count c.args.problem.now c.args.known.now c.requires
    (count-goes search.method search.count counts)

pub one_width-came-requires-clause-serves : goal.one_width-came-requires-clause-serves
one_width-came-requires-clause-serves g c =
    let job = c.args.job.now in
    let p = c.args.problem.now in
    let width = job.search.width in
    let encoder = c.of-encoder.result in
    c.way_by-way.ensures.serves p width
    (clauses_along encoder.method encoder.order.row.items width p) c.requires
    (λ counts. encoder-begins job.search.method (crowd_of c.args.known.now) p encoder
    c.of-encoder.ensures (job.search.countable counts) width)

pub returns-clause-leaves : goal.returns-clause-leaves
returns-clause-leaves g c =
    let job = c.args.job.now in
    let p = c.args.problem.now in
    let width = job.search.width in
    let crowd = crowd_of c.args.known.now in
    let known = known-crowd job.search.method job.search.count p c.args.known.now c.requires in
    let before = g.S.Shelf.state c.args.shelf.now in
    let now = g.S.Shelf.state c.one_width-came.new.shelf in
    let search = route_search (route_said job) crowd in
    let way = course_of c.way_by-way.result in
    let came = c.one_width-came.result in
    record {
      given = c.was_given.ensures;
      narrow = job.search.in_range.1;
      crowd = crowd;
      known = known;
      came = came;
      finds = subst (λ (w : Course). Finds (record search { way = w }) p width before now came)
          c.way_by-way.ensures.is (by-encoder job.search.method job.search.count crowd p
          c.of-encoder.result c.of-encoder.ensures known
          (λ formula good. FindsBy (copies_by way) (refutes_by way p width (formula width))
          (opens_by way p width (formula width)) search.ask width (formula width) (good width)
          before now came) c.one_width-came.ensures.finds);
      is = c.found_outcome.ensures;
    }

pub returns-clause-stopped : goal.returns-clause-stopped
returns-clause-stopped g c early =
    let job = c.args.job.now in
    let came = c.one_width-came.result in
    let budget = ap budget_of c.way_by-way.ensures.is
    ∙ budget-said (search_said job.search) (option_map members_said job.members)
    (crowd_of c.args.known.now) in
    c.one_width-came.ensures.stopped (subst (λ (n : ℕ). FindsShort n came) (sym budget)
    (found-early job.search.conflicts job.search.width came c.found_outcome.result
    c.found_outcome.ensures early))
