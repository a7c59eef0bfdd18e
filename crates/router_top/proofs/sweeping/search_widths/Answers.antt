use Rattle.std.proofs.Common.{◌∙◌, ℕ, ap, subst, sym, true}
use Rattle.std.specs.Prelude.{option_map}
use Rattle.route_sweep.specs.Asked.{Asked}
use Rattle.route_sweep.specs.Climb.{ClimbsShort, ClimbsTo}
use Rattle.route_ways.specs.Way.{Course, budget_of, copies_by, course_of, opens_by, refutes_by}
use Rattle.router_words.specs.Job.{members_said, search_said}
use Rattle.run_clauses.specs.Known.{crowd_of}
use Rattle.run_clauses.specs.Method.{IsRoutingBy, clauses_by}
use Rattle.run_clauses.specs.Suited.{clauses_along}
use Rattle.run_clauses.proofs.KnownLaws.{count-goes, known-crowd, known-some, order-goes}
use Rattle.run_clauses.proofs.PreparedLaws.{by-encoder, encoder-begins}
use Rattle.router_top.proofs.ServeLaws.{budget-said}
use Rattle.run_outcome.proofs.StoppedLaws.{climbed-early}
use Rattle.router_top.proofs.sweeping.search_widths.Goals as goal

pub of-encoder-requires-clause-known : goal.of-encoder-requires-clause-known
of-encoder-requires-clause-known g c = λ is.
    let search = c.args.search.now in
    known-some search.method search.count c.args.problem.now c.args.known.now c.requires
    (order-goes search.method search.count is)

pub way_by-way-requires : goal.way_by-way-requires
way_by-way-requires g c = λ counts.
    let search = c.args.search.now in
    known-some search.method search.count c.args.problem.now c.args.known.now c.requires
    (count-goes search.method search.count counts)

pub climb-came-requires-clause-serves : goal.climb-came-requires-clause-serves
climb-came-requires-clause-serves g c = λ width.
    let search = c.args.search.now in
    let p = c.args.problem.now in
    let encoder = c.of-encoder.result in
    c.way_by-way.ensures.serves p width
    (clauses_along encoder.method encoder.order.row.items width p) c.requires
    (λ counts. encoder-begins search.method (crowd_of c.args.known.now) p encoder
    c.of-encoder.ensures (search.countable counts) width)

pub returns-clause-leaves : goal.returns-clause-leaves
returns-clause-leaves g c =
    let search = c.args.search.now in
    let p = c.args.problem.now in
    let crowd = crowd_of c.args.known.now in
    let known = known-crowd search.method search.count p c.args.known.now c.requires in
    let before = g.S.Shelf.state c.args.shelf.now in
    let now = g.S.Shelf.state c.climb-came.new.shelf in
    let way = course_of c.way_by-way.result in
    let ask : Asked = record { prefix = search.prefix.now; numbered = true } in
    record {
      given = c.was_given.ensures;
      some = search.in_range.0;
      narrow = search.in_range.1;
      crowd = crowd;
      known = known;
      came = c.climb-came.result;
      climbs = subst (λ (w : Course). ClimbsTo (copies_by w)
          (λ width. refutes_by w p width (clauses_by search.method crowd width p))
          (λ width. opens_by w p width (clauses_by search.method crowd width p)) ask search.width
          (λ width. clauses_by search.method crowd width p)
          (λ width. IsRoutingBy search.method width p)
          before now c.climb-came.result) c.way_by-way.ensures.is
          (by-encoder search.method search.count crowd p c.of-encoder.result
          c.of-encoder.ensures known
          (λ formula good. ClimbsTo (copies_by way)
          (λ width. refutes_by way p width (formula width))
          (λ width. opens_by way p width (formula width)) ask search.width formula good
          before now c.climb-came.result) c.climb-came.ensures.climbs);
      is = c.climbed_outcome.ensures;
    }

pub returns-clause-stopped : goal.returns-clause-stopped
returns-clause-stopped g c early =
    let search = c.args.search.now in
    let came = c.climb-came.result in
    let budget = ap budget_of c.way_by-way.ensures.is
    ∙ budget-said (search_said search) (option_map members_said c.args.members)
    (crowd_of c.args.known.now) in
    c.climb-came.ensures.stopped (subst (λ (n : ℕ). ClimbsShort n came) (sym budget)
    (climbed-early search.conflicts came c.climbed_outcome.result c.climbed_outcome.ensures early))
