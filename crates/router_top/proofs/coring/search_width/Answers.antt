use Rattle.std.proofs.Common.{ℕ, ap, false, subst, sym}
use Rattle.route_sweep.specs.Found.{FindsBy, FindsShort}
use Rattle.route_ways.specs.Way.{Course, budget_of, copies_by, course_of, opens_by, refutes_by}
use Rattle.router_words.specs.Job.{core_said}
use Rattle.run_clauses.specs.Known.{crowd_of}
use Rattle.router_top.specs.Search.{core_search}
use Rattle.run_clauses.specs.Suited.{clauses_along}
use Rattle.router_top.specs.Work.{Finds}
use Rattle.run_clauses.proofs.KnownLaws.{known-crowd, known-some, order-goes}
use Rattle.run_clauses.proofs.PreparedLaws.{by-encoder, encoder-fair}
use Rattle.router_top.proofs.StoppedLaws.{blamed-early}
use Rattle.router_top.proofs.coring.search_width.Goals as goal

pub of-encoder-requires-clause-known : goal.of-encoder-requires-clause-known
of-encoder-requires-clause-known g c = λ is.
    let method = c.args.job.now.method in
    known-some method false c.args.problem.now c.args.known.now c.requires
    (order-goes method false is)

pub one_width-came-requires-clause-serves : goal.one_width-came-requires-clause-serves
one_width-came-requires-clause-serves g c =
    let job = c.args.job.now in
    let p = c.args.problem.now in
    let encoder = c.of-encoder.result in
    c.core_way-way.ensures.serves p job.width
    (clauses_along encoder.method encoder.order.row.items job.width p)
    (encoder-fair job.method (crowd_of c.args.known.now) p encoder c.of-encoder.ensures
    job.one_track job.width job.in_range.0 c.was_given.ensures c.does_fit.ensures)

pub returns-clause-leaves : goal.returns-clause-leaves
returns-clause-leaves g c =
    let job = c.args.job.now in
    let p = c.args.problem.now in
    let crowd = crowd_of c.args.known.now in
    let known = known-crowd job.method false p c.args.known.now c.requires in
    let before = g.S.Shelf.state c.args.shelf.now in
    let wrote = g.S.Shelf.state c.one_width-came.new.shelf in
    let search = core_search (core_said job) crowd in
    let way = course_of c.core_way-way.result in
    let came = c.one_width-came.result in
    record {
      given = c.was_given.ensures;
      narrow = job.in_range.1;
      crowd = crowd;
      known = known;
      came = came;
      wrote = wrote;
      finds = subst (λ (w : Course). Finds (record search { way = w }) p job.width before wrote
          came) c.core_way-way.ensures.is (by-encoder job.method false crowd p
          c.of-encoder.result c.of-encoder.ensures known
          (λ formula good. FindsBy (copies_by way) (refutes_by way p job.width (formula job.width))
          (opens_by way p job.width (formula job.width)) search.ask job.width (formula job.width)
          (good job.width) before wrote came) c.one_width-came.ensures.finds);
      says = c.say_blamed.ensures;
    }

pub returns-clause-stopped : goal.returns-clause-stopped
returns-clause-stopped g c early =
    let job = c.args.job.now in
    let came = c.one_width-came.result in
    c.one_width-came.ensures.stopped (subst (λ (n : ℕ). FindsShort n came)
    (sym (ap budget_of c.core_way-way.ensures.is))
    (blamed-early job.conflicts job.width (g.S.Shelf.state c.one_width-came.new.shelf)
    (g.S.Shelf.state c.say_blamed.new.shelf) came c.say_blamed.result c.say_blamed.ensures early))
