-- The ways in which jobs search.
use Rattle.std.specs.Prelude.{ℕ, List, Option, None, Some, is_some, true, if◌then◌else◌}
use Rattle.router_words.specs.Job.{MembersAsked}
use Rattle.route_ways.specs.Way.{Course, Counts, Searches, Trims}
use Rattle.route_ways.specs.declared.plain.Plain.{Plain}
use Rattle.route_ways.specs.declared.plain.Solver.TheVariants.{Merging, Turns}
use Rattle.route_ways.specs.declared.wires.Wires.{Wires}
use Rattle.route_ways.specs.declared.wires.Wires.TheVariants.{One, Several}
use Rattle.run_outcome.specs.Subject.{CoreAsked, Method, Ordered, Pinned, SearchAsked, Strictly, Within}

-- a net may have several wires in a cell within a reach
abbrev pub wires_by : Method → Wires
wires_by (Within reach) = Several
wires_by Strictly = One
wires_by Pinned = One
wires_by Ordered = One

-- one search, which keeps all clauses where the words say so; or as many as they say, which do;
-- they may be stopped where the words set a limit of time
abbrev pub plain_by : SearchAsked → Option MembersAsked → Plain
plain_by search None =
    record {
      solver = Merging;
      wires = wires_by search.method;
      budget = search.conflicts;
      keep = search.keep;
      limited = is_some search.seconds;
    }
plain_by search (Some members) = record {
  solver = Turns members.count members.seed;
  wires = wires_by search.method;
  budget = search.conflicts;
  keep = true;
  limited = is_some search.seconds;
}

-- behind counting, which goes by this crowd, where they say so
abbrev pub way_by : SearchAsked → Option MembersAsked → (crowd : List ℕ) → Course
way_by search members crowd =
    if search.count then Counts (plain_by search members) crowd
    else Searches (plain_by search members)

-- `core` keeps all clauses, and its refutation is cut down
abbrev pub core_way : CoreAsked → Course
core_way job =
    Trims (record {
      solver = Merging;
      wires = One;
      budget = job.conflicts;
      keep = true;
      limited = is_some job.seconds;
    })
