use Rattle.std.proofs.Common.{◌∙◌}
use Rattle.list_laws.proofs.Searches.{if-position-within}
use Rattle.route_verify.specs.Lines.{is_trace_named}
use Rattle.route_verify.proofs.traces.Traces.number_of.Goals as goal

pub returns-clause-within : goal.returns-clause-within
returns-clause-within c = rw (← c.self.view_is)
    (if-position-within (is_trace_named c.args.name.now) c.self.inside.nets.now c.copied.result
    (c.copied.ensures ∙ c.get.ensures.value ∙ c.self.invariant.found c.args.name.now))
