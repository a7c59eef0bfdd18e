use Rattle.std.proofs.Common.{length}
use Rattle.route_ways.proofs.WayLemmas.{numbered-rise}
use Rattle.route_ways.proofs.plain.PlainLearner.is_learned.Goals as goal

pub returns : goal.returns
returns c = λ p width formula log lead h. record {
  accepted = h.refutes.accepts;
  rising = numbered-rise (length formula.clauses) log h.of.search.numbered;
  printable = h.of.printable;
}
