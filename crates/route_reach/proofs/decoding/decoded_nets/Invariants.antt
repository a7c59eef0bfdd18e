-- the nets so far are decoded, and the slots of the next one begin here
use Rattle.route_reach.specs.Decoding.{AreDecoded}
use Rattle.route_reach.specs.Modelled.{IsStart, slots_in_model}
use Rattle.route_reach.proofs.decoding.decoded_nets.Given as goal

abbrev pub invariant-loop-number : goal.invariant-loop-number
invariant-loop-number l = record {
  nets : AreDecoded l.model l.number l.nets.items;
  start : IsStart (slots_in_model l.model) l.number l.first;
}
