-- What contracts see of a net of a model.
use Rattle.route_reach.specs.Modelled.{NetOf, net_given}
use Rattle.route_reach.specs.declared.growing.ModelNet.{ModelNet}

abbrev pub net_of : ModelNet → NetOf
net_of of = net_given of.model.now of.number of.net.now of.first of.end
