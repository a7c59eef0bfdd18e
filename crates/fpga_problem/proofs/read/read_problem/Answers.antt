use Rattle.fpga_net.proofs.GivenLemmas.{readers-give}
use Rattle.fpga_problem.proofs.TextLemmas.{all-read, fit-refused, netlist-refused, placement-refused, route-refused}
use Rattle.fpga_problem.proofs.read.read_problem.Goals as goal
use Rattle.fpga_types.specs.Texts.{Texts}

pub fit-requires : goal.fit-requires
fit-requires c =
    readers-give c.in-Ok.arch c.in-Ok-read_net.netlist c.in-Ok-read_net.ensures.sound
    c.in-Ok-read_place.placement c.in-Ok-read_route.route c.in-Ok-read_place.ensures.sound
    c.in-Ok-read_route.ensures.sound

pub returns-in-Err-read_net : goal.returns-in-Err-read_net
returns-in-Err-read_net c =
    rw (← c.texts.view_is, c.refused-in-Err-read_net.ensures)
    (netlist-refused _ c.in-Ok.arch c.in-Ok.ensures.answers c.in-Err-read_net.fault
    c.in-Err-read_net.ensures.answers)

pub returns-in-Err-read_place : goal.returns-in-Err-read_place
returns-in-Err-read_place c =
    rw (← c.texts.view_is, c.refused-in-Err-read_place.ensures)
    (placement-refused _ c.in-Ok.arch c.in-Ok.ensures.answers c.in-Ok-read_net.netlist
    c.in-Ok-read_net.ensures.answers c.in-Err-read_place.fault c.in-Err-read_place.ensures.answers)

pub returns-in-Err-read_route : goal.returns-in-Err-read_route
returns-in-Err-read_route c =
    rw (← c.texts.view_is, c.refused-in-Err-read_route.ensures)
    (route-refused _ c.in-Ok.arch c.in-Ok.ensures.answers c.in-Ok-read_net.netlist
    c.in-Ok-read_net.ensures.answers c.in-Ok-read_place.placement
    c.in-Ok-read_place.ensures.answers c.in-Err-read_route.fault
    c.in-Err-read_route.ensures.answers)

pub returns-in-Err-fit : goal.returns-in-Err-fit
returns-in-Err-fit c =
    rw (← c.texts.view_is, c.refused-in-Err-fit.ensures)
    (fit-refused _ c.in-Ok.arch c.in-Ok.ensures.answers c.in-Ok-read_net.netlist
    c.in-Ok-read_net.ensures.answers c.in-Ok-read_place.placement
    c.in-Ok-read_place.ensures.answers c.in-Ok-read_route.route c.in-Ok-read_route.ensures.answers
    c.in-Err-fit.fault c.in-Err-fit.ensures)

pub returns-in-Ok-fit : goal.returns-in-Ok-fit
returns-in-Ok-fit c =
    let texts : Texts = record {
      architecture = c.texts.inside.architecture.now;
      netlist = c.texts.inside.netlist.now;
      placement = c.texts.inside.placement.now;
      route = c.texts.inside.route.now;
    } in
    rw (← c.texts.view_is)
    (all-read texts c.in-Ok.arch c.in-Ok.ensures.answers c.in-Ok-read_net.netlist
    c.in-Ok-read_net.ensures.answers c.in-Ok-read_place.placement
    c.in-Ok-read_place.ensures.answers c.in-Ok-read_route.route c.in-Ok-read_route.ensures.answers
    c.in-Ok-fit.problem c.in-Ok-fit.ensures)
