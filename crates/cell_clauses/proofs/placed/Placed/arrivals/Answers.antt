use Rattle.std.proofs.Common.{◌<◌, All, List, get_or, length, refl, subst, sym, arith}
use Rattle.list_laws.proofs.Places.{get-there}
use Rattle.fpga_types.specs.declared.route.Label.TheVariants.{Class}
use Rattle.cell_clauses.specs.Held.{placed_of}
use Rattle.cell_clauses.specs.declared.window.Arrival.{Arrival}
use Rattle.cell_clauses.specs.declared.window.WindowNet.{WindowNet}
use Rattle.cell_clauses.proofs.FindingLemmas.{arrivals-all, arrivals-low, arrivals-more}
use Rattle.cell_clauses.proofs.placed.Placed.arrivals.Goals as goal

-- what is read past the end
abbrev past : WindowNet
past = record { number = 0; driver = record { x = 0; y = 0; label = Class; number = 0 } }

pub loop-place-preserved : goal.loop-place-preserved
loop-place-preserved c =
    let net : WindowNet = get_or c.args.nets.now c.loop-place.place past in
    arrivals-more (placed_of c.args.self.now) c.args.nets.now c.loop-place.place net
    c.loop-place.arrivals.items c.add_arrivals.new.arrivals.items
    (get-there c.args.nets.now c.loop-place.place net past c.loop-place-test.true refl)
    c.loop-place.invariant c.in_ok-add_arrivals.ensures

pub returns-clause-value : goal.returns-clause-value
returns-clause-value c =
    arrivals-all (placed_of c.args.self.now) c.args.nets.now c.loop-place.place
    c.loop-place.arrivals.items (omega arith) c.loop-place.invariant

pub returns-clause-low : goal.returns-clause-low
returns-clause-low c =
    subst (λ (found : List Arrival). All (λ (a : Arrival). a.net < length c.args.nets.now) found)
    (sym (arrivals-all (placed_of c.args.self.now) c.args.nets.now c.loop-place.place
    c.loop-place.arrivals.items (omega arith) c.loop-place.invariant))
    (arrivals-low (placed_of c.args.self.now) c.args.nets.now)
