use Rattle.std.proofs.Common.{subst, sym}
use Rattle.fpga_place.specs.Drafts.{FitsBlock, Progress}
use Rattle.fpga_place.proofs.PlaceLemmas.{put-in_order}
use Rattle.fpga_place.proofs.draft.Draft.put.Goals as goal

pub invariant_of-self-2 : goal.invariant_of-self-2
invariant_of-self-2 c =
    put-in_order c.self.inside.io_rat c.self.inside.grid c.self.inside.blocks
    c.self.inside.places.items c.args.number c.args.place c.as_slice.result.now
    c.index-as_slice-number.result c.spot.result c.self.inside.taken c.insert.new.self
    (subst (λ (d : Progress). FitsBlock d c.args.number c.args.place) (sym c.self.view_is)
    c.requires)
    c.as_slice.ensures c.spot.ensures c.self.invariant c.in-Ok.ensures.updates
