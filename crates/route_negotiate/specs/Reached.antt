-- What a search within own cells finds.
use Rattle.std.specs.Prelude.{ℕ, ◌<◌, ◌≤◌}
use Rattle.route_negotiate.specs.declared.within.ReachedWire.{ReachedWire}

-- the wire is one of so many slots and tracks, and reached within so many joins
pub record IsReachedWithin (slots width reach : ℕ) (wire : ReachedWire) : Type 0 where
  pub slot : wire.slot < slots
  pub track : wire.track < width
  pub joins : wire.joins ≤ reach
