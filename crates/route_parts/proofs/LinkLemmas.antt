-- Wires that switch blocks join over some wires between.
use Rattle.std.proofs.Common.{◌≡◌, ℕ, ◌<◌, List, [], ◌∷◌, ◌++◌, refl, sym, ◌∙◌, subst}
use Rattle.fpga_graph.specs.GraphOf.{GraphOf}
use Rattle.fpga_graph.specs.Wires.{IsWire}
use Rattle.fpga_types.specs.Fabric.{Meeting}
use Rattle.fpga_types.specs.Placed.{AreInTurn, last_wire}
use Rattle.fpga_types.specs.Tracks.{TrackMap, mapped_track}
use Rattle.fpga_types.specs.declared.grid.Wire.{Wire}
use Rattle.fpga_types.proofs.TrackLemmas.{mapped-back, mapped-within}
use Rattle.route_parts.specs.Links.{AreLinked, AreParts, JoinedIn, part_in}

-- what a wire of the array is joined to is one too
pub joined-wire : (g : GraphOf) (u v : Wire) → IsWire g u → JoinedIn g u v → IsWire g v
joined-wire g u v there j = record {
  cell = j.1.second.0;
  track = subst (λ (t : ℕ). t < g.width) j.2
      (mapped-within g.arch.pattern g.width j.0.from j.0.to u.track there.track);
}

-- a switch block joins both ways
pub joined-back : (g : GraphOf) (u v : Wire) → IsWire g u → JoinedIn g u v → JoinedIn g v u
joined-back g u v there j =
    let m : Meeting = j.0 in
    let at = j.1 in
    let table : TrackMap = mapped_track g.arch.pattern g.width in
    let turned : Meeting = record { at = m.at; from = m.to; to = m.from } in
    let back : table m.to m.from (table m.from m.to u.track) ≡ u.track =
    mapped-back g.arch.pattern g.width m.from m.to u.track there.track in (
      turned,
      record {
        column = at.column;
        row = at.row;
        sides = λ e. at.sides (sym e);
        first = at.second;
        second = at.first;
      },
      subst (λ (t : ℕ). table m.to m.from t ≡ u.track) j.2 back,
    )

pub linked-itself : (g : GraphOf) (u v : Wire) → u ≡ v → AreLinked g u v
linked-itself g u v e = record { rest = []; joined = tt; last = e }

pub linked-before : (g : GraphOf) (u v w : Wire) → JoinedIn g u v → AreLinked g v w
    → AreLinked g u w
linked-before g u v w j linked =
    record { rest = v ∷ linked.rest; joined = (j, linked.joined); last = linked.last }

in-turn-on : (joins : Wire → Wire → Type 0) (u w : Wire) (rest : List Wire)
    → AreInTurn joins u rest → joins (last_wire u rest) w → AreInTurn joins u (rest ++ w ∷ [])
in-turn-on joins u w [] h j = (j, tt)
in-turn-on joins u w (v ∷ vs) h j = (h.0, in-turn-on joins v w vs h.1 j)

last-on : (u w : Wire) (rest : List Wire) → last_wire u (rest ++ w ∷ []) ≡ w
last-on u w [] = refl
last-on u w (v ∷ vs) = last-on v w vs

pub linked-behind : (g : GraphOf) (u v w : Wire) → AreLinked g u v → JoinedIn g v w
    → AreLinked g u w
linked-behind g u v w linked j = record {
  rest = linked.rest ++ w ∷ [];
  joined = in-turn-on (JoinedIn g) u w linked.rest linked.joined
      (subst (λ (x : Wire). JoinedIn g x w) (sym linked.last) j);
  last = last-on u w linked.rest;
}

-- wires in turn are all of one part
pub last-alike : (g : GraphOf) (count : ℕ) (table : List ℕ) → AreParts g count table → (u : Wire)
    (rest : List Wire) → IsWire g u → AreInTurn (JoinedIn g) u rest
    → part_in g table (last_wire u rest) ≡ part_in g table u
last-alike g count table parts u [] there h = refl
last-alike g count table parts u (v ∷ vs) there h =
    last-alike g count table parts v vs (joined-wire g u v there h.0) h.1
    ∙ parts.alike u v there h.0
