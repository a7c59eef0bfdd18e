-- Parts of wires, as far as they are found: 0 stands for none.
use Rattle.std.specs.Prelude.{◌≡◌, ◌≢◌, ◌⊎◌, ℕ, ◌≤◌, ◌==◌, List, [], ◌∷◌, ◌++◌, Contains, count_by, length, slice_index, slice_set}
use Rattle.fpga_graph.specs.GraphOf.{GraphOf}
use Rattle.fpga_graph.specs.Wires.{IsWire}
use Rattle.fpga_types.specs.declared.grid.Wire.{Wire}
use Rattle.route_parts.specs.Links.{AreLinked, JoinedIn, part_in, wire_count, wire_number}

-- each wire that the wire is joined to has its part
abbrev pub IsSpread : GraphOf → (table : List ℕ) → Wire → Type 0
IsSpread g table u = (v : Wire) → JoinedIn g u v → part_in g table v ≡ part_in g table u

-- no part is above the newest one; wires of one part are linked; those ahead have the newest part;
-- and each other wire that has a part has given it to those that it is joined to
pub record IsFlooding (g : GraphOf) (newest : ℕ) (table : List ℕ) (ahead : List Wire) : Type 0
  where
    pub size : length table ≡ wire_count g
    pub within : (k : ℕ) → slice_index table k ≤ newest
    pub linked : (u v : Wire) → IsWire g u → IsWire g v → part_in g table u ≢ 0
        → part_in g table u ≡ part_in g table v → AreLinked g u v
    pub newest_ahead : (u : Wire) → Contains ahead u
        → IsWire g u × (part_in g table u ≡ newest)
    pub spread : (u : Wire) → IsWire g u → part_in g table u ≢ 0
        → Contains ahead u ⊎ IsSpread g table u

-- how many wires have no part yet
abbrev pub open_count : (table : List ℕ) → ℕ
open_count table = count_by (λ part. part == 0) table

-- what has a part keeps it
abbrev pub Keeps : (old new : List ℕ) → Type 0
Keeps old new = (k : ℕ) → slice_index old k ≢ 0 → slice_index new k ≡ slice_index old k

-- the wire has a part, and nothing changes; or it has none, gets this one, and stands ahead
abbrev pub Takes : GraphOf → (part : ℕ) → Wire → (old : List ℕ) → (before : List Wire)
    → (new : List ℕ) → (ahead : List Wire) → Type 0
Takes g part wire old before new ahead =
    ((part_in g old wire ≢ 0) × (new ≡ old) × (ahead ≡ before))
    ⊎ ((part_in g old wire ≡ 0) × (new ≡ slice_set old (wire_number g wire) part)
    × (ahead ≡ before ++ wire ∷ []))
