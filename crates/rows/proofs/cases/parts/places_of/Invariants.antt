use Rattle.std.proofs.Common.{◌≡◌, ◌+◌, ◌≤◌, drop}
use Rattle.rows.specs.Parts.{places_of}
use Rattle.rows.proofs.cases.parts.places_of.Given as goal

-- the places so far and those in what is left are all, and no more than were looked at
abbrev pub invariant-loop-at : goal.invariant-loop-at
invariant-loop-at l = (l.count ≤ l.at)
    × (l.count + places_of l.part (drop l.at l.text) ≡ places_of l.part l.text)
