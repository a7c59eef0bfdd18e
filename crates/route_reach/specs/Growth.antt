-- How the tree of a net grows, level by level: the wires that its source reaches, those that are
-- joined to them, and so on.
use Rattle.std.specs.Prelude.{◌≡◌, ◌≢◌, ℕ, ◌+◌, ◌-◌, ◌*◌, ◌/◌, ◌%◌, ◌<◌, ◌≤◌, true, false, List, length, All, Contains, Some, slice_index_or}
use Rattle.route_encode.specs.Said.{says}
use Rattle.route_reach.specs.Modelled.{NetOf, graph_in, is_begun, places_beside, slots_in_model}
use Rattle.route_reach.specs.Tree.{IsTree, IsUsed, TreeOf, reached_at}
use Rattle.route_reach.specs.declared.tree.Reached.{Reached}

-- wire k is reached over so many joins, or over at most so many
pub record IsReachedOver (tree : TreeOf) (d k : ℕ) : Type 0 where
  pub how : Reached
  pub is : reached_at tree k ≡ Some how
  pub deep : how.depth ≡ d

pub record IsReachedWithin (tree : TreeOf) (d k : ℕ) : Type 0 where
  pub how : Reached
  pub is : reached_at tree k ≡ Some how
  pub near : how.depth ≤ d

-- no wire is reached over more joins, and these are the wires that are reached over so many
pub record IsLevel (tree : TreeOf) (d : ℕ) (level : List ℕ) : Type 0 where
  pub low : (k : ℕ) (r : Reached) → reached_at tree k ≡ Some r → r.depth ≤ d
  pub all : (k : ℕ) (r : Reached) → reached_at tree k ≡ Some r → r.depth ≡ d → Contains level k
  pub each : All (IsReachedOver tree d) level

-- the tree of a net, as far as so many joins lead
pub record IsGrown (n : NetOf) (d : ℕ) (tree : TreeOf) (level : List ℕ) : Type 0 where
  pub first : tree.first ≡ n.first
  pub long : length tree.wires ≡ (n.end - n.first) * tree.width
  pub is_tree : IsTree (graph_in n.model) n.model.reach (slots_in_model n.model) n.number n.net tree
  pub used : IsUsed n.model.values tree
  pub is_level : IsLevel tree d level

-- what was reached is reached so still
abbrev pub Keeps : (old new : TreeOf) → Type 0
Keeps old new = (k : ℕ) (r : Reached) → reached_at old k ≡ Some r → reached_at new k ≡ Some r

-- what was reached is reached so still, and what is so now over another number of joins was so
pub record Grows (n : NetOf) (d : ℕ) (old new : TreeOf) (level : List ℕ) : Type 0 where
  pub keeps : Keeps old new
  pub only : (k : ℕ) (r : Reached) → reached_at new k ≡ Some r → r.depth ≢ d
      → reached_at old k ≡ Some r
  pub grown : IsGrown n d new level

-- the source reaches wire k of the net, and it is used
pub record IsBeginning (n : NetOf) (k : ℕ) : Type 0 where
  pub begun : is_begun n.model (n.first + k / n.model.width) (k % n.model.width) ≡ true
  pub used : says n.model.values n.model.width (n.first + k / n.model.width) (k % n.model.width)
      ≡ true

-- of the wires from one number up to another those that begin are reached without joins
abbrev pub HasBegun : NetOf → (tree : TreeOf) → (from to : ℕ) → Type 0
HasBegun n tree from to =
    (k : ℕ) → from ≤ k → k < to → IsBeginning n k → IsReachedWithin tree 0 k

-- where the wire at this place among all is used, it is reached over at most so many joins
abbrev pub IsSpreadTo : NetOf → (tree : TreeOf) → (d b : ℕ) → Type 0
IsSpreadTo n tree d b = slice_index_or n.model.values b false ≡ true
    → IsReachedWithin tree d (b - n.first * n.model.width)

-- the wires near wire k that are used are reached over at most so many joins
abbrev pub IsSpreadFrom : NetOf → (tree : TreeOf) → (d k : ℕ) → Type 0
IsSpreadFrom n tree d k = All (IsSpreadTo n tree d)
    (places_beside n.model (n.first + k / n.model.width) (k % n.model.width))
