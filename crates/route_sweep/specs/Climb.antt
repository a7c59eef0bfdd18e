-- What a climb through the widths comes to, by whatever way: each width below is refuted, and this
-- came of the next.
use Rattle.std.specs.Prelude.{◌≡◌, ⊤, ℕ, zero, suc, ◌<◌, true, List, Result, Ok, Err}
use Rattle.desk_io.specs.Files.{Bytes}
use Rattle.desk_io.specs.ShelfState.{ShelfState}
use Rattle.fpga_types.specs.declared.route.RouteText.{RouteText}
use Rattle.sat_clause.specs.Formula.{Cnf}
use Rattle.sat_clause.specs.Step.{Step}
use Rattle.route_sweep.specs.Asked.{Asked}
use Rattle.route_sweep.specs.Found.{FindsBy}
use Rattle.route_sweep.specs.declared.found.Climbed.{Climbed}
use Rattle.route_sweep.specs.declared.found.Climbed.TheVariants.{Routed, Unroutable, Undecided}
use Rattle.route_sweep.specs.declared.found.Found.{Found}
use Rattle.route_sweep.specs.declared.found.Found.TheVariants.{Routed as IsRouted, Refuted, Spent}
use Rattle.route_sweep.specs.declared.found.Stop.{Stop}

-- the same, with names that have the width in them
abbrev pub numbered : Asked → Asked
numbered ask = record ask { numbered = true }

-- the answer is a refutation
abbrev pub IsRefuted : Result Found Stop → Type 0
IsRefuted (Ok (Refuted lead)) = ⊤
IsRefuted came = ⊥

module _ (copies : ℕ) (Refutes : ℕ → List Step → Bytes → Type 0)
    (LeavesOpen : ℕ → List Step → Type 0) (ask : Asked) where
  -- what the way finds at a width
  abbrev pub FindsThere : (formula : ℕ → Cnf) → (good : ℕ → RouteText → Type 0) → (width : ℕ)
      → (before now : ShelfState) → Result Found Stop → Type 0
  FindsThere formula good width =
      FindsBy copies (Refutes width) (LeavesOpen width) ask width (formula width) (good width)

  -- the widths from 1 to this one were refuted one after the other, each with its files
  abbrev pub AreRefuted : (formula : ℕ → Cnf)
      → (good : ℕ → RouteText → Type 0) → (width : ℕ) → (before now : ShelfState) → Type 0
  AreRefuted formula good zero before now = now ≡ before
  AreRefuted formula good (suc width) before now =
      (between : ShelfState) × AreRefuted formula good width before between
      × (came : Result Found Stop) × IsRefuted came
      × FindsThere formula good (suc width) between now came

  -- the climb ends at this width, one of those up to the last: those below it were refuted, and
  -- then this came of it, which is a refutation at the last alone
  pub record EndsAt
      (most : ℕ) (formula : ℕ → Cnf)
      (good : ℕ → RouteText → Type 0) (before now : ShelfState) (width : ℕ)
      (came : Result Found Stop) : Type 0 where
    pub below : ℕ
    pub next : width ≡ suc below
    pub within : below < most
    pub between : ShelfState
    pub refuted : AreRefuted formula good below before between
    pub then : FindsThere formula good width between now came
    pub last : IsRefuted came → width ≡ most

-- what a climb answers that ends at a width with what is found there
abbrev pub climbed : (width : ℕ) → Result Found Stop → Result Climbed Stop
climbed width (Ok IsRouted) = Ok (Routed width)
climbed width (Ok (Refuted lead)) = Ok (Unroutable width)
climbed width (Ok (Spent learned)) = Ok (Undecided width learned)
climbed width (Err stop) = Err stop

-- the climb ends at a width with something found there, and this is the answer
abbrev pub ClimbsTo : (copies : ℕ) → (Refutes : ℕ → List Step → Bytes → Type 0)
    → (LeavesOpen : ℕ → List Step → Type 0) → Asked → (most : ℕ) → (formula : ℕ → Cnf)
    → (good : ℕ → RouteText → Type 0) → (before now : ShelfState) → Result Climbed Stop → Type 0
ClimbsTo copies Refutes LeavesOpen ask most formula good before now answer =
    (width : ℕ) × (found : Result Found Stop) × (answer ≡ climbed width found)
    × EndsAt copies Refutes LeavesOpen ask most formula good before now width found

-- the climb was left open at a width after fewer learned clauses than the budget allows
abbrev pub ClimbsShort : (budget : ℕ) → Result Climbed Stop → Type 0
ClimbsShort budget (Ok (Undecided width learned)) = learned < budget
ClimbsShort budget answer = ⊥
