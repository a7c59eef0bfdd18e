-- The search of a job can be done, and one search alone holds one copy of the clauses.
use Rattle.std.specs.Prelude.{◌^◌, if◌then◌else◌, Bool, IsSome, Option, None, Some, is_some, option_map}
use Rattle.std.proofs.Common.{◌≡◌, ◌⊎◌, ◌<◌, ◌≤◌, ℕ, List, true, false, refl, subst, sym, inl, inr, arith}
use Rattle.route_ways.specs.Plain.{CanSearch}
use Rattle.route_ways.specs.Way.{Counts, Searches, budget_of, copies_by, is_counting, is_limited}
use Rattle.route_ways.specs.declared.plain.TheConstants.{BUDGET_LIMIT}
use Rattle.router_words.specs.Job.{MembersAsked, members_said}
use Rattle.router_words.specs.declared.job.Members.{Members}
use Rattle.run_clauses.specs.Method.{IsCrowdFor}
use Rattle.run_outcome.specs.Subject.{RoutingProblem, SearchAsked}
use Rattle.router_top.specs.Ways.{plain_by, way_by}

-- as many searches as may take turns, by a seed of theirs, if any do
abbrev pub MayTurn : Option MembersAsked → Type 0
MayTurn None = Unit {0}
MayTurn (Some members) = (1 ≤ members.count) × (members.count ≤ 8) × (members.seed < 2 ^ 31)

pub said-turn : (members : Option Members) → MayTurn (option_map members_said members)
said-turn None = tt
said-turn (Some members) = (members.some.0, members.some.1, omega (arith, members.drawable))

module _ (search : SearchAsked) where
  pub can-search : (members : Option MembersAsked) → MayTurn members → 1 ≤ search.conflicts
      → search.conflicts ≤ BUDGET_LIMIT → CanSearch (plain_by search members)
  can-search None turn some most = record { some = some; affordable = most; turns = tt }
  can-search (Some members) turn some most =
      record { some = some; affordable = most; turns = turn }

  -- one search alone holds the clauses once, or as many take turns
  pub one-copy : (members : Option MembersAsked) (crowd : List ℕ)
      → (copies_by (way_by search members crowd) ≡ 1) ⊎ IsSome members
  one-copy (Some members) crowd = inr refl
  one-copy None crowd = inl (go search.count)
    where
      go : (count : Bool) → copies_by (if count then Counts (plain_by search None) crowd
          else Searches (plain_by search None)) ≡ 1
      go true = refl
      go false = refl

  -- a search counts where the words say so
  pub counting-said : (members : Option MembersAsked) (crowd : List ℕ)
      → is_counting (way_by search members crowd) ≡ search.count
  counting-said members crowd = go search.count
    where
      go : (count : Bool) → is_counting (if count then Counts (plain_by search members) crowd
          else Searches (plain_by search members)) ≡ count
      go true = refl
      go false = refl

  -- and goes by a crowd of the problem then
  pub crowd-said : (members : Option MembersAsked) (crowd : List ℕ) (p : RoutingProblem)
      → IsCrowdFor search.method search.count crowd p
      → IsCrowdFor search.method (is_counting (way_by search members crowd)) crowd p
  crowd-said members crowd p = subst (λ (count : Bool). IsCrowdFor search.method count crowd p)
      (sym (counting-said members crowd))

  -- it may learn as many clauses as the words say
  pub budget-said : (members : Option MembersAsked) (crowd : List ℕ)
      → budget_of (way_by search members crowd) ≡ search.conflicts
  budget-said members crowd = go search.count members
    where
      go : (count : Bool) (members : Option MembersAsked)
          → budget_of (if count then Counts (plain_by search members) crowd
          else Searches (plain_by search members)) ≡ search.conflicts
      go true None = refl
      go true (Some members) = refl
      go false None = refl
      go false (Some members) = refl

  -- and may be stopped where they set a limit of time
  pub limited-said : (members : Option MembersAsked) (crowd : List ℕ)
      → is_limited (way_by search members crowd) ≡ is_some search.seconds
  limited-said members crowd = go search.count members
    where
      go : (count : Bool) (members : Option MembersAsked)
          → is_limited (if count then Counts (plain_by search members) crowd
          else Searches (plain_by search members)) ≡ is_some search.seconds
      go true None = refl
      go true (Some members) = refl
      go false None = refl
      go false (Some members) = refl
