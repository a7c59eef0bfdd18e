-- What is said where rounds have found no route of a placement, or there is none.
use Rattle.std.specs.Prelude.{ℕ, ◌++◌, ◌*◌, Bool, List, [], codes, decimal, false, min, nat_le, nat_lt, Option, Some, if◌then◌else◌}
use Rattle.fpga_types.specs.declared.limits.TheConstants.{WIDTH_LIMIT}
use Rattle.router_says.specs.declared.phrases.TheConstants.{NO_WAY_OTHERS, NO_WAY_ROUTE, NO_WAY_WHY, ROUNDS_FREE, ROUNDS_MADE, ROUNDS_MORE, ROUNDS_OPEN, ROUNDS_PLACEMENT, ROUNDS_ROUTE, ROUNDS_STOPPED, ROUNDS_TIME, ROUNDS_TRY, ROUNDS_WIDER}
use Rattle.router_words.specs.Job.{JobAsked, Narrows, Negotiates}
use Rattle.router_words.specs.declared.limits.TheConstants.{ROUND_LIMIT}

-- what has ended the rounds, where the clock has
abbrev pub rounds_end_said : (stopped : Bool) → List ℕ
rounds_end_said stopped = if stopped then ROUNDS_STOPPED.now else codes "."

-- in how many rounds none was found, with this at the end
abbrev pub rounds_said : (width rounds : ℕ) → (end : List ℕ) → List ℕ
rounds_said width rounds end =
    ROUNDS_ROUTE.now ++ (decimal width
    ++ (ROUNDS_OPEN.now ++ (decimal rounds ++ (ROUNDS_MADE.now ++ end))))

-- where all were made that there might be, more rounds can be tried: ten times as many, but no more
-- than the words take
abbrev pub try_rounds_said : (rounds : ℕ) → List ℕ
try_rounds_said rounds = ROUNDS_MORE.now ++ (decimal rounds ++ codes ",")

abbrev pub more_rounds_said : (most rounds : ℕ) → List ℕ
more_rounds_said most rounds = if nat_lt rounds most then []
    else if nat_le ROUND_LIMIT rounds then []
    else try_rounds_said (min (rounds * 10) ROUND_LIMIT)

-- more time can be tried, where the clock has ended the rounds, or else more of them
abbrev pub more_effort_said : (stopped : Bool) → (most rounds : ℕ) → List ℕ
more_effort_said stopped most rounds =
    if stopped then ROUNDS_TIME.now else more_rounds_said most rounds

-- the words let a net have several wires of a cell
abbrev pub is_free : Option JobAsked → Bool
is_free (Some (Negotiates job)) = job.free
is_free (Some (Narrows job)) = job.free
is_free asked = false

-- how many rounds the words allow, at most
abbrev pub rounds_asked : Option JobAsked → ℕ
rounds_asked (Some (Negotiates job)) = job.rounds
rounds_asked (Some (Narrows job)) = job.rounds
rounds_asked asked = 0

-- a net can be let have several wires of a cell, where it may not yet
abbrev pub freer_said : (free : Bool) → List ℕ
freer_said free = if free then [] else ROUNDS_FREE.now

-- a greater width can be tried, where the words take one
abbrev pub wider_said : (width : ℕ) → List ℕ
wider_said width = if nat_lt width WIDTH_LIMIT then ROUNDS_WIDER.now else []

abbrev pub others_said : (free : Bool) → (width : ℕ) → List ℕ
others_said free width = freer_said free ++ (wider_said width ++ ROUNDS_PLACEMENT.now)

abbrev pub tries_said : (free stopped : Bool) → (most width rounds : ℕ) → List ℕ
tries_said free stopped most width rounds =
    ROUNDS_TRY.now ++ (more_effort_said stopped most rounds ++ others_said free width)

abbrev pub unfound_said : Option JobAsked → (width rounds : ℕ) → (stopped : Bool) → List ℕ
unfound_said asked width rounds stopped =
    rounds_said width rounds (rounds_end_said stopped)
    ++ tries_said (is_free asked) stopped (rounds_asked asked) width rounds

-- no wires reach a sink of a net, so that there is no route
abbrev pub no_way_said : (width : ℕ) → List ℕ
no_way_said width =
    NO_WAY_ROUTE.now ++ (decimal width ++ (NO_WAY_WHY.now ++ NO_WAY_OTHERS.now))
