-- Where so few nets end, a block has a free input.
use Rattle.std.proofs.Common.{◌≡◌, ℕ, zero, suc, ◌+◌, ◌*◌, ◌<◌, ◌≤◌, ◌==◌, Bool, List, [], ◌∷◌, length, refl, arith, length-append}
use Rattle.std.specs.Prelude.{flat_map, nat_lt, if◌then◌else◌}
use Rattle.std.specs.List.{enumerate_from}
use Rattle.std.proofs.lemmas.Bool.{cases_order, eq-eqb, le-ltb, lt-ltb, ne_eqb}
use Rattle.route_gen.specs.Draws.{ending_at, nets_into}
use Rattle.route_gen.specs.declared.draws.Sink.{Sink}
use Rattle.route_gen.specs.declared.draws.TheConstants.{INPUT_COUNT}

-- one for a test that passes
abbrev pub one : Bool → ℕ
one b = if b then 1 else 0

-- how many of the nets end at the first blocks
abbrev pub among : List Sink → (blocks : ℕ) → ℕ
among [] blocks = 0
among (sink ∷ sinks) blocks = one (nat_lt sink.block blocks) + among sinks blocks

-- they are no more than all
pub among-all : (sinks : List Sink) (blocks : ℕ) → among sinks blocks ≤ length sinks
among-all [] blocks = omega arith
among-all (sink ∷ sinks) blocks = grind (arith, (among-all sinks blocks))

-- a net ends at the next block, or at one before it, or at none of these
one-more : (net at block : ℕ) →
    length (if at == block then net ∷ [] else []) + one (nat_lt at block)
    ≡ one (nat_lt at (suc block))
one-more net at block = grind (arith, cases_order, eq-eqb, le-ltb, lt-ltb, ne_eqb)

-- those that end at the first blocks, and those that end at the next
among-next : (net : ℕ) (sinks : List Sink) (block : ℕ) →
    length (flat_map (ending_at block) (enumerate_from net sinks)) + among sinks block
    ≡ among sinks (suc block)
among-next net [] block = refl
among-next net (sink ∷ sinks) block =
    grind (arith, one-more, length-append, (among-next (net + 1) sinks block))

-- where each of the first blocks is full, so many nets end there
pub full-among : (sinks : List Sink) (blocks : ℕ) →
    ((block : ℕ) → block < blocks → INPUT_COUNT ≤ length (nets_into sinks block)) →
    INPUT_COUNT * blocks ≤ among sinks blocks
full-among sinks zero full = omega arith
full-among sinks (suc blocks) full =
    let before = full-among sinks blocks (λ b below. full b (omega arith)) in
    let here = full blocks (omega arith) in
    let next = among-next 0 sinks blocks in
    omega (arith, before, here, next)
