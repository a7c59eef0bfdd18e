-- Worked rows of generated problems, each by computation.
use Rattle.std.proofs.Common.{◌≡◌, ℕ, List, [], ◌∷◌, length, refl}
use Rattle.std.specs.Prelude.{map}
use Rattle.fpga_types.specs.Fit.{fit_faults}
use Rattle.fpga_types.specs.Slots.{pairs, slots, steps}
use Rattle.fpga_types.specs.declared.route.Elem.{Elem}
use Rattle.fpga_text.specs.FirstFault.{IsFaultless}
use Rattle.route_gen.specs.Draws.{after_rand, answer_of, sinks_of}
use Rattle.route_gen.specs.Routes.{route_to}
use Rattle.route_gen.specs.Traces.{trace}
use Rattle.route_gen.specs.declared.draws.Sink.{Sink}

-- what `rand` answers first from seed 1, as the standard's sample does
abbrev states : List ℕ
states = after_rand 1 ∷ after_rand (after_rand 1) ∷ after_rand (after_rand (after_rand 1))
    ∷ after_rand (after_rand (after_rand (after_rand 1))) ∷ []

first_answers : map answer_of states ≡ 16838 ∷ 5758 ∷ 10113 ∷ 17515 ∷ []
first_answers = refl

-- the block and the input of each sink of nine nets on three by three, one of them gone round from
-- the last block
nine_sinks : map (λ (sink : Sink). sink.block ∷ sink.pin ∷ []) (sinks_of 86 3 9) ≡ (0 ∷ 0 ∷ [])
    ∷ (3 ∷ 0 ∷ []) ∷ (2 ∷ 0 ∷ []) ∷ (8 ∷ 0 ∷ []) ∷ (8 ∷ 1 ∷ []) ∷ (8 ∷ 2 ∷ []) ∷ (6 ∷ 0 ∷ [])
    ∷ (8 ∷ 3 ∷ []) ∷ (0 ∷ 1 ∷ []) ∷ []
nine_sinks = refl

-- down a column and to the left
down_and_left : map (λ (e : Elem). e.x ∷ e.y ∷ [])
    (trace (record { column = 3; row = 3 }) (record { column = 2; row = 1 }) 0) ≡ (3 ∷ 3 ∷ [])
    ∷ (3 ∷ 3 ∷ []) ∷ (3 ∷ 2 ∷ []) ∷ (2 ∷ 2 ∷ []) ∷ (2 ∷ 2 ∷ []) ∷ (2 ∷ 1 ∷ []) ∷ (2 ∷ 0 ∷ [])
    ∷ (2 ∷ 1 ∷ []) ∷ (2 ∷ 1 ∷ []) ∷ []
down_and_left = refl

-- two nets have five slots, three steps and one pair, and their route fits by itself
two_nets : length (slots (route_to 2 (sinks_of 1 2 2)))
    ∷ length (steps (route_to 2 (sinks_of 1 2 2)))
    ∷ length (pairs (slots (route_to 2 (sinks_of 1 2 2)))) ∷ [] ≡ 5 ∷ 3 ∷ 1 ∷ []
two_nets = refl

two_nets_fit : IsFaultless (fit_faults (route_to 2 (sinks_of 1 2 2)))
two_nets_fit = refl
