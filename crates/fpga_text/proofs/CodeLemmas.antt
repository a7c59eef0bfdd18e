-- The faults of a text by its codes, for readers that go from line to line.
use Rattle.std.proofs.Common.{◌≡◌, ℕ, List, [], ◌∷◌, ◌++◌, refl, ap, ◌∙◌}
use Rattle.fpga_text.specs.FirstFault.{Faults}
use Rattle.fpga_text.specs.Codes.{Codes, line_fault, faults_behind, faults_from}

-- a reader may go by contexts alone, where each makes the next
pub faults_behind-from : {C L : Type 0} (next : C → L → C) (codes : Codes C L)
    → ((before : List L) (line : L) → codes.context (before ++ line ∷ [])
    ≡ next (codes.context before) line)
    → (before : List L) (lines : List (ℕ × L)) (end : ℕ) → faults_behind codes before lines end
    ≡ faults_from next codes (codes.context before) lines end
faults_behind-from next codes step before [] end = refl
faults_behind-from next codes step before (line ∷ more) end =
    ap (λ (rest : Faults). line_fault codes (codes.context before) line.0 line.1 ∷ rest)
    (faults_behind-from next codes step (before ++ line.1 ∷ []) more end
    ∙ ap (λ context. faults_from next codes context more end) (step before line.1))
