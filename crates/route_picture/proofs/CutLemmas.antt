-- The words of a line that says a cut, taken one after another.
use Rattle.std.proofs.Common.{◌≡◌, [], ◌∷◌, Some, true, refl, ap, ap₂, ◌∙◌}
use Rattle.std.specs.Prelude.{codes, drop, slice_get}
use Rattle.fpga_text.specs.Bytes.{Bytes}
use Rattle.fpga_text.specs.Said.{begins}
use Rattle.fpga_text.specs.Words.{TextLine, Words}
use Rattle.fpga_types.specs.declared.grid.SwitchAt.{SwitchAt}
use Rattle.route_picture.specs.Cut.{corner_said, cut_between, cut_in}

-- the second word of a line is the first behind its first, and the third the first behind that
second-word : (words : Words) → slice_get (drop 1 words) 0 ≡ slice_get words 1
second-word [] = refl
second-word (a ∷ []) = refl
second-word (a ∷ b ∷ words) = refl

third-word : (words : Words) → slice_get (drop 1 (drop 1 words)) 0 ≡ slice_get words 2
third-word [] = refl
third-word (a ∷ []) = refl
third-word (a ∷ b ∷ []) = refl
third-word (a ∷ b ∷ c ∷ words) = refl

-- a line says a cut by its first word and the two behind it
pub line-says : (line one two three : TextLine) (low high : SwitchAt) (raw : Bytes)
    → begins (codes "cut") line.words ≡ true → one ≡ record line { words = drop 1 line.words }
    → Some low ≡ corner_said (slice_get one.words 0) → two ≡ record one { words = drop 1 one.words }
    → Some high ≡ corner_said (slice_get two.words 0)
    → three ≡ record two { words = drop 1 two.words } → raw ≡ three.raw
    → Some (record { range = record { low = low; high = high }; line = raw }) ≡ cut_in line
line-says line one two three low high raw starts e1 is_low e2 is_high e3 is_raw =
    let same : raw ≡ line.raw = is_raw ∙ ap (λ (l : TextLine). l.raw) e3
    ∙ ap (λ (l : TextLine). l.raw) e2 ∙ ap (λ (l : TextLine). l.raw) e1 in
    let behind : two.words ≡ drop 1 (drop 1 line.words) = ap (λ (l : TextLine). l.words) e2
    ∙ ap (λ (l : TextLine). drop 1 l.words) e1 in
    let second : Some low ≡ corner_said (slice_get line.words 1) = is_low
    ∙ ap (λ (l : TextLine). corner_said (slice_get l.words 0)) e1
    ∙ ap corner_said (second-word line.words) in
    let third : Some high ≡ corner_said (slice_get line.words 2) = is_high
    ∙ ap (λ (ws : Words). corner_said (slice_get ws 0)) behind
    ∙ ap corner_said (third-word line.words) in
    ap (λ (r : Bytes). cut_between r (Some low) (Some high)) same
    ∙ ap₂ (cut_between line.raw) second third ∙ chosen starts
  where
    chosen : begins (codes "cut") line.words ≡ true
        → cut_between line.raw (corner_said (slice_get line.words 1))
        (corner_said (slice_get line.words 2)) ≡ cut_in line
    chosen e = rw e refl
