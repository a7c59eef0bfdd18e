-- What was appended of a stop is what is to be said of it.
use Rattle.std.proofs.Common.{◌≡◌, ℕ, List, ◌++◌, Option, ap, ap₂, ◌∙◌}
use Rattle.std.specs.Prelude.{codes}
use Rattle.fpga_text.specs.Bytes.{Bytes}
use Rattle.route_picture.specs.Said.{IsSaid, Means, about_said, file_about}
use Rattle.route_picture.specs.declared.given_file.GivenFile.{GivenFile}
use Rattle.route_picture.specs.declared.stop.Stop.{Stop}

pub said-whole : (words : List Bytes) (stop : Stop) (about : Option GivenFile)
    (meaning text old a b new : List ℕ) → about ≡ file_about stop → text ≡ meaning →
    Means stop meaning → a ≡ old ++ about_said words about → b ≡ a ++ text →
    new ≡ b ++ codes "\n" → IsSaid words stop old new
said-whole words stop about meaning text old a b new is_about is_text means e1 e2 e3 = record {
  meaning = meaning;
  means = means;
  text = e3 ∙ ap (λ (t : List ℕ). t ++ codes "\n")
      (e2 ∙ ap₂ (λ (s t : List ℕ). s ++ t)
      (e1 ∙ ap (λ (file : Option GivenFile). old ++ about_said words file) is_about) is_text);
}
