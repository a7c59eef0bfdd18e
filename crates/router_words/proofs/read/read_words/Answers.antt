use Rattle.std.proofs.Common.{◌≡◌, ◌≤◌, ◌-◌, List, [], ◌∷◌, length, get_or, take, drop, ap, ap₂, arith, string_bytes, subst, sym, ◌∙◌, String}
use Rattle.std.specs.Global.{Global}
use Rattle.std.proofs.lemmas.Result.{IfOk-weaker}
use Rattle.std.proofs.lemmas.Grind.{common_steps}
use Rattle.router_words.specs.Command.{Answers, AreThere, job_of}
use Rattle.router_words.specs.Word.{Word, words_of}
use Rattle.router_words.proofs.read.read_words.Goals as goal

-- the first word and the others
parted : (words : List (String Global)) (first : String Global) (word : Word) → 1 ≤ length words
    → first ≡ get_or words 0 first
    → word ≡ string_bytes first
    → words_of words ≡ word ∷ words_of (take (length words - 1) (drop 1 words))
parted [] first word some is bytes = absurd (omega arith)
parted (x ∷ xs) first word some is bytes =
    let others : take (length (x ∷ xs) - 1) (drop 1 (x ∷ xs)) ≡ xs = grind (arith, common_steps) in
    ap₂ (λ (y : Word) (ys : List (String Global)). y ∷ words_of ys)
    (sym (bytes ∙ ap string_bytes is)) (sym others)

pub returns : goal.returns
returns c =
    let words = parted c.args.words.now c.name-item.result c.as_str.result.now
    c.in-len1-up.len_at_least c.name-item.is c.as_str.ensures.value in
    record {
      answers = subst (λ (ws : List Word). Answers (job_of ws) c.read_command.result) (sym words)
          c.read_command.ensures.answers;
      there = IfOk-weaker c.read_command.result _ _
          (λ job there. subst AreThere (sym words) there) c.read_command.ensures.there;
    }
