-- What is said of the first word that ends the walk.
use Rattle.std.proofs.Common.{◌≡◌, ℕ, List, ◌∷◌, Bool, Option, IfOk, refl, ap, ◌∙◌, sym, drop, get_or, length, ◌+◌, ◌<◌}
use Rattle.std.specs.Prelude.{Result, String, string_bytes}
use Rattle.std.specs.declared.alloc.AllocError.{AllocError}
use Rattle.std.specs.Global.{Global}
use Rattle.std.proofs.lemmas.List.{at_drop_more}
use Rattle.usage_words.specs.Turn.{turn_of}
use Rattle.usage_words.specs.Word.{Word, words_of}
use Rattle.usage_words.specs.Wrong.{IsTold, said_at, stop_said, wrong_said}
use Rattle.usage_words.specs.declared.command.Command.{Command}
use Rattle.usage_words.specs.declared.turn.Standing.{Standing}
use Rattle.usage_words.specs.declared.turn.Turn.{Turn}
use Rattle.usage_words.specs.declared.turn.Turn.TheVariants.{Goes, NoOption, NoValue, Open, OutOfRange, TooMany}

said-at : (name : Command) (word : Word) (stop : Turn) (on : Standing → Option (List ℕ)) →
    ((next : Standing) → stop ≡ Goes next → ⊥) → said_at name word stop on ≡ stop_said name word stop
said-at name word (Goes next) on not = absurd (not next refl)
said-at name word NoOption on not = refl
said-at name word (NoValue option) on not = refl
said-at name word TooMany on not = refl
said-at name word (OutOfRange of) on not = refl
said-at name word Open on not = refl

pub stop-said : (name : Command) (standing : Standing) (words : List (String Global)) (i : ℕ)
    (word : String Global) (stop : Turn) → i < length words → word ≡ get_or words i word →
    stop ≡ turn_of name standing (string_bytes word) →
    ((next : Standing) → stop ≡ Goes next → ⊥) →
    wrong_said name standing (words_of (drop i words)) ≡ stop_said name (string_bytes word) stop
stop-said name standing words i word stop within is turned not =
    at_drop_more (λ ahead. wrong_said name standing (words_of ahead)) words i word within
    ∙ (ap (λ (w : String Global).
    wrong_said name standing (words_of (w ∷ drop (i + 1) words))) (sym is)
    ∙ (ap (λ (t : Turn). said_at name (string_bytes word) t
    (λ next. wrong_said name next (words_of (drop (i + 1) words)))) (sym turned)
    ∙ said-at name (string_bytes word) stop _ not))

-- what is told of one text is told of an equal one
pub told-as : (result : Result Bool AllocError) (a b : Option (List ℕ)) (old before new : List ℕ) →
    a ≡ b → old ≡ before → IfOk result (λ told. IsTold b before new told) →
    IfOk result (λ told. IsTold a old new told)
told-as result a b old before new same said told = rw (same, said) told
