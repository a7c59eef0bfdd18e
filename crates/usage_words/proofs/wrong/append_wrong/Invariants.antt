-- what is to be said is to be said of the words ahead, and nothing was said of those before
use Rattle.std.proofs.Common.{◌≡◌, drop}
use Rattle.usage_words.specs.Word.{words_of}
use Rattle.usage_words.specs.Wrong.{begun, wrong_said}
use Rattle.usage_words.proofs.wrong.append_wrong.Given as goal

abbrev pub invariant-loop-word : goal.invariant-loop-word
invariant-loop-word l = record {
  ahead : wrong_said l.command begun (words_of l.words)
      ≡ wrong_said l.command l.standing (words_of (drop l.word-index l.words));
  same : l.out ≡ l.initial.out;
}
