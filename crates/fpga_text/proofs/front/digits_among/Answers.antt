use Rattle.std.proofs.Common.{◌+◌, ◌*◌, refl, sym, ap, ◌∙◌, arith}
use Rattle.std.specs.Char.{digit_value, is_ascii_digit}
use Rattle.std.proofs.lemmas.List.{get_or-take}
use Rattle.fpga_text.specs.Bytes.{Bytes}
use Rattle.fpga_text.specs.Words.{words}
use Rattle.fpga_text.proofs.FrontLemmas.{IsDigits, digits_stop, digits_whole, few_digits, front_behind, front_ended, front_size, looked_at, more_small, rest_all}
use Rattle.fpga_text.proofs.NumberLemmas.{digits-more, list_all-more}
use Rattle.fpga_text.proofs.front.digits_among.Goals as goal
use Rattle.fpga_text.proofs.front.digits_among.Goals.{After-from_first_word, Else-looked_at-text}

-- a space ends the digits
stopped : (c : After-from_first_word) → IsDigits c.args.text.now c.loop-i.i c.loop-i.size
stopped c =
    digits_stop c.args.text.now c.args.looked_at c.loop-i.i c.loop-i.size c.requires.within
    c.requires.few c.loop-i-test.true c.loop-i.invariant.digits c.loop-i.invariant.size
    c.loop-i.invariant.small c.if-i-eq0.false c.if-byte-ne32.false

pub returns-in_default-clause-size : goal.returns-in_default-clause-size
returns-in_default-clause-size c =
    front_size c.args.text.now c.loop-i.i c.loop-i.size
    (stopped (goal.at.returns-in_default-clause-size c).After-from_first_word)

pub returns-in_default-clause-small : goal.returns-in_default-clause-small
returns-in_default-clause-small c =
    (stopped (goal.at.returns-in_default-clause-small c).After-from_first_word).small

pub returns-in_default-clause-behind : goal.returns-in_default-clause-behind
returns-in_default-clause-behind c =
    front_behind c.args.text.now c.from_first_word.result.now c.loop-i.i c.loop-i.size
    (stopped (goal.at.returns-in_default-clause-behind c).After-from_first_word)
    (c.from_first_word.ensures.words
    ∙ ap (λ (t : Bytes). words t) (rest_all c.args.text.now (c.loop-i.i + 1)))

pub overflow_mul-size : goal.overflow_mul-size
overflow_mul-size c =
    let at = looked_at c.args.text.now c.args.looked_at c.loop-i.i c.requires.within c.requires.few
    c.loop-i-test.true in
    let few =
    few_digits c.loop-i.i 17 c.loop-i.size (omega (arith, at.few)) c.loop-i.invariant.small in
    omega (arith, few)

pub overflow_add-size : goal.overflow_add-size
overflow_add-size c =
    let at = looked_at c.args.text.now c.args.looked_at c.loop-i.i c.requires.within c.requires.few
    c.loop-i-test.true in
    let few =
    few_digits c.loop-i.i 17 c.loop-i.size (omega (arith, at.few)) c.loop-i.invariant.small in
    omega (arith, few, c.in-Some.ensures.small)

-- one more digit
pub loop-i-preserved : goal.loop-i-preserved
loop-i-preserved c =
    let at = looked_at c.args.text.now c.args.looked_at c.loop-i.i c.requires.within c.requires.few
    c.loop-i-test.true in
    let same = get_or-take c.args.looked_at c.args.text.now c.loop-i.i 0 at.seen in
    record {
      digits = list_all-more c.args.text.now c.loop-i.i at.inside c.loop-i.invariant.digits
          (ap is_ascii_digit (sym same) ∙ c.in-Some.ensures.digit);
      size = digits-more c.args.text.now c.loop-i.i c.loop-i.size c.in-Some.digit
          (c.loop-i.size * 10 + c.in-Some.digit) at.inside c.loop-i.invariant.size
          (c.in-Some.ensures.value ∙ ap digit_value same) refl;
      small = more_small c.loop-i.i c.loop-i.size c.in-Some.digit c.loop-i.invariant.small
          c.in-Some.ensures.small;
    }

-- the text ends with the digits
whole : (c : Else-looked_at-text) → IsDigits c.args.text.now c.loop-i.i c.loop-i.size
whole c =
    digits_whole c.args.text.now c.args.looked_at c.loop-i.i c.loop-i.size c.requires.within
    c.loop-i.auto.i-end c.loop-i-test.false c.if-looked_at-gt-MOST_DIGITS.false
    c.if-looked_at-text.false c.loop-i.invariant.digits c.loop-i.invariant.size
    c.loop-i.invariant.small c.if-is_empty.ensures

pub returns-clause-size : goal.returns-clause-size
returns-clause-size c =
    front_size c.args.text.now c.loop-i.i c.loop-i.size
    (whole (goal.at.returns-clause-size c).Else-looked_at-text)

pub returns-clause-small : goal.returns-clause-small
returns-clause-small c =
    (whole (goal.at.returns-clause-small c).Else-looked_at-text).small

pub returns-clause-behind : goal.returns-clause-behind
returns-clause-behind c =
    front_ended c.args.text.now c.args.looked_at c.loop-i.i c.loop-i.size
    (whole (goal.at.returns-clause-behind c).Else-looked_at-text) c.requires.within
    c.loop-i-test.false c.if-looked_at-text.false
