use Rattle.std.proofs.Common.{arith, map, refl, rules, string_bytes}
use Rattle.route_picture.proofs.WordLemmas.{asked-eight, eight-words, none-asked}
use Rattle.route_picture.proofs.words.read_words.Goals.{else-words-lt6-2+else-words-lt7, in_default-words-2-via-else-words-lt8+else-words-lt9, in_default-words-2-via-then-words-lt8, then-words-lt6-2}
use Rattle.route_picture.proofs.words.read_words.Goals as goal

pub returns-in_default-words-2-clause-asked : goal.returns-in_default-words-2-clause-asked
returns-in_default-words-2-clause-asked c = (
  none-asked c.args.words.now (search rules)
      (elim c.if-words-lt6-2.branch [
        | then-words-lt6-2 w ↦ search rules
        | else-words-lt6-2+else-words-lt7 w ↦ search rules
      ])
      (elim c.in_default-words-2.branch [
        | in_default-words-2-via-then-words-lt8 w ↦ search rules
        | in_default-words-2-via-else-words-lt8+else-words-lt9 w ↦ search rules
      ]),
  refl,
)

pub returns-clause-asked : goal.returns-clause-asked
returns-clause-asked c =
    let least = c.in-len8.len_at_least in
    let below = c.in-len8.len_below in
    let files = c.four_names-files-2.ensures in
    let words = eight-words c.args.words.now _ _ _ _ _ _ _ _ (omega arith) (omega arith)
    (c.arch-item-then-words-lt9.result, c.arch-item-then-words-lt9.is, files.arch)
    (c.net-item-then-words-lt9.result, c.net-item-then-words-lt9.is, files.net)
    (c.place-item-then-words-lt9.result, c.place-item-then-words-lt9.is, files.place)
    (c.route-item-then-words-lt9.result, c.route-item-then-words-lt9.is, files.route)
    (c.word-item-then-words-lt9.result, c.word-item-then-words-lt9.is, c.as_str-5.ensures.value)
    (c.file-item.result, c.file-item.is, c.as_str-2.ensures.value)
    (c.option-item.result, c.option-item.is, c.as_str-3.ensures.value)
    (c.reach-item.result, c.reach-item.is, c.as_str-4.ensures.value) in
    asked-eight (map string_bytes c.args.words.now) c.four_names-files-2.result
    c.as_str-5.result.now c.as_str-2.result.now c.as_str-3.result.now c.as_str-4.result.now _
    c.at_width-2.result words c.in-Some.ensures c.at_width-2.ensures.asked
