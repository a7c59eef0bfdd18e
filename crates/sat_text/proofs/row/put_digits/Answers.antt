use Rattle.std.proofs.Common.{rules, arith, ◌∙◌, ◌≤◌, ◌<◌, ◌^◌, ◌/◌, ◌++◌, ℕ, List, length, drop, decimal, ap, sym, append_assoc}
use Rattle.std.proofs.lemmas.Fmt.{length-decimal-le}
use Rattle.sat_text.specs.Triples.{last_three}
use Rattle.sat_text.proofs.DigitLemmas.{decimal-three}
use Rattle.sat_text.proofs.row.put_digits.Goals as goal

pub write_digits-requires : goal.write_digits-requires
write_digits-requires c = search (rules, length-decimal-le 20)

pub write_digits-requires-2 : goal.write_digits-requires-2
write_digits-requires-2 c = search (rules, length-decimal-le 17)

pub returns-then-number-lt1000-clause-near : goal.returns-then-number-lt1000-clause-near
returns-then-number-lt1000-clause-near c =
    let few : length (decimal c.args.number) ≤ 20 = search (rules, length-decimal-le 20) in
    omega (arith, few, c.write_digits.ensures.start)

pub returns-clause-near : goal.returns-clause-near
returns-clause-near c =
    let few : length (decimal (c.args.number / 1000)) ≤ 17 = search (rules, length-decimal-le 17) in
    omega (arith, few, c.write_digits-2.ensures.start, c.put_three-end.ensures.before)

pub returns-clause-put : goal.returns-clause-put
returns-clause-put c =
    let n : ℕ = c.args.number in
    let rest : List ℕ = drop c.args.end c.args.room.now in
    let most : 1000 ≤ n = omega (arith, c.if-number-lt1000.false) in
    let fits : n < 2 ^ 64 = search rules in
    c.write_digits-2.ensures.written
    ∙ ap (λ (b : List ℕ). decimal (n / 1000) ++ b) (c.put_three-end.ensures.put
    ∙ ap (λ (b : List ℕ). b ++ rest) c.last_three.ensures)
    ∙ sym (append_assoc (decimal (n / 1000)) (last_three n) rest)
    ∙ ap (λ (d : List ℕ). d ++ rest) (sym (decimal-three n most fits))
