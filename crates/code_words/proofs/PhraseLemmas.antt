-- A code of no other kind is one of a size.
use Rattle.std.proofs.Common.{◌≡◌, ◌≢◌, ℕ, false, refl}
use Rattle.std.specs.Prelude.{◌==◌, ◌/◌}
use Rattle.std.proofs.lemmas.Bool.{ne_eqb}
use Rattle.code_words.specs.Causes.{cause_phrase, size_phrase}

pub size-phrase : (code : ℕ) → code / 100 ≢ 1 → code / 100 ≢ 2 → code / 100 ≢ 3 →
    code / 100 ≢ 4 → code / 100 ≢ 5 → code / 100 ≢ 6 → code / 100 ≢ 7 → code / 100 ≢ 8 →
    code / 100 ≢ 10 →
    size_phrase code ≡ cause_phrase code
size-phrase code e1 e2 e3 e4 e5 e6 e7 e8 e10 =
    let f1 : (code / 100 == 1) ≡ false = ne_eqb (code / 100) 1 e1 in
    let f2 : (code / 100 == 2) ≡ false = ne_eqb (code / 100) 2 e2 in
    let f3 : (code / 100 == 3) ≡ false = ne_eqb (code / 100) 3 e3 in
    let f4 : (code / 100 == 4) ≡ false = ne_eqb (code / 100) 4 e4 in
    let f5 : (code / 100 == 5) ≡ false = ne_eqb (code / 100) 5 e5 in
    let f6 : (code / 100 == 6) ≡ false = ne_eqb (code / 100) 6 e6 in
    let f7 : (code / 100 == 7) ≡ false = ne_eqb (code / 100) 7 e7 in
    let f8 : (code / 100 == 8) ≡ false = ne_eqb (code / 100) 8 e8 in
    let f10 : (code / 100 == 10) ≡ false = ne_eqb (code / 100) 10 e10 in
    rw (f1, f2, f3, f4, f5, f6, f7, f8, f10) refl
