-- What stands before a reader of lines and after it has taken one: for the callers of `next_line`.
use Rattle.std.proofs.Common.{◌≡◌, ℕ, List, [], ◌∷◌, slice_get, Some, None, refl, sym, ap, ◌∙◌}
use Rattle.fpga_text.specs.Words.{TextLine}
use Rattle.fpga_text.specs.Reading.{LinesAhead, past_first, after_line}

-- this line was the first ahead, and is so no more
pub record IsTaken (old new : LinesAhead) (line : TextLine) : Type 0 where
  pub ahead : old.ahead ≡ line ∷ new.ahead
  pub taken : new.taken ≡ line.last
  pub total : new.total ≡ old.total

first_taken : (ahead : List TextLine) (total : ℕ) (line : TextLine) → Some line ≡ slice_get ahead 0
    → (ahead ≡ line ∷ (past_first ahead total).ahead) × ((past_first ahead total).taken ≡ line.last)
    × ((past_first ahead total).total ≡ total)
first_taken [] total line said = absurd (let clash : Some line ≡ None = said in cc)
first_taken (first ∷ more) total line said =
    let same : line ≡ first = cc in
    (ap (λ (l : TextLine). l ∷ more) (sym same), ap (λ (l : TextLine). l.last) (sym same), refl)

-- `next_line` gave a line
pub next_line-taken : (old new : LinesAhead) (line : TextLine) → Some line ≡ slice_get old.ahead 0
    → new ≡ after_line old → IsTaken old new line
next_line-taken old new line said after =
    let facts = first_taken old.ahead old.total line said in
    record {
      ahead = facts.0 ∙ ap (λ (r : LinesAhead). line ∷ r.ahead) (sym after);
      taken = ap (λ (r : LinesAhead). r.taken) after ∙ facts.1;
      total = ap (λ (r : LinesAhead). r.total) after ∙ facts.2;
    }

-- no line was ahead, and all were taken
pub record IsPast (old new : LinesAhead) : Type 0 where
  pub ahead : old.ahead ≡ []
  pub rest : new.ahead ≡ []
  pub taken : new.taken ≡ old.total
  pub total : new.total ≡ old.total

none_ahead : (ahead : List TextLine) → None ≡ slice_get ahead 0 → ahead ≡ []
none_ahead [] said = refl
none_ahead (first ∷ more) said = absurd (let clash : None ≡ Some first = said in cc)

-- `next_line` gave none
pub next_line-past : (old new : LinesAhead) → None ≡ slice_get old.ahead 0 → new ≡ after_line old
    → IsPast old new
next_line-past old new said after =
    let none : old.ahead ≡ [] = none_ahead old.ahead said in
    let is : new ≡ past_first [] old.total = after ∙ ap (λ ls. past_first ls old.total) none in
    record {
      ahead = none;
      rest = ap (λ (r : LinesAhead). r.ahead) is;
      taken = ap (λ (r : LinesAhead). r.taken) is;
      total = ap (λ (r : LinesAhead). r.total) is;
    }
