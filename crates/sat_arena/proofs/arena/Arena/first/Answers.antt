use Rattle.std.proofs.Common.{sym, ap, ◌∙◌}
use Rattle.sat_arena.specs.Store.{Store, first_ref}
use Rattle.sat_arena.proofs.BehindLemmas.{first_none, first_some}
use Rattle.sat_arena.proofs.arena.Arena.first.Goals as goal

pub returns-then-len-eq0 : goal.returns-then-len-eq0
returns-then-len-eq0 c =
    let words = c.self.inside.block.words in
    sym (sym (ap (λ (s : Store). first_ref s.clauses) c.self.view_is)
    ∙ first_none words (sym c.len.ensures.value ∙ c.if-len-eq0.true))

pub returns : goal.returns
returns c =
    let words = c.self.inside.block.words in
    sym (sym (ap (λ (s : Store). first_ref s.clauses) c.self.view_is)
    ∙ first_some words (λ none. c.if-len-eq0.false (c.len.ensures.value ∙ none)))
