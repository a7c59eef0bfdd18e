use Rattle.std.proofs.Common.{◌≡◌, length, ◌∙◌, arith}
use Rattle.sat_arena.specs.Store.{stored_at}
use Rattle.sat_arena.proofs.LayoutLemmas.{head_length, head_mark}
use Rattle.sat_arena.proofs.ReadLemmas.{lies, storable_at}
use Rattle.sat_arena.proofs.arena.Arena.unmarked_lits.Goals as goal

pub overflow_add-at : goal.overflow_add-at
overflow_add-at c =
    let there = lies c.block-block.ensures.clauses c.requires.held in let inside = there.inside in
    let small = c.block-block.ensures.small in record { fits = omega arith }

pub word-requires : goal.word-requires
word-requires c =
    let there = lies c.block-block.ensures.clauses c.requires.held in let inside = there.inside in
    omega arith

pub unmarked_length-requires : goal.unmarked_length-requires
unmarked_length-requires c =
    let k = stored_at c.args.self.now.clauses c.args.c in
    let there = lies c.block-block.ensures.clauses c.requires.held in
    rw (c.word.ensures ∙ there.first) (head_mark (length k.lits) k.mark ∙ c.requires.unmarked)

pub run-requires : goal.run-requires
run-requires c =
    let k = stored_at c.args.self.now.clauses c.args.c in
    let there = lies c.block-block.ensures.clauses c.requires.held in let inside = there.inside in
    let long : c.unmarked_length.result ≡ length k.lits =
    c.unmarked_length.ensures ∙ rw (c.word.ensures ∙ there.first)
    (head_length (length k.lits) k.mark) in
    omega arith

pub returns-clause-value : goal.returns-clause-value
returns-clause-value c =
    let k = stored_at c.args.self.now.clauses c.args.c in
    let there = lies c.block-block.ensures.clauses c.requires.held in
    let long : c.unmarked_length.result ≡ length k.lits =
    c.unmarked_length.ensures ∙ rw (c.word.ensures ∙ there.first)
    (head_length (length k.lits) k.mark) in
    c.run.ensures ∙ rw long there.run

pub returns-clause-few : goal.returns-clause-few
returns-clause-few c =
    let k = stored_at c.args.self.now.clauses c.args.c in
    let known = c.block-block.ensures.clauses in
    let there = lies known c.requires.held in
    let long : c.unmarked_length.result ≡ length k.lits =
    c.unmarked_length.ensures ∙ rw (c.word.ensures ∙ there.first)
    (head_length (length k.lits) k.mark) in
    let same : c.run.result.now ≡ k.lits = c.run.ensures ∙ rw long there.run in
    let fits = storable_at _ c.args.c known.storable c.requires.held in let few = fits.few in
    rw same (omega arith)

pub returns-clause-near : goal.returns-clause-near
returns-clause-near c =
    let there = lies c.block-block.ensures.clauses c.requires.held in let inside = there.inside in
    let small = c.block-block.ensures.small in omega arith
