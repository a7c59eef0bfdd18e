use Rattle.std.proofs.Common.{◌≡◌, ◌≢◌, ◌+◌, length, Some, sym, ap, ◌∙◌, arith}
use Rattle.sat_arena.specs.Store.{ref, size_all, size_of, stored_at}
use Rattle.sat_arena.proofs.BehindLemmas.{follows}
use Rattle.sat_arena.proofs.LayoutLemmas.{head_length}
use Rattle.sat_arena.proofs.ReadLemmas.{lies}
use Rattle.sat_arena.proofs.WriteLemmas.{length_written_all}
use Rattle.sat_arena.proofs.arena.Arena.behind.Goals as goal

pub word-requires : goal.word-requires
word-requires c =
    let there = lies c.block-block.ensures.clauses c.requires.held in let inside = there.inside in
    omega arith

pub overflow_add-next-2 : goal.overflow_add-next-2
overflow_add-next-2 c =
    let k = stored_at c.args.self.now.clauses c.args.c in
    let there = lies c.block-block.ensures.clauses c.requires.held in let inside = there.inside in
    let small = c.block-block.ensures.small in
    let long : c.length_by.result ≡ length k.lits =
    c.length_by.ensures ∙ rw (c.word.ensures ∙ there.first) (head_length (length k.lits) k.mark) in
    record { fits = omega arith }

pub returns-then-next-len : goal.returns-then-next-len
returns-then-next-len c =
    let ks = c.args.self.now.clauses in let k = stored_at ks c.args.c in
    let known = c.block-block.ensures.clauses in let there = lies known c.requires.held in
    let long : c.length_by.result ≡ length k.lits =
    c.length_by.ensures ∙ rw (c.word.ensures ∙ there.first) (head_length (length k.lits) k.mark) in
    let whole = ap length known.written in let size = length_written_all ks in
    let last : c.args.c.word + size_of k ≡ 0 + size_all ks =
    omega (arith, c.if-next-len.true, c.len.ensures.value, long, whole, size) in
    sym ((follows 0 ks c.args.c known.placed c.requires.held).last last)

pub returns : goal.returns
returns c =
    let ks = c.args.self.now.clauses in let k = stored_at ks c.args.c in
    let known = c.block-block.ensures.clauses in let there = lies known c.requires.held in
    let long : c.length_by.result ≡ length k.lits =
    c.length_by.ensures ∙ rw (c.word.ensures ∙ there.first) (head_length (length k.lits) k.mark) in
    let whole = ap length known.written in let size = length_written_all ks in
    let other : c.args.c.word + size_of k ≢ 0 + size_all ks =
    λ same. c.if-next-len.false
    (omega (arith, same, c.len.ensures.value, long, whole, size)) in
    let word : c.args.c.word + size_of k ≡ c.args.c.word + c.length_by.result + 6 =
    omega (arith, long) in
    sym ((follows 0 ks c.args.c known.placed c.requires.held).next other
    ∙ (λ i. Some (ref (word i))))
