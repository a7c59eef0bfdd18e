use Rattle.std.proofs.Common.{rules, ◌≡◌, ◌∙◌, ◌+◌, ◌≤◌, Some, ap, sym, arith, inr, length, take, drop, option_map, vec_len}
use Rattle.std.proofs.lemmas.List.{length-drop}
use Rattle.desk_io.specs.DeskState.{DeskState, after_read}
use Rattle.desk_io.proofs.ReadLemmas.{after_read-after_read, front_grows, length-front, left_of, whole_is_read}
use Rattle.desk_io.proofs.read.read_file.Goals as goal

pub returns-then-count-eq0-clause-bytes : goal.returns-then-count-eq0-clause-bytes
returns-then-count-eq0-clause-bytes g c = λ fs told.
    whole_is_read _ (g.D.Desk.state c.args.desk.now) c.args.name.now _ _ fs told
    (c.in-Ok.ensures.there fs told) c.loop-count.invariant.state c.loop-count.invariant.front
    (λ rest e. (c.in-Ok-read.ensures.bytes rest e).2 c.if-count-eq0.true)

pub loop-count-preserved : goal.loop-count-preserved
loop-count-preserved g c =
    let read = c.in-Ok-read.ensures in
    let kept : c.in-Ok-read.count ≤ length c.read.new.buf =
    omega (arith, read.bound, c.read.auto.buf) in
    let grown : vec_len c.extend_from_slice.new.self
    ≡ vec_len c.loop-count.bytes + c.in-Ok-read.count =
    c.in-Ok-extend_from_slice.ensures.len
    ∙ ap (λ n. vec_len c.loop-count.bytes + n)
    (length-front c.in-Ok-read.count c.read.new.buf
    (drop c.min-room.result c.loop-count.block) kept) in
    record {
      state = read.ok
          ∙ ap (λ (s : DeskState). after_read s c.in-Ok-read.count) c.loop-count.invariant.state
          ∙ after_read-after_read _ _ _ ∙ ap (after_read _) (sym grown);
      short = search rules;
      front = λ file e. c.in-Ok-extend_from_slice.ensures.items
          ∙ front_grows (vec_len c.loop-count.bytes) c.in-Ok-read.count file _ c.read.new.buf _
          (c.loop-count.invariant.front file e) kept
          (read.bytes _ (ap (λ (s : DeskState). s.left) c.loop-count.invariant.state
          ∙ ap (option_map (drop (vec_len c.loop-count.bytes))) e)).1
          ∙ ap (λ n. take n file) (sym grown);
    }

pub returns-in_default-extend_from_slice-clause-memory :
    goal.returns-in_default-extend_from_slice-clause-memory
returns-in_default-extend_from_slice-clause-memory g c = λ _ fs told file there. (
  vec_len c.loop-count.bytes + c.in-Ok-read.count,
  search rules,
  ap (λ (s : DeskState). s.left) (c.in-Ok-read.ensures.ok
      ∙ ap (λ (s : DeskState). after_read s c.in-Ok-read.count) c.loop-count.invariant.state
      ∙ after_read-after_read _ _ _)
      ∙ left_of (g.D.Desk.state c.args.desk.now) c.args.name.now _ fs file told there,
)

pub returns-in_default-read-clause-fault_on : goal.returns-in_default-read-clause-fault_on
returns-in_default-read-clause-fault_on g c = λ _ fs told.
    inr (c.in_default-read.ensures.err.fault_name
    ∙ ap (λ (s : DeskState). s.started) c.loop-count.invariant.state
    ∙ ap (option_map (λ _. c.args.name.now)) told)

pub returns-in_default-read-clause-fault_early : goal.returns-in_default-read-clause-fault_early
returns-in_default-read-clause-fault_early g c = λ _ started fs told file there. (
  vec_len c.loop-count.bytes,
  c.loop-count.invariant.short,
  c.in_default-read.ensures.err.left
      ∙ ap (λ (s : DeskState). s.left) c.loop-count.invariant.state
      ∙ left_of (g.D.Desk.state c.args.desk.now) c.args.name.now _ fs file told there,
)

pub returns-then-len-count-clause-too_long : goal.returns-then-len-count-clause-too_long
returns-then-len-count-clause-too_long g c = λ _ fs told file there.
    let read = c.in-Ok-read.ensures in
    let before = vec_len c.loop-count.bytes in
    let left = ap (λ (s : DeskState). s.left) c.loop-count.invariant.state
    ∙ left_of (g.D.Desk.state c.args.desk.now) c.args.name.now before fs file told there in
    let all : before + c.in-Ok-read.count ≡ c.args.limit + 1 = search rules in (
      omega (arith, all, (read.bytes _ left).0, length-drop before file),
      ap (λ (s : DeskState). s.left) (read.ok
          ∙ ap (λ (s : DeskState). after_read s c.in-Ok-read.count) c.loop-count.invariant.state
          ∙ after_read-after_read _ _ _)
          ∙ left_of (g.D.Desk.state c.args.desk.now) c.args.name.now _ fs file told there
          ∙ ap (λ n. Some (drop n file)) all,
    )
