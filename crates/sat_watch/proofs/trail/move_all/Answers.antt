use Rattle.std.proofs.Common.{◌≡◌, ◌++◌, ◌<◌, length, drop, get_or, map, set, take, ap, ◌∙◌, arith}
use Rattle.std.proofs.lemmas.List.{append-nil}
use Rattle.std.proofs.lemmas.List.Edits.{map_over_more}
use Rattle.std.proofs.Math.Seq.{take-length, drop-length}
use Rattle.sat_arena.specs.Compact.{moved_by}
use Rattle.sat_watch.specs.Delete.{entry_moved}
use Rattle.sat_watch.proofs.StoredLemmas.{default_free}
use Rattle.sat_watch.proofs.trail.move_all.Goals as goal

pub loop-entry-preserved : goal.loop-entry-preserved
loop-entry-preserved c =
    let l = c.loop-entry in let xs = c.args.entries.now in
    let f = entry_moved (moved_by c.args.moves.now) in
    let x = get_or l.entries l.entry-index c.entry-item.result in
    let lt : l.entry-index < length l.entries =
    omega (arith, l.auto.entries, c.loop-entry-test.true) in
    ap (set l.entries l.entry-index) c.moved.ensures ∙
    map_over_more f xs l.entries l.entry-index x c.loop-entry-test.true l.invariant
    (default_free l.entries l.entry-index c.entry-item.result x lt)

pub returns : goal.returns
returns c =
    let xs = c.args.entries.now in let f = entry_moved (moved_by c.args.moves.now) in
    let end : c.loop-entry.entry-index ≡ length xs = omega arith in
    c.loop-entry.invariant ∙
    ((λ i. map f (take (end i) xs) ++ drop (end i) xs) ∙
    ((λ i. map f (take-length xs i) ++ drop-length xs i) ∙ append-nil (map f xs)))
