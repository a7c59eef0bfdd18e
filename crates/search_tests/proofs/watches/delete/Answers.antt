use Rattle.std.proofs.Common.{◌≡◌, [], ◌∷◌, true, arith}
use Rattle.std.proofs.lemmas.List.Elements.{All-cons, All-nil}
use Rattle.sat_arena.specs.declared.clause_ref.ClauseRef.{ClauseRef}
use Rattle.sat_watch.specs.Delete.{IsNoReason}
use Rattle.sat_watch.specs.Watches.{is_attached}
use Rattle.search_tests.proofs.WatchLemmas.{deletes_at_start}
use Rattle.search_tests.proofs.watches.delete.Goals as goal

pub delete-requires : goal.delete-requires
delete-requires c =
    let s = c.args.watches.now in let r = c.args.c in let start = c.requires.start in
    let P = λ (x : ClauseRef). is_attached s.clauses x ≡ true in
    let Q = λ (x : ClauseRef). IsNoReason s.trail x in
    let free : IsNoReason s.trail r = rw start.trail (λ k d lt. absurd (omega arith)) in
    record {
      level = start.level;
      empty = start.queued;
      quiet = start.pending;
      attached =
          All-cons P r (r ∷ []) c.requires.attached
          (All-cons P r [] c.requires.attached (All-nil P));
      no_reason = All-cons Q r (r ∷ []) free (All-cons Q r [] free (All-nil Q));
    }

pub returns : goal.returns
returns c =
    deletes_at_start c.args.vars c.args.watches.now c.delete.new.self (c.args.c ∷ c.args.c ∷ [])
    c.delete.result c.requires.start c.delete.ensures.ok c.delete.ensures.err
