use Rattle.std.proofs.Common.{◌≡◌, length, get_or, take, refl, sym, ap, ◌∙◌, arith}
use Rattle.std.proofs.lemmas.List.{take_more}
use Rattle.std.proofs.Math.Seq.{take-length}
use Rattle.sat_arena.specs.declared.clause_ref.ClauseRef.{ClauseRef}
use Rattle.sat_arena.specs.Store.{changed, ref, with_mark}
use Rattle.sat_watch.specs.Relinking.{marked}
use Rattle.sat_watch.proofs.RelinkLemmas.{marked_held, marked_more, marked_none}
use Rattle.sat_watch.proofs.links.mark_all.Goals as goal

pub mark-requires : goal.mark-requires
mark-requires c =
    let l = c.loop-c in let a = c.args in
    record {
      held =
          rw l.invariant.clauses
          (marked_held a.on (take l.c-index a.clauses.now) a.arena.now.clauses _ ∙ c.requires.held
          l.c-index (ref 0) c.loop-c-test.true);
    }

pub loop-c-init : goal.loop-c-init
loop-c-init c =
    record { clauses = sym (marked_none c.args.on c.args.arena.now.clauses); spare = refl }

pub loop-c-preserved : goal.loop-c-preserved
loop-c-preserved c =
    let l = c.loop-c in let a = c.args in let refs = a.clauses.now in
    let r : ClauseRef = get_or refs l.c-index (ref 0) in
    record {
      clauses =
          c.mark.ensures.clauses ∙ (ap (changed (with_mark a.on) r) l.invariant.clauses ∙
          (marked_more a.on (take l.c-index refs) r a.arena.now.clauses ∙
          ap (λ x. marked a.on x a.arena.now.clauses)
          (sym (take_more refs l.c-index (ref 0) c.loop-c-test.true))));
      spare = c.mark.ensures.spare ∙ l.invariant.spare;
    }

pub returns : goal.returns
returns c =
    let l = c.loop-c in let a = c.args in let refs = a.clauses.now in
    let end : l.c-index ≡ length refs = omega arith in
    record {
      clauses =
          l.invariant.clauses ∙ ap (λ x. marked a.on x a.arena.now.clauses)
          (ap (λ n. take n refs) end ∙ take-length refs);
      spare = l.invariant.spare;
    }
