use Rattle.std.proofs.Common.{sym, inl, subst}
use Rattle.sat_clause.specs.Learned.{IsSimple}
use Rattle.search_tests.proofs.WatchLemmas.{free_at_start, is_attached_now, stays_attached, still_at_start}
use Rattle.search_tests.proofs.watches.attach.Goals as goal

pub attach-requires : goal.attach-requires
attach-requires c =
    let a = c.args in let s = c.requires.start in
    record {
      simple = subst (λ n. IsSimple n a.lits.now) (sym s.vars) c.requires.simple;
      quiet = s.pending;
      may = inl (free_at_start a.vars a.watches.now.trail a.lits.now s.trail c.requires.simple
          c.requires.two);
    }

pub returns : goal.returns
returns c =
    let a = c.args in let s = c.requires.start in
    record {
      start = still_at_start a.vars a.watches.now c.attach.new.self a.lits.now a.id c.attach.result
          s
          (free_at_start a.vars a.watches.now.trail a.lits.now s.trail c.requires.simple
          c.requires.two)
          c.attach.ensures.ok c.attach.ensures.err;
      attached = is_attached_now a.watches.now c.attach.new.self a.lits.now a.id c.attach.result
          c.attach.ensures.ok;
      kept =
          stays_attached a.watches.now c.attach.new.self a.lits.now a.id c.attach.result
          c.attach.ensures.ok c.attach.ensures.err;
    }
