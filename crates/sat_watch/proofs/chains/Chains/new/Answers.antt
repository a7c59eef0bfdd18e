use Rattle.std.proofs.Common.{◌+◌, ◌*◌, ◌∙◌, ap, replicate, rules}
use Rattle.sat_watch.proofs.ChainLemmas.{empty_chained}
use Rattle.sat_watch.proofs.TailLemmas.{no_tails}
use Rattle.sat_watch.proofs.chains.Chains.new.Goals as goal

pub invariant_of-result : goal.invariant_of-result
invariant_of-result c =
    let heads = c.in_ok-heads.heads in
    record {
      chained =
          empty_chained c.args.vars c.args.arena.clauses heads.items c.requires.few
          c.requires.empty
          (c.in_ok-heads.ensures.items_if_clones_equal (search rules) ∙
          ap (replicate (c.args.vars * 2 + 1)) c.none.ensures);
      tails = rw c.new-tails.ensures (no_tails c.args.vars c.args.arena.clauses);
    }

pub returns-clause-chained : goal.returns-clause-chained
returns-clause-chained c =
    let heads = c.in_ok-heads.heads in
    empty_chained c.args.vars c.args.arena.clauses heads.items c.requires.few c.requires.empty
    (c.in_ok-heads.ensures.items_if_clones_equal (search rules) ∙
    ap (replicate (c.args.vars * 2 + 1)) c.none.ensures)
