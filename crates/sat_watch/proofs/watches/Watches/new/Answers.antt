use Rattle.std.proofs.Common.{[], refl, sym, ap, ◌∙◌}
use Rattle.sat_watch.specs.Trail.{TrailState}
use Rattle.sat_watch.proofs.FewLemmas.{empty_trail}
use Rattle.sat_watch.proofs.WatchesLemmas.{empty_store}
use Rattle.sat_watch.proofs.watches.Watches.new.Goals as goal

pub invariant_of-result : goal.invariant_of-result
invariant_of-result c = record {
  whole = record {
    vars = ap (λ (t : TrailState). t.vars) c.in_ok-trail.ensures ∙ sym c.in_ok-chains.ensures.vars;
    chained = c.in_ok-chains.ensures.chained;
    trail = rw c.in_ok-trail.ensures (empty_trail (record { vars = c.args.vars; entries = [] })
        c.requires.few refl);
  };
  store =
      empty_store c.in_ok-chains.chains.clauses c.in_ok-trail.trail.entries
      c.in_ok-chains.ensures.clauses (ap (λ (t : TrailState). t.entries) c.in_ok-trail.ensures);
}
