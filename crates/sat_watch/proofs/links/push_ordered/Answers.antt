use Rattle.std.proofs.Common.{refl, arith}
use Rattle.sat_arena.specs.Store.{Stored, new_clause, ref, size_all, with_swap}
use Rattle.sat_watch.specs.Chains.{IsLast}
use Rattle.sat_watch.proofs.AttachLemmas.{last_changed, last_held, last_pushed, last_stored}
use Rattle.sat_watch.proofs.WatchLemmas.{length_swap}
use Rattle.sat_watch.proofs.links.push_ordered.Goals as goal

pub swap-requires : goal.swap-requires
swap-requires c =
    let a = c.args in let ks = a.arena.now.clauses in let r = c.push-c.result in
    let k : Stored = new_clause (ref (size_all ks)) a.id a.lits.now in
    let last : IsLast ks c.push-c.new.self.clauses k r =
    last_pushed ks c.push-c.new.self.clauses k r c.requires.placed refl c.push-c.ensures.result
    c.push-c.ensures.clauses in
    let is = last_stored ks c.push-c.new.self.clauses k r last in
    let two = c.requires.two in
    record {
      held = last_held ks c.push-c.new.self.clauses k r last;
      i = rw is (omega arith);
      j = rw is c.requires.i;
    }

pub swap-requires-2 : goal.swap-requires-2
swap-requires-2 c =
    let a = c.args in let ks = a.arena.now.clauses in let r = c.push-c.result in
    let k : Stored = new_clause (ref (size_all ks)) a.id a.lits.now in
    let last : IsLast ks c.push-c.new.self.clauses k r =
    last_pushed ks c.push-c.new.self.clauses k r c.requires.placed refl c.push-c.ensures.result
    c.push-c.ensures.clauses in
    let last' : IsLast ks c.swap.new.self.clauses (with_swap 0 a.i k) r =
    last_changed (with_swap 0 a.i) ks c.push-c.new.self.clauses c.swap.new.self.clauses k r
    (λ x. refl) last c.swap.ensures.clauses in
    let is = last_stored ks c.swap.new.self.clauses (with_swap 0 a.i k) r last' in
    let long = length_swap a.lits.now 0 a.i in
    let two = c.requires.two in
    record {
      held = last_held ks c.swap.new.self.clauses (with_swap 0 a.i k) r last';
      i = rw (is, long) (omega arith);
      j = rw (is, long) c.requires.j;
    }

pub returns-clause-last : goal.returns-clause-last
returns-clause-last c =
    let a = c.args in let ks = a.arena.now.clauses in let r = c.push-c.result in
    let k : Stored = new_clause (ref (size_all ks)) a.id a.lits.now in
    let last : IsLast ks c.push-c.new.self.clauses k r =
    last_pushed ks c.push-c.new.self.clauses k r c.requires.placed refl c.push-c.ensures.result
    c.push-c.ensures.clauses in
    let last' : IsLast ks c.swap.new.self.clauses (with_swap 0 a.i k) r =
    last_changed (with_swap 0 a.i) ks c.push-c.new.self.clauses c.swap.new.self.clauses k r
    (λ x. refl) last c.swap.ensures.clauses in
    last_changed (with_swap 1 a.j) ks c.swap.new.self.clauses c.swap-2.new.self.clauses
    (with_swap 0 a.i k) r (λ x. refl) last' c.swap-2.ensures.clauses
