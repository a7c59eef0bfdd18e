use Rattle.std.proofs.Common.{subst}
use Rattle.std.specs.List.{swap}
use Rattle.std.proofs.lemmas.Result.{IfOk-weaker}
use Rattle.sat_watch.specs.Chains.{IsAdded}
use Rattle.sat_watch.specs.Choice.{IsAhead}
use Rattle.sat_watch.proofs.ChoiceLemmas.{ahead, ahead_first, ahead_same, ahead_second, ahead_simple}
use Rattle.sat_watch.proofs.chains.Chains.add_ahead.Goals as goal

pub returns-clause-ok : goal.returns-clause-ok
returns-clause-ok c =
    let a = c.args in let lits = a.lits.now in let two = c.if-lits-lt2.false in
    let ne = c.requires.other two in
    let li = c.requires.i in let lj = c.requires.j in
    IfOk-weaker c.add.result
    (λ r. IsAdded a.self.now c.add.new.self (swap (swap lits 0 a.i) 1 c.after_first.result) a.id r)
    (λ r. IsAhead a.self.now c.add.new.self lits a.id a.i a.j r)
    (λ r added. record {
      order = ahead lits a.i a.j li lj;
      added =
          subst (λ n. IsAdded a.self.now c.add.new.self (swap (swap lits 0 a.i) 1 n) a.id r)
          c.after_first.ensures added;
      simple = ahead_simple lits a.i a.j li lj a.self.now.vars two c.requires.simple;
      same = ahead_same lits a.i a.j li lj two;
      first = ahead_first lits a.i a.j li lj two ne;
      second = λ _. ahead_second lits a.i a.j li lj two ne;
    })
    c.add.ensures.ok
