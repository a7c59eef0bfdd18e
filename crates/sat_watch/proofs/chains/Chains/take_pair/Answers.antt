use Rattle.std.proofs.Common.{◌≡◌, ◌-◌, [], ◌∷◌, ◌++◌, length, refl, sym, ap, ◌∙◌, subst}
use Rattle.sat_arena.specs.Store.{stored_at}
use Rattle.sat_watch.specs.Chains.{ChainsState, lit_at}
use Rattle.sat_watch.specs.Tails.{IsTail, refs}
use Rattle.sat_watch.proofs.TailLemmas.{tail_taken}
use Rattle.sat_watch.proofs.chains.Chains.take_pair.Goals as goal

pub returns-then-lits-ne2 : goal.returns-then-lits-ne2
returns-then-lits-ne2 c = λ after from goes is. (
  after,
  (rw (c.clear.ensures.items, c.clear-then-lits-ne2.ensures.items) refl),
)

pub returns : goal.returns
returns c = λ after from goes is.
    let i = c.self.inside in let at = c.args.at in
    let place = rw (← c.self.view_is) at c.requires.at in
    let goes = rw (← c.self.view_is) at goes in
    let is = rw (← c.self.view_is) at is in
    let v = c.lits-lits.ensures.value in
    let two : length (stored_at i.arena.clauses at.clause).lits ≡ 2 =
    ap length (sym v) ∙ c.if-lits-ne2.false in
    let others : c.push.new.self.items ≡ c.args.others.now.items
    ++ lit_at (stored_at i.arena.clauses at.clause).lits (1 - at.which) ∷ [] =
    c.in_ok-push.ensures.items ∙
    ap (λ lits. c.args.others.now.items ++ lit_at lits (1 - at.which) ∷ []) v in (
      from,
      subst (λ (s : ChainsState). IsTail s.clauses c.args.l from c.push.new.self.items
          (refs c.push-2.new.self.items) after) c.self.view_is
          (rw (others, c.in_ok-push-2.ensures.items)
          (tail_taken i.vars i.arena.clauses i.heads.items c.args.l at after from
          c.args.others.now.items c.args.words.now.items c.self.invariant.chained place goes two
          is)),
    )
