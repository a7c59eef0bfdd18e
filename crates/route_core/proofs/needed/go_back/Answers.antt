use Rattle.std.proofs.Common.{rules, ◌≡◌, ◌-◌, ◌++◌, ◌∷◌, ◌∙◌, ℕ, ℤ, suc, pos, List, [], drop, get_or, length, sym, ap, append-nil, refl, subst, arith}
use mir.Val.{SFits}
use mir.Syntax.{w64}
use Rattle.std.proofs.lemmas.Int.{to_z-of_z}
use Rattle.sat_clause.specs.declared.literal.Lit.{Lit}
use Rattle.sat_check.specs.Finder.{Finder}
use Rattle.route_core.specs.Needed.{Kept}
use Rattle.route_core.specs.Sources.{said_under}
use Rattle.route_core.specs.Walking.{HasKept, clause_of, kept_back}
use Rattle.route_core.specs.Wanting.{Tells}
use Rattle.route_core.proofs.WalkLemmas.{back-last, back-next}
use Rattle.route_core.proofs.needed.go_back.Goals as goal

-- the last hint is kept
pub loop-at-init : goal.loop-at-init
loop-at-init c =
    let said : Finder = said_under c.args.sources.now.formula c.args.sources.now.log in
    let last : ℕ = length c.args.hints.now - 1 in
    let hint : ℤ = get_or c.args.hints.now last (pos 0) in
    let fits : SFits w64 (get_or c.args.hints.now (length c.args.hints.now - 1) (pos 0)) =
    search rules in
    let put = simp to_z-of_z at c.want.ensures.wanted in
    let pushed = simp to_z-of_z at c.in_ok-push.ensures.items in
    record {
      size = refl;
      kept = subst (λ (k : Kept). HasKept c.args.lits.now k c.push.new.self.items
          c.want.new.wanted)
          (sym (back-last said c.args.lits.now c.args.hints.now last
          (omega (arith, c.requires.some))))
          (record {
            row_is = pushed ∙ ap (λ (ks : List ℤ). ks ++ hint ∷ []) c.requires.empty;
            tells = subst (λ (ws : List Lit). Tells c.args.lits.now ws c.want.new.wanted)
                (append-nil (clause_of said hint))
                (put c.args.lits.now [] c.begin.ensures.told);
          });
    }

-- one before it is kept if its clause serves
pub loop-at-preserved : goal.loop-at-preserved
loop-at-preserved c =
    let said : Finder = said_under c.args.sources.now.formula c.args.sources.now.log in
    let at : ℕ = c.loop-at.at - 1 in
    let fits : SFits w64 (get_or c.args.hints.now (c.loop-at.at - 1) (pos 0)) = search rules in
    let kept = simp to_z-of_z at c.in_ok-keep_if_needed.ensures.ok in
    let here : c.loop-at.at ≡ suc at = omega (arith, c.loop-at-test.true) in
    record {
      size = c.in_ok-keep_if_needed.ensures.size ∙ c.loop-at.invariant.size;
      kept = subst (λ (k : Kept). HasKept c.args.lits.now k c.keep_if_needed.new.kept.items
          c.keep_if_needed.new.wanted)
          (sym (back-next said c.args.lits.now c.args.hints.now at
          (omega (arith, here, c.loop-at.auto.at, c.requires.some))))
          (kept c.args.lits.now (kept_back said c.args.lits.now (drop (suc at) c.args.hints.now))
          (subst (λ (n : ℕ). HasKept c.args.lits.now
          (kept_back said c.args.lits.now (drop n c.args.hints.now)) c.loop-at.kept.items
          c.loop-at.wanted) here c.loop-at.invariant.kept));
    }
