use Rattle.std.proofs.Common.{◌≡◌, ◌∙◌, refl, sym, ap, subst, length, Bool}
use Rattle.std.specs.Prelude.{◌==◌}
use Rattle.fpga_text.proofs.FaultLemmas.{option_or-none}
use Rattle.fpga_types.specs.Fit.{RouteLine, line_fault}
use Rattle.fpga_types.specs.Fits.{net_line_fault, problem_fault}
use Rattle.fpga_types.specs.declared.limits.TheConstants.{SLOT_LIMIT}
use Rattle.fpga_bounds.specs.ElemContext.{IsLineOf, with_full}
use Rattle.fpga_bounds.specs.LineRules.{line_here}
use Rattle.fpga_bounds.specs.NetEnds.{NamedNet}
use Rattle.fpga_bounds.proofs.LineLemmas.{found-fault, slot-room}
use Rattle.fpga_bounds.proofs.SlotsOfLemmas.{slots-step}
use Rattle.fpga_bounds.proofs.fit_rules.FitRulesLineRules.check_elem.Goals as goal
use Rattle.fpga_bounds.proofs.fit_rules.FitRulesLineRules.check_elem.Goals.{After-fault}

-- what is found is the line's fault
module _ (c : After-fault) where
  abbrev line : RouteLine
  line = line_here c.args.at

  judged : c.fault.result ≡ net_line_fault c.args.self.now line
  judged = c.fault.ensures line (ap (λ (of : NamedNet). of.name) c.requires.net)
      (subst (λ (full : Bool). IsLineOf (with_full c.args.at.context full) c.args.at.seen.now line)
      (sym (c.is_full.ensures.value ∙ ap (λ slots. length slots == SLOT_LIMIT) c.requires.kept))
      c.requires.here.line)
      ∙ ap (λ (of : NamedNet). net_line_fault of.problem line) c.requires.net

pub returns-in-Some : goal.returns-in-Some
returns-in-Some c =
    found-fault _ _ (sym c.in-Some.is ∙ judged (goal.at.returns-in-Some c).After-fault)

pub add_slot-requires : goal.add_slot-requires
add_slot-requires c = record {
  room = λ s slot new.
      let turn = (goal.at.add_slot-requires c).After-fault in
      let clean = option_or-none (problem_fault c.args.self.now (line turn))
      (line_fault c.args.self.now.route.grid (line turn))
      (sym (judged turn) ∙ c.in_default.is) in
      rw c.requires.kept
      (slot-room c.args.self.now.route.grid c.args.at.earlier.now c.args.at.net.now
      c.args.at.position c.args.at.context.elem s clean.1 slot
      (rw c.requires.kept at new) (rw c.requires.kept at c.is_full.ensures.limit));
}

pub returns : goal.returns
returns c = (
  sym (judged (goal.at.returns c).After-fault) ∙ c.in_default.is,
  c.in-Ok.ensures ∙ rw (
    c.requires.kept,
    slots-step c.args.at.earlier.now c.args.at.net.now c.args.at.position c.args.at.context.elem
        c.requires.here.elem,
  ) refl,
)
