use Rattle.std.proofs.Common.{◌≡◌, ◌∙◌, List, ap, arith, subst, sym, take}
use Rattle.std.proofs.lemmas.List.{length-take}
use Rattle.list_laws.proofs.Places.{take-get}
use Rattle.fpga_bounds.specs.LineRules.{line_here}
use Rattle.fpga_bounds.proofs.LineLemmas.{found-fault}
use Rattle.fpga_types.specs.declared.route.Elem.{Elem}
use Rattle.route_verify.specs.Judge.{HasKept}
use Rattle.route_verify.specs.Reach.{line_cause_by}
use Rattle.route_verify.specs.Rules.{JudgedNet}
use Rattle.route_verify.proofs.judge.JudgeLineRules.check_elem.Goals as goal
use Rattle.route_verify.proofs.judge.JudgeLineRules.check_elem.Goals.{After-cause_at}

pub cause_at-requires : goal.cause_at-requires
cause_at-requires c = record {
  net = ap (λ (of : JudgedNet). of.name) c.requires.net;
  here = c.requires.here;
  kept = c.requires.kept;
}

-- what is found is the cause against the line
judged : (c : After-cause_at) → c.cause_at.result ≡ line_cause_by c.args.self.now.reach
    c.args.self.now.width c.args.self.now.problem (line_here c.args.at)
judged c = c.cause_at.ensures ∙ ap (λ (of : JudgedNet).
    line_cause_by of.reach of.width of.problem (line_here c.args.at)) c.requires.net

pub returns-in-Some : goal.returns-in-Some
returns-in-Some c =
    found-fault _ _ (sym c.in-Some.is ∙ judged (goal.at.returns-in-Some c).After-cause_at)

pub add_line-requires : goal.add_line-requires
add_line-requires c =
    let elems : List Elem = c.args.at.net.now.elems in (
      c.args.at.earlier.now,
      (
        take c.args.at.position elems,
        (
          c.requires.kept,
          omega (arith, length-take c.args.at.position elems, c.requires.here.position),
        ),
      ),
    )

pub returns : goal.returns
returns c = (
  sym (judged (goal.at.returns c).After-cause_at) ∙ c.in_default.is,
  subst (HasKept c.add_line.new.self c.args.at.earlier.now)
      (sym (take-get c.args.at.net.now.elems c.args.at.position c.args.at.context.elem
      c.requires.here.elem))
      (c.in-Ok.ensures c.args.at.earlier.now
      (take c.args.at.position c.args.at.net.now.elems) c.requires.kept),
)
