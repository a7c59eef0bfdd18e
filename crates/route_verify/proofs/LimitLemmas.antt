-- What there is against a line of a routed file is a cause, and no limit.
use Rattle.std.proofs.Common.{◌≡◌, ℕ, ◌+◌, Bool, true, false, List, [], ◌∷◌, Option, Some, None, refl, sym, subst}
use Rattle.std.specs.Prelude.{map, ⊤, ◌↔◌, if◌then◌else◌}
use Rattle.std.specs.Option.{option_or}
use Rattle.fpga_graph.specs.GraphOf.{GraphOf}
use Rattle.fpga_text.specs.Codes.{first_code}
use Rattle.fpga_text.specs.FirstFault.{IsFaultOf, first_fault}
use Rattle.fpga_text.specs.declared.fault.TextFault.{TextFault}
use Rattle.fpga_text.specs.declared.fault.TextFault.TheVariants.{Bad, Limit, Memory}
use Rattle.fpga_text.proofs.FaultLemmas.{first_fault-append}
use Rattle.fpga_types.specs.Fit.{RouteLine, line_number, route_lines}
use Rattle.fpga_types.specs.Fits.{lacks_net, same_size}
use Rattle.fpga_types.specs.Problem.{RoutingProblem}
use Rattle.fpga_types.specs.declared.route.RouteText.{RouteText}
use Rattle.route_verify.specs.Judged.{array_cause, end_cause, graph_of, judgement_by}
use Rattle.route_verify.specs.Lines.{is_too_high, is_unconnected, is_unfit}
use Rattle.route_verify.specs.Reach.{ReachLine, causes_by, causes_within, is_past_reach_by, line_cause_by, reach_line, repeats_by}
use Rattle.route_verify.specs.declared.judgement.Judgement.TheVariants.{Legal}
use Rattle.route_verify.proofs.TableLemmas.{table-is}

-- a cause, if anything
abbrev pub IsCause : Option TextFault → Type 0
IsCause None = ⊤
IsCause (Some (Bad line cause)) = ⊤
IsCause (Some (Limit cause count)) = ⊥
IsCause (Some Memory) = ⊥

pub this-or-rest : (holds : Bool) (line cause : ℕ) (rest : Option TextFault) → IsCause rest
    → IsCause (if holds then Some (Bad line cause) else rest)
this-or-rest true line cause rest is = tt
this-or-rest false line cause rest is = is

pub none-or-this : (fine : Bool) (line cause : ℕ)
    → IsCause (if fine then None else Some (Bad line cause))
none-or-this true line cause = tt
none-or-this false line cause = tt

pub first-or-later : (first later : Option TextFault) → IsCause first → IsCause later
    → IsCause (option_or first later)
first-or-later None later is after = after
first-or-later (Some (Bad line cause)) later is after = tt
first-or-later (Some (Limit cause count)) later is after = absurd is
first-or-later (Some Memory) later is after = absurd is

-- against a line by the table of causes
by-table : (g : GraphOf) (reach : Option ℕ) (n : ℕ) (at : ReachLine)
    → IsCause (first_code (causes_within reach) g n at)
by-table g reach n at =
    this-or-rest (is_unconnected g at.line) n 801 _ (this-or-rest (is_too_high g at.line) n 802 _
    (this-or-rest at.line.wire_taken n 803 _ (this-or-rest at.line.stray n 804 _
    (this-or-rest (repeats_by reach at.line) n 805 _ (this-or-rest at.line.fit.lacking n 806 _
    (this-or-rest (is_unfit g at.line) n 807 _
    (this-or-rest (is_past_reach_by reach at) n 808 None tt)))))))

module _ (reach : Option ℕ) (width : ℕ) (p : RoutingProblem) where
  pub line-is : (line : RouteLine) → IsCause (line_cause_by reach width p line)
  line-is line = subst IsCause (table-is reach width p line)
      (by-table (graph_of width p) reach (line_number line) (reach_line p line))

  pub array-is : (found : RouteText) → IsCause (array_cause p found)
  array-is found = none-or-this (same_size p.placement.grid found.grid) found.grid_line 807

  pub end-is : (found : RouteText) → IsCause (end_cause p found)
  end-is found =
      this-or-rest (lacks_net (record p { route = found })) (found.lines + 1) 806 None tt

  lines-are : (lines : List RouteLine)
      → IsCause (first_fault (map (line_cause_by reach width p) lines))
  lines-are [] = tt
  lines-are (line ∷ lines) = first-or-later (line_cause_by reach width p line)
      (first_fault (map (line_cause_by reach width p) lines)) (line-is line) (lines-are lines)

  pub first-is-cause : (found : RouteText)
      → IsCause (first_fault (causes_by reach width p found))
  first-is-cause found =
      let lines : List (Option TextFault) = map (line_cause_by reach width p)
      (route_lines found) in
      let behind : IsCause (option_or (first_fault lines) (option_or (end_cause p found) None)) =
      first-or-later (first_fault lines) (option_or (end_cause p found) None)
      (lines-are (route_lines found)) (first-or-later (end_cause p found) None (end-is found) tt)
      in
      first-or-later (array_cause p found) _
      (array-is found)
      (subst IsCause (sym (first_fault-append lines (end_cause p found ∷ []))) behind)

-- legal exactly where there is none
pub legal-exactly : (cause : Option TextFault) → IsCause cause
    → (judgement_by cause ≡ Legal) ↔ (cause ≡ None)
legal-exactly None is = ((λ _. refl), (λ _. refl))
legal-exactly (Some (Bad line cause)) is = ((λ e. cc), (λ e. cc))
legal-exactly (Some (Limit cause count)) is = absurd is
legal-exactly (Some Memory) is = absurd is

-- so no limit is passed
pub no-limit : (cause : Option TextFault) (code count : ℕ) → IsCause cause
    → IsFaultOf cause (Limit code count) → ⊥
no-limit cause code count is found = subst IsCause found is
