-- All causes against a routed file are those by which it is judged.
use Rattle.std.proofs.Common.{◌≡◌, ℕ, Option, Some, None, List, [], ◌∷◌, ◌++◌, refl, sym, ap, ◌∙◌, append_assoc, append-nil}
use Rattle.std.specs.Prelude.{map, flat_map, filter_map}
use Rattle.std.specs.List.{cons_option}
use Rattle.std.proofs.lemmas.List.{map-append}
use Rattle.std.proofs.lemmas.List.Elements.{filter_map-append}
use Rattle.fpga_text.specs.FirstFault.{Faults, first_fault}
use Rattle.fpga_text.specs.declared.fault.TextFault.{TextFault}
use Rattle.fpga_text.specs.declared.fault.TextFault.TheVariants.{Bad, Limit, Memory}
use Rattle.fpga_types.specs.Fit.{RouteLine, route_lines}
use Rattle.fpga_types.specs.Problem.{RoutingProblem}
use Rattle.fpga_types.specs.declared.route.Elem.{Elem}
use Rattle.fpga_types.specs.declared.route.RouteText.{RouteText}
use Rattle.route_verify.specs.AllCauses.{AreAllCauses, all_causes, cause_against, causes_at, fault_of, judged_first}
use Rattle.route_verify.specs.Judged.{array_cause, end_cause, judgement_by}
use Rattle.route_verify.specs.Reach.{causes_by, line_cause_by}
use Rattle.route_verify.specs.declared.judgement.Judgement.{Judgement}
use Rattle.route_verify.specs.declared.line_cause.LineCause.{LineCause}
use Rattle.route_verify.proofs.LimitLemmas.{IsCause, array-is, end-is, line-is}

-- the causes that there are
abbrev there_are : Faults → List TextFault
there_are faults = filter_map (λ fault. fault) faults

-- a cause of a line is told, and nothing where there is none
one : (net : Option ℕ) (elem : Option Elem) (cause : Option TextFault) → IsCause cause
    → (rest : List TextFault)
    → map fault_of (cause_against net elem cause) ++ rest ≡ cons_option cause rest
one net elem None is rest = refl
one net elem (Some (Bad line cause)) is rest = refl
one net elem (Some (Limit cause count)) is rest = absurd is
one net elem (Some Memory) is rest = absurd is

-- the judgement by the first of some causes
abbrev by_first : List TextFault → Judgement
by_first [] = judgement_by None
by_first (fault ∷ more) = judgement_by (Some fault)

first-is : (faults : Faults) → judgement_by (first_fault faults) ≡ by_first (there_are faults)
first-is [] = refl
first-is (None ∷ faults) = first-is faults
first-is (Some fault ∷ faults) = refl

told-first : (causes : List LineCause) → by_first (map fault_of causes) ≡ judged_first causes
told-first [] = refl
told-first (cause ∷ causes) = refl

module _ (reach : Option ℕ) (width : ℕ) (p : RoutingProblem) where
  lines-whole : (lines : List RouteLine)
      → map fault_of (flat_map (causes_at reach width p) lines)
      ≡ there_are (map (line_cause_by reach width p) lines)
  lines-whole [] = refl
  lines-whole (line ∷ lines) =
      map-append fault_of (causes_at reach width p line) (flat_map (causes_at reach width p) lines)
      ∙ one _ _ (line_cause_by reach width p line) (line-is reach width p line)
      (map fault_of (flat_map (causes_at reach width p) lines))
      ∙ ap (cons_option (line_cause_by reach width p line)) (lines-whole lines)

  -- none is left out, and none is told that is not there
  pub whole-is : (found : RouteText) → map fault_of (all_causes reach width p found)
      ≡ there_are (causes_by reach width p found)
  whole-is found =
      let front : List LineCause = cause_against None None (array_cause p found) in
      let lines : List LineCause = flat_map (causes_at reach width p) (route_lines found) in
      let end : List LineCause = cause_against None None (end_cause p found) in
      let last : map fault_of end ≡ cons_option (end_cause p found) [] =
      sym (append-nil (map fault_of end))
      ∙ one None None (end_cause p found) (end-is reach width p found) [] in
      map-append fault_of (front ++ lines) end
      ∙ (λ i. map-append fault_of front lines i ++ map fault_of end)
      ∙ append_assoc (map fault_of front) (map fault_of lines) (map fault_of end)
      ∙ one None None (array_cause p found) (array-is reach width p found)
      (map fault_of lines ++ map fault_of end)
      ∙ ap (cons_option (array_cause p found))
      ((λ i. lines-whole (route_lines found) i ++ last i)
      ∙ sym (filter_map-append (λ cause. cause)
      (map (line_cause_by reach width p) (route_lines found)) (end_cause p found ∷ [])))

  -- so they are all causes
  pub are-all : (found : RouteText) (causes : List LineCause)
      → causes ≡ all_causes reach width p found → AreAllCauses reach width p found causes
  are-all found causes is =
      let whole : map fault_of causes ≡ there_are (causes_by reach width p found) =
      ap (map fault_of) is ∙ whole-is found in
      record {
        each = is;
        whole = whole;
        first = first-is (causes_by reach width p found) ∙ ap by_first (sym whole)
            ∙ told-first causes;
      }
