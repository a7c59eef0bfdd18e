-- Where nothing is against a line, none of the causes holds at it; and a file by its parts.
use Rattle.std.proofs.Common.{◌≡◌, ℕ, Bool, true, false, Option, Some, None, [], ◌∷◌, ◌++◌, refl, sym, ap, ◌∙◌}
use Rattle.std.specs.Prelude.{◌||◌, if◌then◌else◌}
use Rattle.std.specs.Option.{option_or}
use Rattle.std.proofs.lemmas.Bool.{or_parts}
use Rattle.fpga_graph.specs.GraphOf.{GraphOf}
use Rattle.fpga_text.specs.Codes.{first_code}
use Rattle.fpga_text.specs.FirstFault.{Faults, IsFaultless, first_fault}
use Rattle.fpga_text.specs.declared.fault.TextFault.{TextFault}
use Rattle.fpga_text.specs.declared.fault.TextFault.TheVariants.{Bad}
use Rattle.fpga_text.proofs.FaultLemmas.{first_fault-append, option_or-none}
use Rattle.fpga_types.specs.Fit.{RouteLine, is_out_of_order, line_number}
use Rattle.fpga_types.specs.Fits.{is_other_pin, is_other_sink, is_other_source, is_repeated, is_unknown}
use Rattle.fpga_types.specs.Problem.{RoutingProblem}
use Rattle.route_judge.specs.Judged.{placed_causes, placed_line_cause, repeats_where}
use Rattle.route_verify.specs.Judged.{graph_of}
use Rattle.route_verify.specs.Lines.{JudgedLine, branches_loose, device_in, is_other_again, is_sink_again, is_too_high, is_unconnected, is_unfit, judged_line}
use Rattle.route_verify.proofs.CodeLemmas.{silent-codes}

-- none of the causes holds at a line
pub record HasNoCause (strict : Bool) (g : GraphOf) (at : JudgedLine) : Type 0 where
  pub connected : is_unconnected g at ≡ false
  pub low : is_too_high g at ≡ false
  pub alone : at.wire_taken ≡ false
  pub new : repeats_where strict at ≡ false
  pub whole : at.fit.lacking ≡ false
  pub fine : is_unfit g at ≡ false

pub uncaused : (strict : Bool) (g : GraphOf) (at : JudgedLine) (n : ℕ) → HasNoCause strict g at
    → first_code (placed_causes strict) g n at ≡ None
uncaused strict g at n c =
    λ i. if c.connected i then Some (Bad n 801) else if c.low i then Some (Bad n 802)
    else if c.alone i then Some (Bad n 803) else if c.new i then Some (Bad n 805)
    else if c.whole i then Some (Bad n 806) else if c.fine i then Some (Bad n 807) else None

pub no-cause : (strict : Bool) (width : ℕ) (p : RoutingProblem) (line : RouteLine)
    → placed_line_cause strict width p line ≡ None
    → HasNoCause strict (graph_of width p) (judged_line p line)
no-cause strict width p line none =
    let silent = silent-codes (graph_of width p) (judged_line p line) (placed_causes strict)
    (line_number line) none in
    record {
      connected = silent.0;
      low = silent.1.0;
      alone = silent.1.1.0;
      new = silent.1.1.1.0;
      whole = silent.1.1.1.1.0;
      fine = silent.1.1.1.1.1.0;
    }

-- a line that is not unfit, by each of the tests for it
pub record IsFine (g : GraphOf) (at : JudgedLine) : Type 0 where
  pub known : is_unknown at.fit ≡ false
  pub first : is_repeated at.fit ≡ false
  pub source : is_other_source at.fit ≡ false
  pub sink : is_other_sink at.fit ≡ false
  pub once : is_sink_again at.fit.route ≡ false
  pub pin : is_other_pin (device_in g) at.fit ≡ false
  pub new : is_other_again at.fit.route ≡ false
  pub joined : branches_loose at ≡ false
  pub alone : at.fit.route.taken ≡ false
  pub order : is_out_of_order at.fit.route ≡ false

pub fine-line : (g : GraphOf) (at : JudgedLine) → is_unfit g at ≡ false → IsFine g at
fine-line g at none =
    let a = is_unknown at.fit in
    let b = is_repeated at.fit in
    let c = is_other_source at.fit in
    let d = is_other_sink at.fit in
    let e = is_sink_again at.fit.route in
    let f = is_other_pin (device_in g) at.fit in
    let h = is_other_again at.fit.route in
    let i = branches_loose at in
    let j = at.fit.route.taken in
    let k = is_out_of_order at.fit.route in
    let to_j = or_parts (a || b || c || d || e || f || h || i || j) k none in
    let to_i = or_parts (a || b || c || d || e || f || h || i) j to_j.0 in
    let to_h = or_parts (a || b || c || d || e || f || h) i to_i.0 in
    let to_f = or_parts (a || b || c || d || e || f) h to_h.0 in
    let to_e = or_parts (a || b || c || d || e) f to_f.0 in
    let to_d = or_parts (a || b || c || d) e to_e.0 in
    let to_c = or_parts (a || b || c) d to_d.0 in
    let to_b = or_parts (a || b) c to_c.0 in
    let to_a = or_parts a b to_b.0 in
    record {
      known = to_a.0;
      first = to_a.1;
      source = to_b.1;
      sink = to_c.1;
      once = to_d.1;
      pin = to_e.1;
      new = to_f.1;
      joined = to_h.1;
      alone = to_i.1;
      order = to_j.1;
    }

-- a file by its parts
pub parts-of : (array end : Option TextFault) (lines : Faults)
    → IsFaultless (array ∷ lines ++ end ∷ [])
    → (array ≡ None) × (first_fault lines ≡ None) × (end ≡ None)
parts-of array end lines clean =
    let first = option_or-none array (first_fault (lines ++ end ∷ [])) clean in
    let behind = option_or-none (first_fault lines) (first_fault (end ∷ []))
    (sym (first_fault-append lines (end ∷ [])) ∙ first.1) in
    (first.0, behind.0, (option_or-none end None behind.1).0)

pub from-parts : (array end : Option TextFault) (lines : Faults) → array ≡ None
    → first_fault lines ≡ None → end ≡ None → IsFaultless (array ∷ lines ++ end ∷ [])
from-parts array end lines first clean last =
    ap (λ (o : Option TextFault). option_or o (first_fault (lines ++ end ∷ []))) first
    ∙ first_fault-append lines (end ∷ [])
    ∙ ap (λ (o : Option TextFault). option_or o (first_fault (end ∷ []))) clean
    ∙ ap (λ (o : Option TextFault). option_or o None) last

-- nothing is against a line where this test passes, or where that one does not
pub passed : (same : Bool) (line code : ℕ) → (if same then None else Some (Bad line code)) ≡ None
    → same ≡ true
passed true line code is = refl
passed false line code is = cc

pub failed : (fails : Bool) (line code : ℕ) → (if fails then Some (Bad line code) else None) ≡ None
    → fails ≡ false
failed false line code is = refl
failed true line code is = cc
