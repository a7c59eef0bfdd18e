use Rattle.std.proofs.Common.{◌≡◌, ◌∙◌, ap, inl, length, subst, sym, arith}
use Rattle.std.proofs.lemmas.List.{length-reverse}
use Rattle.sat_watch.proofs.FewLemmas.{few_entries}
use Rattle.sat_core.specs.Analysis.{AreOn, IsAnalysis, IsFalsePlace, IsKnown, IsLeast}
use Rattle.sat_core.proofs.UseLaws.{analysis_on, analysis_starts, walk_starts}
use Rattle.sat_core.proofs.analysis.analyse.Goals as goal
use Rattle.sat_core.proofs.analysis.analyse.Goals.{After-meet_clause-least, After-point-point}

-- what the false clause meets
module _ (c : After-meet_clause-least) where
  known : IsKnown c.args.watches.now
  known = record {
    once = c.trail.ensures.once;
    within = c.trail.ensures.within;
    levels = c.trail.ensures.levels;
    propagated = c.level-level.ensures.propagated;
  }

  least : IsLeast (c.args.watches.now).trail (c.args.watches.now).level
      (IsFalsePlace (c.args.watches.now).trail c.args.lits.now)
      (length (c.args.watches.now).trail) c.meet_clause-least.result
  least =
      let w = c.args.watches.now in
      let top : length c.trail.result.now ≡ length w.trail =
      sym (length-reverse c.trail.result.now) ∙ ap length c.trail.ensures.value in
      subst (λ n. IsLeast w.trail w.level (IsFalsePlace w.trail c.args.lits.now) n
      c.meet_clause-least.result) top c.meet_clause-least.ensures.least

  begun : IsAnalysis c.args.watches.now c.args.lits.now c.meet_clause-least.new.marks
  begun =
      analysis_starts c.args.watches.now c.args.lits.now c.requires.clean
      c.meet_clause-least.ensures.meets c.requires.size

-- and what is met behind the way to the point
module _ (c : After-point-point)
    (a : IsAnalysis c.args.watches.now c.args.lits.now c.meet_clause-least.new.marks) where
  at_point : IsAnalysis c.args.watches.now c.args.lits.now c.point-point.new.marks
  at_point = c.point-point.ensures.goes_on.kept c.args.lits.now a

  on : AreOn (c.args.watches.now).trail c.point-point.new.marks
  on = analysis_on at_point

pub overflow_cast-top : goal.overflow_cast-top
overflow_cast-top c =
    let w = c.args.watches.now in
    let told = c.trail.ensures in
    let few = few_entries w.vars w.trail told.within told.once in
    omega (arith, few, length-reverse c.trail.result.now, ap length told.value, c.requires.few)

pub point-point-requires-clause-walk : goal.point-point-requires-clause-walk
point-point-requires-clause-walk c some =
    let at = (goal.at.point-point-requires-clause-walk c).After-meet_clause-least in
    let p = c.requires.current (known at) some in
    walk_starts c.args.watches.now c.args.lits.now c.requires.clean
    c.meet_clause-least.ensures.meets (least at) p.0 p.1 p.2 (known at) c.requires.size

pub invariant_of-analysis : goal.invariant_of-analysis
invariant_of-analysis c =
    let at = goal.at.invariant_of-analysis c in
    let a = begun at.After-meet_clause-least in
    record {
      few = c.requires.few;
      size = (at_point at.After-point-point a).size;
      on = on at.After-point-point a;
      current = c.level-level.ensures.value;
    }

pub returns-clause-analysed : goal.returns-clause-analysed
returns-clause-analysed c =
    let at = goal.at.returns-clause-analysed c in
    record {
      known = known at.After-meet_clause-least;
      analysis = c.use_left_out.ensures.goes_on.kept c.args.lits.now
          (at_point at.After-point-point (begun at.After-meet_clause-least));
      zero = λ p met zero. c.use_left_out.ensures.used p met (inl zero);
      current = λ some. c.use_left_out.ensures.point c.point-point.result some
          (c.point-point.ensures.point some);
    }
