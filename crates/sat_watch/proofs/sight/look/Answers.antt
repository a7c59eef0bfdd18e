use Rattle.std.proofs.Common.{◌≡◌, ◌-◌, pos, slice_index_or, false, sym, ◌∙◌}
use Rattle.sat_clause.specs.declared.literal.Lit.{Lit}
use Rattle.sat_clause.specs.Literal.{lit, negation}
use Rattle.sat_watch.specs.Watched.{is_false}
use Rattle.sat_watch.proofs.VisitLemmas.{all_false, other_at, others_false}
use Rattle.sat_watch.proofs.sight.look.Goals as goal
use Rattle.sat_watch.proofs.TrailLemmas.{is_open}

pub returns-then-is_false : goal.returns-then-is_false
returns-then-is_false c =
    let es = c.args.trail.now.entries in let lits = c.args.lits.now in
    all_false es lits c.args.which (lit (pos 0)) c.requires.which c.requires.two c.requires.watch
    (sym c.is_false.ensures ∙ c.if-is_false.true) c.in_default.ensures

pub returns : goal.returns
returns c =
    let es = c.args.trail.now.entries in let lits = c.args.lits.now in
    let other : Lit = slice_index_or lits (1 - c.args.which) (lit (pos 0)) in
    let not_false : is_false es other ≡ false = sym c.is_false.ensures ∙ c.if-is_false.false in
    let not_true : is_false es (negation other) ≡ false =
    sym c.is_true.ensures ∙ c.if-is_true.false in (
      other_at lits c.args.which c.requires.which c.requires.two,
      is_open es other not_false not_true,
      others_false es lits c.args.which c.requires.which c.requires.two c.requires.watch
          c.in_default.ensures,
    )
