use Rattle.std.proofs.Common.{◌≡◌, ◌∙◌, arith, false, pos, sym}
use Rattle.std.proofs.lemmas.List.Elements.{All-more}
use Rattle.list_laws.proofs.FrontParts.{all-whole}
use Rattle.sat_clause.specs.declared.literal.Lit.{Lit}
use Rattle.sat_clause.specs.Literal.{lit}
use Rattle.sat_merge.specs.Known.{is_known, key_of}
use Rattle.sat_merge.proofs.known.KnownPairs.knows_with.Goals as goal

pub loop-m-preserved : goal.loop-m-preserved
loop-m-preserved c =
    All-more (λ (m : Lit). is_known c.args.self.now (key_of c.args.l m) ≡ false) c.args.clause.now
    c.loop-m.m-index (lit (pos 0)) c.loop-m-test.true c.loop-m.invariant
    (sym c.get.ensures ∙ sym c.if-is_some.ensures)

pub returns : goal.returns
returns c = λ none.
    all-whole (λ (m : Lit). is_known c.args.self.now (key_of c.args.l m) ≡ false)
    c.args.clause.now c.loop-m.m-index (omega arith) c.loop-m.invariant
