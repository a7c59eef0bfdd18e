use Rattle.std.proofs.Common.{◌≡◌, All, arith, false, pos, refl, sym}
use Rattle.std.specs.Prelude.{IsTrue}
use Rattle.std.proofs.lemmas.List.Elements.{All-more}
use Rattle.list_laws.proofs.FrontParts.{all-whole}
use Rattle.sat_clause.specs.declared.literal.Lit.{Lit}
use Rattle.sat_clause.specs.Literal.{lit}
use Rattle.sat_merge.specs.Known.{is_asked, is_known, key_of}
use Rattle.sat_merge.proofs.known.KnownPairs.is_free.Goals as goal

pub loop-l-preserved : goal.loop-l-preserved
loop-l-preserved c = record {
  asked = All-more (λ (x : Lit). IsTrue (is_asked c.args.self.now.wanted x)) c.args.clause.now
      c.loop-l.l-index (lit (pos 0)) c.loop-l-test.true c.loop-l.invariant.asked
      (sym c.if-not-asks.ensures);
  free = All-more
      (λ (x : Lit). All (λ m. is_known c.args.self.now (key_of x m) ≡ false) c.args.clause.now)
      c.args.clause.now c.loop-l.l-index (lit (pos 0)) c.loop-l-test.true c.loop-l.invariant.free
      (c.if-knows_with.ensures refl);
}

pub returns : goal.returns
returns c = λ is. record {
  asked = all-whole (λ (x : Lit). IsTrue (is_asked c.args.self.now.wanted x)) c.args.clause.now
      c.loop-l.l-index (omega arith) c.loop-l.invariant.asked;
  free = all-whole
      (λ (x : Lit). All (λ m. is_known c.args.self.now (key_of x m) ≡ false) c.args.clause.now)
      c.args.clause.now c.loop-l.l-index (omega arith) c.loop-l.invariant.free;
}
