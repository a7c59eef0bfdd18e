use Rattle.std.proofs.Common.{List, ℕ, ◌++◌, ap, sym, ◌∙◌, arith}
use Rattle.std.proofs.lemmas.List.FromFn.{length-enumerate_from}
use Rattle.list_laws.proofs.FrontParts.{made-whole}
use Rattle.route_gen.specs.Netlists.{block_lines}
use Rattle.route_gen.proofs.RangeLemmas.{numbered_next}
use Rattle.route_gen.proofs.netlist.netlist_text.Goals as goal

pub loop-block-preserved : goal.loop-block-preserved
loop-block-preserved c =
    let taken = c.index-inputs-block.result in
    c.in_ok-push_block.ensures
    ∙ ap (λ (text : List ℕ). text ++ block_lines c.args.nets (c.loop-block.block, taken))
    c.loop-block.invariant
    ∙ sym (numbered_next (block_lines c.args.nets) c.args.inputs.now c.loop-block.block taken
    c.loop-block-test.true c.index-inputs-block.is)

pub returns : goal.returns
returns c = grind (arith, length-enumerate_from, made-whole)
