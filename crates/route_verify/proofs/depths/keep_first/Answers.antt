use Rattle.std.proofs.Common.{◌≡◌, ◌∙◌, ap, cond, false, Some, sym, subst, true}
use Rattle.std.specs.Prelude.{is_some}
use Rattle.std.specs.BTreeMap.{get}
use Rattle.std.specs.Ordering.{is_eq}
use Rattle.fpga_bounds.specs.Keys.{key_cmp}
use Rattle.fpga_bounds.specs.declared.keys.ElemKey.{ElemKey}
use Rattle.fpga_types.specs.Kinds.{is_channel}
use Rattle.route_verify.specs.LineDepths.{line_key}
use Rattle.route_verify.proofs.LineDepthLemmas.{kept-new, kept-other, kept-there}
use Rattle.route_verify.proofs.depths.keep_first.Goals as goal

pub returns-then-not-is_channel : goal.returns-then-not-is_channel
returns-then-not-is_channel c = λ lines has.
    let other : is_channel c.args.line.kind ≡ false =
    sym c.is_channel.ensures ∙ c.if-not-is_channel.true in
    kept-other c.args.tracked c.args.firsts.now lines
    (record { elem = c.args.line; depth = c.args.depth }) other has

pub returns-then-contains_key : goal.returns-then-contains_key
returns-then-contains_key c = λ lines has.
    let channel : is_channel c.args.line.kind ≡ true =
    sym c.is_channel.ensures ∙ c.if-not-is_channel.false in
    let there : is_some (get key_cmp c.args.firsts.now (line_key c.args.tracked c.args.line))
    ≡ true =
    ap (λ (key : ElemKey). is_some (get key_cmp c.args.firsts.now key))
    (sym c.line_key-key.ensures) ∙ sym c.contains_key.ensures ∙ c.if-contains_key.true in
    kept-there c.args.tracked c.args.firsts.now lines
    (record { elem = c.args.line; depth = c.args.depth }) channel has there

pub returns : goal.returns
returns c = λ lines has.
    let channel : is_channel c.args.line.kind ≡ true =
    sym c.is_channel.ensures ∙ c.if-not-is_channel.false in
    let new : is_some (get key_cmp c.args.firsts.now (line_key c.args.tracked c.args.line))
    ≡ false =
    ap (λ (key : ElemKey). is_some (get key_cmp c.args.firsts.now key))
    (sym c.line_key-key.ensures) ∙ sym c.contains_key.ensures ∙ c.if-contains_key.false in
    kept-new c.args.tracked c.args.firsts.now lines
    (record { elem = c.args.line; depth = c.args.depth }) channel has c.insert.new.self new
    (subst (λ (key : ElemKey). (q : ElemKey) → get key_cmp c.insert.new.self q
    ≡ cond (is_eq (key_cmp key q)) (Some c.args.depth) (get key_cmp c.args.firsts.now q))
    c.line_key-key.ensures c.in_ok-insert.ensures.updates.0)
