use Rattle.std.proofs.Common.{◌≡◌, ◌<◌, ◌^◌, List, length, get_or, take, ap, ◌∙◌, subst, arith}
use Rattle.std.proofs.lemmas.List.Elements.{All-more, All-nil}
use Rattle.std.proofs.Math.Seq.{take-length}
use Rattle.sat_arena.specs.declared.moves.Move.{Move}
use Rattle.sat_arena.specs.Store.{ref}
use Rattle.sat_watch.specs.Relinking.{AreNear, IsRelinking}
use Rattle.sat_watch.proofs.RelinkLemmas.{count_of_moves, count_same, pair_few, pair_leads, relink_head, relink_held, relinking_begins, relinking_ends, relinks_on}
use Rattle.sat_watch.proofs.links.link_all.Goals as goal
use Rattle.sat_watch.proofs.links.link_all.Goals.{After-deref-pair-items}

abbrev no_move : Move
no_move = record { before = ref 0; after = ref 0 }

abbrev IsNear : Move → Type 0
IsNear m = m.after.word < 2 ^ 63

items_are : (c : After-deref-pair-items) → c.deref-pair-items.result.now ≡ c.args.moves.now
items_are c = c.deref-pair-items.ensures.value ∙ c.moves.view_is

pub relink-requires : goal.relink-requires
relink-requires c =
    let l = c.loop-pair in let is = items_are (goal.at.relink-requires c).After-deref-pair-items in
    let few : l.pair-index < length c.args.moves.now =
    omega (arith, ap length is, c.loop-pair-test.true) in
    let lt = pair_few c.args.moves.now no_move l.invariant.relinking c.requires.references few in
    let at = ap (λ (ms : List Move). (get_or ms l.pair-index no_move).after) is ∙
    pair_leads c.args.moves.now no_move l.invariant.relinking c.requires.references few in
    let head = relink_head c.requires.unlinked.simple l.invariant.relinking lt at in
    record {
      few = c.requires.unlinked.few;
      wide = l.invariant.relinking.chained.many;
      held = relink_held c.requires.unlinked.simple l.invariant.relinking lt at;
      first = head 0 (omega arith);
      second = head 1 (omega arith);
    }

pub loop-pair-init : goal.loop-pair-init
loop-pair-init c =
    record {
      relinking =
          relinking_begins c.args.vars c.args.arena.now.clauses c.args.heads.now.items
          c.requires.unlinked;
      near = All-nil IsNear;
    }

pub loop-pair-preserved : goal.loop-pair-preserved
loop-pair-preserved c =
    let l = c.loop-pair in
    let is = items_are (goal.at.loop-pair-preserved c).After-deref-pair-items in
    let few : l.pair-index < length c.args.moves.now =
    omega (arith, ap length is, c.loop-pair-test.true) in
    let lt = pair_few c.args.moves.now no_move l.invariant.relinking c.requires.references few in
    let at = ap (λ (ms : List Move). (get_or ms l.pair-index no_move).after) is ∙
    pair_leads c.args.moves.now no_move l.invariant.relinking c.requires.references few in
    record {
      relinking =
          subst (λ n. IsRelinking c.args.vars c.args.arena.now.clauses n c.relink.new.arena.clauses
          c.relink.new.heads.items) (omega arith)
          (relinks_on c.requires.unlinked.simple l.invariant.relinking lt at
          c.relink.new.arena.clauses c.relink.new.heads.items c.relink.ensures.clauses
          c.relink.ensures.heads);
      near =
          All-more IsNear c.args.moves.now l.pair-index no_move few l.invariant.near
          (subst (λ (ms : List Move). IsNear (get_or ms l.pair-index no_move)) is
          c.relink.ensures.near);
    }

pub returns : goal.returns
returns c =
    let l = c.loop-pair in let is = items_are (goal.at.returns c).After-deref-pair-items in
    let end : l.pair-index ≡ length l.arena.clauses =
    omega (
      arith,
      ap length is,
      count_of_moves c.args.arena.now.clauses c.args.moves.now
          c.requires.references,
      count_same l.invariant.relinking,
    ) in
    let all : l.pair-index ≡ length c.args.moves.now = omega (arith, ap length is) in
    record {
      clauses = l.invariant.relinking.same;
      chained = relinking_ends l.invariant.relinking end;
      near =
          subst AreNear (ap (λ n. take n c.args.moves.now) all ∙ take-length c.args.moves.now)
          l.invariant.near;
    }
