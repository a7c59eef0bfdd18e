use Rattle.std.proofs.Common.{◌≡◌, get_or, None, refl, sym, ap, ◌∙◌, arith}
use Rattle.sat_arena.specs.Store.{stored_at, with_link}
use Rattle.sat_watch.specs.Chains.{head_in, lit_at}
use Rattle.sat_watch.specs.TrailStore.{place_of}
use Rattle.sat_arena.proofs.StoreLaws.{held_changed}
use Rattle.sat_watch.proofs.StoredLemmas.{default_free}
use Rattle.sat_watch.proofs.TableLemmas.{place_within}
use Rattle.sat_watch.proofs.links.link_first.Goals as goal

pub set_link-requires-2-clause-held : goal.set_link-requires-2-clause-held
set_link-requires-2-clause-held c =
    rw c.set_link.ensures.clauses
    (held_changed (with_link 0 c.clause-to_first.result) c.args.c c.args.c c.args.arena.now.clauses
    (λ k. refl) ∙ c.requires.held)

pub set_link-requires-2-clause-next : goal.set_link-requires-2-clause-next
set_link-requires-2-clause-next c = λ d e.
    let heads = c.args.heads.now.items in
    let below = place_within c.args.vars
    (lit_at (stored_at c.args.arena.now.clauses c.args.c).lits 1)
    c.requires.second.within in
    let second : c.place-second.result ≡ place_of c.args.vars
    (lit_at (stored_at c.args.arena.now.clauses c.args.c).lits 1) =
    c.place-second.ensures ∙ ap (λ l. place_of c.args.vars (lit_at l 1)) c.lits-lits.ensures.value
    in
    let there : head_in c.args.vars heads
    (lit_at (stored_at c.args.arena.now.clauses c.args.c).lits 1) ≡ c.index-2.result.now =
    default_free heads (place_of c.args.vars (lit_at (stored_at c.args.arena.now.clauses
    c.args.c).lits 1)) None
    c.index-2.result.now (omega (arith, below, c.requires.wide))
    ∙ (ap (λ n. get_or heads n c.index-2.result.now) (sym second) ∙ sym c.index-2.ensures) in
    rw c.set_link.ensures.clauses
    (held_changed (with_link 0 c.clause-to_first.result) c.args.c d c.args.arena.now.clauses
    (λ k. refl) ∙ c.requires.second.held d
    (there ∙ (sym c.clause-to_second.ensures ∙ e)))
