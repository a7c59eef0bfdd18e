use Rattle.std.proofs.Common.{◌≡◌, get_or, None, refl, sym, ap, ◌∙◌, arith}
use Rattle.sat_arena.specs.Store.{stored_at, with_swap}
use Rattle.sat_watch.specs.Chains.{head_in, lit_at}
use Rattle.sat_watch.specs.TrailStore.{place_of}
use Rattle.sat_arena.proofs.StoreLaws.{held_changed}
use Rattle.sat_watch.proofs.StoredLemmas.{default_free}
use Rattle.sat_watch.proofs.TableLemmas.{place_within}
use Rattle.sat_watch.proofs.links.put_first.Goals as goal

pub set_link-requires-clause-held : goal.set_link-requires-clause-held
set_link-requires-clause-held c =
    rw c.swap.ensures.clauses
    (held_changed (with_swap c.args.at.which c.args.k) c.args.at.clause c.args.at.clause
    c.args.arena.now.clauses (λ k. refl) ∙ c.requires.held)

pub set_link-requires-clause-next : goal.set_link-requires-clause-next
set_link-requires-clause-next c = λ d e.
    let heads = c.args.heads.now.items in
    let below = place_within c.args.vars
    (lit_at (stored_at c.args.arena.now.clauses c.args.at.clause).lits c.args.k)
    c.requires.head.within in
    let found = c.index-heads-first.result in
    let first : c.place-first.result ≡ place_of c.args.vars
    (lit_at (stored_at c.args.arena.now.clauses c.args.at.clause).lits c.args.k) =
    c.place-first.ensures ∙ ap (λ l. place_of c.args.vars (lit_at l c.args.k))
    c.lits-lits.ensures.value in
    let there : head_in c.args.vars heads
    (lit_at (stored_at c.args.arena.now.clauses c.args.at.clause).lits c.args.k) ≡ found =
    default_free heads (place_of c.args.vars
    (lit_at (stored_at c.args.arena.now.clauses c.args.at.clause).lits c.args.k)) None
    found (omega (arith, below, c.requires.wide))
    ∙ (ap (λ n. get_or heads n found) (sym first)
    ∙ (ap (λ hs. get_or hs c.place-first.result found) (sym c.deref_mut-heads.ensures.value)
    ∙ sym c.index-heads-first.is)) in
    rw c.swap.ensures.clauses
    (held_changed (with_swap c.args.at.which c.args.k) c.args.at.clause d c.args.arena.now.clauses
    (λ k. refl) ∙ c.requires.head.held d
    (there ∙ (sym c.clause-next.ensures ∙ e)))
