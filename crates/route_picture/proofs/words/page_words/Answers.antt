use Rattle.std.proofs.Common.{sym, ◌∙◌}
use Rattle.route_picture.proofs.PageLemmas.{none-asks, page-asked, page-left, page-stays}
use Rattle.route_picture.proofs.words.page_words.Goals as goal

pub returns-in_default-clause-words : goal.returns-in_default-clause-words
returns-in_default-clause-words c = sym (none-asks c.args.words.now c.in_default.ensures.cases).1

pub returns-in_default-clause-page : goal.returns-in_default-clause-page
returns-in_default-clause-page c = sym (none-asks c.args.words.now c.in_default.ensures.cases).0

pub returns-then-not-is_html-clause-words : goal.returns-then-not-is_html-clause-words
returns-then-not-is_html-clause-words c =
    sym (page-stays c.args.words.now c.in-Some.front.now c.in-Some.last.now
    c.in-Some.ensures.cases.0 (sym c.is_html.ensures ∙ c.if-not-is_html.true))

pub returns-then-not-is_html-clause-page : goal.returns-then-not-is_html-clause-page
returns-then-not-is_html-clause-page c =
    sym (page-asked c.args.words.now c.in-Some.front.now c.in-Some.last.now _
    c.in-Some.ensures.cases.0 (sym c.is_html.ensures ∙ c.if-not-is_html.true))

pub returns-clause-words : goal.returns-clause-words
returns-clause-words c =
    sym (page-left c.args.words.now c.in-Some.front.now c.in-Some.last.now
    c.in-Some.ensures.cases.0 (sym c.is_html.ensures ∙ c.if-not-is_html.false))

pub returns-clause-page : goal.returns-clause-page
returns-clause-page c =
    sym (page-asked c.args.words.now c.in-Some.front.now c.in-Some.last.now _
    c.in-Some.ensures.cases.0 (sym c.is_html.ensures ∙ c.if-not-is_html.false))
