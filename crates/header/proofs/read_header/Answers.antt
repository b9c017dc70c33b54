-- `read_header` meets its contract, test by test. Assumes nothing.
use mathlib.Core.Path.{sym, ◌∙◌}
use Rattle.layout.specs.Limits.{most_nodes}
use Rattle.header.proofs.HeaderLaws.{counts-at, edition-refuses, counts-refuse, outside-refuses, tests-pass}
use Rattle.header.proofs.read_header.Goals as goal
use Rattle.header.proofs.read_header.Goals.{then-not-counts_right-via-then-not-counts_right, then-not-counts_right-via-else-not-counts_right+then-not-outside_clear}

pub returns-then-u16_at-ne1 : goal.returns-then-u16_at-ne1
returns-then-u16_at-ne1 c = sym (edition-refuses most_nodes _ (λ e. c.if-u16_at-ne1.true (c.u16_at.ensures ∙ e)))

pub outside_clear-requires : goal.outside_clear-requires
outside_clear-requires c =
    let h = counts-at most_nodes _ (sym c.counts_right.ensures ∙ c.if-not-counts_right.false) in
    (h.size, h.few, h.most)

pub returns-then-not-counts_right : goal.returns-then-not-counts_right
returns-then-not-counts_right c =
    let edition = sym c.u16_at.ensures ∙ c.if-u16_at-ne1.false in
    elim c.then-not-counts_right.branch [
      | then-not-counts_right-via-then-not-counts_right w ↦ sym (counts-refuse most_nodes _ edition (sym c.counts_right.ensures ∙ w.if-not-counts_right.true))
      | then-not-counts_right-via-else-not-counts_right+then-not-outside_clear w ↦ sym (outside-refuses most_nodes _ edition (sym w.outside_clear.ensures ∙ w.if-not-outside_clear.true))
    ]

pub returns : goal.returns
returns c =
    sym (tests-pass most_nodes _ (sym c.u16_at.ensures ∙ c.if-u16_at-ne1.false)
    (sym c.counts_right.ensures ∙ c.if-not-counts_right.false)
    (sym c.outside_clear.ensures ∙ c.if-not-outside_clear.false))
