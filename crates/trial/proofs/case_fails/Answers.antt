-- `trial::case_fails` meets its contract: the values' refusal, or by the rule in the case. Assumes nothing.
use mathlib.Core.Path.{◌≡◌, sym, ap, ◌∙◌}
use borrow.Author.Rules.{rules}
use Rattle.std.specs.Prelude.{Err}
use Rattle.refusals.specs.Said.{said_of}
use Rattle.reading.proofs.RuleLaws.{accepted-inside}
use Rattle.trial.proofs.TryLaws.{by_values, standing, by-holding, by-failing}
use Rattle.trial.proofs.case_fails.Goals as goal

pub values_in-requires : goal.values_in-requires
values_in-requires c = rw c.bytes-bytes.ensures.same (accepted-inside _ c.bytes-bytes.ensures.accepted)

pub returns-in_err-values_in : goal.returns-in_err-values_in
returns-in_err-values_in c =
    let d : c.from_residual.result ≡ Err c.in_err-values_in.field-0.0 = search rules in
    ap said_of d ∙ by_values _ _ (rw c.bytes-bytes.ensures.same at c.in_err-values_in.ensures)

pub holds_at-holds-requires : goal.holds_at-holds-requires
holds_at-holds-requires c = rw c.bytes-bytes.ensures.same (standing _ c.bytes-bytes.ensures.accepted c.requires (sym (rw c.bytes-bytes.ensures.same at c.in_ok-values_in.ensures)))

pub returns-then-holds : goal.returns-then-holds
returns-then-holds c = by-holding _ _ (rw c.bytes-bytes.ensures.same at c.in_ok-values_in.ensures) (rw c.bytes-bytes.ensures.same at c.holds_at-holds.ensures) c.if-holds.true

pub returns : goal.returns
returns c = by-failing _ _ (rw c.bytes-bytes.ensures.same at c.in_ok-values_in.ensures) (rw c.bytes-bytes.ensures.same at c.holds_at-holds.ensures) c.if-holds.false
