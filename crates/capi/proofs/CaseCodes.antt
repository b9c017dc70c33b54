-- The numbers that the check and the tally give in C tell their answers. Assumes nothing.
use Prim.Native.Nat.{ℕ, ◌+◌, ◌*◌, ◌/◌, ◌%◌, ◌^◌, ◌≤◌, ◌<◌}
use mathlib.Core.Path.{◌≡◌, refl, sym, ap, ap₂, ◌∙◌}
use mathlib.Core.Bool.{Bool, true, false}
use mathlib.Core.List.{List}
use mathlib.Core.Option.{Option, none, some}
use native.Mathlib.Omega.{arith}
use lib.IntN.{ℤ}
use lib.ListN.{length}
use Rattle.std.specs.Prelude.{Result, Ok, Err}
use Rattle.refusals.specs.declared.Refused.{Refused}
use Rattle.refusals.specs.Causes.{refusal_of as told_as}
use Rattle.refusals.specs.Said.{said_of}
use Rattle.refusals.specs.declared.Refusal.{Refusal}
use Rattle.meaning.specs.Cases.{first_failure, held, failed}
use Rattle.meaning.proofs.Counts.{case-count, held-failed}
use Rattle.layout.specs.Limits.{most_nodes}
use Rattle.layout.specs.Parts.{rule_in}
use Rattle.cases.specs.declared.Verdict.{Verdict}
use Rattle.cases.specs.declared.Tallied.{Tallied}
use Rattle.cases.specs.Checks.{try_refusal, check_refusal, checked_said, is_some, verdict, Checks}
use Rattle.cases.specs.Tallies.{unless_refused, Tallies}
use Rattle.cases.proofs.Exact.{tally-small, check-small}
use Rattle.cases.proofs.TryLaws.{few-cases}
use Rattle.capi.specs.Codes.{refusal_code, code_of, code_said, fails_code, CheckCodes, counts_code, tally_code}
use Rattle.capi.proofs.CodeLaws.{code-tells}

-- the code of an answer, and that of what decides it
abbrev verdict_code : Option Refusal × Bool → ℕ
verdict_code v = code_of v.0 (fails_code v.1)

verdict-code : (o : Option Refusal) (c : Option (List ℤ)) → verdict_code (verdict o c) ≡ code_of o (fails_code (is_some c))
verdict-code none c = refl
verdict-code (some r) c = refl

fails-small : (b : Bool) → fails_code b < 2 ^ 48
fails-small true = omega arith
fails-small false = omega arith

module _ (s : List ℕ) where
  -- ---- the check, by its answer
  module _ {before after : List ℤ} {a : Result Verdict Refused} (c : Checks most_nodes s before a after) where
    answer-is : {v : Option Refusal × Bool} → checked_said a ≡ v → verdict (check_refusal most_nodes s (length before)) (first_failure (rule_in s)) ≡ v
    answer-is e = sym c.answer ∙ e

    pub checked-code : {n : ℕ} {v : Option Refusal × Bool} → checked_said a ≡ v → n ≡ verdict_code v → CheckCodes most_nodes s before n after
    checked-code e d = record { code = d ∙ ap verdict_code (sym (answer-is e)) ∙ verdict-code (check_refusal most_nodes s (length before)) (first_failure (rule_in s)); room = c.room }

    pub checked-place : {q : Refused} → a ≡ Err q → q.place < most_nodes
    checked-place {q} d = go (check_refusal most_nodes s (length before)) refl (answer-is (ap checked_said d))
      where
        go : (o : Option Refusal) → check_refusal most_nodes s (length before) ≡ o → verdict o (first_failure (rule_in s)) ≡ (some (told_as q), false) → q.place < most_nodes
        go none e w = absurd (let z : ◌≡◌ {A = ℕ} 0 1 = cc (ap (λ (p : Option Refusal × Bool). p.0) w) in omega arith)
        go (some t) e w = (check-small s (length before) (e ∙ ap (λ (p : Option Refusal × Bool). p.0) w)).low-place

  -- the refusal, or 0 where the rule holds and 1 where it fails
  pub check-tells : {before after : List ℤ} {r : ℕ} → CheckCodes most_nodes s before r after → code_said r ≡ (check_refusal most_nodes s (length before), unless_refused (check_refusal most_nodes s (length before)) (fails_code (is_some (first_failure (rule_in s)))))
  check-tells {before} c = ap code_said c.code ∙ code-tells _ _ small (λ e. fails-small (is_some (first_failure (rule_in s))))
    where
      small : (r : Refusal) → check_refusal most_nodes s (length before) ≡ some r → (1 ≤ r.number) × (r.place < 2 ^ 48)
      small r e = let b = check-small s (length before) e in (b.some_number, omega (arith, b.low-place))

  -- ---- the tally
  module _ {t : Tallied} (c : Tallies most_nodes s t) where
    pub tally-place : {q : Refused} → t.reading ≡ Err q → q.place < most_nodes
    tally-place d = (tally-small s (sym c.answer ∙ ap said_of d)).low-place

    pub tally-refused : {q : Refused} → t.reading ≡ Err q → refusal_code (told_as q) ≡ tally_code most_nodes s
    tally-refused d = ap (λ (o : Option Refusal). code_of o (counts_code (held (rule_in s)) (failed (rule_in s)))) (sym (ap said_of d) ∙ c.answer)

    pub tally-counted : t.reading ≡ Ok tt → t.held * 2 ^ 24 + t.failed ≡ tally_code most_nodes s
    tally-counted d =
        let e : try_refusal most_nodes s ≡ none = sym c.answer ∙ ap said_of d in
        let h : t.held ≡ held (rule_in s) = c.held-count ∙ ap (λ (o : Option Refusal). unless_refused o (held (rule_in s))) e in
        let f : t.failed ≡ failed (rule_in s) = c.failed-count ∙ ap (λ (o : Option Refusal). unless_refused o (failed (rule_in s))) e in
        ap₂ counts_code h f ∙ ap (λ (o : Option Refusal). code_of o (counts_code (held (rule_in s)) (failed (rule_in s)))) (sym e)

  -- both counts are told by quotient and rest, and are below 2^24
  counts : try_refusal most_nodes s ≡ none → (counts_code (held (rule_in s)) (failed (rule_in s)) / 2 ^ 24 ≡ held (rule_in s)) × (counts_code (held (rule_in s)) (failed (rule_in s)) % 2 ^ 24 ≡ failed (rule_in s)) × (counts_code (held (rule_in s)) (failed (rule_in s)) < 2 ^ 48)
  counts e =
      let n = few-cases s e in
      let b = held-failed (rule_in s) in
      let l = case-count (rule_in s) in
      (omega arith, omega arith, omega arith)

  pub tally-tells : code_said (tally_code most_nodes s) ≡ (try_refusal most_nodes s, unless_refused (try_refusal most_nodes s) (counts_code (held (rule_in s)) (failed (rule_in s))))
  tally-tells = code-tells _ _ small (λ e. (counts e).2)
    where
      small : (r : Refusal) → try_refusal most_nodes s ≡ some r → (1 ≤ r.number) × (r.place < 2 ^ 48)
      small r e = let b = tally-small s e in (b.some_number, omega (arith, b.low-place))

  pub counts-tell : try_refusal most_nodes s ≡ none → ((code_said (tally_code most_nodes s)).1 / 2 ^ 24 ≡ held (rule_in s)) × ((code_said (tally_code most_nodes s)).1 % 2 ^ 24 ≡ failed (rule_in s))
  counts-tell e = let w = counts e in rw (tally-tells, e) (w.0, w.1)
