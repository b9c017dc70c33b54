-- The numbers that calls which write bytes give in C; those of the writer of scripts tell its answers, with models and without. Assumes nothing.
use Prim.Native.Nat.{ℕ, ◌^◌, ◌≤◌, ◌<◌}
use mathlib.Core.Path.{◌≡◌, refl, ap, ◌∙◌}
use mathlib.Core.Bool.{Bool}
use mathlib.Core.List.{List}
use mathlib.Core.Option.{Option, none, some}
use native.Mathlib.Omega.{arith}
use lib.ListN.{length}
use Rattle.std.specs.Prelude.{Result, Ok, Err}
use Rattle.refusals.specs.declared.Refused.{Refused}
use Rattle.refusals.specs.Causes.{refusal_of as told_as}
use Rattle.refusals.specs.declared.Refusal.{Refusal}
use Rattle.layout.specs.Parts.{rule_in}
use Rattle.refusals.proofs.AfterLaws.{passed}
use Rattle.layout.specs.Limits.{most_nodes}
use Rattle.reading.specs.Cascade.{refusal_of}
use Rattle.cases.specs.Tallies.{unless_refused}
use Rattle.wording.specs.Form.{Form, sixteen}
use Rattle.wording.specs.Script.{script}
use Rattle.room.specs.Written.{written_said, written_verdict}
use Rattle.writer.specs.Writes.{script_refusal, Writes}
use Rattle.writer.proofs.ScriptLaws.{script-short}
use Rattle.writer.proofs.Exact.{script-small}
use Rattle.capi.specs.Codes.{code_of, code_said, written_code, ScriptCodes}
use Rattle.capi.proofs.CodeLaws.{low-place, code-tells}

-- ---- the code of an answer, and that of what decides it, where 48 bits hold the refusal's place
pub code-decided : (a : Result ℕ Refused) (o : Option Refusal) (t : List ℕ) → written_said a ≡ written_verdict o t → ((r : Refusal) → o ≡ some r → r.place < 2 ^ 48) → written_code a ≡ code_of o (length t)
code-decided (Ok n) none t e small = ap (λ (x : Option Refusal × ℕ). x.1) e
code-decided (Ok n) (some q) t e small = absurd (let z : ◌≡◌ {A = ℕ} 0 1 = cc (ap (λ (x : Option Refusal × ℕ). x.0) e) in omega arith)
code-decided (Err r) none t e small = absurd (let z : ◌≡◌ {A = ℕ} 0 1 = cc (ap (λ (x : Option Refusal × ℕ). x.0) e) in omega arith)
code-decided (Err r) (some q) t e small =
    let d : told_as r ≡ q = cc (ap (λ (x : Option Refusal × ℕ). x.0) e) in
    let p : r.place ≡ q.place = ap (λ (x : Refusal). x.place) d in
    let k : (told_as r).number ≡ q.number = ap (λ (x : Refusal). x.number) d in
    rw (k, p, ← (low-place q.place (small q refl)).0)

-- ---- scripts
module _ (models : Bool) (s : List ℕ) where
  abbrev form : Form
  form = sixteen models

  -- the refusal, or the bytes written
  pub script-tells : {before after : List ℕ} {r : ℕ} → ScriptCodes most_nodes form s before r after → code_said r ≡ (script_refusal most_nodes form s (length before), unless_refused (script_refusal most_nodes form s (length before)) (length (script form (rule_in s))))
  unfolding script_refusal
  script-tells {before} c = ap code_said c.code ∙ code-tells _ _ small answered
    where
      small : (r : Refusal) → script_refusal most_nodes form s (length before) ≡ some r → (1 ≤ r.number) × (r.place < 2 ^ 48)
      small r e = let b = script-small models s (length before) e in (b.some_number, omega (arith, b.low-place))

      answered : script_refusal most_nodes form s (length before) ≡ none → length (script form (rule_in s)) < 2 ^ 48
      answered e = omega (arith, script-short models s (passed (refusal_of most_nodes s) (length (script form (rule_in s))) (length before) 9 (length (script form (rule_in s))) e).0)

  pub script-code : {before after : List ℕ} {a : Result ℕ Refused} {n : ℕ} → Writes most_nodes form s before a after → n ≡ written_code a → ScriptCodes most_nodes form s before n after
  script-code {before} {after} {a} c e = record { code = e ∙ code-decided a (script_refusal most_nodes form s (length before)) (script form (rule_in s)) c.answer (λ r d. omega (arith, (script-small models s (length before) d).low-place)); room = c.room }
