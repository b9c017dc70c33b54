-- The rows of a reply: what they answer where the sheet is refused, where the reply leaves the grammar, where it claims unsat, and where it spells a case. Assumes nothing.
use Prim.Native.Nat.{ℕ, suc}
use mathlib.Core.Path.{◌≡◌, sym, ◌∙◌}
use mathlib.Core.Bool.{true, not, true≢false}
use mathlib.Core.List.{List}
use mathlib.Core.Option.{Option, none, some}
use native.Mathlib.Omega.{arith}
use borrow.Author.Tests.{not-true, not-false}
use lib.IntN.{ℤ}
use lib.ListN.{length}
use Rattle.lists.specs.First.{◌otherwise◌}
use Rattle.lists.proofs.Decided.{Decides, decides_and, decides-as, denied}
use Rattle.numbers.specs.declared.Range.{Range}
use Rattle.numbers.specs.Ranges.{In}
use Rattle.numbers.proofs.OrderTests.{decides-le_z}
use Rattle.refusals.specs.declared.Refusal.{Refusal}
use Rattle.refusals.specs.Said.{unless}
use Rattle.refusals.specs.Rows.{row, ◌then◌, each_of, Exactly}
use Rattle.refusals.proofs.RowLaws.{exactly-row, exactly-then, exactly-each}
use Rattle.meaning.specs.Rule.{domain_of, value_in}
use Rattle.meaning.specs.Cases.{holds}
use Rattle.layout.specs.Parts.{variable_count, rule_in}
use Rattle.reading.specs.Cascade.{refusal_of}
use Rattle.reading.proofs.Exact.{sheet-exactly}
use Rattle.grammar.specs.Begins.{Leaves}
use Rattle.grammar.proofs.BeginLaws.{place_inside, no_member, one_place}
use Rattle.replies.specs.Replies.{Reply}
use Rattle.replies.specs.Says.{Claims, SpellsCase, unsat, sat}
use Rattle.replies.proofs.SaysLaws.{says-reply}
use Rattle.replies.proofs.Unique.{one-case}
use Rattle.replies.proofs.SatLaws.{not-both}
use Rattle.trial.specs.Rows.{Row11, Row12, Row13, reply_rows}
use Rattle.trial.specs.Trying.{is_in, value_refusal, values_refusal, case_refusal}
use Rattle.refusals.proofs.EachLaws.{each_none, each-lowest}
use Rattle.layout.specs.Limits.{most_nodes}

pub decides-in : (d : Range) (x : ℤ) → Decides (is_in d x) (In d x)
unfolding is_in
decides-in d x = decides-as (decides_and (decides-le_z d.low x) (decides-le_z x d.high)) (λ p. record { low = p.0; high = p.1 }) (λ p. (p.low, p.high))

case-fits : {v : ℕ} {s : List ℕ} {c : List ℤ} → SpellsCase v s c → Reply v s
case-fits {v} {s} x = says-reply v s (sat x.setting x.spelled)

module _ (s reply : List ℕ) where
  -- the sheet's own refusal comes first
  pub refused-sheet : {r : Refusal} → refusal_of most_nodes s ≡ some r → Exactly (reply_rows most_nodes s reply) (some r)
  refused-sheet {r} e =
      let h : Exactly (reply_rows most_nodes s reply) (refusal_of most_nodes s otherwise none) = exactly-then (sheet-exactly most_nodes s) (λ d. absurd (let z : ◌≡◌ {A = ℕ} 0 1 = cc (d, e) in omega arith)) in
      rw e at h

  module _ (e : refusal_of most_nodes s ≡ none) where
    after-sheet : {o : Option Refusal} → Exactly (each_of (λ p. row 11 p (Row11 s reply p)) 0 (suc (length reply)) then each_of (λ i. row 12 i (Row12 s reply i)) 0 (variable_count s) then row 13 0 (Row13 s reply)) o → Exactly (reply_rows most_nodes s reply) o
    after-sheet {o} h =
        let g : Exactly (reply_rows most_nodes s reply) (refusal_of most_nodes s otherwise o) = exactly-then (sheet-exactly most_nodes s) (λ d. h) in
        rw e at g

    -- 11
    pub refused-11 : {p : ℕ} → Leaves (Reply (variable_count s)) reply p → Exactly (reply_rows most_nodes s reply) (some (record { number = 11; place = p }))
    refused-11 {p} h =
        after-sheet
        (exactly-then {q = none}
        (each-lowest (Row11 s reply) 11 (suc (length reply)) p (omega (arith, place_inside (Reply (variable_count s)) h)) h (λ i l g. omega (arith, one_place (Reply (variable_count s)) g h)))
        (λ d. absurd (let z : ◌≡◌ {A = ℕ} 0 1 = cc in omega arith)))

    fits-rows : Reply (variable_count s) reply → Exactly (each_of (λ p. row 11 p (Row11 s reply p)) 0 (suc (length reply))) none
    fits-rows h = each_none (Row11 s reply) 11 (suc (length reply)) (λ i l g. no_member (Reply (variable_count s)) g h)

    -- unsat is claimed: no row applies
    pub claimed : Claims reply → Exactly (reply_rows most_nodes s reply) none
    claimed f =
        after-sheet
        (exactly-then (fits-rows (says-reply (variable_count s) reply (unsat f)))
        (λ a. exactly-then (each_none (Row12 s reply) 12 (variable_count s) (λ i l g. not-both f g.1.spelled))
        (λ b. exactly-row {C = Row13 s reply} true 13 0 (λ t g. not-both f g.1.spelled) (λ t. absurd (true≢false t)))))

    -- a case is spelled: 12, then 13
    module _ {c : List ℤ} (x : SpellsCase (variable_count s) reply c) where
      values-rows : Exactly (each_of (λ i. row 12 i (Row12 s reply i)) 0 (variable_count s)) (values_refusal s c)
      unfolding values_refusal
      values-rows = exactly-each {table = λ i. row 12 i (Row12 s reply i)} {f = value_refusal s c} (variable_count s) 0 (λ i l m earlier. value_row i)
        where
          value_row : (i : ℕ) → Exactly (row 12 i (Row12 s reply i)) (value_refusal s c i)
          value_row i =
              let d = decides-in (domain_of (rule_in s) i) (value_in c i) in
              exactly-row (is_in (domain_of (rule_in s) i) (value_in c i)) 12 i (λ t g. g.2 (rw (one-case x g.1) at (d.0 t))) (λ t. (c, x, (denied d).0 t))

      holds_row : Exactly (row 13 0 (Row13 s reply)) (unless (not (holds (rule_in s) c)) 13 0)
      holds_row = exactly-row (not (holds (rule_in s) c)) 13 0 (λ t g. true≢false (sym (rw (← (one-case x g.1)) at g.2) ∙ not-true (holds (rule_in s) c) t)) (λ t. (c, x, not-false (holds (rule_in s) c) t))

      pub spelled-case : Exactly (reply_rows most_nodes s reply) (case_refusal s c)
      spelled-case = after-sheet (exactly-then (fits-rows (case-fits x)) (λ a. exactly-then values-rows (λ b. holds_row)))
