-- No second answer and no second room fits the statement of a call. Assumes nothing.
use mathlib.Core.Path.{◌≡◌, refl, sym, ap, ap₂, ◌∙◌}
use mathlib.Core.Bool.{Bool, true, false}
use mathlib.Core.List.{List, [], ◌++◌}
use Prim.Native.Nat.{ℕ}
use native.Mathlib.Omega.{arith}
use lib.IntN.{ℤ}
use lib.ListN.{take, drop, take-append-drop}
use Rattle.lists.proofs.PartLaws.{part-once}
use Rattle.numbers.specs.declared.Range.{Range}
use Rattle.meaning.specs.Odometer.{told, Lowered, Advanced}
use Rattle.refusals.proofs.SaidLaws.{said-once}
use Rattle.blocks.proofs.Unique.{block-once}
use Rattle.reading.proofs.Unique.{read-once, accept-once, name-once}
use Rattle.cases.proofs.Unique.{check-once, tally-once}
use Rattle.writer.proofs.Unique.{write-once}
use Rattle.replies.proofs.Unique.{reach-once, one-case}
use Rattle.trial.proofs.Unique.{reply-once, reply-into-once, digits-once, span-once}
use Rattle.scan.proofs.Unique.{scan-once}
use Rattle.building.proofs.Unique.{build-once}
use Rattle.capi.specs.Codes.{reply_code}
use Rattle.capi.proofs.ReplyLaws.{digits-code-once}
use Rattle.agreement.specs.Statements.{OneAnswer}
use Rattle.agreement.specs.Between.{OneBetween}

-- a row is its first numbers and the others
same_row : (v : ℕ) {x y : List ℤ} → take v x ≡ take v y → drop v x ≡ drop v y → x ≡ y
same_row v {x} {y} a b = sym (take-append-drop v x) ∙ ap₂ ◌++◌ a b ∙ take-append-drop v y

module _ {domains : ℕ → Range} {v : ℕ} {old : List ℤ} where
  pub lowest-once : {x y : List ℤ} → Lowered domains v old x → Lowered domains v old y → x ≡ y
  lowest-once h g = same_row v (h.case ∙ sym g.case) (h.others ∙ sym g.others)

  pub advance-once : {x y : List ℤ} {r t : Bool} → Advanced domains v old r x → Advanced domains v old t y → (r ≡ t) × (x ≡ y)
  advance-once {x} {y} {r} {t} h g = by r t refl refl (sym h.case ∙ g.case)
    where
      others : drop v x ≡ drop v y
      others = h.others ∙ sym g.others

      by : (b c : Bool) → r ≡ b → t ≡ c → told r (take v x) ≡ told t (take v y) → (r ≡ t) × (x ≡ y)
      by true true p q e = (p ∙ sym q, same_row v (cc) others)
      by true false p q e = absurd (let z : ◌≡◌ {A = ℕ} 0 1 = cc in omega arith)
      by false true p q e = absurd (let z : ◌≡◌ {A = ℕ} 0 1 = cc in omega arith)
      by false false p q e = (p ∙ sym q, same_row v (h.wrapped p ∙ sym (g.wrapped q)) others)

pub one_answer : OneAnswer
one_answer = record {
  read = read-once;
  name = name-once;
  block = block-once;
  check = λ s before x y r t. check-once;
  tally = λ s r t. tally-once;
  write-script = λ f s before x y r t. write-once;
  reply = λ s reply r t. reply-once;
  reply-into = λ s reply before x y r t. reply-into-once;
  digits = digits-once;
  digits-span = λ s reply variable a n b m. span-once;
  ragwashin-check = λ s before x y r t h g. (h.code ∙ sym g.code, h.room ∙ sym g.room);
  ragwashin-script = λ f s before x y r t h g. (h.code ∙ sym g.code, h.room ∙ sym g.room);
  ragwashin-reply = λ s reply r t h g. h.code ∙ ap reply_code (reply-once h.replies g.replies) ∙ sym g.code;
  ragwashin-digits = λ s reply variable r t. digits-code-once;
}

pub one-between : OneBetween
one-between = record {
  step = λ said r t. said-once r t;
  accept = accept-once;
  part = λ whole p q a n. part-once;
  lowest = λ domains v old x y. lowest-once;
  advance = λ domains v old x y r t. advance-once;
  writes = λ text before x y at m n h g. (h.place ∙ sym g.place, h.room ∙ sym g.room);
  lines = λ n x y h g. h.of [] ∙ sym (g.of []);
  reach = reach-once;
  numbers = λ v reply before x y h g. same_row v (one-case h.case g.case) (h.others ∙ sym g.others);
  scan = scan-once;
  build = build-once;
}
