-- The numbers that `reply` and `digits` give in C tell their answers. Assumes nothing.
use Prim.Native.Nat.{ℕ, ◌+◌, ◌*◌, ◌/◌, ◌%◌, ◌^◌, ◌≤◌, ◌<◌}
use mathlib.Core.Path.{◌≡◌, refl, sym, ap, ap₂, ◌∙◌}
use mathlib.Core.List.{List}
use mathlib.Core.Option.{Option, none, some}
use native.Mathlib.Decide.{dec_lt}
use native.Mathlib.Omega.{arith}
use denote.Ref.{Bor}
use lib.ListN.{length}
use Rattle.std.specs.Prelude.{Result, Ok, Err}
use Rattle.refusals.specs.declared.Refused.{Refused}
use Rattle.refusals.specs.Causes.{refusal_of as told_as}
use Rattle.lists.proofs.PartLaws.{part-size}
use Rattle.refusals.specs.declared.Refusal.{Refusal}
use Rattle.layout.specs.Limits.{most_nodes}
use Rattle.replies.specs.Replies.{binary_digits}
use Rattle.digits.specs.Hashes.{digits_place}
use Rattle.trial.specs.declared.Replied.{Replied}
use Rattle.trial.specs.declared.Replied.TheVariants.{Unsat, Fails}
use Rattle.trial.specs.Replies.{Replies}
use Rattle.trial.specs.Digits.{DigitsGiven, DigitsPart, DigitsSpan}
use Rattle.trial.proofs.Exact.{reply-near}
use Rattle.trial.proofs.GivenLaws.{given-decided, digits-few, given_inside}
use Rattle.capi.specs.Codes.{told_of, code_said, tellable, reply_code, ReplyCodes, DigitsCodes}
use Rattle.capi.proofs.CodeLaws.{tellable-small, code-tells}

-- ---- reply
module _ {s reply : List ℕ} {a : Result Replied Refused} (h : Replies most_nodes s reply a) where
  pub reply-code : {b : Result Replied Refused} {n : ℕ} → a ≡ b → n ≡ reply_code b → ReplyCodes most_nodes s reply n
  reply-code d e = record { answer = a; replies = h; code = e ∙ ap reply_code (sym d) }

-- the refusal with its place, as far as 48 bits hold it; or 0 and 1
abbrev pub replied_told : Result Replied Refused → Option Refusal × ℕ
replied_told (Ok Unsat) = (none, 0)
replied_told (Ok Fails) = (none, 1)
replied_told (Err e) = (some (told_of e), 0)

pub reply-tells : {s reply : List ℕ} {r : ℕ} (c : ReplyCodes most_nodes s reply r) → code_said r ≡ replied_told c.answer
reply-tells {s} {reply} c = ap code_said c.code ∙ go c.answer c.replies
  where
    go : (a : Result Replied Refused) → Replies most_nodes s reply a → code_said (reply_code a) ≡ replied_told a
    go (Ok Unsat) h = code-tells none 0 (λ r e. absurd (let z : ◌≡◌ {A = ℕ} 0 1 = cc in omega arith)) (λ e. omega arith)
    go (Ok Fails) h = code-tells none 1 (λ r e. absurd (let z : ◌≡◌ {A = ℕ} 0 1 = cc in omega arith)) (λ e. omega arith)
    go (Err q) h = code-tells (some (told_of q)) 0 (λ r e. (let d : (told_as q).number ≡ r.number = cc in omega (arith, (reply-near h).some_number), let d : tellable q.place ≡ r.place = cc in omega (arith, tellable-small q.place))) (λ e. absurd (let z : ◌≡◌ {A = ℕ} 0 1 = cc in omega arith))

-- ---- digits
pub digits-code-once : {s reply : List ℕ} {i r t : ℕ} → DigitsCodes most_nodes s reply i r → DigitsCodes most_nodes s reply i t → r ≡ t
digits-code-once {s} {reply} {i} {r} {t} h g = go (given-decided s reply i) (dec_lt (digits_place i reply) (2 ^ 48))
  where
    go : Dec (DigitsGiven most_nodes s reply i) → Dec (digits_place i reply < 2 ^ 48) → r ≡ t
    go (yes d) (yes l) = h.given d l ∙ sym (g.given d l)
    go (yes d) (no n) = h.absent (λ e l. n l) ∙ sym (g.absent (λ e l. n l))
    go (no n) l = h.absent (λ d k. n d) ∙ sym (g.absent (λ d k. n d))

module _ {s reply : List ℕ} {i start size : ℕ} (h : DigitsSpan most_nodes s reply i start size) where
  pub digits-code : start < 2 ^ 48 → DigitsCodes most_nodes s reply i (start * 65536 + size)
  digits-code l = record { given = λ g k. ap₂ (λ (a n : ℕ). a * 65536 + n) (h.given g).0 (h.given g).1; absent = λ f. go f (given-decided s reply i) }
    where
      go : (DigitsGiven most_nodes s reply i → digits_place i reply < 2 ^ 48 → ⊥) → Dec (DigitsGiven most_nodes s reply i) → start * 65536 + size ≡ 0
      go f (yes g) = let e = (h.given g).0 in absurd (f g (omega arith))
      go f (no n) = let e = h.absent n in omega arith

  pub digits-size : size ≤ binary_digits
  digits-size = go (given-decided s reply i)
    where
      go : Dec (DigitsGiven most_nodes s reply i) → size ≤ binary_digits
      go (yes g) = let e = (h.given g).1 in omega (arith, digits-few s reply i)
      go (no n) = let e = (h.absent n).1 in omega arith

  pub digits-beyond : 2 ^ 48 ≤ start → DigitsCodes most_nodes s reply i 0
  digits-beyond l = record { given = λ g k. let e = (h.given g).0 in absurd (omega arith); absent = λ f. refl }

-- the part that `digits` hands back: as long as the code says, and where it says, as far as 48 bits hold its place
pub digits-tell : {s : List ℕ} {reply part : Bor (List ℕ)} {i r : ℕ} → DigitsPart most_nodes s reply i part → DigitsCodes most_nodes s reply.now i r → digits_place i reply.now < 2 ^ 48
    → (length part.now ≡ r % 65536) × (part.ref_ptr.1 ≡ reply.ref_ptr.1 + r / 65536)
digits-tell {s} {reply} {part} {i} {r} p c l = go (given-decided s reply.now i)
  where
    go : Dec (DigitsGiven most_nodes s reply.now i) → (length part.now ≡ r % 65536) × (part.ref_ptr.1 ≡ reply.ref_ptr.1 + r / 65536)
    go (yes g) =
        let d = given_inside s reply.now i g in
        let e = c.given g l in
        let n = part-size (p.given g) d.1 in
        let w = (p.given g).place in
        let k = digits-few s reply.now i in
        (omega arith, omega arith)
    go (no f) =
        let e = c.absent (λ g k. f g) in
        let n = part-size (p.absent f) (omega arith) in
        let w = (p.absent f).place in
        (omega arith, omega arith)
