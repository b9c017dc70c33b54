-- A variable's digits are given or not; where they are, they lie inside the reply. Assumes nothing.
use Prim.Native.Nat.{ℕ, ◌+◌, ◌≤◌, ◌<◌}
use mathlib.Core.Path.{◌≡◌, refl}
use mathlib.Core.Bool.{Bool, true, false, cond}
use mathlib.Core.List.{List}
use mathlib.Core.Option.{none}
use native.Mathlib.Decide.{dec_lt}
use native.Mathlib.Omega.{arith}
use denote.Ref.{Bor}
use lib.Dec.{eqb}
use lib.ListN.{length, get_or}
use Rattle.std.specs.Prelude.{Result, Ok, Err}
use Rattle.refusals.specs.declared.Refused.{Refused}
use Rattle.lists.specs.Part.{PartAt}
use Rattle.layout.specs.Parts.{variable_count}
use Rattle.reading.specs.Cascade.{refusal_of}
use Rattle.replies.specs.Replies.{hex_digits, binary_digits}
use Rattle.replies.proofs.SatLaws.{not-both}
use Rattle.digits.specs.Hashes.{place_behind, digits_place, digits_size}
use Rattle.digits.specs.Ready.{Based}
use Rattle.digits.proofs.DigitLaws.{setting-based}
use Rattle.trial.specs.declared.Replied.{Replied}
use Rattle.trial.specs.declared.Replied.TheVariants.{Unsat, Fails}
use Rattle.trial.specs.Replies.{Replies}
use Rattle.trial.specs.Digits.{DigitsGiven, DigitsPart, DigitsSpan}
use Rattle.refusals.proofs.RowLaws.{exactly-once}
use Rattle.layout.specs.Limits.{most_nodes}
use Rattle.trial.proofs.Answers.{silent-accepted, fails-decided}

module _ (s reply : List ℕ) where
  pub fails-accepted : Replies most_nodes s reply (Ok Fails) → refusal_of most_nodes s ≡ none
  fails-accepted h = silent-accepted s reply h refl

  module _ (i : ℕ) where
    pub given-decided : Dec (DigitsGiven most_nodes s reply i)
    given-decided = go (fails-decided s reply) (dec_lt i (variable_count s))
      where
        go : Dec (Replies most_nodes s reply (Ok Fails)) → Dec (i < variable_count s) → Dec (DigitsGiven most_nodes s reply i)
        go (yes h) (yes l) = yes (h, l)
        go (yes h) (no n) = no (λ g. n g.1)
        go (no n) d = no (λ g. n g.0)

    pub given-based : DigitsGiven most_nodes s reply i → Based reply (place_behind i 0 reply)
    given-based g = setting-based g.0.told.1.spelled i g.1

    -- there is a digit, and the last one lies inside the reply
    size-by : (b : Bool) → (1 ≤ cond b hex_digits binary_digits) × (cond b hex_digits binary_digits ≤ binary_digits)
    size-by true = (omega arith, omega arith)
    size-by false = (omega arith, omega arith)

    pub digits-few : digits_size i reply ≤ binary_digits
    digits-few = (size-by (eqb (get_or reply (place_behind i 0 reply) 0) 120)).1

    pub given_inside : DigitsGiven most_nodes s reply i → (1 ≤ digits_size i reply) × (digits_place i reply + digits_size i reply ≤ length reply)
    given_inside g = ((size-by (eqb (get_or reply (place_behind i 0 reply) 0) 120)).0, (given-based g).behind)

    -- ---- the span
    pub given-span : {start size : ℕ} → DigitsGiven most_nodes s reply i → start ≡ digits_place i reply → size ≡ digits_size i reply → DigitsSpan most_nodes s reply i start size
    given-span g e f = record { given = λ k. (e, f); absent = λ n. absurd (n g) }

    pub no_span : (DigitsGiven most_nodes s reply i → ⊥) → DigitsSpan most_nodes s reply i 0 0
    no_span n = record { given = λ g. absurd (n g); absent = λ k. (refl, refl) }

    pub span-inside : {start size : ℕ} → DigitsSpan most_nodes s reply i start size → start + size ≤ length reply
    span-inside {start} {size} h = go given-decided
      where
        go : Dec (DigitsGiven most_nodes s reply i) → start + size ≤ length reply
        go (yes g) = let w = h.given g in omega (arith, (given_inside g).1)
        go (no n) = let w = h.absent n in omega arith

  -- what is no failing case gives nothing
  module _ {r : Result Replied Refused} (h : Replies most_nodes s reply r) {i : ℕ} where
    pub unsat-none : r ≡ Ok Unsat → DigitsGiven most_nodes s reply i → ⊥
    unsat-none e g = not-both (rw e at h.told) g.0.told.1.spelled

    pub refused_none : {q : Refused} → r ≡ Err q → DigitsGiven most_nodes s reply i → ⊥
    refused_none e g = let z : ◌≡◌ {A = ℕ} 0 1 = cc (exactly-once _ _ (rw e at h.refusals) g.0.refusals) in omega arith

-- the part by its span
pub span-part : {s : List ℕ} {i : ℕ} {reply part : Bor (List ℕ)} {start size : ℕ} → DigitsSpan most_nodes s reply.now i start size → PartAt reply part start size → DigitsPart most_nodes s reply i part
span-part h p = record { given = λ g. let w = h.given g in rw (w.0, w.1) at p; absent = λ n. let w = h.absent n in rw (w.0, w.1) at p }
