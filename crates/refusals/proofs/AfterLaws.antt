-- A row after another answer: refusal n at p, where m is more than k. Assumes nothing.
use Prim.Native.Nat.{ℕ, ◌≤◌, ◌<◌}
use mathlib.Core.Path.{◌≡◌, ◌∙◌}
use mathlib.Core.Option.{Option, none, some}
use borrow.Author.Tests.{leb-true, le-leb, lt-leb}
use lib.Dec.{leb}
use Rattle.lists.specs.First.{◌otherwise◌}
use Rattle.lists.proofs.FirstLaws.{neither, otherwise-none}
use Rattle.refusals.specs.declared.Refusal.{Refusal}
use Rattle.refusals.specs.Said.{unless}
use Rattle.refusals.proofs.SaidLaws.{unless-none, unless-true, unless-false}

-- no answer: the first is none, and m is at most k
pub passes : {a : Option Refusal} (m k n p : ℕ) → a ≡ none → m ≤ k → a otherwise unless (leb m k) n p ≡ none
passes m k n p e h = otherwise-none _ e ∙ unless-true n p (le-leb m k h)

pub passed : (a : Option Refusal) (m k n p : ℕ) → a otherwise unless (leb m k) n p ≡ none → (a ≡ none) × (m ≤ k)
passed a m k n p e = let w = neither a _ e in (w.0, leb-true m k (unless-none _ n p w.1))

-- the row's answer: the first is none, and m is more than k
pub stops : {a : Option Refusal} (m k n p : ℕ) → a ≡ none → k < m → a otherwise unless (leb m k) n p ≡ some (record { number = n; place = p })
stops m k n p e h = otherwise-none _ e ∙ unless-false n p (lt-leb m k h)
