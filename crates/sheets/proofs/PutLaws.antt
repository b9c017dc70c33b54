-- What the functions that put a sheet into its room lean on. Assumes nothing.
use Prim.Native.Nat.{ℕ, ◌+◌, ◌<◌}
use mathlib.Core.Path.{◌≡◌, refl}
use mathlib.Core.List.{List}
use native.Mathlib.Numerals.{add-one}
use native.Mathlib.Omega.{arith}
use Rattle.numbers.specs.Bytes.{word_limit}
use Rattle.layout.specs.Checks.{check_of}
use Rattle.room.specs.Room.{within, Wrote}
use Rattle.sheets.specs.Laying.{with_check, with_checks}

-- two bytes have room for a check
pub check-narrow : (k : ℕ) (l : List ℕ) → check_of k l < word_limit
unfolding check_of
check-narrow k l = omega arith

-- a text that was written, by other words for it and for its place
pub written : {t u before after : List ℕ} {at place next : ℕ} → Wrote t before after at next → t ≡ u → at ≡ place → after ≡ within u place before
written w e p = rw (← e, ← p) w.room

-- ---- a loop that puts the checks
pub checks-none : (s : List ℕ) → s ≡ with_checks 0 s
unfolding with_checks
checks-none s = refl

pub checks-turn : (s : List ℕ) (k : ℕ) {r t : List ℕ} → r ≡ with_checks k s → t ≡ with_check k r → t ≡ with_checks (k + 1) s
unfolding with_checks
checks-turn s k e f = rw (f, e, add-one)
