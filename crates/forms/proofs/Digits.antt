-- Lists of digits with one more digit behind them. Assumes nothing.
use Prim.Native.Nat.{ℕ, ◌+◌, ◌*◌, ◌<◌}
use mathlib.Core.Path.{◌≡◌, refl}
use mathlib.Core.List.{List, [], ◌∷◌, ◌++◌, map, map-append}
use borrow.Author.Tests.{lt-ltb}
use Rattle.smtlib.specs.Terms.{number_from}
use Rattle.smtlib.specs.Spelling.{digit_byte}
use Rattle.smtlib.proofs.Spelling.{Digits}

-- their number
pub number_append : (base n : ℕ) (ds : List ℕ) (d : ℕ) → number_from base n (ds ++ (d ∷ [])) ≡ number_from base n ds * base + d
number_append base n [] d = refl
number_append base n (e ∷ ds) d = number_append base (n * base + e) ds d

-- each is one
pub digits_append : (base : ℕ) (ds : List ℕ) {d : ℕ} → Digits base ds → d < base → Digits base (ds ++ (d ∷ []))
digits_append base [] h l = (l, tt)
digits_append base (e ∷ ds) h l = (h.0, digits_append base ds h.1 l)

-- their bytes
pub digit-byte : (d : ℕ) → d < 10 → 48 + d ≡ digit_byte d
unfolding digit_byte
digit-byte d h = rw (lt-ltb d 10 h)

pub bytes-append : {t : List ℕ} (ds : List ℕ) (d : ℕ) → d < 10 → t ≡ map digit_byte ds → t ++ ((48 + d) ∷ []) ≡ map digit_byte (ds ++ (d ∷ []))
bytes-append ds d h e = rw (e, map-append digit_byte ds (d ∷ []), digit-byte d h)
