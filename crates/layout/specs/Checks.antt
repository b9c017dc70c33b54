-- Blocks and their checks (document 01, "The sheet in 512-byte blocks"): read, and written.
use Rattle.std.specs.Prelude.{ℕ, suc, ◌+◌, ◌*◌, ◌%◌, ◌≤◌, Bool, List, [], ◌∷◌, ◌++◌, eqb, length, take, drop}
use Rattle.numbers.specs.Bytes.{u16_at, pair}
use Rattle.layout.specs.Limits.{block_bytes, content_bytes, modulus}

-- the sum over i of (w + i) times byte i
unfoldable pub weighted : ℕ → List ℕ → ℕ
weighted w [] = 0
weighted w (b ∷ bs) = w * b + weighted (suc w) bs

-- the check of block k with this content: k + 1 plus the sum of (i + 1) times byte i, modulo 65,521
unfoldable pub check_of : ℕ → List ℕ → ℕ
check_of k bytes = (k + 1 + weighted 1 bytes) % modulus

-- block k's content and the check that it holds
abbrev pub content : List ℕ → ℕ → List ℕ
content s k = take content_bytes (drop (block_bytes * k) s)

abbrev pub stored_check : List ℕ → ℕ → ℕ
stored_check s k = u16_at s (block_bytes * k + content_bytes)

-- block k's check is right: compared exactly
unfoldable pub block_right : List ℕ → ℕ → Bool
block_right s k = eqb (check_of k (content s k)) (stored_check s k)

-- block k is wholly inside the bytes
abbrev pub Inside : List ℕ → ℕ → Type 0
Inside s k = block_bytes * k + block_bytes ≤ length s

-- written: the blocks from number k on, by their contents
unfoldable pub sealed : ℕ → List (List ℕ) → List ℕ
sealed k [] = []
sealed k (c ∷ cs) = (c ++ pair (check_of k c)) ++ sealed (suc k) cs
