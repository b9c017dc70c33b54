-- Follows the code: what is asked of a reply in which numbers are looked up, and what is left in the row for them.
use Rattle.std.specs.Prelude.{ℕ, ◌+◌, ◌≤◌, ◌<◌, ◌≡◌, List, map, ℤ, length, take, drop}
use Rattle.numbers.specs.Bytes.{word_limit}
use Rattle.layout.specs.Limits.{most_variables}
use Rattle.smtlib.specs.Tokens.{digit_value}
use Rattle.smtlib.specs.Terms.{number_of}
use Rattle.replies.specs.Says.{SpellsSetting, SpellsCase}
use Rattle.digits.specs.Hashes.{size_at, number_at}

-- digits whose number has 16 bits
pub record SixteenBits (base : ℕ) (digits : List ℕ) : Type 0 where
  pub some-base : 1 ≤ base
  pub small : number_of base (map digit_value digits) < word_limit

-- at place p stands an `x` or a `b`, and behind it as many digits as belong to it, with a number of 16 bits
pub record Based (reply : List ℕ) (p : ℕ) : Type 0 where
  pub inside : p < length reply
  pub behind : p + 1 + size_at reply p ≤ length reply
  pub small : number_at reply p < word_limit

-- the reply spells a setting of v numbers, and a row has room for them
pub record CaseSpelled (v : ℕ) (reply : List ℕ) : Type 0 where
  pub few : v ≤ most_variables
  pub setting : List ℕ
  pub spelled : SpellsSetting v reply setting

-- the first v numbers of the row are the case that the reply spells, and the others stay
pub record Numbered (v : ℕ) (reply : List ℕ) (before after : List ℤ) : Type 0 where
  pub case : SpellsCase v reply (take v after)
  pub others : drop v after ≡ drop v before
