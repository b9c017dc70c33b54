-- Follows the code: where a scan stands in a text, where the next word leads, and where it stops.
use Rattle.std.specs.Prelude.{ℕ, zero, suc, ◌+◌, ◌*◌, ◌≤◌, ◌<◌, ◌≡◌, Bool, true, false, cond, List, leb, length, get_or, drop, Some, None, Result, Ok, Err}
use Rattle.std.specs.Prelude as prelude
use Rattle.std.proofs.Math.Option.{Option, none, some}
use Rattle.lists.specs.Ascii.{ascii}
use Rattle.lists.specs.Names.{same_bytes}
use Rattle.grammar.specs.Words.{word_length}
use Rattle.grammar.specs.Words as words
use Rattle.texts.specs.Numbers.{is_number}
use Rattle.texts.specs.Places.{separates, first_word, is_plain_name, operands_of, behind_line, behind_var, names_in, Place, line, named, least, most, operand, done, allowed, reach}
use Rattle.words.specs.Operands.{counted}
use Rattle.scan.specs.declared.Phase.{Phase}
use Rattle.scan.specs.declared.Phase.TheVariants.{Line, Named, Least, Most, Operand, Done}
use Rattle.scan.specs.declared.Here.{Here}
use Rattle.scan.specs.declared.Onward.{Onward}

-- ---- where it stands

abbrev pub place_in : List (List ℕ) → Phase → ℕ → Place
place_in names Line n = line names
place_in names Named n = named names
place_in names Least n = least names
place_in names Most n = most names
place_in names Operand n = operand names n
place_in names Done n = done

abbrev pub place_at : List ℕ → Here → Place
place_at s h = place_in (names_in h.declared s) h.phase h.pending

-- the next word, and where it ends
abbrev pub word_at : List ℕ → Here → List ℕ
word_at s h = first_word (drop h.start s)

abbrev pub end_at : List ℕ → Here → ℕ
end_at s h = h.start + word_length separates (drop h.start s)

-- behind n lines
unfoldable pub behind_lines : ℕ → List ℕ → List ℕ
behind_lines zero s = s
behind_lines (suc n) s = behind_lines n (behind_line s)

-- how the lines of n names lie in the text s, of which t is left
abbrev pub LinesAt : Phase → ℕ → List ℕ → List ℕ → Type 0
LinesAt Line n s t = behind_lines n s ≡ t
LinesAt Named n s t = (drop behind_var (behind_lines n s) ≡ t) × (behind_line (behind_lines n s) ≡ behind_line t)
LinesAt Least n s t = behind_lines n s ≡ behind_line t
LinesAt Most n s t = behind_lines n s ≡ behind_line t
LinesAt Operand n s t = Unit {0}
LinesAt Done n s t = Unit {0}

pub record Stands (s : List ℕ) (h : Here) : Type 0 where
  pub inside : h.start ≤ length s
  pub few-operands : h.pending ≤ 2 * h.start
  pub few-names : h.declared ≤ h.start
  pub lines : LinesAt h.phase h.declared s (drop h.start s)

-- ---- where a word leads

abbrev pub to : ℕ → Phase → ℕ → ℕ → prelude.Option Onward
to c p n d = Some (record { separator = c; phase = p; pending = n; declared = d })

abbrev pub nowhere : prelude.Option Onward
nowhere = None

abbrev pub from_line : ℕ → List ℕ → prelude.Option Onward
from_line d w = cond (same_bytes (ascii "var") w) (to 32 Named 0 d) (cond (same_bytes (ascii "goal") w) (to 32 Operand 0 d) nowhere)

abbrev pub from_name : ℕ → List ℕ → prelude.Option Onward
from_name d w = cond (is_plain_name w) (to 32 Least 0 (suc d)) nowhere

-- behind a number come this separator and this phase
abbrev pub from_number : ℕ → Phase → ℕ → List ℕ → prelude.Option Onward
from_number c p d w = cond (is_number w) (to c p 0 d) nowhere

-- with so many operands to come
abbrev pub to_operand : ℕ → ℕ → prelude.Option Onward
to_operand d zero = to 10 Done 0 d
to_operand d (suc n) = to 32 Operand n d

abbrev pub from_count : ℕ → ℕ → ℕ → prelude.Option Onward
from_count d n zero = nowhere
from_count d n (suc k) = to_operand d (k + n)

abbrev pub from_operand : List ℕ → ℕ → ℕ → List ℕ → prelude.Option Onward
from_operand s d n w = from_count d n (counted (operands_of (names_in d s) w))

abbrev pub from_phase : Phase → List ℕ → ℕ → ℕ → List ℕ → prelude.Option Onward
from_phase Line s d n w = from_line d w
from_phase Named s d n w = from_name d w
from_phase Least s d n w = from_number 32 Most d w
from_phase Most s d n w = from_number 10 Line d w
from_phase Operand s d n w = from_operand s d n w
from_phase Done s d n w = nowhere

abbrev pub onward_at : List ℕ → Here → List ℕ → prelude.Option Onward
onward_at s h w = from_phase h.phase s h.declared h.pending w

-- ---- a step

-- the next word may stand there, and so may the separator behind it: g stands behind both
pub record Went (s : List ℕ) (h g : Here) : Type 0 where
  pub stands : Stands s g
  pub inside : end_at s h < length s
  pub behind : g.start ≡ end_at s h + 1
  pub word : allowed (place_at s h) (word_at s h) ≡ some (record { separator = get_or s (end_at s h) 0; place = place_at s g })

-- or not
abbrev pub Stuck : List ℕ → Here → Type 0
Stuck s h = (x : words.Onward Place) → end_at s h < length s → allowed (place_at s h) (word_at s h) ≡ some x → x.separator ≡ get_or s (end_at s h) 0 → ⊥

-- there is a way on, or none
abbrev pub Steps : List ℕ → Here → prelude.Option Here → Type 0
Steps s h (Some g) = Went s h g
Steps s h None = Stuck s h

-- ---- where it stops

abbrev pub stop_of : Result Unit ℕ → Option ℕ
stop_of (Ok _) = none
stop_of (Err p) = some p

abbrev pub is_done : Phase → Bool
is_done Line = false
is_done Named = false
is_done Least = false
is_done Most = false
is_done Operand = false
is_done Done = true

-- behind the goal
abbrev pub stop_done : List ℕ → ℕ → Option ℕ
stop_done s k = cond (leb (length s) k) none (some k)

abbrev pub stop_at : List ℕ → Here → Option ℕ
stop_at s h = cond (is_done h.phase) (stop_done s h.start) (some (h.start + reach (place_at s h) (word_at s h)))
