-- Between crates: of each public function whose `ensures` is no mere equation, no second answer and no second room fits the predicate that it names.
-- The calls themselves have this in `Statements`: `OneAnswer`.
use Rattle.refusals.specs.declared.Refused.{Refused}
use Rattle.std.specs.Prelude.{ℕ, ◌≡◌, Bool, List, ℤ, Result}
use Rattle.std.proofs.Math.Option.{Option}
use Rattle.std.specs.Borrow.{Bor}
use Rattle.lists.specs.Part.{PartAt, SamePart}
use Rattle.numbers.specs.declared.Range.{Range}
use Rattle.meaning.specs.Odometer.{Lowered, Advanced}
use Rattle.refusals.specs.declared.Refusal.{Refusal}
use Rattle.refusals.specs.Said.{said_of}
use Rattle.layout.specs.Limits.{most_nodes}
use Rattle.reading.specs.Accepts.{Accepts}
use Rattle.room.specs.Room.{Wrote}
use Rattle.lines.specs.Lines.{LinesSize}
use Rattle.replies.specs.Answers.{Answers}
use Rattle.digits.specs.Ready.{Numbered}
use Rattle.scan.specs.Scanned.{ScanSays}
use Rattle.building.specs.declared.Built.{Built}
use Rattle.building.specs.Building.{Buildable, Builds}

-- the steps of the reading, an accepted sheet as a type, a name's part, the odometer, what writes into room, how long the lines of variables are, how far bytes begin a reply, and the numbers
-- that a reply spells; how far bytes begin a text, and the nodes of an expression that stands in one
pub record OneBetween : Type 0 where
  pub step : (said : Option Refusal) (r t : Result Unit Refused) → said_of r ≡ said → said_of t ≡ said → r ≡ t
  pub accept : (s : List ℕ) (r t : Result (List ℕ) Refused) → Accepts most_nodes s r → Accepts most_nodes s t → r ≡ t
  pub part : (whole p q : Bor (List ℕ)) (a n : ℕ) → PartAt whole p a n → PartAt whole q a n → SamePart p q
  pub lowest : (domains : ℕ → Range) (v : ℕ) (old x y : List ℤ) → Lowered domains v old x → Lowered domains v old y → x ≡ y
  pub advance : (domains : ℕ → Range) (v : ℕ) (old x y : List ℤ) (r t : Bool) → Advanced domains v old r x → Advanced domains v old t y → (r ≡ t) × (x ≡ y)
  pub writes : (text before x y : List ℕ) (at m n : ℕ) → Wrote text before x at m → Wrote text before y at n → (m ≡ n) × (x ≡ y)
  pub lines : (n x y : ℕ) → LinesSize n x → LinesSize n y → x ≡ y
  pub reach : (v : ℕ) (reply : List ℕ) (r t : Result Unit ℕ) → Answers v reply r → Answers v reply t → r ≡ t
  pub numbers : (v : ℕ) (reply : List ℕ) (before x y : List ℤ) → Numbered v reply before x → Numbered v reply before y → x ≡ y
  pub scan : (text : List ℕ) (r t : Result Unit ℕ) → ScanSays text r → ScanSays text t → r ≡ t
  pub build :
      (text : List ℕ) (count at size first : ℕ) (before x y : List ℕ) (r t : Built) →
      Buildable text count at size first → Builds text count at first before r x → Builds text count at first before t y → (r ≡ t) × (x ≡ y)
