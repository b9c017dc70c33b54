-- The sheet of a text, laid part by part: what each part asks, and that the whole is the draft's sheet. Assumes nothing.
use Prim.Native.Nat.{ℕ, ◌+◌, ◌/◌, ◌≤◌, ◌<◌}
use mathlib.Core.Path.{◌≡◌, sym, ap, ◌∙◌}
use mathlib.Core.List.{List, [], ◌∷◌, ◌++◌}
use native.Mathlib.Omega.{arith}
use lib.ListN.{length, drop, replicate}
use lib.Seq.{drop_at, drop-drop}
use Rattle.lists.specs.Joined.{joined}
use Rattle.meaning.specs.Rule.{Variable}
use Rattle.kinds.specs.declared.Record.{Record}
use Rattle.layout.specs.Limits.{block_bytes, most_name_bytes, blocks_for, sheet_bytes}
use Rattle.texts.specs.Expressions.{records_of, Draft, draft_sheet}
use Rattle.texts.specs.Plain.{name_of, spelled, variable_line, goal_line, printed}
use Rattle.texts.specs.Texts.{AllDeclarable, Says}
use Rattle.texts.proofs.SpellingLaws.{feed-separates}
use Rattle.texts.proofs.DraftLaws.{declared-name}
use Rattle.sheets.specs.Laying.{with_counts, with_checks, laid}
use Rattle.sheets.proofs.LaidLaws.{laid-sheet}
use Rattle.building.specs.declared.Built.{Built}
use Rattle.building.proofs.WordLaws.{inside}
use Rattle.building.specs.Building.{WordsAt, Declares, Spelt, Buildable, Builds}
use Rattle.maker.specs.Lays.{LinesReady, LinesPut, SheetReady, Lays}

-- ---- a text by its lines
module _ {text : List ℕ} {d : Draft} (h : Says text d) where
  by_lines : text ≡ joined variable_line d.variables ++ goal_line d.variables d.goal
  unfolding printed
  by_lines = h.text

  pub declares : {count : ℕ} → length d.variables ≡ count → Declares text count d.variables
  declares e = record { declarable = h.variables; counted = e; rest = goal_line d.variables d.goal; lines = by_lines }

  -- the goal's expression
  goal-words : {place : ℕ} → place ≡ length (joined variable_line d.variables) → WordsAt text (place + 5) (spelled d.variables d.goal)
  goal-words {place} e = record { separator = 10; rest = []; here = there; separates = feed-separates }
    where
      there : drop (place + 5) text ≡ spelled d.variables d.goal ++ 10 ∷ []
      there =
          sym (drop-drop 5 place text)
          ∙ ap (drop 5) (ap (drop place) by_lines ∙ drop_at (joined variable_line d.variables) (goal_line d.variables d.goal) place (sym e))

  pub goal-spelt : {count place : ℕ} → length d.variables ≡ count → place ≡ length (joined variable_line d.variables) → Spelt text count (place + 5) d.variables (d.goal ∷ [])
  goal-spelt e p = record { names = declares e; writable = (h.goal, tt); words = goal-words p }

short-names : (vs : List Variable) → AllDeclarable vs → (i : ℕ) → i < length vs → length (name_of vs i) ≤ most_name_bytes
short-names vs d i l = (declared-name vs i d l).short

module _ {text : List ℕ} {variables nodes size : ℕ} (r : SheetReady text variables nodes size) where
  pub lay-lines : {now : ℕ} → size ≤ now → LinesReady text variables now
  lay-lines l =
      let t = r.counts.text in
      record { variables = t.draft.variables; declares = declares t.says (r.counts.variables-are t.draft t.says); few = r.few; room = omega (arith, r.size) }

  -- behind the lines of the variables
  pub goal-place : {before after : List ℕ} {place : ℕ} → LinesPut text variables before place after → place + 5 ≤ length text
  goal-place l =
      let t = r.counts.text in
      let e = l.all _ (declares t.says (r.counts.variables-are t.draft t.says)) in
      omega (arith, inside (goal-words t.says e.place))

  pub lay-goal : {before after : List ℕ} {place : ℕ} → LinesPut text variables before place after → {now : ℕ} → size ≤ now → Buildable text variables (place + 5) now 0
  lay-goal l k =
      let t = r.counts.text in
      let n = r.counts.variables-are t.draft t.says in
      let m = r.counts.nodes-are t.draft t.says in
      let e = l.all _ (declares t.says n) in
      record {
        variables = t.draft.variables;
        goal = t.draft.goal;
        ready = record { few = r.few; spelt = goal-spelt t.says n e.place; most = omega (arith, r.most, m); room = omega (arith, r.size, m) };
      }

  -- the whole
  pub lay-sheet : {s₀ s₁ s₂ s₃ s₄ : List ℕ} {place count : ℕ} {b : Built} → s₁ ≡ with_counts nodes variables s₀ → LinesPut text variables s₁ place s₂ → Builds text variables (place + 5) 0 s₂ b s₃ → s₄ ≡ with_checks count s₃ → length s₀ ≡ size → count ≡ size / block_bytes → Lays text s₀ s₄
  unfolding laid
  lay-sheet {s₀} {s₁} {s₂} {s₃} {s₄} {place} {count} e₁ e₂ e₃ e₄ es ec = record { all = every }
    where
      every : (d : Draft) → Says text d → s₀ ≡ replicate (length s₀) 0 → s₄ ≡ draft_sheet d
      every d h z =
          let vs : List Variable = d.variables in
          let rs : List Record = records_of d.goal 0 in
          let n = r.counts.variables-are d h in
          let m = r.counts.nodes-are d h in
          let l = e₂.all vs (declares h n) in
          let b = e₃.all vs d.goal (goal-spelt h n l.place) in
          let k : count ≡ blocks_for (length rs) + 1 = omega (arith, r.size) in
          let y : length s₀ ≡ sheet_bytes (length rs) = es ∙ r.size ∙ ap sheet_bytes (sym m) in
          let w : s₄ ≡ laid vs rs = e₄ ∙ rw (k, b.sheet, l.sheet, e₁, z, y, ← m, ← n) in
          w ∙ laid-sheet vs rs (omega (arith, r.few)) (short-names vs h.variables)
