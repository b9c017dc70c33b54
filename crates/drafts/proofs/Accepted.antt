-- A text's draft has room in a sheet where it keeps the limits; and where that sheet is accepted, its rule is the one that the text says. Assumes nothing.
use Prim.Native.Nat.{ℕ, zero, suc, ◌≤◌, ◌<◌}
use mathlib.Core.Path.{◌≡◌, sym, ap, subst, ◌∙◌}
use mathlib.Core.Logic.{⊎_elim}
use mathlib.Core.List.{List, [], ◌∷◌}
use mathlib.Core.Option.{none}
use native.Mathlib.Omega.{arith}
use lib.Dec.{lit<}
use lib.ListN.{length}
use Rattle.lists.specs.Places.{at}
use Rattle.lists.proofs.RunLaws.{run-all}
use Rattle.numbers.specs.Bytes.{byte_at, Bytes}
use Rattle.meaning.specs.Rule.{Variable, no_variable}
use Rattle.kinds.specs.declared.Kind.{Kind}
use Rattle.kinds.specs.declared.Record.{Record}
use Rattle.layout.specs.Limits.{most_variables, most_nodes}
use Rattle.layout.specs.Parts.{variable_count, variable_at, table, rule_in}
use Rattle.layout.specs.WellFormed.{FineVariable}
use Rattle.layout.proofs.PartLaws.{variable-is}
use Rattle.layout.proofs.FoldLaws.{goal-found}
use Rattle.layout.proofs.SheetBack.{no_record, Holdable, Shows, sheet-with}
use Rattle.records.specs.Names.{Letter, NameByte, Name}
use Rattle.reading.specs.Cascade.{refusal_of}
use Rattle.reading.proofs.RuleLaws.{accepted-sound}
use Rattle.texts.specs.Expressions.{Expression, bare, number, variable, one, two, three, expression_step, expression_of, records_of, Draft, draft_of, draft_sheet}
use Rattle.texts.specs.Plain.{printed, text_of}
use Rattle.texts.specs.Texts.{Word, Declarable, AllDeclarable, Writable, Says}
use Rattle.drafts.specs.Shaped.{Shaped}
use Rattle.drafts.proofs.FoundLaws.{Back, expression-back, found-expression, rebuilt}

-- ---- what can be written is shaped
pub writable-shaped : (vs : List Variable) (x : Expression) → Writable vs x → Shaped (length vs) x
writable-shaped vs (bare k) w = w
writable-shaped vs (number z) w = w
writable-shaped vs (variable i) w = w.declared
writable-shaped vs (one k a) w = (w.0, writable-shaped vs a w.1)
writable-shaped vs (two k a b) w = (w.0, writable-shaped vs a w.1, writable-shaped vs b w.2)
writable-shaped vs (three k a b c) w = (w.0, writable-shaped vs a w.1, writable-shaped vs b w.2, writable-shaped vs c w.3)

-- ---- a variable that a line declares goes into a sheet
letter-byte : {b : ℕ} → Letter b → b < 256
letter-byte h = ⊎_elim (λ p. omega (arith, p.1)) (λ p. omega (arith, p.1)) h

name-byte : {b : ℕ} → NameByte b → b < 256
name-byte h = ⊎_elim (λ p. ⊎_elim letter-byte (λ q. omega (arith, q.1)) p) (λ p. omega arith) h

bytes_below : (l : List ℕ) → ((j : ℕ) → j < length l → byte_at l j < 256) → Bytes l
bytes_below [] h j = lit< tt
bytes_below (b ∷ bs) h zero = h 0 (omega arith)
bytes_below (b ∷ bs) h (suc j) = bytes_below bs (λ k l. h (suc k) (omega arith)) j

pub name-bytes : (l : List ℕ) → Name l → Bytes l
name-bytes [] h j = absurd h
name-bytes (b ∷ bs) h zero = letter-byte h.0
name-bytes (b ∷ bs) h (suc j) = bytes_below bs (λ k l. name-byte (h.1 k l)) j

declarable-fine : {v : Variable} → Declarable v → FineVariable v
declarable-fine {v} h = record { ends = h.ends; short = h.name.short; bytes = name-bytes v.name h.name.name }

pub declarable-at : (vs : List Variable) → AllDeclarable vs → (j : ℕ) → j < length vs → Declarable (at no_variable vs j)
declarable-at [] h j l = absurd (omega arith)
declarable-at (v ∷ vs) h zero l = h.0
declarable-at (v ∷ vs) h (suc j) l = declarable-at vs h.1 j (omega arith)

-- ---- a draft that a text says, and that a sheet has room for
pub record Roomy (d : Draft) : Type 0 where
  pub variables : AllDeclarable d.variables
  pub goal : Writable d.variables d.goal
  pub few : length d.variables ≤ most_variables
  pub most : length (records_of d.goal 0) ≤ most_nodes

pub roomy : {text : List ℕ} {d : Draft} → Says text d → length d.variables ≤ most_variables → length (records_of d.goal 0) ≤ most_nodes → Roomy d
roomy h few most = record { variables = h.variables; goal = h.goal; few = few; most = most }

module _ (d : Draft) (w : Roomy d) where
  abbrev vs : List Variable
  vs = d.variables

  abbrev rs : List Record
  rs = records_of d.goal 0

  abbrev some_expression : Expression
  some_expression = bare Kind.Unknown

  pub goal-shaped : Shaped (length vs) d.goal
  goal-shaped = writable-shaped vs d.goal w.goal

  pub draft-holdable : Holdable vs rs
  draft-holdable =
      let f : ℕ → Record = at no_record rs in
      let back : Back expression_step some_expression f (length vs) 0 (length rs) d.goal = expression-back expression_step some_expression f (length vs) d.goal 0 (length rs) goal-shaped (run-all rs no_record) in
      record {
        few = w.few;
        most = w.most;
        variables = λ j l. declarable-fine (declarable-at vs w.variables j l);
        placed = λ j l. (back.good j (omega arith) l).placed;
        words = λ j l. (back.good j (omega arith) l).word;
      }

  -- its sheet is made of bytes, and shows its variables and nodes
  pub draft-shows : Shows (draft_sheet d) vs rs
  draft-shows = sheet-with vs rs draft-holdable

  pub draft-bytes : Bytes (draft_sheet d)
  draft-bytes = draft-shows.frame.bytes

  -- none of its sheet's names is a word
  pub draft-avoids : (i : ℕ) → i < variable_count (draft_sheet d) → Word (variable_at (draft_sheet d) i).name → ⊥
  draft-avoids i l =
      let h = draft-shows in
      let e : at no_variable vs i ≡ variable_at (draft_sheet d) i = ap (λ (us : List Variable). at no_variable us i) (sym h.variables) ∙ variable-is (draft_sheet d) i l in
      subst (λ (v : Variable). Word v.name → ⊥) e (declarable-at vs w.variables i (omega (arith, h.variable-count))).name.no_word

  -- where it is accepted
  module _ (e : refusal_of most_nodes (draft_sheet d) ≡ none) where
    goal-is : expression_of (rule_in (draft_sheet d)).goal ≡ d.goal
    goal-is =
        let s : List ℕ = draft_sheet d in
        let n : ℕ = length rs in
        let found = found-expression expression_step some_expression (table s) (length vs) d.goal 0 n goal-shaped draft-shows.nodes in
        sym (goal-found expression_step some_expression (table s) (accepted-sound s e)) ∙ (rw draft-shows.node-count found) ∙ rebuilt (length vs) some_expression d.goal goal-shaped

    pub accepted-draft : draft_of (rule_in (draft_sheet d)) ≡ d
    accepted-draft =
        let p = draft-shows.variables in
        let q = goal-is in
        λ i. record { variables = p i; goal = q i }

-- the text is the one of its sheet's rule
pub accepted-text : (text : List ℕ) (d : Draft) → Says text d → length d.variables ≤ most_variables → length (records_of d.goal 0) ≤ most_nodes → refusal_of most_nodes (draft_sheet d) ≡ none → text ≡ text_of (rule_in (draft_sheet d))
accepted-text text d h few most e = h.text ∙ ap printed (sym (accepted-draft d (roomy h few most) e))
