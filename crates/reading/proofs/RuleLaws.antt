-- A sheet that is not refused is laid out right and holds a lawful rule, and the other way round; so rules and accepted sheets match. Assumes nothing.
use Prim.Native.Nat.{ℕ, zero, suc, ◌+◌, ◌≤◌, ◌<◌, zero-le}
use mathlib.Core.Path.{◌≡◌, refl, sym, ap, subst, ◌∙◌}
use mathlib.Core.Logic.{◌↔◌}
use mathlib.Core.Bool.{true}
use mathlib.Core.List.{List}
use mathlib.Core.Option.{Option, none, some}
use native.Mathlib.Nat.{zero-add}
use native.Mathlib.Omega.{arith}
use borrow.Author.Tests.{eqb-true, eq-eqb}
use lib.ListN.{length, take, drop}
use Rattle.lists.specs.Places.{from}
use Rattle.lists.proofs.FirstLaws.{neither, otherwise-none, first-none, none_first}
use Rattle.refusals.specs.declared.Refusal.{Refusal}
use Rattle.numbers.specs.Bytes.{Bytes}
use Rattle.meaning.specs.declared.Sort.TheVariants.{Truth}
use Rattle.meaning.specs.Rule.{Rule, domain_of}
use Rattle.kinds.proofs.ClaimLaws.{throughout-parts}
use Rattle.layout.specs.Limits.{block_bytes, name_start, most_variables, blocks_for, variable_place, most_nodes}
use Rattle.layout.specs.Checks.{block_right}
use Rattle.layout.specs.Starts.{sort_at, start_at, Typed}
use Rattle.layout.specs.Goal.{tree_at}
use Rattle.layout.specs.Parts.{node_count, goal_at, variable_count, name_size, name_in, table, rule_in}
use Rattle.layout.specs.LaidOut.{Placed, Sound, LaidOut}
use Rattle.layout.specs.Fold.{of_tree}
use Rattle.layout.specs.Sheet.{sheet_of}
use Rattle.layout.specs.Nodes.{nodes_of}
use Rattle.layout.proofs.PartLaws.{words, variable-total, variable-is}
use Rattle.layout.proofs.Forward.{records-are}
use Rattle.layout.proofs.FoldLaws.{found-is}
use Rattle.layout.proofs.ThroughoutLaws.{goal-throughout, throughout-goal}
use Rattle.layout.proofs.SheetLaws.{sheet-is}
use Rattle.layout.proofs.SheetBack.{sheet-laid-out, sheet-shows}
use Rattle.layout.proofs.Well.{rule-well}
use Rattle.refusals.proofs.SaidLaws.{unless-none, unless-true}
use Rattle.blocks.specs.Early.{early}
use Rattle.blocks.proofs.EarlyLaws.{early-none, none-early, length-right}
use Rattle.header.specs.Header.{header, Counted}
use Rattle.header.proofs.HeaderLaws.{right-of-none, none-of-right, right-counts, block_inside}
use Rattle.records.specs.Names.{Name, VariableKept}
use Rattle.records.specs.Variables.{variables}
use Rattle.records.proofs.VariableLaws.{variables-none}
use Rattle.records.proofs.NameLaws.{laid_out, rule-of}
use Rattle.order.proofs.OrderLaws.{placed_of, placed-true}
use Rattle.findings.specs.declared.Finding.TheVariants.{Truth as found-truth}
use Rattle.findings.specs.Findings.{finding_of, finding_at, FindingFits}
use Rattle.findings.proofs.FindingLaws.{fits-of, fits-true, decides-same}
use Rattle.nodes.specs.Nodes.{node_refusal, nodes}
use Rattle.reading.specs.Cascade.{refusal_of, rule_of}
use Rattle.reading.specs.Lawful.{FitsIn, Lawful, Allowed}
use Rattle.reading.proofs.NodeRows.{typed-decided}

-- a name has a byte
name-long : (s : List ℕ) (i : ℕ) → Name (name_in s i) → 1 ≤ name_size s i
name-long s i = go (name_size s i)
  where
    go : (n : ℕ) → Name (take n (drop (i + name_start) s)) → 1 ≤ n
    go zero h = absurd h
    go (suc n) h = omega arith

module _ (s : List ℕ) where
  -- what each part of the cascade leaves
  record Passed : Type 0 where
    early-passed : early most_nodes s ≡ none
    header-passed : header most_nodes s ≡ none
    variables-passed : variables s ≡ none
    nodes-passed : nodes s ≡ none

  passed : refusal_of most_nodes s ≡ none → Passed
  unfolding refusal_of
  passed e =
      let a = neither (early most_nodes s) _ e in
      let b = neither (header most_nodes s) _ a.1 in
      let c = neither (variables s) _ b.1 in
      record { early-passed = a.0; header-passed = b.0; variables-passed = c.0; nodes-passed = c.1 }

  all-passed : Passed → refusal_of most_nodes s ≡ none
  unfolding refusal_of
  all-passed p = otherwise-none _ p.early-passed ∙ (otherwise-none _ p.header-passed ∙ (otherwise-none _ p.variables-passed ∙ p.nodes-passed))

  -- what is asked of node n, and of all of them with the goal
  record NodeRight (n : ℕ) : Type 0 where
    placed : Placed (table s) (variable_count s) n
    typed : Typed (table s) n
    fits : FindingFits (finding_at s n)

  node-right : (n : ℕ) → node_refusal s n ≡ none → NodeRight n
  unfolding node_refusal
  node-right n e =
      let a = neither _ _ e in
      let b = neither _ _ a.1 in
      record { placed = placed_of (unless-none _ 6 n a.0); typed = (typed-decided (table s) n).0 (unless-none _ 7 n b.0); fits = fits-of (finding_at s n) (unless-none _ 8 n b.1) }

  right-node : (n : ℕ) → NodeRight n → node_refusal s n ≡ none
  unfolding node_refusal
  right-node n h = otherwise-none _ (unless-true 6 n (placed-true h.placed)) ∙ (otherwise-none _ (unless-true 7 n ((typed-decided (table s) n).1 h.typed)) ∙ unless-true 8 n (fits-true (finding_at s n) h.fits))

  record NodesRight : Type 0 where
    each : (n : ℕ) → n < node_count s → NodeRight n
    whole : start_at (table s) (goal_at s) ≡ 0
    goal : sort_at (table s) (goal_at s) ≡ Truth

  nodes-right : nodes s ≡ none → NodesRight
  unfolding nodes
  nodes-right e =
      let a = neither _ _ e in
      let b = neither _ _ a.1 in
      record {
        each = λ n h. node-right n (first-none (node_refusal s) (node_count s) 0 a.0 n zero-le (rw zero-add h));
        whole = eqb-true _ 0 (unless-none _ 6 _ b.0);
        goal = (decides-same _ Truth).0 (unless-none _ 7 _ b.1);
      }

  right-nodes : NodesRight → nodes s ≡ none
  unfolding nodes
  right-nodes h =
      otherwise-none _ (none_first (node_refusal s) (node_count s) 0 (λ n g l. right-node n (h.each n (rw zero-add at l))))
      ∙ (otherwise-none _ (unless-true 6 _ (eq-eqb _ 0 h.whole)) ∙ unless-true 7 _ ((decides-same _ Truth).1 h.goal))

  sound : 1 ≤ node_count s → NodesRight → Sound (table s) (variable_count s) (node_count s)
  sound l h = record { some-node = l; placed = λ j k. (h.each j k).placed; typed = λ j k. (h.each j k).typed; whole = h.whole; goal = h.goal }

  -- a node's finding is that of its tree
  pub finding-is : Sound (table s) (variable_count s) (node_count s) → (n : ℕ) → n < node_count s → finding_at s n ≡ of_tree (finding_of (domain_of (rule_in s))) (tree_at (table s) n).1
  finding-is h n l = found-is (finding_of (domain_of (rule_in s))) found-truth (table s) h.placed h.typed n l

  -- a variable of the rule is one of the sheet's
  counted : {i : ℕ} → i < length (rule_in s).variables → i < variable_count s
  counted l = rw (← variable-total s) l

  listed : {i : ℕ} → i < variable_count s → i < length (rule_in s).variables
  listed l = rw (variable-total s) l

  -- ---- an accepted sheet
  module _ (e : refusal_of most_nodes s ≡ none) where
    pub accepted-kept : (n : ℕ) → n < variable_count s → VariableKept s n
    accepted-kept = (variables-none s).0 (passed e).variables-passed

    blocks-right : (k : ℕ) → k < blocks_for (node_count s) + 1 → block_right s k ≡ true
    blocks-right k h =
        let z = (right-of-none most_nodes s (passed e).header-passed).size in
        (early-none most_nodes s (passed e).early-passed).1 k (omega arith)

    pub accepted-counted : Counted most_nodes s
    accepted-counted = right-counts most_nodes s (right-of-none most_nodes s (passed e).header-passed)

    -- the header lies inside
    pub accepted-inside : (block_bytes ≤ length s) × (variable_count s ≤ most_variables)
    accepted-inside = (block_inside accepted-counted, accepted-counted.few)

    pub accepted-sound : Sound (table s) (variable_count s) (node_count s)
    accepted-sound = sound (right-of-none most_nodes s (passed e).header-passed).some-node (nodes-right (passed e).nodes-passed)

    pub accepted-fits : (n : ℕ) → n < node_count s → FindingFits (finding_at s n)
    accepted-fits n l = ((nodes-right (passed e).nodes-passed).each n l).fits

    pub accepted-laid-out : Bytes s → LaidOut s
    accepted-laid-out bytes =
        let h = right-of-none most_nodes s (passed e).header-passed in
        record {
          bytes = bytes;
          size = h.size;
          checks = blocks-right;
          first-edition = h.edition;
          few = h.few;
          most = h.most;
          gap = h.gap;
          tail = h.tail;
          tails = h.tails;
          variables = λ n l. laid_out s (variable_place n) (accepted-kept n l).0;
          nodes = accepted-sound;
        }

    pub accepted-lawful : Lawful (rule_in s)
    accepted-lawful =
        record {
          names = λ i l. rw (variable-is s i (counted l)) (accepted-kept i (counted l)).0.name;
          distinct = λ i j l k d. (accepted-kept j (counted k)).1 i l (rw (variable-is s i (omega (arith, counted k)), variable-is s j (counted k)) at d);
          domains = λ i l. rw (variable-is s i (counted l)) (accepted-kept i (counted l)).0.order;
          ranges = (throughout-parts (FitsIn (rule_in s)) (rule_in s).goal).0 (goal-throughout (FitsIn (rule_in s)) accepted-sound (λ j l. rw (finding-is accepted-sound j l) at (accepted-fits j l)));
        }

  -- ---- and back
  module _ (o : LaidOut s) (w : Lawful (rule_in s)) where
    kept_back : (n : ℕ) → n < variable_count s → VariableKept s n
    kept_back n l =
        let a = rw (variable-is s n l) at (w.names n (listed l)) in
        let b = rw (variable-is s n l) at (w.domains n (listed l)) in
        (rule-of s (variable_place n) b (name-long s (variable_place n) a) a (o.variables n l), λ m k d. w.distinct m n k (listed l) (rw (variable-is s m (omega arith), variable-is s n l) d))

    accepted-back : refusal_of most_nodes s ≡ none
    accepted-back =
        let z = o.size in
        all-passed
        (record {
          early-passed = none-early most_nodes s (length-right most_nodes (length s) (λ d. omega arith) (omega arith) (omega (arith, o.most))) (λ k h. o.checks k (omega arith));
          header-passed = none-of-right most_nodes s (record { edition = o.first-edition; some-node = o.nodes.some-node; most = o.most; few = o.few; size = o.size; gap = o.gap; tail = o.tail; tails = o.tails });
          variables-passed = (variables-none s).1 kept_back;
          nodes-passed =
              right-nodes
              (record {
                each = λ n l. record { placed = o.nodes.placed n l; typed = o.nodes.typed n l; fits = rw (finding-is o.nodes n l) (throughout-goal (FitsIn (rule_in s)) o.nodes ((throughout-parts (FitsIn (rule_in s)) (rule_in s).goal).1 w.ranges) n l) };
                whole = o.nodes.whole;
                goal = o.nodes.goal;
              });
        })

  -- accepted means laid out right, with a lawful rule
  pub accepted-means : Bytes s → (refusal_of most_nodes s ≡ none) ↔ (LaidOut s × Lawful (rule_in s))
  accepted-means b = (λ e. (accepted-laid-out e b, accepted-lawful e), λ h. accepted-back h.0 h.1)

  -- ---- rules and sheets
  pub rule-none : {t : Refusal} → refusal_of most_nodes s ≡ some t → rule_of most_nodes s ≡ none
  unfolding rule_of
  rule-none e = rw (e, rule_of)

  pub rule-some : refusal_of most_nodes s ≡ none → rule_of most_nodes s ≡ some (rule_in s)
  unfolding rule_of
  rule-some e = rw (e, rule_of)

  pub rule-exactly : (r : Rule) → (rule_of most_nodes s ≡ some r) ↔ ((refusal_of most_nodes s ≡ none) × (rule_in s ≡ r))
  rule-exactly r = (λ e. go (refusal_of most_nodes s) refl e, λ h. rule-some h.0 ∙ ap some h.1)
    where
      go : (o : Option Refusal) → refusal_of most_nodes s ≡ o → rule_of most_nodes s ≡ some r → (refusal_of most_nodes s ≡ none) × (rule_in s ≡ r)
      go none q e = (q, cc (rule-some q, e))
      go (some t) q e = absurd (let z : ◌≡◌ {A = ℕ} 0 1 = cc (rule-none q, e) in omega arith)

-- the sheet of an accepted sheet's rule is that sheet
pub rule-to-sheet : (s : List ℕ) → Bytes s → (r : Rule) → rule_of most_nodes s ≡ some r → sheet_of r ≡ s
rule-to-sheet s b r e =
    let w = (rule-exactly s r).0 e in
    ap sheet_of (sym w.1) ∙ sheet-is s (accepted-laid-out s w.0 b)

pub rule-allowed : (s : List ℕ) → Bytes s → (r : Rule) → rule_of most_nodes s ≡ some r → Allowed r
rule-allowed s b r e =
    let w = (rule-exactly s r).0 e in
    subst Allowed w.1 (record { well-formed = rule-well s (accepted-laid-out s w.0 b); lawful = accepted-lawful s w.0 })

-- the rule of an allowed rule's sheet is that rule
pub sheet-to-rule : (r : Rule) → Allowed r → rule_of most_nodes (sheet_of r) ≡ some r
sheet-to-rule r a =
    let o = sheet-laid-out r a.well-formed in
    let e = sheet-shows r a.well-formed in
    (rule-exactly (sheet_of r) r).1 ((accepted-means (sheet_of r) o.bytes).1 (o, subst Lawful (sym e) a.lawful), e)

-- the goal's tree uses all nodes
pub goal-uses-all : (s : List ℕ) → Bytes s → refusal_of most_nodes s ≡ none → from (table s) 0 (node_count s) ≡ nodes_of 0 (rule_in s).goal
goal-uses-all s b e = records-are (words s b) (accepted-sound s e)
