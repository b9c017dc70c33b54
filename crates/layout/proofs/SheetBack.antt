-- What is written of variables and node records shows them, so the sheet of a well-formed rule is laid out right, and shows that rule. Assumes nothing.
use Prim.Native.Nat.{ℕ, zero, suc, ◌+◌, ◌-◌, ◌*◌, ◌/◌, ◌≤◌, ◌<◌, min}
use mathlib.Core.Path.{◌≡◌, refl, sym, ap, ap₂, subst, ◌∙◌}
use mathlib.Core.Bool.{true}
use mathlib.Core.List.{List, [], ◌∷◌, ◌++◌}
use native.Mathlib.Nat.{zero-add}
use native.Mathlib.Numerals.{add-one, one-add}
use native.Mathlib.Omega.{arith}
use borrow.Author.Tests.{eq-eqb}
use lib.Dec.{lit<}
use lib.ListN.{length, take, drop}
use Rattle.lists.specs.Places.{at, from}
use Rattle.lists.specs.Joined.{joined}
use Rattle.lists.specs.Run.{Run}
use Rattle.lists.proofs.RunLaws.{run-split, run-all, stands_of, stands_from, shift, from-same, take-from, drop-from}
use Rattle.lists.proofs.JoinedLaws.{length-joined}
use Rattle.numbers.specs.Bytes.{word_limit, byte_at, pair, Bytes}
use Rattle.meaning.specs.Rule.{Variable, Rule, no_variable}
use Rattle.kinds.specs.declared.Kind.TheVariants.{Unknown}
use Rattle.kinds.specs.declared.Record.{Record}
use Rattle.layout.specs.Limits.{block_bytes, content_bytes, header_gap, header_gap_bytes, most_variables, most_nodes, variable_bytes, node_bytes, nodes_in_block, blocks_for, sheet_bytes, variable_place, node_place}
use Rattle.layout.specs.Checks.{check_of, content, stored_check, block_right, sealed}
use Rattle.layout.specs.Goal.{goal_of}
use Rattle.layout.specs.Nodes.{node, nodes_of}
use Rattle.layout.specs.Parts.{edition, node_count, variable_count, variable_at, table, rule_in}
use Rattle.layout.specs.LaidOut.{Placed, used_in_node_block, Zeros, VariableLaidOut, LaidOut}
use Rattle.layout.specs.Sheet.{record_bytes, variable_record, filled, first_content, node_content, contents_with, sheet_with, sheet_of}
use Rattle.layout.specs.WellFormed.{FineVariable, WellFormed}
use Rattle.layout.proofs.Backward.{table-sound, table-goal, table-words}
use Rattle.layout.proofs.SealLaws.{content-is}
use Rattle.layout.proofs.Written.{bytes-cons, bytes-append, bytes_pair, bytes-joined, bytes-filled, bytes-sealed, bytes-variable, bytes-record, length-filled, length-sealed, length-variable}
use Rattle.layout.proofs.Unseal.{Block, pair_of, filled_of, split-joined, split-sealed, record_of, variable-of}

-- a record that no table lists
abbrev pub no_record : Record
no_record = node Unknown 0 0 0 0

-- a list by its own numbers
self : {A : Type 0} (d : A) (l : List A) → from (at d l) 0 (length l) ≡ l
self d l = stands_from (at d l) l 0 (run-all l d).each

-- variables and node records that a sheet has room for, the nodes in order
pub record Holdable (vs : List Variable) (rs : List Record) : Type 0 where
  pub few : length vs ≤ most_variables
  pub most : length rs ≤ most_nodes
  pub variables : (j : ℕ) → j < length vs → FineVariable (at no_variable vs j)
  pub placed : (j : ℕ) → j < length rs → Placed (at no_record rs) (length vs) j
  pub words : (j : ℕ) → j < length rs → (at no_record rs j).value < word_limit

-- a sheet that is laid out right but for its nodes
pub record Framed (s : List ℕ) : Type 0 where
  pub bytes : Bytes s
  pub size : length s ≡ sheet_bytes (node_count s)
  pub checks : (k : ℕ) → k < blocks_for (node_count s) + 1 → block_right s k ≡ true
  pub first-edition : edition s ≡ 1
  pub few : variable_count s ≤ most_variables
  pub most : node_count s ≤ most_nodes
  pub gap : Zeros s header_gap header_gap_bytes
  pub tail : Zeros s (variable_place (variable_count s)) (content_bytes - variable_place (variable_count s))
  pub tails : (b : ℕ) → b < blocks_for (node_count s) → Zeros s (block_bytes * (b + 1) + used_in_node_block s b) (content_bytes - used_in_node_block s b)
  pub variables : (n : ℕ) → n < variable_count s → VariableLaidOut s (variable_place n)

-- what a sheet shows that is made of them
pub record Shows (s : List ℕ) (vs : List Variable) (rs : List Record) : Type 0 where
  pub frame : Framed s
  pub variable-count : variable_count s ≡ length vs
  pub variables : (rule_in s).variables ≡ vs
  pub node-count : node_count s ≡ length rs
  pub nodes : Run (table s) 0 rs (length rs)

module _ (vs : List Variable) (rs : List Record) (w : Holdable vs rs) where
  -- N nodes over W variables
  abbrev N : ℕ
  N = length rs

  abbrev W : ℕ
  W = length vs

  abbrev f : ℕ → Record
  f = at no_record rs

  abbrev g : ℕ → Variable
  g = at no_variable vs

  -- the contents by their numbers
  abbrev listed : List ℕ
  listed = joined variable_record (from g 0 W)

  abbrev used : List ℕ
  used = pair 1 ++ (pair N ++ ((W ∷ 0 ∷ 0 ∷ 0 ∷ []) ++ listed))

  abbrev nodes_in : ℕ → List ℕ
  nodes_in b = joined record_bytes (from f (nodes_in_block * b) (min nodes_in_block (N - nodes_in_block * b)))

  abbrev c : ℕ → List ℕ
  c zero = filled used
  c (suc b) = filled (nodes_in b)

  contents : contents_with vs rs ≡ from c 0 (suc (blocks_for N))
  contents = ap₂ ◌∷◌ first (from-same (node_content rs) c (blocks_for N) 0 1 (λ b h. rw (zero-add, one-add) (ap (λ (l : List Record). filled (joined record_bytes l)) (inner b))))
    where
      first : first_content N vs ≡ filled used
      first = ap (λ (l : List Variable). filled (pair 1 ++ (pair N ++ ((W ∷ 0 ∷ 0 ∷ 0 ∷ []) ++ joined variable_record l)))) (sym (self no_variable vs))

      inner : (b : ℕ) → take nodes_in_block (drop (nodes_in_block * b) rs) ≡ from f (nodes_in_block * b) (min nodes_in_block (N - nodes_in_block * b))
      inner b = ap (λ (l : List Record). take nodes_in_block (drop (nodes_in_block * b) l)) (sym (self no_record rs)) ∙ rw (drop-from, take-from, zero-add)

  length-used : length used ≡ variable_place W
  length-used = let e = length-joined variable_record g variable_bytes W 0 (λ j a h. length-variable (g j) (w.variables j (omega arith))) in omega arith

  length-nodes : (b : ℕ) → length (nodes_in b) ≡ node_bytes * min nodes_in_block (N - nodes_in_block * b)
  length-nodes b = length-joined record_bytes f node_bytes (min nodes_in_block (N - nodes_in_block * b)) (nodes_in_block * b) (λ j a h. refl)

  c-long : (j : ℕ) → length (c j) ≡ content_bytes
  c-long zero = length-filled used (omega (arith, length-used, w.few))
  c-long (suc b) = length-filled (nodes_in b) (omega (arith, length-nodes b))

  c-bytes : (j : ℕ) → Bytes (c j)
  c-bytes zero =
      let p = w.few in
      let q = w.most in
      let l : List ℕ = (W ∷ 0 ∷ 0 ∷ 0 ∷ []) ++ listed in
      let h : Bytes listed = bytes-joined variable_record g W 0 (λ j a l. bytes-variable (g j) (w.variables j (omega arith))) in
      let t : Bytes l = bytes-cons (0 ∷ 0 ∷ 0 ∷ listed) (omega arith) (bytes-cons (0 ∷ 0 ∷ listed) (lit< tt) (bytes-cons (0 ∷ listed) (lit< tt) (bytes-cons listed (lit< tt) h))) in
      bytes-filled used (bytes-append (pair 1) (pair N ++ l) (bytes_pair {x = 1} (lit< tt)) (bytes-append (pair N) l (bytes_pair (omega arith)) t))
  c-bytes (suc b) =
      let p = w.few in
      let q = w.most in
      bytes-filled (nodes_in b) (bytes-joined record_bytes f (min nodes_in_block (N - nodes_in_block * b)) (nodes_in_block * b) (λ j a l. bytes-record (w.placed j (omega arith)) (omega arith) (omega arith) (w.words j (omega arith))))

  -- a list of bytes that is these contents, sealed
  module _ (s : List ℕ) (es : s ≡ sealed 0 (from c 0 (suc (blocks_for N)))) where
    long : length s ≡ block_bytes * (blocks_for N + 1)
    long = rw es (length-sealed c c-long (suc (blocks_for N)) 0 ∙ ap (λ (k : ℕ). block_bytes * k) (sym (add-one (blocks_for N))))

    bytes : Bytes s
    bytes = rw es (bytes-sealed c c-bytes (suc (blocks_for N)) 0)

    block : (k : ℕ) → k < blocks_for N + 1 → Block s k (c k)
    block k h = split-sealed s c c-long (suc (blocks_for N)) 0 (subst (λ (l : List ℕ). Run (byte_at s) 0 l (length s)) es (run-all s 0)) k (omega arith) (omega arith)

    checks : (k : ℕ) → k < blocks_for N + 1 → block_right s k ≡ true
    unfolding block_right
    checks k h =
        let b = block k h in
        eq-eqb (check_of k (content s k)) (stored_check s k) (ap (check_of k) (content-is s k b.holds (omega (arith, long))) ∙ sym b.check)

    top : Run (byte_at s) 0 used (0 + length used) × Zeros s (0 + length used) (content_bytes - length used)
    top = filled_of s used 0 (block 0 (omega arith)).holds

    record Header : Type 0 where
      edition : Run (byte_at s) 0 (pair 1) 2
      count : Run (byte_at s) 2 (pair N) 4
      four : Run (byte_at s) 4 (W ∷ 0 ∷ 0 ∷ 0 ∷ []) 8
      rest : Run (byte_at s) 8 listed (0 + length used)

    header : Header
    header =
        let p = run-split (byte_at s) {xs = pair 1} {ys = pair N ++ ((W ∷ 0 ∷ 0 ∷ 0 ∷ []) ++ listed)} top.0 in
        let q = run-split (byte_at s) {xs = pair N} {ys = (W ∷ 0 ∷ 0 ∷ 0 ∷ []) ++ listed} p.1 in
        let o = run-split (byte_at s) {xs = W ∷ 0 ∷ 0 ∷ 0 ∷ []} {ys = listed} q.1 in
        record { edition = p.0; count = q.0; four = o.0; rest = o.1 }

    node-count : node_count s ≡ N
    node-count = pair_of s header.count

    variable-count : variable_count s ≡ W
    variable-count = header.four.each.0

    gap : Zeros s 5 3
    gap zero h = header.four.each.1.0
    gap (suc zero) h = header.four.each.1.1.0
    gap (suc (suc zero)) h = header.four.each.1.1.1.0
    gap (suc (suc (suc j))) h = absurd (omega arith)

    variable : (j : ℕ) → j < W → VariableLaidOut s (variable_place j) × (variable_at s j ≡ g j)
    variable j h =
        let each = split-joined s variable_record g variable_place W 0 (λ k a l. let e = length-variable (g k) (w.variables k (omega arith)) in omega arith) header.rest j (omega arith) (omega arith) in
        variable-of s (g j) (variable_place j) (w.variables j h) (omega (arith, long, w.few)) each

    nodes : (b : ℕ) → b < blocks_for N → let m : ℕ = length (nodes_in b) in Run (byte_at s) (block_bytes * (b + 1)) (nodes_in b) (block_bytes * (b + 1) + m) × Zeros s (block_bytes * (b + 1) + m) (content_bytes - m)
    nodes b h = filled_of s (nodes_in b) (block_bytes * (b + 1)) (shift (block (suc b) (omega arith)).holds (ap (λ (k : ℕ). block_bytes * k) (sym (add-one b))) refl)

    table_is : (n : ℕ) → n < N → table s n ≡ f n
    table_is n h =
        let b : ℕ = n / nodes_in_block in
        let i : ℕ = nodes_in_block * b in
        let p : ℕ → ℕ = λ k. block_bytes * (b + 1) + node_bytes * (k - i) in
        let m : ℕ = min nodes_in_block (N - i) in
        let t : Run (byte_at s) (p i) (joined record_bytes (from f i m)) (block_bytes * (b + 1) + length (nodes_in b)) = shift (nodes b (omega arith)).0 (omega arith) refl in
        let each = split-joined s record_bytes f p m i (λ k a l. omega arith) t n (omega arith) (omega arith) in
        let good = w.placed n h in
        record_of s (f n) (node_place n) good.known (omega (arith, good.clear)) (shift each (omega arith) refl)

    table-run : Run (table s) 0 rs N
    table-run = record { each = stands_of (table s) rs 0 no_record (λ j h. rw zero-add (table_is j h)); end = zero-add N }

    frame : Framed s
    frame = record {
      bytes = bytes;
      size = rw node-count long;
      checks = rw node-count checks;
      first-edition = pair_of s header.edition;
      few = rw variable-count w.few;
      most = rw node-count w.most;
      gap = gap;
      tail = rw variable-count (rw (zero-add, length-used) at top.1);
      tails = rw node-count (λ b h. rw (length-nodes b) at (nodes b h).1);
      variables = rw variable-count (λ n h. (variable n h).0);
    }

    shows : Shows s vs rs
    shows = record {
      frame = frame;
      variable-count = variable-count;
      variables = ap (from (variable_at s) 0) variable-count ∙ from-same (variable_at s) g W 0 0 (λ k h. rw zero-add (variable k h).1) ∙ self no_variable vs;
      node-count = node-count;
      nodes = table-run;
    }

  pub sheet-with : Shows (sheet_with vs rs) vs rs
  unfolding sheet_with
  sheet-with = shows (sealed 0 (contents_with vs rs)) (ap (sealed 0) contents)

-- ---- of a rule
module _ (r : Rule) (w : WellFormed r) where
  abbrev rule_records : List Record
  rule_records = nodes_of 0 r.goal

  abbrev node_total : ℕ
  node_total = length rule_records

  abbrev variable_total : ℕ
  variable_total = length r.variables

  holdable : Holdable r.variables rule_records
  holdable =
      let run = run-all rule_records no_record in
      record {
        few = w.few;
        most = w.most;
        variables = w.variables;
        placed = (table-sound (at no_record rule_records) variable_total node_total r.goal w.goal run).placed;
        words = table-words (at no_record rule_records) variable_total node_total r.goal w.goal run;
      }

  -- a sheet that shows its variables and its nodes
  module _ (s : List ℕ) (h : Shows s r.variables rule_records) where
    rule-laid-out : LaidOut s
    rule-laid-out =
        let f = h.frame in
        record {
          bytes = f.bytes;
          size = f.size;
          checks = f.checks;
          first-edition = f.first-edition;
          few = f.few;
          most = f.most;
          gap = f.gap;
          tail = f.tail;
          tails = f.tails;
          variables = f.variables;
          nodes = rw (h.node-count, h.variable-count) (table-sound (table s) variable_total node_total r.goal w.goal h.nodes);
        }

    rule-is : rule_in s ≡ r
    rule-is =
        let p = h.variables in
        let q : (rule_in s).goal ≡ r.goal = ap (goal_of (table s)) h.node-count ∙ table-goal (table s) variable_total node_total r.goal w.goal h.nodes in
        λ d. record { variables = p d; goal = q d }

  pub sheet-laid-out : LaidOut (sheet_of r)
  unfolding sheet_of
  sheet-laid-out = rule-laid-out (sheet_with r.variables rule_records) (sheet-with r.variables rule_records holdable)

  pub sheet-shows : rule_in (sheet_of r) ≡ r
  unfolding sheet_of
  sheet-shows = rule-is (sheet_with r.variables rule_records) (sheet-with r.variables rule_records holdable)
