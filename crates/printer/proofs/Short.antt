-- How long the text of an accepted sheet can be. Assumes nothing.
-- With every name and number taken as 16 bytes, five times a goal's bytes and what is spare are 57 for each of its nodes, and 14: or 28 for an integer.
-- What is spare is a multiple of three where it is below twelve, whatever the kinds: so of 1,984 nodes it is at least twelve.
use Prim.Native.Nat.{ℕ, zero, suc, ◌+◌, ◌*◌, ◌%◌, ◌≤◌, ◌<◌}
use mathlib.Core.Path.{◌≡◌, refl, sym, ap, ◌∙◌}
use mathlib.Core.List.{List}
use mathlib.Core.Option.{none}
use native.Mathlib.Decide.{dec_lt}
use native.Mathlib.Omega.{arith}
use lib.ListN.{length}
use Rattle.meaning.specs.declared.Sort.{Sort}
use Rattle.meaning.specs.declared.Sort.TheVariants.{Truth, Integer}
use Rattle.meaning.specs.Tree.{Tree}
use Rattle.kinds.specs.declared.Kind.{Kind}
use Rattle.kinds.specs.declared.Record.{Record}
use Rattle.kinds.specs.declared.Shape.{Shape}
use Rattle.kinds.specs.declared.Shape.TheVariants.{Wrong, Bare, Valued, Named, One, Two, Three}
use Rattle.kinds.specs.Kinds.{row}
use Rattle.layout.specs.Limits.{most_name_bytes, most_nodes}
use Rattle.layout.specs.Starts.{shape_at, operands_of, start_by, start_at, Ordered}
use Rattle.layout.specs.Fold.{Found, found_by, of_tree, of_node}
use Rattle.layout.specs.Parts.{goal_at, variable_count, table, rule_in}
use Rattle.layout.proofs.StartLaws.{Before, lower, start_is}
use Rattle.layout.proofs.FoldLaws.{node-is, goal-found}
use Rattle.reading.specs.Cascade.{refusal_of}
use Rattle.reading.proofs.RuleLaws.{accepted-counted, accepted-sound}
use Rattle.texts.specs.Plain.{text_of}
use Rattle.reading.specs.Accepts.{AcceptedNode}
use Rattle.expressions.specs.Phrases.{word_by, sheet_names, phrase_at, word_at}
use Rattle.printer.specs.Prints.{longest_text}
use Rattle.printer.proofs.LineLaws.{lines-short}
use Rattle.expressions.proofs.PhraseLaws.{length-1, length-2, length-3, by_shape, placed, from-record, word-short}
use Rattle.printer.proofs.TextLaws.{goal-ready, goal-length, text-parts}

-- ---- bytes and nodes, by steps

-- the bytes of a tree's words with a separator behind each, names and numbers taken as the longest name
abbrev weigh_by : (h : Shape) → ℕ → Found ℕ h → ℕ
weigh_by Wrong w x = w + 1
weigh_by Bare w x = w + 1
weigh_by Valued w x = most_name_bytes + 1
weigh_by Named w x = most_name_bytes + 1
weigh_by (One s) w x = w + 1 + x
weigh_by (Two s t) w x = w + 1 + (x.0 + x.1)
weigh_by (Three s t u) w x = w + 1 + (x.0 + x.1 + x.2)

abbrev weigh_step : (k : Kind) → Found ℕ (row k).shape → ℕ
weigh_step k x = weigh_by (row k).shape (length (row k).plain) x

-- its nodes
abbrev count_by : (h : Shape) → Found ℕ h → ℕ
count_by Wrong x = 1
count_by Bare x = 1
count_by Valued x = 1
count_by Named x = 1
count_by (One s) x = 1 + x
count_by (Two s t) x = 1 + (x.0 + x.1)
count_by (Three s t u) x = 1 + (x.0 + x.1 + x.2)

abbrev count_step : (k : Kind) → Found ℕ (row k).shape → ℕ
count_step k x = count_by (row k).shape x

-- ---- of a tree
abbrev extra : Sort → ℕ
extra Truth = 14
extra Integer = 28

abbrev Spare : ℕ → Type 0
Spare d = d < 12 → d % 3 ≡ 0

record Weighed (extra bytes nodes : ℕ) : Type 0 where
  spare : ℕ
  even : 5 * bytes + spare ≡ 57 * nodes + extra
  low : Spare spare

more-spare : {a b : ℕ} → Spare a → Spare b → Spare (a + b)
more-spare f g l = omega (arith, f (omega arith), g (omega arith))

-- a spare of d, with one operand or two or three
one-weighed : {c h n e : ℕ} (w d : ℕ) → 57 + e ≡ 5 * w + c + d → Spare d → Weighed c h n → Weighed e (w + h) (1 + n)
one-weighed w d eq f x = record { spare = d + x.spare; even = omega (arith, x.even); low = more-spare f x.low }

two-weighed : {c h n c₂ h₂ n₂ e : ℕ} (w d : ℕ) → 57 + e ≡ 5 * w + c + c₂ + d → Spare d → Weighed c h n → Weighed c₂ h₂ n₂ → Weighed e (w + (h + h₂)) (1 + (n + n₂))
two-weighed w d eq f x y = record { spare = d + (x.spare + y.spare); even = omega (arith, x.even, y.even); low = more-spare f (more-spare x.low y.low) }

three-weighed : {c h n c₂ h₂ n₂ c₃ h₃ n₃ e : ℕ} (w d : ℕ) → 57 + e ≡ 5 * w + c + c₂ + c₃ + d → Spare d → Weighed c h n → Weighed c₂ h₂ n₂ → Weighed c₃ h₃ n₃ → Weighed e (w + (h + h₂ + h₃)) (1 + (n + n₂ + n₃))
three-weighed w d eq f x y z = record { spare = d + (x.spare + y.spare + z.spare); even = omega (arith, x.even, y.even, z.even); low = more-spare f (more-spare (more-spare x.low y.low) z.low) }

weighed : {x : Sort} (t : Tree x) → Weighed (extra x) (of_tree weigh_step t) (of_tree count_step t)
unfolding of_tree
weighed Tree.tru = record { spare = 46; even = refl; low = λ l. absurd (omega arith) }
weighed Tree.fls = record { spare = 41; even = refl; low = λ l. absurd (omega arith) }
weighed (Tree.neg a) = one-weighed 4 37 refl (λ l. absurd (omega arith)) (weighed a)
weighed (Tree.conj a b) = two-weighed 4 23 refl (λ l. absurd (omega arith)) (weighed a) (weighed b)
weighed (Tree.disj a b) = two-weighed 3 28 refl (λ l. absurd (omega arith)) (weighed a) (weighed b)
weighed (Tree.implies a b) = two-weighed 8 3 refl (λ l. refl) (weighed a) (weighed b)
weighed (Tree.iff a b) = two-weighed 4 23 refl (λ l. absurd (omega arith)) (weighed a) (weighed b)
weighed (Tree.equal a b) = two-weighed 3 0 refl (λ l. refl) (weighed a) (weighed b)
weighed (Tree.less a b) = two-weighed 3 0 refl (λ l. refl) (weighed a) (weighed b)
weighed (Tree.at_most a b) = two-weighed 3 0 refl (λ l. refl) (weighed a) (weighed b)
weighed (Tree.const z) = record { spare = 0; even = refl; low = λ l. refl }
weighed (Tree.var i) = record { spare = 0; even = refl; low = λ l. refl }
weighed (Tree.minus a) = one-weighed 4 37 refl (λ l. absurd (omega arith)) (weighed a)
weighed (Tree.sum a b) = two-weighed 4 9 refl (λ l. refl) (weighed a) (weighed b)
weighed (Tree.difference a b) = two-weighed 4 9 refl (λ l. refl) (weighed a) (weighed b)
weighed (Tree.product a b) = two-weighed 4 9 refl (λ l. refl) (weighed a) (weighed b)
weighed (Tree.ite a b c) = three-weighed 3 0 refl (λ l. refl) (weighed a) (weighed b) (weighed c)

-- ---- of a table's nodes
weigh_at : List ℕ → ℕ → ℕ
weigh_at s n = of_node weigh_step 0 (table s) n

count_at : List ℕ → ℕ → ℕ
count_at s n = of_node count_step 0 (table s) n

-- k has at least the bytes of each node's text and a separator
weighs : (s : List ℕ) (h : Shape) (r : Record) (n : ℕ) (g : ℕ → List ℕ) (k : ℕ → ℕ) → Before n (operands_of h r) → length (word_by (sheet_names s) h r) ≤ most_name_bytes
    → ((j : ℕ) → j < n → length (g j) + 1 ≤ k j) → length (by_shape s h r g) + 1 ≤ weigh_by h (length (row r.kind).plain) (found_by h r k)
weighs s Wrong r n g k b l all = omega arith
weighs s Bare r n g k b l all = omega arith
weighs s Valued r n g k b l all = omega arith
weighs s Named r n g k b l all = omega arith
weighs s (One x) r n g k b l all = omega (arith, length-1 (row r.kind).plain (g r.a), all r.a b.0)
weighs s (Two x y) r n g k b l all = omega (arith, length-2 (row r.kind).plain (g r.a) (g r.b), all r.a b.1.0, all r.b b.0)
weighs s (Three x y z) r n g k b l all = omega (arith, length-3 (row r.kind).plain (g r.a) (g r.b) (g r.c), all r.a b.1.1.0, all r.b b.1.0, all r.c b.0)

-- k has the nodes of each subtree, st where it starts
counts : (h : Shape) (r : Record) (n : ℕ) (k st : ℕ → ℕ) → Ordered st n (operands_of h r) → Before n (operands_of h r)
    → ((j : ℕ) → j < n → k j + st j ≡ j + 1) → count_by h (found_by h r k) + start_by h r n st ≡ n + 1
counts Wrong r n k st o b all = omega arith
counts Bare r n k st o b all = omega arith
counts Valued r n k st o b all = omega arith
counts Named r n k st o b all = omega arith
counts (One x) r n k st o b all = omega (arith, all r.a b.0, o.0)
counts (Two x y) r n k st o b all = omega (arith, all r.a b.1.0, all r.b b.0, o.0, o.1.0)
counts (Three x y z) r n k st o b all = omega (arith, all r.a b.1.1.0, all r.b b.1.0, all r.c b.0, o.0, o.1.0, o.1.1.0)

module _ {s : List ℕ} where
  weigh-below : (m n : ℕ) → n < m → AcceptedNode s n → length (phrase_at s n) + 1 ≤ weigh_at s n
  unfolding weigh_at word_at
  weigh-below zero n h ok = absurd (omega arith)
  weigh-below (suc m) n h ok =
      let b = lower (placed ok) in
      rw (from-record ok, node-is weigh_step 0 (table s) n b)
      (weighs s (shape_at (table s n)) (table s n) n (phrase_at s) (weigh_at s) b (word-short ok) (λ j l. weigh-below m j (omega arith) (record { accepted = ok.accepted; below = omega (arith, ok.below) })))

  count-below : (m n : ℕ) → n < m → AcceptedNode s n → count_at s n + start_at (table s) n ≡ n + 1
  unfolding count_at
  count-below zero n h ok = absurd (omega arith)
  count-below (suc m) n h ok =
      let p = placed ok in
      let b = lower p in
      rw (node-is count_step 0 (table s) n b, start_is (table s) n b)
      (counts (shape_at (table s n)) (table s n) n (count_at s) (start_at (table s)) p.ordered b (λ j l. count-below m j (omega arith) (record { accepted = ok.accepted; below = omega (arith, ok.below) })))

-- ---- of the goal
bounded : {bytes nodes : ℕ} → nodes ≤ most_nodes → Weighed 14 bytes nodes → bytes ≤ 22618
bounded {bytes} {nodes} l w = by (dec_lt bytes 22619) (dec_lt bytes 22620) (dec_lt w.spare 12)
  where
    -- a spare of so much is no multiple of three
    never : (d : ℕ) → w.spare ≡ d → w.spare < 12 → d % 3 ≡ 0
    never d e h = ap (λ (k : ℕ). k % 3) (sym e) ∙ w.low h

    full : 22619 ≤ bytes → 1984 ≤ nodes
    full p = elim (dec_lt nodes 1984) [ yes h ↦ omega (arith, w.even) | no h ↦ omega arith ]

    most : bytes ≤ 22620
    most = elim (dec_lt 22620 bytes) [ yes h ↦ omega (arith, w.even) | no h ↦ omega arith ]

    by : Dec (bytes < 22619) → Dec (bytes < 22620) → Dec (w.spare < 12) → bytes ≤ 22618
    by (yes p) q r = omega arith
    by (no p) q (no h) = omega (arith, w.even)
    by (no p) (yes q) (yes h) = let e : w.spare ≡ 7 = omega (arith, w.even, full (omega arith)) in omega (arith, never 7 e h)
    by (no p) (no q) (yes h) = let e : w.spare ≡ 2 = omega (arith, w.even, full (omega arith), most) in omega (arith, never 2 e h)

pub text-short : (s : List ℕ) → refusal_of most_nodes s ≡ none → length (text_of (rule_in s)) ≤ longest_text
unfolding weigh_at count_at
text-short s e =
    let c = accepted-counted s e in
    let sound = accepted-sound s e in
    let n = goal_at s in
    let ready = goal-ready s e {n = n} refl in
    let bytes : weigh_at s n ≡ of_tree weigh_step (rule_in s).goal = goal-found weigh_step 0 (table s) sound in
    let nodes : count_at s n ≡ of_tree count_step (rule_in s).goal = goal-found count_step 0 (table s) sound in
    let all = count-below (suc n) n (omega arith) ready in
    let few : of_tree count_step (rule_in s).goal ≤ most_nodes = omega (arith, sound.whole, c.most, c.some-node) in
    omega (arith, text-parts s e refl, goal-length s e, weigh-below (suc n) n (omega arith) ready, bounded few (weighed (rule_in s).goal), lines-short s e (variable_count s) (omega arith), c.few)
