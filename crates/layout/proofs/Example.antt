-- Sheet A of document 01, by computation; and each theorem of the layout at it, so that its premises are seen to be met. Assumes nothing.
use Prim.Native.Nat.{ℕ, zero, suc, ◌+◌, ◌-◌, ◌*◌, ◌≤◌, ◌<◌}
use mathlib.Core.Path.{◌≡◌, refl}
use mathlib.Core.Bool.{Bool, true, ◌&&◌}
use mathlib.Core.List.{List, [], ◌∷◌, ◌++◌}
use native.Mathlib.Omega.{arith}
use borrow.Author.Tests.{ltb-true}
use lib.Dec.{ltb, lit<, lit≤}
use lib.IntN.{pos}
use lib.ListN.{length, take, drop, replicate}
use lib.Signed.{le_z_yes}
use Rattle.lists.specs.Places.{at, from}
use Rattle.lists.specs.Run.{Run}
use Rattle.lists.proofs.RunLaws.{run-all}
use Rattle.lists.proofs.TestLaws.{both}
use Rattle.numbers.specs.Two.{enc}
use Rattle.numbers.specs.Bytes.{byte_at, Bytes}
use Rattle.numbers.specs.Ranges.{◌⋯◌}
use Rattle.meaning.specs.Tree.{equal, var}
use Rattle.meaning.specs.Rule.{Variable, Rule, no_variable, domain_of}
use Rattle.kinds.specs.declared.Kind.{Kind}
use Rattle.kinds.specs.declared.Kind.TheVariants.{Unknown}
use Rattle.kinds.specs.declared.Record.{Record}
use Rattle.kinds.specs.declared.Shape.{Shape}
use Rattle.kinds.specs.declared.Shape.TheVariants.{Wrong, Bare, Valued, Named, One, Two, Three}
use Rattle.kinds.specs.Kinds.{row}
use Rattle.kinds.proofs.RowLaws.{by_rows}
use Rattle.kinds.proofs.ClaimLaws.{Throughout}
use Rattle.layout.specs.Limits.{most_variables, nodes_in_block, most_nodes, blocks_for, most_blocks, most_sheet_bytes, variable_place, node_place}
use Rattle.layout.specs.Checks.{weighted, check_of, sealed}
use Rattle.layout.specs.Starts.{shape_at, operands_of, start_step, start_at}
use Rattle.layout.specs.Goal.{tree_step, tree_at, goal_of}
use Rattle.layout.specs.Nodes.{node, nodes_of}
use Rattle.layout.specs.Parts.{node_count, variable_count, table, rule_in}
use Rattle.layout.specs.LaidOut.{Sound, LaidOut}
use Rattle.layout.specs.Sheet.{sheet_of}
use Rattle.layout.specs.WellFormed.{FineVariable, Fine, WellFormed}
use Rattle.layout.specs.Fold.{Found, of_tree, node_step, of_node}
use Rattle.layout.proofs.StartLaws.{Before, lower, start_is}
use Rattle.layout.proofs.GoalLaws.{tree_is}
use Rattle.layout.proofs.PartLaws.{words}
use Rattle.layout.proofs.Forward.{Reads, reads, goal-run, goal-size, records-are, same-goal}
use Rattle.layout.proofs.Backward.{table-sound, table-goal, table-words}
use Rattle.layout.proofs.FoldLaws.{node-is, found-is, goal-found}
use Rattle.layout.proofs.SheetLaws.{sheet-is, one-sheet}
use Rattle.layout.proofs.SheetBack.{sheet-laid-out, sheet-shows}
use Rattle.layout.proofs.Made.{throughout-fine}
use Rattle.layout.proofs.Well.{goal-fine, rule-well}
use Rattle.layout.proofs.Agree.{Alike, lengths, rest, agrees, domain-nameless}

-- the names and the rule
abbrev seated : List ℕ
seated = 115 ∷ 101 ∷ 97 ∷ 116 ∷ 101 ∷ 100 ∷ []

abbrev trained : List ℕ
trained = 116 ∷ 114 ∷ 97 ∷ 105 ∷ 110 ∷ 101 ∷ 100 ∷ []

abbrev bit : List ℕ → Variable
bit name = record { name = name; domain = pos 0 ⋯ pos 1 }

abbrev over : List ℕ → List ℕ → Rule
over x y = record { variables = bit x ∷ bit y ∷ []; goal = equal (var 0) (var 1) }

abbrev pub rule_a : Rule
rule_a = over seated trained

abbrev pub sheet_a : List ℕ
sheet_a = sheet_of rule_a

-- ---- the limits, as document 01 and item 3 of document 02 count them
blocks-are : (blocks_for 1 ≡ 1) × (blocks_for 31 ≡ 1) × (blocks_for 32 ≡ 2) × (most_blocks ≡ 65)
blocks-are = (refl, refl, refl, refl)

whole-blocks : (nodes_in_block * 64 ≡ most_nodes) × (most_sheet_bytes ≡ 33280)
whole-blocks = (refl, refl)

places-are : (variable_place 0 ≡ 8) × (variable_place most_variables ≡ 392) × (node_place 0 ≡ 512) × (node_place 30 ≡ 992) × (node_place 31 ≡ 1024)
places-are = (refl, refl, refl, refl, refl)

-- ---- by computation
-- document 01's check of a block
check-is : check_of 0 (1 ∷ (replicate 508 0 ++ (255 ∷ []))) ≡ 64531
unfolding check_of weighted
check-is = refl

pub size_is : length sheet_a ≡ 1024
unfolding sheet_of sealed check_of weighted of_tree
size_is = refl

header_is : take 56 sheet_a ≡ 1 ∷ 0 ∷ 3 ∷ 0 ∷ 2 ∷ 0 ∷ 0 ∷ 0 ∷ 0 ∷ 0 ∷ 1 ∷ 0 ∷ 6 ∷ 0 ∷ (seated ++ (replicate 12 0 ++ (0 ∷ 0 ∷ 1 ∷ 0 ∷ 7 ∷ 0 ∷ (trained ++ replicate 11 0))))
unfolding sheet_of sealed check_of weighted of_tree enc
header_is = refl

nodes-are : take 48 (drop 512 sheet_a) ≡ 17 ∷ (replicate 15 0 ++ (17 ∷ 0 ∷ 1 ∷ (replicate 13 0 ++ (8 ∷ 0 ∷ 0 ∷ 0 ∷ 1 ∷ replicate 11 0))))
unfolding sheet_of sealed check_of weighted of_tree
nodes-are = refl

-- ---- it is well formed, whatever the names
abbrev pub are_bytes : List ℕ → Bool
are_bytes [] = true
are_bytes (x ∷ xs) = ltb x 256 && are_bytes xs

pub bytes-by : (l : List ℕ) → are_bytes l ≡ true → Bytes l
bytes-by [] e j = lit< tt
bytes-by (x ∷ l) e zero = ltb-true x 256 (both (ltb x 256) (are_bytes l) e).0
bytes-by (x ∷ l) e (suc j) = bytes-by l (both (ltb x 256) (are_bytes l) e).1 j

fine-bit : (x : List ℕ) → length x ≤ 16 → Bytes x → FineVariable (bit x)
fine-bit x h b = record {
  ends = record { low = record { low = le_z_yes tt; high = le_z_yes tt }; high = record { low = le_z_yes tt; high = le_z_yes tt } };
  short = h;
  bytes = b;
}

well-over : (x y : List ℕ) → FineVariable (bit x) → FineVariable (bit y) → WellFormed (over x y)
unfolding Throughout by_rows of_tree
well-over x y f g = record { few = lit≤ tt; most = lit≤ tt; variables = each; goal = throughout-fine 2 _ (tt, ((lit< tt, tt), (lit< tt, tt))) }
  where
    each : (j : ℕ) → j < 2 → FineVariable (at no_variable (bit x ∷ bit y ∷ []) j)
    each zero h = f
    each (suc zero) h = g
    each (suc (suc j)) h = absurd (omega arith)

pub well_a : WellFormed rule_a
well_a = well-over seated trained (fine-bit seated (lit≤ tt) (bytes-by seated refl)) (fine-bit trained (lit≤ tt) (bytes-by trained refl))

-- ---- so it has a sheet, which shows it
pub laid_out_a : LaidOut sheet_a
laid_out_a = sheet-laid-out rule_a well_a

pub shows_a : rule_in sheet_a ≡ rule_a
shows_a = sheet-shows rule_a well_a

same-sheet : sheet_of (rule_in sheet_a) ≡ sheet_a
same-sheet = sheet-is sheet_a laid_out_a

still-well : WellFormed (rule_in sheet_a)
still-well = rule-well sheet_a laid_out_a

only-sheet : sheet_of (rule_in sheet_a) ≡ sheet_a
only-sheet = one-sheet (sheet_of (rule_in sheet_a)) sheet_a (sheet-laid-out (rule_in sheet_a) still-well) laid_out_a (sheet-shows (rule_in sheet_a) still-well)

-- ---- its table
abbrev f : ℕ → Record
f = table sheet_a

narrow : (n : ℕ) → (f n).value < 65536
narrow = words sheet_a laid_out_a.bytes

sound : Sound f (variable_count sheet_a) (node_count sheet_a)
sound = laid_out_a.nodes

last : 2 < node_count sheet_a
unfolding sheet_of sealed check_of weighted of_tree
last = lit< tt

before : Before 2 (operands_of (shape_at (f 2)) (f 2))
before = lower (sound.placed 2 last)

start : start_at f 2 ≡ start_step f 2 (start_at f)
start = start_is f 2 before

tree : tree_at f 2 ≡ tree_step f 2 (tree_at f)
tree = tree_is f 2 before

subtree : Reads f 2
subtree = reads narrow sound.placed sound.typed 2 last

whole : Run f 0 (nodes_of 0 (goal_of f (node_count sheet_a))) (node_count sheet_a)
whole = goal-run narrow sound

records : from f 0 (node_count sheet_a) ≡ nodes_of 0 (goal_of f (node_count sheet_a))
records = records-are narrow sound

all-nodes : length (nodes_of 0 (goal_of f (node_count sheet_a))) ≡ node_count sheet_a
all-nodes = goal-size narrow sound

fine : Fine (variable_count sheet_a) (goal_of f (node_count sheet_a))
fine = goal-fine narrow sound

-- the table that is the goal's records
abbrev listed : ℕ → Record
listed = at (node Unknown 0 0 0 0) (nodes_of 0 rule_a.goal)

abbrev size : ℕ
size = length (nodes_of 0 rule_a.goal)

listed-run : Run listed 0 (nodes_of 0 rule_a.goal) size
listed-run = run-all (nodes_of 0 rule_a.goal) (node Unknown 0 0 0 0)

listed-sound : Sound listed 2 size
listed-sound = table-sound listed 2 size rule_a.goal well_a.goal listed-run

listed-goal : goal_of listed size ≡ rule_a.goal
listed-goal = table-goal listed 2 size rule_a.goal well_a.goal listed-run

listed-words : (j : ℕ) → j < size → (listed j).value < 65536
listed-words = table-words listed 2 size rule_a.goal well_a.goal listed-run

-- ---- a step by kind: the number of nodes
abbrev counted : (h : Shape) → Found ℕ h → ℕ
counted Wrong x = 1
counted Bare x = 1
counted Valued x = 1
counted Named x = 1
counted (One s) x = x + 1
counted (Two s t) x = x.0 + x.1 + 1
counted (Three s t u) x = x.0 + x.1 + x.2 + 1

abbrev count : (k : Kind) → Found ℕ (row k).shape → ℕ
count k = counted (row k).shape

three : of_tree count rule_a.goal ≡ 3
unfolding of_tree
three = refl

one-node : of_node count 0 f 2 ≡ node_step count f 2 (of_node count 0 f)
one-node = node-is count 0 f 2 before

found : of_node count 0 f 2 ≡ of_tree count (tree_at f 2).1
found = found-is count 0 f sound.placed sound.typed 2 last

found-whole : of_node count 0 f (node_count sheet_a - 1) ≡ of_tree count (goal_of f (node_count sheet_a))
found-whole = goal-found count 0 f sound

-- ---- other names
abbrev rule_b : Rule
rule_b = over (97 ∷ []) (98 ∷ [])

abbrev sheet_b : List ℕ
sheet_b = sheet_of rule_b

well_b : WellFormed rule_b
well_b = well-over (97 ∷ []) (98 ∷ []) (fine-bit (97 ∷ []) (lit≤ tt) (bytes-by (97 ∷ []) refl)) (fine-bit (98 ∷ []) (lit≤ tt) (bytes-by (98 ∷ []) refl))

laid_out_b : LaidOut sheet_b
laid_out_b = sheet-laid-out rule_b well_b

alike : Alike (rule_in sheet_a) (rule_in sheet_b)
alike = rw (shows_a, sheet-shows rule_b well_b) (record { goal = refl; count = refl; domains = each })
  where
    each : (i : ℕ) → domain_of rule_a i ≡ domain_of rule_b i
    each zero = refl
    each (suc zero) = refl
    each (suc (suc i)) = refl

same-table : (node_count sheet_a ≡ node_count sheet_b) × ((j : ℕ) → j < node_count sheet_a → f j ≡ table sheet_b j)
same-table = same-goal narrow (words sheet_b laid_out_b.bytes) sound laid_out_b.nodes alike.goal

same_length : length sheet_a ≡ length sheet_b
same_length = lengths sheet_a sheet_b laid_out_a laid_out_b alike

same_nodes : drop 512 sheet_a ≡ drop 512 sheet_b
same_nodes = rest sheet_a sheet_b laid_out_a laid_out_b alike

-- byte 10 is of a domain
same_byte : byte_at sheet_a 10 ≡ byte_at sheet_b 10
same_byte = agrees sheet_a sheet_b laid_out_a laid_out_b alike 10 (domain-nameless (variable_count sheet_a) 0 2 (omega arith))
