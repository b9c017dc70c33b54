-- The record of a word that is no kind's, by the test of a number; and the numbers of variables are few. Assumes nothing.
use Prim.Native.Nat.{ℕ, zero, suc, ◌≤◌}
use mathlib.Core.Path.{◌≡◌, refl, ap, ◌∙◌}
use mathlib.Core.Bool.{Bool, true, false}
use mathlib.Core.List.{List, [], ◌∷◌}
use native.Mathlib.Omega.{arith}
use lib.ListN.{length}
use Rattle.lists.specs.Names.{same_bytes}
use Rattle.numbers.specs.Two.{enc}
use Rattle.kinds.specs.declared.Kind.{Kind}
use Rattle.kinds.specs.declared.Record.{Record}
use Rattle.layout.specs.Nodes.{node}
use Rattle.texts.specs.Numbers.{is_number, number_of}
use Rattle.texts.specs.Places.{index_in, names_in}
use Rattle.building.specs.Building.{leaf_record}

index_below : (names : List (List ℕ)) (w : List ℕ) → index_in names w ≤ length names
unfolding index_in
index_below [] w = omega arith
index_below (n ∷ ns) w = by (same_bytes n w) (index_below ns w)
  where
    by : (b : Bool) → index_in ns w ≤ length ns → elim b [ true ↦ 0 | false ↦ suc (index_in ns w) ] ≤ suc (length ns)
    by true l = omega arith
    by false l = omega arith

names-number : (n : ℕ) (s : List ℕ) → length (names_in n s) ≡ n
unfolding names_in
names-number zero s = refl
names-number (suc n) s = ap suc (names-number n _)

pub index-most : (n : ℕ) (s w : List ℕ) → index_in (names_in n s) w ≤ n
index-most n s w = omega (arith, index_below (names_in n s) w, names-number n s)

pub leaf-number : (names : List (List ℕ)) (w : List ℕ) {r : Record} → is_number w ≡ true → r ≡ node Kind.Constant 0 0 0 (enc 16 (number_of w)) → r ≡ leaf_record names w
unfolding leaf_record
leaf-number names w e d = rw (e, leaf_record) d

pub leaf-name : (names : List (List ℕ)) (w : List ℕ) {r : Record} {i : ℕ} → is_number w ≡ false → i ≡ index_in names w → r ≡ node Kind.Variable i 0 0 0 → r ≡ leaf_record names w
unfolding leaf_record
leaf-name names w e i d = rw (e, leaf_record) (d ∙ ap (λ (j : ℕ). node Kind.Variable j 0 0 0) i)
