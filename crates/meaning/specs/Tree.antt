-- The formulas and terms of a theorem, as trees by sorts: a constructor for each kind of document 01's table, in its order.
use Rattle.std.specs.Prelude.{ℕ, ℤ}
use Rattle.meaning.specs.declared.Sort.{Sort}
use Rattle.meaning.specs.declared.Sort.TheVariants.{Truth, Integer}

pub data Tree : Sort → Type 0 where
  tru fls : Tree Truth
  neg : Tree Truth → Tree Truth
  conj disj implies iff : Tree Truth → Tree Truth → Tree Truth
  equal less at_most : Tree Integer → Tree Integer → Tree Truth
  const : ℤ → Tree Integer
  var : ℕ → Tree Integer
  minus : Tree Integer → Tree Integer
  sum difference product : Tree Integer → Tree Integer → Tree Integer
  ite : Tree Truth → Tree Integer → Tree Integer → Tree Integer
