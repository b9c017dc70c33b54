-- The text of a tree (document 01, column "text"), given the texts of constants and of variables.
use Rattle.std.specs.Prelude.{ℕ, List, [], ◌++◌, ℤ}
use Rattle.lists.specs.Ascii.{ascii}
use Rattle.meaning.specs.declared.Sort.{Sort}
use Rattle.meaning.specs.Tree.{Tree}
use Rattle.kinds.specs.declared.Kind.{Kind}
use Rattle.kinds.specs.declared.Shape.{Shape}
use Rattle.kinds.specs.declared.Shape.TheVariants.{Wrong, Bare, Valued, Named, One, Two, Three}
use Rattle.kinds.specs.Kinds.{row}
use Rattle.layout.specs.Fold.{Found, of_tree}
use Rattle.wording.specs.Words.{word_of}

-- (WORD A), (WORD A B), (WORD A B C)
abbrev pub call1 : List ℕ → List ℕ → List ℕ
call1 w a = ascii "(" ++ (w ++ (ascii " " ++ (a ++ ascii ")")))

abbrev pub call2 : List ℕ → List ℕ → List ℕ → List ℕ
call2 w a b = ascii "(" ++ (w ++ (ascii " " ++ (a ++ (ascii " " ++ (b ++ ascii ")")))))

abbrev pub call3 : List ℕ → List ℕ → List ℕ → List ℕ → List ℕ
call3 w a b c = ascii "(" ++ (w ++ (ascii " " ++ (a ++ (ascii " " ++ (b ++ (ascii " " ++ (c ++ ascii ")")))))))

module _ (literal : ℤ → List ℕ) (name : ℕ → List ℕ) where
  -- the text of a node, by its shape, from its word and the texts of its operands
  abbrev pub text_by : (h : Shape) → List ℕ → Found (List ℕ) h → List ℕ
  text_by Wrong w x = []
  text_by Bare w x = w
  text_by Valued w x = literal x
  text_by Named w x = name x
  text_by (One s) w x = call1 w x
  text_by (Two s t) w x = call2 w x.0 x.1
  text_by (Three s t u) w x = call3 w x.0 x.1 x.2

  abbrev pub text_step : (k : Kind) → Found (List ℕ) (row k).shape → List ℕ
  text_step k x = text_by (row k).shape (word_of k) x

  abbrev pub text : {s : Sort} → Tree s → List ℕ
  text t = of_tree text_step t
