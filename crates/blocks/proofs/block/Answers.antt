-- `block` meets its contract: the block's content where it is given, else the empty part. Assumes nothing.
use borrow.Author.Rules.{rules}
use mathlib.Core.Path.{refl, sym, ◌∙◌}
use native.Mathlib.Nat.{add_comm, add-sub_cancel_left}
use Rattle.lists.proofs.PartLaws.{given-part, empty-part}
use Rattle.blocks.proofs.BlockLaws.{given_out, given-wrong, given-right}
use Rattle.blocks.proofs.block.Goals as goal

pub returns-then-sheet-k : goal.returns-then-sheet-k
returns-then-sheet-k c =
    empty-part (given_out _ _ c.if-sheet-k.true) (record { bytes = refl; memory = refl; place = add_comm _ _ })

pub returns-then-block_right : goal.returns-then-block_right
returns-then-block_right c =
    given-part (given-right _ _ (search rules) (sym c.block_right.ensures ∙ c.if-block_right.true))
    (record { bytes = rw add-sub_cancel_left; memory = refl; place = add_comm _ _ })

pub returns : goal.returns
returns c =
    empty-part (given-wrong _ _ (sym c.block_right.ensures ∙ c.if-block_right.false))
    (record { bytes = refl; memory = refl; place = add_comm _ _ })
