-- `ragwashin_name` meets its contract: the code of the part that `name` hands back. Assumes nothing.
use Rattle.capi.proofs.CodeLaws.{no_name, some-name}
use Rattle.capi.proofs.ragwashin_name.Goals as goal

pub returns-then-size-eq0 : goal.returns-then-size-eq0
returns-then-size-eq0 c = no_name c.args.variable c.name-part.ensures c.if-size-eq0.true

pub returns : goal.returns
returns c = some-name c.args.variable c.name-part.ensures c.variable_place-start.ensures c.if-size-eq0.false
