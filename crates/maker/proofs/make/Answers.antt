-- `maker::make` meets its contract: 18 where the scan stops, or what is answered to a text. Assumes nothing.
use mathlib.Core.Path.{refl}
use Rattle.maker.proofs.MakeLaws.{text-refused, scan-stopped, scan-whole}
use Rattle.maker.proofs.make.Goals as goal

pub new-requires : goal.new-requires
new-requires c = scan-whole c.scan.ensures c.in-Ok.is

pub returns-in-Err : goal.returns-in-Err
returns-in-Err c = text-refused _ refl (scan-stopped c.scan.ensures c.in-Err.is)
