-- `weighed` meets its contract: a slice's byte is below 256, so that the product fits. Assumes nothing.
use Prim.Native.Nat.{◌<◌}
use native.Mathlib.Omega.{arith}
use Rattle.numbers.specs.Bytes.{byte_limit, byte_at}
use Rattle.blocks.proofs.CheckLaws.{product-fits}
use Rattle.blocks.proofs.weighed.Goals as goal

pub overflow_cast-result-2 : goal.overflow_cast-result-2
overflow_cast-result-2 c =
    let byte : byte_at c.args.content.now c.args.i < byte_limit = omega (arith, c.type_inv.content c.args.i) in
    omega (arith, byte)

pub overflow_mul-result : goal.overflow_mul-result
overflow_mul-result c =
    let byte : byte_at c.args.content.now c.args.i < byte_limit = omega (arith, c.type_inv.content c.args.i) in
    omega (arith, product-fits c.requires.1 (byte))
