-- The next byte makes of what was spelled so far what is spelled with it, and that is still a u64.
use Rattle.std.proofs.Common.{arith, sym}
use Rattle.big_endian.proofs.Spells.{spell_none, spell_more, byte_more}
use Rattle.big_endian.proofs.number.Goals as goal

pub loop-byte-init : goal.loop-byte-init
loop-byte-init c = (sym spell_none, omega arith)

pub overflow_mul-n : goal.overflow_mul-n
overflow_mul-n c = omega (arith, byte_more c.args.bytes.now c.min.result _ c.loop-byte.n (omega arith) c.type_inv.bytes c.loop-byte-test.true c.loop-byte.invariant.1)

pub overflow_add-n : goal.overflow_add-n
overflow_add-n c = omega (arith, byte_more c.args.bytes.now c.min.result _ c.loop-byte.n (omega arith) c.type_inv.bytes c.loop-byte-test.true c.loop-byte.invariant.1)

pub loop-byte-preserved : goal.loop-byte-preserved
loop-byte-preserved c = (
  omega (arith, spell_more _ _ c.loop-byte-test.true, c.loop-byte.invariant.0),
  omega (arith, byte_more c.args.bytes.now c.min.result _ c.loop-byte.n (omega arith) c.type_inv.bytes c.loop-byte-test.true c.loop-byte.invariant.1),
)
