use native.Mathlib.Omega.{arith}
use Rattle.inspect.proofs.part_code.Goals as goal

pub overflow_mul-result : goal.overflow_mul-result
overflow_mul-result c = let h = rw c.in-OfStore.is at c.requires in omega (arith, h)

pub overflow_add-result : goal.overflow_add-result
overflow_add-result c = let h = rw c.in-OfStore.is at c.requires in omega (arith, h)

pub overflow_mul-result-in-OfMemory-2 : goal.overflow_mul-result-in-OfMemory-2
overflow_mul-result-in-OfMemory-2 c = let h = rw c.in-OfMemory.is at c.requires in omega (arith, h)

pub overflow_add-result-in-OfMemory : goal.overflow_add-result-in-OfMemory
overflow_add-result-in-OfMemory c = let h = rw c.in-OfMemory.is at c.requires in omega (arith, h)

pub returns-in-OfStore : goal.returns-in-OfStore
returns-in-OfStore c = rw c.in-OfStore.is

pub returns-in-OfMemory : goal.returns-in-OfMemory
returns-in-OfMemory c = rw c.in-OfMemory.is
