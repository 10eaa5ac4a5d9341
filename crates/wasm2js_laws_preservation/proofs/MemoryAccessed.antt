-- Access by access.
use Rattle.std.proofs.Common.{◌≡◌, ◌+◌, ◌≤◌, true, refl}
use Rattle.wasm_lang.specs.Instructions.{Plain, nop, drop_operand, select, local_get, local_set, local_tee, global_get, global_set, load, store, memory_size, memory_copy, memory_fill, const32, const64, eqz32, eqz64, rel32, rel64, un32, un64, bin32, bin64, wrap, extend_s, extend_u, sign_extend}
use Rattle.wasm2js_laws_typed.specs.Laws.{IsFormed}
use Rattle.wasm2js_laws_preservation.specs.ControlControl.{Function}
use Rattle.wasm2js_laws_preservation.specs.InstructionsPlain.{PlainIs}
use Rattle.wasm2js_laws_preservation.proofs.InstructionsComputing.{plains_are_kept}
use Rattle.wasm2js_laws_preservation.proofs.LoadsLoaded.{loads_are_read}
use Rattle.wasm2js_laws_preservation.proofs.StoresStoring.{stores_are_written}
use Rattle.wasm2js_laws_preservation.proofs.RunsMoved.{fill_is_done, copy_is_done}
use Rattle.wasm2js_laws_preservation.specs.ComputedLaws.{accesses_memory, IsHelped}
use Rattle.wasm2js_laws_preservation.proofs.ComputedEach.{all_is_kept}
use Rattle.wasm2js_laws_preservation.specs.MemoryLaws.{AreOnMemory, moves_run, AccessesAreKept, AllIsKept}

module _ (f : Function) (helped : IsHelped f) (memory : AreOnMemory f.setting.bytes helped.helping) where
  access_is : (p : Plain) → accesses_memory p ≡ true → (moves_run p ≡ true → f.setting.bytes + 80 ≤ f.pace) → IsFormed p → PlainIs f helped.helping p
  access_is nop e pace h = absurd (cc e)
  access_is drop_operand e pace h = absurd (cc e)
  access_is select e pace h = absurd (cc e)
  access_is (local_get x) e pace h = absurd (cc e)
  access_is (local_set x) e pace h = absurd (cc e)
  access_is (local_tee x) e pace h = absurd (cc e)
  access_is (global_get x) e pace h = absurd (cc e)
  access_is (global_set x) e pace h = absurd (cc e)
  access_is (load op align offset) e pace h = loads_are_read op align offset h f helped.helping helped.supports memory.readers
  access_is (store op align offset) e pace h = stores_are_written op align offset h f helped.helping helped.supports memory.writers
  access_is memory_size e pace h = absurd (cc e)
  access_is memory_copy e pace h = copy_is_done f helped.helping helped.supports memory.movers (pace refl)
  access_is memory_fill e pace h = fill_is_done f helped.helping helped.supports memory.movers (pace refl)
  access_is (const32 k) e pace h = absurd (cc e)
  access_is (const64 k) e pace h = absurd (cc e)
  access_is eqz32 e pace h = absurd (cc e)
  access_is eqz64 e pace h = absurd (cc e)
  access_is (rel32 op) e pace h = absurd (cc e)
  access_is (rel64 op) e pace h = absurd (cc e)
  access_is (un32 op) e pace h = absurd (cc e)
  access_is (un64 op) e pace h = absurd (cc e)
  access_is (bin32 op) e pace h = absurd (cc e)
  access_is (bin64 op) e pace h = absurd (cc e)
  access_is wrap e pace h = absurd (cc e)
  access_is extend_s e pace h = absurd (cc e)
  access_is extend_u e pace h = absurd (cc e)
  access_is (sign_extend wide bits) e pace h = absurd (cc e)

pub accesses_are_kept : AccessesAreKept
accesses_are_kept f helped memory p e pace = plains_are_kept f helped.fair helped.calls helped.follow helped.helping helped.helpers p (access_is f helped memory p e pace)

pub all_code_is_kept : AllIsKept
all_code_is_kept f helped memory pace calls entries = all_is_kept f helped (λ p e. accesses_are_kept f helped memory p e (λ moves. pace)) calls entries
