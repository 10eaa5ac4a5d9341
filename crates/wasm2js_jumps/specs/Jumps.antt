-- What the jumps of one instruction do.
use Rattle.std.specs.Prelude.{ℕ, List, slice_get}
use Rattle.asm_lang.specs.Modules.{Stmt}
use Rattle.wasm2js_translation.specs.Bodies.{branch, label_of}
use Rattle.wasm2js_jumps.specs.Aims.{aims_view}
use Rattle.wasm2js_jumps.specs.declared.switches.Jumps.{Jumps}

abbrev pub jump_to : Jumps → ℕ → List Stmt
jump_to j k = branch (slice_get (aims_view j.aims.now) k) (label_of (aims_view j.aims.now) k) j.depth
