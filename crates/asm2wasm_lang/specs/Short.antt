-- Modules of asm.js whose translation can be written.
use Rattle.std.specs.Prelude.{◌+◌, ◌^◌, ◌≤◌, length}
use Rattle.std.specs.List.{concat}
use Rattle.asm_lang.specs.Modules.{Module}
use Rattle.asm_lang_valid.specs.Rows.{module_count}
use Rattle.asm2wasm_lang.specs.Counts.{module_clauses}
use Rattle.asm2wasm_lang.specs.Names.{module_names}

-- A module whose translation has room in its sections, as one has that a text of at most 16,777,216 bytes says

pub record IsOfShortText (m : Module) : Type 0 where
  -- nodes and clauses of switches together
  pub nodes : module_count m + module_clauses m ≤ 2 ^ 25
  -- the bytes of its functions' names, its export keys and the names of the foreign globals together
  pub names : length (concat (module_names m)) ≤ 2 ^ 24
