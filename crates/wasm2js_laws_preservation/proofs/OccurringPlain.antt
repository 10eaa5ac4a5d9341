-- What holds of each plain instruction in code.
use Rattle.wasm_lang.specs.Instructions.{Plain}
use Rattle.wasm_lang_exec.specs.Code.{unreachable, block, loop, if_block, br, br_if, br_table, return, call, call_indirect, plain, Trees, ε, ◌▹◌}
use Rattle.wasm2js_laws_preservation.specs.OccurringLaws.{AllPlain}

module _ (P Q : Plain → Type 0) (f : (p : Plain) → P p → Q p) where
  pub implied : (code : Trees) → AllPlain P code → AllPlain Q code
  implied ε h = tt
  implied (plain p ▹ code) h = (f p h.0, implied code h.1)
  implied (block r body ▹ code) h = (implied body h.0, implied code h.1)
  implied (loop r body ▹ code) h = (implied body h.0, implied code h.1)
  implied (if_block r first second ▹ code) h = (implied first h.0, implied second h.1, implied code h.2)
  implied (unreachable ▹ code) h = implied code h
  implied (br k ▹ code) h = implied code h
  implied (br_if k ▹ code) h = implied code h
  implied (br_table ks d ▹ code) h = implied code h
  implied (return ▹ code) h = implied code h
  implied (call g ▹ code) h = implied code h
  implied (call_indirect t ▹ code) h = implied code h

module _ (P : Plain → Type 0) (f : (p : Plain) → P p) where
  pub every : (code : Trees) → AllPlain P code
  every ε = tt
  every (plain p ▹ code) = (f p, every code)
  every (block r body ▹ code) = (every body, every code)
  every (loop r body ▹ code) = (every body, every code)
  every (if_block r first second ▹ code) = (every first, every second, every code)
  every (unreachable ▹ code) = every code
  every (br k ▹ code) = every code
  every (br_if k ▹ code) = every code
  every (br_table ks d ▹ code) = every code
  every (return ▹ code) = every code
  every (call g ▹ code) = every code
  every (call_indirect t ▹ code) = every code
