-- Which modules may be written for a pair, and how far apart their reductions lie.
use Rattle.std.specs.Prelude.{◌≡◌, ℕ, ◌+◌, ◌*◌, None}
use Rattle.session_lang.specs.Script.{ScriptPlain}
use Rattle.session_lang.specs.Observation.{IsBelow}
use Rattle.session_lang.specs.Simulation.{Session}
use Rattle.wasm_lang.specs.Modules.{WasmModule}
use Rattle.wasm_lang_valid.specs.Validity.{IsValidModule}
use Rattle.wasm_lang_exec.specs.Fits as machine
use Rattle.wasm_lang_exec.specs.Session.{wasm}
use Rattle.wasm_link_lang.specs.Pairs.{Pair}
use Rattle.wasm_link_lang.specs.Session.{pair}
use Rattle.wasm_link_lang.specs.Fits.{misfit}
use Rattle.wasm_link_lang.specs.Calling.{IsCalledAs}

-- what the source shows the target comes to show, and the target shows nothing else; events, words and heaps are equal
pub record ShowsSame (source target : Session) : Type 0 where
  pub nothing_lost : (n : ℕ) → (k : ℕ) × IsBelow (source n) (target k)
  pub nothing_new : (k : ℕ) → (n : ℕ) × IsBelow (target k) (source n)

-- It is valid and called as asked. A script fits it exactly where it fits the pair, or neither from the same line on; then both show the same.
pub record IsAllowed (w : Pair) (m : WasmModule) : Type 0 where
  pub valid : IsValidModule m
  pub called : IsCalledAs w m
  pub fits : (s : ScriptPlain) → misfit w s ≡ machine.misfit m s
  pub simulates : (s : ScriptPlain) → misfit w s ≡ None → ShowsSame (pair w s) (wasm m s)

-- six reductions are enough for one of the pair, and two more
pub record IsBounded (w : Pair) (m : WasmModule) : Type 0 where
  pub no_more : (s : ScriptPlain) → misfit w s ≡ None → (n : ℕ) → IsBelow (pair w s n) (wasm m s (6 * n + 2))
  pub no_fewer : (s : ScriptPlain) → misfit w s ≡ None → (n : ℕ) → IsBelow (wasm m s n) (pair w s n)
