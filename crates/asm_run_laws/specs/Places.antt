-- What holds at each place of a function's run: its variables are those that are declared, and the heap and the replies that are left fit.
use Rattle.std.specs.Prelude.{◌≡◌, ℕ, List, length, All}
use Rattle.heap_lang.specs.Numbers.{IsBytes}
use Rattle.session_lang.specs.Script.{ReplyPlain}
use Rattle.session_lang.specs.Fits.{writes_of}
use Rattle.asm_lang.specs.Modules.{Function, Module}
use Rattle.asm_lang_exec.specs.Runs.{Place}
use Rattle.asm_lang_exec.specs.Session.{heap_length}
use Rattle.asm2wasm_translation.specs.Numbers.{local_names, global_names}
use Rattle.asm2wasm_laws_run.specs.State.{names, Stays}

pub record Holds (m : Module) (size : ℕ) (f : Function) (p : Place) : Type 0 where
  pub locals : names p.locals ≡ local_names f
  pub globals : names p.globals ≡ global_names m
  pub heap : length p.heap ≡ heap_length m size
  pub bytes : IsBytes p.heap
  pub replies : All (λ (r : ReplyPlain). All (Stays (heap_length m size)) (writes_of r)) p.replies.left
