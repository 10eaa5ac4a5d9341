-- Byte writes of replies, as the meaning makes them.
use Rattle.std.proofs.Common.{◌≡◌, ℕ, List, [], ◌∷◌, refl}
use Rattle.heap_lang.specs.Heap.{with_run}
use Rattle.session_lang.specs.Script.{WritePlain}
use Rattle.asm_lang_exec.specs.Values.{with_writes}
use Rattle.session_replies.specs.Puts.{after_puts}

pub puts_are_writes : (ws : List WritePlain) (heap : List ℕ) → after_puts ws heap ≡ with_writes ws heap
puts_are_writes [] heap = refl
puts_are_writes (w ∷ ws) heap = puts_are_writes ws (with_run w.at w.bytes heap)
