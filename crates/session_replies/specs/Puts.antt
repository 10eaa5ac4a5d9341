-- What byte writes leave of a heap.
use Rattle.std.specs.Prelude.{ℕ, List, [], ◌∷◌}
use Rattle.heap_lang.specs.Heap.{with_run}
use Rattle.session_lang.specs.Script.{WritePlain}

-- the heap after byte writes, in order; one that passes the end changes nothing
abbrev pub after_puts : List WritePlain → List ℕ → List ℕ
after_puts [] heap = heap
after_puts (w ∷ ws) heap = after_puts ws (with_run w.at w.bytes heap)
