-- What a list of writes leaves of a heap.
use Rattle.std.specs.Prelude.{ℕ, List, [], ◌∷◌}
use Rattle.heap_views.specs.declared.writes.WordSize.{WordSize}
use Rattle.heap_views.specs.declared.writes.WordSize.TheVariants.{One, Two, Four, Eight}
use Rattle.heap_views.specs.declared.writes.Write.{Write}
use Rattle.heap_views.specs.declared.writes.Write.TheVariants.{Set, StoreLe, Put, CopyRun, Fill}
use Rattle.heap_lang.specs.Heap.{store, store_bytes, with_run, copied, filled}

-- the bytes of a word of this size
abbrev pub word_bytes : WordSize → ℕ
word_bytes One = 1
word_bytes Two = 2
word_bytes Four = 4
word_bytes Eight = 8

-- the heap after one write
abbrev pub after_write : Write → List ℕ → List ℕ
after_write (Set kind index word) heap = store kind index word heap
after_write (StoreLe at size word) heap = store_bytes at (word_bytes size) word heap
after_write (Put at bytes) heap = with_run at bytes.now heap
after_write (CopyRun to from len) heap = copied to from len heap
after_write (Fill at len byte) heap = filled at len byte heap

-- the heap after writes, the first of the list first
abbrev pub after_writes : List Write → List ℕ → List ℕ
after_writes [] heap = heap
after_writes (write ∷ writes) heap = after_writes writes (after_write write heap)
