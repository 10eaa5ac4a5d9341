-- Lists of writes.
use Rattle.std.proofs.Common.{◌≡◌, refl, ◌∙◌, ℕ, List, [], ◌∷◌, ◌++◌, length}
use Rattle.heap_views.specs.declared.writes.Write.{Write}
use Rattle.heap_views.specs.declared.writes.Write.TheVariants.{Set, StoreLe, Put, CopyRun, Fill}
use Rattle.heap_views.specs.Writes.{word_bytes, after_write, after_writes}
use Rattle.heap_lang.proofs.RunLemmas.{length-with_run, length-copied, length-filled}
use Rattle.heap_lang.proofs.HeapLemmas.{length-store, length-store_bytes}

pub length-after_write : (write : Write) (heap : List ℕ) → length (after_write write heap) ≡ length heap
length-after_write (Set kind index word) heap = length-store kind index word heap
length-after_write (StoreLe at size word) heap = length-store_bytes at (word_bytes size) word heap
length-after_write (Put at bytes) heap = length-with_run at bytes.now heap
length-after_write (CopyRun to from len) heap = length-copied to from len heap
length-after_write (Fill at len byte) heap = length-filled at len byte heap

pub length-after_writes : (writes : List Write) (heap : List ℕ) → length (after_writes writes heap) ≡ length heap
length-after_writes [] heap = refl
length-after_writes (write ∷ writes) heap = length-after_writes writes (after_write write heap) ∙ length-after_write write heap

pub after_writes-append : (first second : List Write) (heap : List ℕ) → after_writes (first ++ second) heap ≡ after_writes second (after_writes first heap)
after_writes-append [] second heap = refl
after_writes-append (write ∷ first) second heap = after_writes-append first second (after_write write heap)
