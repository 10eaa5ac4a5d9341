-- What the statements of segments do to the heap, and how many units they take: each call that writes sixteen words takes one, and one that
-- writes zeros takes two and one for each word.
use Rattle.std.specs.Prelude.{◌≡◌, ℕ, zero, suc, ◌+◌, ◌-◌, ◌/◌, ◌<◌, ◌≤◌, ◌==◌, Bool, List, [], ◌∷◌, length, take, drop, if◌then◌else◌}
use Rattle.std.specs.List.{flat_map}
use Rattle.heap_lang.specs.Heap.{with_run}
use Rattle.wasm_lang.specs.Modules.{DataSegment, WasmModule}
use Rattle.wasm_lang_valid.specs.Profile.{constant_offset, or_zero, memory_bytes}
use Rattle.asm_lang_valid.specs.Typed.{scope_of}
use Rattle.asm_lang_exec.specs.Runs.{Place, Run, Part, spent}
use Rattle.asm_lang_exec.specs.Meaning.{Completion, normal}
use Rattle.asm_laws_continuation.specs.Following.{exec_all_to, call_at_to}
use Rattle.wasm2js_lang.specs.Parts.Functions.{is_long}
use Rattle.wasm2js_translation.specs.Words.{stmts_in}
use Rattle.wasm2js_translation.specs.Modules.{are_zeros, to_word, segment_stmts, init_function, translated}
use Rattle.wasm2js_laws_acceptance.specs.FunctionsFunctions.{IsSource}

-- a heap with the bytes of segments that lie at constant places
abbrev pub with_segments : List DataSegment → List ℕ → List ℕ
with_segments [] heap = heap
with_segments (d ∷ ds) heap = with_segments ds (with_run (or_zero (constant_offset d.offset)) d.bytes heap)

abbrev pub zeros_units : (from to : ℕ) → ℕ
zeros_units from to = if from == to then 0 else 2 + (to - from) / 4

-- so many times 64 bytes, where zeros wait from a place on
abbrev pub chunks_units : (count from at : ℕ) → List ℕ → ℕ
chunks_units zero from at bytes = zeros_units from at
chunks_units (suc n) from at bytes =
    if are_zeros (take 64 bytes) then chunks_units n from (at + 64) (drop 64 bytes)
    else zeros_units from at + suc (chunks_units n (at + 64) (at + 64) (drop 64 bytes))

abbrev pub run_units : (long : Bool) (at : ℕ) → List ℕ → ℕ
run_units long at bytes = if long then chunks_units (length bytes / 64) at at bytes else 0

abbrev pub segment_units : DataSegment → ℕ
segment_units d = let at = or_zero (constant_offset d.offset) in run_units (is_long d) (at + to_word at) (drop (to_word at) d.bytes)

abbrev pub segments_units : List DataSegment → ℕ
segments_units [] = 0
segments_units (d ∷ ds) = segment_units d + segments_units ds

-- what a part comes to that takes so many units from a place and leaves this heap: what comes after it, or a unit wasn't there
pub data Takes (units : ℕ) (heap : List ℕ) (p : Place) (after : Place → Run (Unit {0})) (run : Run (Unit {0})) : Type 0 where
  through : (left : ℕ) → p.units ≡ left + units → run ≡ after (record p { heap = heap; units = left }) → Takes units heap p after run
  short : (q : Place) → p.units < units → q.events ≡ p.events → run ≡ spent q → Takes units heap p after run

-- from each place whose heap holds the memory, and nothing else changes
abbrev pub SegmentsAreStored : Type 0
SegmentsAreStored =
    (w : WasmModule) → IsSource w → (bound : ℕ) (next : Completion → Part (Unit {0})) (p : Place) → memory_bytes w ≤ length p.heap → p.units ≤ bound
    → Takes (segments_units w.segments) (with_segments w.segments p.heap) p (next normal)
    (exec_all_to (call_at_to (translated w) bound) (scope_of (translated w) (init_function w)) bound (stmts_in (flat_map segment_stmts w.segments)) next p)
