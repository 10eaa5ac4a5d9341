-- A session of a pair whose second module is empty is that of the first module.
use Rattle.std.proofs.Common.{◌≡◌, ℕ, zero, suc, ◌+◌, Bool, true, false, List, [], ◌∷◌, ◌++◌, length, map, replicate, Option, Some, None, take, drop, ◌≤◌, refl, sym, ap, ◌∙◌, arith, length-append, append-nil}
use Rattle.std.specs.Prelude.{ℤ, reverse, ◌&&◌, nat_le}
use Rattle.std.proofs.lemmas.List.{length-replicate, length-take, length-drop, length-map}
use Rattle.sem_words.specs.declared.word.Word.{Word}
use Rattle.sem_words.specs.declared.word.TrapKind.TheVariants as kinds
use Rattle.session_lang.specs.Script.{CallPlain, ScriptPlain}
use Rattle.session_lang.specs.Observation.{ObservationPlain, trapped}
use Rattle.session_lang.specs.Imports.{first_replies}
use Rattle.heap_lang.specs.Heap.{with_run}
use Rattle.wasm_lang.specs.Modules.{ElementSegment, DataSegment, WasmModule}
use Rattle.wasm_lang_valid.specs.Runnable as alone
use Rattle.wasm_lang_exec.specs.Code.{call, ε, ◌▹◌}
use Rattle.wasm_lang_exec.specs.Store.{Store, written}
use Rattle.wasm_lang_exec.specs.Reductions.{callee_at, Code}
use Rattle.wasm_lang_exec.specs.Session as machine
use Rattle.wasm_lang_exec.specs.Session.{bytes_in, replaced, offset_of, value_of, place_of, first_globals, first_memory, first_store, entries_fit, bytes_fit, with_entries, with_bytes, Run, finished, spent, over, result_event, with_event, function_named, arguments_for, after_call, after_start, seen_end, wasm}
use Rattle.wasm_laws_sound.specs.Laws.{IsWhole}
use Rattle.wasm_link_lang.specs.Pairs.{Pair}
use Rattle.wasm_link_lang.specs.Reductions.{entries}
use Rattle.wasm_link_lang.specs.Session.{greater, pair_memory, begins, loaded, filled, pair_store, segments_fit, first_or_second, address_named, run_call, one_call, calls_seen, started, instantiated, pair}
use Rattle.wasm_link_laws_modules.proofs.Facts.{le_true}
use Rattle.wasm_link_laws_alone.specs.Laws.{empty, with_empty, PairsAreAlone}
use Rattle.wasm_link_laws_alone.proofs.Steps.{called_alone, KeepsTable, run_alone}

abbrev Following : Type 0
Following = ℕ → Store → ObservationPlain

-- ---- segments: entries touch the table alone, and bytes the memory

abbrev loaded_bytes : List DataSegment → List Word → List ℕ → List ℕ
loaded_bytes [] globals memory = memory
loaded_bytes (d ∷ ds) globals memory = loaded_bytes ds globals (with_run (place_of (value_of globals d.offset)) d.bytes memory)

bytes_are : (ds : List DataSegment) (s : Store) → with_bytes ds s ≡ record s { memory = loaded_bytes ds s.globals s.memory }
bytes_are [] s = refl
bytes_are (d ∷ ds) s = bytes_are ds (record s { memory = with_run (offset_of s d.offset) d.bytes s.memory })

entries_are : (es : List ElementSegment) (s : Store) → with_entries es s ≡ record s { table = (with_entries es s).table }
entries_are [] s = refl
entries_are (e ∷ es) s = entries_are es (record s { table = replaced (offset_of s e.offset) (map Some e.functions) s.table })

both_parts : (a b : Bool) → (a && b) ≡ true → (a ≡ true) × (b ≡ true)
both_parts true b e = (refl, e)
both_parts false b e = absurd (cc e)

many_replaced : {A : Type 0} → (at : ℕ) (new old : List A) → at + length new ≤ length old → length (replaced at new old) ≡ length old
many_replaced at new old h =
    let a = length-append (take at old) (new ++ drop (at + length new) old) in
    let b = length-append new (drop (at + length new) old) in
    let c = length-take at old in
    let d = length-drop (at + length new) old in omega (arith, a, b, c, d, h)

-- entries that lie inside leave the table as long as it was
many_entries : (es : List ElementSegment) (s s0 : Store) → s.globals ≡ s0.globals → length s.table ≡ length s0.table → entries_fit s0 es ≡ true → length (with_entries es s).table ≡ length s0.table
many_entries [] s s0 g n e = n
many_entries (x ∷ es) s s0 g n e =
    let b = both_parts (nat_le (offset_of s0 x.offset + length x.functions) (length s0.table)) (entries_fit s0 es) e in
    let le = le_true (offset_of s0 x.offset + length x.functions) (length s0.table) b.0 in
    let at : offset_of s x.offset ≡ offset_of s0 x.offset = ap (λ gs. place_of (value_of gs x.offset)) g in
    let l = length-map x.functions (λ (f : ℕ). Some f) in
    let same = many_replaced (offset_of s x.offset) (map Some x.functions) s.table (omega (arith, le, at, n, l)) in
    many_entries es (record s { table = replaced (offset_of s x.offset) (map Some x.functions) s.table }) s0 g (same ∙ n) b.1

either_pages : (o : Option ℕ) → greater o None ≡ o
either_pages None = refl
either_pages (Some n) = refl

and_true : (b : Bool) → (b && true) ≡ b
and_true true = refl
and_true false = refl

only_first : (o : Option ℕ) → first_or_second o None ≡ o
only_first None = refl
only_first (Some f) = refl

module _ (m : WasmModule) (whole : IsWhole m) where
  abbrev w : Pair
  w = with_empty m

  abbrev Agree : Following → Following → Type 0
  Agree next next' = (n : ℕ) (s : Store) → length s.table ≡ entries m → next n s ≡ next' n s

  -- ---- calls

  call_same : (n a : ℕ) (arguments : List Word) (s : Store) → length s.table ≡ entries m
      → (run_call w n a arguments s ≡ machine.run_call m n a arguments s) × KeepsTable m whole (machine.run_call m n a arguments s)
  call_same n a arguments s many = run_alone m whole n (Code (reverse arguments) (call a ▹ ε)) [] s many (tt, tt)

  after_same : (r : Run) (next next' : Following) → KeepsTable m whole r → Agree next next' → after_call r next ≡ after_call r next'
  after_same (finished vs s left) next next' many same = same left (with_event (result_event vs) s) many
  after_same (spent s) next next' many same = refl
  after_same (over e s) next next' many same = refl

  start_same : (r : Run) (next next' : Following) → KeepsTable m whole r → Agree next next' → after_start r next ≡ after_start r next'
  start_same (finished vs s left) next next' many same = same left s many
  start_same (spent s) next next' many same = refl
  start_same (over e s) next next' many same = refl

  named_same : (name : List ℕ) → address_named w name ≡ function_named m.exports name
  named_same name = only_first (function_named m.exports name)

  one_same : (o : Option ℕ) (zs : List ℤ) (next next' : Following) → Agree next next' → Agree (λ n s. one_call w o zs n s next) (λ n s. machine.one_call m o zs n s next')
  one_same None zs next next' same n s many = refl
  one_same (Some a) zs next next' same n s many =
      let vs = arguments_for (callee_at m a) zs in
      let it = call_same n a vs s many in
      ap (λ c. after_call (run_call w n a (arguments_for c zs) s) next) (called_alone m a) ∙ ap (λ r. after_call r next) it.0 ∙ after_same (machine.run_call m n a vs s) next next' it.1 same

  calls_same : (cs : List CallPlain) → Agree (calls_seen w cs) (machine.calls_seen m cs)
  calls_same [] n s many = refl
  calls_same (c ∷ cs) n s many =
      ap (λ o. one_call w o c.args n s (calls_seen w cs)) (named_same c.name)
      ∙ one_same (function_named m.exports c.name) c.args (calls_seen w cs) (machine.calls_seen m cs) (calls_same cs) n s many

  started_same : (o : Option ℕ) (next next' : Following) → Agree next next' → Agree (λ n s. started w o n s next) (λ n s. machine.started m o n s next')
  started_same None next next' same n s many = same n s many
  started_same (Some a) next next' same n s many =
      let it = call_same n a [] s many in ap (λ r. after_start r next) it.0 ∙ start_same (machine.run_call m n a [] s) next next' it.1 same

  -- ---- instantiation

  module _ (s : ScriptPlain) where
    memory_same : pair_memory w s ≡ first_memory m s
    memory_same = ap (λ o. written s.writes (replicate (bytes_in o) 0)) (either_pages (alone.pages m))

    abbrev begun : Store
    begun = with_bytes m.segments (with_entries m.elements (first_store m s))

    begins_same : begins m s (pair_memory w s) ≡ first_store m s
    begins_same = ap (λ memory. begins m s memory) memory_same

    begun_is : begun ≡ record { memory = loaded_bytes m.segments (first_globals m s) (first_memory m s); globals = first_globals m s; table = filled m s; events = []; replies = first_replies s }
    begun_is =
        ap (with_bytes m.segments) (entries_are m.elements (first_store m s)) ∙ bytes_are m.segments (record (first_store m s) { table = filled m s })

    loaded_same : loaded m s (pair_memory w s) ≡ loaded_bytes m.segments (first_globals m s) (first_memory m s)
    loaded_same =
        ap (λ memory. loaded m s memory) memory_same ∙ ap (λ (t : Store). t.memory) (bytes_are m.segments (begins m s (first_memory m s)))

    store_same : pair_store w s ≡ begun
    store_same =
        let globals = append-nil (first_globals m s) in
        let table = append-nil (filled m s) in
        (λ i. record { memory = loaded_same i; globals = globals i; table = table i; events = []; replies = first_replies s }) ∙ sym begun_is

    many_begun : entries_fit (first_store m s) m.elements ≡ true → length begun.table ≡ entries m
    many_begun fits =
        ap (λ (t : Store). length t.table) begun_is ∙ many_entries m.elements (first_store m s) (first_store m s) refl refl fits ∙ length-replicate (entries m) None

    fits_same : (segments_fit m s (pair_memory w s) && segments_fit empty s (pair_memory w s)) ≡ (entries_fit (first_store m s) m.elements && bytes_fit (first_store m s) m.segments)
    fits_same =
        and_true (segments_fit m s (pair_memory w s)) ∙ ap (λ t. entries_fit (first_store m s) m.elements && bytes_fit t m.segments) begins_same

    abbrev fit : Bool
    fit = entries_fit (first_store m s) m.elements && bytes_fit (first_store m s) m.segments

    session_same : (n : ℕ) → pair w s n ≡ wasm m s n
    session_same zero = refl
    session_same (suc n) = ap (λ b. instantiated b w s n) fits_same ∙ by fit refl
      where
        by : (b : Bool) → fit ≡ b → instantiated b w s n ≡ machine.instantiated b m s n (first_store m s)
        by false e = ap (seen_end (trapped kinds.Segment)) begins_same
        by true e =
            ap (λ t. started w m.start n t (calls_seen w s.calls)) store_same
            ∙ started_same m.start (calls_seen w s.calls) (machine.calls_seen m s.calls) (calls_same s.calls) n begun
            (many_begun (both_parts (entries_fit (first_store m s) m.elements) (bytes_fit (first_store m s) m.segments) e).0)

pub pairs_are_alone : PairsAreAlone
pairs_are_alone m whole s n = session_same m whole s n
