-- A session of a pair (section 4.5): both modules are instantiated over one memory, the first's segments are copied before the second's, then
-- their start functions run in this order, and then the script's calls.
use Rattle.std.specs.Prelude.{ℕ, zero, suc, ◌+◌, max, Bool, true, false, ◌&&◌, List, [], ◌∷◌, ◌++◌, map, replicate, reverse, Option, Some, None, option_map, ℤ}
use Rattle.sem_words.specs.declared.word.Word.{Word}
use Rattle.sem_words.specs.declared.word.TrapKind.TheVariants as kinds
use Rattle.session_lang.specs.Script.{CallPlain, ScriptPlain}
use Rattle.session_lang.specs.Imports.{first_replies}
use Rattle.session_lang.specs.Observation.{done, trapped, ObservationPlain}
use Rattle.wasm_lang.specs.Modules.{WasmModule}
use Rattle.wasm_lang_valid.specs.Runnable as alone
use Rattle.wasm_lang_exec.specs.Code.{call, ε, ◌▹◌}
use Rattle.wasm_lang_exec.specs.Store.{Store, written}
use Rattle.wasm_lang_exec.specs.Reductions.{Config, Code}
use Rattle.wasm_lang_exec.specs.Session.{bytes_in, first_globals, first_store, entries_fit, bytes_fit, with_entries, with_bytes, Run, with_none, with_one, function_named, arguments_for, after_call, after_start, seen_running, seen_end}
use Rattle.wasm_link_lang.specs.Pairs.{Pair, past_first, called}
use Rattle.wasm_link_lang.specs.Reductions.{reduce}

-- ---- the memory

-- the greater of the numbers that are there
abbrev pub greater : Option ℕ → Option ℕ → Option ℕ
greater None n = n
greater (Some k) None = Some k
greater (Some k) (Some n) = Some (max k n)

abbrev pub pages : Pair → Option ℕ
pages w = greater (alone.pages w.first) (alone.pages w.second)

-- the script's heap lines are bytes of the memory
abbrev pub pair_memory : Pair → ScriptPlain → List ℕ
pair_memory w s = written s.writes (replicate (bytes_in (pages w)) 0)

-- ---- instantiation

-- a module's store as it begins by itself, over this memory
abbrev pub begins : WasmModule → ScriptPlain → List ℕ → Store
begins m s memory = record (first_store m s) { memory = memory }

-- the memory with the bytes of a module's segments
abbrev pub loaded : WasmModule → ScriptPlain → List ℕ → List ℕ
loaded m s memory = (with_bytes m.segments (begins m s memory)).memory

-- the table of a module with its entries
abbrev pub filled : WasmModule → ScriptPlain → List (Option ℕ)
filled m s = (with_entries m.elements (first_store m s)).table

abbrev pub pair_store : Pair → ScriptPlain → Store
pair_store w s = record {
  memory = loaded w.second s (loaded w.first s (pair_memory w s));
  globals = first_globals w.first s ++ first_globals w.second s;
  table = filled w.first s ++ map (option_map (λ f. (past_first w).functions + f)) (filled w.second s);
  events = [];
  replies = first_replies s;
}

-- all segments of a module lie inside, over this memory
abbrev pub segments_fit : WasmModule → ScriptPlain → List ℕ → Bool
segments_fit m s memory = entries_fit (first_store m s) m.elements && bytes_fit (begins m s memory) m.segments

-- ---- runs, starts and calls

module _ (w : Pair) where
  abbrev pub run : ℕ → Config → List Word → Store → Run
  run zero c locals s = with_none (reduce w c locals s) s
  run (suc n) c locals s = with_one (run n) n (reduce w c locals s) s

  -- a call by the host of the function at an address
  abbrev pub run_call : ℕ → ℕ → List Word → Store → Run
  run_call n a arguments s = run n (Code (reverse arguments) (call a ▹ ε)) [] s

-- the address of the function that the first exports under a name, else of the one that the second does
abbrev pub first_or_second : Option ℕ → Option ℕ → Option ℕ
first_or_second None b = b
first_or_second (Some a) b = Some a

abbrev pub address_named : Pair → List ℕ → Option ℕ
address_named w name =
    first_or_second (function_named w.first.exports name) (option_map (λ f. (past_first w).functions + f) (function_named w.second.exports name))

abbrev pub one_call : Pair → Option ℕ → List ℤ → ℕ → Store → (ℕ → Store → ObservationPlain) → ObservationPlain
one_call w None zs n s next = seen_running s
one_call w (Some a) zs n s next = after_call (run_call w n a (arguments_for (called w a) zs) s) next

abbrev pub calls_seen : Pair → List CallPlain → ℕ → Store → ObservationPlain
calls_seen w [] n s = seen_end done s
calls_seen w (c ∷ cs) n s = one_call w (address_named w c.name) c.args n s (calls_seen w cs)

abbrev pub started : Pair → Option ℕ → ℕ → Store → (ℕ → Store → ObservationPlain) → ObservationPlain
started w None n s next = next n s
started w (Some a) n s next = after_start (run_call w n a [] s) next

-- the first's start, then the second's
abbrev pub both_started : Pair → ℕ → Store → (ℕ → Store → ObservationPlain) → ObservationPlain
both_started w n s next = started w w.first.start n s (λ n' s'. started w (option_map (λ f. (past_first w).functions + f) w.second.start) n' s' next)

abbrev pub instantiated : Bool → Pair → ScriptPlain → ℕ → ObservationPlain
instantiated false w script n = seen_end (trapped kinds.Segment) (begins w.first script (pair_memory w script))
instantiated true w script n = both_started w n (pair_store w script) (calls_seen w script.calls)

-- what is seen of the pair with the script after so many reductions
abbrev pub pair : Pair → ScriptPlain → ℕ → ObservationPlain
pair w script zero = seen_running (pair_store w script)
pair w script (suc n) =
    instantiated (segments_fit w.first script (pair_memory w script) && segments_fit w.second script (pair_memory w script)) w script n
