-- One reduction of a pair (sections 4.4.5 to 4.4.8): that of one module, but for calls. A call of a bound import is the call of what it stands for, and
-- no reduction more. Code looks into its own module's table alone.
use Rattle.std.specs.Prelude.{ℕ, ◌+◌, nat_lt, List, ◌∷◌, Option, Some, None, length, slice_get, if◌then◌else◌}
use Rattle.sem_words.specs.declared.word.Word.{Word}
use Rattle.sem_words.specs.declared.word.Word.TheVariants.{W32, W64}
use Rattle.sem_words.specs.declared.word.TrapKind.TheVariants as kinds
use Rattle.session_lang.specs.Observation.{trapped}
use Rattle.wasm_lang.specs.Instructions.{const32, const64}
use Rattle.wasm_lang.specs.Modules.{WasmModule}
use Rattle.wasm_lang_exec.specs.Code.{call, call_indirect, plain, Trees, ◌▹◌}
use Rattle.wasm_lang_exec.specs.Store.{Store}
use Rattle.wasm_lang_exec.specs.Reductions as alone
use Rattle.wasm_lang_exec.specs.Reductions.{Config, Code, Label, Frame, Reduct, stops, of_type, do_call}
use Rattle.wasm_lang_exec.specs.Session.{table_length}
use Rattle.wasm_link_lang.specs.Pairs.{Pair, all_types, called}

-- how many entries the table of a module has
abbrev pub entries : WasmModule → ℕ
entries m = table_length m.tables

module _ (w : Pair) where
  -- the entry at an index, for code that names the type at an address: each module's code sees its own part of the table
  abbrev pub entry : (type index : ℕ) → Store → Option (Option ℕ)
  entry t i s =
      if nat_lt t (length w.first.types) then (if nat_lt i (entries w.first) then slice_get s.table i else None)
      else (if nat_lt i (entries w.second) then slice_get s.table (entries w.first + i) else None)

  abbrev pub call_entry : ℕ → Option (Option ℕ) → List Word → Trees → List Word → Store → Reduct
  call_entry t (Some (Some a)) values code locals s =
      if of_type (slice_get (all_types w) t) (called w a) then do_call (called w a) values code locals s else stops (trapped kinds.OtherType) s
  call_entry t _ values code locals s = stops (trapped kinds.TableEntry) s

  -- no other instruction looks at the module
  abbrev pub reduce_code : Trees → List Word → List Word → Store → Reduct
  reduce_code (plain (const32 n) ▹ code) values locals s = reduce_code code (W32 n ∷ values) locals s
  reduce_code (plain (const64 n) ▹ code) values locals s = reduce_code code (W64 n ∷ values) locals s
  reduce_code (call a ▹ code) values locals s = do_call (called w a) values code locals s
  reduce_code (call_indirect t ▹ code) (W32 i ∷ values) locals s = call_entry t (entry t i s) values code locals s
  reduce_code code values locals s = alone.reduce_code w.first code values locals s

  abbrev pub reduce : Config → List Word → Store → Reduct
  reduce (Code values code) locals s = reduce_code code values locals s
  reduce (Label values n continuation inside code) locals s = alone.reduce_label w.first (reduce inside locals s) values n continuation code locals s
  reduce (Frame values n inner inside code) locals s = alone.reduce_frame w.first (reduce inside inner s) values n code locals s
