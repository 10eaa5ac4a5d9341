-- The place after the segments stands for the store after instantiation.
use Rattle.std.proofs.Common.{◌≡◌, ℕ, ◌+◌, ◌<◌, ◌≤◌, true, ◌&&◌, List, [], ◌∷◌, length, None, refl, sym, ap, ◌∙◌, subst}
use Rattle.std.specs.List.{AllByRecursion}
use Rattle.std.proofs.lemmas.Bool.{and_from}
use Rattle.std.proofs.lemmas.List.Elements.{All-from_recursion}
use Rattle.session_lang.specs.Script.{ScriptPlain}
use Rattle.wasm_lang.specs.Modules.{DataSegment, WasmModule}
use Rattle.wasm_lang_valid.specs.Profile.{or_zero, constant_offset, memory_bytes, IsInProfile}
use Rattle.wasm_lang_exec.specs.Store.{Store}
use Rattle.wasm_lang_exec.specs.Session.{with_entries, with_bytes, entries_fit, bytes_fit, first_store, first_memory}
use Rattle.wasm_lang_exec.specs.Fits.{misfit}
use Rattle.wasm2js_lang.specs.Tables.{entries_of}
use Rattle.wasm2js_lang.specs.Calling.{IsCalledAs}
use Rattle.wasm2js_lang.specs.Laws.{EntriesAreTheTable}
use Rattle.wasm2js_translation.specs.Modules.{translated}
use Rattle.wasm2js_laws_acceptance.specs.FunctionsFunctions.{IsSource}
use Rattle.wasm2js_laws_places.specs.Places.{Setting, word_at, store_with, store_of}
use Rattle.wasm2js_laws_simulation.specs.HostHosts.{setting_of}
use Rattle.wasm2js_laws_simulation.proofs.HostEvents.{match_start}
use Rattle.wasm2js_laws_simulation.proofs.HostKept.{words_same}
use Rattle.wasm2js_laws_simulation.specs.SegmentsLaws.{with_segments}
use Rattle.wasm2js_laws_simulation.proofs.SegmentsLying.{IsLying, init_scope, all_lie}
use Rattle.wasm2js_laws_simulation.proofs.SegmentsStored.{segments_are_stored}
use Rattle.wasm2js_laws_simulation.specs.StartLaws.{begins_at, begins_with, IsStored}
use Rattle.wasm2js_laws_simulation.specs.InstancesLaws.{HasFirstGlobals, StoresAreHeld}
use Rattle.wasm2js_laws_simulation.proofs.InstancesGlobals.{globals_begin}
use Rattle.wasm2js_laws_simulation.proofs.InstancesMemory.{FitsIn, heap_holds, memory_long, heap_after, memory_after, past_after, is_heap_after, replies_are}
use Rattle.wasm2js_laws_simulation.proofs.InstancesInstance.{IsConstant, entries_only, bytes_only, bytes_fit_in, entries_fit_first}

all_map : {A : Type 0} (P Q : A → Type 0) (xs : List A) → ((x : A) → P x → Q x) → AllByRecursion P xs → AllByRecursion Q xs
all_map P Q [] f all = tt
all_map P Q (x ∷ xs) f all = (f x all.0, all_map P Q xs f all.1)

module _ (entries : EntriesAreTheTable) (w : WasmModule) (source : IsSource w) (called : IsCalledAs w (translated w)) (s : ScriptPlain) (fit : misfit w s ≡ None) (globals : HasFirstGlobals w s) where
  abbrev profile : IsInProfile w
  profile = record { valid = source.whole.is_valid; within = source.within }

  abbrev x : Setting
  x = setting_of w s

  lying : AllByRecursion (IsLying (translated w) (init_scope w source) (memory_bytes w)) w.segments
  lying = all_lie w source

  inside : AllByRecursion (FitsIn (memory_bytes w)) w.segments
  inside = all_map (IsLying (translated w) (init_scope w source) (memory_bytes w)) (FitsIn (memory_bytes w)) w.segments (λ d h. (h.inside, All-from_recursion (λ b. b < 256) d.bytes h.bytes)) lying

  constant : AllByRecursion (λ (d : DataSegment). IsConstant d.offset) w.segments
  constant = all_map (IsLying (translated w) (init_scope w source) (memory_bytes w)) (λ (d : DataSegment). IsConstant d.offset) w.segments (λ d h. h.constant) lying

  abbrev after : List ℕ
  after = heap_after w source called s fit inside

  abbrev first : Store
  first = first_store w s

  all_fit : (entries_fit first w.elements && bytes_fit first w.segments) ≡ true
  all_fit =
      and_from (entries_fit first w.elements) (bytes_fit first w.segments) (entries_fit_first w s profile)
      (bytes_fit_in first w.segments
      (all_map (IsLying (translated w) (init_scope w source) (memory_bytes w)) (λ (d : DataSegment). IsConstant d.offset × (or_zero (constant_offset d.offset) + length d.bytes ≤ length first.memory)) w.segments
      (λ d h. (h.constant, subst (λ n. or_zero (constant_offset d.offset) + length d.bytes ≤ n) (sym (memory_long w source called s fit)) h.inside)) lying))

  words_are : (units : ℕ) → word_at (begins_with w s after units) ≡ word_at (begins_at w s 0)
  words_are units = words_same (begins_at w s 0) (begins_with w s after units) refl refl

  stands_for : (units : ℕ) → store_of x (begins_with w s after units) [] ≡ with_bytes w.segments (with_entries w.elements first)
  stands_for units =
      ap (λ words. store_with x words after (begins_at w s units).replies []) (words_are units)
      ∙ ap (λ memory. record (store_with x (word_at (begins_at w s 0)) after (begins_at w s units).replies []) { memory = memory }) (memory_after w source called s fit inside)
      ∙ ap (λ gs. record first { memory = with_segments w.segments (first_memory w s); globals = gs; table = entries_of w }) globals
      ∙ ap (λ t. record first { memory = with_segments w.segments (first_memory w s); table = t }) (sym (entries w s profile))
      ∙ ap (λ (st : Store). record st { memory = with_segments w.segments st.memory }) (sym (entries_only w.elements first))
      ∙ sym (bytes_only w.segments (with_entries w.elements first) constant)

  pub is_stored : IsStored w s
  is_stored = record {
    heap = after;
    stores = λ bound units next room. segments_are_stored w source bound next (begins_at w s units) (heap_holds w source called s fit) room;
    fit = all_fit;
    world = λ units. record {
      match = match_start;
      names = refl;
      is_heap = is_heap_after w source called s fit inside;
      past = past_after w source called s fit inside;
      replies = replies_are w source called s fit;
    };
    store = stands_for;
  }

pub stores_are_held : EntriesAreTheTable → StoresAreHeld
stores_are_held entries w source words called s fit = is_stored entries w source called s fit (globals_begin w source words s)
