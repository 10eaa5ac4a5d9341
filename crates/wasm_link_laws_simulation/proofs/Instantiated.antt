-- Both modules of a pair are instantiated in full, and the linked module to the same store.
use Rattle.std.proofs.Common.{◌≡◌, ℕ, zero, suc, ◌+◌, ◌*◌, ◌≤◌, Bool, true, false, cond, List, [], ◌∷◌, ◌++◌, length, map, replicate, Option, Some, None, refl, sym, ap, ◌∙◌, subst, arith, length-append}
use Rattle.std.specs.Prelude.{option_map, ◌&&◌}
use Rattle.std.proofs.lemmas.Bool.{and_from}
use Rattle.std.proofs.lemmas.List.{length-replicate, length-map, map-append, replicate-append-replicate}
use Rattle.session_lang.specs.Script.{ScriptPlain}
use Rattle.session_lang.specs.Imports.{first_replies}
use Rattle.wasm_lang.specs.declared.types.ValType.TheVariants.{I32}
use Rattle.wasm_lang.specs.declared.types.Limits.{Limits}
use Rattle.wasm_lang.specs.declared.types.ImportKind.{ImportKind}
use Rattle.wasm_lang.specs.declared.types.ImportKind.TheVariants as imports
use Rattle.wasm_lang.specs.Modules.{Imported, ElementSegment, DataSegment, WasmModule}
use Rattle.wasm_lang_valid.specs.declared.rule.Rule.TheVariants.{NoFunction, NoTable, NoMemory}
use Rattle.wasm_lang_valid.specs.ModuleRules.{meets, is_table, is_function, are_functions, is_table_number, is_memory_number, init_rule}
use Rattle.wasm_lang_valid.specs.Profile as profile
use Rattle.wasm_lang_valid.specs.Profile.{or_zero, segment_outside, table_min, imported_entries, own_entries, memory_bytes}
use Rattle.wasm_lang_valid.specs.Runnable as alone
use Rattle.wasm_lang_valid.specs.Runnable.{first_import, or_else}
use Rattle.wasm_lang_exec.specs.Store.{Store, written}
use Rattle.wasm_lang_exec.specs.Session as session
use Rattle.wasm_lang_exec.specs.Session.{bytes_in, first_memory, first_store, entries_fit, bytes_fit, with_entries, with_bytes}
use Rattle.wasm_laws_sound.specs.Laws.{IsWhole}
use Rattle.wasm_laws_sound.proofs.Values.{length-written}
use Rattle.wasm_link_lang.specs.Pairs.{Pair, past_first}
use Rattle.wasm_link_lang.specs.Reductions.{entries}
use Rattle.wasm_link_lang.specs.Refusal.{profile_row}
use Rattle.wasm_link_lang.specs.Session.{greater, pages, pair_memory, begins, loaded, filled, pair_store, segments_fit}
use Rattle.wasm_link_code.specs.Numbers.{number}
use Rattle.wasm_link_code.specs.Linked.{either_table, moved_element, linked_elements, linked}
use Rattle.wasm_link_laws_modules.specs.Laws.{IsLinkable}
use Rattle.wasm_link_laws_modules.proofs.Accepted.{meets_no_row}
use Rattle.wasm_link_laws_modules.proofs.Facts.{Every, every_both, every_mapped, meets_test, meets_rest, in_itself, elements_kept, segments_kept, constant_offsets}
use Rattle.wasm_link_laws_modules.proofs.Types.{typed_first, typed_second}
use Rattle.wasm_link_laws_modules.proofs.Sections.{typed_there, linked_elements_are, linked_segments_are}
use Rattle.wasm_link_laws_modules.proofs.Scripts.{all_pages_are}
use Rattle.wasm_link_laws_sessions.specs.Alike.{IsFunction, store_of}
use Rattle.wasm_link_laws_sessions.specs.Globals.{in_order, global_count}
use Rattle.wasm_link_laws_sessions.specs.Follows.{Holds}
use Rattle.wasm_link_laws_sessions.proofs.Law.{globals_are_kept}
use Rattle.wasm_link_laws_simulation.specs.Laws.{BeginsAlike, InstancesAreAlike}
use Rattle.wasm_link_laws_simulation.proofs.Segments.{DataLies, ElementLies, segments_lie, elements_lie, data_fits, elements_fit, put_in, fill, bytes_only, entries_only, put_joins, fill_joins, many_filled}
use Rattle.wasm_link_laws_simulation.proofs.Tables.{HasIt, moved_lies, fill_front, fill_back, none_renamed, twice_renamed, filled_with, every_repeated}
use Rattle.wasm_link_laws_simulation.proofs.FirstGlobals.{globals_begin, many_globals}

-- ---- a module by itself

cond_none : (b : Bool) (n : ℕ) (o : Option ℕ) → cond b (Some n) o ≡ None → (b ≡ false) × (o ≡ None)
cond_none true n o h = absurd (cc h)
cond_none false n o h = (refl, h)

none_imported : (n : ℕ) (is : List Imported) → first_import is_table n is ≡ None → imported_entries is ≡ None
none_imported n [] h = refl
none_imported n (i ∷ is) h = let p = cond_none (is_table i.kind) n (first_import is_table (n + 1) is) h in by i.kind p.0 (none_imported (n + 1) is p.1)
  where
    by : (k : ImportKind) → is_table k ≡ false → imported_entries is ≡ None → or_else (table_min k) (imported_entries is) ≡ None
    by (imports.Func t) h rest = rest
    by (imports.Table l) h rest = absurd (cc h)
    by (imports.Memory l) h rest = rest
    by (imports.Global g) h rest = rest

own_length : (ls : List Limits) → session.table_length ls ≡ or_zero (own_entries ls)
own_length [] = refl
own_length (l ∷ ls) = refl

record InPlace (m : WasmModule) : Type 0 where
  elements : Every (ElementLies (entries m)) m.elements
  segments : Every (DataLies (memory_bytes m)) m.segments

in_place : (m : WasmModule) → IsWhole m → profile_row m ≡ None → InPlace m
in_place m whole row =
    let own = in_itself m row in
    let constant = constant_offsets 0 m.elements m.segments own.constant in
    let same : profile.table_length m ≡ entries m = ap (λ o. or_zero (or_else o (own_entries m.tables))) (none_imported 0 m.imports own.no_table) ∙ sym (own_length m.tables) in
    let inside = subst (λ n. segment_outside n (memory_bytes m) 0 m.elements m.segments ≡ None) same own.within in
    record {
      elements = elements_lie m (entries m) (memory_bytes m) 0 m.elements m.segments inside constant.elements
          (λ i e h. let r = meets_rest (are_functions m e.functions) NoFunction (meets (is_table_number m e.table) NoTable (init_rule m I32 e.offset)) (elements_kept m whole.is_valid i e h) in
          meets_rest (is_table_number m e.table) NoTable (init_rule m I32 e.offset) r);
      segments = segments_lie m (entries m) (memory_bytes m) 0 m.elements m.segments inside constant.segments
          (λ i d h. meets_rest (is_memory_number m d.memory) NoMemory (init_rule m I32 d.offset) (segments_kept m whole.is_valid i d h));
    }

both_parts : (a b : Bool) → (a && b) ≡ true → (a ≡ true) × (b ≡ true)
both_parts true b e = (refl, e)
both_parts false b e = absurd (cc e)

each_function : (m : WasmModule) (fs : List ℕ) → are_functions m fs ≡ true → Every (λ f. is_function m f ≡ true) fs
each_function m [] e i f h = absurd (cc h)
each_function m (x ∷ fs) e zero f h =
    let same : x ≡ f = cc h in
    subst (λ f. is_function m f ≡ true) same (both_parts (is_function m x) (are_functions m fs) e).0
each_function m (x ∷ fs) e (suc i) f h = each_function m fs (both_parts (is_function m x) (are_functions m fs) e).1 i f h

functions_there : (m : WasmModule) → IsWhole m → Every (λ (e : ElementSegment). Every (λ f. is_function m f ≡ true) e.functions) m.elements
functions_there m whole i e h =
    each_function m e.functions (meets_test (are_functions m e.functions) NoFunction (meets (is_table_number m e.table) NoTable (init_rule m I32 e.offset)) (elements_kept m whole.is_valid i e h))

-- ---- room for both

data_wider : (few room : ℕ) (ds : List DataSegment) → few ≤ room → Every (DataLies few) ds → Every (DataLies room) ds
data_wider few room ds h f i d e =
    let it = f i d e in
    let g = it.2 in (it.0, it.1, omega (arith, g, h))

element_wider : (few room : ℕ) → few ≤ room → (e : ElementSegment) → ElementLies few e → ElementLies room e
element_wider few room h e it = let g = it.2 in (it.0, it.1, omega (arith, g, h))

first_bytes : (o p : Option ℕ) → or_zero o * 65536 ≤ bytes_in (greater o p)
first_bytes None p = omega arith
first_bytes (Some k) None = omega arith
first_bytes (Some k) (Some n) = omega arith

second_bytes : (o p : Option ℕ) → or_zero p * 65536 ≤ bytes_in (greater o p)
second_bytes None None = omega arith
second_bytes None (Some n) = omega arith
second_bytes (Some k) None = omega arith
second_bytes (Some k) (Some n) = omega arith

either_length : (first second : List Limits) → session.table_length (either_table first second (session.table_length first + session.table_length second)) ≡ session.table_length first + session.table_length second
either_length [] [] = refl
either_length [] (l ∷ ls) = refl
either_length (l ∷ ls) second = refl

module _ (w : Pair) (ok : IsLinkable w) (s : ScriptPlain) where
  abbrev p : WasmModule
  p = w.first

  abbrev q : WasmModule
  q = w.second

  abbrev past : ℕ → ℕ
  past f = (past_first w).functions + f

  abbrev past_number : ℕ → ℕ
  past_number f = number w (past f)

  abbrev n1 : ℕ
  n1 = entries p

  abbrev n2 : ℕ
  n2 = entries q

  abbrev bytes : ℕ
  bytes = bytes_in (pages w)

  abbrev none : ℕ → List (Option ℕ)
  none n = replicate n None

  first_in : InPlace p
  first_in = in_place p ok.first (meets_no_row w ok.not_refused).first_profile

  second_in : InPlace q
  second_in = in_place q ok.second (meets_no_row w ok.not_refused).second_profile

  first_data : Every (DataLies bytes) p.segments
  first_data = data_wider (memory_bytes p) bytes p.segments (first_bytes (alone.pages p) (alone.pages q)) first_in.segments

  second_data : Every (DataLies bytes) q.segments
  second_data = data_wider (memory_bytes q) bytes q.segments (second_bytes (alone.pages p) (alone.pages q)) second_in.segments

  -- ---- the memory

  many_bytes : length (pair_memory w s) ≡ bytes
  many_bytes = length-written s.writes (replicate bytes 0) ∙ length-replicate bytes 0

  first_loaded : (memory : List ℕ) → loaded p s memory ≡ put_in p.segments memory
  first_loaded memory = ap (λ (s : Store). s.memory) (bytes_only bytes p.segments (begins p s memory) first_data)

  second_loaded : (memory : List ℕ) → loaded q s memory ≡ put_in q.segments memory
  second_loaded memory = ap (λ (s : Store). s.memory) (bytes_only bytes q.segments (begins q s memory) second_data)

  memories_begin : first_memory (linked w) s ≡ pair_memory w s
  memories_begin = ap (λ o. written s.writes (replicate (bytes_in o) 0)) (all_pages_are w)

  memory_is : put_in (linked w).segments (first_memory (linked w) s) ≡ (pair_store w s).memory
  memory_is =
      ap (λ ds. put_in ds (first_memory (linked w) s)) (linked_segments_are w) ∙ ap (put_in (p.segments ++ q.segments)) memories_begin
      ∙ put_joins p.segments q.segments (pair_memory w s)
      ∙ ap (put_in q.segments) (sym (first_loaded (pair_memory w s))) ∙ sym (second_loaded (loaded p s (pair_memory w s)))

  linked_data : Every (DataLies bytes) (linked w).segments
  linked_data = subst (Every (DataLies bytes)) (sym (linked_segments_are w)) (every_both (DataLies bytes) p.segments q.segments first_data second_data)

  -- ---- the table

  linked_length : session.table_length (linked w).tables ≡ n1 + n2
  unfolding linked
  linked_length = either_length p.tables q.tables

  linked_elements_lie : Every (ElementLies (n1 + n2)) (linked w).elements
  linked_elements_lie =
      subst (Every (ElementLies (n1 + n2))) (sym (linked_elements_are w))
      (every_both (ElementLies (n1 + n2)) (map (moved_element (number w) 0) p.elements) (map (moved_element past_number n1) q.elements)
      (every_mapped (ElementLies (n1 + n2)) (moved_element (number w) 0) p.elements
      (λ i e h. element_wider (n1 + 0) (n1 + n2) (omega arith) (moved_element (number w) 0 e) (moved_lies (number w) 0 n1 e (first_in.elements i e h))))
      (every_mapped (ElementLies (n1 + n2)) (moved_element past_number n1) q.elements
      (λ i e h. element_wider (n2 + n1) (n1 + n2) (omega arith) (moved_element past_number n1 e) (moved_lies past_number n1 n2 e (second_in.elements i e h)))))

  first_filled : filled p s ≡ fill p.elements (none n1)
  first_filled = ap (λ (s : Store). s.table) (entries_only n1 p.elements (first_store p s) first_in.elements)

  second_filled : filled q s ≡ fill q.elements (none n2)
  second_filled = ap (λ (s : Store). s.table) (entries_only n2 q.elements (first_store q s) second_in.elements)

  abbrev named : List (Option ℕ) → List (Option ℕ)
  named = map (option_map (number w))

  both_filled : fill (linked_elements w) (none (n1 + n2)) ≡ named (fill p.elements (none n1)) ++ map (option_map past_number) (fill q.elements (none n2))
  both_filled =
      let front = map (moved_element (number w) 0) p.elements in
      let back = map (moved_element past_number n1) q.elements in
      let f1 = fill p.elements (none n1) in
      let many : length (named f1) ≡ n1 = length-map f1 (option_map (number w)) ∙ many_filled n1 p.elements (none n1) (length-replicate n1 None) first_in.elements in
      fill_joins front back (none (n1 + n2))
      ∙ ap (λ t. fill back (fill front t)) (sym (replicate-append-replicate n1 n2 None))
      ∙ ap (λ t. fill back (fill front (t ++ none n2))) (sym (none_renamed (number w) n1))
      ∙ ap (fill back) (fill_front (number w) n1 p.elements (none n1) (none n2) (length-replicate n1 None) first_in.elements)
      ∙ ap (λ t. fill back (named f1 ++ t)) (sym (none_renamed past_number n2))
      ∙ fill_back past_number n1 n2 q.elements (named f1) (none n2) many (length-replicate n2 None) second_in.elements

  table_is : fill (linked w).elements (none (session.table_length (linked w).tables)) ≡ named (pair_store w s).table
  table_is =
      ap (fill (linked w).elements) (ap none linked_length) ∙ ap (λ es. fill es (none (n1 + n2))) (linked_elements_are w) ∙ both_filled
      ∙ ap (λ t. named t ++ map (option_map past_number) (fill q.elements (none n2))) (sym first_filled)
      ∙ ap (λ t. named (filled p s) ++ map (option_map past_number) t) (sym second_filled)
      ∙ ap (λ t. named (filled p s) ++ t) (sym (twice_renamed (number w) past (filled q s)))
      ∙ sym (map-append (option_map (number w)) (filled p s) (map (option_map past) (filled q s)))

  -- ---- what the pair's store holds

  many_first : length (filled p s) ≡ n1
  many_first = ap length first_filled ∙ many_filled n1 p.elements (none n1) (length-replicate n1 None) first_in.elements

  many_second : length (filled q s) ≡ n2
  many_second = ap length second_filled ∙ many_filled n2 q.elements (none n2) (length-replicate n2 None) second_in.elements

  many_entries : length (pair_store w s).table ≡ n1 + n2
  many_entries =
      let a = length-append (filled p s) (map (option_map past) (filled q s)) in
      let b = length-map (filled q s) (option_map past) in omega (arith, a, b, many_first, many_second)

  first_functions : Every (HasIt (IsFunction w)) (filled p s)
  first_functions =
      subst (Every (HasIt (IsFunction w))) (sym first_filled)
      (filled_with (IsFunction w) p.elements (none n1)
      (λ i e h j f g. let t = typed_there p ok.first f (functions_there p ok.first i e h j f g) in (t.0, typed_first w f t.0 t.1)) (every_repeated (HasIt (IsFunction w)) n1 None tt))

  abbrev IsPast : ℕ → Type 0
  IsPast f = IsFunction w (past f)

  second_functions : Every (HasIt IsPast) (filled q s)
  second_functions =
      subst (Every (HasIt IsPast)) (sym second_filled)
      (filled_with IsPast q.elements (none n2)
      (λ i e h j f g. let t = typed_there q ok.second f (functions_there q ok.second i e h j f g) in (t.0, typed_second w f t.0 t.1)) (every_repeated (HasIt IsPast) n2 None tt))

  has_past : (o : Option ℕ) → HasIt IsPast o → HasIt (IsFunction w) (option_map past o)
  has_past None h = tt
  has_past (Some f) h = h

  all_functions : Every (HasIt (IsFunction w)) (pair_store w s).table
  all_functions =
      every_both (HasIt (IsFunction w)) (filled p s) (map (option_map past) (filled q s)) first_functions
      (every_mapped (HasIt (IsFunction w)) (option_map past) (filled q s) (λ i o h. has_past o (second_functions i o h)))

  pair_holds : Holds w (linked w) (global_count w) (in_order w) (pair_store w s)
  pair_holds = (many_globals w (globals_are_kept w) ok.first ok.second s, many_entries, λ i a h. all_functions i (Some a) h)

  -- ---- both stores

  pair_fits : (segments_fit p s (pair_memory w s) && segments_fit q s (pair_memory w s)) ≡ true
  pair_fits =
      and_from (segments_fit p s (pair_memory w s)) (segments_fit q s (pair_memory w s))
      (and_from (entries_fit (first_store p s) p.elements) (bytes_fit (begins p s (pair_memory w s)) p.segments) (elements_fit (first_store p s) n1 p.elements (length-replicate n1 None) first_in.elements)
      (data_fits (begins p s (pair_memory w s)) bytes p.segments many_bytes first_data))
      (and_from (entries_fit (first_store q s) q.elements) (bytes_fit (begins q s (pair_memory w s)) q.segments) (elements_fit (first_store q s) n2 q.elements (length-replicate n2 None) second_in.elements)
      (data_fits (begins q s (pair_memory w s)) bytes q.segments many_bytes second_data))

  linked_fits : (entries_fit (first_store (linked w) s) (linked w).elements && bytes_fit (first_store (linked w) s) (linked w).segments) ≡ true
  linked_fits =
      and_from (entries_fit (first_store (linked w) s) (linked w).elements) (bytes_fit (first_store (linked w) s) (linked w).segments)
      (elements_fit (first_store (linked w) s) (n1 + n2) (linked w).elements (length-replicate (session.table_length (linked w).tables) None ∙ linked_length) linked_elements_lie)
      (data_fits (first_store (linked w) s) bytes (linked w).segments (ap length memories_begin ∙ many_bytes) linked_data)

  store_is : with_bytes (linked w).segments (with_entries (linked w).elements (first_store (linked w) s)) ≡ store_of w (in_order w) (pair_store w s)
  store_is =
      let begun = first_store (linked w) s in
      let globals = globals_begin w (globals_are_kept w) ok.first ok.second s in
      let same : record begun { memory = put_in (linked w).segments begun.memory; table = fill (linked w).elements begun.table } ≡ store_of w (in_order w) (pair_store w s) =
      λ i. record { memory = memory_is i; globals = globals i; table = table_is i; events = []; replies = first_replies s } in
      ap (with_bytes (linked w).segments) (entries_only (n1 + n2) (linked w).elements begun linked_elements_lie)
      ∙ bytes_only bytes (linked w).segments (record begun { table = fill (linked w).elements begun.table }) linked_data
      ∙ same

  pub begins_alike : BeginsAlike w s
  begins_alike = record { pair_fits = pair_fits; linked_fits = linked_fits; store = store_is; holds = pair_holds }

pub instances_are_alike : InstancesAreAlike
instances_are_alike w ok s = begins_alike w ok s
