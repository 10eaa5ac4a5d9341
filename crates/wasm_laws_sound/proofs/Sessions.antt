-- A session of a script that fits goes on.
use Rattle.std.proofs.Common.{◌≡◌, ℕ, zero, suc, ◌<◌, List, [], ◌∷◌, ◌++◌, map, Option, None, Some, Bool, true, false, ◌&&◌, not, ℤ, refl, sym, ap, ◌∙◌, subst, arith, ◌+◌, length, replicate, take, drop, ltb-true}
use Rattle.std.proofs.lemmas.List.{map-append, length-replicate}
use Rattle.std.proofs.lemmas.Option.{slice_get-map, slice_get_within}
use Rattle.std.specs.Prelude.{slice_get, option_map, bytes_eq, if◌then◌else◌}
use Rattle.sem_words.specs.declared.word.Word.{Word}
use Rattle.session_lang.specs.Names.{import_name}
use Rattle.session_lang.specs.Script.{GlobalPlain, CallPlain, ScriptPlain}
use Rattle.wasm_lang.specs.declared.types.ValType.{ValType}
use Rattle.wasm_lang.specs.declared.types.ValType.TheVariants.{I32, I64}
use Rattle.wasm_lang.specs.declared.types.GlobalType.{GlobalType}
use Rattle.wasm_lang.specs.declared.types.ImportKind.{ImportKind}
use Rattle.wasm_lang.specs.declared.types.ImportKind.TheVariants as imports
use Rattle.wasm_lang.specs.Instructions.{Instruction, plain, const32, const64, global_get}
use Rattle.wasm_lang.specs.Modules.{FunctionType, Imported, GlobalEntry, ElementSegment, DataSegment, WasmModule}
use Rattle.wasm_lang_valid.specs.declared.rule.Rule.TheVariants.{NoFunction, NoTable, NoGlobal, Initializer, StartType}
use Rattle.wasm_lang_valid.specs.declared.section.Section.TheVariants as sections
use Rattle.wasm_lang_valid.specs.Typing.{same}
use Rattle.wasm_lang_valid.specs.ModuleRules as rules
use Rattle.wasm_lang_valid.specs.ModuleRules.{function_types, global_types, are_functions, element_rule, is_table_number, is_empty, is_function, is_global, is_constant, is_end, is_start, value_rule, init_rule, start_rule, type_of_function, item_rule, at}
use Rattle.wasm_lang_valid.specs.Validity.{start_count, IsValidModule}
use Rattle.wasm_lang_valid.specs.Runnable.{pages}
use Rattle.heap_lang.specs.Heap.{with_run}
use Rattle.heap_lang.proofs.RunLemmas.{length-with_run}
use Rattle.wasm_lang_exec.specs.Store.{Store}
use Rattle.wasm_lang_exec.specs.Reductions.{callee_at}
use Rattle.wasm_lang_exec.specs.Session.{bytes_in, word_for, given_value, if_global, imported_globals, some_or_zero, value_of, table_length, first_globals, first_store, replaced, offset_of, entries_fit, bytes_fit, with_entries, with_bytes, result_event, with_event, function_named, words_for, arguments_for}
use Rattle.wasm_lang_exec.specs.Fits.{in_range, takes_arguments, takes, type_at, fits_call}
use Rattle.wasm_lang_exec.specs.FitLaws.{Fits}
use Rattle.session_lang.specs.FitLaws.{a_call}
use Rattle.wasm_laws_sound.specs.Configurations.{HasType, HaveTypes, kinds, AreEntries, IsTypedStore, AreTypedFunctions}
use Rattle.wasm_lang_exec.specs.Places.{Place, place_of_call, place_of_one, place_in_calls, place_of_start, place_of_instance, place}
use Rattle.wasm_laws_sound.specs.Laws.{IsWhole, SessionsGoOn, PlacesAreTyped}
use Rattle.wasm_laws_sound.proofs.Values.{word_has_type, have_at, have_both, length-written}
use Rattle.wasm_laws_sound.proofs.Reducing.{same_is, both_true}
use Rattle.wasm_laws_sound.proofs.Functions.{meets_none, meets_rest, functions_are_typed}
use Rattle.wasm_laws_sound.proofs.Hosts.{Stands, call_stands}

-- ---- the globals as a session begins

script_word_has_type : (t : ValType) (z : ℤ) → HasType t (word_for t z)
script_word_has_type I32 z = tt
script_word_has_type I64 z = tt

either_has : (t : ValType) (b : Bool) (v w : Word) → HasType t v → HasType t w → HasType t (if b then v else w)
either_has t true v w h i = h
either_has t false v w h i = i

given_has : (gs : List GlobalPlain) (name : List ℕ) (t : ValType) → HasType t (given_value gs name t)
given_has [] name t = word_has_type t 0
given_has (g ∷ gs) name t = either_has t (bytes_eq g.name name) (word_for t g.value) (given_value gs name t) (script_word_has_type t g.value) (given_has gs name t)

module _ (script : ScriptPlain) where
  with_import : (x : Imported) (kind : ImportKind) (types : List GlobalType) (values : List Word) → HaveTypes (kinds types) values
      → HaveTypes (kinds (rules.global_of kind ++ types)) (if_global kind (λ t. given_value script.globals (import_name x.module_name x.name) t ∷ values) values)
  with_import x (imports.Func t) types values h = h
  with_import x (imports.Table l) types values h = h
  with_import x (imports.Memory l) types values h = h
  with_import x (imports.Global g) types values h = (given_has script.globals (import_name x.module_name x.name) g.kind, h)

  imported_have : (is : List Imported) → HaveTypes (kinds (rules.imported_globals is)) (imported_globals script is)
  imported_have [] = tt
  imported_have (x ∷ is) = with_import x x.kind (rules.imported_globals is) (imported_globals script is) (imported_have is)

module _ (m : WasmModule) (given : List Word) (have : HaveTypes (kinds (rules.imported_globals m.imports)) given) where
  named_has : (t : ValType) (x : ℕ) (o : Option GlobalType) → slice_get (rules.imported_globals m.imports) x ≡ o → is_constant t o ≡ true → HasType t (some_or_zero (slice_get given x))
  named_has t x None is e = cc e
  named_has t x (Some g) is e =
      let types = rules.imported_globals m.imports in
      let kind : slice_get (kinds types) x ≡ Some g.kind = slice_get-map (λ (g : GlobalType). g.kind) types x ∙ ap (option_map (λ (g : GlobalType). g.kind)) is in
      let it = have_at (kinds types) given x g.kind have kind in
      let alike = same_is t g.kind (both_true (not g.mutable) (same t g.kind) e).1 in
      subst (λ t. HasType t (some_or_zero (slice_get given x))) (sym alike)
      (subst (λ o. HasType g.kind (some_or_zero o)) (sym it.is_there) it.has)

  value_has : (t : ValType) (i : Instruction) (is : List Instruction) → value_rule m t i ≡ None → HasType t (value_of given (i ∷ is))
  value_has t (plain (const32 n)) is e = subst (λ t. HasType t (value_of given (plain (const32 n) ∷ is))) (sym (same_is t I32 (meets_none (same t I32) Initializer None e))) tt
  value_has t (plain (const64 n)) is e = subst (λ t. HasType t (value_of given (plain (const64 n) ∷ is))) (sym (same_is t I64 (meets_none (same t I64) Initializer None e))) tt
  value_has t (plain (global_get x)) is e =
      let o = slice_get (rules.imported_globals m.imports) x in
      named_has t x o refl (meets_none (is_constant t o) Initializer None (meets_rest (is_global m x) NoGlobal (rules.meets (is_constant t o) Initializer None) e))
  value_has t i is e = cc e

  init_has : (t : ValType) (code : List Instruction) → init_rule m t code ≡ None → HasType t (value_of given code)
  init_has t [] e = cc e
  init_has t (i ∷ []) e = cc e
  init_has t (i ∷ j ∷ []) e = value_has t i (j ∷ []) (meets_rest (is_end j) Initializer (value_rule m t i) e)
  init_has t (i ∷ j ∷ k ∷ is) e = cc e

  own_have : (gs : List GlobalEntry) → ((i : ℕ) (g : GlobalEntry) → slice_get gs i ≡ Some g → init_rule m g.kind.kind g.init ≡ None)
      → HaveTypes (kinds (map (λ (g : GlobalEntry). g.kind) gs)) (map (λ (g : GlobalEntry). value_of given g.init) gs)
  own_have [] fine = tt
  own_have (g ∷ gs) fine = (init_has g.kind.kind g.init (fine zero g refl), own_have gs (λ i. fine (suc i)))

-- ---- entries of the table

module _ (m : WasmModule) where
  empty_entries : (n : ℕ) → AreEntries m (replicate n None)
  empty_entries zero = tt
  empty_entries (suc n) = (tt, empty_entries n)

  named_entries : (fs : List ℕ) → are_functions m fs ≡ true → AreEntries m (map Some fs)
  named_entries [] e = tt
  named_entries (f ∷ fs) e =
      let both = both_true (is_function m f) (are_functions m fs) e in
      (ltb-true f (length (function_types m)) both.0, named_entries fs both.1)

  both_entries : (es gs : List (Option ℕ)) → AreEntries m es → AreEntries m gs → AreEntries m (es ++ gs)
  both_entries [] gs h i = i
  both_entries (e ∷ es) gs h i = (h.0, both_entries es gs h.1 i)

  first_entries : (n : ℕ) (es : List (Option ℕ)) → AreEntries m es → AreEntries m (take n es)
  first_entries zero es h = tt
  first_entries (suc n) [] h = tt
  first_entries (suc n) (e ∷ es) h = (h.0, first_entries n es h.1)

  last_entries : (n : ℕ) (es : List (Option ℕ)) → AreEntries m es → AreEntries m (drop n es)
  last_entries zero es h = h
  last_entries (suc n) [] h = tt
  last_entries (suc n) (e ∷ es) h = last_entries n es h.1

  replaced_entries : (n : ℕ) (new old : List (Option ℕ)) → AreEntries m new → AreEntries m old → AreEntries m (replaced n new old)
  replaced_entries n new old h i =
      both_entries (take n old) (new ++ drop (n + length new) old) (first_entries n old i) (both_entries new (drop (n + length new) old) h (last_entries (n + length new) old i))

module _ (m : WasmModule) (valid : IsValidModule m) where
  inits_fine : (i : ℕ) (g : GlobalEntry) → slice_get m.globals i ≡ Some g → init_rule m g.kind.kind g.init ≡ None
  inits_fine i g e =
      let fine : item_rule m sections.Globals i ≡ None = valid sections.Globals i (slice_get_within m.globals i g e) in
      sym (ap (λ o. at o (λ (g : GlobalEntry). init_rule m g.kind.kind g.init)) e) ∙ fine

  first_have : (script : ScriptPlain) → HaveTypes (kinds (global_types m)) (first_globals m script)
  first_have script =
      let given = imported_globals script m.imports in
      let have = imported_have script m.imports in
      let types = rules.imported_globals m.imports in
      let own = map (λ (g : GlobalEntry). g.kind) m.globals in
      subst (λ ts. HaveTypes ts (first_globals m script)) (sym (map-append (λ (g : GlobalType). g.kind) types own))
      (have_both (kinds types) (kinds own) given (map (λ (g : GlobalEntry). value_of given g.init) m.globals) have (own_have m given have m.globals inits_fine))

  first_typed : (script : ScriptPlain) → IsTypedStore m (first_store m script)
  first_typed script = (first_have script, empty_entries m (table_length m.tables), length-written script.writes (replicate (bytes_in (pages m)) 0) ∙ length-replicate (bytes_in (pages m)) 0)

  -- ---- instantiation

  elements_fine : (i : ℕ) (e : ElementSegment) → slice_get m.elements i ≡ Some e → are_functions m e.functions ≡ true
  elements_fine i e is =
      let fine : item_rule m sections.Elements i ≡ None = valid sections.Elements i (slice_get_within m.elements i e is) in
      meets_none (are_functions m e.functions) NoFunction (rules.meets (is_table_number m e.table) NoTable (init_rule m I32 e.offset)) (sym (ap (λ o. at o (element_rule m)) is) ∙ fine)

  with_entries_typed : (es : List ElementSegment) → ((i : ℕ) (e : ElementSegment) → slice_get es i ≡ Some e → are_functions m e.functions ≡ true)
      → (s : Store) → IsTypedStore m s → IsTypedStore m (with_entries es s)
  with_entries_typed [] fine s h = h
  with_entries_typed (e ∷ es) fine s h =
      with_entries_typed es (λ i. fine (suc i)) (record s { table = replaced (offset_of s e.offset) (map Some e.functions) s.table })
      (h.0, replaced_entries m (offset_of s e.offset) (map Some e.functions) s.table (named_entries m e.functions (fine zero e refl)) h.1, h.2)

  with_bytes_typed : (ds : List DataSegment) (s : Store) → IsTypedStore m s → IsTypedStore m (with_bytes ds s)
  with_bytes_typed [] s h = h
  with_bytes_typed (d ∷ ds) s h =
      with_bytes_typed ds (record s { memory = with_run (offset_of s d.offset) d.bytes s.memory }) (h.0, h.1, length-with_run (offset_of s d.offset) d.bytes s.memory ∙ h.2)

  -- ---- calls

  words_have : (ts : List ValType) (zs : List ℤ) → takes_arguments ts zs ≡ true → HaveTypes ts (words_for ts zs)
  words_have [] [] e = tt
  words_have [] (z ∷ zs) e = tt
  words_have (t ∷ ts) [] e = cc e
  words_have (t ∷ ts) (z ∷ zs) e = (script_word_has_type t z, words_have ts zs (both_true (in_range t z) (takes_arguments ts zs) e).1)

  module _ (functions : AreTypedFunctions m) where
    abbrev Next : Type 0
    Next = ℕ → Store → Place

    typed_call : (f : ℕ) (t : FunctionType) (zs : List ℤ) (n : ℕ) (s : Store) (next : Next)
        → type_of_function m f ≡ Some t → takes_arguments t.params zs ≡ true → IsTypedStore m s
        → ((n : ℕ) (s : Store) → IsTypedStore m s → Stands m (next n s)) → Stands m (place_of_one m (Some f) zs n s next)
    typed_call f t zs n s next e fits is_store on =
        let it = functions.are_there f t e in
        let same : arguments_for (callee_at m f) zs ≡ words_for t.params zs = ap (λ o. arguments_for o zs) it.1 ∙ ap (λ (t : FunctionType). words_for t.params zs) it.2 in
        subst (λ arguments. Stands m (place_of_call m n f arguments s (λ values n s. next n (with_event (result_event values) s)))) (sym same)
        (call_stands m functions f t (words_for t.params zs) s e (words_have t.params zs fits) is_store n (λ values n s. next n (with_event (result_event values) s))
        (λ values n s have is_store. on n (with_event (result_event values) s) is_store))

    type_cases : (f : ℕ) (o : Option FunctionType) (zs : List ℤ) (n : ℕ) (s : Store) (next : Next)
        → type_of_function m f ≡ o → takes o zs ≡ true → IsTypedStore m s
        → ((n : ℕ) (s : Store) → IsTypedStore m s → Stands m (next n s)) → Stands m (place_of_one m (Some f) zs n s next)
    type_cases f None zs n s next is fits is_store on = cc fits
    type_cases f (Some t) zs n s next is fits is_store on = typed_call f t zs n s next is fits is_store on

    one_goes : (o : Option ℕ) (zs : List ℤ) (n : ℕ) (s : Store) (next : Next)
        → takes (type_at m o) zs ≡ true → IsTypedStore m s → ((n : ℕ) (s : Store) → IsTypedStore m s → Stands m (next n s)) → Stands m (place_of_one m o zs n s next)
    one_goes None zs n s next fits is_store on = cc fits
    one_goes (Some f) zs n s next fits is_store on = type_cases f (type_of_function m f) zs n s next refl fits is_store on

    calls_go : (cs : List CallPlain) → ((i : ℕ) (c : CallPlain) → slice_get cs i ≡ Some c → fits_call m c ≡ true) → (n : ℕ) (s : Store) → IsTypedStore m s → Stands m (place_in_calls m cs n s)
    calls_go [] fit n s is_store = (tt, tt)
    calls_go (c ∷ cs) fit n s is_store = one_goes (function_named m.exports c.name) c.args n s (place_in_calls m cs) (fit zero c refl) is_store (calls_go cs (λ i. fit (suc i)))

    -- ---- the start function

    no_params : (ts : List ValType) → is_empty ts ≡ true → HaveTypes ts []
    no_params [] e = tt
    no_params (t ∷ ts) e = cc e

    start_cases : (f : ℕ) (o : Option FunctionType) (n : ℕ) (s : Store) (next : Next)
        → type_of_function m f ≡ o → is_start o ≡ true → IsTypedStore m s
        → ((n : ℕ) (s : Store) → IsTypedStore m s → Stands m (next n s)) → Stands m (place_of_call m n f [] s (λ values n s. next n s))
    start_cases f None n s next is e is_store on = cc e
    start_cases f (Some t) n s next is e is_store on =
        call_stands m functions f t [] s is (no_params t.params (both_true (is_empty t.params) (is_empty t.results) e).0) is_store n (λ values n s. next n s)
        (λ values n s have is_store. on n s is_store)

    start_goes : (o : Option ℕ) (n : ℕ) (s : Store) (next : Next)
        → m.start ≡ o → IsTypedStore m s → ((n : ℕ) (s : Store) → IsTypedStore m s → Stands m (next n s)) → Stands m (place_of_start m o n s next)
    start_goes None n s next is is_store on = on n s is_store
    start_goes (Some f) n s next is is_store on =
        let within : 0 < start_count m.start = subst (λ o. 0 < start_count o) (sym is) (omega arith) in
        let fine : item_rule m sections.Start 0 ≡ None = valid sections.Start 0 within in
        let rule : start_rule m f ≡ None = sym (ap (λ o. at o (start_rule m)) is) ∙ fine in
        let start = is_start (type_of_function m f) in
        start_cases f (type_of_function m f) n s next refl
        (meets_none start StartType None (meets_rest (is_function m f) NoFunction (rules.meets start StartType None) rule)) is_store on

    instance_goes : (fits : Bool) (script : ScriptPlain) (n : ℕ) (s : Store)
        → ((i : ℕ) (c : CallPlain) → slice_get script.calls i ≡ Some c → fits_call m c ≡ true) → IsTypedStore m s → Stands m (place_of_instance m fits script n s)
    instance_goes false script n s fit is_store = (tt, tt)
    instance_goes true script n s fit is_store =
        start_goes m.start n (with_bytes m.segments (with_entries m.elements s)) (place_in_calls m script.calls) refl
        (with_bytes_typed m.segments (with_entries m.elements s) (with_entries_typed m.elements elements_fine s is_store)) (calls_go script.calls fit)

fits_true : (m : WasmModule) (script : ScriptPlain) → Fits m script → (i : ℕ) (c : CallPlain) → slice_get script.calls i ≡ Some c → fits_call m c ≡ true
fits_true m script fits i c e = go (fits_call m c) refl
  where
    go : (b : Bool) → fits_call m c ≡ b → fits_call m c ≡ true
    go true is = is
    go false is = absurd (fits.all_fit c.line (a_call i c e is))

session_stands : (m : WasmModule) (script : ScriptPlain) (n : ℕ) → IsWhole m → Fits m script → Stands m (place m script n)
session_stands m script zero whole fits = (tt, first_typed m whole.is_valid script)
session_stands m script (suc n) whole fits =
    let s = first_store m script in
    instance_goes m whole.is_valid (functions_are_typed m whole) (entries_fit s m.elements && bytes_fit s m.segments) script n s (fits_true m script fits) (first_typed m whole.is_valid script)

pub sessions_go_on : SessionsGoOn
sessions_go_on m script n whole fits = (session_stands m script n whole fits).0

pub places_are_typed : PlacesAreTyped
places_are_typed m script n whole fits = (session_stands m script n whole fits).1
