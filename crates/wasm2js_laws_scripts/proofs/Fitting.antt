-- Scripts that fit a module of WebAssembly fit one of asm.js that is called as asked.
use Rattle.std.proofs.Common.{◌≡◌, ℕ, zero, suc, ◌+◌, ◌*◌, ◌≤◌, Bool, true, false, not, List, [], ◌∷◌, ◌++◌, length, map, take, Option, Some, None, refl, sym, ap, ◌∙◌, subst, arith}
use Rattle.std.specs.Prelude.{ℤ, slice_get, if◌then◌else◌, ◌&&◌, ◌||◌, ◌==◌, bytes_eq, codes, nat_le}
use Rattle.std.specs.List.{AllByRecursion, list_all, flat_map}
use Rattle.std.proofs.lemmas.Bool.{and_parts, and_from}
use Rattle.std.proofs.lemmas.Bool.Decides.{nat_tests}
use Rattle.session_lang.specs.Script.{GlobalPlain, WritePlain, CallPlain, ReplyPlain, ScriptPlain}
use Rattle.session_lang.specs.Names.{export_name}
use Rattle.session_lang.specs.CallingForms.{split_args, init_call, hi_call, split_call_by, split_call}
use Rattle.session_lang.specs.Fits.{is_given, writes_of, are_bytes}
use Rattle.session_lang.specs.FitLaws.{IsUnfit, a_global, a_write, a_call, a_reply, Fits}
use Rattle.session_lang.proofs.Misfits.{no_misfit_fits, what_fits_has_no_misfit}
use Rattle.wasm_lang.specs.declared.types.ValType.{ValType}
use Rattle.wasm_lang.specs.declared.types.ValType.TheVariants.{I32, I64}
use Rattle.wasm_lang.specs.declared.types.Limits.{Limits}
use Rattle.wasm_lang.specs.declared.types.ImportKind.{ImportKind}
use Rattle.wasm_lang.specs.declared.types.ImportKind.TheVariants as imports
use Rattle.wasm_lang.specs.Modules.{FunctionType, Imported, WasmModule}
use Rattle.wasm_lang_valid.specs.declared.profile.Beyond.{Beyond}
use Rattle.wasm_lang_valid.specs.declared.profile.Beyond.TheVariants.{ImportedTable, MutableImport, MixedImport, WideImport, OffsetFromImport, SegmentOutside, MemoryLarge, Levels, Size, WideMulDiv}
use Rattle.wasm_lang_valid.specs.declared.profile.Outside.{Outside}
use Rattle.wasm_lang_valid.specs.Measures.{measures_of}
use Rattle.wasm_lang_valid.specs.Typing.{same}
use Rattle.wasm_lang_valid.specs.ModuleRules.{is_table, is_memory, is_empty, imports_memory, has_memory}
use Rattle.wasm_lang_valid.specs.Runnable.{is_mutable, first_import, above, most_pages_to_run, memory_min, or_else, imported_pages, own_pages, pages, row_or}
use Rattle.wasm_lang_valid.specs.Profile.{or_zero, where_so, is_wide_kind, wide_import, offset_from_import, segment_outside, table_length, memory_bytes, most_levels, size_past, outside_profile}
use Rattle.wasm_lang_exec.specs.Store.{page}
use Rattle.wasm_lang_exec.specs.Session.{function_named}
use Rattle.wasm_lang_exec.specs.Fits as machine
use Rattle.wasm_lang_exec.specs.Fits.{GlobalImport}
use Rattle.asm_lang.specs.Modules.{Module}
use Rattle.asm_lang_valid.specs.Scope.{Signature, is_in}
use Rattle.asm_lang_valid.specs.Refusal.{foreign_globals, has_heap}
use Rattle.asm_lang_exec.specs.Session as session
use Rattle.asm_lang_exec.specs.Fits as source
use Rattle.wasm2js_lang.specs.Heaps.{heap_for, heap_bytes}
use Rattle.wasm2js_lang.specs.Calling.{is_wide, shape, shapes_of, AreAmong, globals_asked, IsCalledAs}
use Rattle.wasm2js_lang.specs.Allowed.{script_for}
use Rattle.wasm2js_lang.proofs.Lengths.{holds}
use Rattle.wasm2js_laws_scripts.specs.Laws.{ExportsAreBytes, ScriptsFit}
use Rattle.wasm2js_laws_scripts.proofs.Calls.{same_bytes, callable, shapes_are_found, IsExported, exported_as_asked, asked_found, many_words, words_in_range}

-- ---- tests

clash : {b : Bool} → b ≡ true → b ≡ false → ⊥
clash t f = cc (t, f)

pub holds_or : (b : Bool) → (b ≡ false → ⊥) → b ≡ true
holds_or true h = refl
holds_or false h = absurd (h refl)

or_second : (a b : Bool) → b ≡ true → (a || b) ≡ true
or_second true b h = refl
or_second false b h = h

-- ---- lists

pub all_from_places : {A : Type 0} → (P : A → Type 0) (xs : List A) → ((i : ℕ) (x : A) → slice_get xs i ≡ Some x → P x) → AllByRecursion P xs
all_from_places P [] h = tt
all_from_places P (x ∷ xs) h = (h 0 x refl, all_from_places P xs (λ i y e. h (suc i) y e))

at_place : {A : Type 0} → (P : A → Type 0) (xs : List A) (i : ℕ) (x : A) → AllByRecursion P xs → slice_get xs i ≡ Some x → P x
at_place P [] i x all h = cc h
at_place P (y ∷ xs) zero x all h = let e : y ≡ x = cc h in subst P e all.0
at_place P (y ∷ xs) (suc i) x all h = at_place P xs i x all.1 h

all_append : {A : Type 0} → (P : A → Type 0) (xs ys : List A) → AllByRecursion P xs → AllByRecursion P ys → AllByRecursion P (xs ++ ys)
all_append P [] ys p q = q
all_append P (x ∷ xs) ys p q = (p.0, all_append P xs ys p.1 q)

all_flat : {A B : Type 0} → (P : B → Type 0) (f : A → List B) (Q : A → Type 0) → ((x : A) → Q x → AllByRecursion P (f x)) → (xs : List A) → AllByRecursion Q xs → AllByRecursion P (flat_map f xs)
all_flat P f Q h [] all = tt
all_flat P f Q h (x ∷ xs) all = all_append P (f x) (flat_map f xs) (h x all.0) (all_flat P f Q h xs all.1)

-- ---- names

among : (n : List ℕ) (xs ys : List (List ℕ)) → AreAmong xs ys → is_in n xs ≡ true → is_in n ys ≡ true
among n [] ys all h = cc h
among n (x ∷ xs) ys all h = by (among n xs ys all.1) (bytes_eq x n) refl h
  where
    by : (is_in n xs ≡ true → is_in n ys ≡ true) → (b : Bool) → bytes_eq x n ≡ b → (b || is_in n xs) ≡ true → is_in n ys ≡ true
    by more true e h = subst (λ m. is_in m ys ≡ true) (same_bytes x n e) all.0
    by more false e h = more h

by_name : (P : List ℕ → Type 0) (xs : List (List ℕ)) → ((i : ℕ) (n : List ℕ) → slice_get xs i ≡ Some n → P n) → (n : List ℕ) → is_in n xs ≡ true → P n
by_name P [] h n e = cc e
by_name P (x ∷ xs) h n e = by (by_name P xs (λ i n e. h (suc i) n e) n) (bytes_eq x n) refl e
  where
    by : (is_in n xs ≡ true → P n) → (b : Bool) → bytes_eq x n ≡ b → (b || is_in n xs) ≡ true → P n
    by more true t e = subst P (same_bytes x n t) (h 0 x refl)
    by more false t e = more e

imported_in : (gs : List GlobalImport) (n : List ℕ) → machine.is_imported gs n ≡ is_in n (machine.global_names gs)
imported_in [] n = refl
imported_in (g ∷ gs) n = ap (λ b. bytes_eq g.name n || b) (imported_in gs n)

-- ---- imported globals are of 32 bits

fourth_none : (a b c d : Beyond) (i j k l : Option ℕ) (rest : Option Outside) → row_or a i (row_or b j (row_or c k (row_or d l rest))) ≡ None → l ≡ None
fourth_none a b c d None None None None rest h = refl
fourth_none a b c d None None None (Some n) rest h = cc h
fourth_none a b c d None None (Some n) l rest h = cc h
fourth_none a b c d None (Some n) k l rest h = cc h
fourth_none a b c d (Some n) j k l rest h = cc h

abbrev further_rows : WasmModule → Option Outside
further_rows m =
    row_or OffsetFromImport (offset_from_import 0 m.elements m.segments)
    (row_or SegmentOutside (segment_outside (table_length m) (memory_bytes m) 0 m.elements m.segments)
    (row_or MemoryLarge (above most_pages_to_run (pages m))
    (row_or Levels (above most_levels (Some (measures_of m).levels))
    (row_or Size (size_past m) (row_or WideMulDiv (measures_of m).mul_div None)))))

no_wide : (w : WasmModule) → outside_profile w ≡ None → wide_import w 0 w.imports ≡ None
no_wide w h =
    fourth_none ImportedTable MutableImport MixedImport WideImport (first_import is_table 0 w.imports) (first_import is_mutable 0 w.imports) (measures_of w).mixed (wide_import w 0 w.imports) (further_rows w) h

where_none : (b : Bool) (n : ℕ) (o : Option ℕ) → where_so b n o ≡ None → (b ≡ false) × (o ≡ None)
where_none true n o h = cc h
where_none false n o h = (refl, h)

is_narrow : (t : ValType) → same t I64 ≡ false → t ≡ I32
is_narrow I32 h = refl
is_narrow I64 h = cc h

AreNarrow : List GlobalImport → Type 0
AreNarrow gs = AllByRecursion (λ (g : GlobalImport). g.type ≡ I32) gs

with_narrow : (w : WasmModule) (i : Imported) (k : ImportKind) (gs : List GlobalImport) → is_wide_kind w i k ≡ false → AreNarrow gs → AreNarrow (machine.with_import i k gs)
unfolding AreNarrow
with_narrow w i (imports.Func t) gs h all = all
with_narrow w i (imports.Table l) gs h all = all
with_narrow w i (imports.Memory l) gs h all = all
with_narrow w i (imports.Global g) gs h all = (is_narrow g.kind h, all)

are_narrow : (w : WasmModule) (n : ℕ) (is : List Imported) → wide_import w n is ≡ None → AreNarrow (machine.global_imports is)
unfolding AreNarrow
are_narrow w n [] h = tt
are_narrow w n (i ∷ is) h =
    let p = where_none (is_wide_kind w i i.kind) n (wide_import w (n + 1) is) h in
    with_narrow w i i.kind (machine.global_imports is) p.0 (are_narrow w (n + 1) is p.1)

narrow_range : (gs : List GlobalImport) (n : List ℕ) (z : ℤ) → AreNarrow gs → machine.is_imported gs n ≡ true → machine.has_range gs n z ≡ true → source.in_range z ≡ true
unfolding AreNarrow
narrow_range [] n z all is h = cc is
narrow_range (g ∷ gs) n z all is h = by (narrow_range gs n z all.1) (bytes_eq g.name n) is h
  where
    by : (machine.is_imported gs n ≡ true → machine.has_range gs n z ≡ true → source.in_range z ≡ true) → (b : Bool) → (b || machine.is_imported gs n) ≡ true
        → ((if b then machine.in_range g.type z else true) && machine.has_range gs n z) ≡ true → source.in_range z ≡ true
    by more true is h = let p = and_parts (machine.in_range g.type z) (machine.has_range gs n z) h in subst (λ t. machine.in_range t z ≡ true) all.0 p.0
    by more false is h = more is h

-- ---- bytes

imports_one : (is : List Imported) (n : ℕ) → imported_pages is ≡ Some n → imports_memory is ≡ true
imports_one [] n h = cc h
imports_one (i ∷ is) n h = by (imports_one is n) i.kind h
  where
    by : (imported_pages is ≡ Some n → imports_memory is ≡ true) → (k : ImportKind) → or_else (memory_min k) (imported_pages is) ≡ Some n → (is_memory k || imports_memory is) ≡ true
    by more (imports.Func t) h = more h
    by more (imports.Table l) h = more h
    by more (imports.Memory l) h = refl
    by more (imports.Global g) h = more h

own_one : (ls : List Limits) (n : ℕ) → own_pages ls ≡ Some n → not (is_empty ls) ≡ true
own_one [] n h = cc h
own_one (l ∷ ls) n h = refl

pub memory_is_there : (w : WasmModule) (n : ℕ) → pages w ≡ Some n → has_memory w ≡ true
memory_is_there w n h = by (imported_pages w.imports) refl h
  where
    by : (o : Option ℕ) → imported_pages w.imports ≡ o → or_else o (own_pages w.memories) ≡ Some n → (imports_memory w.imports || not (is_empty w.memories)) ≡ true
    by None is h = or_second (imports_memory w.imports) (not (is_empty w.memories)) (own_one w.memories n h)
    by (Some k) is h = let e = imports_one w.imports k is in ap (λ b. b || not (is_empty w.memories)) e

pub imported_are_pages : (w : WasmModule) (n : ℕ) → imported_pages w.imports ≡ Some n → pages w ≡ Some n
imported_are_pages w n h = ap (λ o. or_else o (own_pages w.memories)) h

pub heap_is_for : (w : WasmModule) (n : ℕ) → pages w ≡ Some n → heap_bytes w ≡ heap_for n
heap_is_for w n h = ap (λ o. heap_for (or_zero o)) h

module _ (w : WasmModule) (a : Module) (called : IsCalledAs w a) where
  in_heap : (n end : ℕ) → nat_le end (n * page) ≡ true → nat_le end (heap_for n) ≡ true
  in_heap n end h = let most = holds n in test end (n * page) (heap_for n) h most
    where
      test : (a b d : ℕ) → nat_le a b ≡ true → b ≤ d → nat_le a d ≡ true
      test a b d h p = grind (arith, nat_tests)

  lies : (x : WritePlain) (n : ℕ) → pages w ≡ Some n → machine.lies_in (Some n) x ≡ true → source.fits_write a (heap_bytes w) x ≡ true
  lies x n is h =
      let p = and_parts (are_bytes x.bytes) (nat_le (x.at + length x.bytes) (n * page)) h in
      and_from (are_bytes x.bytes) (has_heap a && nat_le (x.at + length x.bytes) (heap_bytes w)) p.0
      (and_from (has_heap a) (nat_le (x.at + length x.bytes) (heap_bytes w)) (called.heap ∙ memory_is_there w n is)
      (ap (λ size. nat_le (x.at + length x.bytes) size) (heap_is_for w n is) ∙ in_heap n (x.at + length x.bytes) p.1))

  lies_by : (x : WritePlain) (o : Option ℕ) → pages w ≡ o → machine.lies_in o x ≡ true → source.fits_write a (heap_bytes w) x ≡ true
  lies_by x None is h = cc h
  lies_by x (Some n) is h = lies x n is h

  write_fits : (x : WritePlain) → machine.fits_write w x ≡ true → source.fits_write a (heap_bytes w) x ≡ true
  write_fits x h = by (imported_pages w.imports) refl h
    where
      by : (o : Option ℕ) → imported_pages w.imports ≡ o → machine.lies_in o x ≡ true → source.fits_write a (heap_bytes w) x ≡ true
      by None is h = cc h
      by (Some n) is h = lies x n (imported_are_pages w n is) h

  all_lie : (xs : List WritePlain) → list_all (machine.lies_in (pages w)) xs ≡ true → list_all (source.fits_write a (heap_bytes w)) xs ≡ true
  all_lie [] h = refl
  all_lie (x ∷ xs) h =
      let p = and_parts (machine.lies_in (pages w) x) (list_all (machine.lies_in (pages w)) xs) h in
      and_from (source.fits_write a (heap_bytes w) x) (list_all (source.fits_write a (heap_bytes w)) xs) (lies_by x (pages w) refl p.0) (all_lie xs p.1)

  reply_fits : (r : ReplyPlain) → machine.fits_reply w r ≡ true → source.fits_reply a (heap_bytes w) r ≡ true
  reply_fits r h = all_lie (writes_of r) h

  -- ---- calls

  takes : (key : List ℕ) (s : Signature) (zs : List ℤ) → IsExported a key s → length zs ≡ s.params → list_all source.in_range zs ≡ true → source.takes (session.exported_function a key) zs ≡ true
  takes key s zs is many range =
      let e = is.is_this in
      let n : length is.function.params ≡ s.params = ap (λ (s : Signature). s.params) is.signature in
      ap (λ o. source.takes o zs) e ∙ and_from (length zs == length is.function.params) (list_all source.in_range zs) (same_number (length zs) (length is.function.params) (many ∙ sym n)) range
    where
      same_number : (a b : ℕ) → a ≡ b → (a == b) ≡ true
      same_number a b h = grind (arith, nat_tests)

  abbrev IsTaken : CallPlain → Type 0
  IsTaken c = source.fits_call a c ≡ true

  init_fits : IsTaken init_call
  init_fits = takes (codes "$init") _ [] (exported_as_asked w a (codes "$init") _ called refl) refl refl

  hi_fits : (line : ℕ) → IsTaken (hi_call line)
  hi_fits line = takes (codes "$hi") _ [] (exported_as_asked w a (codes "$hi") _ called refl) refl refl

  module _ (bytes : ExportsAreBytes w) where
    typed_fits : (c : CallPlain) (t : FunctionType) → machine.type_at w (function_named w.exports c.name) ≡ Some t → machine.takes_arguments t.params c.args ≡ true
        → AllByRecursion IsTaken (split_call_by (Some (shape (callable c.name t))) c)
    typed_fits c t is h =
        let key = export_name c.name in
        let entry = exported_as_asked w a key _ called (asked_found w c.name t bytes is) in
        (takes key _ (split_args (map is_wide t.params) c.args) entry (many_words t.params c.args h) (words_in_range t.params c.args h), high (shape (callable c.name t)).wide_result)
      where
        high : (b : Bool) → AllByRecursion IsTaken (if b then hi_call c.line ∷ [] else [])
        high true = (hi_fits c.line, tt)
        high false = tt

    call_fits : (c : CallPlain) → machine.fits_call w c ≡ true → AllByRecursion IsTaken (split_call (shapes_of w) c)
    call_fits c h = by (machine.type_at w (function_named w.exports c.name)) refl h
      where
        by : (o : Option FunctionType) → machine.type_at w (function_named w.exports c.name) ≡ o → machine.takes o c.args ≡ true → AllByRecursion IsTaken (split_call (shapes_of w) c)
        by None is h = cc h
        by (Some t) is h = subst (λ o. AllByRecursion IsTaken (split_call_by o c)) (sym (shapes_are_found w c.name t is)) (typed_fits c t is h)

-- ---- a whole script

module _ (w : WasmModule) (a : Module) (s : ScriptPlain) (within : outside_profile w ≡ None) (bytes : ExportsAreBytes w) (called : IsCalledAs w a) (fits : Fits (machine.tests w) s) where
  global_fits : (i : ℕ) (g : GlobalPlain) → slice_get s.globals i ≡ Some g → source.fits_global a (take i s.globals) g ≡ true
  global_fits i g e =
      let gs = machine.global_imports w.imports in
      let h = holds_or (machine.fits_global w (take i s.globals) g) (λ no_fit. fits.all_fit g.line (a_global i g e no_fit)) in
      let outer = and_parts (machine.is_imported gs g.name && machine.has_range gs g.name g.value) (not (is_given (take i s.globals) g.name)) h in
      let inner = and_parts (machine.is_imported gs g.name) (machine.has_range gs g.name g.value) outer.0 in
      let named = among g.name (globals_asked w) (foreign_globals a) called.globals (sym (imported_in gs g.name) ∙ inner.0) in
      let range = narrow_range gs g.name g.value (are_narrow w 0 w.imports (no_wide w within)) inner.0 inner.1 in
      and_from (is_in g.name (foreign_globals a) && source.in_range g.value) (not (is_given (take i s.globals) g.name)) (and_from (is_in g.name (foreign_globals a)) (source.in_range g.value) named range) outer.1

  calls_fit : AllByRecursion (λ c. source.fits_call a c ≡ true) (script_for w s).calls
  calls_fit = (
    init_fits w a called,
    all_flat (λ c. source.fits_call a c ≡ true) (split_call (shapes_of w)) (λ c. machine.fits_call w c ≡ true) (call_fits w a called bytes) s.calls
        (all_from_places (λ c. machine.fits_call w c ≡ true) s.calls (λ i c e. holds_or (machine.fits_call w c) (λ h. fits.all_fit c.line (a_call i c e h)))),
  )

  no_unfit : (line : ℕ) → IsUnfit (source.tests a (heap_bytes w)) (script_for w s) line → ⊥
  no_unfit _ (a_global i g there unfit) = clash (global_fits i g there) unfit
  no_unfit _ (a_write i x there unfit) = clash (write_fits w a called x (holds_or (machine.fits_write w x) (λ h. fits.all_fit x.line (a_write i x there h)))) unfit
  no_unfit _ (a_call i c there unfit) = clash (at_place (λ c. source.fits_call a c ≡ true) (script_for w s).calls i c calls_fit there) unfit
  no_unfit _ (a_reply i r there unfit) = clash (reply_fits w a called r.reply (holds_or (machine.fits_reply w r.reply) (λ h. fits.all_fit r.line (a_reply i r there h)))) unfit

  all_have : (i : ℕ) (name : List ℕ) → slice_get (foreign_globals a) i ≡ Some name → is_given s.globals name ≡ true
  all_have i name e =
      let asked = at_place (λ name. is_in name (globals_asked w) ≡ true) (foreign_globals a) i name called.no_other_globals e in
      by_name (λ n. is_given s.globals n ≡ true) (globals_asked w) fits.all_given name asked

pub scripts_fit : ScriptsFit
scripts_fit w a s within bytes called fit =
    let fits = no_misfit_fits (machine.tests w) s fit in
    what_fits_has_no_misfit (source.tests a (heap_bytes w)) (script_for w s) (record { all_fit = no_unfit w a s within bytes called fits; all_given = all_have w a s within bytes called fits })
