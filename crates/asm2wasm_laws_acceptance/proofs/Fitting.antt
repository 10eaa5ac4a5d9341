-- Scripts that fit a module of asm.js fit the translated one.
use Rattle.std.proofs.Common.{◌≡◌, ℕ, zero, suc, ◌+◌, ◌*◌, ◌≤◌, Bool, true, false, not, List, [], ◌∷◌, ◌++◌, length, map, take, replicate, Option, Some, None, refl, sym, ap, ◌∙◌, subst, arith}
use Rattle.std.specs.Prelude.{slice_get, option_map, option_and_then, if◌then◌else◌, ◌&&◌, ◌||◌, ◌==◌, bytes_eq, codes, nat_le, ℤ}
use Rattle.std.specs.List.{AllByRecursion, list_all}
use Rattle.std.proofs.lemmas.Bool.{and_parts, and_from, eqb-true}
use Rattle.std.proofs.lemmas.Bool.Decides.{nat_tests}
use Rattle.std.proofs.lemmas.List.{take-map}
use Rattle.std.proofs.lemmas.Slice.Eq.{bytes_eq-Decides}
use Rattle.hex.specs.Hex.{IsBytes}
use Rattle.session_lang.specs.Script.{GlobalPlain, WritePlain, CallPlain, ReplyPlain, ScriptPlain}
use Rattle.session_lang.specs.CallingForms.{foreign_import, global_to_wasm, script_to_wasm}
use Rattle.session_lang.proofs.NameLaws.{different_imports_have_different_names}
use Rattle.session_lang.specs.Fits.{is_given, writes_of, are_bytes}
use Rattle.session_lang.specs.FitLaws.{IsUnfit, a_global, a_write, a_call, a_reply, Fits}
use Rattle.session_lang.proofs.Misfits.{no_misfit_fits, what_fits_has_no_misfit}
use Rattle.wasm_lang.specs.declared.types.ValType.TheVariants.{I32}
use Rattle.wasm_lang.specs.declared.types.ImportKind.TheVariants as imports
use Rattle.wasm_lang.specs.declared.types.ExportKind.TheVariants as exports
use Rattle.wasm_lang.specs.Modules.{Imported, Exported, WasmModule}
use Rattle.wasm_lang_valid.specs.ModuleRules.{type_of_function}
use Rattle.wasm_lang_valid.specs.Runnable as machine_pages
use Rattle.wasm_lang_exec.specs.Store.{page}
use Rattle.wasm_lang_exec.specs.Session as machine_session
use Rattle.wasm_lang_exec.specs.Fits as machine
use Rattle.wasm_lang_exec.specs.Fits.{GlobalImport}
use Rattle.asm_lang.specs.Modules.{Function, Module}
use Rattle.asm_lang_valid.specs.Scope.{is_in}
use Rattle.asm_lang_valid.specs.LimitRows.{ForeignCall, foreign_calls}
use Rattle.asm_lang_valid.specs.Refusal as text
use Rattle.asm_lang_valid.specs.Refusal.{foreign_globals, has_heap, exported_from}
use Rattle.asm_lang_exec.specs.Session.{export_number}
use Rattle.asm_lang_exec.specs.Fits as source
use Rattle.asm2wasm_lang.specs.Heaps.{pages_for}
use Rattle.asm2wasm_lang.specs.Calling.{exactly}
use Rattle.asm2wasm_translation.specs.Modules.{from_env, imported_function, imported_global, translation}
use Rattle.asm_laws_print.specs.Fitting.{FitsModule}
use Rattle.asm_lang.specs.Heights.{IsWellFormed}
use Rattle.asm2wasm_laws_acceptance.specs.Laws.{ScriptsFit}
use Rattle.asm2wasm_laws_acceptance.proofs.Imports.{functions_have_types}
use Rattle.asm2wasm_laws_acceptance.proofs.Bytes.{all_low, imported_bytes}

pub or_first : (a b : Bool) → a ≡ true → (a || b) ≡ true
or_first true b h = refl
or_first false b h = absurd (cc h)

pub or_second : (a b : Bool) → b ≡ true → (a || b) ≡ true
or_second true b h = refl
or_second false b h = h

itself : (n : List ℕ) → bytes_eq n n ≡ true
itself n = (bytes_eq-Decides n n).1 refl

-- ---- what is imported

module _ (m : Module) (size : ℕ) where
  abbrev pub w : WasmModule
  w = translation m size

  abbrev pub memories : Bool → List Imported
  memories b = if b then from_env (codes "memory") (imports.Memory (exactly (pages_for size))) ∷ [] else []

  abbrev pub asked : List ℕ → GlobalImport
  asked name = record { name = foreign_import name; type = I32 }

  no_globals : (b : Bool) → machine.global_imports (memories b) ≡ []
  no_globals true = refl
  no_globals false = refl

  globals_asked : (gs : List (List ℕ)) → machine.global_imports (map imported_global gs ++ memories (has_heap m)) ≡ map asked gs
  globals_asked [] = no_globals (has_heap m)
  globals_asked (g ∷ gs) = ap (λ xs. asked g ∷ xs) (globals_asked gs)

  globals_past : (fs : List ForeignCall) (rest : List Imported) → machine.global_imports (map (imported_function m) fs ++ rest) ≡ machine.global_imports rest
  globals_past [] rest = refl
  globals_past (f ∷ fs) rest = globals_past fs rest

  pub globals_are : machine.global_imports w.imports ≡ map asked (foreign_globals m)
  globals_are = globals_past (foreign_calls m) (map imported_global (foreign_globals m) ++ memories (has_heap m)) ∙ globals_asked (foreign_globals m)

  abbrev pub pages_by : Bool → Option ℕ
  pages_by b = if b then Some (pages_for size) else None

  pages_past : (fs : List ForeignCall) (rest : List Imported) → machine_pages.imported_pages (map (imported_function m) fs ++ rest) ≡ machine_pages.imported_pages rest
  pages_past [] rest = refl
  pages_past (f ∷ fs) rest = pages_past fs rest

  pages_after : (gs : List (List ℕ)) (rest : List Imported) → machine_pages.imported_pages (map imported_global gs ++ rest) ≡ machine_pages.imported_pages rest
  pages_after [] rest = refl
  pages_after (g ∷ gs) rest = pages_after gs rest

  pages_of : (b : Bool) → machine_pages.imported_pages (memories b) ≡ pages_by b
  pages_of true = refl
  pages_of false = refl

  pub imported_pages_are : machine_pages.imported_pages w.imports ≡ pages_by (has_heap m)
  imported_pages_are =
      pages_past (foreign_calls m) (map imported_global (foreign_globals m) ++ memories (has_heap m)) ∙ pages_after (foreign_globals m) (memories (has_heap m)) ∙ pages_of (has_heap m)

  no_more : (o : Option ℕ) → machine_pages.or_else o None ≡ o
  no_more None = refl
  no_more (Some n) = refl

  pub pages_are : machine_pages.pages w ≡ pages_by (has_heap m)
  pages_are = no_more (machine_pages.imported_pages w.imports) ∙ imported_pages_are

  -- ---- bytes

  module _ (hold : size ≤ pages_for size * page) where
    in_pages : (end : ℕ) → nat_le end size ≡ true → nat_le end (pages_for size * page) ≡ true
    in_pages end h = grind (arith, nat_tests)

    lies : (b : Bool) (x : WritePlain) → are_bytes x.bytes ≡ true → (b && nat_le (x.at + length x.bytes) size) ≡ true → machine.lies_in (pages_by b) x ≡ true
    lies true x bytes h = and_from (are_bytes x.bytes) (nat_le (x.at + length x.bytes) (pages_for size * page)) bytes (in_pages (x.at + length x.bytes) h)
    lies false x bytes h = absurd (cc h)

    lies_by : (o : Option ℕ) (x : WritePlain) → o ≡ pages_by (has_heap m) → source.fits_write m size x ≡ true → machine.lies_in o x ≡ true
    lies_by o x are h =
        let p = and_parts (are_bytes x.bytes) (has_heap m && nat_le (x.at + length x.bytes) size) h in
        ap (λ o. machine.lies_in o x) are ∙ lies (has_heap m) x p.0 p.1

    write_fits : (x : WritePlain) → source.fits_write m size x ≡ true → machine.fits_write w x ≡ true
    write_fits x h = lies_by (machine_pages.imported_pages w.imports) x imported_pages_are h

    all_lie : (xs : List WritePlain) → list_all (source.fits_write m size) xs ≡ true → list_all (machine.lies_in (machine_pages.pages w)) xs ≡ true
    all_lie [] h = refl
    all_lie (x ∷ xs) h =
        let parts = and_parts (source.fits_write m size x) (list_all (source.fits_write m size) xs) h in
        and_from (machine.lies_in (machine_pages.pages w) x) (list_all (machine.lies_in (machine_pages.pages w)) xs)
        (lies_by (machine_pages.pages w) x pages_are parts.0) (all_lie xs parts.1)

    reply_fits : (r : ReplyPlain) → source.fits_reply m size r ≡ true → machine.fits_reply w r ≡ true
    reply_fits r h = all_lie (writes_of r) h

  -- ---- calls

  arguments_fit : (zs : List ℤ) → list_all source.in_range zs ≡ true → machine.takes_arguments (replicate (length zs) I32) zs ≡ true
  arguments_fit [] h = refl
  arguments_fit (z ∷ zs) h =
      let parts = and_parts (source.in_range z) (list_all source.in_range zs) h in
      and_from (machine.in_range I32 z) (machine.takes_arguments (replicate (length zs) I32) zs) parts.0 (arguments_fit zs parts.1)

  abbrev pub given : text.Exported → Exported
  given e = record { name = e.key; kind = exports.Func (length (foreign_calls m) + e.function) }

  abbrev pub number_after : ℕ → ℕ
  number_after k = length (foreign_calls m) + k

  pub number_is : (es : List text.Exported) (key : List ℕ) → machine_session.function_named (map given es) key ≡ option_map number_after (export_number es key)
  number_is [] key = refl
  number_is (e ∷ es) key = by (bytes_eq e.key key) (number_is es key)
    where
      by : (b : Bool) → machine_session.function_named (map given es) key ≡ option_map number_after (export_number es key)
          → (if b then Some (length (foreign_calls m) + e.function) else machine_session.function_named (map given es) key) ≡ option_map number_after (if b then Some e.function else export_number es key)
      by true rest = refl
      by false rest = rest

  call_by : (zs : List ℤ) (o : Option ℕ) → source.takes (option_and_then (λ i. slice_get m.functions i) o) zs ≡ true → machine.takes (machine.type_at w (option_map number_after o)) zs ≡ true
  call_by zs None h = absurd (cc h)
  call_by zs (Some k) h = found (slice_get m.functions k) refl h
    where
      found : (o : Option Function) → slice_get m.functions k ≡ o → source.takes o zs ≡ true → machine.takes (type_of_function (translation m size) (length (foreign_calls m) + k)) zs ≡ true
      found None e h = absurd (cc h)
      found (Some f) e h =
          let parts = and_parts (length zs == length f.params) (list_all source.in_range zs) h in
          let many = eqb-true (length zs) (length f.params) parts.0 in
          ap (λ o. machine.takes o zs) (functions_have_types m size k f e) ∙ subst (λ n. machine.takes_arguments (replicate n I32) zs ≡ true) many (arguments_fit zs parts.1)

  call_fits : (c : CallPlain) → source.fits_call m c ≡ true → machine.fits_call w c ≡ true
  call_fits c h = ap (λ o. machine.takes (machine.type_at w o) c.args) (number_is (exported_from m m.exports) c.name) ∙ call_by c.args (export_number (exported_from m m.exports) c.name) h

  -- ---- globals

  is_asked : (n : List ℕ) (gs : List (List ℕ)) → is_in n gs ≡ true → machine.is_imported (map asked gs) (foreign_import n) ≡ true
  is_asked n [] h = absurd (cc h)
  is_asked n (g ∷ gs) h = by (bytes_eq g n) refl (is_asked n gs) h
    where
      by : (b : Bool) → bytes_eq g n ≡ b → (is_in n gs ≡ true → machine.is_imported (map asked gs) (foreign_import n) ≡ true) → (b || is_in n gs) ≡ true
          → (bytes_eq (foreign_import g) (foreign_import n) || machine.is_imported (map asked gs) (foreign_import n)) ≡ true
      by true e rest h =
          or_first (bytes_eq (foreign_import g) (foreign_import n)) (machine.is_imported (map asked gs) (foreign_import n))
          ((bytes_eq-Decides (foreign_import g) (foreign_import n)).1 (ap foreign_import ((bytes_eq-Decides g n).0 e)))
      by false e rest h = or_second (bytes_eq (foreign_import g) (foreign_import n)) (machine.is_imported (map asked gs) (foreign_import n)) (rest h)

  in_ranges : (n : List ℕ) (z : ℤ) (gs : List (List ℕ)) → source.in_range z ≡ true → machine.has_range (map asked gs) n z ≡ true
  in_ranges n z [] h = refl
  in_ranges n z (g ∷ gs) h = by (bytes_eq (foreign_import g) n) (in_ranges n z gs h)
    where
      by : (b : Bool) → machine.has_range (map asked gs) n z ≡ true → ((if b then machine.in_range I32 z else true) && machine.has_range (map asked gs) n z) ≡ true
      by true rest = and_from (machine.in_range I32 z) (machine.has_range (map asked gs) n z) h rest
      by false rest = rest

pub given_kept : (gs : List GlobalPlain) (n : List ℕ) → is_given gs n ≡ true → is_given (map global_to_wasm gs) (foreign_import n) ≡ true
given_kept [] n h = absurd (cc h)
given_kept (g ∷ gs) n h = by (bytes_eq n g.name) refl (given_kept gs n) h
  where
    by : (b : Bool) → bytes_eq n g.name ≡ b → (is_given gs n ≡ true → is_given (map global_to_wasm gs) (foreign_import n) ≡ true) → (b || is_given gs n) ≡ true
        → (bytes_eq (foreign_import n) (foreign_import g.name) || is_given (map global_to_wasm gs) (foreign_import n)) ≡ true
    by true e rest h =
        or_first (bytes_eq (foreign_import n) (foreign_import g.name)) (is_given (map global_to_wasm gs) (foreign_import n))
        ((bytes_eq-Decides (foreign_import n) (foreign_import g.name)).1 (ap foreign_import ((bytes_eq-Decides n g.name).0 e)))
    by false e rest h = or_second (bytes_eq (foreign_import n) (foreign_import g.name)) (is_given (map global_to_wasm gs) (foreign_import n)) (rest h)

pub env_bytes : IsBytes (codes "env")
env_bytes = all_low (codes "env") (omega arith, (omega arith, (omega arith, tt)))

pub given_back : (gs : List GlobalPlain) (n : List ℕ) → AllByRecursion (λ (g : GlobalPlain). IsBytes g.name) gs → IsBytes n → is_given (map global_to_wasm gs) (foreign_import n) ≡ true → is_given gs n ≡ true
given_back [] n all bytes h = absurd (cc h)
given_back (g ∷ gs) n all bytes h = by (bytes_eq (foreign_import n) (foreign_import g.name)) refl (given_back gs n all.1 bytes) h
  where
    by : (b : Bool) → bytes_eq (foreign_import n) (foreign_import g.name) ≡ b → (is_given (map global_to_wasm gs) (foreign_import n) ≡ true → is_given gs n ≡ true)
        → (b || is_given (map global_to_wasm gs) (foreign_import n)) ≡ true → (bytes_eq n g.name || is_given gs n) ≡ true
    by true e rest h =
        let same = different_imports_have_different_names (codes "env") n (codes "env") g.name env_bytes bytes env_bytes all.0 ((bytes_eq-Decides (foreign_import n) (foreign_import g.name)).0 e) in
        or_first (bytes_eq n g.name) (is_given gs n) ((bytes_eq-Decides n g.name).1 same.1)
    by false e rest h = or_second (bytes_eq n g.name) (is_given gs n) (rest h)

not_given : (gs : List GlobalPlain) (n : List ℕ) → AllByRecursion (λ (g : GlobalPlain). IsBytes g.name) gs → IsBytes n → not (is_given gs n) ≡ true → not (is_given (map global_to_wasm gs) (foreign_import n)) ≡ true
not_given gs n all bytes h = by (is_given (map global_to_wasm gs) (foreign_import n)) refl
  where
    by : (b : Bool) → is_given (map global_to_wasm gs) (foreign_import n) ≡ b → not b ≡ true
    by true e = let back = given_back gs n all bytes e in absurd (cc (back, h))
    by false e = refl

-- ---- a whole script

pub all_from_places : {A : Type 0} → (P : A → Type 0) (xs : List A) → ((i : ℕ) (x : A) → slice_get xs i ≡ Some x → P x) → AllByRecursion P xs
all_from_places P [] h = tt
all_from_places P (x ∷ xs) h = (h 0 x refl, all_from_places P xs (λ i y e. h (suc i) y e))

pub all_taken : {A : Type 0} → (P : A → Type 0) (xs : List A) (i : ℕ) → AllByRecursion P xs → AllByRecursion P (take i xs)
all_taken P [] zero all = tt
all_taken P [] (suc i) all = tt
all_taken P (x ∷ xs) zero all = tt
all_taken P (x ∷ xs) (suc i) all = (all.0, all_taken P xs i all.1)

-- what a mapped list has at a place
pub mapped_at : {A B : Type 0} → (f : A → B) (xs : List A) (i : ℕ) (y : B) → slice_get (map f xs) i ≡ Some y → (x : A) × (slice_get xs i ≡ Some x) × (y ≡ f x)
mapped_at f [] i y h = absurd (cc h)
mapped_at f (x ∷ xs) zero y h = let same : f x ≡ y = cc h in (x, refl, sym same)
mapped_at f (x ∷ xs) (suc i) y h = mapped_at f xs i y h

pub holds_or : (b : Bool) → (b ≡ false → ⊥) → b ≡ true
holds_or true h = refl
holds_or false h = absurd (h refl)

pub clash : {b : Bool} → b ≡ true → b ≡ false → ⊥
clash t f = cc (t, f)

module _ (m : Module) (size : ℕ) (hold : size ≤ pages_for size * page) (bytes : (n : List ℕ) → is_in n (foreign_globals m) ≡ true → IsBytes n) (s : ScriptPlain) (fits : Fits (source.tests m size) s) where
  global_holds : (i : ℕ) (g : GlobalPlain) → slice_get s.globals i ≡ Some g → source.fits_global m (take i s.globals) g ≡ true
  global_holds i g e = holds_or (source.fits_global m (take i s.globals) g) (λ h. fits.all_fit g.line (a_global i g e h))

  name_bytes : (i : ℕ) (g : GlobalPlain) → slice_get s.globals i ≡ Some g → IsBytes g.name
  name_bytes i g e =
      let first = and_parts (is_in g.name (foreign_globals m) && source.in_range g.value) (not (is_given (take i s.globals) g.name)) (global_holds i g e) in
      bytes g.name (and_parts (is_in g.name (foreign_globals m)) (source.in_range g.value) first.0).0

  all_bytes : AllByRecursion (λ (g : GlobalPlain). IsBytes g.name) s.globals
  all_bytes = all_from_places (λ (g : GlobalPlain). IsBytes g.name) s.globals name_bytes

  global_fits : (i : ℕ) (g : GlobalPlain) → slice_get s.globals i ≡ Some g → machine.fits_global (translation m size) (map global_to_wasm (take i s.globals)) (global_to_wasm g) ≡ true
  global_fits i g e =
      let before = take i s.globals in
      let gs = map (asked m size) (foreign_globals m) in
      let name = foreign_import g.name in
      let parts = and_parts (is_in g.name (foreign_globals m) && source.in_range g.value) (not (is_given before g.name)) (global_holds i g e) in
      let first = and_parts (is_in g.name (foreign_globals m)) (source.in_range g.value) parts.0 in
      ap (λ gs. (machine.is_imported gs name && machine.has_range gs name g.value) && not (is_given (map global_to_wasm before) name)) (globals_are m size)
      ∙ and_from (machine.is_imported gs name && machine.has_range gs name g.value) (not (is_given (map global_to_wasm before) name))
      (and_from (machine.is_imported gs name) (machine.has_range gs name g.value) (is_asked m size g.name (foreign_globals m) first.0) (in_ranges m size name g.value (foreign_globals m) first.1))
      (not_given before g.name (all_taken (λ (g : GlobalPlain). IsBytes g.name) s.globals i all_bytes) (name_bytes i g e) parts.1)

  no_unfit : (line : ℕ) → IsUnfit (machine.tests (translation m size)) (script_to_wasm s) line → ⊥
  no_unfit _ (a_global i h there unfit) =
      let (g, e, is) = mapped_at global_to_wasm s.globals i h there in
      let holds = global_fits i g e in
      clash
      (ap (λ bs. machine.fits_global (translation m size) bs h) (take-map global_to_wasm i s.globals) ∙ ap (machine.fits_global (translation m size) (map global_to_wasm (take i s.globals))) is ∙ holds) unfit
  no_unfit _ (a_write i x there unfit) = clash (write_fits m size hold x (holds_or (source.fits_write m size x) (λ h. fits.all_fit x.line (a_write i x there h)))) unfit
  no_unfit _ (a_call i c there unfit) = clash (call_fits m size c (holds_or (source.fits_call m c) (λ h. fits.all_fit c.line (a_call i c there h)))) unfit
  no_unfit _ (a_reply i r there unfit) = clash (reply_fits m size hold r.reply (holds_or (source.fits_reply m size r.reply) (λ h. fits.all_fit r.line (a_reply i r there h)))) unfit

  all_have : (i : ℕ) (name : List ℕ) → slice_get (machine.global_names (machine.global_imports (translation m size).imports)) i ≡ Some name → is_given (map global_to_wasm s.globals) name ≡ true
  all_have i name e =
      let there = subst (λ gs. slice_get (machine.global_names gs) i ≡ Some name) (globals_are m size) e in
      let (g, at, is) = mapped_at (λ (g : GlobalImport). g.name) (map (asked m size) (foreign_globals m)) i name there in
      let (n, place, same) = mapped_at (asked m size) (foreign_globals m) i g at in
      let named : name ≡ foreign_import n = is ∙ ap (λ (g : GlobalImport). g.name) same in
      subst (λ name. is_given (map global_to_wasm s.globals) name ≡ true) (sym named) (given_kept s.globals n (fits.all_given i n place))

pub scripts_fit : ((size : ℕ) → size ≤ pages_for size * page) → ((m : Module) → IsWellFormed m → FitsModule m) → ScriptsFit
scripts_fit hold well m size s formed fit =
    let fits = no_misfit_fits (source.tests m size) s fit in
    let bytes = imported_bytes m (well m formed) in
    what_fits_has_no_misfit (machine.tests (translation m size)) (script_to_wasm s) (record { all_fit = no_unfit m size (hold size) bytes s fits; all_given = all_have m size (hold size) bytes s fits })
