-- A script fits the linked module exactly where it fits the pair.
use Rattle.std.proofs.Common.{◌≡◌, ℕ, suc, ◌+◌, Bool, true, false, List, [], ◌∷◌, ◌++◌, length, map, Option, Some, None, refl, sym, ap, ◌∙◌}
use Rattle.std.proofs.Math.Path.{fun_ext}
use Rattle.std.proofs.lemmas.List.{append-nil}
use Rattle.std.specs.Prelude.{slice_get, if◌then◌else◌, option_map, ◌&&◌, not, bytes_eq}
use Rattle.std.specs.List.{list_all}
use Rattle.session_lang.specs.Script.{ScriptPlain}
use Rattle.session_lang.specs.Fits as parts
use Rattle.session_lang.specs.Fits.{Tests, is_given, writes_of}
use Rattle.wasm_lang.specs.declared.types.ImportKind.{ImportKind}
use Rattle.wasm_lang.specs.declared.types.ImportKind.TheVariants as imports
use Rattle.wasm_lang.specs.Modules.{FunctionType, Imported, Exported, WasmModule}
use Rattle.wasm_lang_valid.specs.ModuleRules.{type_of_function}
use Rattle.wasm_lang_valid.specs.Runnable as alone
use Rattle.wasm_lang_valid.specs.Runnable.{memory_min, or_else, imported_pages}
use Rattle.wasm_lang_exec.specs.Session.{exported_function, function_named}
use Rattle.wasm_lang_exec.specs.Fits as machine
use Rattle.wasm_lang_exec.specs.Fits.{GlobalImport, with_import, global_imports, global_names, is_imported, has_range, lies_in, takes, type_at}
use Rattle.wasm_laws_sound.specs.Laws.{IsWhole}
use Rattle.wasm_link_lang.specs.Pairs.{Pair, past_first}
use Rattle.wasm_link_lang.specs.Refusal.{least_maximum}
use Rattle.wasm_link_lang.specs.Session.{pages, first_or_second}
use Rattle.wasm_link_lang.specs.Fits.{pair_globals, named_type, fits_call, tests, misfit}
use Rattle.wasm_link_code.specs.Numbers.{number}
use Rattle.wasm_link_code.specs.Linked.{stays, staying, moved_import, memory_import, linked}
use Rattle.wasm_link_laws_modules.proofs.Accepted.{MeetsNoRow}
use Rattle.wasm_link_laws_modules.proofs.Types.{typed_first, typed_second}
use Rattle.wasm_link_laws_modules.proofs.Numbered.{number_typed}
use Rattle.wasm_link_laws_modules.proofs.Sections.{typed_there}
use Rattle.wasm_link_laws_modules.proofs.ExportsValid.{exported_there}
use Rattle.wasm_link_laws_modules.proofs.Names.{linked_named}

-- ---- imported globals

with_import_joins : (i : Imported) (kind : ImportKind) (gs hs : List GlobalImport) → with_import i kind (gs ++ hs) ≡ with_import i kind gs ++ hs
with_import_joins i (imports.Func t) gs hs = refl
with_import_joins i (imports.Table l) gs hs = refl
with_import_joins i (imports.Memory l) gs hs = refl
with_import_joins i (imports.Global g) gs hs = refl

globals_join : (is js : List Imported) → global_imports (is ++ js) ≡ global_imports is ++ global_imports js
globals_join [] js = refl
globals_join (i ∷ is) js = ap (with_import i i.kind) (globals_join is js) ∙ with_import_joins i i.kind (global_imports is) (global_imports js)

globals_stay : (other : WasmModule) (is : List Imported) → global_imports (staying other is) ≡ global_imports is
globals_stay other [] = refl
globals_stay other (i ∷ is) = by i.kind i.module_name i.name (globals_stay other is)
  where
    either : (b : Bool) (j : Imported) (t : ℕ) → j.kind ≡ imports.Func t → global_imports (staying other is) ≡ global_imports is
        → global_imports (if b then j ∷ staying other is else staying other is) ≡ global_imports is
    either true j t f further = ap (λ k. with_import j k (global_imports (staying other is))) f ∙ further
    either false j t f further = further

    by : (kind : ImportKind) (n m : List ℕ) → global_imports (staying other is) ≡ global_imports is
        → let j : Imported = record { module_name = n; name = m; kind = kind } in global_imports (staying other (j ∷ is)) ≡ global_imports (j ∷ is)
    by (imports.Func t) n m further =
        let j : Imported = record { module_name = n; name = m; kind = imports.Func t } in either (stays other j) j t refl further
    by (imports.Table l) n m further = further
    by (imports.Memory l) n m further = further
    by (imports.Global g) n m further = ap (with_import (record { module_name = n; name = m; kind = imports.Global g }) (imports.Global g)) further

globals_moved : (n : ℕ) (is : List Imported) → global_imports (map (moved_import n) is) ≡ global_imports is
globals_moved n [] = refl
globals_moved n (i ∷ is) = by i.kind (globals_moved n is)
  where
    by : (kind : ImportKind) → global_imports (map (moved_import n) is) ≡ global_imports is
        → let j : Imported = record i { kind = kind } in global_imports (moved_import n j ∷ map (moved_import n) is) ≡ with_import i kind (global_imports is)
    by (imports.Func t) further = further
    by (imports.Table l) further = further
    by (imports.Memory l) further = further
    by (imports.Global g) further = ap (with_import i (imports.Global g)) further

no_globals : (least most : Option ℕ) → global_imports (memory_import least most) ≡ []
no_globals None most = refl
no_globals (Some n) most = refl

-- ---- the memory

pages_past : (is js : List Imported) → imported_pages is ≡ None → imported_pages (is ++ js) ≡ imported_pages js
pages_past [] js e = refl
pages_past (i ∷ is) js e = by (memory_min i.kind) e (pages_past is js)
  where
    by : (o : Option ℕ) → or_else o (imported_pages is) ≡ None → (imported_pages is ≡ None → imported_pages (is ++ js) ≡ imported_pages js) → or_else o (imported_pages (is ++ js)) ≡ imported_pages js
    by None e further = further e
    by (Some n) e further = absurd (cc e)

no_pages : (other : WasmModule) (is : List Imported) → imported_pages (staying other is) ≡ None
no_pages other [] = refl
no_pages other (i ∷ is) = by i.kind i.module_name i.name (no_pages other is)
  where
    either : (b : Bool) (j : Imported) (t : ℕ) → j.kind ≡ imports.Func t → imported_pages (staying other is) ≡ None → imported_pages (if b then j ∷ staying other is else staying other is) ≡ None
    either true j t f further = ap (λ k. or_else (memory_min k) (imported_pages (staying other is))) f ∙ further
    either false j t f further = further

    by : (kind : ImportKind) (n m : List ℕ) → imported_pages (staying other is) ≡ None → let j : Imported = record { module_name = n; name = m; kind = kind } in imported_pages (staying other (j ∷ is)) ≡ None
    by (imports.Func t) n m further = let j : Imported = record { module_name = n; name = m; kind = imports.Func t } in either (stays other j) j t refl further
    by (imports.Table l) n m further = further
    by (imports.Memory l) n m further = further
    by (imports.Global g) n m further = further

moved_pages : (n : ℕ) (is : List Imported) → imported_pages (map (moved_import n) is) ≡ imported_pages is
moved_pages n [] = refl
moved_pages n (i ∷ is) = by i.kind (moved_pages n is)
  where
    by : (kind : ImportKind) → imported_pages (map (moved_import n) is) ≡ imported_pages is
        → let j : Imported = record i { kind = kind } in imported_pages (moved_import n j ∷ map (moved_import n) is) ≡ or_else (memory_min kind) (imported_pages is)
    by (imports.Func t) further = further
    by (imports.Table l) further = further
    by (imports.Memory l) further = refl
    by (imports.Global g) further = further

last_pages : (least most : Option ℕ) → imported_pages (memory_import least most) ≡ least
last_pages None most = refl
last_pages (Some n) most = refl

or_else_none : (o : Option ℕ) → or_else o None ≡ o
or_else_none None = refl
or_else_none (Some n) = refl

module _ (w : Pair) where
  abbrev moved : List Imported
  moved = map (moved_import (length w.first.types)) (staying w.first w.second.imports)

  abbrev memory : List Imported
  memory = memory_import (pages w) (least_maximum w)

  pub globals_are : global_imports (linked w).imports ≡ pair_globals w
  unfolding linked
  globals_are =
      globals_join (staying w.second w.first.imports) (moved ++ memory)
      ∙ ap (λ gs. gs ++ global_imports (moved ++ memory)) (globals_stay w.second w.first.imports)
      ∙ ap (λ gs. global_imports w.first.imports ++ gs)
      (globals_join moved memory ∙ ap (λ gs. global_imports moved ++ gs) (no_globals (pages w) (least_maximum w)) ∙ append-nil (global_imports moved)
      ∙ globals_moved (length w.first.types) (staying w.first w.second.imports) ∙ globals_stay w.first w.second.imports)

  pub pages_are : imported_pages (linked w).imports ≡ pages w
  unfolding linked
  pages_are =
      pages_past (staying w.second w.first.imports) (moved ++ memory) (no_pages w.second w.first.imports)
      ∙ pages_past moved memory (moved_pages (length w.first.types) (staying w.first w.second.imports) ∙ no_pages w.first w.second.imports)
      ∙ last_pages (pages w) (least_maximum w)

  pub all_pages_are : alone.pages (linked w) ≡ pages w
  unfolding linked
  all_pages_are = ap (λ o. or_else o None) pages_are ∙ or_else_none (pages w)

-- ---- calls

-- a function that is found under a name is exported
found_export : (es : List Exported) (name : List ℕ) (f : ℕ) → function_named es name ≡ Some f → (i : ℕ) × (e : Exported) × (slice_get es i ≡ Some e) × (exported_function e.kind ≡ Some f)
found_export [] name f e = absurd (cc e)
found_export (x ∷ es) name f e = by (bytes_eq x.name name) e (found_export es name f)
  where
    by : (b : Bool) → (if b then exported_function x.kind else function_named es name) ≡ Some f
        → (function_named es name ≡ Some f → (i : ℕ) × (e : Exported) × (slice_get es i ≡ Some e) × (exported_function e.kind ≡ Some f))
        → (i : ℕ) × (e : Exported) × (slice_get (x ∷ es) i ≡ Some e) × (exported_function e.kind ≡ Some f)
    by true h further = (0, x, refl, h)
    by false h further = let r = further h in (suc r.0, r.1, r.2, r.3)

pub named_typed : (m : WasmModule) → IsWhole m → (name : List ℕ) (f : ℕ) → function_named m.exports name ≡ Some f → (t : FunctionType) × (type_of_function m f ≡ Some t)
named_typed m whole name f e = let at = found_export m.exports name f e in typed_there m whole f (exported_there m whole at.0 at.1 f at.2 at.3)

module _ (w : Pair) (rows : MeetsNoRow w) (first : IsWhole w.first) (second : IsWhole w.second) where
  types_are : (name : List ℕ) → type_at (linked w) (function_named (linked w).exports name) ≡ named_type w name (function_named w.first.exports name)
  types_are name = ap (type_at (linked w)) (linked_named w first second name) ∙ by (function_named w.first.exports name) (function_named w.second.exports name) refl refl
    where
      past : ℕ → ℕ
      past f = number w ((past_first w).functions + f)

      by : (p q : Option ℕ) → function_named w.first.exports name ≡ p → function_named w.second.exports name ≡ q
          → type_at (linked w) (first_or_second (option_map (number w) p) (option_map (λ f. number w ((past_first w).functions + f)) q)) ≡ named_type w name p
      by (Some f) q e h = let t = named_typed w.first first name f e in number_typed w rows f t.0 (typed_first w f t.0 t.1) ∙ sym t.1
      by None None e h = ap (type_at w.second) (sym h)
      by None (Some f) e h =
          let t = named_typed w.second second name f h in
          number_typed w rows ((past_first w).functions + f) t.0 (typed_second w f t.0 t.1) ∙ sym t.1 ∙ ap (type_at w.second) (sym h)

  tests_are : tests w ≡ machine.tests (linked w)
  tests_are =
      let gs = globals_are w in
      let ps = pages_are w in
      let all = all_pages_are w in
      let calls : fits_call w ≡ machine.fits_call (linked w) = fun_ext (λ c. ap (λ t. takes t c.args) (sym (types_are c.name))) in
      λ i. record {
        imports = global_names (sym gs i);
        fits_global = λ before g. is_imported (sym gs i) g.name && has_range (sym gs i) g.name g.value && not (is_given before g.name);
        fits_write = lies_in (sym ps i);
        fits_call = calls i;
        fits_reply = λ r. list_all (lies_in (sym all i)) (writes_of r);
      }

  pub scripts_fit : (s : ScriptPlain) → misfit w s ≡ machine.misfit (linked w) s
  scripts_fit s = ap (λ t. parts.misfit t s) tests_are
