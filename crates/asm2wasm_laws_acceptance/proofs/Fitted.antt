-- Scripts that fit the translation of a module, as scripts for the module.
use Rattle.std.proofs.Common.{◌≡◌, ℕ, zero, suc, ◌+◌, ◌-◌, ◌*◌, ◌≤◌, Bool, true, false, not, List, [], ◌∷◌, length, map, take, replicate, Option, Some, None, refl, sym, ap, ◌∙◌, subst, arith}
use Rattle.std.specs.Prelude.{slice_get, option_map, option_and_then, if◌then◌else◌, ◌&&◌, ◌||◌, ◌==◌, bytes_eq, nat_le, nat_lt, ℤ, All}
use Rattle.std.specs.List.{AllByRecursion, list_all}
use Rattle.std.proofs.lemmas.Bool.{and_parts, and_from}
use Rattle.std.proofs.lemmas.Bool.Decides.{nat_tests}
use Rattle.std.proofs.lemmas.List.{take-map, length-take}
use Rattle.std.proofs.lemmas.List.Elements.{All-from_recursion}
use Rattle.std.proofs.lemmas.Option.{slice_get-map, slice_get_past}
use Rattle.std.proofs.lemmas.Slice.Eq.{bytes_eq-Decides}
use Rattle.hex.specs.Hex.{IsBytes}
use Rattle.session_lang.specs.Script.{GlobalPlain, WritePlain, CallPlain, ReplyPlain, give, throw, ReplyLinePlain, ScriptPlain}
use Rattle.session_lang.specs.CallingForms.{foreign_import, global_to_wasm}
use Rattle.session_lang.specs.Fits.{is_given, writes_of, are_bytes}
use Rattle.session_lang.specs.FitLaws.{IsUnfit, a_global, a_write, a_call, a_reply, Fits}
use Rattle.session_lang.proofs.Misfits.{no_misfit_fits, what_fits_has_no_misfit}
use Rattle.wasm_lang.specs.declared.types.ValType.TheVariants.{I32}
use Rattle.wasm_lang.specs.Modules.{WasmModule}
use Rattle.wasm_lang_valid.specs.ModuleRules.{function_types, type_of_function}
use Rattle.wasm_lang_valid.specs.Runnable as machine_pages
use Rattle.wasm_lang_exec.specs.Store.{page}
use Rattle.wasm_lang_exec.specs.Session.{bytes_in}
use Rattle.wasm_lang_exec.specs.Fits as machine
use Rattle.wasm_lang_exec.specs.Fits.{GlobalImport}
use Rattle.asm_lang.specs.Heights.{IsWellFormed}
use Rattle.asm_lang.specs.Modules.{Function, Module}
use Rattle.asm_lang_valid.specs.Scope.{is_in}
use Rattle.asm_lang_valid.specs.LimitRows.{foreign_calls}
use Rattle.asm_lang_valid.specs.Refusal.{foreign_globals, has_heap, exported_from}
use Rattle.asm_lang_exec.specs.Session.{heap_length, export_number}
use Rattle.asm_lang_exec.specs.Fits as source
use Rattle.asm_laws_print.specs.Fitting.{FitsModule}
use Rattle.asm2wasm_lang.specs.Heaps.{pages_for}
use Rattle.asm2wasm_laws_heap.specs.Guards.{part_in}
use Rattle.asm2wasm_translation.specs.Modules.{translation}
use Rattle.asm2wasm_laws_acceptance.specs.Scripts.{name_of_import, text_global, text_reply, text_line, text_script, EndsBy, FitsText, ScriptsFitBack}
use Rattle.asm2wasm_laws_acceptance.proofs.Imports.{functions_have_types, functions_are_counted}
use Rattle.asm2wasm_laws_acceptance.proofs.Bytes.{imported_bytes}
use Rattle.asm2wasm_laws_acceptance.proofs.Fitting.{or_first, or_second, asked, globals_are, pages_by, imported_pages_are, pages_are, number_after, number_is, given_kept, given_back, all_from_places, all_taken, mapped_at, holds_or, clash}

-- ---- names

-- an imported name is one of the text's
record IsNamed (names : List (List ℕ)) (n : List ℕ) : Type 0 where
  imported : foreign_import (name_of_import names n) ≡ n
  listed : is_in (name_of_import names n) names ≡ true

is_there : (names : List (List ℕ)) (n : List ℕ) (i : ℕ) → slice_get names i ≡ Some n → is_in n names ≡ true
is_there [] n i h = absurd (cc h)
is_there (x ∷ xs) n zero h = let same : x ≡ n = cc h in or_first (bytes_eq x n) (is_in n xs) ((bytes_eq-Decides x n).1 same)
is_there (x ∷ xs) n (suc i) h = or_second (bytes_eq x n) (is_in n xs) (is_there xs n i h)

-- past the end of a list
is_past : {A : Type 0} (xs : List A) (k : ℕ) → slice_get xs k ≡ None → length xs ≤ k
is_past [] k e = omega arith
is_past (x ∷ xs) zero e = absurd (cc e)
is_past (x ∷ xs) (suc k) e = let rest = is_past xs k e in omega (arith, rest)

module _ (m : Module) (size : ℕ) where
  named : (n : List ℕ) (names : List (List ℕ)) → machine.is_imported (map (asked m size) names) n ≡ true → IsNamed names n
  named n [] h = absurd (cc h)
  named n (x ∷ xs) h = by (bytes_eq (foreign_import x) n) refl (named n xs) h
    where
      by : (b : Bool) → bytes_eq (foreign_import x) n ≡ b → (machine.is_imported (map (asked m size) xs) n ≡ true → IsNamed xs n)
          → (b || machine.is_imported (map (asked m size) xs) n) ≡ true → IsNamed (x ∷ xs) n
      by true e rest h =
          let here : name_of_import (x ∷ xs) n ≡ x = ap (λ (b : Bool). if b then x else name_of_import xs n) e in
          record {
            imported = ap foreign_import here ∙ (bytes_eq-Decides (foreign_import x) n).0 e;
            listed = ap (λ k. is_in k (x ∷ xs)) here ∙ or_first (bytes_eq x x) (is_in x xs) ((bytes_eq-Decides x x).1 refl);
          }
      by false e rest h =
          let there : name_of_import (x ∷ xs) n ≡ name_of_import xs n = ap (λ (b : Bool). if b then x else name_of_import xs n) e in
          let found = rest h in
          record {
            imported = ap foreign_import there ∙ found.imported;
            listed = ap (λ k. is_in k (x ∷ xs)) there ∙ or_second (bytes_eq x (name_of_import xs n)) (is_in (name_of_import xs n) xs) found.listed;
          }

  in_range_of : (n : List ℕ) (z : ℤ) (names : List (List ℕ)) → machine.is_imported (map (asked m size) names) n ≡ true → machine.has_range (map (asked m size) names) n z ≡ true → source.in_range z ≡ true
  in_range_of n z [] h ranges = absurd (cc h)
  in_range_of n z (x ∷ xs) h ranges = by (bytes_eq (foreign_import x) n) (in_range_of n z xs) h ranges
    where
      by : (b : Bool) → (machine.is_imported (map (asked m size) xs) n ≡ true → machine.has_range (map (asked m size) xs) n z ≡ true → source.in_range z ≡ true)
          → (b || machine.is_imported (map (asked m size) xs) n) ≡ true → ((if b then machine.in_range I32 z else true) && machine.has_range (map (asked m size) xs) n z) ≡ true → source.in_range z ≡ true
      by true rest h ranges = (and_parts (machine.in_range I32 z) (machine.has_range (map (asked m size) xs) n z) ranges).0
      by false rest h ranges = rest h ranges

  abbrev HasName : GlobalPlain → Type 0
  HasName g = IsNamed (foreign_globals m) g.name

  -- the same names once more
  names_back : (gs : List GlobalPlain) → AllByRecursion HasName gs → gs ≡ map global_to_wasm (map (text_global m) gs)
  names_back [] all = refl
  names_back (g ∷ gs) all =
      ap (λ n. record { name = n; value = g.value; line = g.line } ∷ gs) (sym all.0.imported) ∙ ap (λ hs. global_to_wasm (text_global m g) ∷ hs) (names_back gs all.1)

  -- ---- bytes

  taken : (n : ℕ) (bs : List ℕ) → are_bytes bs ≡ true → are_bytes (take n bs) ≡ true
  taken zero [] h = refl
  taken (suc n) [] h = refl
  taken zero (b ∷ bs) h = refl
  taken (suc n) (b ∷ bs) h = let parts = and_parts (nat_lt b 256) (are_bytes bs) h in and_from (nat_lt b 256) (are_bytes (take n bs)) parts.0 (taken n bs parts.1)

  abbrev long_by : Bool → ℕ
  long_by b = if b then size else 0

  abbrev Parted : Bool → WritePlain → Type 0
  Parted b x = let p = part_in (long_by b) x in ((are_bytes p.bytes && (b && nat_le (p.at + length p.bytes) size)) ≡ true) × EndsBy (bytes_in (pages_by m size b)) x

  parted : (b : Bool) (x : WritePlain) → machine.lies_in (pages_by m size b) x ≡ true → Parted b x
  parted false x h = absurd (cc h)
  parted true x h =
      let parts = and_parts (are_bytes x.bytes) (nat_le (x.at + length x.bytes) (pages_for size * page)) h in
      let p = part_in size x in
      let few = length-take (size - x.at) x.bytes in
      let ends : p.at + length p.bytes ≤ size = omega (arith, few) in
      let fits : nat_le (p.at + length p.bytes) size ≡ true = grind (arith, nat_tests) in
      let all : x.at + length x.bytes ≤ pages_for size * page = let h = parts.1 in grind (arith, nat_tests) in
      (and_from (are_bytes p.bytes) (nat_le (p.at + length p.bytes) size) (taken (size - x.at) x.bytes parts.0) fits, all)

  abbrev long : ℕ
  long = heap_length m size

  abbrev IsWithin : WritePlain → Type 0
  IsWithin x = (source.fits_write m size (part_in long x) ≡ true) × EndsBy (bytes_in (machine_pages.pages (translation m size))) x

  write_parted : (o : Option ℕ) (x : WritePlain) → o ≡ pages_by m size (has_heap m) → machine.lies_in o x ≡ true → IsWithin x
  write_parted o x are h =
      let two = parted (has_heap m) x (ap (λ o. machine.lies_in o x) (sym are) ∙ h) in
      (two.0, subst (λ o. EndsBy (bytes_in o) x) (sym (pages_are m size)) two.1)

  all_parted : (xs : List WritePlain) → list_all (machine.lies_in (machine_pages.pages (translation m size))) xs ≡ true
      → (list_all (source.fits_write m size) (map (part_in long) xs) ≡ true) × AllByRecursion (EndsBy (bytes_in (machine_pages.pages (translation m size)))) xs
  all_parted [] h = (refl, tt)
  all_parted (x ∷ xs) h =
      let lies = machine.lies_in (machine_pages.pages (translation m size)) in
      let parts = and_parts (lies x) (list_all lies xs) h in
      let first = write_parted (machine_pages.pages (translation m size)) x (pages_are m size) parts.0 in
      let rest = all_parted xs parts.1 in
      (and_from (source.fits_write m size (part_in long x)) (list_all (source.fits_write m size) (map (part_in long) xs)) first.0 rest.0, (first.1, rest.1))

  reply_parted : (r : ReplyPlain) → machine.fits_reply (translation m size) r ≡ true
      → (source.fits_reply m size (text_reply long r) ≡ true) × All (EndsBy (bytes_in (machine_pages.pages (translation m size)))) (writes_of r)
  reply_parted throw h = (refl, All-from_recursion (EndsBy (bytes_in (machine_pages.pages (translation m size)))) [] tt)
  reply_parted (give word ws) h =
      let parts = all_parted ws h in
      (parts.0, All-from_recursion (EndsBy (bytes_in (machine_pages.pages (translation m size)))) ws parts.1)

  -- ---- calls

  arguments_back : (n : ℕ) (zs : List ℤ) → machine.takes_arguments (replicate n I32) zs ≡ true → (length zs ≡ n) × (list_all source.in_range zs ≡ true)
  arguments_back zero [] h = (refl, refl)
  arguments_back zero (z ∷ zs) h = absurd (cc h)
  arguments_back (suc n) [] h = absurd (cc h)
  arguments_back (suc n) (z ∷ zs) h =
      let parts = and_parts (machine.in_range I32 z) (machine.takes_arguments (replicate n I32) zs) h in
      let rest = arguments_back n zs parts.1 in
      (ap (λ k. suc k) rest.0, and_from (source.in_range z) (list_all source.in_range zs) parts.0 rest.1)

  takes_back : (n : ℕ) (zs : List ℤ) → machine.takes_arguments (replicate n I32) zs ≡ true → ((length zs == n) && list_all source.in_range zs) ≡ true
  takes_back n zs h =
      let parts = arguments_back n zs h in
      let many : (length zs == n) ≡ true = let e = parts.0 in grind (arith, nat_tests) in
      and_from (length zs == n) (list_all source.in_range zs) many parts.1

  no_type : (f : ℕ) → slice_get (function_types (translation m size)) f ≡ None → type_of_function (translation m size) f ≡ None
  no_type f e = rw e refl

  call_by : (zs : List ℤ) (o : Option ℕ) → machine.takes (machine.type_at (translation m size) (option_map (number_after m size) o)) zs ≡ true → source.takes (option_and_then (λ i. slice_get m.functions i) o) zs ≡ true
  call_by zs None h = absurd (cc h)
  call_by zs (Some k) h = by (slice_get m.functions k) refl
    where
      f : ℕ
      f = length (foreign_calls m) + k

      by : (o : Option Function) → slice_get m.functions k ≡ o → source.takes o zs ≡ true
      by (Some g) e = takes_back (length g.params) zs (sym (ap (λ o. machine.takes o zs) (functions_have_types m size k g e)) ∙ h)
      by None e =
          let many = functions_are_counted m size in
          let none = no_type f (slice_get_past (function_types (translation m size)) f (let past = is_past m.functions k e in omega (arith, many, past))) in
          absurd (clash h (ap (λ o. machine.takes o zs) none))

  call_back : (c : CallPlain) → machine.fits_call (translation m size) c ≡ true → source.fits_call m c ≡ true
  call_back c h =
      call_by c.args (export_number (exported_from m m.exports) c.name)
      (sym (ap (λ o. machine.takes (machine.type_at (translation m size) o) c.args) (number_is m size (exported_from m m.exports) c.name)) ∙ h)

-- ---- a whole script

module _ (m : Module) (size : ℕ) (bytes : (n : List ℕ) → is_in n (foreign_globals m) ≡ true → IsBytes n) (s : ScriptPlain) (fits : Fits (machine.tests (translation m size)) s) where
  abbrev w : WasmModule
  w = translation m size

  abbrev there : ScriptPlain
  there = text_script m size s

  abbrev asks : List GlobalImport
  asks = map (asked m size) (foreign_globals m)

  record GlobalFits (i : ℕ) (g : GlobalPlain) : Type 0 where
    name : IsNamed (foreign_globals m) g.name
    range : source.in_range g.value ≡ true
    new : not (is_given (take i s.globals) g.name) ≡ true

  global_holds : (i : ℕ) (g : GlobalPlain) → slice_get s.globals i ≡ Some g → GlobalFits i g
  global_holds i g e =
      let before = take i s.globals in
      let all = holds_or (machine.fits_global w before g) (λ h. fits.all_fit g.line (a_global i g e h)) in
      let known : ((machine.is_imported asks g.name && machine.has_range asks g.name g.value) && not (is_given before g.name)) ≡ true
      = sym (ap (λ gs. (machine.is_imported gs g.name && machine.has_range gs g.name g.value) && not (is_given before g.name)) (globals_are m size)) ∙ all in
      let parts = and_parts (machine.is_imported asks g.name && machine.has_range asks g.name g.value) (not (is_given before g.name)) known in
      let first = and_parts (machine.is_imported asks g.name) (machine.has_range asks g.name g.value) parts.0 in
      record { name = named m size g.name (foreign_globals m) first.0; range = in_range_of m size g.name g.value (foreign_globals m) first.0 first.1; new = parts.1 }

  all_named : AllByRecursion (HasName m size) s.globals
  all_named = all_from_places (HasName m size) s.globals (λ i g e. (global_holds i g e).name)

  text_bytes : (gs : List GlobalPlain) → AllByRecursion (HasName m size) gs → AllByRecursion (λ (g : GlobalPlain). IsBytes g.name) (map (text_global m) gs)
  text_bytes [] all = tt
  text_bytes (g ∷ gs) all = (bytes (name_of_import (foreign_globals m) g.name) all.0.listed, text_bytes gs all.1)

  still_new : (gs : List GlobalPlain) (g : GlobalPlain) → AllByRecursion (HasName m size) gs → IsNamed (foreign_globals m) g.name → not (is_given gs g.name) ≡ true
      → not (is_given (map (text_global m) gs) (text_global m g).name) ≡ true
  still_new gs g all name new = by (is_given (map (text_global m) gs) (text_global m g).name) refl
    where
      by : (b : Bool) → is_given (map (text_global m) gs) (text_global m g).name ≡ b → not b ≡ true
      by false e = refl
      by true e =
          let kept = given_kept (map (text_global m) gs) (text_global m g).name e in
          let given : is_given gs g.name ≡ true = ap (λ hs. is_given hs g.name) (names_back m size gs all) ∙ ap (is_given (map global_to_wasm (map (text_global m) gs))) (sym name.imported) ∙ kept in
          absurd (clash new (ap not given))

  global_fits : (i : ℕ) (g : GlobalPlain) → slice_get s.globals i ≡ Some g → source.fits_global m (map (text_global m) (take i s.globals)) (text_global m g) ≡ true
  global_fits i g e =
      let holds = global_holds i g e in
      let name = (text_global m g).name in
      let before = map (text_global m) (take i s.globals) in
      and_from (is_in name (foreign_globals m) && source.in_range g.value) (not (is_given before name))
      (and_from (is_in name (foreign_globals m)) (source.in_range g.value) holds.name.listed holds.range)
      (still_new (take i s.globals) g (all_taken (HasName m size) s.globals i all_named) holds.name holds.new)

  write_holds : (i : ℕ) (x : WritePlain) → slice_get s.writes i ≡ Some x → IsWithin m size x
  write_holds i x e = write_parted m size (machine_pages.imported_pages w.imports) x (imported_pages_are m size) (holds_or (machine.fits_write w x) (λ h. fits.all_fit x.line (a_write i x e h)))

  reply_holds : (i : ℕ) (r : ReplyLinePlain) → slice_get s.replies i ≡ Some r → machine.fits_reply w r.reply ≡ true
  reply_holds i r e = holds_or (machine.fits_reply w r.reply) (λ h. fits.all_fit r.line (a_reply i r e h))

  no_unfit : (line : ℕ) → IsUnfit (source.tests m size) there line → ⊥
  no_unfit _ (a_global i h at unfit) =
      let (g, e, is) = mapped_at (text_global m) s.globals i h at in
      clash
      (ap (λ bs. source.fits_global m bs h) (take-map (text_global m) i s.globals) ∙ ap (source.fits_global m (map (text_global m) (take i s.globals))) is ∙ global_fits i g e) unfit
  no_unfit _ (a_write i h at unfit) =
      let (x, e, is) = mapped_at (part_in (heap_length m size)) s.writes i h at in
      clash (ap (source.fits_write m size) is ∙ (write_holds i x e).0) unfit
  no_unfit _ (a_call i c at unfit) = clash (call_back m size c (holds_or (machine.fits_call w c) (λ h. fits.all_fit c.line (a_call i c at h)))) unfit
  no_unfit _ (a_reply i h at unfit) =
      let (r, e, is) = mapped_at (text_line (heap_length m size)) s.replies i h at in
      clash (ap (λ (h : ReplyLinePlain). source.fits_reply m size h.reply) is ∙ (reply_parted m size r.reply (reply_holds i r e)).0) unfit

  all_have : (i : ℕ) (name : List ℕ) → slice_get (foreign_globals m) i ≡ Some name → is_given there.globals name ≡ true
  all_have i name e =
      let at : slice_get (machine.global_names asks) i ≡ Some (foreign_import name)
      = slice_get-map (λ (g : GlobalImport). g.name) asks i ∙ ap (option_map (λ (g : GlobalImport). g.name)) (slice_get-map (asked m size) (foreign_globals m) i ∙ ap (option_map (asked m size)) e) in
      let given = fits.all_given i (foreign_import name) (subst (λ gs. slice_get (machine.global_names gs) i ≡ Some (foreign_import name)) (sym (globals_are m size)) at) in
      given_back there.globals name (text_bytes s.globals all_named) (bytes name (is_there (foreign_globals m) name i e))
      (ap (λ gs. is_given gs (foreign_import name)) (sym (names_back m size s.globals all_named)) ∙ given)

  fits_text : FitsText m size s
  fits_text = let end = bytes_in (machine_pages.pages w) in record {
    fits = what_fits_has_no_misfit (source.tests m size) there (record { all_fit = no_unfit; all_given = all_have });
    globals = names_back m size s.globals all_named;
    writes = All-from_recursion (EndsBy end) s.writes (all_from_places (EndsBy end) s.writes (λ i x e. (write_holds i x e).1));
    replies = All-from_recursion (λ (r : ReplyLinePlain). All (EndsBy end) (writes_of r.reply)) s.replies
        (all_from_places (λ (r : ReplyLinePlain). All (EndsBy end) (writes_of r.reply)) s.replies (λ i r e. (reply_parted m size r.reply (reply_holds i r e)).1));
  }

pub scripts_fit_back : ((m : Module) → IsWellFormed m → FitsModule m) → ScriptsFitBack
scripts_fit_back well m size s formed fit = fits_text m size (imported_bytes m (well m formed)) s (no_misfit_fits (machine.tests (translation m size)) s fit)
