-- Calls of a script: what is exported under a name has the shape and the signature of its type.
use Rattle.std.proofs.Common.{◌≡◌, ℕ, suc, ◌+◌, ◌/◌, ◌^◌, ◌<◌, Bool, true, false, List, [], ◌∷◌, ◌++◌, length, map, Option, Some, None, refl, sym, ap, ◌∙◌, subst, arith}
use Rattle.std.specs.Prelude.{ℤ, pos, negsuc, slice_get, option_map, option_and_then, if◌then◌else◌, ◌&&◌, bytes_eq, codes, nat_lt}
use Rattle.std.specs.List.{AllByRecursion, list_all, flat_map}
use Rattle.std.proofs.lemmas.Bool.{and_parts, and_from}
use Rattle.std.proofs.lemmas.Bool.Decides.{nat_tests}
use Rattle.std.proofs.lemmas.Slice.Eq.{bytes_eq-Decides}
use Rattle.hex.specs.Hex.{IsBytes}
use Rattle.session_lang.specs.Imports.{low_word, high_word}
use Rattle.session_lang.specs.Names.{export_name}
use Rattle.session_lang.specs.CallingForms.{shape_of_name, to_word64, split_args}
use Rattle.session_lang.proofs.NameLaws.{different_exports_have_different_names, fixed_names_are_kept}
use Rattle.wasm_lang.specs.declared.types.ValType.{ValType}
use Rattle.wasm_lang.specs.declared.types.ValType.TheVariants.{I32, I64}
use Rattle.wasm_lang.specs.declared.types.ExportKind.{ExportKind}
use Rattle.wasm_lang.specs.declared.types.ExportKind.TheVariants as exports
use Rattle.wasm_lang.specs.Modules.{FunctionType, Exported, WasmModule}
use Rattle.wasm_lang_valid.specs.ModuleRules.{type_of_function}
use Rattle.wasm_lang_exec.specs.Session.{function_named, exported_function}
use Rattle.wasm_lang_exec.specs.Fits as machine
use Rattle.asm_lang.specs.Modules.{Function, Module}
use Rattle.asm_lang_valid.specs.Scope.{Signature, signature_of}
use Rattle.asm_lang_valid.specs.Refusal as text
use Rattle.asm_lang_valid.specs.Refusal.{exported_from}
use Rattle.asm_lang_exec.specs.Session as session
use Rattle.asm_lang_exec.specs.Session.{export_number}
use Rattle.asm_lang_exec.specs.Fits as source
use Rattle.wasm2js_lang.specs.Calling.{is_wide, Callable, typed_as, exported_kind, callables, shape, Entry, entry, words, entry_of, entries_asked, entry_at, IsCalledAs}
use Rattle.wasm2js_laws_scripts.specs.Laws.{ShapesAreFound, ExportsAreBytes}

itself : (n : List ℕ) → bytes_eq n n ≡ true
itself n = (bytes_eq-Decides n n).1 refl

pub same_bytes : (x y : List ℕ) → bytes_eq x y ≡ true → x ≡ y
same_bytes x y h = (bytes_eq-Decides x y).0 h

other_bytes : (x y : List ℕ) → (x ≡ y → ⊥) → bytes_eq x y ≡ false
other_bytes x y h = by (bytes_eq x y) refl
  where
    by : (b : Bool) → bytes_eq x y ≡ b → b ≡ false
    by true e = absurd (h (same_bytes x y e))
    by false e = refl

-- ---- the exported function of a name, with its type

abbrev pub callable : List ℕ → FunctionType → Callable
callable key t = record { key = key; type = t }

abbrev pub callable_named : List Callable → List ℕ → Option Callable
callable_named [] name = None
callable_named (f ∷ fs) name = if bytes_eq f.key name then Some f else callable_named fs name

-- what has another name is passed over
passed : (key name : List ℕ) (o : Option FunctionType) (rest : List Callable) → bytes_eq key name ≡ false → callable_named (typed_as key o ++ rest) name ≡ callable_named rest name
passed key name None rest h = refl
passed key name (Some t) rest h = ap (λ b. if b then Some (callable key t) else callable_named rest name) h

kind_passed : (w : WasmModule) (key name : List ℕ) (k : ExportKind) (rest : List Callable) → bytes_eq key name ≡ false → callable_named (exported_kind w key k ++ rest) name ≡ callable_named rest name
kind_passed w key name (exports.Func f) rest h = passed key name (type_of_function w f) rest h
kind_passed w key name (exports.Table t) rest h = refl
kind_passed w key name (exports.Memory t) rest h = refl
kind_passed w key name (exports.Global t) rest h = refl

kind_found : (w : WasmModule) (key name : List ℕ) (k : ExportKind) (rest : List Callable) (t : FunctionType) → bytes_eq key name ≡ true → machine.type_at w (exported_function k) ≡ Some t
    → callable_named (exported_kind w key k ++ rest) name ≡ Some (callable name t)
kind_found w key name (exports.Func f) rest t h is =
    ap (λ o. callable_named (typed_as key o ++ rest) name) is
    ∙ ap (λ b. if b then Some (callable key t) else callable_named rest name) h
    ∙ ap (λ key. Some (callable key t)) (same_bytes key name h)
kind_found w key name (exports.Table x) rest t h is = cc is
kind_found w key name (exports.Memory x) rest t h is = cc is
kind_found w key name (exports.Global x) rest t h is = cc is

found_among : (w : WasmModule) (name : List ℕ) (t : FunctionType) (es : List Exported) → machine.type_at w (function_named es name) ≡ Some t
    → callable_named (flat_map (λ (e : Exported). exported_kind w e.name e.kind) es) name ≡ Some (callable name t)
found_among w name t [] is = cc is
found_among w name t (e ∷ es) is = by (found_among w name t es) (bytes_eq e.name name) refl is
  where
    rest : List Callable
    rest = flat_map (λ (e : Exported). exported_kind w e.name e.kind) es

    by : (machine.type_at w (function_named es name) ≡ Some t → callable_named rest name ≡ Some (callable name t)) → (b : Bool) → bytes_eq e.name name ≡ b
        → machine.type_at w (if b then exported_function e.kind else function_named es name) ≡ Some t → callable_named (exported_kind w e.name e.kind ++ rest) name ≡ Some (callable name t)
    by more true h is = kind_found w e.name name e.kind rest t h is
    by more false h is = kind_passed w e.name name e.kind rest h ∙ more is

pub callable_found : (w : WasmModule) (name : List ℕ) (t : FunctionType) → machine.type_at w (function_named w.exports name) ≡ Some t → callable_named (callables w) name ≡ Some (callable name t)
callable_found w name t is = found_among w name t w.exports is

-- ---- its shape

shape_found : (fs : List Callable) (name : List ℕ) (f : Callable) → callable_named fs name ≡ Some f → shape_of_name (map shape fs) name ≡ Some (shape f)
shape_found [] name f h = cc h
shape_found (g ∷ fs) name f h = by (shape_found fs name f) (bytes_eq g.key name) h
  where
    by : (callable_named fs name ≡ Some f → shape_of_name (map shape fs) name ≡ Some (shape f)) → (b : Bool) → (if b then Some g else callable_named fs name) ≡ Some f
        → (if b then Some (shape g) else shape_of_name (map shape fs) name) ≡ Some (shape f)
    by more true h = let e : g ≡ f = cc h in ap (λ f. Some (shape f)) e
    by more false h = more h

pub shapes_are_found : ShapesAreFound
shapes_are_found w name t is = shape_found (callables w) name (callable name t) (callable_found w name t is)

-- ---- an entry of that name, which is a function of that signature

abbrev pub entry_named : List Entry → List ℕ → Option Entry
entry_named [] key = None
entry_named (x ∷ xs) key = if bytes_eq x.key key then Some x else entry_named xs key

-- a function that is exported under a key, with this signature
pub record IsExported (a : Module) (key : List ℕ) (s : Signature) : Type 0 where
  pub function : Function
  pub is_this : session.exported_function a key ≡ Some function
  pub signature : signature_of function ≡ s

record IsEntry (a : Module) (e : text.Exported) (x : Entry) : Type 0 where
  function : Function
  is_there : slice_get a.functions e.function ≡ Some function
  same_key : x.key ≡ e.key
  signature : signature_of function ≡ x.signature

entry_is : (a : Module) (e : text.Exported) (x : Entry) → entry_at a e ≡ Some x → IsEntry a e x
entry_is a e x h = by (slice_get a.functions e.function) refl h
  where
    by : (o : Option Function) → slice_get a.functions e.function ≡ o → option_map (λ f. record { key = e.key; signature = signature_of f }) o ≡ Some x → IsEntry a e x
    by None is h = cc h
    by (Some f) is h =
        let same : record { key = e.key; signature = signature_of f } ≡ x = some_same h in
        record { function = f; is_there = is; same_key = ap (λ (x : Entry). x.key) (sym same); signature = ap (λ (x : Entry). x.signature) same }
      where
        some_same : {x y : Entry} → ◌≡◌ {A = Option Entry} (Some x) (Some y) → x ≡ y
        some_same h = cc h

record IsNumbered (a : Module) (es : List text.Exported) (key : List ℕ) (s : Signature) : Type 0 where
  function : Function
  is_this : option_and_then (λ i. slice_get a.functions i) (export_number es key) ≡ Some function
  signature : signature_of function ≡ s

given_found : (a : Module) (es : List text.Exported) (xs : List Entry) (key : List ℕ) (x : Entry) → map (entry_at a) es ≡ map Some xs → entry_named xs key ≡ Some x → IsNumbered a es key x.signature
given_found a [] [] key x same h = cc h
given_found a [] (y ∷ xs) key x same h = cc same
given_found a (e ∷ es) [] key x same h = cc
given_found a (e ∷ es) (y ∷ ys) key x same h =
    let first : entry_at a e ≡ Some y = cc same in
    let others : map (entry_at a) es ≡ map Some ys = cc same in
    by (entry_is a e y first) (given_found a es ys key x others) (bytes_eq y.key key) refl h
  where
    by : IsEntry a e y → (entry_named ys key ≡ Some x → IsNumbered a es key x.signature) → (b : Bool) → bytes_eq y.key key ≡ b → (if b then Some y else entry_named ys key) ≡ Some x
        → IsNumbered a (e ∷ es) key x.signature
    by i more true t h =
        let same : y ≡ x = cc h in
        let here : bytes_eq e.key key ≡ true = ap (λ k. bytes_eq k key) (sym i.same_key) ∙ t in
        record {
          function = i.function;
          is_this = ap (λ b. option_and_then (λ i. slice_get a.functions i) (if b then Some e.function else export_number es key)) here ∙ i.is_there;
          signature = i.signature ∙ ap (λ (x : Entry). x.signature) same;
        }
    by i more false t h =
        let there : bytes_eq e.key key ≡ false = ap (λ k. bytes_eq k key) (sym i.same_key) ∙ t in
        let m = more h in
        record {
          function = m.function;
          is_this = ap (λ b. option_and_then (λ i. slice_get a.functions i) (if b then Some e.function else export_number es key)) there ∙ m.is_this;
          signature = m.signature;
        }

pub exported_as_asked : (w : WasmModule) (a : Module) (key : List ℕ) (x : Entry) → IsCalledAs w a → entry_named (entries_asked w) key ≡ Some x → IsExported a key x.signature
exported_as_asked w a key x called h =
    let f = given_found a (exported_from a a.exports) (entries_asked w) key x called.exported h in
    record { function = f.function; is_this = f.is_this; signature = f.signature }

-- ---- names are bytes, so that different ones stay different

HaveBytes : List Callable → Type 0
HaveBytes fs = AllByRecursion (λ (f : Callable). IsBytes f.key) fs

typed_bytes : (key : List ℕ) (o : Option FunctionType) (rest : List Callable) → IsBytes key → HaveBytes rest → HaveBytes (typed_as key o ++ rest)
unfolding HaveBytes
typed_bytes key None rest h all = all
typed_bytes key (Some t) rest h all = (h, all)

kind_bytes : (w : WasmModule) (key : List ℕ) (k : ExportKind) (rest : List Callable) → IsBytes key → HaveBytes rest → HaveBytes (exported_kind w key k ++ rest)
kind_bytes w key (exports.Func f) rest h all = typed_bytes key (type_of_function w f) rest h all
kind_bytes w key (exports.Table t) rest h all = all
kind_bytes w key (exports.Memory t) rest h all = all
kind_bytes w key (exports.Global t) rest h all = all

all_bytes : (w : WasmModule) (es : List Exported) → AllByRecursion (λ (e : Exported). IsBytes e.name) es → HaveBytes (flat_map (λ (e : Exported). exported_kind w e.name e.kind) es)
unfolding HaveBytes
all_bytes w [] all = tt
all_bytes w (e ∷ es) all = kind_bytes w e.name e.kind (flat_map (λ (e : Exported). exported_kind w e.name e.kind) es) all.0 (all_bytes w es all.1)

named_bytes : (fs : List Callable) (name : List ℕ) (f : Callable) → HaveBytes fs → callable_named fs name ≡ Some f → IsBytes f.key
unfolding HaveBytes
named_bytes [] name f all h = cc h
named_bytes (g ∷ fs) name f all h = by (named_bytes fs name f all.1) (bytes_eq g.key name) h
  where
    by : (callable_named fs name ≡ Some f → IsBytes f.key) → (b : Bool) → (if b then Some g else callable_named fs name) ≡ Some f → IsBytes f.key
    by more true h = let e : g ≡ f = cc h in subst (λ (f : Callable). IsBytes f.key) e all.0
    by more false h = more h

entry_found : (fs : List Callable) (name : List ℕ) (f : Callable) → HaveBytes fs → IsBytes name → callable_named fs name ≡ Some f → entry_named (map entry_of fs) (export_name name) ≡ Some (entry_of f)
unfolding HaveBytes
entry_found [] name f all bytes h = cc h
entry_found (g ∷ fs) name f all bytes h = by (entry_found fs name f all.1 bytes) (bytes_eq g.key name) refl h
  where
    by : (callable_named fs name ≡ Some f → entry_named (map entry_of fs) (export_name name) ≡ Some (entry_of f)) → (b : Bool) → bytes_eq g.key name ≡ b → (if b then Some g else callable_named fs name) ≡ Some f
        → (if bytes_eq (export_name g.key) (export_name name) then Some (entry_of g) else entry_named (map entry_of fs) (export_name name)) ≡ Some (entry_of f)
    by more true t h =
        let e : g ≡ f = cc h in
        let same : bytes_eq (export_name g.key) (export_name name) ≡ true = ap (λ k. bytes_eq (export_name k) (export_name name)) (same_bytes g.key name t) ∙ itself (export_name name) in
        ap (λ b. if b then Some (entry_of g) else entry_named (map entry_of fs) (export_name name)) same ∙ ap (λ f. Some (entry_of f)) e
    by more false t h =
        let other : bytes_eq (export_name g.key) (export_name name) ≡ false =
        other_bytes (export_name g.key) (export_name name) (λ same. apart (ap (λ k. bytes_eq k name) (different_exports_have_different_names g.key name all.0 bytes same) ∙ itself name) t) in
        ap (λ b. if b then Some (entry_of g) else entry_named (map entry_of fs) (export_name name)) other ∙ more h
      where
        apart : {b : Bool} → b ≡ true → b ≡ false → ⊥
        apart p q = cc (p, q)

pub asked_found : (w : WasmModule) (name : List ℕ) (t : FunctionType) → ExportsAreBytes w → machine.type_at w (function_named w.exports name) ≡ Some t
    → entry_named (entries_asked w) (export_name name) ≡ Some (entry_of (callable name t))
asked_found w name t all is =
    let found = callable_found w name t is in
    let bytes = all_bytes w w.exports all in
    let rest = entry_found (callables w) name (callable name t) bytes (named_bytes (callables w) name (callable name t) bytes found) found in
    let key = export_name name in
    let no_init = other_bytes (codes "$init") key (λ same. fixed_names_are_kept.init name (sym same)) in
    let no_hi = other_bytes (codes "$hi") key (λ same. fixed_names_are_kept.hi name (sym same)) in
    ap (λ b. if b then Some (entry (codes "$init") 0 false) else (if bytes_eq (codes "$hi") key then Some (entry (codes "$hi") 0 true) else entry_named (map entry_of (callables w)) key)) no_init
    ∙ ap (λ b. if b then Some (entry (codes "$hi") 0 true) else entry_named (map entry_of (callables w)) key) no_hi
    ∙ rest

-- ---- arguments

-- a number of 32 bits
in_words : (n : ℕ) → n < 2 ^ 32 → source.in_range (pos n) ≡ true
in_words n h = let e = less n h in rw e refl
  where
    less : (n : ℕ) → n < 2 ^ 32 → nat_lt n (2 ^ 32) ≡ true
    less n h = grind (arith, nat_tests)

word64 : (z : ℤ) → to_word64 z < 2 ^ 64
word64 (pos n) = omega arith
word64 (negsuc n) = omega arith

low_in : (z : ℤ) → source.in_range (pos (low_word (to_word64 z))) ≡ true
low_in z = in_words (low_word (to_word64 z)) (omega arith)

high_in : (z : ℤ) → source.in_range (pos (high_word (to_word64 z))) ≡ true
high_in z = let h = word64 z in in_words (high_word (to_word64 z)) (half (to_word64 z) h)
  where
    half : (n : ℕ) → n < 2 ^ 64 → n / 2 ^ 32 < 2 ^ 32
    half n h = omega (arith, h)

abbrev split_for : List ValType → List ℤ → List ℤ
split_for ts zs = split_args (map is_wide ts) zs

pub many_words : (ts : List ValType) (zs : List ℤ) → machine.takes_arguments ts zs ≡ true → length (split_for ts zs) ≡ words ts
many_words [] [] h = refl
many_words [] (z ∷ zs) h = cc h
many_words (t ∷ ts) [] h = cc h
many_words (I32 ∷ ts) (z ∷ zs) h = let p = and_parts _ _ h in let m = many_words ts zs p.1 in one (length (split_for ts zs)) (words ts) m
  where
    one : (a b : ℕ) → a ≡ b → suc a ≡ 1 + b
    one a b e = omega (arith, e)
many_words (I64 ∷ ts) (z ∷ zs) h = let p = and_parts _ _ h in let m = many_words ts zs p.1 in two (length (split_for ts zs)) (words ts) m
  where
    two : (a b : ℕ) → a ≡ b → suc (suc a) ≡ 2 + b
    two a b e = omega (arith, e)

pub words_in_range : (ts : List ValType) (zs : List ℤ) → machine.takes_arguments ts zs ≡ true → list_all source.in_range (split_for ts zs) ≡ true
words_in_range [] [] h = refl
words_in_range [] (z ∷ zs) h = cc h
words_in_range (t ∷ ts) [] h = cc
words_in_range (I32 ∷ ts) (z ∷ zs) h = let p = and_parts _ _ h in and_from (source.in_range z) (list_all source.in_range (split_for ts zs)) p.0 (words_in_range ts zs p.1)
words_in_range (I64 ∷ ts) (z ∷ zs) h =
    let p = and_parts _ _ h in
    and_from (source.in_range (pos (low_word (to_word64 z)))) (source.in_range (pos (high_word (to_word64 z))) && list_all source.in_range (split_for ts zs)) (low_in z)
    (and_from (source.in_range (pos (high_word (to_word64 z)))) (list_all source.in_range (split_for ts zs)) (high_in z) (words_in_range ts zs p.1))
