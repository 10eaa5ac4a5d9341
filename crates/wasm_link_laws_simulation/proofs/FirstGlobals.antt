-- The globals of the linked module as a session begins: those of the pair in their new order.
use Rattle.std.proofs.Common.{◌≡◌, ℕ, suc, ◌+◌, ◌<◌, List, [], ◌∷◌, ◌++◌, length, map, Option, Some, None, true, refl, sym, ap, ◌∙◌, arith, length-append}
use Rattle.std.specs.Prelude.{slice_get}
use Rattle.std.proofs.lemmas.List.{append_assoc, map-append, length-map}
use Rattle.std.proofs.lemmas.Option.{slice_get_within}
use Rattle.sem_words.specs.declared.word.Word.{Word}
use Rattle.session_lang.specs.Script.{ScriptPlain}
use Rattle.wasm_lang.specs.declared.types.ValType.{ValType}
use Rattle.wasm_lang.specs.declared.types.GlobalType.{GlobalType}
use Rattle.wasm_lang.specs.declared.types.ImportKind.{ImportKind}
use Rattle.wasm_lang.specs.declared.types.ImportKind.TheVariants as imports
use Rattle.wasm_lang.specs.Instructions.{Instruction, plain, const32, const64, global_get}
use Rattle.wasm_lang.specs.Modules.{Imported, GlobalEntry, WasmModule}
use Rattle.wasm_lang_valid.specs.declared.rule.Rule.TheVariants.{NoGlobal, Initializer}
use Rattle.wasm_lang_valid.specs.ModuleRules as rules
use Rattle.wasm_lang_valid.specs.ModuleRules.{meets, global_types, is_global, is_constant, is_end, value_rule, init_rule}
use Rattle.wasm_lang_exec.specs.Fits.{GlobalImport, global_imports}
use Rattle.wasm_lang_exec.specs.Session.{given_value, imported_globals, some_or_zero, value_of, first_globals}
use Rattle.wasm_laws_sound.specs.Laws.{IsWhole}
use Rattle.wasm_link_lang.specs.Pairs.{Pair, past_first}
use Rattle.wasm_link_code.specs.Numbers.{global_number}
use Rattle.wasm_link_code.specs.Linked.{moved_value, moved_global, linked_globals, linked}
use Rattle.wasm_link_laws_modules.proofs.Places.{get_past, get_within}
use Rattle.wasm_link_laws_modules.proofs.Facts.{Every, every_less, meets_test, meets_rest, globals_kept}
use Rattle.wasm_link_laws_modules.proofs.Numbered.{first_imported_global, second_imported_global}
use Rattle.wasm_link_laws_modules.proofs.Scripts.{globals_are}
use Rattle.wasm_link_laws_modules.proofs.Sections.{linked_globals_are}
use Rattle.wasm_link_laws_sessions.specs.Alike.{KeepsGlobals}
use Rattle.wasm_link_laws_sessions.specs.Globals.{turned, in_order, global_count}
use Rattle.wasm_link_laws_sessions.proofs.Globals.{turned_blocks}

-- ---- first values

second_is_end : (m : WasmModule) (t : ValType) (i j : Instruction) → init_rule m t (i ∷ j ∷ []) ≡ None → value_rule m t i ≡ None
second_is_end m t i j e = meets_rest (is_end j) Initializer (value_rule m t i) e

constant_there : (t : ValType) (o : Option GlobalType) → is_constant t o ≡ true → (g : GlobalType) × (o ≡ Some g)
constant_there t None e = absurd (cc e)
constant_there t (Some g) e = (g, refl)

-- ---- imported globals

abbrev given : ScriptPlain → GlobalImport → Word
given s g = given_value s.globals g.name g.type

imported_are : (s : ScriptPlain) (is : List Imported) → imported_globals s is ≡ map (given s) (global_imports is)
imported_are s [] = refl
imported_are s (i ∷ is) = by i.module_name i.name i.kind (imported_are s is)
  where
    by : (n m : List ℕ) (kind : ImportKind) → imported_globals s is ≡ map (given s) (global_imports is)
        → let j : Imported = record { module_name = n; name = m; kind = kind } in imported_globals s (j ∷ is) ≡ map (given s) (global_imports (j ∷ is))
    by n m (imports.Func t) e = e
    by n m (imports.Table l) e = e
    by n m (imports.Memory l) e = e
    by n m (imports.Global g) e =
        let j : Imported = record { module_name = n; name = m; kind = imports.Global g } in
        ap (λ vs. imported_globals s (j ∷ []) ++ vs) e

many_imported : (s : ScriptPlain) (is : List Imported) → length (imported_globals s is) ≡ length (rules.imported_globals is)
many_imported s [] = refl
many_imported s (i ∷ is) = by i.module_name i.name i.kind (many_imported s is)
  where
    by : (n m : List ℕ) (kind : ImportKind) → length (imported_globals s is) ≡ length (rules.imported_globals is)
        → let j : Imported = record { module_name = n; name = m; kind = kind } in length (imported_globals s (j ∷ is)) ≡ length (rules.imported_globals (j ∷ is))
    by n m (imports.Func t) e = e
    by n m (imports.Table l) e = e
    by n m (imports.Memory l) e = e
    by n m (imports.Global g) e = ap suc e

-- ---- own globals

map_same : {A B : Type 0} → (f g : A → B) (xs : List A) → Every (λ x. f x ≡ g x) xs → map f xs ≡ map g xs
map_same f g [] e = refl
map_same f g (x ∷ xs) e = ap (λ y. y ∷ map f xs) (e 0 x refl) ∙ ap (λ ys. g x ∷ ys) (map_same f g xs (every_less (λ x. f x ≡ g x) x xs e))

map_twice : {A B C : Type 0} → (g : B → C) (f : A → B) (xs : List A) → map g (map f xs) ≡ map (λ x. g (f x)) xs
map_twice g f [] = refl
map_twice g f (x ∷ xs) = ap (λ ys. g (f x) ∷ ys) (map_twice g f xs)

-- the first value of a valid global, whose global is numbered so
value_stays : (m : WasmModule) (values all : List Word) (number : ℕ → ℕ)
    → ((x : ℕ) (g : GlobalType) → slice_get (rules.imported_globals m.imports) x ≡ Some g → slice_get all (number x) ≡ slice_get values x)
    → (t : ValType) (is : List Instruction) → init_rule m t is ≡ None → value_of all (moved_value number is) ≡ value_of values is
value_stays m values all number same t [] e = refl
value_stays m values all number same t (plain (const32 n) ∷ is) e = refl
value_stays m values all number same t (plain (const64 n) ∷ is) e = refl
value_stays m values all number same t (plain (global_get x) ∷ []) e = absurd (cc e)
value_stays m values all number same t (plain (global_get x) ∷ j ∷ k ∷ is) e = absurd (cc e)
value_stays m values all number same t (plain (global_get x) ∷ j ∷ []) e =
    let s = second_is_end m t (plain (global_get x)) j e in
    let r = meets_rest (is_global m x) NoGlobal (meets (is_constant t (slice_get (rules.imported_globals m.imports) x)) Initializer None) s in
    let c = meets_test (is_constant t (slice_get (rules.imported_globals m.imports) x)) Initializer None r in
    let g = constant_there t (slice_get (rules.imported_globals m.imports) x) c in ap some_or_zero (same x g.0 g.1)
value_stays m values all number same t (i ∷ is) e = refl

module _ (w : Pair) (keeps : KeepsGlobals w (global_count w) (in_order w)) (first : IsWhole w.first) (second : IsWhole w.second) (s : ScriptPlain) where
  abbrev p : WasmModule
  p = w.first

  abbrev q : WasmModule
  q = w.second

  abbrev ip : List Word
  ip = imported_globals s p.imports

  abbrev iq : List Word
  iq = imported_globals s q.imports

  abbrev op : List Word
  op = map (λ (g : GlobalEntry). value_of ip g.init) p.globals

  abbrev oq : List Word
  oq = map (λ (g : GlobalEntry). value_of iq g.init) q.globals

  many_op : length op ≡ length p.globals
  many_op = length-map p.globals (λ (g : GlobalEntry). value_of ip g.init)

  many_oq : length oq ≡ length q.globals
  many_oq = length-map q.globals (λ (g : GlobalEntry). value_of iq g.init)

  in_first : length (ip ++ op) ≡ length (global_types p)
  in_first =
      let a = length-append ip op in
      let b = many_imported s p.imports in
      let c = length-append (rules.imported_globals p.imports) (map (λ (g : GlobalEntry). g.kind) p.globals) in
      let d = length-map p.globals (λ (g : GlobalEntry). g.kind) in omega (arith, a, b, c, d, many_op)

  in_second : length (iq ++ oq) ≡ length (global_types q)
  in_second =
      let a = length-append iq oq in
      let b = many_imported s q.imports in
      let c = length-append (rules.imported_globals q.imports) (map (λ (g : GlobalEntry). g.kind) q.globals) in
      let d = length-map q.globals (λ (g : GlobalEntry). g.kind) in omega (arith, a, b, c, d, many_oq)

  pub many_globals : length (first_globals p s ++ first_globals q s) ≡ global_count w
  many_globals = let a = length-append (ip ++ op) (iq ++ oq) in omega (arith, a, in_first, in_second)

  abbrev globals : List Word
  globals = (ip ++ op) ++ (iq ++ oq)

  abbrev three : ℕ → ℕ → ℕ → List Word
  three a b c = turned a b c (ip ++ (op ++ (iq ++ oq)))

  ordered : in_order w globals ≡ (ip ++ iq) ++ (op ++ oq)
  ordered =
      ap (in_order w) (append_assoc ip op (iq ++ oq))
      ∙ sym (ap (λ a. three a (length op) (length iq)) (many_imported s p.imports) ∙ ap (λ b. three (length (rules.imported_globals p.imports)) b (length iq)) many_op
      ∙ ap (three (length (rules.imported_globals p.imports)) (length p.globals)) (many_imported s q.imports))
      ∙ turned_blocks ip op iq oq

  many_given : length (ip ++ iq) ≡ length (rules.imported_globals p.imports ++ rules.imported_globals q.imports)
  many_given =
      let a = length-append ip iq in
      let b = length-append (rules.imported_globals p.imports) (rules.imported_globals q.imports) in
      let c = many_imported s p.imports in
      let d = many_imported s q.imports in omega (arith, a, b, c, d)

  -- an imported global is found among both modules'
  given_at : (x : ℕ) (t : GlobalType) → x < length globals → slice_get (rules.imported_globals p.imports ++ rules.imported_globals q.imports) (global_number w x) ≡ Some t
      → slice_get (ip ++ iq) (global_number w x) ≡ slice_get globals x
  given_at x t inside e =
      let within = slice_get_within (rules.imported_globals p.imports ++ rules.imported_globals q.imports) (global_number w x) t e in
      sym (get_within (ip ++ iq) (op ++ oq) (global_number w x) (omega (arith, within, many_given)))
      ∙ ap (λ gs. slice_get gs (global_number w x)) (sym ordered) ∙ keeps.get globals x many_globals (omega (arith, inside, many_globals))

  first_given : (x : ℕ) (t : GlobalType) → slice_get (rules.imported_globals p.imports) x ≡ Some t → slice_get (ip ++ iq) (global_number w x) ≡ slice_get ip x
  first_given x t e =
      let within = slice_get_within (rules.imported_globals p.imports) x t e in
      let a = many_imported s p.imports in
      let b = length-append (ip ++ op) (iq ++ oq) in
      let c = length-append ip op in
      given_at x t (omega (arith, within, a, b, c)) (first_imported_global w x t e)
      ∙ get_within (ip ++ op) (iq ++ oq) x (omega (arith, within, a, c)) ∙ get_within ip op x (omega (arith, within, a))

  second_given : (x : ℕ) (t : GlobalType) → slice_get (rules.imported_globals q.imports) x ≡ Some t → slice_get (ip ++ iq) (global_number w ((past_first w).globals + x)) ≡ slice_get iq x
  second_given x t e =
      let within = slice_get_within (rules.imported_globals q.imports) x t e in
      let a = many_imported s q.imports in
      let b = length-append (ip ++ op) (iq ++ oq) in
      let c = length-append iq oq in
      given_at ((past_first w).globals + x) t (omega (arith, within, a, b, c, in_first)) (second_imported_global w x t e)
      ∙ get_past (ip ++ op) (iq ++ oq) (length (global_types p)) x in_first ∙ get_within iq oq x (omega (arith, within, a))

  imported_both : imported_globals s (linked w).imports ≡ ip ++ iq
  imported_both =
      imported_are s (linked w).imports ∙ ap (map (given s)) (globals_are w) ∙ map-append (given s) (global_imports p.imports) (global_imports q.imports)
      ∙ ap (λ vs. vs ++ map (given s) (global_imports q.imports)) (sym (imported_are s p.imports)) ∙ ap (λ vs. ip ++ vs) (sym (imported_are s q.imports))

  abbrev past : ℕ → ℕ
  past x = global_number w ((past_first w).globals + x)

  abbrev value : GlobalEntry → Word
  value g = value_of (ip ++ iq) g.init

  own_both : map value (linked_globals w) ≡ op ++ oq
  own_both =
      map-append value (map (moved_global (global_number w)) p.globals) (map (moved_global past) q.globals)
      ∙ ap (λ vs. vs ++ map value (map (moved_global past) q.globals))
      (map_twice value (moved_global (global_number w)) p.globals
      ∙ map_same (λ g. value (moved_global (global_number w) g)) (λ (g : GlobalEntry). value_of ip g.init) p.globals
      (λ i g h. value_stays p ip (ip ++ iq) (global_number w) first_given g.kind.kind g.init (globals_kept p first.is_valid i g h)))
      ∙ ap (λ vs. op ++ vs)
      (map_twice value (moved_global past) q.globals
      ∙ map_same (λ g. value (moved_global past g)) (λ (g : GlobalEntry). value_of iq g.init) q.globals
      (λ i g h. value_stays q iq (ip ++ iq) past second_given g.kind.kind g.init (globals_kept q second.is_valid i g h)))

  pub globals_begin : first_globals (linked w) s ≡ in_order w (first_globals p s ++ first_globals q s)
  globals_begin =
      ap (λ vs. vs ++ map (λ (g : GlobalEntry). value_of vs g.init) (linked w).globals) imported_both
      ∙ ap (λ gs. (ip ++ iq) ++ map value gs) (linked_globals_are w)
      ∙ ap (λ vs. (ip ++ iq) ++ vs) own_both
      ∙ sym ordered
