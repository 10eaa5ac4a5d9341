-- What the rows of names say of the tables and exports of an accepted module, and what is imported of its variables.
use Rattle.std.proofs.Common.{◌≡◌, ℕ, suc, ◌+◌, ◌<◌, Bool, true, false, not, List, [], ◌∷◌, ◌++◌, length, map, Some, refl, ap, arith}
use Rattle.std.specs.Prelude.{option_map, if◌then◌else◌, ◌||◌, bytes_eq}
use Rattle.std.specs.List.{AllByRecursion}
use Rattle.std.proofs.lemmas.Bool.{and_parts}
use Rattle.std.proofs.lemmas.Option.{slice_get_within}
use Rattle.std.proofs.lemmas.Slice.Eq.{bytes_eq-Decides}
use Rattle.asm_lang.specs.Trees.{Init, foreign_int}
use Rattle.asm_lang.specs.Modules.{Variable, Table, Export, Exports, one, many, Module}
use Rattle.asm_lang_valid.specs.declared.rule.Rule.{Rule}
use Rattle.asm_lang_valid.specs.declared.rule.Rule.TheVariants.{UnknownName, WrongKind, NameTaken, ForbiddenName}
use Rattle.asm_lang_valid.specs.Scope.{Meaning, a_function, is_in, module_meaning}
use Rattle.asm_lang_valid.specs.Rows.{need, functions_at, tables_at, exports_at}
use Rattle.asm_lang_valid.specs.NameRows.{is_function, is_forbidden_key, any_forbidden, own_name, all_new, all_known, all_functions, function_uses, declares, declares_key, globals_names, functions_names, tables_names, keys_names, exports_names, global_texts, function_texts, name_rows}
use Rattle.asm_lang_valid.specs.TypeRows.{type_rows}
use Rattle.asm_lang_valid.specs.LimitRows.{limit_rows}
use Rattle.asm_lang_valid.specs.Refusal.{all_rows, IsAccepted, with_global, global_imports, foreign_globals, function_number}
use Rattle.asm_lang_valid.proofs.Agree.{first_none, none_both}
use Rattle.asm2wasm_lang.specs.Tables.{entries_from}
use Rattle.asm2wasm_translation.specs.Numbers.{slot_of}
use Rattle.asm2wasm_laws_acceptance.proofs.Names.{function_stands}

needed : (b : Bool) (r : Rule) (at : ℕ) → need b r at ≡ [] → b ≡ true
needed true r at h = refl
needed false r at h = absurd (cc h)

module _ (m : Module) where
  -- there is a function of this number
  abbrev pub IsNumber : ℕ → Type 0
  IsNumber k = k < length m.functions

  number_of_function : (n : List ℕ) (x : Meaning) → module_meaning m n ≡ x → is_function x ≡ true → IsNumber (function_number m.functions n)
  number_of_function n (a_function g) e h = slice_get_within m.functions (function_number m.functions n) g (function_stands m n g e)
  number_of_function n _ e h = absurd (cc h)

  numbers_of : (ns : List (List ℕ)) → all_functions m ns ≡ true → AllByRecursion (λ n. IsNumber (function_number m.functions n)) ns
  numbers_of [] h = tt
  numbers_of (n ∷ ns) h = let parts = and_parts (is_function (module_meaning m n)) (all_functions m ns) h in (number_of_function n (module_meaning m n) refl parts.0, numbers_of ns parts.1)

  used : (ns : List (List ℕ)) (at : ℕ) → function_uses m ns at ≡ [] → AllByRecursion (λ n. IsNumber (function_number m.functions n)) ns
  used ns at h = by (all_known m ns) h
    where
      by : (b : Bool) → (if b then need (all_functions m ns) WrongKind at else need false UnknownName at) ≡ [] → AllByRecursion (λ n. IsNumber (function_number m.functions n)) ns
      by true h = numbers_of ns (needed (all_functions m ns) WrongKind at h)
      by false h = absurd (cc h)

  -- ---- tables

  all_joined : (ns : List (List ℕ)) (ks : List ℕ) → AllByRecursion (λ n. IsNumber (function_number m.functions n)) ns → AllByRecursion IsNumber ks → AllByRecursion IsNumber (map (function_number m.functions) ns ++ ks)
  all_joined [] ks a b = b
  all_joined (n ∷ ns) ks a b = (a.0, all_joined ns ks a.1 b)

  entries_numbers : (ts : List Table) (before : List (List ℕ)) (at : ℕ) → tables_names m before ts at ≡ [] → AllByRecursion IsNumber (entries_from m ts)
  entries_numbers [] before at h = tt
  entries_numbers (t ∷ ts) before at h =
      let rest = tables_names m (before ++ t.name ∷ []) ts (at + 1) in
      let later = (none_both (declares before t.name at) (function_uses m t.members at ++ rest)).0 h in
      let both = (none_both (function_uses m t.members at) rest).0 later.1 in
      all_joined t.members (entries_from m ts) (used t.members at both.0) (entries_numbers ts (before ++ t.name ∷ []) (at + 1) both.1)

  -- ---- exports

  -- an export has a new key and is a function
  pub data AreNew : List (List ℕ) → List Export → Type 0 where
    none : {before : List (List ℕ)} → AreNew before []
    more : {before : List (List ℕ)} {e : Export} {es : List Export} → is_in e.key before ≡ false → IsNumber (function_number m.functions e.function) → AreNew (before ++ e.key ∷ []) es → AreNew before (e ∷ es)

  abbrev pub ExportsStand : Exports → Type 0
  ExportsStand (one f) = IsNumber (function_number m.functions f)
  ExportsStand (many es) = AreNew [] es

  not_true : (b : Bool) → not b ≡ true → b ≡ false
  not_true true h = absurd (cc h)
  not_true false h = refl

  keys_new : (before : List (List ℕ)) (es : List Export) (at : ℕ) → keys_names m before es at ≡ [] → AreNew before es
  keys_new before [] at h = none
  keys_new before (e ∷ es) at h =
      let rest = keys_names m (before ++ e.key ∷ []) es (at + 1) in
      let first = (none_both (declares_key before e.key at) (function_uses m (e.function ∷ []) at ++ rest)).0 h in
      let both = (none_both (function_uses m (e.function ∷ []) at) rest).0 first.1 in
      let key = (none_both (need (not (is_in e.key before)) NameTaken at) (need (not (is_forbidden_key e.key)) ForbiddenName at)).0 first.0 in
      more (not_true (is_in e.key before) (needed (not (is_in e.key before)) NameTaken at key.0)) (used (e.function ∷ []) at both.0).0 (keys_new (before ++ e.key ∷ []) es (at + 1) both.1)

  exports_stand : (x : Exports) (at : ℕ) → exports_names m x at ≡ [] → ExportsStand x
  exports_stand (one f) at h = (used (f ∷ []) at h).0
  exports_stand (many es) at h = keys_new [] es at h

  pub record Named : Type 0 where
    pub entries : AllByRecursion IsNumber (entries_from m m.tables)
    pub exports : ExportsStand m.exports

  pub accepted_is_named : IsAccepted m → Named
  accepted_is_named h =
      let names = ((none_both (name_rows m) (type_rows m ++ limit_rows m)).0 ((first_none (all_rows m)).0 h)).0 in
      let params = need (all_new [] m.params) NameTaken 0 in
      let forbidden = need (not (any_forbidden (own_name m.name ++ m.params))) ForbiddenName 0 in
      let globals = globals_names m m.params (record { values = []; functions = [] }) m.globals 1 in
      let functions = functions_names m (m.params ++ global_texts m) m.functions (functions_at m) in
      let before = m.params ++ (global_texts m ++ function_texts m) in
      let tables = tables_names m before m.tables (tables_at m) in
      let exports = exports_names m m.exports (exports_at m) in
      let a = (none_both params (forbidden ++ (globals ++ (functions ++ (tables ++ exports))))).0 names in
      let b = (none_both forbidden (globals ++ (functions ++ (tables ++ exports)))).0 a.1 in
      let c = (none_both globals (functions ++ (tables ++ exports))).0 b.1 in
      let d = (none_both functions (tables ++ exports)).0 c.1 in
      let e = (none_both tables exports).0 d.1 in
      record { entries = entries_numbers m.tables before (tables_at m) e.0; exports = exports_stand m.exports (exports_at m) e.1 }

-- ---- imported variables

module _ (all : List (List ℕ)) where
  abbrev pub IsImported : Init → Type 0
  IsImported (foreign_int f p) = is_in p all ≡ true
  IsImported _ = Unit {0}

either : (a b : Bool) → a ≡ true → (a || b) ≡ true
either true b h = refl
either false b h = absurd (cc h)

or_else : (a b : Bool) → b ≡ true → (a || b) ≡ true
or_else true b h = refl
or_else false b h = h

in_more : (n : List ℕ) (xs ys : List (List ℕ)) → is_in n xs ≡ true → is_in n (xs ++ ys) ≡ true
in_more n [] ys h = absurd (cc h)
in_more n (x ∷ xs) ys h = by (bytes_eq x n) (in_more n xs ys) h
  where
    by : (b : Bool) → (is_in n xs ≡ true → is_in n (xs ++ ys) ≡ true) → (b || is_in n xs) ≡ true → (b || is_in n (xs ++ ys)) ≡ true
    by true rest h = refl
    by false rest h = rest h

in_last : (n : List ℕ) (xs : List (List ℕ)) → is_in n (xs ++ n ∷ []) ≡ true
in_last n [] = either (bytes_eq n n) false ((bytes_eq-Decides n n).1 refl)
in_last n (x ∷ xs) = or_else (bytes_eq x n) (is_in n (xs ++ n ∷ [])) (in_last n xs)

still_in : (n : List ℕ) (seen : List (List ℕ)) (i : Init) → is_in n seen ≡ true → is_in n (with_global seen i) ≡ true
still_in n seen (foreign_int f p) h = by (is_in p seen)
  where
    by : (b : Bool) → is_in n (if b then seen else seen ++ p ∷ []) ≡ true
    by true = h
    by false = in_more n seen (p ∷ []) h
still_in n seen _ h = h

stays_in : (n : List ℕ) (seen : List (List ℕ)) (vs : List Variable) → is_in n seen ≡ true → is_in n (global_imports seen vs) ≡ true
stays_in n seen [] h = h
stays_in n seen (v ∷ vs) h = stays_in n (with_global seen v.init) vs (still_in n seen v.init h)

this_in : (seen : List (List ℕ)) (i : Init) (vs : List Variable) → IsImported (global_imports (with_global seen i) vs) i
this_in seen (foreign_int f p) vs = stays_in p (with_global seen (foreign_int f p)) vs (by (is_in p seen) refl)
  where
    by : (b : Bool) → is_in p seen ≡ b → is_in p (if b then seen else seen ++ p ∷ []) ≡ true
    by true e = e
    by false e = in_last p seen
this_in seen _ vs = tt

all_imported : (seen : List (List ℕ)) (vs : List Variable) → AllByRecursion (λ (v : Variable). IsImported (global_imports seen vs) v.init) vs
all_imported seen [] = tt
all_imported seen (v ∷ vs) = (this_in seen v.init vs, all_imported (with_global seen v.init) vs)

pub variables_imported : (m : Module) → AllByRecursion (λ (v : Variable). IsImported (foreign_globals m) v.init) m.globals
variables_imported m = all_imported [] m.globals

pub slot_in : (n : List ℕ) (xs : List (List ℕ)) → is_in n xs ≡ true → (i : ℕ) × (slot_of xs n ≡ Some i) × (i < length xs)
slot_in n [] h = absurd (cc h)
slot_in n (x ∷ xs) h = by (bytes_eq x n) (slot_in n xs) h
  where
    by : (b : Bool) → (is_in n xs ≡ true → (i : ℕ) × (slot_of xs n ≡ Some i) × (i < length xs)) → (b || is_in n xs) ≡ true → (i : ℕ) × ((if b then Some 0 else option_map (λ i. suc i) (slot_of xs n)) ≡ Some i) × (i < suc (length xs))
    by true rest h = (0, refl, omega arith)
    by false rest h = let (i, is, within) = rest h in (suc i, ap (option_map (λ i. suc i)) is, omega (arith, within))
