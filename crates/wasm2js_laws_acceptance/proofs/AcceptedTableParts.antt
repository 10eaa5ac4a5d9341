-- The tables of a translated module are typed, and can be printed.
use Rattle.std.proofs.Common.{◌≡◌, ℕ, zero, suc, ◌*◌, ◌<◌, Bool, true, false, cond, ◌&&◌, List, [], ◌∷◌, length, map, Option, Some, refl, sym, ap, ◌∙◌, subst, arith}
use Rattle.std.specs.Prelude.{slice_get, nat_le, ◌==◌}
use Rattle.std.specs.List.{AllByRecursion}
use Rattle.std.proofs.lemmas.Bool.{and_parts, and_from}
use Rattle.wasm_lang.specs.Modules.{WasmModule}
use Rattle.wasm_lang.specs.Shape.{IsShaped}
use Rattle.wasm_lang_valid.specs.Profile.{doubled, table_length, IsInProfile}
use Rattle.asm_lang.specs.Modules.{Table, Module}
use Rattle.asm_laws_print.specs.Fitting.{AreNames, some_names, FitsTable}
use Rattle.asm_lang_valid.specs.Scope.{Signature, module_meaning, function_signature}
use Rattle.asm_lang_valid.specs.Typing.{same}
use Rattle.asm_lang_valid.specs.Typed.{is_power_of_two, same_signature, all_alike, alike, table_typed, tables_typed}
use Rattle.wasm2js_translation.specs.Names.{numbered, table, spelled}
use Rattle.wasm2js_laws_terms.proofs.FineExprs.{is_identifier}
use Rattle.wasm2js_laws_terms.proofs.FineActions.{equal_self, same_self}
use Rattle.wasm2js_translation.specs.Modules.{translated}
use Rattle.wasm2js_translation.specs.Tables.{Cell, MaskedTable, masked, cell_count, cell_name, stub_of, table_for, tables_for}
use Rattle.wasm2js_laws_acceptance.proofs.ProvidedSizes.{some_cells}
use Rattle.wasm2js_laws_acceptance.proofs.ProvidedTables.{members_are_alike}

-- ---- powers of two

abbrev all_powers : (turns power : ℕ) → Bool
all_powers zero power = is_power_of_two power
all_powers (suc turns) power = is_power_of_two power && all_powers turns (power * 2)

stays_power : (turns power n : ℕ) → all_powers turns power ≡ true → is_power_of_two (doubled turns power n) ≡ true
stays_power zero power n h = h
stays_power (suc turns) power n h =
    let p = and_parts (is_power_of_two power) (all_powers turns (power * 2)) h in
    by (nat_le n power) p.0 (stays_power turns (power * 2) n p.1)
  where
    by : (b : Bool) → is_power_of_two power ≡ true → is_power_of_two (doubled turns (power * 2) n) ≡ true → is_power_of_two (cond b power (doubled turns (power * 2) n)) ≡ true
    by true h k = h
    by false h k = k

cells_are_power : (w : WasmModule) → is_power_of_two (cell_count w) ≡ true
cells_are_power w = stays_power 32 1 (table_length w) refl

-- ---- members of one signature

same_as_self : (s : Signature) → same_signature (Some s) (Some s) ≡ true
same_as_self s = and_from (s.params == s.params) (same s.result s.result) (equal_self s.params) (same_self s.result)

module _ (m : Module) (form : Signature) where
  abbrev HaveForm : List (List ℕ) → Type 0
  HaveForm ns = AllByRecursion (λ n. function_signature (module_meaning m n) ≡ Some form) ns

  like_first : (o : Option Signature) (ns : List (List ℕ)) → o ≡ Some form → HaveForm ns → all_alike m o ns ≡ true
  like_first o [] e h = refl
  like_first o (n ∷ ns) e h =
      and_from (same_signature o (function_signature (module_meaning m n))) (all_alike m o ns)
      (ap (λ o. same_signature o (function_signature (module_meaning m n))) e ∙ ap (same_signature (Some form)) h.0 ∙ same_as_self form) (like_first o ns e h.1)

  are_alike : (ns : List (List ℕ)) → HaveForm ns → alike m ns ≡ true
  are_alike [] h = refl
  are_alike (n ∷ ns) h = like_first (function_signature (module_meaning m n)) (n ∷ ns) h.0 h

all_from_places : {A : Type 0} → (P : A → Type 0) (xs : List A) → ((i : ℕ) (x : A) → slice_get xs i ≡ Some x → P x) → AllByRecursion P xs
all_from_places P [] h = tt
all_from_places P (x ∷ xs) h = (h 0 x refl, all_from_places P xs (λ i y e. h (suc i) y e))

module _ (w : WasmModule) (profile : IsInProfile w) (shaped : IsShaped w) where
  one_typed : (i : ℕ) (t : Table) → slice_get (tables_for w) i ≡ Some t → table_typed (translated w) t ≡ true
  one_typed i t e =
      let it = members_are_alike w profile shaped i t e in
      and_from (is_power_of_two (length t.members)) (alike (translated w) t.members) (subst (λ n. is_power_of_two n ≡ true) (sym it.0) (cells_are_power w)) (are_alike (translated w) it.1.0 t.members it.1.1)

  typed_all : (ts : List Table) → AllByRecursion (λ t. table_typed (translated w) t ≡ true) ts → tables_typed (translated w) ts ≡ true
  typed_all [] h = refl
  typed_all (t ∷ ts) h = and_from (table_typed (translated w) t) (tables_typed (translated w) ts) h.0 (typed_all ts h.1)

  pub all_tables_typed : tables_typed (translated w) (tables_for w) ≡ true
  all_tables_typed = typed_all (tables_for w) (all_from_places (λ t. table_typed (translated w) t ≡ true) (tables_for w) one_typed)

  -- ---- printed

  some_members : (ns : List (List ℕ)) → 0 < length ns → some_names ns ≡ true
  some_members [] h = absurd (omega (arith, h))
  some_members (n ∷ ns) h = refl

  one_some : (i : ℕ) (t : Table) → slice_get (tables_for w) i ≡ Some t → some_names t.members ≡ true
  one_some i t e = some_members t.members (subst (λ n. 0 < n) (sym (members_are_alike w profile shaped i t e).0) (some_cells w))

  cells_named : (stub : ℕ) (cells : List Cell) → AreNames (map (λ x. spelled (cell_name stub x)) cells)
  cells_named stub [] = tt
  cells_named stub (x ∷ cells) = (is_identifier (cell_name stub x), cells_named stub cells)

  printed_all : (ms : List MaskedTable) → AllByRecursion (λ (t : Table). some_names t.members ≡ true) (map (table_for w) ms) → AllByRecursion FitsTable (map (table_for w) ms)
  printed_all [] h = tt
  printed_all (m ∷ ms) h = ((is_identifier (numbered table m.function_type), h.0, cells_named (stub_of w m) m.cells), printed_all ms h.1)

  pub all_tables_printed : AllByRecursion FitsTable (tables_for w)
  all_tables_printed = printed_all (masked w) (all_from_places (λ (t : Table). some_names t.members ≡ true) (tables_for w) one_some)
