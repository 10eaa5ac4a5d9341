-- Calls of the translated module find what the text calls.
use Rattle.std.proofs.Common.{◌≡◌, ℕ, zero, suc, ◌+◌, ◌≤◌, Bool, true, false, List, [], ◌∷◌, length, Option, Some, None, refl, sym, ap, ◌∙◌, subst, arith}
use Rattle.std.specs.Prelude.{slice_get, option_map, if◌then◌else◌, ◌||◌}
use Rattle.std.proofs.lemmas.Bool.{and_parts, and_from}
use Rattle.std.proofs.lemmas.Option.{slice_get-map}
use Rattle.wasm_lang.specs.declared.types.ValType.{ValType}
use Rattle.wasm_lang.specs.declared.types.ValType.TheVariants.{I32, I64}
use Rattle.wasm_lang.specs.Modules.{FunctionType}
use Rattle.wasm_lang_valid.specs.Typing as machine
use Rattle.wasm_lang_exec.specs.Reductions.{Callee, type_of, callee_at, same_types, same_type, of_type}
use Rattle.wasm_laws_trees.specs.Laws.{IsReadAgain}
use Rattle.asm_lang.specs.Modules.{Function, Table, Module}
use Rattle.asm_lang_valid.specs.Scope as text
use Rattle.asm_lang_valid.specs.Scope.{a_table, Signature, signature_of, function_signature, first_member, module_meaning}
use Rattle.asm_lang_valid.specs.Typed.{same_signature, all_alike, alike, is_power_of_two}
use Rattle.asm_lang_valid.specs.LimitRows.{ForeignCall, is_same, is_among, foreign_calls}
use Rattle.asm_lang_valid.specs.Refusal.{function_number}
use Rattle.asm_laws_sound.proofs.Members.{Good, Typed, accepted_is_typed, good_in_module}
use Rattle.asm2wasm_lang.specs.Tables.{bases_from, bases_of, entries_of}
use Rattle.asm2wasm_translation.specs.Numbers.{base_of, type_number, member_type, table_type}
use Rattle.asm2wasm_translation.specs.Modules.{type_for, translation}
use Rattle.asm2wasm_laws_within.specs.Within.{members}
use Rattle.asm2wasm_laws_within.proofs.Within.{accepted_are_within}
use Rattle.asm2wasm_laws_preservation.specs.Made.{is_listed, number_of}
use Rattle.asm2wasm_laws_acceptance.specs.Laws.{table_entries, CallsAreMade}
use Rattle.asm2wasm_laws_acceptance.proofs.Types.{signatures_equal, function_known, type_at}
use Rattle.asm2wasm_laws_acceptance.proofs.Names.{function_stands, table_stands}
use Rattle.asm2wasm_laws_acceptance.proofs.Callees.{functions_are_called, imports_are_called}

-- ---- types

same_itself : (t : ValType) → machine.same t t ≡ true
same_itself I32 = refl
same_itself I64 = refl

list_itself : (ts : List ValType) → same_types ts ts ≡ true
list_itself [] = refl
list_itself (t ∷ ts) = and_from (machine.same t t) (same_types ts ts) (same_itself t) (list_itself ts)

type_itself : (t : FunctionType) → same_type t t ≡ true
type_itself t = and_from (same_types t.params t.params) (same_types t.results t.results) (list_itself t.params) (list_itself t.results)

has_type : (o : Option FunctionType) (c : Option Callee) (t : FunctionType) (callee : Callee) → o ≡ Some t → c ≡ Some callee → type_of callee ≡ t → of_type o c ≡ true
has_type o c t callee e h is = rw (e, h, is) (type_itself t)

-- ---- foreign calls

among : (f : ForeignCall) (fs : List ForeignCall) → is_listed f fs ≡ true → is_among f fs ≡ true
among f [] h = h
among f (g ∷ gs) h = by (is_same f g) (among f gs) h
  where
    by : (b : Bool) → (is_listed f gs ≡ true → is_among f gs ≡ true) → (if b then true else is_listed f gs) ≡ true → (b || is_among f gs) ≡ true
    by true rest h = refl
    by false rest h = rest h

-- ---- tables

ends_within : (ts : List Table) (at place base : ℕ) (t : Table) → slice_get ts place ≡ Some t → slice_get (bases_from at ts) place ≡ Some base → base + length t.members ≤ at + members ts
ends_within [] at place base t is h = absurd (cc is)
ends_within (u ∷ ts) at zero base t is h =
    let same : u ≡ t = cc is in
    let start : at ≡ base = cc h in
    let many : length u.members ≡ length t.members = ap (λ (t : Table). length t.members) same in
    omega (arith, start, many)
ends_within (u ∷ ts) at (suc place) base t is h = let rest = ends_within ts (at + length u.members) place base t is h in omega (arith, rest)

-- the entry of a table's member stands its number after the table's base
abbrev pub EntriesStand : Type 0
EntriesStand =
    (m : Module) (n i base : ℕ) (t : Table) (name : List ℕ) → slice_get m.tables n ≡ Some t → slice_get (bases_of m) n ≡ Some base → slice_get t.members i ≡ Some name
    → slice_get (entries_of m) (base + i) ≡ Some (function_number m.functions name)

module _ (m : Module) where
  member_alike : (ns : List (List ℕ)) (s : Option Signature) (j : ℕ) (n : List ℕ) → all_alike m s ns ≡ true → slice_get ns j ≡ Some n → same_signature s (function_signature (module_meaning m n)) ≡ true
  member_alike [] s j n a h = absurd (cc h)
  member_alike (k ∷ ns) s zero n a h =
      let same : k ≡ n = cc h in
      subst (λ n. same_signature s (function_signature (module_meaning m n)) ≡ true) same (and_parts (same_signature s (function_signature (module_meaning m k))) (all_alike m s ns) a).0
  member_alike (k ∷ ns) s (suc j) n a h = member_alike ns s j n (and_parts (same_signature s (function_signature (module_meaning m k))) (all_alike m s ns) a).1 h

  first_alike : (ns : List (List ℕ)) → alike m ns ≡ true → all_alike m (first_member m ns) ns ≡ true
  first_alike [] h = refl
  first_alike (n ∷ ns) h = h

  is_signature_of : (o : Option Signature) (s : Signature) → same_signature o (Some s) ≡ true → o ≡ Some s
  is_signature_of None s h = absurd (cc h)
  is_signature_of (Some t) s h = ap Some (signatures_equal t s h)

  member_type_is : Typed m → (n : List ℕ) (t : Table) (j : ℕ) (name : List ℕ) (g : Function) → module_meaning m n ≡ a_table t → slice_get t.members j ≡ Some name → module_meaning m name ≡ text.a_function g
      → table_type m t ≡ type_number m (signature_of g)
  member_type_is ok n t j name g e h is =
      let typed = subst (Good m) e (good_in_module m ok n) in
      let all = first_alike t.members (and_parts (is_power_of_two (length t.members)) (alike m t.members) typed.0).1 in
      let alike = member_alike t.members (first_member m t.members) j name all h in
      ap (member_type m) (is_signature_of (first_member m t.members) (signature_of g) (subst (λ x. same_signature (first_member m t.members) (function_signature x) ≡ true) is alike))

  entry_at : EntriesStand → (n : List ℕ) (t : Table) (j : ℕ) (name : List ℕ) → module_meaning m n ≡ a_table t → slice_get t.members j ≡ Some name → slice_get (table_entries m) (base_of m n + j) ≡ Some (Some (number_of m name))
  entry_at entries_stand n t j name e h =
      let there = table_stands m n t e in
      let number : ℕ → Option ℕ = λ i. Some (length (foreign_calls m) + i) in
      slice_get-map number (entries_of m) (base_of m n + j) ∙ ap (option_map number) (entries_stand m there.place j (base_of m n) t name there.is_table there.is_base h)

pub calls_are_made : IsReadAgain → EntriesStand → CallsAreMade
calls_are_made is_read_again entries_stand m size x ok filled =
    let w = translation m size in
    record {
      imports = λ f h. imports_are_called m size f (among f (foreign_calls m) h);
      places = λ n t e.
          let there = table_stands m n t e in
          let within = ends_within m.tables 0 there.place (base_of m n) t there.is_table there.is_base in
          let few = (accepted_are_within m ok).entries in
          omega (arith, within, few);
      entries = λ n t j name g e h is. subst (λ es. slice_get es (base_of m n + j) ≡ Some (Some (number_of m name))) (sym filled) (entry_at m entries_stand n t j name e h);
      types = λ n t j name g e h is.
          let stands = function_stands m name g is in
          let i = function_number m.functions name in
          has_type (slice_get w.types (table_type m t)) (callee_at w (number_of m name)) (type_for (signature_of g)) _
          (ap (λ k. slice_get w.types k) (member_type_is m (accepted_is_typed m ok) n t j name g e h is) ∙ type_at m (signature_of g) (function_known m i g stands)) (functions_are_called is_read_again m size i g stands) refl;
    }
