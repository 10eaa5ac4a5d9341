-- What the maps of a module find.
use Rattle.std.proofs.Common.{◌≡◌, ℕ, ◌<◌, ◌^◌, List, [], ◌∷◌, suc, map, length, Option, Some, refl, sym, ap, subst, ◌∙◌, arith}
use Rattle.std.proofs.lemmas.List.{length-map, length-append}
use Rattle.std.specs.Prelude.{if◌then◌else◌, IfSome}
use Rattle.std.specs.Option.{unwrap_or}
use Rattle.asm_lang.specs.Trees.{Init, number, decimal, foreign_int, foreign_double, member, math, view}
use Rattle.asm_lang.specs.Modules.{Variable, Param, Function}
use Rattle.asm_lang_valid.specs.Scope.{is_name}
use Rattle.asm_lang_valid.specs.Refusal.{function_number}
use Rattle.asm_names.specs.Members as members
use Rattle.asm_tree.specs.declared.tree.Module.{Module as Tree}
use Rattle.asm_tree.specs.Views.{module_view}
use Rattle.asm2wasm_translation.specs.Numbers.{slot_of, local_names, global_names}
use Rattle.name_slots.specs.Names.{slot_or_length}
use Rattle.name_slots.proofs.Named.{within, number_is}
use Rattle.asm_run_code.specs.Names.{first_free, table_number, member_name, member_number}
use Rattle.asm_run_names.specs.Names.{function_names, table_names}

module _ (t u : Tree) (same : t ≡ u) (n b : List ℕ) (hb : b ≡ n) where
  pub function_is : (functions : List (List ℕ)) (i : ℕ) → functions ≡ function_names (module_view t).functions → i ≡ slot_or_length functions b → i ≡ function_number (module_view u).functions n
  function_is functions i hf hi =
      hi ∙ ap (λ ns. slot_or_length ns b) hf ∙ ap (slot_or_length (function_names (module_view t).functions)) hb ∙ number_is (module_view t).functions n
      ∙ ap (λ (t : Tree). function_number (module_view t).functions n) same

  pub global_is : (globals : List (List ℕ)) (o : Option ℕ) → globals ≡ global_names (module_view t) → o ≡ slot_of globals b → unwrap_or o 0 ≡ unwrap_or (slot_of (global_names (module_view u)) n) 0
  global_is globals o hg ho =
      ap (λ o. unwrap_or o 0) (ho ∙ ap (λ ns. slot_of ns b) hg ∙ ap (slot_of (global_names (module_view t))) hb)
      ∙ ap (λ (t : Tree). unwrap_or (slot_of (global_names (module_view t)) n) 0) same

  pub table_is : (tables : List (List ℕ)) (o : Option ℕ) → tables ≡ table_names (module_view t).tables → o ≡ slot_of tables b → unwrap_or o 0 ≡ table_number (module_view u) n
  table_is tables o ht ho =
      ap (λ o. unwrap_or o 0) (ho ∙ ap (λ ns. slot_of ns b) ht ∙ ap (slot_of (table_names (module_view t).tables)) hb)
      ∙ ap (λ (t : Tree). table_number (module_view t) n) same

-- ---- foreign members

same_name : (i : Init) → members.member_name i ≡ member_name i
same_name (number z) = refl
same_name (decimal bs) = refl
same_name (foreign_int f p) = refl
same_name (foreign_double f p) = refl
same_name (member f p) = refl
same_name (math f p) = refl
same_name (view f p h) = refl

pub same_number : (vs : List Variable) (n : List ℕ) → members.first_import vs n ≡ member_number vs n
same_number [] n = refl
same_number (v ∷ vs) n =
    ap (λ (o : Option (List ℕ)). if is_name n o then 0 else suc (members.first_import vs n)) (same_name v.init)
    ∙ ap (λ k. if is_name n (member_name v.init) then 0 else suc k) (same_number vs n)

-- ---- variables of a function

count_locals : (f : Function) → length (local_names f) ≡ first_free f
count_locals f =
    let joined = length-append (map (λ (p : Param). p.name) f.params) (map (λ (v : Variable). v.name) f.locals) in
    omega (arith, joined, length-map f.params (λ (p : Param). p.name), length-map f.locals (λ (v : Variable). v.name))

pub slot_small : (f : Function) (slots : List (List ℕ)) (free : ℕ) (n : List ℕ) (i : ℕ) → slots ≡ local_names f → free ≡ first_free f → free < 2 ^ 32 → Some i ≡ slot_of slots n → i < 2 ^ 32
slot_small f slots free n i is first few e =
    let below : i < length slots = subst (λ o. IfSome o (λ i. i < length slots)) (sym e) (within slots n) in
    let count = ap (λ (ns : List (List ℕ)). length ns) is in
    omega (arith, below, count, count_locals f, first)
