-- What the numbers of a module come to.
use Rattle.std.proofs.Common.{◌≡◌, ℕ, ◌+◌, List, [], ◌∷◌, length, map, Some, slice_get, ap, ◌∙◌, sym, subst}
use Rattle.sem_words.specs.declared.text.Text.{Text}
use Rattle.sem_words.specs.Lists.{text_bytes}
use Rattle.asm_tree.specs.declared.tree.Module.{Module as Tree}
use Rattle.asm_tree.specs.Views.{module_view, texts_view}
use Rattle.asm_lang.specs.Modules.{Module}
use Rattle.asm_lang_valid.specs.LimitRows.{foreign_calls}
use Rattle.asm_names.specs.Members.{IsMember}
use Rattle.asm_validate_limits.specs.declared.calls.ForeignCall.{ForeignCall as CodeCall}
use Rattle.asm_validate_limits.specs.Called.{foreign_view, EachIsFirst}
use Rattle.asm2wasm_numbers.specs.declared.calls.Call.{Call}
use Rattle.asm2wasm_numbers.specs.Calls.{place_among}
use Rattle.asm2wasm_numbers.proofs.Counted.{calls_count, import_is}
use Rattle.asm_lang_valid.specs.Scope.{Signature, function_signature, first_member, module_meaning}
use Rattle.std.specs.Prelude.{Option, None}
use Rattle.asm2wasm_lang.specs.Tables.{bases_of}
use Rattle.asm2wasm_translation.specs.Numbers.{own_number, import_number, slot_of, base_of}
use Rattle.name_slots.specs.Names.{slot_or_length}
use Rattle.asm2wasm_tables.specs.Names.{function_names}
use Rattle.name_slots.proofs.Named.{number_is}
use Rattle.asm2wasm_numbers.specs.Declarations.{table_names}
use Rattle.asm2wasm_numbers.specs.Places.{base_or_zero}
use Rattle.asm2wasm_numbers.proofs.Bases.{base_in, base_is}

pub own_is : (t u : Tree) (calls : List CodeCall) (functions : List (List ℕ)) (n b : List ℕ) (i j : ℕ) → t ≡ u → i ≡ length calls → j ≡ slot_or_length functions b → b ≡ n → map (foreign_view (module_view t)) calls ≡ foreign_calls (module_view t) → functions ≡ function_names (module_view t).functions → i + j ≡ own_number (module_view u) n
own_is t u calls functions n b i j tree hi hj hb hc hf =
    let m = module_view t in
    ap (λ i. i + j) (hi ∙ calls_count m calls hc) ∙ ap (λ j. length (foreign_calls m) + j) (hj ∙ ap (λ ns. slot_or_length ns b) hf ∙ ap (slot_or_length (function_names m.functions)) hb ∙ number_is m.functions n)
    ∙ ap (λ (t : Tree). own_number (module_view t) n) tree

pub imported_is : (t u : Tree) (calls : List CodeCall) (name : List ℕ) (c : Call) (i : ℕ) → t ≡ u → i ≡ place_among c calls → map (foreign_view (module_view t)) calls ≡ foreign_calls (module_view t) → EachIsFirst (module_view t) calls → IsMember (module_view u) name c.declaration →
    i ≡ import_number (module_view u) (record { name = name; params = c.params; result = c.result })
imported_is t u calls name c i tree hi all each member =
    hi ∙ import_is (module_view t) name c calls (subst (λ (t : Tree). IsMember (module_view t) name c.declaration) (sym tree) member) each all
    ∙ ap (λ (t : Tree). import_number (module_view t) (record { name = name; params = c.params; result = c.result })) tree

pub first_is : (m : Module) (ts : List Text) (t : Text) → Some t ≡ slice_get ts 0 → function_signature (module_meaning m (text_bytes t)) ≡ first_member m (texts_view ts)
first_is m [] t h = cc
first_is m (u ∷ us) t h = ap (λ (o : Option Text). from o) h
  where
    from : Option Text → Option Signature
    from None = None
    from (Some x) = function_signature (module_meaning m (text_bytes x))

-- where entries begin, of a table that is found and of one that isn't
pub found_base : (t u : Tree) (tables : List (List ℕ)) (bases lent : List ℕ) (n b : List ℕ) (i x : ℕ) → t ≡ u → x ≡ base_or_zero lent i → lent ≡ bases → bases ≡ bases_of (module_view t) → tables ≡ table_names (module_view t).tables → b ≡ n → Some i ≡ slot_of tables b → x ≡ base_of (module_view u) n
found_base t u tables bases lent n b i x tree hx hl hb ht hn hs =
    let m = module_view t in
    hx ∙ ap (λ l. base_or_zero l i) (hl ∙ hb)
    ∙ ap (λ o. base_in o (bases_of m)) (hs ∙ ap (λ ns. slot_of ns b) ht ∙ ap (slot_of (table_names m.tables)) hn)
    ∙ base_is (bases_of m) m.tables n
    ∙ ap (λ (t : Tree). base_of (module_view t) n) tree

pub no_base : (t u : Tree) (tables : List (List ℕ)) (n b : List ℕ) → t ≡ u → tables ≡ table_names (module_view t).tables → b ≡ n → None ≡ slot_of tables b → 0 ≡ base_of (module_view u) n
no_base t u tables n b tree ht hn hs =
    let m = module_view t in
    ap (λ o. base_in o (bases_of m)) (hs ∙ ap (λ ns. slot_of ns b) ht ∙ ap (slot_of (table_names m.tables)) hn)
    ∙ base_is (bases_of m) m.tables n
    ∙ ap (λ (t : Tree). base_of (module_view t) n) tree
