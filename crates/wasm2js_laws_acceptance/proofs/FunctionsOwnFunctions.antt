-- The functions that the source defines are fine.
use Rattle.std.proofs.Common.{◌≡◌, ℕ, ◌+◌, ◌*◌, ◌≤◌, max, Bool, true, false, List, [], ◌∷◌, ◌++◌, length, Option, Some, None, refl, sym, ap, subst, arith, length-append}
use Rattle.std.specs.Prelude.{slice_get, is_some}
use Rattle.std.specs.List.{flat_map, range_with_len}
use Rattle.std.proofs.lemmas.Option.{slice_get_within}
use Rattle.wasm_lang.specs.declared.types.ValType.{ValType}
use Rattle.wasm_lang.specs.declared.types.ValType.TheVariants.{I32, I64}
use Rattle.wasm_lang.specs.Modules.{FunctionType, WasmModule}
use Rattle.wasm_lang_valid.specs.declared.section.Section.TheVariants as sections
use Rattle.wasm_lang_valid.specs.Measures.{measures_of}
use Rattle.wasm_lang_valid.specs.Profile.{memory_bytes}
use Rattle.wasm_lang_valid.specs.Typing.{Context, listed, result_of}
use Rattle.wasm_lang_valid.specs.Validity.{IsValidBody}
use Rattle.wasm_lang_exec.specs.Code.{Trees}
use Rattle.wasm_lang_exec.specs.Reductions.{a_function, callees, found}
use Rattle.wasm_laws_sound.proofs.Functions.{functions_are_typed}
use Rattle.wasm_laws_trees.specs.Spelled.{tree_levels}
use Rattle.wasm_laws_widths.specs.Depth.{depth}
use Rattle.wasm_laws_widths.proofs.Slots.{bodies_are_within}
use Rattle.asm_lang.specs.Modules.{Function}
use Rattle.asm_lang_valid.specs.Typing as target
use Rattle.asm_lang_valid.specs.Typing.{Scope, Around, at_top}
use Rattle.asm_lang_valid.specs.Typed.{scope_of}
use Rattle.wasm2js_translation.specs.Names.{numbered, function}
use Rattle.wasm2js_translation.specs.Actions.{under}
use Rattle.wasm2js_translation.specs.Bodies.{out, leave_with, comes_to_end, stmts_of, closing, body_stmts}
use Rattle.wasm2js_translation.specs.Modules.{param_names, context_of, own_function, translated}
use Rattle.wasm2js_translation.specs.Rooms.{Room, here, room_of, body_room, local_names, operand_names, declared_names}
use Rattle.wasm2js_translation.specs.Tables.{cell_count}
use Rattle.wasm2js_laws_scopes.specs.Provided.{HasRoom}
use Rattle.wasm2js_laws_scopes.proofs.Declared.{room_is_declared}
use Rattle.wasm2js_laws_typed.specs.Constructs.{AllFine}
use Rattle.wasm2js_laws_typed.proofs.FineBlocks.{all_join, all_higher, together}
use Rattle.wasm2js_laws_typed.proofs.FineBodies.{code_is_fine}
use Rattle.wasm2js_laws_typed.proofs.FineJumps.{returns_are_fine}
use Rattle.wasm2js_laws_typed.proofs.RoomParts.{left_room, right_room}
use Rattle.wasm2js_laws_acceptance.specs.FunctionsFunctions.{IsFineFunction, of_trap, is_called, IsSource}
use Rattle.wasm2js_laws_acceptance.specs.FunctionsLaws.{IsProvided, OwnFunctionsAreFine}
use Rattle.wasm2js_laws_acceptance.proofs.FunctionsLimited.{limited}
use Rattle.wasm2js_laws_acceptance.proofs.FunctionsMade.{made_of_fine}
use Rattle.wasm2js_laws_acceptance.proofs.FunctionsRoomy.{two, wide_low, narrow, deep, few_params, few_locals, few_operands}
use Rattle.wasm2js_laws_acceptance.proofs.FunctionsSigned.{body_gives}
use Rattle.wasm2js_laws_acceptance.proofs.FunctionsFormed.{body_is_formed}
use Rattle.wasm2js_laws_acceptance.proofs.FunctionsFound.{IsOwn, found_own, own_has_type}

-- ---- numbers

low_enough : (n m : ℕ) → n ≤ m → m ≤ 900 → 30 + n ≤ 998
low_enough n m p q = omega (arith, p, q)

one_at_most : (r : Option ValType) → 0 + length (listed r) ≤ 1
one_at_most None = omega arith
one_at_most (Some t) = omega arith

-- parameters and locals of the source, operands, and the words of each
all_few : (ps ls params more result room depth slots : ℕ) → ps ≤ 2 * params → ls ≤ 2 * more + 2 * max result room → result ≤ 1 → room ≤ depth → params + more + depth ≤ slots → slots ≤ 20000 → ps + ls ≤ 50000
all_few ps ls params more result room depth slots a b c d e f = omega (arith, a, b, c, d, e, f)

params_few : (ps params : ℕ) → ps ≤ 2 * params → params ≤ 1000 → ps ≤ 2000
params_few ps params a b = omega (arith, a, b)

declared_few : (r : Room) (n : ℕ) (more : List ValType) → length (declared_names r n more) ≤ 2 * length more + 2 * r.height
declared_few r n more =
    let e = length-append (local_names r.locals n more) (flat_map (operand_names r.wide_height) (range_with_len 0 r.height)) in
    let f = few_locals r.locals n more in
    let g = few_operands r.wide_height 0 r.height in
    omega (arith, e, f, g)

-- ---- the return at the end

closing_fine : (s : Scope) (a : Around) (bytes cells : ℕ) (c : Context) (r : Option ValType) (reached : Bool) → AllFine s a 8 (leave_with r (under 1 0 (listed r ++ []))) → AllFine s a 8 (closing bytes cells c r reached)
closing_fine s a bytes cells c None reached h = tt
closing_fine s a bytes cells c (Some I32) true h = tt
closing_fine s a bytes cells c (Some I32) false h = h
closing_fine s a bytes cells c (Some I64) reached h = h

module _ (w : WasmModule) (t : FunctionType) (more : List ValType) (code : Trees) where
  abbrev c : Context
  c = context_of w t more

  -- ---- what is counted of the source

  record AreWithin : Type 0 where
    levels : tree_levels code ≤ (measures_of w).levels
    slots : length (t.params ++ more) + depth (record c { labels = result_of t ∷ [] }) code 0 [] ≤ (measures_of w).slots

  abbrev Counted : FunctionType → List ValType → Type 0
  Counted u ls = length (u.params ++ ls) + depth (record (context_of w u ls) { labels = result_of u ∷ [] }) code 0 [] ≤ (measures_of w).slots

  within : IsSource w → (i : ℕ) → IsOwn w w.functions w.bodies t more code i → AreWithin
  within source i own =
      let valid = source.whole.is_valid sections.Code i (slice_get_within w.bodies i own.body own.is_body) in
      let it = bodies_are_within w i own.body code own.is_body (subst (IsValidBody w i) own.is_body valid) own.has_tree in
      record {
        levels = it.levels;
        slots = subst (λ ls. Counted t ls) own.has_locals (subst (λ u. Counted u own.body.locals) (own_has_type w t more code i own) it.slots);
      }

  module _ (k : ℕ) where
    abbrev this : Function
    this = own_function w k t more code

    abbrev s : Scope
    s = scope_of (translated w) this

    abbrev room : Room
    room = body_room c code

    has_room : HasRoom s c room
    has_room =
        room_is_declared (translated w) (numbered function k) c t.params more room (body_stmts (memory_bytes w) (cell_count w) c code) refl (two (wide_low 0 (listed c.returns)) (narrow c code 0 []))

    all_fine : IsSource w → slice_get (callees w) k ≡ Some (Some (a_function t more code)) → (i : ℕ) → IsOwn w w.functions w.bodies t more code i → IsProvided w this t more
        → AllFine s at_top (30 + tree_levels code) (body_stmts (memory_bytes w) (cell_count w) c code)
    all_fine source there i own given =
        let typed = (functions_are_typed w source.whole).are_typed k (a_function t more code) (ap found there) in
        let formed = body_is_formed w i own.body code source.shaped.bodies source.words (limited w source.within).products own.is_body own.has_tree in
        let answers : target.result_of s ≡ is_some c.returns = body_gives (memory_bytes w) (cell_count w) c code c.returns refl in
        let first = left_room s c (here 0 (listed c.returns) []) (room_of c code 0 []) has_room in
        let rest = right_room s c (here 0 (listed c.returns) []) (room_of c code 0 []) has_room in
        all_join s at_top (30 + tree_levels code) (stmts_of (memory_bytes w) (cell_count w) c code (out c.returns ∷ []) 0 [] [] []) _
        (code_is_fine s c (is_called w) (memory_bytes w) (cell_count w) given answers code (result_of t ∷ []) (out c.returns ∷ []) 0 [] (listed (result_of t)) at_top typed.1 formed (refl, refl, refl) refl refl rest)
        (all_higher s at_top 8 (30 + tree_levels code) _ (omega arith)
        (closing_fine s at_top (memory_bytes w) (cell_count w) c c.returns (comes_to_end code)
        (returns_are_fine s at_top c 0 [] [] given.fixed answers (subst (λ ts. HasRoom s c (here 0 ts [])) (sym (append_none (listed c.returns))) first))))
      where
        append_none : (ts : List ValType) → ts ++ [] ≡ ts
        append_none [] = refl
        append_none (t ∷ ts) = ap (λ us. t ∷ us) (append_none ts)

    fine : IsSource w → slice_get (callees w) k ≡ Some (Some (a_function t more code)) → IsProvided w this t more → IsFineFunction (translated w) of_trap this
    fine source there given =
        let it = found_own w t more code k there in
        let counts = within source it.0 it.1 in
        let limits = limited w source.within in
        let typed = (functions_are_typed w source.whole).are_typed k (a_function t more code) (ap found there) in
        let params = few_params 0 t.params in
        let both = length-append t.params more in
        made_of_fine (translated w) (numbered function k) (param_names 0 t.params) (declared_names room (length t.params) more) (body_stmts (memory_bytes w) (cell_count w) c code)
        (30 + tree_levels code) (low_enough (tree_levels code) (measures_of w).levels counts.levels limits.levels)
        (together s at_top (30 + tree_levels code) (body_stmts (memory_bytes w) (cell_count w) c code) (all_fine source there it.0 it.1 given))
        (params_few (length (param_names 0 t.params)) (length t.params) params (limits.params it.1.number t it.1.is_type))
        (all_few (length (param_names 0 t.params)) (length (declared_names room (length t.params) more)) (length t.params) (length more) (0 + length (listed c.returns)) (room_of c code 0 []).height
        (depth (record c { labels = result_of t ∷ [] }) code 0 []) (measures_of w).slots params (declared_few room (length t.params) more) (one_at_most c.returns)
        (deep c code (result_of t ∷ []) 0 [] (listed (result_of t)) typed.1) (subst (λ n. n + depth (record c { labels = result_of t ∷ [] }) code 0 [] ≤ (measures_of w).slots) both counts.slots) limits.slots)

pub own_functions_are_fine : OwnFunctionsAreFine
own_functions_are_fine w k t more code source there given = fine w t more code k source there given
