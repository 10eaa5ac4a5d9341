-- What is counted of the bodies of a small module.
use Rattle.std.proofs.Common.{◌≡◌, ℕ, suc, ◌+◌, ◌-◌, ◌≤◌, max, false, List, [], ◌∷◌, ◌++◌, length, map, Some, None, refl, ap, ◌∙◌, subst, arith}
use Rattle.std.specs.Prelude.{slice_get, cond, ◌||◌}
use Rattle.std.specs.List.{AllByRecursion}
use Rattle.std.proofs.lemmas.List.{length-append, length-replicate}
use Rattle.wasm_lang.specs.declared.types.ValType.TheVariants.{I32}
use Rattle.wasm_lang.specs.Instructions.{bin64, Instruction, call_indirect, end_mark, plain}
use Rattle.wasm_lang.specs.Limits.{levels}
use Rattle.wasm_lang.specs.Modules.{FunctionType}
use Rattle.wasm_lang_valid.specs.Measures.{deepest, body_slots, slots_from, peak, called, called_in, called_types, is_wide_mul_div, has_mul_div, first_mul_div}
use Rattle.wasm_lang_valid.specs.State.{at_start}
use Rattle.wasm_lang_valid.specs.Validity.{own_type, body_context}
use Rattle.wasm_laws_trees.specs.Spelled.{flat, closed, reach}
use Rattle.wasm_laws_trees.specs.Laws.{SizeBoundsLength, LevelsAreKept}
use Rattle.wasm_laws_write.specs.Each.{EachIn}
use Rattle.wasm_laws_write.proofs.Spelled.{each_closed}
use Rattle.asm_lang.specs.Heights.{stmts_height, function_height}
use Rattle.asm_lang.specs.Modules.{Stmt, block, if_only, if_else, while_loop, do_while, for_loop, labelled, switches, Stmts, no_stmts, stmts, Function, Module}
use Rattle.asm_lang_valid.specs.Rows.{function_count}
use Rattle.asm_lang_valid.specs.Typed.{scope_of}
use Rattle.asm2wasm_lang.specs.Counts.{stmt_clauses, body_clauses}
use Rattle.asm2wasm_translation.specs.Numbers.{first_scratch}
use Rattle.asm2wasm_translation.specs.Bodies.{function_code}
use Rattle.asm2wasm_translation.specs.Modules.{body_for, translation}
use Rattle.asm2wasm_laws_typed.specs.Labels.{HaveJoinedLabels}
use Rattle.asm2wasm_laws_typed.proofs.SmallBodies.{functions_are_small}
use Rattle.asm2wasm_laws_typed.proofs.ReachBodies.{functions_reach}
use Rattle.asm2wasm_laws_acceptance.specs.Laws.{room_of}
use Rattle.asm2wasm_laws_acceptance.proofs.Contexts.{own_type_is}
use Rattle.asm2wasm_lang.specs.Small.{HasNoSwitch, HaveNoSwitch}
use Rattle.asm2wasm_laws_profile.specs.Light.{IsLight}
use Rattle.asm2wasm_laws_profile.proofs.Peak.{peak_is_below_length}
use Rattle.asm2wasm_laws_profile.proofs.Flat.{functions_are_flat}

-- what is known of a function
pub record IsFlat (f : Function) : Type 0 where
  pub joined : HaveJoinedLabels f.body
  pub no_switch : HaveNoSwitch f.body
  pub height : function_height f ≤ 49
  pub nodes : function_count f ≤ 1000

-- ---- no clauses

mutual
  no_clause : (s : Stmt) → HasNoSwitch s → stmt_clauses s ≡ 0
  no_clause (block ss) h = no_clauses_in ss h
  no_clause (if_only e s) h = no_clause s h
  no_clause (if_else e s r) h = let first = no_clause s h.0 in let second = no_clause r h.1 in omega (arith, first, second)
  no_clause (while_loop e s) h = no_clause s h
  no_clause (do_while s e) h = no_clause s h
  no_clause (for_loop x y z s) h = no_clause s h
  no_clause (labelled ns s) h = no_clause s h
  no_clause (switches e cs) h = absurd h
  no_clause _ h = refl

  no_clauses_in : (ss : Stmts) → HaveNoSwitch ss → body_clauses ss ≡ 0
  no_clauses_in no_stmts h = refl
  no_clauses_in (stmts s ss) h = let first = no_clause s h.0 in let second = no_clauses_in ss h.1 in omega (arith, first, second)

-- ---- instructions

not_wide : (i : Instruction) → IsLight i → is_wide_mul_div i ≡ false
not_wide (plain (bin64 op)) h = absurd h
not_wide i h = refl

no_mul_div : (code : List Instruction) → AllByRecursion IsLight code → has_mul_div code ≡ false
no_mul_div [] all = refl
no_mul_div (i ∷ is) all = ap (λ b. b || has_mul_div is) (not_wide i all.0) ∙ no_mul_div is all.1

not_called : (types : List FunctionType) (i : Instruction) → IsLight i → called types i ≡ []
not_called types (call_indirect t) h = absurd h
not_called types i h = refl

none_called : (types : List FunctionType) (code : List Instruction) → AllByRecursion IsLight code → called_in types code ≡ []
none_called types [] all = refl
none_called types (i ∷ is) all = ap (λ ts. ts ++ called_in types is) (not_called types i all.0) ∙ none_called types is all.1

module _ (m : Module) (heap : ℕ) where
  abbrev IsLightIn : Function → Type 0
  IsLightIn f = EachIn IsLight (function_code heap (scope_of m f))

  light : (f : Function) → IsLightIn f → AllByRecursion IsLight (body_for m heap f).code
  light f h = each_closed IsLight tt tt (function_code heap (scope_of m f)) h

  pub no_body_multiplies : (fs : List Function) (n : ℕ) → AllByRecursion IsLightIn fs → first_mul_div n (map (body_for m heap) fs) ≡ None
  no_body_multiplies [] n all = refl
  no_body_multiplies (f ∷ fs) n all =
      ap (λ b. cond b (Some n) (first_mul_div (n + 1) (map (body_for m heap) fs))) (no_mul_div (body_for m heap f).code (light f all.0)) ∙ no_body_multiplies fs (n + 1) all.1

  pub no_body_calls : (types : List FunctionType) (fs : List Function) → AllByRecursion IsLightIn fs → called_types types (map (body_for m heap) fs) ≡ []
  no_body_calls types [] all = refl
  no_body_calls types (f ∷ fs) all = ap (λ ts. ts ++ called_types types (map (body_for m heap) fs)) (none_called types (body_for m heap f).code (light f all.0)) ∙ no_body_calls types fs all.1

-- ---- levels

either : (a b n : ℕ) → a ≤ n → b ≤ n → max a b ≤ n
either a b n h i = omega (arith, h, i)

module _ (m : Module) (heap : ℕ) (kept : LevelsAreKept) where
  body_is_flat : (f : Function) → IsFlat f → levels (body_for m heap f).code ≤ 900
  body_is_flat f is =
      let same = kept (function_code heap (scope_of m f)) in
      let low = functions_are_flat heap (scope_of m f) is.joined is.no_switch in
      let below : stmts_height f.body ≤ function_height f = omega arith in
      let height = is.height in
      omega (arith, same, low, below, height)

  pub bodies_are_flat : (fs : List Function) → AllByRecursion IsFlat fs → deepest (map (body_for m heap) fs) ≤ 900
  bodies_are_flat [] all = omega arith
  bodies_are_flat (f ∷ fs) all = either (levels (body_for m heap f).code) (deepest (map (body_for m heap) fs)) 900 (body_is_flat f all.0) (bodies_are_flat fs all.1)

-- ---- slots

room_fits : (params room scratch code height : ℕ) → room ≡ max scratch code → params ≤ scratch → scratch ≤ 999 → code ≤ scratch + height → height ≤ 49 → params + (room - params) ≤ 1048
room_fits params room scratch code height e a b c d = let is : max scratch code ≤ scratch + height = omega (arith, c) in omega (arith, e, a, b, is, d)

module _ (m : Module) (heap : ℕ) (short : SizeBoundsLength) where
  operands_few : (i : ℕ) (f : Function) → IsFlat f
      → let here = body_context (translation m heap) i (body_for m heap f) in peak here (at_start here.returns) (body_for m heap f).code ≤ 14001
  operands_few i f is =
      let here = body_context (translation m heap) i (body_for m heap f) in
      let code = function_code heap (scope_of m f) in
      let low = peak_is_below_length here (at_start here.returns) (closed code) in
      let all = length-append (flat code) (end_mark ∷ []) in
      let few = short code in
      let small = functions_are_small heap (scope_of m f) in
      let none = no_clauses_in f.body is.no_switch in
      let nodes = is.nodes in
      omega (arith, low, all, few, small, none, nodes)

  locals_few : (i : ℕ) (f : Function) → slice_get m.functions i ≡ Some f → IsFlat f → length (own_type (translation m heap) i).params + length (body_for m heap f).locals ≤ 1048
  locals_few i f e is =
      let room = room_of m heap f in
      let params : length (own_type (translation m heap) i).params ≡ length f.params = ap (λ (t : FunctionType). length t.params) (own_type_is m heap i f e) ∙ length-replicate (length f.params) I32 in
      let locals : length (body_for m heap f).locals ≡ room - length f.params = length-replicate (room - length f.params) I32 in
      let few : length f.params ≤ first_scratch f = omega arith in
      let nodes = is.nodes in
      let scratch : first_scratch f ≤ 999 = omega (arith, nodes) in
      let fits = room_fits (length f.params) room (first_scratch f) (reach (function_code heap (scope_of m f))) (function_height f) refl few scratch (functions_reach heap (scope_of m f)) is.height in
      omega (arith, params, locals, fits)

  slots_few : (i : ℕ) (f : Function) → slice_get m.functions i ≡ Some f → IsFlat f → body_slots (translation m heap) i (body_for m heap f) ≤ 20000
  slots_few i f e is = let locals = locals_few i f e is in let operands = operands_few i f is in omega (arith, locals, operands)

  -- of the functions from this place on
  pub all_slots_few : (fs : List Function) (i : ℕ) → ((j : ℕ) (f : Function) → slice_get fs j ≡ Some f → slice_get m.functions (i + j) ≡ Some f) → AllByRecursion IsFlat fs
      → slots_from (translation m heap) i (map (body_for m heap) fs) ≤ 20000
  all_slots_few [] i stand all = omega arith
  all_slots_few (f ∷ fs) i stand all =
      let here : i + 0 ≡ i = omega arith in
      let further = λ (j : ℕ) (g : Function) (h : slice_get fs j ≡ Some g). (let same : i + suc j ≡ i + 1 + j = omega arith in subst (λ k. slice_get m.functions k ≡ Some g) same (stand (suc j) g h)) in
      either (body_slots (translation m heap) i (body_for m heap f)) (slots_from (translation m heap) (i + 1) (map (body_for m heap) fs)) 20000
      (slots_few i f (subst (λ k. slice_get m.functions k ≡ Some f) here (stand 0 f refl)) all.0) (all_slots_few fs (i + 1) further all.1)
