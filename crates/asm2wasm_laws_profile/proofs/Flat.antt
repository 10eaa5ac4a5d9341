-- How deep the code of a function without switches is nested.
use Rattle.std.proofs.Common.{◌≡◌, ℕ, suc, ◌+◌, ◌*◌, ◌≤◌, max, Bool, true, false, List, [], ◌∷◌, length, Option, Some, None, ap, arith}
use Rattle.wasm_lang.specs.Instructions.{eqz32}
use Rattle.wasm_lang_exec.specs.Code.{Trees, ε, ◌▹◌, ◌⊕◌, block, if_block, br_if, return}
use Rattle.wasm_laws_trees.specs.Spelled.{tree_levels}
use Rattle.wasm_laws_trees.proofs.Joined.{levels_join}
use Rattle.asm_lang.specs.Heights.{option_height, stmt_heights, stmts_height}
use Rattle.asm_lang.specs.Modules as text
use Rattle.asm_lang.specs.Modules.{Expr, Stmt, if_only, if_else, returns, while_loop, do_while, for_loop, breaks, continues, labelled, switches, empty, Stmts, no_stmts, stmts, Variable}
use Rattle.asm_lang_valid.specs.Typing.{Scope}
use Rattle.asm2wasm_translation.specs.Values.{plains, one, expr_code}
use Rattle.asm2wasm_translation.specs.Bodies.{Label, plainly, named_end, again, loop_code, do_code, part_code, test_code, stmt_code, stmts_code, literal_word, first_value, locals_code, last_code, body_code, in_body}
use Rattle.asm2wasm_laws_typed.specs.Labels.{is_labelled, HasJoinedLabels, HaveJoinedLabels}
use Rattle.asm2wasm_laws_typed.proofs.FlatValues.{plains_levels, value_levels}
use Rattle.asm2wasm_lang.specs.Small.{HasNoSwitch, HaveNoSwitch}
use Rattle.asm2wasm_laws_profile.specs.Laws.{FunctionsAreFlat}

-- ---- loops

loop_levels : (test body step : Trees) → tree_levels (loop_code test body step) ≤ 2 + max (tree_levels test) (max (1 + tree_levels body) (tree_levels step))
loop_levels test body step = omega (arith, levels_join test (block None body ▹ (step ⊕ again)), levels_join step again)

do_levels : (body test : Trees) → tree_levels (do_code body test) ≤ 2 + max (1 + tree_levels body) (tree_levels test)
do_levels body test = omega (arith, levels_join test (br_if 0 ▹ ε))

-- ---- statements; one without labels leaves room for a block that its labels would add

abbrev room : Bool → ℕ
room true = 0
room false = 1

alike : (n k h : ℕ) → n + k ≤ h → (n + k ≤ h) × (n ≤ h)
alike n k h i = (i, omega (arith, i))

module _ (heap : ℕ) (c : Scope) where
  part_levels : (o : Option Expr) → tree_levels (part_code heap c o) ≤ option_height o
  part_levels None = omega arith
  part_levels (Some e) = value_levels heap c false 0 e

  test_levels : (o : Option Expr) → tree_levels (test_code heap c o) ≤ option_height o
  test_levels None = omega arith
  test_levels (Some e) = let h = value_levels heap c true 0 e in omega (arith, h, levels_join (expr_code heap c true 0 e) (one eqz32 ⊕ (br_if 1 ▹ ε)))

  mutual
    stmt_levels : (ls : List Label) (own : List (List ℕ)) (s : Stmt) → HasJoinedLabels s → HasNoSwitch s
        → (tree_levels (stmt_code heap c ls own s) + room (is_labelled s) ≤ 4 * (stmt_heights s).height) × (tree_levels (stmt_code heap c ls own s) ≤ 4 * (stmt_heights s).as_body)
    stmt_levels ls own (text.block ss) j n = let h = stmts_levels ls ss j n in (omega (arith, h), omega (arith, h))
    stmt_levels ls own (text.plain e) j n = alike _ _ _ (omega (arith, value_levels heap c false 0 e))
    stmt_levels ls own empty j n = (omega arith, omega arith)
    stmt_levels ls own (if_only e s) j n =
        let first = value_levels heap c true 0 e in
        let second = (stmt_levels (plainly ∷ ls) [] s j n).1 in
        let joined = levels_join (expr_code heap c true 0 e) (if_block None (stmt_code heap c (plainly ∷ ls) [] s) ε ▹ ε) in
        alike _ _ _ (omega (arith, first, second, joined))
    stmt_levels ls own (if_else e s r) j n =
        let first = value_levels heap c true 0 e in
        let second = (stmt_levels (plainly ∷ ls) [] s j.0 n.0).1 in
        let third = (stmt_levels (plainly ∷ ls) [] r j.1 n.1).1 in
        let joined = levels_join (expr_code heap c true 0 e) (if_block None (stmt_code heap c (plainly ∷ ls) [] s) (stmt_code heap c (plainly ∷ ls) [] r) ▹ ε) in
        alike _ _ _ (omega (arith, first, second, third, joined))
    stmt_levels ls own (returns None) j n = (omega arith, omega arith)
    stmt_levels ls own (returns (Some e)) j n = alike _ _ _ (omega (arith, value_levels heap c true 0 e, levels_join (expr_code heap c true 0 e) (return ▹ ε)))
    stmt_levels ls own (while_loop e s) j n =
        let body = (stmt_levels (in_body own ls) [] s j n).1 in
        alike _ _ _ (omega (arith, body, test_levels (Some e), loop_levels (test_code heap c (Some e)) (stmt_code heap c (in_body own ls) [] s) ε))
    stmt_levels ls own (do_while s e) j n =
        let body = (stmt_levels (in_body own ls) [] s j n).1 in
        alike _ _ _ (omega (arith, body, value_levels heap c true 0 e, do_levels (stmt_code heap c (in_body own ls) [] s) (expr_code heap c true 0 e)))
    stmt_levels ls own (for_loop x y z s) j n =
        let body = (stmt_levels (in_body own ls) [] s j n).1 in
        let turns = loop_code (test_code heap c y) (stmt_code heap c (in_body own ls) [] s) (part_code heap c z) in
        let all = loop_levels (test_code heap c y) (stmt_code heap c (in_body own ls) [] s) (part_code heap c z) in
        alike _ _ _ (omega (arith, body, all, levels_join (part_code heap c x) turns, part_levels x, test_levels y, part_levels z))
    stmt_levels ls own (breaks l) j n = (omega arith, omega arith)
    stmt_levels ls own (continues l) j n = (omega arith, omega arith)
    stmt_levels ls own (labelled ns s) j n =
        let h = (stmt_levels (named_end ns ∷ ls) ns s j.1 n).0 in
        let alone = ap room j.0 in
        alike _ _ _ (omega (arith, h, alone))
    stmt_levels ls own (switches e cs) j n = absurd n

    stmts_levels : (ls : List Label) (ss : Stmts) → HaveJoinedLabels ss → HaveNoSwitch ss → tree_levels (stmts_code heap c ls ss) ≤ 4 * stmts_height ss
    stmts_levels ls no_stmts j n = omega arith
    stmts_levels ls (stmts s ss) j n =
        let first = (stmt_levels ls [] s j.0 n.0).0 in
        let second = stmts_levels ls ss j.1 n.1 in
        omega (arith, first, second, levels_join (stmt_code heap c ls [] s) (stmts_code heap c ls ss))

  -- ---- functions

  last_levels : (s : Stmt) → HasJoinedLabels s → HasNoSwitch s → tree_levels (last_code heap c s) ≤ 4 * (stmt_heights s).height
  last_levels (returns (Some e)) j n = omega (arith, value_levels heap c true 0 e)
  last_levels s j n = let h = (stmt_levels [] [] s j n).0 in omega (arith, h)

  body_levels : (ss : Stmts) → HaveJoinedLabels ss → HaveNoSwitch ss → tree_levels (body_code heap c ss) ≤ 4 * stmts_height ss
  body_levels no_stmts j n = omega arith
  body_levels (stmts s no_stmts) j n = let h = last_levels s j.0 n.0 in omega (arith, h)
  body_levels (stmts s (stmts r rs)) j n =
      let first = (stmt_levels [] [] s j.0 n.0).0 in
      let further = body_levels (stmts r rs) j.1 n.1 in
      omega (arith, first, further, levels_join (stmt_code heap c [] [] s) (body_code heap c (stmts r rs)))

  locals_levels : (i : ℕ) (vs : List Variable) → tree_levels (locals_code heap c i vs) ≡ 0
  locals_levels i [] = omega arith
  locals_levels i (v ∷ vs) =
      let set = first_value heap c i (literal_word heap c v.init) in
      let further = locals_levels (suc i) vs in
      omega (arith, further, plains_levels set, levels_join (plains set) (locals_code heap c (suc i) vs))

pub functions_are_flat : FunctionsAreFlat
functions_are_flat heap c j n =
    let locals = locals_levels heap c (length c.within.params) c.within.locals in
    let body = body_levels heap c c.within.body j n in
    omega (arith, locals, body, levels_join (locals_code heap c (length c.within.params) c.within.locals) (body_code heap c c.within.body))
