-- A typed body and its renamed form are of the same form, where each name that is used goes over.
use Rattle.std.proofs.Common.{◌≡◌, ℕ, ◌+◌, ◌≤◌, true, false, List, ◌++◌, length, take, drop, Option, Some, None, refl, arith}
use Rattle.std.proofs.lemmas.Bool.{and_parts}
use Rattle.std.specs.List.{AllByRecursion}
use Rattle.asm_lang.specs.Modules.{Expr, lit, decimal as decimal_expr, var, index, call, table_call, assign, store, unary, binary, chain, cond, comma, Exprs, no_exprs, exprs, Links, no_links, links, Stmt, block, plain, empty, if_only, if_else, returns, while_loop, do_while, for_loop, breaks, continues, labelled, switches, Stmts, no_stmts, stmts, Clauses, no_clauses, clauses}
use Rattle.asm_lang_valid.specs.Typing.{Scope, Around, at_top, in_a_loop, in_a_switch, is_loop, under_labels, typed, all_typed, clauses_typed}
use Rattle.asm_short_lang.specs.Uses.{Use, name_of, expr_uses, exprs_uses, links_uses, option_uses, stmt_uses, stmts_uses, clauses_uses}
use Rattle.asm_short_lang.specs.Renaming.{expr_with, exprs_with, links_with, option_with, labels_in, labels_in_all, labels_in_clauses, Labels, no_labels, stmt_with, stmts_with, clauses_with}
use Rattle.asm_laws_alike.specs.Places.{Open, nothing_open, in_part, in_loop, under}
use Rattle.asm_laws_alike.specs.Code.{Pair, SameName, SameExpr, same_lit, same_decimal, same_var, same_index, same_call, same_table_call, same_assign, same_store, same_unary, same_binary, same_chain, same_cond, same_comma, SameExprs, same_no_exprs, same_exprs, SameLinks, same_no_links, same_links, SamePart, no_part, a_part, no_label, a_label, SameStmt, same_block, same_plain, same_empty, same_if_only, same_if_else, same_returns, same_while, same_do, same_for, same_breaks, same_continues, same_labelled, same_switches, SameStmts, same_no_stmts, same_stmts, SameClauses, same_no_clauses, same_clauses}
use Rattle.asm_laws_short.proofs.Lists.{Distinct, all_both}
use Rattle.asm_laws_short.proofs.Labels.{Linked, length_part, break_place, continue_place, linked_part, linked_switch, linked_loop, linked_later, linked_under}

module _ (pairs : List Pair) (c c' : Scope) (look : List ℕ → List ℕ) where
  -- the name that is used goes over
  abbrev pub GoesOver : Use → Type 0
  GoesOver u = SameName pairs c c' (name_of u) (look (name_of u))

  abbrev pub AllGoOver : List Use → Type 0
  AllGoOver us = AllByRecursion GoesOver us

  mutual
    pub expr_same : (e : Expr) → AllGoOver (expr_uses e) → SameExpr pairs c c' e (expr_with look e)
    expr_same (lit z) h = same_lit z
    expr_same (decimal_expr bs) h = same_decimal bs
    expr_same (var n) h = same_var h.0
    expr_same (index n i) h = same_index h.0 (expr_same i h.1)
    expr_same (call n es) h = same_call h.0 (exprs_same es h.1)
    expr_same (table_call n i es) h = let p = all_both GoesOver (expr_uses i) (exprs_uses es) h.1 in same_table_call h.0 (expr_same i p.0) (exprs_same es p.1)
    expr_same (assign n e) h = same_assign h.0 (expr_same e h.1)
    expr_same (store n i e) h = let p = all_both GoesOver (expr_uses i) (expr_uses e) h.1 in same_store h.0 (expr_same i p.0) (expr_same e p.1)
    expr_same (unary op e) h = same_unary op (expr_same e h)
    expr_same (binary op l r) h = let p = all_both GoesOver (expr_uses l) (expr_uses r) h in same_binary op (expr_same l p.0) (expr_same r p.1)
    expr_same (chain e ls) h = let p = all_both GoesOver (expr_uses e) (links_uses ls) h in same_chain (expr_same e p.0) (links_same ls p.1)
    expr_same (cond e a b) h =
        let p = all_both GoesOver (expr_uses e) (expr_uses a ++ expr_uses b) h in
        let q = all_both GoesOver (expr_uses a) (expr_uses b) p.1 in
        same_cond (expr_same e p.0) (expr_same a q.0) (expr_same b q.1)
    expr_same (comma es) h = same_comma (exprs_same es h)

    exprs_same : (es : Exprs) → AllGoOver (exprs_uses es) → SameExprs pairs c c' es (exprs_with look es)
    exprs_same no_exprs h = same_no_exprs
    exprs_same (exprs e es) h = let p = all_both GoesOver (expr_uses e) (exprs_uses es) h in same_exprs (expr_same e p.0) (exprs_same es p.1)

    links_same : (ls : Links) → AllGoOver (links_uses ls) → SameLinks pairs c c' ls (links_with look ls)
    links_same no_links h = same_no_links
    links_same (links minus e ls) h = let p = all_both GoesOver (expr_uses e) (links_uses ls) h in same_links minus (expr_same e p.0) (links_same ls p.1)

  pub option_same : (o : Option Expr) → AllGoOver (option_uses o) → SamePart pairs c c' o (option_with look o)
  option_same None h = no_part
  option_same (Some e) h = a_part (expr_same e h)

  module _ (fresh : List (List ℕ)) (d : Distinct fresh) where
    mutual
      stmt_same : (s : Stmt) (before : ℕ) (around : Labels) (a a' : Open) (t : Around) → Linked fresh before around a a' t (is_loop s) → before + labels_in s ≤ length fresh → typed c t s ≡ true → AllGoOver (stmt_uses s)
          → SameStmt pairs c c' a a' s (stmt_with look fresh around before s)
      stmt_same (block ss) before around a a' t k room h u = same_block (stmts_same ss before around a a' t k room h u)
      stmt_same (plain e) before around a a' t k room h u = same_plain (expr_same e u)
      stmt_same empty before around a a' t k room h u = same_empty
      stmt_same (if_only e s) before around a a' t k room h u =
          let p = and_parts _ _ h in
          let v = all_both GoesOver (expr_uses e) (stmt_uses s) u in
          same_if_only (expr_same e v.0) (stmt_same s before around (in_part a) (in_part a') t (linked_part fresh before around a a' t (is_loop s) k) room p.1 v.1)
      stmt_same (if_else e s r) before around a a' t k room h u =
          let p = and_parts _ _ h in
          let q = and_parts _ _ p.0 in
          let v = all_both GoesOver (expr_uses e) (stmt_uses s ++ stmt_uses r) u in
          let w = all_both GoesOver (stmt_uses s) (stmt_uses r) v.1 in
          same_if_else (expr_same e v.0) (stmt_same s before around (in_part a) (in_part a') t (linked_part fresh before around a a' t (is_loop s) k) (omega (arith, room)) q.1 w.0)
          (stmt_same r (before + labels_in s) around (in_part a) (in_part a') t (linked_later fresh before around (in_part a) (in_part a') t (before + labels_in s) (omega arith) (linked_part fresh before around a a' t (is_loop r) k)) (omega (arith, room)) p.1 w.1)
      stmt_same (returns o) before around a a' t k room h u = same_returns (option_same o u)
      stmt_same (while_loop e s) before around a a' t k room h u =
          let p = and_parts _ _ h in
          let v = all_both GoesOver (expr_uses e) (stmt_uses s) u in
          same_while (expr_same e v.0) (stmt_same s before around (in_loop a) (in_loop a') (in_a_loop t) (linked_loop fresh before around a a' t (is_loop s) k) room p.1 v.1)
      stmt_same (do_while s e) before around a a' t k room h u =
          let p = and_parts _ _ h in
          let v = all_both GoesOver (stmt_uses s) (expr_uses e) u in
          same_do (stmt_same s before around (in_loop a) (in_loop a') (in_a_loop t) (linked_loop fresh before around a a' t (is_loop s) k) room p.0 v.0) (expr_same e v.1)
      stmt_same (for_loop x y z s) before around a a' t k room h u =
          let p = and_parts _ _ h in
          let v = all_both GoesOver (option_uses x) (option_uses y ++ (option_uses z ++ stmt_uses s)) u in
          let w = all_both GoesOver (option_uses y) (option_uses z ++ stmt_uses s) v.1 in
          let q = all_both GoesOver (option_uses z) (stmt_uses s) w.1 in
          same_for (option_same x v.0) (option_same y w.0) (option_same z q.0) (stmt_same s before around (in_loop a) (in_loop a') (in_a_loop t) (linked_loop fresh before around a a' t (is_loop s) k) room p.1 q.1)
      stmt_same (breaks None) before around a a' t k room h u = same_breaks no_label
      stmt_same (breaks (Some n)) before around a a' t k room h u = same_breaks (a_label (break_place fresh before around a a' t n k h))
      stmt_same (continues None) before around a a' t k room h u = same_continues no_label
      stmt_same (continues (Some n)) before around a a' t k room h u = same_continues (a_label (continue_place fresh before around a a' t n k h))
      stmt_same (labelled ns s) before around a a' t k room h u =
          let p = and_parts _ _ h in
          let r : before + length ns ≤ length fresh = omega (arith, room) in
          same_labelled (length_part before (length ns) fresh r)
          (stmt_same s (before + length ns) (record { olds = ns ++ around.olds; news = take (length ns) (drop before fresh) ++ around.news }) (under ns a) (under (take (length ns) (drop before fresh)) a') (under_labels ns s t) (linked_under fresh before around a a' t ns (is_loop s) false d r p.0 k refl) (omega (arith, room)) p.1 u)
      stmt_same (switches e cs) before around a a' t k room h u =
          let p = and_parts _ _ h in
          let v = all_both GoesOver (expr_uses e) (clauses_uses cs) u in
          same_switches (expr_same e v.0) (clauses_same cs before around a a' (in_a_switch t) (linked_switch fresh before around a a' t false k) room p.1 v.1)

      stmts_same : (ss : Stmts) (before : ℕ) (around : Labels) (a a' : Open) (t : Around) → Linked fresh before around a a' t false → before + labels_in_all ss ≤ length fresh → all_typed c t ss ≡ true → AllGoOver (stmts_uses ss)
          → SameStmts pairs c c' a a' ss (stmts_with look fresh around before ss)
      stmts_same no_stmts before around a a' t k room h u = same_no_stmts
      stmts_same (stmts s ss) before around a a' t k room h u =
          let p = and_parts _ _ h in
          let v = all_both GoesOver (stmt_uses s) (stmts_uses ss) u in
          same_stmts (stmt_same s before around (in_part a) (in_part a') t (linked_part fresh before around a a' t (is_loop s) k) (omega (arith, room)) p.0 v.0)
          (stmts_same ss (before + labels_in s) around a a' t (linked_later fresh before around a a' t (before + labels_in s) (omega arith) k) (omega (arith, room)) p.1 v.1)

      clauses_same : (cs : Clauses) (before : ℕ) (around : Labels) (a a' : Open) (t : Around) → Linked fresh before around a a' t false → before + labels_in_clauses cs ≤ length fresh → clauses_typed c t cs ≡ true → AllGoOver (clauses_uses cs)
          → SameClauses pairs c c' a a' cs (clauses_with look fresh around before cs)
      clauses_same no_clauses before around a a' t k room h u = same_no_clauses
      clauses_same (clauses v ss cs) before around a a' t k room h u =
          let p = and_parts _ _ h in
          let w = all_both GoesOver (stmts_uses ss) (clauses_uses cs) u in
          same_clauses v (stmts_same ss before around a a' t k (omega (arith, room)) p.0 w.0)
          (clauses_same cs (before + labels_in_all ss) around a a' t (linked_later fresh before around a a' t (before + labels_in_all ss) (omega arith) k) (omega (arith, room)) p.1 w.1)

    -- the whole body
    pub linked_top : Linked fresh 0 no_labels nothing_open nothing_open at_top false
    linked_top = record { breaks = refl; breaks' = refl; long = refl; distinct = tt; distinct' = tt; in_front = λ n e. absurd (cc e); own = λ n e. absurd (cc e); own' = refl; continues = λ n e. absurd (cc e); continues' = refl; opened = λ n e. absurd (cc e); known = λ n e. absurd (cc e); loops = λ n e. absurd (cc e) }

    pub body_same : (ss : Stmts) → labels_in_all ss ≤ length fresh → all_typed c at_top ss ≡ true → AllGoOver (stmts_uses ss) → SameStmts pairs c c' nothing_open nothing_open ss (stmts_with look fresh no_labels 0 ss)
    body_same ss room h u = stmts_same ss 0 no_labels nothing_open nothing_open at_top linked_top (omega (arith, room)) h u
