-- What a state promises of nodes above the limit: if G holds, or what is put in has such a node, the module has one. G says that
-- one was read. The mark counts the tokens that are left after it.
use Rattle.std.proofs.Common.{ℕ, ◌≡◌, ◌≤◌, ◌+◌, ◌&&◌, not, cond, Bool, true, false, List, [], ◌∷◌, ◌++◌, Option, Some, None, ◌⊎◌, inl, inr, refl, sym, ap, subst, ◌∙◌, arith}
use Rattle.std.proofs.lemmas.Bool.{cond_both, leb-true}
use Rattle.std.specs.Prelude.{codes, bytes_eq, ◌==◌, nat_le, ℤ, pos, neg_ℤ}
use Rattle.sem_words.specs.declared.js_value.JsOp.TheVariants.{Add, Sub, Or}
use Rattle.sem_words.specs.declared.js_value.JsUnary.TheVariants.{Neg}
use Rattle.asm_lang.specs.Lexemes.{Class, identifier, break_word, case_word, continue_word, default_word, do_word, else_word, for_word, function_word, if_word, new_word, return_word, switch_word, var_word, while_word, a_number, a_decimal, directive, open_brace, close_brace, open_paren, close_paren, open_bracket, dot, semicolon, comma, question, colon, equals, operator, tilde, bang, Lexeme, is_word, named, Is, here, At}
use Rattle.asm_lang.specs.Trees.{ExprTree, literal, variable, element, unary, listed, ExprTrees, no_expr, one_expr, StmtTree, block, plain, empty, if_only, if_else, returns, while_loop, do_loop, for_loop, breaks, continues, switches, StmtTrees, no_stmt, one_stmt, ClauseTrees, no_clause, one_clause, Init, number, decimal, foreign_int, foreign_double, member, math, view, VariableTree, ParamTree, FunctionTree, TableTree, ExportTree, ExportsTree, one, many, Heading, ModuleTree}
use Rattle.asm_lang.specs.Grammar.{IsArguments, IsClauses, IsDeclared, IsDoEnd, IsEnd, IsExported, IsExports, IsExpr, IsFunctions, IsGlobal, IsHeading, IsIndex, IsInit, IsLast, IsLiteral, IsLocal, IsMarks, IsMember, IsMembers, IsModule, IsModuleParams, IsName, IsNames, IsOperand, IsOption, IsParams, IsRest, IsReturned, IsReturnedPart, IsStmt, IsStmts, IsTable, IsTarget, a_bang, a_binary, a_block, a_break, a_call, a_case, a_comma, a_conditional, a_continue, a_decimal_literal, a_default, a_do, a_double_mark, a_for, a_function, a_further, a_global, a_heading, a_label, a_labelled, a_list, a_literal, a_local, a_math, a_member, a_minus, a_module, a_name, a_negative, a_plain, a_plus, a_prefix, a_return, a_store, a_switch, a_table, a_table_call, a_tilde, a_value, a_var, a_variable, a_while, absent, after_comma, an_assignment, an_element, an_empty, an_end, an_export, an_exported, an_if_else, an_if_only, an_index, an_int, an_int_mark, an_operand, arguments, do_missing, do_written, export_many, export_one, in_parens, is_else, is_numeric, is_same_line, is_semicolon, last_semicolon, level_of, may_miss_before, members_of, missing, more_functions, more_names, more_stmts, negative, negative_decimal, next_export, no_argument, no_clauses, no_else, no_export, no_functions, no_further, no_label, no_marks, no_names, no_params, no_stmts, no_value, no_var, of_double, of_literal, of_member, of_view, params_0, params_1, params_2, params_3, positive, positive_decimal, present, some_params, texts, under, unnamed, written}
use Rattle.asm_lang.specs.Machine.{State, Step, advance, after_arm, after_body, after_expr, after_index, after_member, after_minus, after_name, after_sign, after_stmt_name, arguments_by, arm_by, at_arguments, at_clauses, at_end, at_export, at_exports, at_expr, at_functions, at_globals, at_init, at_literal, at_locals, at_marks, at_option, at_return, at_start, at_stmt, at_stmts, at_tables, at_target, at_use, at_value, begins_expr, body_step, case_value, clauses_by, closes, comma_by, do_end_by, double_mark, either, end_by, end_step, ends, ends_do, expects, export_by, export_of, export_step, exports_step, expr_by, feed, function_of, function_step, functions_by, globals_by, goes, heading_step, in_case, in_case_by, in_exports, in_exports_by, in_globals, in_globals_by, in_locals, in_locals_by, in_names, in_rest, in_tables, in_tables_by, index_by, infix_by, init_by, int_mark, is_quiet, literal_by, local_step, locals_by, mark_step, may_comma, meets, member_by, members_step, minus_by, module_of, more_stmts_of, name_by, names_by, option_by, params_step, refuses, rest_by, return_by, same_class, sign_by, stmt_by, stmt_name_by, stmts_by, stuck, table_of, table_step, tables_by, target_by, use_by, value_by, variable_of}
use Rattle.asm_lang.proofs.Tokens.{same_is, and_right, meets_is, stops_at, Ends, Stops, level_high, Stops-ends}
use Rattle.asm_lang.proofs.CompleteExprs.{with_exprs, with_one, with_two, same}
use Rattle.asm_lang.proofs.CompleteStmts.{with_stmts, with_no_stmt}
use Rattle.asm_lang.proofs.CompleteModules.{with_all, with_nothing}
use Rattle.asm_lang.proofs.Reached.{IsOver}
use Rattle.asm_lang.proofs.Sound.{at_level, ends_top, ends_below, rank_is, not_is, no_list}
use Rattle.asm_lang.specs.Modules as modules
use Rattle.asm_lang.specs.Heights.{function_height}
use Rattle.asm_lang.specs.TreeHeights.{counted, body_height, whole_height}
use Rattle.asm_lang.specs.HighNodes.{Here, HighExpr, HighOperand, HighIndex, HighArguments, HighRest, HighOption, HighReturned, HighStmt, HighStmts, HighClauses, HighFunctions, HighModule}
use Rattle.asm_laws_height.proofs.Sizes.{under_height, under_body, last_of_more}
use Rattle.asm_laws_height.proofs.SeenModules.{last_function_more}
use Rattle.asm_laws_height.specs.Peaks.{last_height, last_function}

-- The state can go on with a token before which a `;` may be missing.
abbrev pub Open : State → Type 0
Open (closes c q s) = c ≡ close_brace
Open (after_arm at c s k) = Open (k (if_only at c s))
Open (after_body b s) = Unit {0}
Open (at_stmts ss k) = Unit {0}
Open (in_case v ss k) = Unit {0}
Open (at_marks [] ds k) = Open (k ds)
Open (at_marks (p ∷ ps) ds k) = Unit {0}
Open (at_locals ls k) = Open (k ls)
Open (at_globals h gs) = Unit {0}
Open (at_tables h gs fs ts) = Unit {0}
Open _ = ⊥

module _ (limit mark : ℕ) (all : List Lexeme) where
  abbrev pub Found : Type 0 → ModuleTree → Type 0
  Found G m = (d : IsModule m all) × (G → HighModule limit mark d)

  abbrev pub ExportsOn : Type 0 → Heading → List VariableTree → List FunctionTree → List TableTree → List Lexeme → Type 0
  ExportsOn G h gs fs ts xs = (ex : ExportsTree) (t : Lexeme) (ys zs : List Lexeme) → IsExported ex xs ys → At close_brace t ys zs → IsLast zs → Found (G ⊎ Here limit mark (whole_height (module_of h gs fs ts ex)) zs) (module_of h gs fs ts ex)

  abbrev pub PartOn : Type 0 → Heading → List VariableTree → List FunctionTree → List TableTree → List Lexeme → Type 0
  PartOn G h gs fs ts xs = (ex : ExportsTree) (t : Lexeme) (ys zs : List Lexeme) → is_same_line xs ≡ true → IsReturnedPart ex xs ys → At close_brace t ys zs → IsLast zs → Found (G ⊎ Here limit mark (whole_height (module_of h gs fs ts ex)) zs) (module_of h gs fs ts ex)

  abbrev pub TablesOn : Type 0 → Bool → Heading → List VariableTree → List FunctionTree → List TableTree → List Lexeme → Type 0
  TablesOn G b h gs fs ts xs = (ds : List TableTree) (ys : List Lexeme) → IsDeclared IsTable b ds xs ys → ExportsOn G h gs fs (with_all ts ds) ys

  abbrev pub FunctionsOn : Type 0 → Heading → List VariableTree → List FunctionTree → List Lexeme → Type 0
  FunctionsOn G h gs fs xs = (ds : List FunctionTree) (ys : List Lexeme) (x : IsFunctions ds xs ys) → TablesOn (G ⊎ (HighFunctions limit mark x ⊎ Here limit mark (last_function fs) xs)) false h gs (with_all fs ds) [] ys

  abbrev pub GlobalsOn : Type 0 → Bool → Heading → List VariableTree → List Lexeme → Type 0
  GlobalsOn G b h gs xs = (ds : List VariableTree) (ys : List Lexeme) → IsDeclared IsGlobal b ds xs ys → FunctionsOn G h (with_all gs ds) [] ys

  abbrev mutual
    pub Carries : Type 0 → State → List Lexeme → Type 0
    Carries G (closes c q s) xs = (t : Lexeme) (ys : List Lexeme) → At c t xs ys → CarriesStep G s ys
    Carries G (at_expr p k) xs = (e : ExprTree) (ys : List Lexeme) (x : IsExpr p e xs ys) → Stops p ys → Carries (G ⊎ HighExpr limit mark x) (k e) ys
    Carries G (after_minus m k) xs = (m.class ≡ operator Sub) × ((e : ExprTree) (ys : List Lexeme) (x : IsOperand e (m ∷ xs) ys) → Carries (G ⊎ HighOperand limit mark x) (k e) ys)
    Carries G (after_name p n k) xs = (n.class ≡ identifier) × ((e : ExprTree) (ys : List Lexeme) (x : IsExpr p e (n ∷ xs) ys) → Stops p ys → Carries (G ⊎ HighExpr limit mark x) (k e) ys)
    Carries G (after_index p n i k) xs = (ws : List Lexeme) × (n.class ≡ identifier) × (x : IsIndex i ws xs) × ((e : ExprTree) (ys : List Lexeme) (y : IsExpr p e (n ∷ ws) ys) → (HighIndex limit mark x → HighExpr limit mark y) → Stops p ys
        → Carries (G ⊎ HighExpr limit mark y) (k e) ys)
    Carries G (after_expr p e k) xs = (q : ℕ) × (ws : List Lexeme) × (p ≤ q) × (x : IsExpr q e ws xs) × Ends q xs × ((f : ExprTree) (ys : List Lexeme) (y : IsExpr p f ws ys) → (HighExpr limit mark x → HighExpr limit mark y) → Stops p ys
        → Carries (G ⊎ HighExpr limit mark y) (k f) ys)
    Carries G (at_arguments k) xs = (es : ExprTrees) (ys : List Lexeme) (x : IsArguments es xs ys) → Carries (G ⊎ HighArguments limit mark x) (k es) ys
    Carries G (in_rest fs k) xs = Stops 1 xs × ((es : ExprTrees) (ys : List Lexeme) (x : IsRest es xs ys) → Stops 0 ys → Carries (G ⊎ HighRest limit mark x) (k (with_exprs fs es)) ys)
    Carries G (ends s) xs = Open s × ((ys : List Lexeme) → IsEnd xs ys → Carries G s ys)
    Carries G (ends_do s) xs = Open s × ((ys : List Lexeme) → IsDoEnd xs ys → Carries G s ys)
    Carries G (at_stmt k) xs = ((s : StmtTree) → Open (k s)) × (b : Bool) × ((s : StmtTree) (ys : List Lexeme) (x : IsStmt s xs ys) → Carries (G ⊎ HighStmt limit mark b x) (k s) ys)
    Carries G (after_stmt_name n k) xs = (n.class ≡ identifier) × ((s : StmtTree) → Open (k s)) × (b : Bool) × ((s : StmtTree) (ys : List Lexeme) (x : IsStmt s (n ∷ xs) ys) → Carries (G ⊎ HighStmt limit mark b x) (k s) ys)
    Carries G (at_option c q b k) xs = (o : Option ExprTree) (t : Lexeme) (ys zs : List Lexeme) (x : IsOption o xs ys) → At c t ys zs → CarriesStep (G ⊎ HighOption limit mark x) (k o) zs
    Carries G (at_return k) xs = ((o : Option ExprTree) → Open (k o)) × ((o : Option ExprTree) (ys : List Lexeme) (x : IsReturned o xs ys) → Carries (G ⊎ HighReturned limit mark x) (k o) ys)
    Carries G (at_target k) xs = ((o : Option (List ℕ)) → Open (k o)) × ((o : Option (List ℕ)) (ys : List Lexeme) → IsTarget o xs ys → Carries G (k o) ys)
    Carries G (after_arm at c s k) xs = ((r : StmtTree) → Open (k r)) × (no_else xs ≡ true → Carries G (k (if_only at c s)) xs)
        × ((t : Lexeme) (ys : List Lexeme) (r : StmtTree) (zs : List Lexeme) → At else_word t xs ys → (y : IsStmt r ys zs) → Carries (G ⊎ HighStmt limit mark true y) (k (if_else at c s r)) zs)
    Carries G (after_body b s) xs = (t : Lexeme) (ys : List Lexeme) → At while_word t xs ys → CarriesStep (G ⊎ Here limit mark (body_height b) xs) s ys
    Carries G (at_stmts rs k) xs = (ss : StmtTrees) (t : Lexeme) (ys zs : List Lexeme) (x : IsStmts ss xs ys) → At close_brace t ys zs → CarriesStep (G ⊎ (HighStmts limit mark x ⊎ Here limit mark (last_height rs) xs)) (k (with_stmts rs ss)) zs
    Carries G (at_clauses k) xs = (cs : ClauseTrees) (t : Lexeme) (ys zs : List Lexeme) (x : IsClauses cs xs ys) → At close_brace t ys zs → CarriesStep (G ⊎ HighClauses limit mark x) (k cs) zs
    Carries G (in_case v rs k) xs = (ss : StmtTrees) (cs : ClauseTrees) (t : Lexeme) (ys zs ws : List Lexeme) (x : IsStmts ss xs ys) (y : IsClauses cs ys zs) → At close_brace t zs ws
        → CarriesStep (G ⊎ ((HighStmts limit mark x ⊎ HighClauses limit mark y) ⊎ Here limit mark (last_height rs) xs)) (k (one_clause (Some v) (with_stmts rs ss) cs)) ws
    Carries G (at_literal d k) xs = (i : Init) (ys : List Lexeme) → IsLiteral d i xs ys → Carries G (k i) ys
    Carries G (after_sign d m k) xs = (m.class ≡ operator Sub) × ((i : Init) (ys : List Lexeme) → IsLiteral d i (m ∷ xs) ys → Carries G (k i) ys)
    Carries G (at_init k) xs = (i : Init) (ys : List Lexeme) → IsInit i xs ys → Carries G (k i) ys
    Carries G (after_member f p k) xs = (i : Init) (ys : List Lexeme) → IsMember f p i xs ys → Carries G (k i) ys
    Carries G (in_names c q ns k) xs = (ms : List Lexeme) (t : Lexeme) (ys zs : List Lexeme) → IsNames ms xs ys → At c t ys zs → CarriesStep G (k (with_all ns ms)) zs
    Carries G (at_marks ps ds k) xs = ((es : List ParamTree) → Open (k es)) × ((es : List ParamTree) (ys : List Lexeme) → IsMarks ps es xs ys → Carries G (k (with_all ds es)) ys)
    Carries G (at_locals ls k) xs = ((ds : List VariableTree) → Open (k ds)) × ((ds : List VariableTree) (ys : List Lexeme) → IsDeclared IsLocal false ds xs ys → Carries G (k (with_all ls ds)) ys)
    Carries G (in_locals ls k) xs = ((ds : List VariableTree) → Open (k ds)) × ((ds : List VariableTree) (ys : List Lexeme) → IsDeclared IsLocal true ds xs ys → Carries G (k (with_all ls ds)) ys)
    Carries G (may_comma k s) xs = ((t : Lexeme) (ys : List Lexeme) → At comma t xs ys → CarriesStep G (k t) ys) × Carries G s xs
    Carries G (at_use h) xs = (t : Lexeme) (ys zs : List Lexeme) → At directive t xs ys → IsEnd ys zs → GlobalsOn G false h [] zs
    Carries G (at_globals h gs) xs = GlobalsOn G false h gs xs
    Carries G (at_value h gs n) xs = ((i : Init) (ys : List Lexeme) → IsInit i xs ys → GlobalsOn G true h (gs ++ variable_of n i ∷ []) ys)
        × ((t : Lexeme) (ms : List (List ℕ)) (ys zs : List Lexeme) → At open_bracket t xs ys → IsMembers ms ys zs → TablesOn G true h gs [] (table_of n ms ∷ []) zs)
    Carries G (in_globals h gs) xs = GlobalsOn G true h gs xs
    Carries G (at_functions h gs fs) xs = FunctionsOn G h gs fs xs
    Carries G (at_tables h gs fs ts) xs = TablesOn G false h gs fs ts xs
    Carries G (in_tables h gs fs ts) xs = TablesOn G true h gs fs ts xs
    Carries G (at_export h gs fs ts) xs = PartOn G h gs fs ts xs
    Carries G (at_exports es k) xs = (ds : List ExportTree) (t : Lexeme) (ys zs : List Lexeme) → IsExports false ds xs ys → At close_brace t ys zs → CarriesStep G (k (with_all es ds)) zs
    Carries G (in_exports es k) xs = (ds : List ExportTree) (t : Lexeme) (ys zs : List Lexeme) → IsExports true ds xs ys → At close_brace t ys zs → CarriesStep G (k (with_all es ds)) zs
    Carries G (at_end b m) xs = IsOver b xs → Found (G ⊎ Here limit mark (whole_height m) xs) m

    pub CarriesStep : Type 0 → Step → List Lexeme → Type 0
    CarriesStep G (goes s) xs = Carries G s xs
    CarriesStep G (expects w k) xs = (t : Lexeme) (ys : List Lexeme) → Is w t xs ys → CarriesStep G (k t) ys
    CarriesStep G (either w d q k s) xs = ((t : Lexeme) (ys : List Lexeme) → Is w t xs ys → CarriesStep G (k t) ys) × ((t : Lexeme) (ys : List Lexeme) → At d t xs ys → CarriesStep G s ys)
    CarriesStep G (refuses f back) xs = ⊥

  -- what a token leads to
  abbrev pub Moves : Type 0 → Step → List Lexeme → Type 0
  Moves G (refuses f back) xs = Unit {0}
  Moves G s xs = CarriesStep G s xs

  -- ---- with less read

  pub wide : {G H A : Type 0} → (H → G) → H ⊎ A → G ⊎ A
  wide w (inl h) = inl (w h)
  wide w (inr a) = inr a

  found_mono : {G H : Type 0} → (H → G) → (m : ModuleTree) → Found G m → Found H m
  found_mono w m f = (f.0, λ h. f.1 (w h))

  pub exports_mono : {G H : Type 0} → (H → G) → (h : Heading) (gs : List VariableTree) (fs : List FunctionTree) (ts : List TableTree) (xs : List Lexeme) → ExportsOn G h gs fs ts xs → ExportsOn H h gs fs ts xs
  exports_mono w h gs fs ts xs r = λ ex t ys zs x j last. found_mono (wide w) (module_of h gs fs ts ex) (r ex t ys zs x j last)

  part_mono : {G H : Type 0} → (H → G) → (h : Heading) (gs : List VariableTree) (fs : List FunctionTree) (ts : List TableTree) (xs : List Lexeme) → PartOn G h gs fs ts xs → PartOn H h gs fs ts xs
  part_mono w h gs fs ts xs r = λ ex t ys zs line x j last. found_mono (wide w) (module_of h gs fs ts ex) (r ex t ys zs line x j last)

  pub tables_mono : {G H : Type 0} → (H → G) → (b : Bool) (h : Heading) (gs : List VariableTree) (fs : List FunctionTree) (ts : List TableTree) (xs : List Lexeme) → TablesOn G b h gs fs ts xs → TablesOn H b h gs fs ts xs
  tables_mono w b h gs fs ts xs r = λ ds ys x. exports_mono w h gs fs (with_all ts ds) ys (r ds ys x)

  pub functions_mono : {G H : Type 0} → (H → G) → (h : Heading) (gs : List VariableTree) (fs : List FunctionTree) (xs : List Lexeme) → FunctionsOn G h gs fs xs → FunctionsOn H h gs fs xs
  functions_mono w h gs fs xs r = λ ds ys x. tables_mono (wide w) false h gs (with_all fs ds) [] ys (r ds ys x)

  globals_mono : {G H : Type 0} → (H → G) → (b : Bool) (h : Heading) (gs : List VariableTree) (xs : List Lexeme) → GlobalsOn G b h gs xs → GlobalsOn H b h gs xs
  globals_mono w b h gs xs r = λ ds ys x. functions_mono w h (with_all gs ds) [] ys (r ds ys x)

  mutual
    pub mono : {G H : Type 0} → (H → G) → (s : State) (xs : List Lexeme) → Carries G s xs → Carries H s xs
    mono w (closes c q s) xs h = λ t ys i. mono_step w s ys (h t ys i)
    mono w (at_expr p k) xs h = λ e ys x stop. mono (wide w) (k e) ys (h e ys x stop)
    mono w (after_minus m k) xs h = (h.0, λ e ys x. mono (wide w) (k e) ys (h.1 e ys x))
    mono w (after_name p n k) xs h = (h.0, λ e ys x stop. mono (wide w) (k e) ys (h.1 e ys x stop))
    mono w (after_index p n i k) xs h = (h.0, h.1, h.2, λ e ys y g stop. mono (wide w) (k e) ys (h.3 e ys y g stop))
    mono w (after_expr p e k) xs h = (h.0, h.1, h.2, h.3, h.4, λ f ys y g stop. mono (wide w) (k f) ys (h.5 f ys y g stop))
    mono w (at_arguments k) xs h = λ es ys x. mono (wide w) (k es) ys (h es ys x)
    mono w (in_rest fs k) xs h = (h.0, λ es ys x stop. mono (wide w) (k (with_exprs fs es)) ys (h.1 es ys x stop))
    mono w (ends s) xs h = (h.0, λ ys end. mono w s ys (h.1 ys end))
    mono w (ends_do s) xs h = (h.0, λ ys end. mono w s ys (h.1 ys end))
    mono w (at_stmt k) xs h = (h.0, h.1, λ s ys x. mono (wide w) (k s) ys (h.2 s ys x))
    mono w (after_stmt_name n k) xs h = (h.0, h.1, h.2, λ s ys x. mono (wide w) (k s) ys (h.3 s ys x))
    mono w (at_option c q b k) xs h = λ o t ys zs x j. mono_step (wide w) (k o) zs (h o t ys zs x j)
    mono w (at_return k) xs h = (h.0, λ o ys x. mono (wide w) (k o) ys (h.1 o ys x))
    mono w (at_target k) xs h = (h.0, λ o ys x. mono w (k o) ys (h.1 o ys x))
    mono w (after_arm at c s k) xs h = (h.0, (λ alone. mono w (k (if_only at c s)) xs (h.1 alone)), λ t ys r zs i y. mono (wide w) (k (if_else at c s r)) zs (h.2 t ys r zs i y))
    mono w (after_body b s) xs h = λ t ys i. mono_step (wide w) s ys (h t ys i)
    mono w (at_stmts rs k) xs h = λ ss t ys zs x j. mono_step (wide w) (k (with_stmts rs ss)) zs (h ss t ys zs x j)
    mono w (at_clauses k) xs h = λ cs t ys zs x j. mono_step (wide w) (k cs) zs (h cs t ys zs x j)
    mono w (in_case v rs k) xs h = λ ss cs t ys zs ws x y j. mono_step (wide w) (k (one_clause (Some v) (with_stmts rs ss) cs)) ws (h ss cs t ys zs ws x y j)
    mono w (at_literal d k) xs h = λ i ys x. mono w (k i) ys (h i ys x)
    mono w (after_sign d m k) xs h = (h.0, λ i ys x. mono w (k i) ys (h.1 i ys x))
    mono w (at_init k) xs h = λ i ys x. mono w (k i) ys (h i ys x)
    mono w (after_member f p k) xs h = λ i ys x. mono w (k i) ys (h i ys x)
    mono w (in_names c q ns k) xs h = λ ms t ys zs x j. mono_step w (k (with_all ns ms)) zs (h ms t ys zs x j)
    mono w (at_marks ps ds k) xs h = (h.0, λ es ys x. mono w (k (with_all ds es)) ys (h.1 es ys x))
    mono w (at_locals ls k) xs h = (h.0, λ ds ys x. mono w (k (with_all ls ds)) ys (h.1 ds ys x))
    mono w (in_locals ls k) xs h = (h.0, λ ds ys x. mono w (k (with_all ls ds)) ys (h.1 ds ys x))
    mono w (may_comma k s) xs h = ((λ t ys i. mono_step w (k t) ys (h.0 t ys i)), mono w s xs h.1)
    mono w (at_use h) xs r = λ t ys zs i end. globals_mono w false h [] zs (r t ys zs i end)
    mono w (at_globals h gs) xs r = globals_mono w false h gs xs r
    mono w (at_value h gs n) xs r = ((λ i ys x. globals_mono w true h (gs ++ variable_of n i ∷ []) ys (r.0 i ys x)), λ t ms ys zs i x. tables_mono w true h gs [] (table_of n ms ∷ []) zs (r.1 t ms ys zs i x))
    mono w (in_globals h gs) xs r = globals_mono w true h gs xs r
    mono w (at_functions h gs fs) xs r = functions_mono w h gs fs xs r
    mono w (at_tables h gs fs ts) xs r = tables_mono w false h gs fs ts xs r
    mono w (in_tables h gs fs ts) xs r = tables_mono w true h gs fs ts xs r
    mono w (at_export h gs fs ts) xs r = part_mono w h gs fs ts xs r
    mono w (at_exports es k) xs h = λ ds t ys zs x j. mono_step w (k (with_all es ds)) zs (h ds t ys zs x j)
    mono w (in_exports es k) xs h = λ ds t ys zs x j. mono_step w (k (with_all es ds)) zs (h ds t ys zs x j)
    mono w (at_end b m) xs h = λ over. found_mono (wide w) m (h over)

    pub mono_step : {G H : Type 0} → (H → G) → (s : Step) (xs : List Lexeme) → CarriesStep G s xs → CarriesStep H s xs
    mono_step w (goes s) xs h = mono w s xs h
    mono_step w (expects v k) xs h = λ t ys i. mono_step w (k t) ys (h t ys i)
    mono_step w (either v d q k s) xs h = ((λ t ys i. mono_step w (k t) ys (h.0 t ys i)), λ t ys i. mono_step w s ys (h.1 t ys i))
    mono_step w (refuses f back) xs h = absurd h

  pub carries_moves : (G : Type 0) (s : Step) (xs : List Lexeme) → CarriesStep G s xs → Moves G s xs
  carries_moves G (goes s) xs h = h
  carries_moves G (expects w k) xs h = h
  carries_moves G (either w d q k s) xs h = h
  carries_moves G (refuses f back) xs h = absurd h

  -- ---- sums of what was read

  pub onto : {G A B : Type 0} → (A → B) → G ⊎ A → G ⊎ B
  onto f (inl g) = inl g
  onto f (inr a) = inr (f a)

  pub joined : {G A B : Type 0} → (G ⊎ A) ⊎ B → G ⊎ (A ⊎ B)
  joined (inl (inl g)) = inl g
  joined (inl (inr a)) = inr (inl a)
  joined (inr b) = inr (inr b)

  -- what is read first is in what is read next
  pub passed : {G A B : Type 0} → (A → B) → (G ⊎ A) ⊎ B → G ⊎ B
  passed f (inl (inl g)) = inl g
  passed f (inl (inr a)) = inr (f a)
  passed f (inr b) = inr b

  by_test : (G : Type 0) (xs : List Lexeme) (b : Bool) (x y : Step) → (b ≡ true → Moves G x xs) → (b ≡ false → Moves G y xs) → Moves G (cond b x y) xs
  by_test G xs b x y f g = cond_both b x y (λ s. Moves G s xs) f g

  -- ---- expressions

  pub high_at_level : {p q : ℕ} {e : ExprTree} {xs ys : List Lexeme} (le : p ≤ q) (x : IsExpr q e xs ys) → HighExpr limit mark x → HighExpr limit mark (at_level le x)
  unfolding at_level
  high_at_level le (an_operand x) h = h
  high_at_level le (a_binary low x i y) h = h
  high_at_level le (a_conditional low x i y j z) h = h
  high_at_level le (an_assignment low i j x) h = h
  high_at_level le (a_store low i x j y) h = h
  high_at_level le (a_list low x i y r) h = h

  -- an expression that is expected
  abbrev Wanted : Type 0 → ℕ → (ExprTree → State) → List Lexeme → Type 0
  Wanted G p k ws = (f : ExprTree) (zs : List Lexeme) (y : IsExpr p f ws zs) → Stops p zs → Carries (G ⊎ HighExpr limit mark y) (k f) zs

  -- the same, and it has such a node if A holds
  abbrev WantedWith : Type 0 → Type 0 → ℕ → (ExprTree → State) → List Lexeme → Type 0
  WantedWith G A p k ws = (f : ExprTree) (zs : List Lexeme) (y : IsExpr p f ws zs) → (A → HighExpr limit mark y) → Stops p zs → Carries (G ⊎ HighExpr limit mark y) (k f) zs

  operand_from : {G H : Type 0} {e : ExprTree} {ws ys : List Lexeme} (p : ℕ) (k : ExprTree → State) (x : IsOperand e ws ys) → WantedWith G (HighOperand limit mark x) p k ws → (H → G ⊎ HighOperand limit mark x) → Carries H (after_expr p e k) ys
  operand_from {G = G} {H = H} {ws = ws} {ys = ys} p k x h w =
      let le : p ≤ p + 14 = omega arith in
      (p + 14, ws, le, an_operand x, ends_top p ys, λ f zs y imp stop. mono (through y imp) (k f) zs (h f zs y imp stop))
    where
      through : {f : ExprTree} {us vs : List Lexeme} {r : ℕ} (y : IsExpr r f us vs) → (HighOperand limit mark x → HighExpr limit mark y) → H ⊎ HighExpr limit mark y → G ⊎ HighExpr limit mark y
      through y imp (inl g) = elim (w g) [ inl a ↦ inl a | inr a ↦ inr (imp a) ]
      through y imp (inr a) = inr a

  operand_carries : {G H : Type 0} {e : ExprTree} {ws ys : List Lexeme} (p : ℕ) (k : ExprTree → State) (x : IsOperand e ws ys) → Wanted G p k ws → (H → G ⊎ HighOperand limit mark x) → Carries H (after_expr p e k) ys
  operand_carries p k x h w = operand_from p k x (λ f zs y imp stop. h f zs y stop) w

  expr_carries : (G : Type 0) (c : Class) (t : Lexeme) (xs : List Lexeme) (p : ℕ) (k : ExprTree → State) → t.class ≡ c → Wanted G p k (t ∷ xs) → Moves G (expr_by c t p k) xs
  expr_carries G a_number t xs p k is h = operand_carries p k (a_literal (here is)) h (λ g. inl g)
  expr_carries G a_decimal t xs p k is h = operand_carries p k (a_decimal_literal (here is)) h (λ g. inl g)
  expr_carries G identifier t xs p k is h = (is, h)
  expr_carries G open_paren t xs p k is h = λ e ys x stop u zs j. operand_carries p k (in_parens (here is) x j) h (λ g. g)
  expr_carries G (operator Sub) t xs p k is h = (is, λ e ys x. operand_carries p k x h (λ g. g))
  expr_carries G (operator Add) t xs p k is h = λ e ys x stop. operand_carries p k (a_prefix a_plus (here is) x) h (onto (λ a. inr a))
  expr_carries G tilde t xs p k is h = λ e ys x stop. operand_carries p k (a_prefix a_tilde (here is) x) h (onto (λ a. inr a))
  expr_carries G bang t xs p k is h = λ e ys x stop. operand_carries p k (a_prefix a_bang (here is) x) h (onto (λ a. inr a))
  expr_carries G _ t xs p k is h = tt

  minus_carries : (G : Type 0) (c : Class) (t : Lexeme) (xs : List Lexeme) (m : Lexeme) (k : ExprTree → State) → t.class ≡ c → Carries G (after_minus m k) (t ∷ xs) → Moves G (minus_by c m t k) xs
  minus_carries G a_number t xs m k is r = by_test G xs (t.value == 0) _ _ (λ zero. tt) (λ no. mono (λ g. inl g) (k (literal m.at (neg_ℤ (pos t.value)))) xs (r.1 (literal m.at (neg_ℤ (pos t.value))) xs (a_negative (here r.0) (here (is, no)))))
  minus_carries G c t xs m k is r = expr_carries G c t xs 13 (λ e. k (unary m.at Neg e)) is (λ e ys x stop. mono (onto (λ a. inr a)) (k (unary m.at Neg e)) ys (r.1 (unary m.at Neg e) ys (a_minus (here r.0) (ap is_numeric is) x)))

  over : (G : Type 0) (c : Class) (t : Lexeme) (xs : List Lexeme) (p : ℕ) (e : ExprTree) (k : ExprTree → State) → t.class ≡ c → stops_at p c ≡ true → Carries G (after_expr p e k) (t ∷ xs) → Carries G (k e) (t ∷ xs)
  over G c t xs p e k is stop r = mono (λ g. inl g) (k e) (t ∷ xs) (r.5 e (t ∷ xs) (at_level r.2 r.3) (high_at_level r.2 r.3) (ap (stops_at p) is ∙ stop))

  infix_carries : (G : Type 0) (c : Class) (t : Lexeme) (xs : List Lexeme) (p : ℕ) (e : ExprTree) (k : ExprTree → State) (last : Step) → t.class ≡ c → Carries G (after_expr p e k) (t ∷ xs) → (Carries G (k e) (t ∷ xs) → Moves G last xs)
      → Moves G (infix_by c t p e k last) xs
  infix_carries G (operator op) t xs p e k last is r go = by_test G xs (nat_le p (level_of op)) _ last
      (λ le. λ f ys y stop.
      let high : 2 ≤ level_of op = omega (arith, level_high op) in
      let rank = rank_is (operator op) t xs r.0 is r.4 in
      (level_of op, r.1, leb-true p (level_of op) le, a_binary (same (level_of op)) (at_level rank r.3) (here is) y, ends_below (level_of op) ys high stop, λ z zs w imp stop2. mono (passed (λ a. imp (inr (inr a)))) (k z) zs (r.5 z zs w (λ a. imp (inr (inl (high_at_level rank r.3 a)))) stop2)))
      (λ no. go (over G (operator op) t xs p e k is (not_is (nat_le p (level_of op)) no) r))
  infix_carries G question t xs p e k last is r go = by_test G xs (nat_le p 1) _ last
      (λ le. λ a ys y stop u zs j b ws z end.
      let rank = rank_is question t xs r.0 is r.4 in
      (1, r.1, leb-true p 1 le, a_conditional (same 1) (at_level rank r.3) (here is) y j z, Stops-ends 1 ws end, λ f vs w imp stop2. mono (λ g. passed (λ a. imp (inr (inr a))) (wide joined g)) (k f) vs (r.5 f vs w (λ a. imp (inr (inl (high_at_level rank r.3 a)))) stop2)))
      (λ no. go (over G question t xs p e k is (not_is (nat_le p 1) no) r))
  infix_carries G comma t xs p e k last is r go = by_test G xs (nat_le p 0) _ last
      (λ le. λ f ys y stop. (
        stop,
        λ es zs x end.
            let rank = rank_is comma t xs r.0 is r.4 in
            subst (λ (fs : ExprTrees). Carries ((G ⊎ HighExpr limit mark y) ⊎ HighRest limit mark x) (after_expr p (listed t.at fs) k) zs) (sym (with_two e f es))
            (0, r.1, leb-true p 0 le, a_list (same 0) (at_level rank r.3) (here is) y x, Stops-ends 0 zs end, λ g vs w imp stop2. mono (λ u. passed (λ a. imp (inr (inr a))) (wide joined u)) (k g) vs (r.5 g vs w (λ a. imp (inr (inl (high_at_level rank r.3 a)))) stop2)),
      ))
      (λ no. go (over G comma t xs p e k is (not_is (nat_le p 0) no) r))
  infix_carries G open_paren t xs p e k last is r go = tt
  infix_carries G open_bracket t xs p e k last is r go = tt
  infix_carries G equals t xs p e k last is r go = tt
  infix_carries G c t xs p e k last is r go = go (over G c t xs p e k is refl r)

  name_carries : (G : Type 0) (c : Class) (t : Lexeme) (xs : List Lexeme) (p : ℕ) (n : Lexeme) (k : ExprTree → State) (last : Step) → t.class ≡ c → Carries G (after_name p n k) (t ∷ xs) → (Carries G (k (variable n.at n.text)) (t ∷ xs) → Moves G last xs)
      → Moves G (name_by c t p n k last) xs
  name_carries G open_bracket t xs p n k last is r go = λ i ys x stop u zs j. (t ∷ xs, r.0, an_index (here is) x j, λ e vs y imp stop2. mono (passed imp) (k e) vs (r.1 e vs y stop2))
  name_carries G open_paren t xs p n k last is r go = λ es ys x. operand_carries p k (a_call (here r.0) (here is) x) r.1 (onto (λ a. inr a))
  name_carries G equals t xs p n k last is r go = by_test G xs (nat_le p 1) _ (stuck t)
      (λ le. λ e ys x stop. (1, n ∷ t ∷ xs, leb-true p 1 le, an_assignment (same 1) (here r.0) (here is) x, Stops-ends 1 ys stop, λ f zs y imp stop2. mono (passed (λ a. imp (inr a))) (k f) zs (r.1 f zs y stop2)))
      (λ no. tt)
  name_carries G c t xs p n k last is r go = infix_carries G c t xs p (variable n.at n.text) k last is (operand_carries p k (a_variable (here r.0)) r.1 (λ g. inl g)) go

  index_carries : (G : Type 0) (c : Class) (t : Lexeme) (xs : List Lexeme) (p : ℕ) (n : Lexeme) (i : ExprTree) (k : ExprTree → State) (last : Step) → t.class ≡ c → Carries G (after_index p n i k) (t ∷ xs)
      → (Carries G (k (element n.at n.text i)) (t ∷ xs) → Moves G last xs) → Moves G (index_by c t p n i k last) xs
  index_carries G open_paren t xs p n i k last is r go = λ es ys x. operand_from p k (a_table_call (here r.1) r.2 (here is) x) (λ f zs y imp stop. r.3 f zs y (λ a. imp (inr (inl a))) stop) (onto (λ a. inr (inr a)))
  index_carries G equals t xs p n i k last is r go = by_test G xs (nat_le p 1) _ (stuck t)
      (λ le. λ e ys x stop. (1, n ∷ r.0, leb-true p 1 le, a_store (same 1) (here r.1) r.2 (here is) x, Stops-ends 1 ys stop, λ f zs y imp stop2. mono (passed (λ a. imp (inr (inr a)))) (k f) zs (r.3 f zs y (λ a. imp (inr (inl a))) stop2)))
      (λ no. tt)
  index_carries G c t xs p n i k last is r go = infix_carries G c t xs p (element n.at n.text i) k last is (operand_from p k (an_element (here r.1) r.2) (λ f zs y imp stop. r.3 f zs y (λ a. imp (inr a)) stop) (λ g. inl g)) go

  arguments_carry : (G : Type 0) (c : Class) (t : Lexeme) (xs : List Lexeme) (k : ExprTrees → State) → t.class ≡ c → Carries G (at_arguments k) (t ∷ xs) → Moves G (arguments_by c t k) xs
  arguments_carry G close_paren t xs k is h = mono (λ g. inl g) (k no_expr) xs (h no_expr xs (no_argument (here is)))
  arguments_carry G c t xs k is h = expr_carries G c t xs 1 (λ e. in_rest (one_expr e no_expr) (λ es. closes close_paren refl (goes (k es)))) is
      (λ e ys x stop. (stop, λ es zs r end u ws j. subst (λ (fs : ExprTrees). Carries ((G ⊎ HighExpr limit mark x) ⊎ HighRest limit mark r) (k fs) ws) (sym (with_one e es)) (mono joined (k (one_expr e es)) ws (h (one_expr e es) ws (arguments x r j)))))

  rest_carries : (G : Type 0) (c : Class) (t : Lexeme) (xs : List Lexeme) (fs : ExprTrees) (k : ExprTrees → State) (last : Step) → t.class ≡ c → Carries G (in_rest fs k) (t ∷ xs) → (Carries G (k fs) (t ∷ xs) → Moves G last xs) → Moves G (rest_by c fs k last) xs
  rest_carries G comma t xs fs k last is r go = λ e ys x stop. (stop, λ es zs y end. mono joined (k (with_exprs fs (one_expr e es))) zs (r.1 (one_expr e es) zs (a_further (here is) x y) end))
  rest_carries G c t xs fs k last is r go = go (mono (λ g. inl g) (k fs) (t ∷ xs) (r.1 no_expr (t ∷ xs) no_further (ap (stops_at 0) is ∙ no_list c (sym (ap (stops_at 1) is) ∙ r.0) refl)))

  -- ---- statements

  -- a statement that is above the limit itself
  here_stmt : (b : Bool) {s : StmtTree} {xs ys : List Lexeme} (x : IsStmt s xs ys) → Here limit mark (counted b s) ys → HighStmt limit mark b x
  here_stmt b (a_block i x j) h = inl h
  here_stmt b (a_plain x end) h = inl h
  here_stmt true (an_empty i) h = h
  here_stmt false (an_empty i) h = h
  here_stmt b (an_if_only i j x l y alone) h = inl h
  here_stmt b (an_if_else i j x l y m z) h = inl h
  here_stmt b (a_return i x) h = inl h
  here_stmt b (a_while i j x l y) h = inl h
  here_stmt b (a_do i y j l x m end) h = inl h
  here_stmt b (a_for i j x l y m z n w) h = inl h
  here_stmt true (a_break i x) h = h
  here_stmt false (a_break i x) h = h
  here_stmt true (a_continue i x) h = h
  here_stmt false (a_continue i x) h = h
  here_stmt true (a_labelled {n = n} {s = s} i j x) h = let lt = h.0 in here_stmt false x (omega (arith, under_body n s), h.1)
  here_stmt false (a_labelled {n = n} {s = s} i j x) h = let lt = h.0 in here_stmt false x (omega (arith, under_height n s), h.1)
  here_stmt b (a_switch i j x l m y n) h = inl h

  -- the statement that was put in last
  last_stmt : (rs : StmtTrees) {s : StmtTree} {xs ys : List Lexeme} (x : IsStmt s xs ys) → Here limit mark (last_height (more_stmts_of rs s)) ys → HighStmt limit mark false x
  last_stmt rs {s = s} x h = let lt = h.0 in here_stmt false x (omega (arith, last_of_more rs s), h.1)

  nothing_last : (xs : List Lexeme) → Here limit mark 0 xs → ⊥
  nothing_last xs h = let lt = h.0 in omega arith

  end_carries : (G : Type 0) (c : Class) (t : Lexeme) (xs : List Lexeme) (s : State) (last : Step) → t.class ≡ c → Carries G (ends s) (t ∷ xs) → (Carries G s (t ∷ xs) → Moves G last xs) → Moves G (end_by c t s last) xs
  end_carries G semicolon t xs s last is h go = h.1 xs (written (here is))
  end_carries G c t xs s last is h go = by_test G xs (may_miss_before c t.line) last (stuck t) (λ m. go (h.1 (t ∷ xs) (missing (ap (λ d. may_miss_before d t.line) is ∙ m)))) (λ no. tt)

  do_end_carries : (G : Type 0) (c : Class) (t : Lexeme) (xs : List Lexeme) (s : State) (last : Step) → t.class ≡ c → Carries G (ends_do s) (t ∷ xs) → (Carries G s (t ∷ xs) → Moves G last xs) → Moves G (do_end_by c s last) xs
  do_end_carries G semicolon t xs s last is h go = h.1 xs (do_written (here is))
  do_end_carries G c t xs s last is h go = go (h.1 (t ∷ xs) (do_missing (ap is_semicolon is)))

  option_carries : (G : Type 0) (d : Class) (t : Lexeme) (xs : List Lexeme) (c : Class) (q : is_quiet c ≡ true) (b : begins_expr c ≡ false) (k : Option ExprTree → Step) → t.class ≡ d → Carries G (at_option c q b k) (t ∷ xs) → Moves G (option_by d t c q k) xs
  option_carries G d t xs c q b k is h = by_test G xs (begins_expr d) _ _
      (λ yes. expr_carries G d t xs 0 (λ e. closes c q (k (Some e))) is (λ e ys x stop u zs j. h (Some e) u ys zs (present x) j))
      (λ no. by_test G xs (same_class c d) (k None) (stuck t) (λ yes. carries_moves G (k None) xs (mono_step (λ g. inl g) (k None) xs (h None t (t ∷ xs) xs absent (here (is ∙ same_is c d yes))))) (λ no. tt))

  return_carries : (G : Type 0) (c : Class) (t : Lexeme) (xs : List Lexeme) (k : Option ExprTree → State) (last : Step) → t.class ≡ c → Carries G (at_return k) (t ∷ xs) → (Carries G (ends (k None)) (t ∷ xs) → Moves G last xs) → Moves G (return_by c t k last) xs
  return_carries G c t xs k last is h go = by_test G xs (begins_expr c && not t.line) _ last
      (λ yes. expr_carries G c t xs 0 (λ e. ends (k (Some e))) is (λ e ys x stop. (h.0 (Some e), λ zs end. h.1 (Some e) zs (a_value (and_right (begins_expr c) (not t.line) yes) x end))))
      (λ no. go (h.0 None, λ ys end. mono (λ g. inl g) (k None) ys (h.1 None ys (no_value end))))

  target_carries : (G : Type 0) (c : Class) (t : Lexeme) (xs : List Lexeme) (k : Option (List ℕ) → State) (last : Step) → t.class ≡ c → Carries G (at_target k) (t ∷ xs) → (Carries G (ends (k None)) (t ∷ xs) → Moves G last xs) → Moves G (target_by c t k last) xs
  target_carries G identifier t xs k last is h go = by_test G xs t.line last _ (λ yes. go (h.0 None, λ ys end. h.1 None ys (no_label end))) (λ no. (h.0 (Some t.text), λ ys end. h.1 (Some t.text) ys (a_label (not_is t.line no) (here is) end)))
  target_carries G c t xs k last is h go = go (h.0 None, λ ys end. h.1 None ys (no_label end))

  arm_carries : (G : Type 0) (c : Class) (t : Lexeme) (xs : List Lexeme) (at : ℕ) (e : ExprTree) (s : StmtTree) (k : StmtTree → State) (last : Step) → t.class ≡ c → Carries G (after_arm at e s k) (t ∷ xs) → (Carries G (k (if_only at e s)) (t ∷ xs) → Moves G last xs)
      → Moves G (arm_by c at e s k last) xs
  arm_carries G else_word t xs at e s k last is r go = ((λ b. r.0 (if_else at e s b)), true, λ x ys y. r.2 t xs x ys (here is) y)
  arm_carries G c t xs at e s k last is r go = go (r.1 (ap (λ d. not (is_else d)) is))

  -- a statement that is expected
  abbrev WantedStmt : Type 0 → Bool → (StmtTree → State) → List Lexeme → Type 0
  WantedStmt G b k ws = (s : StmtTree) (ys : List Lexeme) (x : IsStmt s ws ys) → Carries (G ⊎ HighStmt limit mark b x) (k s) ys

  abbrev AllOpen : (StmtTree → State) → Type 0
  AllOpen k = (s : StmtTree) → Open (k s)

  joined3 : {G A B C : Type 0} → ((G ⊎ A) ⊎ B) ⊎ C → G ⊎ (A ⊎ (B ⊎ C))
  joined3 (inl (inl (inl g))) = inl g
  joined3 (inl (inl (inr a))) = inr (inl a)
  joined3 (inl (inr b)) = inr (inr (inl b))
  joined3 (inr c) = inr (inr (inr c))

  joined4 : {G A B C D : Type 0} → (((G ⊎ A) ⊎ B) ⊎ C) ⊎ D → G ⊎ (A ⊎ (B ⊎ (C ⊎ D)))
  joined4 (inl (inl (inl (inl g)))) = inl g
  joined4 (inl (inl (inl (inr a)))) = inr (inl a)
  joined4 (inl (inl (inr b))) = inr (inr (inl b))
  joined4 (inl (inr c)) = inr (inr (inr (inl c)))
  joined4 (inr d) = inr (inr (inr (inr d)))

  -- what is above the limit itself was read
  passed_back : {G A B : Type 0} → (B → A) → (G ⊎ A) ⊎ B → G ⊎ A
  passed_back f (inl g) = g
  passed_back f (inr b) = inr (f b)

  stmt_carries : (G : Type 0) (c : Class) (t : Lexeme) (xs : List Lexeme) (b : Bool) (k : StmtTree → State) → t.class ≡ c → AllOpen k → WantedStmt G b k (t ∷ xs) → Moves G (stmt_by c t k) xs
  stmt_carries G semicolon t xs b k is o h = mono (λ g. inl g) (k (empty t.at)) xs (h (empty t.at) xs (an_empty (here is)))
  stmt_carries G open_brace t xs b k is o h = λ ss u ys zs x j. subst (λ (rs : StmtTrees). Carries (G ⊎ (HighStmts limit mark x ⊎ Here limit mark 0 xs)) (k (block t.at rs)) zs) (sym (with_no_stmt ss))
      (mono (onto (elim [ inl a ↦ inr a | inr a ↦ absurd (nothing_last xs a) ])) (k (block t.at ss)) zs (h (block t.at ss) zs (a_block (here is) x j)))
  stmt_carries G if_word t xs b k is o h = λ u ys i c zs x stop v ws j. (
    (λ s. o (if_only t.at c s)),
    true,
    λ s vs y. (
      o,
      (λ alone. mono (λ g. onto (λ a. inr a) (joined g)) (k (if_only t.at c s)) vs (h (if_only t.at c s) vs (an_if_only (here is) i x j y alone))),
      λ w us r ts l z. mono (λ g. onto (λ a. inr a) (joined3 g)) (k (if_else t.at c s r)) ts (h (if_else t.at c s r) ts (an_if_else (here is) i x j y l z)),
    ),
  )
  stmt_carries G while_word t xs b k is o h = λ u ys i c zs x stop v ws j. ((λ s. o (while_loop t.at c s)), true, λ s vs y. mono (λ g. onto (λ a. inr a) (joined g)) (k (while_loop t.at c s)) vs (h (while_loop t.at c s) vs (a_while (here is) i x j y)))
  stmt_carries G do_word t xs b k is o h = (
    (λ s. tt),
    true,
    λ s ys y u zs i v ws j c vs x stop w us l. (
      o (do_loop t.at s c),
      λ ts end. mono (λ g. onto (λ a. inr a) (joined (wide (passed_back (here_stmt true y)) g))) (k (do_loop t.at s c)) ts (h (do_loop t.at s c) ts (a_do (here is) y i j x l end)),
    ),
  )
  stmt_carries G for_word t xs b k is o h = λ u ys i a v zs ws x j d w vs us y l c r ts qs z m. (
    (λ s. o (for_loop t.at a d c s)),
    true,
    λ s ps n. mono (λ g. onto (λ q. inr q) (joined4 g)) (k (for_loop t.at a d c s)) ps (h (for_loop t.at a d c s) ps (a_for (here is) i x j y l z m n)),
  )
  stmt_carries G return_word t xs b k is o h = ((λ v. o (returns t.at v)), λ v ys x. mono (onto (λ a. inr a)) (k (returns t.at v)) ys (h (returns t.at v) ys (a_return (here is) x)))
  stmt_carries G break_word t xs b k is o h = ((λ v. o (breaks t.at v)), λ v ys x. mono (λ g. inl g) (k (breaks t.at v)) ys (h (breaks t.at v) ys (a_break (here is) x)))
  stmt_carries G continue_word t xs b k is o h = ((λ v. o (continues t.at v)), λ v ys x. mono (λ g. inl g) (k (continues t.at v)) ys (h (continues t.at v) ys (a_continue (here is) x)))
  stmt_carries G switch_word t xs b k is o h = λ u ys i e zs x stop v ws j w vs l cs r us ts y m. mono (λ g. onto (λ a. inr a) (joined g)) (k (switches t.at e cs)) ts (h (switches t.at e cs) ts (a_switch (here is) i x j l y m))
  stmt_carries G identifier t xs b k is o h = (is, o, b, h)
  stmt_carries G c t xs b k is o h = expr_carries G c t xs 0 (λ e. ends (k (plain t.at e))) is (λ e ys x stop. (o (plain t.at e), λ zs end. mono (onto (λ a. inr a)) (k (plain t.at e)) zs (h (plain t.at e) zs (a_plain x end))))

  stmt_name_carries : (G : Type 0) (c : Class) (t : Lexeme) (xs : List Lexeme) (n : Lexeme) (k : StmtTree → State) (last : Step) → t.class ≡ c → Carries G (after_stmt_name n k) (t ∷ xs)
      → (Carries G (ends (k (plain n.at (variable n.at n.text)))) (t ∷ xs) → Moves G last xs) → Moves G (stmt_name_by c t n k last) xs
  stmt_name_carries G colon t xs n k last is r go = ((λ s. r.1 (under n s)), false, λ s ys x. r.3 (under n s) ys (a_labelled (here r.0) (here is) x))
  stmt_name_carries G c t xs n k last is r go = name_carries G c t xs 0 n (λ e. ends (k (plain n.at e))) last is (r.0, λ e ys x stop. (r.1 (plain n.at e), λ zs end. mono (onto (λ a. inr a)) (k (plain n.at e)) zs (r.3 (plain n.at e) zs (a_plain x end)))) go

  -- a statement more
  one_more : {G A B : Type 0} (rs : StmtTrees) {s : StmtTree} {xs ys : List Lexeme} (x : IsStmt s xs ys) → (G ⊎ HighStmt limit mark false x) ⊎ (A ⊎ Here limit mark (last_height (more_stmts_of rs s)) ys) → G ⊎ ((HighStmt limit mark false x ⊎ A) ⊎ B)
  one_more rs x (inl (inl g)) = inl g
  one_more rs x (inl (inr a)) = inr (inl (inl a))
  one_more rs x (inr (inl a)) = inr (inl (inr a))
  one_more rs x (inr (inr h)) = inr (inl (inl (last_stmt rs x h)))

  one_more_case : {G A C B : Type 0} (rs : StmtTrees) {s : StmtTree} {xs ys : List Lexeme} (x : IsStmt s xs ys) → (G ⊎ HighStmt limit mark false x) ⊎ ((A ⊎ C) ⊎ Here limit mark (last_height (more_stmts_of rs s)) ys) → G ⊎ (((HighStmt limit mark false x ⊎ A) ⊎ C) ⊎ B)
  one_more_case rs x (inl (inl g)) = inl g
  one_more_case rs x (inl (inr a)) = inr (inl (inl (inl a)))
  one_more_case rs x (inr (inl (inl a))) = inr (inl (inl (inr a)))
  one_more_case rs x (inr (inl (inr c))) = inr (inl (inr c))
  one_more_case rs x (inr (inr h)) = inr (inl (inl (inl (last_stmt rs x h))))

  stmts_carry : (G : Type 0) (c : Class) (t : Lexeme) (xs : List Lexeme) (rs : StmtTrees) (k : StmtTrees → Step) → t.class ≡ c → Carries G (at_stmts rs k) (t ∷ xs) → Moves G (stmts_by c t rs k) xs
  stmts_carry G close_brace t xs rs k is h = carries_moves G (k rs) xs (mono_step (λ g. inl g) (k rs) xs (h no_stmt t (t ∷ xs) xs no_stmts (here is)))
  stmts_carry G c t xs rs k is h = stmt_carries G c t xs false (λ s. at_stmts (more_stmts_of rs s) k) is (λ s. tt)
      (λ s ys x ss u zs ws y j. mono_step (one_more rs x) (k (with_stmts rs (one_stmt s ss))) ws (h (one_stmt s ss) u zs ws (more_stmts x y) j))

  literal_case : (G : Type 0) {i : Init} {d : Bool} {xs ys : List Lexeme} (k : ClauseTrees → Step) → IsLiteral d i xs ys → d ≡ false → (zs : List Lexeme) → ((v : ℤ) → IsLiteral false (number v) xs ys → Carries G (in_case v no_stmt k) zs)
      → Carries G (case_value i (λ v. in_case v no_stmt k)) zs
  literal_case G k (positive {t = t} i) is zs h = h (pos t.value) (positive i)
  literal_case G k (negative {t = t} i j) is zs h = h (neg_ℤ (pos t.value)) (negative i j)
  literal_case G k (positive_decimal i) is zs h = absurd cc
  literal_case G k (negative_decimal i j) is zs h = absurd cc

  -- before the first statement of a clause
  first_stmts : {A : Type 0} (xs : List Lexeme) → A ⊎ Here limit mark 0 xs → A
  first_stmts xs (inl a) = a
  first_stmts xs (inr h) = absurd (nothing_last xs h)

  clauses_carry : (G : Type 0) (c : Class) (t : Lexeme) (xs : List Lexeme) (k : ClauseTrees → Step) → t.class ≡ c → Carries G (at_clauses k) (t ∷ xs) → Moves G (clauses_by c t k) xs
  clauses_carry G case_word t xs k is h = λ i ys l u zs j. literal_case G k l refl zs (λ v x ss cs w ws vs us y z m.
      subst (λ (rs : StmtTrees). CarriesStep (G ⊎ ((HighStmts limit mark y ⊎ HighClauses limit mark z) ⊎ Here limit mark 0 zs)) (k (one_clause (Some v) rs cs)) us) (sym (with_no_stmt ss))
      (mono_step (onto (first_stmts zs)) (k (one_clause (Some v) ss cs)) us (h (one_clause (Some v) ss cs) w vs us (a_case (here is) x j y z) m)))
  clauses_carry G default_word t xs k is h = λ u ys i ss w zs ws x j. subst (λ (rs : StmtTrees). CarriesStep (G ⊎ (HighStmts limit mark x ⊎ Here limit mark 0 ys)) (k (one_clause None rs no_clause)) ws) (sym (with_no_stmt ss))
      (mono_step (onto (first_stmts ys)) (k (one_clause None ss no_clause)) ws (h (one_clause None ss no_clause) w zs ws (a_default (here is) i x) j))
  clauses_carry G close_brace t xs k is h = carries_moves G (k no_clause) xs (mono_step (λ g. inl g) (k no_clause) xs (h no_clause t (t ∷ xs) xs no_clauses (here is)))
  clauses_carry G _ t xs k is h = tt

  in_case_carries : (G : Type 0) (c : Class) (t : Lexeme) (xs : List Lexeme) (v : ℤ) (rs : StmtTrees) (k : ClauseTrees → Step) → t.class ≡ c → Carries G (in_case v rs k) (t ∷ xs) → Moves G (in_case_by c t v rs k) xs
  in_case_carries G case_word t xs v rs k is h = clauses_carry G case_word t xs (λ cs. k (one_clause (Some v) rs cs)) is (λ cs u ys zs x j. mono_step (onto (λ a. inl (inr a))) (k (one_clause (Some v) rs cs)) zs (h no_stmt cs u (t ∷ xs) ys zs no_stmts x j))
  in_case_carries G default_word t xs v rs k is h = clauses_carry G default_word t xs (λ cs. k (one_clause (Some v) rs cs)) is (λ cs u ys zs x j. mono_step (onto (λ a. inl (inr a))) (k (one_clause (Some v) rs cs)) zs (h no_stmt cs u (t ∷ xs) ys zs no_stmts x j))
  in_case_carries G close_brace t xs v rs k is h = clauses_carry G close_brace t xs (λ cs. k (one_clause (Some v) rs cs)) is (λ cs u ys zs x j. mono_step (onto (λ a. inl (inr a))) (k (one_clause (Some v) rs cs)) zs (h no_stmt cs u (t ∷ xs) ys zs no_stmts x j))
  in_case_carries G c t xs v rs k is h = stmt_carries G c t xs false (λ s. in_case v (more_stmts_of rs s) k) is (λ s. tt)
      (λ s ys x ss cs u zs ws vs y z j. mono_step (one_more_case rs x) (k (one_clause (Some v) (with_stmts rs (one_stmt s ss)) cs)) vs (h (one_stmt s ss) cs u zs ws vs (more_stmts x y) z j))

  -- ---- declarations

  literal_carries : (G : Type 0) (c : Class) (t : Lexeme) (xs : List Lexeme) (d : Bool) (k : Init → State) → t.class ≡ c → Carries G (at_literal d k) (t ∷ xs) → Moves G (literal_by c t d k) xs
  literal_carries G a_number t xs d k is h = h (number (pos t.value)) xs (positive (here is))
  literal_carries G a_decimal t xs true k is h = h (decimal t.text) xs (positive_decimal (here is))
  literal_carries G a_decimal t xs false k is h = tt
  literal_carries G (operator Sub) t xs d k is h = (is, h)
  literal_carries G _ t xs d k is h = tt

  sign_carries : (G : Type 0) (c : Class) (t : Lexeme) (xs : List Lexeme) (d : Bool) (m : Lexeme) (k : Init → State) → t.class ≡ c → Carries G (after_sign d m k) (t ∷ xs) → Moves G (sign_by c t d m k) xs
  sign_carries G a_number t xs d m k is r = by_test G xs (t.value == 0) _ _ (λ zero. tt) (λ no. r.1 (number (neg_ℤ (pos t.value))) xs (negative (here r.0) (here (is, no))))
  sign_carries G a_decimal t xs true m k is r = r.1 (decimal (45 ∷ t.text)) xs (negative_decimal (here r.0) (here is))
  sign_carries G a_decimal t xs false m k is r = tt
  sign_carries G _ t xs d m k is r = tt

  init_carries : (G : Type 0) (c : Class) (t : Lexeme) (xs : List Lexeme) (k : Init → State) → t.class ≡ c → Carries G (at_init k) (t ∷ xs) → Moves G (init_by c t k) xs
  init_carries G identifier t xs k is h = λ u ys i p zs j. λ x ws y. h x ws (of_member (here is) i j y)
  init_carries G (operator Add) t xs k is h = λ f ys i u zs j p ws l. h (foreign_double f.text p.text) ws (of_double (here is) i j l)
  init_carries G new_word t xs k is h = λ f ys i u zs j p ws l v vs m b us n w ts o. h (view f.text p.text b.text) ts (of_view (here is) i j l m n o)
  init_carries G c t xs k is h = literal_carries G c t xs true k is (λ i ys x. h i ys (of_literal x))

  member_carries : (G : Type 0) (c : Class) (t : Lexeme) (xs : List Lexeme) (f p : Lexeme) (k : Init → State) (last : Step) → t.class ≡ c → Carries G (after_member f p k) (t ∷ xs) → (Carries G (k (member f.text p.text)) (t ∷ xs) → Moves G last xs) → Moves G (member_by c t f p k last) xs
  member_carries G (operator Or) t xs f p k last is h go = λ u ys i. h (foreign_int f.text p.text) ys (an_int (here is) i)
  member_carries G dot t xs f p k last is h go = by_test G xs (bytes_eq (codes "Math") p.text) _ (stuck t) (λ yes. λ q ys i. h (math f.text q.text) ys (a_math yes (here is) i)) (λ no. tt)
  member_carries G c t xs f p k last is h go = go (h (member f.text p.text) (t ∷ xs) a_member)

  names_carry : (G : Type 0) (d : Class) (t : Lexeme) (xs : List Lexeme) (c : Class) (q : is_quiet c ≡ true) (ns : List Lexeme) (k : List Lexeme → Step) → t.class ≡ d → Carries G (in_names c q ns k) (t ∷ xs) → Moves G (names_by d t c q ns k) xs
  names_carry G comma t xs c q ns k is h = λ n ys i ms u zs ws r j. h (n ∷ ms) u zs ws (more_names (here is) i r) j
  names_carry G d t xs c q ns k is h = by_test G xs (same_class c d) (k ns) (stuck t) (λ yes. carries_moves G (k ns) xs (h [] t (t ∷ xs) xs no_names (here (is ∙ same_is c d yes)))) (λ no. tt)

  marks_open : (ps : List Lexeme) (ds : List ParamTree) (k : List ParamTree → State) → ((es : List ParamTree) → Open (k es)) → Open (at_marks ps ds k)
  marks_open [] ds k o = o ds
  marks_open (p ∷ ps) ds k o = tt

  mark_carries : (G : Type 0) (t : Lexeme) (xs : List Lexeme) (p : Lexeme) (ps : List Lexeme) (ds : List ParamTree) (k : List ParamTree → State) → Carries G (at_marks (p ∷ ps) ds k) (t ∷ xs) → Moves G (mark_step t p ps ds k) xs
  mark_carries G t xs p ps ds k h = by_test G xs (meets (named p.text) t) _ (stuck t)
      (λ yes. λ b ys i. (
        λ c zs j d ws l e vs m. (marks_open ps (ds ++ int_mark p ∷ []) k h.0, λ us end. (h.0, λ es ts r. h.1 (int_mark p ∷ es) ts (an_int_mark (here (meets_is (named p.text) t yes)) i j l m end r))),
        λ c zs j. λ d ws l. (marks_open ps (ds ++ double_mark p ∷ []) k h.0, λ us end. (h.0, λ es ts r. h.1 (double_mark p ∷ es) ts (a_double_mark (here (meets_is (named p.text) t yes)) i j l end r))),
      ))
      (λ no. tt)

  local_carries : (G : Type 0) (xs : List Lexeme) (ls : List VariableTree) (k : List VariableTree → State) → ((ds : List VariableTree) → Open (k ds))
      → ((l : VariableTree) (ds : List VariableTree) (ys zs : List Lexeme) → IsLocal l xs ys → IsDeclared IsLocal true ds ys zs → Carries G (k (with_all ls (l ∷ ds))) zs) → CarriesStep G (local_step ls k) xs
  local_carries G xs ls k o h = λ n ys i u zs j. λ x vs l. (o, λ ds us y. h (variable_of n x) ds vs us (a_local i j l) y)

  locals_carry : (G : Type 0) (c : Class) (t : Lexeme) (xs : List Lexeme) (ls : List VariableTree) (k : List VariableTree → State) (last : Step) → t.class ≡ c → Carries G (at_locals ls k) (t ∷ xs) → (Carries G (k ls) (t ∷ xs) → Moves G last xs) → Moves G (locals_by c ls k last) xs
  locals_carry G var_word t xs ls k last is h go = local_carries G xs ls k h.0 (λ l ds ys zs x y. h.1 (l ∷ ds) zs (a_var (here is) x y))
  locals_carry G c t xs ls k last is h go = go (h.1 [] (t ∷ xs) no_var)

  in_locals_carry : (G : Type 0) (c : Class) (t : Lexeme) (xs : List Lexeme) (ls : List VariableTree) (k : List VariableTree → State) (last : Step) → t.class ≡ c → Carries G (in_locals ls k) (t ∷ xs) → (Carries G (at_locals ls k) (t ∷ xs) → Moves G last xs)
      → Moves G (in_locals_by c t ls k last) xs
  in_locals_carry G comma t xs ls k last is h go = local_carries G xs ls k h.0 (λ l ds ys zs x y. h.1 (l ∷ ds) zs (a_comma (here is) x y))
  in_locals_carry G c t xs ls k last is h go = end_carries G c t xs (at_locals ls k) last is (h.0 ls, λ ys end. (h.0, λ ds zs x. h.1 ds zs (an_end end x))) go

  -- ---- modules

  export_carries : (G : Type 0) (t : Lexeme) (xs : List Lexeme) (h : Heading) (gs : List VariableTree) (fs : List FunctionTree) (ts : List TableTree) → t.class ≡ return_word → ExportsOn G h gs fs ts (t ∷ xs) → CarriesStep G (export_step h gs fs ts) xs
  export_carries G t xs h gs fs ts is r = λ ex w ys zs line x j last. r ex w ys zs (an_exported (here is) line x) j last

  part_carries : (G : Type 0) (c : Class) (t : Lexeme) (xs : List Lexeme) (h : Heading) (gs : List VariableTree) (fs : List FunctionTree) (ts : List TableTree) → t.class ≡ c → not t.line ≡ true → PartOn G h gs fs ts (t ∷ xs) → Moves G (export_by c t h gs fs ts) xs
  part_carries G identifier t xs h gs fs ts is line r = (refl, λ zs end w ws j last. r (one t.at t.text) w zs ws line (export_one (here is) end) j last)
  part_carries G open_brace t xs h gs fs ts is line r = λ es v zs ws x j. (
    refl,
    λ vs end w us l last.
        subst (λ (ds : List ExportTree). Found (G ⊎ Here limit mark (whole_height (module_of h gs fs ts (many ds))) us) (module_of h gs fs ts (many ds))) (sym (with_nothing es)) (r (many es) w vs us line (export_many (here is) x j end) l last),
  )
  part_carries G _ t xs h gs fs ts is line r = tt

  members_carry : (G : Type 0) (xs : List Lexeme) (n : Lexeme) (h : Heading) (gs : List VariableTree) (fs : List FunctionTree) (ts : List TableTree)
      → ((ms : List (List ℕ)) (ys : List Lexeme) → IsMembers ms xs ys → TablesOn G true h gs fs (ts ++ table_of n ms ∷ []) ys) → CarriesStep G (members_step n h gs fs ts) xs
  members_carry G xs n h gs fs ts r = λ m ys i ms u zs ws x j. subst (λ (ns : List Lexeme). TablesOn G true h gs fs (ts ++ table_of n (m.text ∷ texts ns) ∷ []) ws) (sym (with_nothing ms)) (r (m.text ∷ texts ms) ws (members_of i x j))

  table_carries : (G : Type 0) (xs : List Lexeme) (h : Heading) (gs : List VariableTree) (fs : List FunctionTree) (ts : List TableTree)
      → ((d : TableTree) (ds : List TableTree) (ys zs : List Lexeme) → IsTable d xs ys → IsDeclared IsTable true ds ys zs → ExportsOn G h gs fs (with_all ts (d ∷ ds)) zs) → CarriesStep G (table_step h gs fs ts) xs
  table_carries G xs h gs fs ts r = λ n ys i u zs j v ws l. members_carry G ws n h gs fs ts (λ ms vs m ds us y. r (table_of n ms) ds vs us (a_table i j l m) y)

  body_carries : (G : Type 0) (xs : List Lexeme) (n : Lexeme) (ps : List Lexeme) (h : Heading) (gs : List VariableTree) (fs : List FunctionTree)
      → ((ds : List ParamTree) (ls : List VariableTree) (ss : StmtTrees) (u w : Lexeme) (ys zs ws vs us : List Lexeme) → At open_brace u xs ys → IsMarks ps ds ys zs → IsDeclared IsLocal false ls zs ws → (z : IsStmts ss ws vs) → At close_brace w vs us
      → FunctionsOn (G ⊎ HighStmts limit mark z) h gs (fs ++ function_of n ds ls ss ∷ []) us)
      → CarriesStep G (body_step n ps h gs fs) xs
  body_carries G xs n ps h gs fs r = λ u ys i. (
    (λ es. tt),
    λ ds zs x. (
      (λ ks. tt),
      λ ls ws y ss w vs us z j.
          subst (λ (es : List ParamTree). FunctionsOn (G ⊎ (HighStmts limit mark z ⊎ Here limit mark 0 ws)) h gs (fs ++ function_of n es (with_all [] ls) (with_stmts no_stmt ss) ∷ []) us) (sym (with_nothing ds))
          (subst (λ (es : List VariableTree). FunctionsOn (G ⊎ (HighStmts limit mark z ⊎ Here limit mark 0 ws)) h gs (fs ++ function_of n ds es (with_stmts no_stmt ss) ∷ []) us) (sym (with_nothing ls))
          (subst (λ (es : StmtTrees). FunctionsOn (G ⊎ (HighStmts limit mark z ⊎ Here limit mark 0 ws)) h gs (fs ++ function_of n ds ls es ∷ []) us) (sym (with_no_stmt ss))
          (functions_mono (onto (first_stmts ws)) h gs (fs ++ function_of n ds ls ss ∷ []) us (r ds ls ss u w ys zs ws vs us i x y z j)))),
    ),
  )

  -- the function that was put in last
  one_function : {G A B C : Type 0} (fs : List FunctionTree) (f : FunctionTree) (us : List Lexeme) → (G ⊎ A) ⊎ (B ⊎ Here limit mark (last_function (fs ++ f ∷ [])) us) → G ⊎ (((Here limit mark (function_height (modules.function_of f)) us ⊎ A) ⊎ B) ⊎ C)
  one_function fs f us (inl (inl g)) = inl g
  one_function fs f us (inl (inr a)) = inr (inl (inl (inr a)))
  one_function fs f us (inr (inl b)) = inr (inl (inr b))
  one_function fs f us (inr (inr h)) = let lt = h.0 in inr (inl (inl (inl (omega (arith, last_function_more fs f), h.1))))

  function_carries : (G : Type 0) (t : Lexeme) (xs : List Lexeme) (h : Heading) (gs : List VariableTree) (fs : List FunctionTree) → t.class ≡ function_word → FunctionsOn G h gs fs (t ∷ xs) → CarriesStep G (function_step h gs fs) xs
  function_carries G t xs h gs fs is r = λ n ys i u zs j.
      let body : (ps : List Lexeme) (vs : List Lexeme) → IsParams ps zs vs → CarriesStep G (body_step n ps h gs fs) vs =
      λ ps vs x. body_carries G vs n ps h gs fs (λ ds ls ss a b us ts rs qs os l y z w m es ns q.
      tables_mono (one_function fs (function_of n ds ls ss) os) false h gs (with_all fs (function_of n ds ls ss ∷ es)) [] ns (r (function_of n ds ls ss ∷ es) ns (more_functions (a_function (here is) i j x l y z w m) q))) in (
        λ p ws l ms v vs us x m. subst (λ (ns : List Lexeme). CarriesStep G (body_step n (p ∷ ns) h gs fs) us) (sym (with_nothing ms)) (body (p ∷ ms) us (some_params l x m)),
        λ v ws l. body [] ws (no_params l),
      )

  globals_carry : (G : Type 0) (c : Class) (t : Lexeme) (xs : List Lexeme) (h : Heading) (gs : List VariableTree) → t.class ≡ c → GlobalsOn G false h gs (t ∷ xs) → Moves G (globals_by c t h gs) xs
  globals_carry G var_word t xs h gs is r = λ n ys i u zs j. (
    λ x ws y ds vs z. r (variable_of n x ∷ ds) vs (a_var (here is) (a_global i j y) z),
    λ v ms ws vs l m ds us y. exports_mono (λ g. inl g) h gs [] (with_all [] (table_of n ms ∷ ds)) us (r [] (t ∷ xs) no_var [] (t ∷ xs) no_functions (table_of n ms ∷ ds) us (a_var (here is) (a_table i j l m) y)),
  )
  globals_carry G function_word t xs h gs is r = function_carries G t xs h gs [] is (r [] (t ∷ xs) no_var)
  globals_carry G return_word t xs h gs is r = export_carries G t xs h gs [] [] is (exports_mono (λ g. inl g) h gs [] [] (t ∷ xs) (r [] (t ∷ xs) no_var [] (t ∷ xs) no_functions [] (t ∷ xs) no_var))
  globals_carry G _ t xs h gs is r = tt

  value_carries : (G : Type 0) (c : Class) (t : Lexeme) (xs : List Lexeme) (h : Heading) (gs : List VariableTree) (n : Lexeme) → t.class ≡ c → Carries G (at_value h gs n) (t ∷ xs) → Moves G (value_by c t h gs n) xs
  value_carries G open_bracket t xs h gs n is r = members_carry G xs n h gs [] [] (λ ms ys x. r.1 t ms xs ys (here is) x)
  value_carries G c t xs h gs n is r = init_carries G c t xs (λ i. in_globals h (gs ++ variable_of n i ∷ [])) is r.0

  in_globals_carry : (G : Type 0) (c : Class) (t : Lexeme) (xs : List Lexeme) (h : Heading) (gs : List VariableTree) → t.class ≡ c → GlobalsOn G true h gs (t ∷ xs) → Moves G (in_globals_by c t h gs) xs
  in_globals_carry G comma t xs h gs is r = λ n ys i u zs j. λ x ws y ds vs z. r (variable_of n x ∷ ds) vs (a_comma (here is) (a_global i j y) z)
  in_globals_carry G c t xs h gs is r = end_carries G c t xs (at_globals h gs) (globals_by c t h gs) is (tt, λ ys end ds zs x. r ds zs (an_end end x)) (λ g. globals_carry G c t xs h gs is g)

  functions_carry : (G : Type 0) (c : Class) (t : Lexeme) (xs : List Lexeme) (h : Heading) (gs : List VariableTree) (fs : List FunctionTree) → t.class ≡ c → FunctionsOn G h gs fs (t ∷ xs) → Moves G (functions_by c t h gs fs) xs
  functions_carry G var_word t xs h gs fs is r = table_carries G xs h gs fs [] (λ d ds ys zs x y. exports_mono (λ g. inl g) h gs fs (with_all [] (d ∷ ds)) zs (r [] (t ∷ xs) no_functions (d ∷ ds) zs (a_var (here is) x y)))
  functions_carry G function_word t xs h gs fs is r = function_carries G t xs h gs fs is r
  functions_carry G return_word t xs h gs fs is r = export_carries G t xs h gs fs [] is (exports_mono (λ g. inl g) h gs fs [] (t ∷ xs) (r [] (t ∷ xs) no_functions [] (t ∷ xs) no_var))
  functions_carry G _ t xs h gs fs is r = tt

  tables_carry : (G : Type 0) (c : Class) (t : Lexeme) (xs : List Lexeme) (h : Heading) (gs : List VariableTree) (fs : List FunctionTree) (ts : List TableTree) → t.class ≡ c → TablesOn G false h gs fs ts (t ∷ xs) → Moves G (tables_by c t h gs fs ts) xs
  tables_carry G var_word t xs h gs fs ts is r = table_carries G xs h gs fs ts (λ d ds ys zs x y. r (d ∷ ds) zs (a_var (here is) x y))
  tables_carry G return_word t xs h gs fs ts is r = export_carries G t xs h gs fs ts is (r [] (t ∷ xs) no_var)
  tables_carry G _ t xs h gs fs ts is r = tt

  in_tables_carry : (G : Type 0) (c : Class) (t : Lexeme) (xs : List Lexeme) (h : Heading) (gs : List VariableTree) (fs : List FunctionTree) (ts : List TableTree) → t.class ≡ c → TablesOn G true h gs fs ts (t ∷ xs) → Moves G (in_tables_by c t h gs fs ts) xs
  in_tables_carry G comma t xs h gs fs ts is r = table_carries G xs h gs fs ts (λ d ds ys zs x y. r (d ∷ ds) zs (a_comma (here is) x y))
  in_tables_carry G c t xs h gs fs ts is r = end_carries G c t xs (at_tables h gs fs ts) (tables_by c t h gs fs ts) is (tt, λ ys end ds zs x. r ds zs (an_end end x)) (λ g. tables_carry G c t xs h gs fs ts is g)

  exports_carry : (G : Type 0) (t : Lexeme) (xs : List Lexeme) (es : List ExportTree) (k : List ExportTree → Step) → Carries G (at_exports es k) (t ∷ xs) → Moves G (exports_step t es k) xs
  exports_carry G t xs es k h = by_test G xs (is_word t.class) _ _
      (λ yes. λ u ys i f zs j ds w ws vs x l. h (export_of t f ∷ ds) w ws vs (next_export (an_export (here yes) i j) x) l)
      (λ no. by_test G xs (same_class close_brace t.class) (k es) (stuck t) (λ yes. carries_moves G (k es) xs (h [] t (t ∷ xs) xs no_export (here (same_is close_brace t.class yes)))) (λ no. tt))

  in_exports_carry : (G : Type 0) (c : Class) (t : Lexeme) (xs : List Lexeme) (es : List ExportTree) (k : List ExportTree → Step) → t.class ≡ c → Carries G (in_exports es k) (t ∷ xs) → Moves G (in_exports_by c t es k) xs
  in_exports_carry G comma t xs es k is h = λ ds u ys zs x j. h ds u ys zs (after_comma (here is) x) j
  in_exports_carry G close_brace t xs es k is h = carries_moves G (k es) xs (h [] t (t ∷ xs) xs no_export (here is))
  in_exports_carry G _ t xs es k is h = tt

  use_carries : (G : Type 0) (c : Class) (t : Lexeme) (xs : List Lexeme) (h : Heading) → t.class ≡ c → Carries G (at_use h) (t ∷ xs) → Moves G (use_by c t h) xs
  use_carries G directive t xs h is r = (tt, λ ys end. r t xs ys (here is) end)
  use_carries G _ t xs h is r = tt

  -- the `;` after the module
  past_end : {G : Type 0} (m : ModuleTree) (t : Lexeme) (xs : List Lexeme) → G ⊎ Here limit mark (whole_height m) xs → G ⊎ Here limit mark (whole_height m) (t ∷ xs)
  past_end m t xs (inl g) = inl g
  past_end m t xs (inr h) = let le = h.1 in inr (h.0, omega arith)

  end_over : (G : Type 0) (b : Bool) (c : Class) (t : Lexeme) (xs : List Lexeme) (m : ModuleTree) → t.class ≡ c → Carries G (at_end b m) (t ∷ xs) → Moves G (end_step b c t m) xs
  end_over G true semicolon t xs m is h = λ e. found_mono (past_end m t xs) m (h (subst (λ (ys : List Lexeme). IsLast (t ∷ ys)) (sym e) (last_semicolon (here is))))
  end_over G true _ t xs m is h = tt
  end_over G false c t xs m is h = tt

  comma_carries : (G : Type 0) (c : Class) (t : Lexeme) (xs : List Lexeme) (k : Lexeme → Step) (s : State) (last : Step) → t.class ≡ c → Carries G (may_comma k s) (t ∷ xs) → (Carries G s (t ∷ xs) → Moves G last xs) → Moves G (comma_by c t k last) xs
  comma_carries G comma t xs k s last is r go = carries_moves G (k t) xs (r.0 t xs (here is))
  comma_carries G c t xs k s last is r go = go r.1

  -- ---- a token

  pub feed_carries : (G : Type 0) (s : State) (t : Lexeme) (xs : List Lexeme) → Carries G s (t ∷ xs) → Moves G (feed s t) xs
  feed_carries G (closes c q s) t xs h = by_test G xs (same_class c t.class) s (stuck t) (λ yes. carries_moves G s xs (h t xs (here (same_is c t.class yes)))) (λ no. tt)
  feed_carries G (at_expr p k) t xs h = expr_carries G t.class t xs p k refl h
  feed_carries G (after_minus m k) t xs h = minus_carries G t.class t xs m k refl h
  feed_carries G (after_name p n k) t xs h = name_carries G t.class t xs p n k _ refl h (λ r. feed_carries G (k (variable n.at n.text)) t xs r)
  feed_carries G (after_index p n i k) t xs h = index_carries G t.class t xs p n i k _ refl h (λ r. feed_carries G (k (element n.at n.text i)) t xs r)
  feed_carries G (after_expr p e k) t xs h = infix_carries G t.class t xs p e k _ refl h (λ r. feed_carries G (k e) t xs r)
  feed_carries G (at_arguments k) t xs h = arguments_carry G t.class t xs k refl h
  feed_carries G (in_rest es k) t xs h = rest_carries G t.class t xs es k _ refl h (λ r. feed_carries G (k es) t xs r)
  feed_carries G (ends s) t xs h = end_carries G t.class t xs s _ refl h (λ r. feed_carries G s t xs r)
  feed_carries G (ends_do s) t xs h = do_end_carries G t.class t xs s _ refl h (λ r. feed_carries G s t xs r)
  feed_carries G (at_stmt k) t xs h = stmt_carries G t.class t xs h.1 k refl h.0 h.2
  feed_carries G (after_stmt_name n k) t xs h =
      stmt_name_carries G t.class t xs n k _ refl h (λ r. end_carries G t.class t xs (k (plain n.at (variable n.at n.text))) _ refl r (λ g. feed_carries G (k (plain n.at (variable n.at n.text))) t xs g))
  feed_carries G (at_option c q b k) t xs h = option_carries G t.class t xs c q b k refl h
  feed_carries G (at_return k) t xs h = return_carries G t.class t xs k _ refl h (λ r. end_carries G t.class t xs (k None) _ refl r (λ g. feed_carries G (k None) t xs g))
  feed_carries G (at_target k) t xs h = target_carries G t.class t xs k _ refl h (λ r. end_carries G t.class t xs (k None) _ refl r (λ g. feed_carries G (k None) t xs g))
  feed_carries G (after_arm at c s k) t xs h = arm_carries G t.class t xs at c s k _ refl h (λ r. feed_carries G (k (if_only at c s)) t xs r)
  feed_carries G (after_body b s) t xs h = by_test G xs (same_class while_word t.class) s (stuck t) (λ yes. carries_moves G s xs (mono_step (λ g. inl g) s xs (h t xs (here (same_is while_word t.class yes))))) (λ no. tt)
  feed_carries G (at_stmts ss k) t xs h = stmts_carry G t.class t xs ss k refl h
  feed_carries G (at_clauses k) t xs h = clauses_carry G t.class t xs k refl h
  feed_carries G (in_case v ss k) t xs h = in_case_carries G t.class t xs v ss k refl h
  feed_carries G (at_literal d k) t xs h = literal_carries G t.class t xs d k refl h
  feed_carries G (after_sign d m k) t xs h = sign_carries G t.class t xs d m k refl h
  feed_carries G (at_init k) t xs h = init_carries G t.class t xs k refl h
  feed_carries G (after_member f p k) t xs h = member_carries G t.class t xs f p k _ refl h (λ r. feed_carries G (k (member f.text p.text)) t xs r)
  feed_carries G (in_names c q ns k) t xs h = names_carry G t.class t xs c q ns k refl h
  feed_carries G (at_marks [] ds k) t xs h = feed_carries G (k ds) t xs (h.1 [] (t ∷ xs) no_marks)
  feed_carries G (at_marks (p ∷ ps) ds k) t xs h = mark_carries G t xs p ps ds k h
  feed_carries G (at_locals ls k) t xs h = locals_carry G t.class t xs ls k _ refl h (λ r. feed_carries G (k ls) t xs r)
  feed_carries G (in_locals ls k) t xs h = in_locals_carry G t.class t xs ls k _ refl h (λ r. locals_carry G t.class t xs ls k _ refl r (λ g. feed_carries G (k ls) t xs g))
  feed_carries G (may_comma k s) t xs h = comma_carries G t.class t xs k s _ refl h (λ r. feed_carries G s t xs r)
  feed_carries G (at_use h) t xs r = use_carries G t.class t xs h refl r
  feed_carries G (at_globals h gs) t xs r = globals_carry G t.class t xs h gs refl r
  feed_carries G (at_value h gs n) t xs r = value_carries G t.class t xs h gs n refl r
  feed_carries G (in_globals h gs) t xs r = in_globals_carry G t.class t xs h gs refl r
  feed_carries G (at_functions h gs fs) t xs r = functions_carry G t.class t xs h gs fs refl r
  feed_carries G (at_tables h gs fs ts) t xs r = tables_carry G t.class t xs h gs fs ts refl r
  feed_carries G (in_tables h gs fs ts) t xs r = in_tables_carry G t.class t xs h gs fs ts refl r
  feed_carries G (at_export h gs fs ts) t xs r = by_test G xs t.line (stuck t) _ (λ yes. tt) (λ no. part_carries G t.class t xs h gs fs ts refl (not_is t.line no) r)
  feed_carries G (at_exports es k) t xs h = exports_carry G t xs es k h
  feed_carries G (in_exports es k) t xs h = in_exports_carry G t.class t xs es k refl h
  feed_carries G (at_end b m) t xs h = end_over G b t.class t xs m refl h

  pub advance_carries : (G : Type 0) (s : Step) (t : Lexeme) (xs : List Lexeme) → CarriesStep G s (t ∷ xs) → Moves G (advance s t) xs
  advance_carries G (goes s) t xs h = feed_carries G s t xs h
  advance_carries G (expects v k) t xs h = by_test G xs (meets v t) (k t) (stuck t) (λ yes. carries_moves G (k t) xs (h t xs (here (meets_is v t yes)))) (λ no. tt)
  advance_carries G (either v d q k s) t xs h = by_test G xs (meets v t) (k t) _ (λ yes. carries_moves G (k t) xs (h.0 t xs (here (meets_is v t yes))))
      (λ no. by_test G xs (same_class d t.class) s (stuck t) (λ yes. carries_moves G s xs (h.1 t xs (here (same_is d t.class yes)))) (λ no. tt))
  advance_carries G (refuses f back) t xs h = absurd h

  -- ---- the heading

  start_carries : (h : Heading) (xs : List Lexeme) → IsHeading h all xs → Carries ⊥ (at_use h) xs
  start_carries h xs x = λ t ys zs i end gs x1 g fs x2 f ts x3 u ex w x4 x5 e j last.
      subst (λ (y : List VariableTree). Found ((⊥ ⊎ (HighFunctions limit mark f ⊎ Here limit mark 0 x1)) ⊎ Here limit mark (whole_height (module_of h y (with_all [] fs) (with_all [] ts) ex)) x5) (module_of h y (with_all [] fs) (with_all [] ts) ex)) (sym (with_nothing gs))
      (subst (λ (y : List FunctionTree). Found ((⊥ ⊎ (HighFunctions limit mark f ⊎ Here limit mark 0 x1)) ⊎ Here limit mark (whole_height (module_of h gs y (with_all [] ts) ex)) x5) (module_of h gs y (with_all [] ts) ex)) (sym (with_nothing fs))
      (subst (λ (y : List TableTree). Found ((⊥ ⊎ (HighFunctions limit mark f ⊎ Here limit mark 0 x1)) ⊎ Here limit mark (whole_height (module_of h gs fs y ex)) x5) (module_of h gs fs y ex)) (sym (with_nothing ts))
      (a_module x i end g f u e j last, λ r. elim r [ inl (inl bad) ↦ absurd bad | inl (inr (inl a)) ↦ inr a | inl (inr (inr a)) ↦ absurd (nothing_last x1 a) | inr a ↦ inl a ])))

  params_carry : {f t : Lexeme} {name : Option (List ℕ)} {params : List (List ℕ)} {ys zs ws vs : List Lexeme} → At function_word f all ys → IsName name ys zs → At open_paren t zs ws → IsModuleParams params ws vs → CarriesStep ⊥ (params_step name params) vs
  params_carry {name = name} {params = params} i n j x = λ u us l. start_carries (record { name = name; params = params }) us (a_heading i n j x l)

  name_carries_on : {f t : Lexeme} {name : Option (List ℕ)} {ys zs ws : List Lexeme} → At function_word f all ys → IsName name ys zs → At open_paren t zs ws → CarriesStep ⊥ (heading_step name) ws
  name_carries_on i n j = (
    λ a vs l. (λ t us m b ts o. (λ u rs p c qs q v ps r. params_carry i n j (params_3 l m o p q r), λ u rs p. params_carry i n j (params_2 l m o p)), λ t us m. params_carry i n j (params_1 l m)),
    λ t vs l. params_carry i n j (params_0 l),
  )

  pub at_start_carries : CarriesStep ⊥ at_start all
  at_start_carries = λ f ys i. (λ n zs j t ws l. name_carries_on i (a_name j) l, λ t zs j. name_carries_on i unnamed j)
