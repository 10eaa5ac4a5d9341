-- From each state the tokens can go on to the end of a module.
use Rattle.std.proofs.Common.{ℕ, ◌≡◌, true, false, not, List, [], ◌∷◌, ◌++◌, Some, None, refl, sym, subst, append_assoc}
use Rattle.std.specs.Prelude.{bytes_eq, ◌==◌, pos, neg_ℤ}
use Rattle.std.proofs.lemmas.Bool.{eq-eqb}
use Rattle.sem_words.specs.declared.js_value.JsOp.TheVariants.{Or}
use Rattle.asm_lang.specs.Lexemes.{Class, identifier, else_word, return_word, while_word, a_number, directive, close_brace, open_paren, close_paren, open_bracket, semicolon, comma, question, equals, operator, Lexeme, Want, sign, a_property, named, a_zero, a_nonzero, Meets, here}
use Rattle.asm_lang.specs.Trees.{literal, variable, element, no_expr, plain, empty, if_only, no_stmt, no_clause, one_clause, number, member, VariableTree, ParamTree, FunctionTree, TableTree, one, Heading, ModuleTree}
use Rattle.asm_lang.specs.Grammar.{an_operand, a_literal, a_negative, a_variable, an_element, no_argument, no_further, written, do_written, no_else, absent, no_value, no_label, positive, negative, a_plain, an_empty, no_stmts, no_clauses, a_member, of_literal, no_names, no_var, an_end, no_marks, an_int_mark, no_functions, no_export, export_one, an_exported, nothing_more, IsModule, is_else}
use Rattle.asm_lang.specs.Machine.{is_quiet, State, closes, at_expr, after_minus, after_name, after_index, after_expr, at_arguments, in_rest, ends, ends_do, at_stmt, after_stmt_name, at_option, at_return, at_target, after_arm, after_body, at_stmts, at_clauses, in_case, at_literal, after_sign, at_init, after_member, in_names, at_marks, at_locals, in_locals, may_comma, at_use, at_globals, at_value, in_globals, at_functions, at_tables, in_tables, at_export, at_exports, in_exports, at_end, Step, goes, expects, either, refuses, int_mark, variable_of, module_of}
use Rattle.asm_lang.proofs.Tokens.{and_both, stops_at, Stops}
use Rattle.asm_lang.proofs.CompleteModules.{with_all}
use Rattle.asm_lang.proofs.Reached.{ExportsOn, TablesOn, FunctionsOn, GlobalsOn, Reached, Comes}
use Rattle.asm_lang.proofs.Sound.{at_level}

abbrev sample : Class → Lexeme
sample c = record { class = c; text = []; value = 0; line = false; at = 0 }

abbrev sample_of : Want → Lexeme
sample_of (sign c) = sample c
sample_of a_property = sample identifier
sample_of (named bs) = record { class = identifier; text = bs; value = 0; line = false; at = 0 }
sample_of a_zero = sample a_number
sample_of a_nonzero = record { class = a_number; text = []; value = 1; line = false; at = 0 }

pub bytes_same : (bs : List ℕ) → bytes_eq bs bs ≡ true
bytes_same [] = refl
bytes_same (b ∷ bs) = and_both (b == b) (bytes_eq bs bs) (eq-eqb b b refl) (bytes_same bs)

sample_meets : (w : Want) → Meets w (sample_of w)
sample_meets (sign c) = refl
sample_meets a_property = refl
sample_meets (named bs) = (refl, bytes_same bs)
sample_meets a_zero = (refl, refl)
sample_meets a_nonzero = (refl, refl)

abbrev pub Quiet : List Lexeme → Type 0
Quiet [] = Unit {0}
Quiet (t ∷ ts) = is_quiet t.class ≡ true

quiet_stop : (p : ℕ) (c : Class) → is_quiet c ≡ true → stops_at p c ≡ true
quiet_stop p (operator op) h = absurd cc
quiet_stop p question h = absurd cc
quiet_stop p comma h = absurd cc
quiet_stop p open_paren h = absurd cc
quiet_stop p open_bracket h = absurd cc
quiet_stop p equals h = absurd cc
quiet_stop p _ h = refl

pub quiet_stops : (p : ℕ) (xs : List Lexeme) → Quiet xs → Stops p xs
quiet_stops p [] h = tt
quiet_stops p (t ∷ ts) h = quiet_stop p t.class h

quiet_else : (c : Class) → is_quiet c ≡ true → not (is_else c) ≡ true
quiet_else else_word h = absurd cc
quiet_else _ h = refl

pub quiet_no_else : (xs : List Lexeme) → Quiet xs → no_else xs ≡ true
quiet_no_else [] h = refl
quiet_no_else (t ∷ ts) h = quiet_else t.class h

-- tokens that make the front a module
pub record Ending (front : List Lexeme) : Type 0 where
  pub tokens : List Lexeme
  pub found : ModuleTree
  pub whole : IsModule found (front ++ tokens)

-- the first of which goes on with nothing that stands complete
record Finish (front : List Lexeme) : Type 0 where
  ending : Ending front
  quiet : Quiet ending.tokens

abbrev Promise : List Lexeme → State → Type 0
Promise front s = (ys : List Lexeme) → Quiet ys → Reached (front ++ ys) s ys

abbrev pub PromiseStep : List Lexeme → Step → Type 0
PromiseStep front s = (ys : List Lexeme) → Comes (front ++ ys) s ys

-- one token more
abbrev shifted : (front : List Lexeme) (t : Lexeme) → Ending (front ++ t ∷ []) → Ending front
shifted front t e = record { tokens = t ∷ e.tokens; found = e.found; whole = subst (λ (xs : List Lexeme). IsModule e.found xs) (append_assoc front (t ∷ []) e.tokens) e.whole }

abbrev ending_of : {front : List Lexeme} → Finish front → Ending front
ending_of f = f.ending

after_token : (front : List Lexeme) (t : Lexeme) → is_quiet t.class ≡ true → Ending (front ++ t ∷ []) → Finish front
after_token front t q e = record { ending = shifted front t e; quiet = q }

moved : (s : State) (front : List Lexeme) (t : Lexeme) (ys : List Lexeme) → Reached (front ++ t ∷ ys) s ys → Reached ((front ++ t ∷ []) ++ ys) s ys
moved s front t ys h = subst (λ (xs : List Lexeme). Reached xs s ys) (sym (append_assoc front (t ∷ []) ys)) h

pub moved_step : (s : Step) (front : List Lexeme) (t : Lexeme) (ys : List Lexeme) → Comes (front ++ t ∷ ys) s ys → Comes ((front ++ t ∷ []) ++ ys) s ys
moved_step s front t ys h = subst (λ (xs : List Lexeme). Comes xs s ys) (sym (append_assoc front (t ∷ []) ys)) h

-- a token, and then the state
abbrev with_token : (front : List Lexeme) (t : Lexeme) (s : State) → Type 0
with_token front t s = (ys : List Lexeme) → Quiet ys → Reached (front ++ t ∷ ys) s ys

abbrev a_semicolon : Lexeme
a_semicolon = sample semicolon

abbrev a_brace : Lexeme
a_brace = sample close_brace

abbrev a_sample_number : Lexeme
a_sample_number = sample a_number

-- `return f;}`
abbrev export_tokens : List Lexeme
export_tokens = sample return_word ∷ sample identifier ∷ a_semicolon ∷ a_brace ∷ []

export_done : {all : List Lexeme} (h : Heading) (gs : List VariableTree) (fs : List FunctionTree) (ts : List TableTree) → ExportsOn all h gs fs ts export_tokens → IsModule (module_of h gs fs ts (one 0 [])) all
export_done h gs fs ts r = r (one 0 []) a_brace (a_brace ∷ []) [] (an_exported (here refl) refl (export_one (here refl) (written (here refl)))) (here refl) nothing_more

tables_done : {all : List Lexeme} (h : Heading) (gs : List VariableTree) (fs : List FunctionTree) (ts : List TableTree) → TablesOn false all h gs fs ts export_tokens → IsModule (module_of h gs fs ts (one 0 [])) all
tables_done h gs fs ts r = export_done h gs fs ts (r [] export_tokens no_var)

functions_done : {all : List Lexeme} (h : Heading) (gs : List VariableTree) (fs : List FunctionTree) → FunctionsOn all h gs fs export_tokens → IsModule (module_of h gs fs [] (one 0 [])) all
functions_done h gs fs r = tables_done h gs fs [] (r [] export_tokens no_functions)

globals_done : {all : List Lexeme} (h : Heading) (gs : List VariableTree) → GlobalsOn false all h gs export_tokens → IsModule (module_of h gs [] [] (one 0 [])) all
globals_done h gs r = functions_done h gs [] (r [] export_tokens no_var)

in_globals_done : {all : List Lexeme} (h : Heading) (gs : List VariableTree) → GlobalsOn true all h gs (a_semicolon ∷ export_tokens) → IsModule (module_of h gs [] [] (one 0 [])) all
in_globals_done h gs r = functions_done h gs [] (r [] export_tokens (an_end (written (here refl)) no_var))

abbrev ends_with : (front tokens : List Lexeme) (m : ModuleTree) → Quiet tokens → IsModule m (front ++ tokens) → Finish front
ends_with front tokens m q h = record { ending = record { tokens = tokens; found = m; whole = h }; quiet = q }

abbrev named_token : Lexeme → Lexeme
named_token p = sample_of (named p.text)

-- `p=p|0;`
abbrev mark_tokens : Lexeme → List Lexeme → List Lexeme
mark_tokens p ys = named_token p ∷ sample equals ∷ named_token p ∷ sample (operator Or) ∷ a_sample_number ∷ a_semicolon ∷ ys

marks_finish : (ps : List Lexeme) (ds : List ParamTree) (k : List ParamTree → State) (front : List Lexeme) → ((es : List ParamTree) (on : List Lexeme) → Promise on (k es) → Finish on) → Promise front (at_marks ps ds k) → Finish front
marks_finish [] ds k front go h = go ds front (λ ys q. h ys q [] ys no_marks)
marks_finish (p ∷ ps) ds k front go h =
    let on : List Lexeme = front ++ mark_tokens p [] in
    let same : (ys : List Lexeme) → on ++ ys ≡ front ++ mark_tokens p ys = λ ys. append_assoc front (mark_tokens p []) ys in
    let found : Finish on = marks_finish ps (ds ++ int_mark p ∷ []) k on go (λ ys q es zs x. subst (λ (xs : List Lexeme). Reached xs (k (with_all (ds ++ int_mark p ∷ []) es)) zs) (sym (same ys))
    (h (mark_tokens p ys) refl (int_mark p ∷ es) zs (an_int_mark (here (refl, bytes_same p.text)) (here refl) (here (refl, bytes_same p.text)) (here refl) (here (refl, refl)) (written (here refl)) x))) in
    let rest = found.ending in
    ends_with front (mark_tokens p rest.tokens) rest.found refl (subst (λ (xs : List Lexeme). IsModule rest.found xs) (same rest.tokens) rest.whole)

mutual
  finish : (s : State) (front : List Lexeme) → Promise front s → Finish front
  finish (closes c q s) front h = after_token front (sample c) q (finish_step s (front ++ sample c ∷ []) (λ ys. moved_step s front (sample c) ys (h (sample c ∷ ys) q (sample c) ys (here refl))))
  finish (at_expr p k) front h = after_token front a_sample_number refl (ending_of (finish (k (literal 0 (pos 0))) (front ++ a_sample_number ∷ [])
      (λ ys q. moved (k (literal 0 (pos 0))) front a_sample_number ys (h (a_sample_number ∷ ys) refl (literal 0 (pos 0)) ys (an_operand (a_literal (here refl))) (quiet_stops p ys q)))))
  finish (after_minus m k) front h =
      let t : Lexeme = sample_of a_nonzero in
      after_token front t refl (ending_of (finish (k (literal m.at (neg_ℤ (pos 1)))) (front ++ t ∷ []) (λ ys q. moved (k (literal m.at (neg_ℤ (pos 1)))) front t ys
      (let r = h (t ∷ ys) refl in r.1 (literal m.at (neg_ℤ (pos 1))) ys (a_negative (here r.0) (here (refl, refl)))))))
  finish (after_name p n k) front h = finish (k (variable n.at n.text)) front (λ ys q. let r = h ys q in r.1 (variable n.at n.text) ys (an_operand (a_variable (here r.0))) (quiet_stops p ys q))
  finish (after_index p n i k) front h = finish (k (element n.at n.text i)) front (λ ys q. let r = h ys q in r.3 (element n.at n.text i) ys (an_operand (an_element (here r.1) r.2)) (quiet_stops p ys q))
  finish (after_expr p e k) front h = finish (k e) front (λ ys q. let r = h ys q in r.5 e ys (at_level r.2 r.3) (quiet_stops p ys q))
  finish (at_arguments k) front h =
      let t : Lexeme = sample close_paren in
      after_token front t refl (ending_of (finish (k no_expr) (front ++ t ∷ []) (λ ys q. moved (k no_expr) front t ys (h (t ∷ ys) refl no_expr ys (no_argument (here refl))))))
  finish (in_rest fs k) front h = finish (k fs) front (λ ys q. let r = h ys q in r.1 no_expr ys no_further (quiet_stops 0 ys q))
  finish (ends s) front h = after_token front a_semicolon refl (ending_of (finish s (front ++ a_semicolon ∷ []) (λ ys q. moved (s) front a_semicolon ys (h (a_semicolon ∷ ys) refl ys (written (here refl))))))
  finish (ends_do s) front h = after_token front a_semicolon refl (ending_of (finish s (front ++ a_semicolon ∷ []) (λ ys q. moved (s) front a_semicolon ys (h (a_semicolon ∷ ys) refl ys (do_written (here refl))))))
  finish (at_stmt k) front h = after_token front a_semicolon refl (ending_of (finish (k (empty 0)) (front ++ a_semicolon ∷ []) (λ ys q. moved (k (empty 0)) front a_semicolon ys (h (a_semicolon ∷ ys) refl (empty 0) ys (an_empty (here refl))))))
  finish (after_stmt_name n k) front h = after_token front a_semicolon refl (ending_of (finish (k (plain n.at (variable n.at n.text))) (front ++ a_semicolon ∷ []) (λ ys q. moved (k (plain n.at (variable n.at n.text))) front a_semicolon ys
      (let r = h (a_semicolon ∷ ys) refl in r.1 (plain n.at (variable n.at n.text)) ys (a_plain (an_operand (a_variable (here r.0))) (written (here refl)))))))
  finish (at_option c q b k) front h = after_token front (sample c) q (finish_step (k None) (front ++ sample c ∷ []) (λ ys. moved_step (k None) front (sample c) ys (h (sample c ∷ ys) q None (sample c) (sample c ∷ ys) ys absent (here refl))))
  finish (at_return k) front h = after_token front a_semicolon refl (ending_of (finish (k None) (front ++ a_semicolon ∷ []) (λ ys q. moved (k None) front a_semicolon ys (h (a_semicolon ∷ ys) refl None ys (no_value (written (here refl)))))))
  finish (at_target k) front h = after_token front a_semicolon refl (ending_of (finish (k None) (front ++ a_semicolon ∷ []) (λ ys q. moved (k None) front a_semicolon ys (h (a_semicolon ∷ ys) refl None ys (no_label (written (here refl)))))))
  finish (after_arm at c s k) front h = finish (k (if_only at c s)) front (λ ys q. let r = h ys q in r.0 (quiet_no_else ys q))
  finish (after_body b s) front h = after_token front (sample while_word) refl (finish_step s (front ++ sample while_word ∷ []) (λ ys. moved_step s front (sample while_word) ys (h (sample while_word ∷ ys) refl (sample while_word) ys (here refl))))
  finish (at_stmts rs k) front h = after_token front a_brace refl (finish_step (k rs) (front ++ a_brace ∷ []) (λ ys. moved_step (k rs) front a_brace ys (h (a_brace ∷ ys) refl no_stmt a_brace (a_brace ∷ ys) ys no_stmts (here refl))))
  finish (at_clauses k) front h = after_token front a_brace refl (finish_step (k no_clause) (front ++ a_brace ∷ []) (λ ys. moved_step (k no_clause) front a_brace ys (h (a_brace ∷ ys) refl no_clause a_brace (a_brace ∷ ys) ys no_clauses (here refl))))
  finish (in_case v rs k) front h = after_token front a_brace refl (finish_step (k (one_clause (Some v) rs no_clause)) (front ++ a_brace ∷ []) (λ ys. moved_step (k (one_clause (Some v) rs no_clause)) front a_brace ys
      (h (a_brace ∷ ys) refl no_stmt no_clause a_brace (a_brace ∷ ys) (a_brace ∷ ys) ys no_stmts no_clauses (here refl))))
  finish (at_literal d k) front h = after_token front a_sample_number refl (ending_of (finish (k (number (pos 0))) (front ++ a_sample_number ∷ []) (λ ys q. moved (k (number (pos 0))) front a_sample_number ys (h (a_sample_number ∷ ys) refl (number (pos 0)) ys (positive (here refl))))))
  finish (after_sign d m k) front h =
      let t : Lexeme = sample_of a_nonzero in
      after_token front t refl (ending_of (finish (k (number (neg_ℤ (pos 1)))) (front ++ t ∷ []) (λ ys q. moved (k (number (neg_ℤ (pos 1)))) front t ys
      (let r = h (t ∷ ys) refl in r.1 (number (neg_ℤ (pos 1))) ys (negative (here r.0) (here (refl, refl)))))))
  finish (at_init k) front h = after_token front a_sample_number refl (ending_of (finish (k (number (pos 0))) (front ++ a_sample_number ∷ []) (λ ys q. moved (k (number (pos 0))) front a_sample_number ys (h (a_sample_number ∷ ys) refl (number (pos 0)) ys (of_literal (positive (here refl)))))))
  finish (after_member f p k) front h = finish (k (member f.text p.text)) front (λ ys q. h ys q (member f.text p.text) ys a_member)
  finish (in_names c q ns k) front h = after_token front (sample c) q (finish_step (k ns) (front ++ sample c ∷ []) (λ ys. moved_step (k ns) front (sample c) ys (h (sample c ∷ ys) q [] (sample c) (sample c ∷ ys) ys no_names (here refl))))
  finish (at_marks ps ds k) front h = marks_finish ps ds k front (λ es on r. finish (k es) on r) h
  finish (at_locals ls k) front h = finish (k ls) front (λ ys q. h ys q [] ys no_var)
  finish (in_locals ls k) front h = after_token front a_semicolon refl (ending_of (finish (k ls) (front ++ a_semicolon ∷ []) (λ ys q. moved (k ls) front a_semicolon ys (h (a_semicolon ∷ ys) refl [] ys (an_end (written (here refl)) no_var)))))
  finish (may_comma k s) front h = finish s front (λ ys q. let r = h ys q in r.1)
  finish (at_use h) front r =
      let directives : List Lexeme = sample directive ∷ a_semicolon ∷ export_tokens in
      let p = r directives refl in ends_with front directives _ refl (globals_done h [] (p.1 (sample directive) (a_semicolon ∷ export_tokens) export_tokens (here refl) (written (here refl))))
  finish (at_globals h gs) front r = ends_with front export_tokens _ refl (globals_done h gs (r export_tokens refl))
  finish (at_value h gs n) front r =
      let p = r (a_sample_number ∷ a_semicolon ∷ export_tokens) refl in
      ends_with front (a_sample_number ∷ a_semicolon ∷ export_tokens) _ refl (in_globals_done h (gs ++ variable_of n (number (pos 0)) ∷ []) (p.0 (number (pos 0)) (a_semicolon ∷ export_tokens) (of_literal (positive (here refl)))))
  finish (in_globals h gs) front r = ends_with front (a_semicolon ∷ export_tokens) _ refl (in_globals_done h gs (r (a_semicolon ∷ export_tokens) refl))
  finish (at_functions h gs fs) front r = ends_with front export_tokens _ refl (functions_done h gs fs (r export_tokens refl))
  finish (at_tables h gs fs ts) front r = ends_with front export_tokens _ refl (tables_done h gs fs ts (r export_tokens refl))
  finish (in_tables h gs fs ts) front r = ends_with front (a_semicolon ∷ export_tokens) _ refl (export_done h gs fs ts (r (a_semicolon ∷ export_tokens) refl [] export_tokens (an_end (written (here refl)) no_var)))
  finish (at_export h gs fs ts) front r =
      let rest : List Lexeme = sample identifier ∷ a_semicolon ∷ a_brace ∷ [] in
      ends_with front rest _ refl (r rest refl (one 0 []) a_brace (a_brace ∷ []) [] refl (export_one (here refl) (written (here refl))) (here refl) nothing_more)
  finish (at_exports es k) front h = after_token front a_brace refl (finish_step (k es) (front ++ a_brace ∷ []) (λ ys. moved_step (k es) front a_brace ys (h (a_brace ∷ ys) refl [] a_brace (a_brace ∷ ys) ys no_export (here refl))))
  finish (in_exports es k) front h = after_token front a_brace refl (finish_step (k es) (front ++ a_brace ∷ []) (λ ys. moved_step (k es) front a_brace ys (h (a_brace ∷ ys) refl [] a_brace (a_brace ∷ ys) ys no_export (here refl))))
  finish (at_end true m) front h = ends_with front [] m tt (h [] tt nothing_more)
  finish (at_end false m) front h = ends_with front [] m tt (h [] tt refl)

  pub finish_step : (s : Step) (front : List Lexeme) → PromiseStep front s → Ending front
  finish_step (goes s) front h = let f : Finish front = finish s front (λ ys q. h ys) in f.ending
  finish_step (expects w k) front h = let t : Lexeme = sample_of w in shifted front t (finish_step (k t) (front ++ t ∷ []) (λ ys. moved_step (k t) front t ys (h (t ∷ ys) t ys (here (sample_meets w)))))
  finish_step (either w d q k s) front h = shifted front (sample d) (finish_step s (front ++ sample d ∷ []) (λ ys. moved_step s front (sample d) ys (let r = h (sample d ∷ ys) in r.1 (sample d) ys (here refl))))
  finish_step (refuses f back) front h = absurd (h [])
