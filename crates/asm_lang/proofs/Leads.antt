-- What is seen of a run: each law of reading says that what is seen from one step on is seen from an earlier one too.
use Rattle.std.proofs.Common.{ℕ, ◌≡◌, true, false, cond, List, [], ◌∷◌, ◌++◌, Option, Some, None, Result, refl, sym, ap, subst, ◌∙◌}
use Rattle.std.proofs.lemmas.Bool.{cond-true, cond-false}
use Rattle.std.specs.Prelude.{ℤ}
use Rattle.sem_words.specs.declared.js_value.JsUnary.TheVariants.{Neg}
use Rattle.asm_lang.specs.Lexemes.{Class, while_word, close_paren, Lexeme, Want, here, Is, At}
use Rattle.asm_lang.specs.Trees.{ExprTree, variable, element, unary, ExprTrees, no_expr, one_expr, StmtTree, plain, if_only, StmtTrees, ClauseTrees, one_clause, Init, member, VariableTree, ParamTree, FunctionTree, TableTree, Heading, ModuleTree}
use Rattle.asm_lang.specs.Machine.{same_class, meets, excludes, begins_expr, is_quiet, State, closes, at_expr, after_minus, after_name, after_index, after_expr, at_arguments, in_rest, ends, ends_do, at_stmt, after_stmt_name, at_option, at_return, at_target, after_arm, after_body, at_stmts, at_clauses, in_case, at_init, after_member, at_marks, at_locals, in_locals, may_comma, at_globals, at_value, in_globals, at_tables, in_tables, Step, goes, expects, either, stuck, expr_by, more_stmts_of, variable_of, feed, advance, Refusal, ended, run}
use Rattle.asm_lang.proofs.Tokens.{same_self, meets_true, excluded}

-- A state that can go on as another one, where the next token allows it.
pub data Falls : State → State → Type 0 where
  falls_name : {p : ℕ} {n : Lexeme} {k : ExprTree → State} → Falls (after_name p n k) (after_expr p (variable n.at n.text) k)
  falls_index : {p : ℕ} {n : Lexeme} {i : ExprTree} {k : ExprTree → State} → Falls (after_index p n i k) (after_expr p (element n.at n.text i) k)
  falls_expr : {p : ℕ} {e : ExprTree} {k : ExprTree → State} → Falls (after_expr p e k) (k e)
  falls_minus : {m : Lexeme} {k : ExprTree → State} → Falls (after_minus m k) (at_expr 13 (λ e. k (unary m.at Neg e)))
  falls_rest : {es : ExprTrees} {k : ExprTrees → State} → Falls (in_rest es k) (k es)
  falls_arguments : {k : ExprTrees → State} → Falls (at_arguments k) (at_expr 1 (λ e. in_rest (one_expr e no_expr) (λ es. closes close_paren refl (goes (k es)))))
  falls_end : {s : State} → Falls (ends s) s
  falls_do_end : {s : State} → Falls (ends_do s) s
  falls_option : {c : Class} {q : is_quiet c ≡ true} {b : begins_expr c ≡ false} {k : Option ExprTree → Step} → Falls (at_option c q b k) (at_expr 0 (λ e. closes c q (k (Some e))))
  falls_value : {k : Option ExprTree → State} → Falls (at_return k) (at_expr 0 (λ e. ends (k (Some e))))
  falls_return : {k : Option ExprTree → State} → Falls (at_return k) (ends (k None))
  falls_target : {k : Option (List ℕ) → State} → Falls (at_target k) (ends (k None))
  falls_label : {n : Lexeme} {k : StmtTree → State} → Falls (after_stmt_name n k) (after_name 0 n (λ e. ends (k (plain n.at e))))
  falls_arm : {at : ℕ} {c : ExprTree} {s : StmtTree} {k : StmtTree → State} → Falls (after_arm at c s k) (k (if_only at c s))
  falls_stmts : {ss : StmtTrees} {k : StmtTrees → Step} → Falls (at_stmts ss k) (at_stmt (λ s. at_stmts (more_stmts_of ss s) k))
  falls_case : {v : ℤ} {ss : StmtTrees} {k : ClauseTrees → Step} → Falls (in_case v ss k) (at_stmt (λ s. in_case v (more_stmts_of ss s) k))
  falls_clause : {v : ℤ} {ss : StmtTrees} {k : ClauseTrees → Step} → Falls (in_case v ss k) (at_clauses (λ cs. k (one_clause (Some v) ss cs)))
  falls_member : {f p : Lexeme} {k : Init → State} → Falls (after_member f p k) (k (member f.text p.text))
  falls_init : {h : Heading} {gs : List VariableTree} {n : Lexeme} → Falls (at_value h gs n) (at_init (λ i. in_globals h (gs ++ variable_of n i ∷ [])))
  falls_globals : {h : Heading} {gs : List VariableTree} → Falls (in_globals h gs) (ends (at_globals h gs))
  falls_local : {ls : List VariableTree} {k : List VariableTree → State} → Falls (in_locals ls k) (ends (at_locals ls k))
  falls_locals : {ls : List VariableTree} {k : List VariableTree → State} → Falls (at_locals ls k) (k ls)
  falls_marks : {ds : List ParamTree} {k : List ParamTree → State} → Falls (at_marks [] ds k) (k ds)
  falls_tables : {h : Heading} {gs : List VariableTree} {fs : List FunctionTree} {ts : List TableTree} → Falls (in_tables h gs fs ts) (ends (at_tables h gs fs ts))
  falls_comma : {k : Lexeme → Step} {s : State} → Falls (may_comma k s) s

-- the next token does the same in both
abbrev pub GoAlike : State → State → List Lexeme → Type 0
GoAlike s r [] = ended s ≡ ended r
GoAlike s r (t ∷ ts) = feed s t ≡ feed r t

-- something that can be seen of a run
pub record Observer : Type 1 where
  pub Sees : Step → List Lexeme → Type 0
  pub later : (s : Step) (t : Lexeme) (ts : List Lexeme) → Sees (advance s t) ts → Sees s (t ∷ ts)
  -- nothing is there to see before an expression
  pub begun : (p : ℕ) (k : ExprTree → State) (t : Lexeme) (ts : List Lexeme) → Sees (goes (at_expr p k)) (t ∷ ts) → Sees (expr_by t.class t p k) ts
  pub falls_on : (s r : State) (xs : List Lexeme) → Falls s r → GoAlike s r xs → Sees (goes r) xs → Sees (goes s) xs

-- what is seen from the second on is seen from the first on
abbrev pub Leads : Observer → Step → List Lexeme → Step → List Lexeme → Type 0
Leads o s xs r ys = o.Sees r ys → o.Sees s xs

infixr 50 ◌▸◌
pub ◌▸◌ : {A B C : Type 0} → (B → A) → (C → B) → C → A
(f ▸ g) = λ h. f (g h)

pub stay : {A : Type 0} → A → A
stay h = h

pub by_step : (o : Observer) {s r : Step} {xs : List Lexeme} → s ≡ r → Leads o s xs r xs
by_step o {xs = xs} e = λ h. subst (λ (q : Step). o.Sees q xs) (sym e) h

pub read_step : (o : Observer) {s r : Step} {t : Lexeme} {ts : List Lexeme} → advance s t ≡ r → Leads o s (t ∷ ts) r ts
read_step o {s = s} {t = t} {ts = ts} e = λ h. o.later s t ts (subst (λ (q : Step). o.Sees q ts) (sym e) h)

pub as_if : (o : Observer) {s r : State} {t : Lexeme} {ts : List Lexeme} → Falls s r → feed s t ≡ feed r t → Leads o (goes s) (t ∷ ts) (goes r) (t ∷ ts)
as_if o {s = s} {r = r} {t = t} {ts = ts} f e = o.falls_on s r (t ∷ ts) f e

pub as_ended : (o : Observer) {s r : State} → Falls s r → ended s ≡ ended r → Leads o (goes s) [] (goes r) []
as_ended o {s = s} {r = r} f e = o.falls_on s r [] f e

pub takes : (o : Observer) {w : Want} {t : Lexeme} {xs ys : List Lexeme} → Is w t xs ys → (k : Lexeme → Step) → Leads o (expects w k) xs (k t) ys
takes o (here {w = w} {t = t} {xs = ys} h) k = read_step o (cond-true (meets w t) (k t) (stuck t) (meets_true w t h))

pub takes_first : (o : Observer) {w : Want} {t : Lexeme} {xs ys : List Lexeme} → Is w t xs ys → (d : Class) (q : excludes w d ≡ true) (k : Lexeme → Step) (s : Step) → Leads o (either w d q k s) xs (k t) ys
takes_first o (here {w = w} {t = t} {xs = ys} h) d q k s = read_step o (cond-true (meets w t) (k t) (cond (same_class d t.class) s (stuck t)) (meets_true w t h))

pub takes_second : (o : Observer) {d : Class} {t : Lexeme} {xs ys : List Lexeme} → At d t xs ys → (w : Want) (q : excludes w d ≡ true) (k : Lexeme → Step) (s : Step) → Leads o (either w d q k s) xs s ys
takes_second o {d = d} (here {t = t} {xs = ys} h) w q k s =
    read_step o (cond-false (meets w t) (k t) (cond (same_class d t.class) s (stuck t)) (excluded w d t q h) ∙ cond-true (same_class d t.class) s (stuck t) (ap (same_class d) h ∙ same_self d))

pub closed : (o : Observer) {c : Class} {t : Lexeme} {xs ys : List Lexeme} → At c t xs ys → (q : is_quiet c ≡ true) (s : Step) → Leads o (goes (closes c q s)) xs s ys
closed o {c = c} (here {t = t} {xs = ys} h) q s = read_step o (cond-true (same_class c t.class) s (stuck t) (ap (same_class c) h ∙ same_self c))

pub bodied : (o : Observer) {t : Lexeme} {xs ys : List Lexeme} → At while_word t xs ys → (b : StmtTree) (s : Step) → Leads o (goes (after_body b s)) xs s ys
bodied o (here {t = t} {xs = ys} h) b s = read_step o (cond-true (same_class while_word t.class) s (stuck t) (ap (same_class while_word) h ∙ same_self while_word))

-- what a state does with a token of a class
pub on_class : (o : Observer) (s : State) (f : Class → Lexeme → Step) → ((u : Lexeme) → feed s u ≡ f u.class u) → {c : Class} {t : Lexeme} {xs ys : List Lexeme} → At c t xs ys → Leads o (goes s) xs (f c t) ys
on_class o s f same (here {t = t} {xs = ys} h) = read_step o (same t ∙ ap (λ d. f d t) h)

-- ---- the result of a run

pub run_alike : (s r : State) (xs : List Lexeme) → GoAlike s r xs → run (goes s) xs ≡ run (goes r) xs
run_alike s r [] h = h
run_alike s r (t ∷ ts) h = ap (λ q. run q ts) h

-- that a run ends so
abbrev pub ends_so : Result ModuleTree Refusal → Observer
ends_so x = record {
  Sees = λ s xs. run s xs ≡ x;
  later = λ s t ts h. h;
  begun = λ p k t ts h. h;
  falls_on = λ s r xs f same h. run_alike s r xs same ∙ h;
}

pub same_run : (s r : Step) (xs ys : List Lexeme) → ((see : Observer) → Leads see s xs r ys) → run s xs ≡ run r ys
same_run s r xs ys leads = leads (ends_so (run r ys)) refl
