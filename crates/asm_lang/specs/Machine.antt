-- Reading token by token. A state waits for what it names, and says what comes after it. No contract of a public function names this.
use Rattle.std.specs.Prelude.{◌≡◌, ℕ, suc, Bool, true, false, ◌&&◌, not, List, [], ◌∷◌, ◌++◌, Option, Some, None, Result, Ok, Err, nat_le, codes, bytes_eq, ◌==◌, if◌then◌else◌, ℤ, pos, neg_ℤ, refl}
use Rattle.sem_words.specs.declared.js_value.JsOp.{JsOp}
use Rattle.sem_words.specs.declared.js_value.JsOp.TheVariants.{Add, Sub, Mul, Div, Rem, Or, And, Xor, Shl, Sar, Shr, Lt, Le, Gt, Ge, Eq, Ne}
use Rattle.sem_words.specs.declared.js_value.JsUnary.TheVariants.{Neg, BitNot, Not, Plus}
use Rattle.asm_lang.specs.Lexemes.{Class, identifier, break_word, case_word, continue_word, default_word, do_word, else_word, for_word, function_word, if_word, in_word, new_word, return_word, switch_word, var_word, while_word, reserved_word, a_number, a_decimal, directive, open_brace, close_brace, open_paren, close_paren, open_bracket, close_bracket, dot, semicolon, comma, question, colon, equals, operator, tilde, bang, other, Lexeme, is_word, Want, sign, a_property, named, a_zero, a_nonzero}
use Rattle.asm_lang.specs.Trees.{ExprTree, literal, decimals, variable, element, call, table_call, assignment, store, unary, binary, conditional, listed, ExprTrees, no_expr, one_expr, StmtTree, block, plain, empty, if_only, if_else, returns, while_loop, do_loop, for_loop, breaks, continues, switches, StmtTrees, no_stmt, one_stmt, ClauseTrees, no_clause, one_clause, Init, number, decimal, foreign_int, foreign_double, member, math, view, VariableTree, ParamTree, FunctionTree, TableTree, ExportTree, ExportsTree, one, many, Heading, ModuleTree}
use Rattle.asm_lang.specs.Grammar.{level_of, may_miss_before, under, texts}

-- ---- classes by numbers, to compare them

abbrev pub operator_number : JsOp → ℕ
operator_number Add = 0
operator_number Sub = 1
operator_number Mul = 2
operator_number Div = 3
operator_number Rem = 4
operator_number Or = 5
operator_number And = 6
operator_number Xor = 7
operator_number Shl = 8
operator_number Sar = 9
operator_number Shr = 10
operator_number Lt = 11
operator_number Le = 12
operator_number Gt = 13
operator_number Ge = 14
operator_number Eq = 15
operator_number Ne = 16

abbrev pub class_number : Class → ℕ
class_number (operator op) = operator_number op
class_number identifier = 17
class_number break_word = 18
class_number case_word = 19
class_number continue_word = 20
class_number default_word = 21
class_number do_word = 22
class_number else_word = 23
class_number for_word = 24
class_number function_word = 25
class_number if_word = 26
class_number in_word = 27
class_number new_word = 28
class_number return_word = 29
class_number switch_word = 30
class_number var_word = 31
class_number while_word = 32
class_number reserved_word = 33
class_number a_number = 34
class_number a_decimal = 35
class_number directive = 36
class_number open_brace = 37
class_number close_brace = 38
class_number open_paren = 39
class_number close_paren = 40
class_number open_bracket = 41
class_number close_bracket = 42
class_number dot = 43
class_number semicolon = 44
class_number comma = 45
class_number question = 46
class_number colon = 47
class_number equals = 48
class_number tilde = 49
class_number bang = 50
class_number other = 51

abbrev pub classes : List Class
classes = operator Add ∷ operator Sub ∷ operator Mul ∷ operator Div ∷ operator Rem ∷ operator Or ∷ operator And ∷ operator Xor ∷ operator Shl ∷ operator Sar ∷ operator Shr
    ∷ operator Lt ∷ operator Le ∷ operator Gt ∷ operator Ge ∷ operator Eq ∷ operator Ne
    ∷ identifier ∷ break_word ∷ case_word ∷ continue_word ∷ default_word ∷ do_word ∷ else_word ∷ for_word ∷ function_word ∷ if_word ∷ in_word ∷ new_word ∷ return_word ∷ switch_word ∷ var_word ∷ while_word ∷ reserved_word
    ∷ a_number ∷ a_decimal ∷ directive ∷ open_brace ∷ close_brace ∷ open_paren ∷ close_paren ∷ open_bracket ∷ close_bracket ∷ dot ∷ semicolon ∷ comma ∷ question ∷ colon ∷ equals ∷ tilde ∷ bang ∷ other ∷ []

abbrev pub same_class : Class → Class → Bool
same_class c d = class_number c == class_number d

abbrev pub meets : Want → Lexeme → Bool
meets (sign c) t = same_class c t.class
meets a_property t = is_word t.class
meets (named bs) t = same_class identifier t.class && bytes_eq bs t.text
meets a_zero t = same_class a_number t.class && (t.value == 0)
meets a_nonzero t = same_class a_number t.class && not (t.value == 0)

-- no token of the class meets the want
abbrev pub excludes : Want → Class → Bool
excludes (sign c) d = not (same_class c d)
excludes a_property d = not (is_word d)
excludes (named bs) d = not (same_class identifier d)
excludes a_zero d = not (same_class a_number d)
excludes a_nonzero d = not (same_class a_number d)

abbrev pub begins_expr : Class → Bool
begins_expr identifier = true
begins_expr a_number = true
begins_expr a_decimal = true
begins_expr open_paren = true
begins_expr (operator Add) = true
begins_expr (operator Sub) = true
begins_expr tilde = true
begins_expr bang = true
begins_expr _ = false

-- a token with which nothing that stands complete goes on
abbrev pub is_quiet : Class → Bool
is_quiet identifier = true
is_quiet return_word = true
is_quiet while_word = true
is_quiet a_number = true
is_quiet close_brace = true
is_quiet close_paren = true
is_quiet close_bracket = true
is_quiet semicolon = true
is_quiet colon = true
is_quiet directive = true
is_quiet _ = false

-- ---- states

pub data Fault : Type 0 where
  grammar : Fault
  no_use_asm : Fault

mutual
  -- What is complete so far, or what must come. The functions say which state follows.
  pub data State : Type 0 where
    closes : (c : Class) → is_quiet c ≡ true → Step → State
    at_expr : ℕ → (ExprTree → State) → State  -- an expression of this level
    after_minus : Lexeme → (ExprTree → State) → State  -- the operand of a prefix `-`, or a number
    after_name : ℕ → Lexeme → (ExprTree → State) → State
    after_index : ℕ → Lexeme → ExprTree → (ExprTree → State) → State
    after_expr : ℕ → ExprTree → (ExprTree → State) → State  -- operators from this level on
    at_arguments : (ExprTrees → State) → State
    in_rest : ExprTrees → (ExprTrees → State) → State
    ends : State → State  -- the `;` before this state
    ends_do : State → State
    at_stmt : (StmtTree → State) → State
    after_stmt_name : Lexeme → (StmtTree → State) → State
    at_option : (c : Class) → is_quiet c ≡ true → begins_expr c ≡ false → (Option ExprTree → Step) → State
    at_return : (Option ExprTree → State) → State
    at_target : (Option (List ℕ) → State) → State
    after_arm : ℕ → ExprTree → StmtTree → (StmtTree → State) → State
    after_body : StmtTree → Step → State  -- the `while` after the body of a do statement
    at_stmts : StmtTrees → (StmtTrees → Step) → State
    at_clauses : (ClauseTrees → Step) → State
    in_case : ℤ → StmtTrees → (ClauseTrees → Step) → State
    at_literal : Bool → (Init → State) → State
    after_sign : Bool → Lexeme → (Init → State) → State
    at_init : (Init → State) → State
    after_member : Lexeme → Lexeme → (Init → State) → State
    in_names : (c : Class) → is_quiet c ≡ true → List Lexeme → (List Lexeme → Step) → State
    at_marks : List Lexeme → List ParamTree → (List ParamTree → State) → State
    at_locals : List VariableTree → (List VariableTree → State) → State
    in_locals : List VariableTree → (List VariableTree → State) → State
    may_comma : (Lexeme → Step) → State → State
    at_use : Heading → State
    at_globals : Heading → List VariableTree → State
    at_value : Heading → List VariableTree → Lexeme → State
    in_globals : Heading → List VariableTree → State
    at_functions : Heading → List VariableTree → List FunctionTree → State
    at_tables : Heading → List VariableTree → List FunctionTree → List TableTree → State
    in_tables : Heading → List VariableTree → List FunctionTree → List TableTree → State
    at_export : Heading → List VariableTree → List FunctionTree → List TableTree → State  -- after the module's `return`
    at_exports : List ExportTree → (List ExportTree → Step) → State
    in_exports : List ExportTree → (List ExportTree → Step) → State
    at_end : Bool → ModuleTree → State  -- a `;` may come yet

  -- a state, a token that must come, or one of two, or a fault with the tokens from its place on
  pub data Step : Type 0 where
    goes : State → Step
    expects : Want → (Lexeme → Step) → Step
    either : (w : Want) (d : Class) → excludes w d ≡ true → (Lexeme → Step) → Step → Step
    refuses : Fault → List Lexeme → Step

-- ---- expressions

abbrev pub more_exprs : ExprTrees → ExprTree → ExprTrees
more_exprs no_expr e = one_expr e no_expr
more_exprs (one_expr x xs) e = one_expr x (more_exprs xs e)

-- the token can't come here
abbrev pub stuck : Lexeme → Step
stuck t = refuses grammar (t ∷ [])

abbrev pub expr_by : Class → Lexeme → ℕ → (ExprTree → State) → Step
expr_by a_number t p k = goes (after_expr p (literal t.at (pos t.value)) k)
expr_by a_decimal t p k = goes (after_expr p (decimals t.at t.text) k)
expr_by identifier t p k = goes (after_name p t k)
expr_by open_paren t p k = goes (at_expr 0 (λ e. closes close_paren refl (goes (after_expr p e k))))
expr_by (operator Sub) t p k = goes (after_minus t (λ e. after_expr p e k))
expr_by (operator Add) t p k = goes (at_expr 13 (λ e. after_expr p (unary t.at Plus e) k))
expr_by tilde t p k = goes (at_expr 13 (λ e. after_expr p (unary t.at BitNot e) k))
expr_by bang t p k = goes (at_expr 13 (λ e. after_expr p (unary t.at Not e) k))
expr_by _ t p k = stuck t

abbrev pub minus_by : Class → Lexeme → Lexeme → (ExprTree → State) → Step
minus_by a_number m t k = if t.value == 0 then stuck t else goes (k (literal m.at (neg_ℤ (pos t.value))))
minus_by c m t k = expr_by c t 13 (λ e. k (unary m.at Neg e))

-- `last` is what the token does where the expression has ended
abbrev pub infix_by : Class → Lexeme → ℕ → ExprTree → (ExprTree → State) → Step → Step
infix_by (operator op) t p e k last = if nat_le p (level_of op) then goes (at_expr (suc (level_of op)) (λ r. after_expr p (binary t.at e op r) k)) else last
infix_by question t p e k last = if nat_le p 1 then goes (at_expr 1 (λ a. closes colon refl (goes (at_expr 1 (λ b. after_expr p (conditional t.at e a b) k))))) else last
infix_by comma t p e k last = if nat_le p 0 then goes (at_expr 1 (λ f. in_rest (one_expr e (one_expr f no_expr)) (λ es. after_expr p (listed t.at es) k))) else last
infix_by open_paren t p e k last = stuck t
infix_by open_bracket t p e k last = stuck t
infix_by equals t p e k last = stuck t
infix_by _ t p e k last = last

abbrev pub name_by : Class → Lexeme → ℕ → Lexeme → (ExprTree → State) → Step → Step
name_by open_bracket t p n k last = goes (at_expr 0 (λ i. closes close_bracket refl (goes (after_index p n i k))))
name_by open_paren t p n k last = goes (at_arguments (λ es. after_expr p (call n.at n.text es) k))
name_by equals t p n k last = if nat_le p 1 then goes (at_expr 1 (λ e. after_expr p (assignment t.at n.text e) k)) else stuck t
name_by c t p n k last = infix_by c t p (variable n.at n.text) k last

abbrev pub index_by : Class → Lexeme → ℕ → Lexeme → ExprTree → (ExprTree → State) → Step → Step
index_by open_paren t p n i k last = goes (at_arguments (λ es. after_expr p (table_call n.at n.text i es) k))
index_by equals t p n i k last = if nat_le p 1 then goes (at_expr 1 (λ e. after_expr p (store t.at n.text i e) k)) else stuck t
index_by c t p n i k last = infix_by c t p (element n.at n.text i) k last

abbrev pub arguments_by : Class → Lexeme → (ExprTrees → State) → Step
arguments_by close_paren t k = goes (k no_expr)
arguments_by c t k = expr_by c t 1 (λ e. in_rest (one_expr e no_expr) (λ es. closes close_paren refl (goes (k es))))

abbrev pub rest_by : Class → ExprTrees → (ExprTrees → State) → Step → Step
rest_by comma es k last = goes (at_expr 1 (λ e. in_rest (more_exprs es e) k))
rest_by _ es k last = last

-- ---- statements

-- `last` is what the token does where the `;` before it is missing
abbrev pub end_by : Class → Lexeme → State → Step → Step
end_by semicolon t s last = goes s
end_by c t s last = if may_miss_before c t.line then last else stuck t

abbrev pub do_end_by : Class → State → Step → Step
do_end_by semicolon s last = goes s
do_end_by _ s last = last

abbrev pub more_stmts_of : StmtTrees → StmtTree → StmtTrees
more_stmts_of no_stmt s = one_stmt s no_stmt
more_stmts_of (one_stmt x xs) s = one_stmt x (more_stmts_of xs s)

-- `(`, an expression, `)`, and then
abbrev pub condition : (ExprTree → Step) → Step
condition k = expects (sign open_paren) (λ u. goes (at_expr 0 (λ c. closes close_paren refl (k c))))

abbrev pub stmt_by : Class → Lexeme → (StmtTree → State) → Step
stmt_by semicolon t k = goes (k (empty t.at))
stmt_by open_brace t k = goes (at_stmts no_stmt (λ ss. goes (k (block t.at ss))))
stmt_by if_word t k = condition (λ c. goes (at_stmt (λ s. after_arm t.at c s k)))
stmt_by while_word t k = condition (λ c. goes (at_stmt (λ s. k (while_loop t.at c s))))
stmt_by do_word t k = goes (at_stmt (λ s. after_body s (condition (λ c. goes (ends_do (k (do_loop t.at s c)))))))
stmt_by for_word t k = expects (sign open_paren) (λ u. goes (at_option semicolon refl refl (λ a. goes (at_option semicolon refl refl (λ b. goes (at_option close_paren refl refl (λ c. goes (at_stmt (λ s. k (for_loop t.at a b c s))))))))))
stmt_by return_word t k = goes (at_return (λ o. k (returns t.at o)))
stmt_by break_word t k = goes (at_target (λ l. k (breaks t.at l)))
stmt_by continue_word t k = goes (at_target (λ l. k (continues t.at l)))
stmt_by switch_word t k = condition (λ e. expects (sign open_brace) (λ w. goes (at_clauses (λ cs. goes (k (switches t.at e cs))))))
stmt_by identifier t k = goes (after_stmt_name t k)
stmt_by c t k = expr_by c t 0 (λ e. ends (k (plain t.at e)))

abbrev pub stmt_name_by : Class → Lexeme → Lexeme → (StmtTree → State) → Step → Step
stmt_name_by colon t n k last = goes (at_stmt (λ s. k (under n s)))
stmt_name_by c t n k last = name_by c t 0 n (λ e. ends (k (plain n.at e))) last

abbrev pub option_by : Class → Lexeme → (c : Class) → is_quiet c ≡ true → (Option ExprTree → Step) → Step
option_by d t c q k = if begins_expr d then expr_by d t 0 (λ e. closes c q (k (Some e))) else (if same_class c d then k None else stuck t)

abbrev pub return_by : Class → Lexeme → (Option ExprTree → State) → Step → Step
return_by c t k last = if begins_expr c && not t.line then expr_by c t 0 (λ e. ends (k (Some e))) else last

abbrev pub target_by : Class → Lexeme → (Option (List ℕ) → State) → Step → Step
target_by identifier t k last = if t.line then last else goes (ends (k (Some t.text)))
target_by _ t k last = last

abbrev pub arm_by : Class → ℕ → ExprTree → StmtTree → (StmtTree → State) → Step → Step
arm_by else_word at c s k last = goes (at_stmt (λ r. k (if_else at c s r)))
arm_by _ at c s k last = last

abbrev pub stmts_by : Class → Lexeme → StmtTrees → (StmtTrees → Step) → Step
stmts_by close_brace t ss k = k ss
stmts_by c t ss k = stmt_by c t (λ s. at_stmts (more_stmts_of ss s) k)

abbrev pub case_value : Init → (ℤ → State) → State
case_value (number v) k = k v
case_value _ k = k (pos 0)

abbrev pub clauses_by : Class → Lexeme → (ClauseTrees → Step) → Step
clauses_by case_word t k = goes (at_literal false (λ i. closes colon refl (goes (case_value i (λ v. in_case v no_stmt k)))))
clauses_by default_word t k = expects (sign colon) (λ u. goes (at_stmts no_stmt (λ ss. k (one_clause None ss no_clause))))
clauses_by close_brace t k = k no_clause
clauses_by _ t k = stuck t

abbrev pub in_case_by : Class → Lexeme → ℤ → StmtTrees → (ClauseTrees → Step) → Step
in_case_by case_word t v ss k = clauses_by case_word t (λ cs. k (one_clause (Some v) ss cs))
in_case_by default_word t v ss k = clauses_by default_word t (λ cs. k (one_clause (Some v) ss cs))
in_case_by close_brace t v ss k = clauses_by close_brace t (λ cs. k (one_clause (Some v) ss cs))
in_case_by c t v ss k = stmt_by c t (λ s. in_case v (more_stmts_of ss s) k)

-- ---- declarations

abbrev pub literal_by : Class → Lexeme → Bool → (Init → State) → Step
literal_by a_number t d k = goes (k (number (pos t.value)))
literal_by a_decimal t d k = if d then goes (k (decimal t.text)) else stuck t
literal_by (operator Sub) t d k = goes (after_sign d t k)
literal_by _ t d k = stuck t

abbrev pub sign_by : Class → Lexeme → Bool → Lexeme → (Init → State) → Step
sign_by a_number t d m k = if t.value == 0 then stuck t else goes (k (number (neg_ℤ (pos t.value))))
sign_by a_decimal t d m k = if d then goes (k (decimal (45 ∷ t.text))) else stuck t
sign_by _ t d m k = stuck t

abbrev pub init_by : Class → Lexeme → (Init → State) → Step
init_by identifier f k = expects (sign dot) (λ t. expects a_property (λ p. goes (after_member f p k)))
init_by (operator Add) t k = expects (sign identifier) (λ f. expects (sign dot) (λ u. expects a_property (λ p. goes (k (foreign_double f.text p.text)))))
init_by new_word t k = expects (sign identifier) (λ f. expects (sign dot) (λ u. expects a_property (λ p. expects (sign open_paren) (λ v. expects (sign identifier) (λ h. expects (sign close_paren) (λ w. goes (k (view f.text p.text h.text))))))))
init_by c t k = literal_by c t true k

abbrev pub member_by : Class → Lexeme → Lexeme → Lexeme → (Init → State) → Step → Step
member_by (operator Or) t f p k last = expects a_zero (λ u. goes (k (foreign_int f.text p.text)))
member_by dot t f p k last = if bytes_eq (codes "Math") p.text then expects a_property (λ q. goes (k (math f.text q.text))) else stuck t
member_by _ t f p k last = last

abbrev pub names_by : Class → Lexeme → (c : Class) → is_quiet c ≡ true → List Lexeme → (List Lexeme → Step) → Step
names_by comma t c q ns k = expects (sign identifier) (λ n. goes (in_names c q (ns ++ n ∷ []) k))
names_by d t c q ns k = if same_class c d then k ns else stuck t

abbrev pub int_mark : Lexeme → ParamTree
int_mark p = record { at = p.at; name = p.text; double = false }

abbrev pub double_mark : Lexeme → ParamTree
double_mark p = record { at = p.at; name = p.text; double = true }

abbrev pub mark_step : Lexeme → Lexeme → List Lexeme → List ParamTree → (List ParamTree → State) → Step
mark_step t p ps ds k =
    if meets (named p.text) t
    then expects (sign equals) (λ b. either (named p.text) (operator Add) refl
    (λ c. expects (sign (operator Or)) (λ d. expects a_zero (λ e. goes (ends (at_marks ps (ds ++ int_mark p ∷ []) k)))))
    (expects (named p.text) (λ d. goes (ends (at_marks ps (ds ++ double_mark p ∷ []) k)))))
    else stuck t

abbrev pub variable_of : Lexeme → Init → VariableTree
variable_of n i = record { at = n.at; name = n.text; init = i }

-- a name and `=`
abbrev pub declared : (Lexeme → Step) → Step
declared k = expects (sign identifier) (λ n. expects (sign equals) (λ t. k n))

abbrev pub local_step : List VariableTree → (List VariableTree → State) → Step
local_step ls k = declared (λ n. goes (at_literal true (λ i. in_locals (ls ++ variable_of n i ∷ []) k)))

abbrev pub locals_by : Class → List VariableTree → (List VariableTree → State) → Step → Step
locals_by var_word ls k last = local_step ls k
locals_by _ ls k last = last

abbrev pub in_locals_by : Class → Lexeme → List VariableTree → (List VariableTree → State) → Step → Step
in_locals_by comma t ls k last = local_step ls k
in_locals_by c t ls k last = end_by c t (at_locals ls k) last

-- ---- modules

abbrev pub closed_module : ModuleTree → State
closed_module m = ends (closes close_brace refl (goes (at_end true m)))

abbrev pub module_of : Heading → List VariableTree → List FunctionTree → List TableTree → ExportsTree → ModuleTree
module_of h gs fs ts ex = record { heading = h; globals = gs; functions = fs; tables = ts; exports = ex }

abbrev pub export_by : Class → Lexeme → Heading → List VariableTree → List FunctionTree → List TableTree → Step
export_by identifier f h gs fs ts = goes (closed_module (module_of h gs fs ts (one f.at f.text)))
export_by open_brace u h gs fs ts = goes (at_exports [] (λ es. goes (closed_module (module_of h gs fs ts (many es)))))
export_by _ t h gs fs ts = stuck t

abbrev pub export_step : Heading → List VariableTree → List FunctionTree → List TableTree → Step
export_step h gs fs ts = goes (at_export h gs fs ts)

abbrev pub table_of : Lexeme → List (List ℕ) → TableTree
table_of n ms = record { at = n.at; name = n.text; members = ms }

-- after the `[` of a table
abbrev pub members_step : Lexeme → Heading → List VariableTree → List FunctionTree → List TableTree → Step
members_step n h gs fs ts = expects (sign identifier) (λ m. goes (in_names close_bracket refl [] (λ ms. goes (in_tables h gs fs (ts ++ table_of n (m.text ∷ texts ms) ∷ [])))))

abbrev pub table_step : Heading → List VariableTree → List FunctionTree → List TableTree → Step
table_step h gs fs ts = declared (λ n. expects (sign open_bracket) (λ u. members_step n h gs fs ts))

abbrev pub function_of : Lexeme → List ParamTree → List VariableTree → StmtTrees → FunctionTree
function_of n ds ls ss = record { at = n.at; name = n.text; params = ds; locals = ls; body = ss }

-- after the `)` of the parameters
abbrev pub body_step : Lexeme → List Lexeme → Heading → List VariableTree → List FunctionTree → Step
body_step n ps h gs fs = expects (sign open_brace) (λ u. goes (at_marks ps [] (λ ds. at_locals [] (λ ls. at_stmts no_stmt (λ ss. goes (at_functions h gs (fs ++ function_of n ds ls ss ∷ [])))))))

abbrev pub function_step : Heading → List VariableTree → List FunctionTree → Step
function_step h gs fs = expects (sign identifier) (λ n. expects (sign open_paren) (λ t. either (sign identifier) close_paren refl
    (λ p. goes (in_names close_paren refl [] (λ ps. body_step n (p ∷ ps) h gs fs)))
    (body_step n [] h gs fs)))

abbrev pub globals_by : Class → Lexeme → Heading → List VariableTree → Step
globals_by var_word t h gs = declared (λ n. goes (at_value h gs n))
globals_by function_word t h gs = function_step h gs []
globals_by return_word t h gs = export_step h gs [] []
globals_by _ t h gs = stuck t

abbrev pub value_by : Class → Lexeme → Heading → List VariableTree → Lexeme → Step
value_by open_bracket t h gs n = members_step n h gs [] []
value_by c t h gs n = init_by c t (λ i. in_globals h (gs ++ variable_of n i ∷ []))

abbrev pub in_globals_by : Class → Lexeme → Heading → List VariableTree → Step
in_globals_by comma t h gs = declared (λ n. goes (at_init (λ i. in_globals h (gs ++ variable_of n i ∷ []))))
in_globals_by c t h gs = end_by c t (at_globals h gs) (globals_by c t h gs)

abbrev pub functions_by : Class → Lexeme → Heading → List VariableTree → List FunctionTree → Step
functions_by var_word t h gs fs = table_step h gs fs []
functions_by function_word t h gs fs = function_step h gs fs
functions_by return_word t h gs fs = export_step h gs fs []
functions_by _ t h gs fs = stuck t

abbrev pub tables_by : Class → Lexeme → Heading → List VariableTree → List FunctionTree → List TableTree → Step
tables_by var_word t h gs fs ts = table_step h gs fs ts
tables_by return_word t h gs fs ts = export_step h gs fs ts
tables_by _ t h gs fs ts = stuck t

abbrev pub in_tables_by : Class → Lexeme → Heading → List VariableTree → List FunctionTree → List TableTree → Step
in_tables_by comma t h gs fs ts = table_step h gs fs ts
in_tables_by c t h gs fs ts = end_by c t (at_tables h gs fs ts) (tables_by c t h gs fs ts)

abbrev pub export_of : Lexeme → Lexeme → ExportTree
export_of p f = record { at = p.at; key = p.text; function = f.text }

abbrev pub exports_step : Lexeme → List ExportTree → (List ExportTree → Step) → Step
exports_step t es k =
    if is_word t.class then expects (sign colon) (λ u. expects (sign identifier) (λ f. goes (in_exports (es ++ export_of t f ∷ []) k)))
    else (if same_class close_brace t.class then k es else stuck t)

abbrev pub in_exports_by : Class → Lexeme → List ExportTree → (List ExportTree → Step) → Step
in_exports_by comma t es k = goes (at_exports es k)
in_exports_by close_brace t es k = k es
in_exports_by _ t es k = stuck t

abbrev pub use_by : Class → Lexeme → Heading → Step
use_by directive t h = goes (ends (at_globals h []))
use_by _ t h = refuses no_use_asm (t ∷ [])

abbrev pub end_step : Bool → Class → Lexeme → ModuleTree → Step
end_step true semicolon t m = goes (at_end false m)
end_step _ c t m = stuck t

abbrev pub comma_by : Class → Lexeme → (Lexeme → Step) → Step → Step
comma_by comma t k last = k t
comma_by _ t k last = last

-- ---- a token, and all tokens

abbrev pub feed : State → Lexeme → Step
feed (closes c q s) t = if same_class c t.class then s else stuck t
feed (at_expr p k) t = expr_by t.class t p k
feed (after_minus m k) t = minus_by t.class m t k
feed (after_name p n k) t = name_by t.class t p n k (feed (k (variable n.at n.text)) t)
feed (after_index p n i k) t = index_by t.class t p n i k (feed (k (element n.at n.text i)) t)
feed (after_expr p e k) t = infix_by t.class t p e k (feed (k e) t)
feed (at_arguments k) t = arguments_by t.class t k
feed (in_rest es k) t = rest_by t.class es k (feed (k es) t)
feed (ends s) t = end_by t.class t s (feed s t)
feed (ends_do s) t = do_end_by t.class s (feed s t)
feed (at_stmt k) t = stmt_by t.class t k
feed (after_stmt_name n k) t =
    stmt_name_by t.class t n k (end_by t.class t (k (plain n.at (variable n.at n.text))) (feed (k (plain n.at (variable n.at n.text))) t))
feed (at_option c q b k) t = option_by t.class t c q k
feed (at_return k) t = return_by t.class t k (end_by t.class t (k None) (feed (k None) t))
feed (at_target k) t = target_by t.class t k (end_by t.class t (k None) (feed (k None) t))
feed (after_arm at c s k) t = arm_by t.class at c s k (feed (k (if_only at c s)) t)
feed (after_body b s) t = if same_class while_word t.class then s else stuck t
feed (at_stmts ss k) t = stmts_by t.class t ss k
feed (at_clauses k) t = clauses_by t.class t k
feed (in_case v ss k) t = in_case_by t.class t v ss k
feed (at_literal d k) t = literal_by t.class t d k
feed (after_sign d m k) t = sign_by t.class t d m k
feed (at_init k) t = init_by t.class t k
feed (after_member f p k) t = member_by t.class t f p k (feed (k (member f.text p.text)) t)
feed (in_names c q ns k) t = names_by t.class t c q ns k
feed (at_marks [] ds k) t = feed (k ds) t
feed (at_marks (p ∷ ps) ds k) t = mark_step t p ps ds k
feed (at_locals ls k) t = locals_by t.class ls k (feed (k ls) t)
feed (in_locals ls k) t = in_locals_by t.class t ls k (locals_by t.class ls k (feed (k ls) t))
feed (may_comma k s) t = comma_by t.class t k (feed s t)
feed (at_use h) t = use_by t.class t h
feed (at_globals h gs) t = globals_by t.class t h gs
feed (at_value h gs n) t = value_by t.class t h gs n
feed (in_globals h gs) t = in_globals_by t.class t h gs
feed (at_functions h gs fs) t = functions_by t.class t h gs fs
feed (at_tables h gs fs ts) t = tables_by t.class t h gs fs ts
feed (in_tables h gs fs ts) t = in_tables_by t.class t h gs fs ts
feed (at_export h gs fs ts) t = if t.line then stuck t else export_by t.class t h gs fs ts
feed (at_exports es k) t = exports_step t es k
feed (in_exports es k) t = in_exports_by t.class t es k
feed (at_end b m) t = end_step b t.class t m

abbrev pub advance : Step → Lexeme → Step
advance (goes s) t = feed s t
advance (expects w k) t = if meets w t then k t else stuck t
advance (either w d q k s) t = if meets w t then k t else (if same_class d t.class then s else stuck t)
advance (refuses f back) t = refuses f (back ++ t ∷ [])

pub record Refusal : Type 0 where
  pub fault : Fault
  pub rest : List Lexeme  -- the tokens from the fault on

abbrev pub failed : Fault → List Lexeme → Result ModuleTree Refusal
failed f rest = Err (record { fault = f; rest = rest })

-- the end of input
abbrev pub ended : State → Result ModuleTree Refusal
ended (at_end b m) = Ok m
ended (after_name p n k) = ended (k (variable n.at n.text))
ended (after_index p n i k) = ended (k (element n.at n.text i))
ended (after_expr p e k) = ended (k e)
ended (in_rest es k) = ended (k es)
ended (ends s) = ended s
ended (ends_do s) = ended s
ended (after_stmt_name n k) = ended (k (plain n.at (variable n.at n.text)))
ended (at_return k) = ended (k None)
ended (at_target k) = ended (k None)
ended (after_arm at c s k) = ended (k (if_only at c s))
ended (after_member f p k) = ended (k (member f.text p.text))
ended (at_marks [] ds k) = ended (k ds)
ended (at_locals ls k) = ended (k ls)
ended (in_locals ls k) = ended (k ls)
ended (may_comma k s) = ended s
ended _ = Err (record { fault = grammar; rest = [] })

abbrev pub stops : Step → Result ModuleTree Refusal
stops (goes s) = ended s
stops (expects w k) = Err (record { fault = grammar; rest = [] })
stops (either w d q k s) = Err (record { fault = grammar; rest = [] })
stops (refuses f back) = Err (record { fault = f; rest = back })

abbrev pub run : Step → List Lexeme → Result ModuleTree Refusal
run s [] = stops s
run s (t ∷ ts) = run (advance s t) ts

-- ---- the heading

abbrev pub params_step : Option (List ℕ) → List (List ℕ) → Step
params_step name params = expects (sign open_brace) (λ u. goes (at_use (record { name = name; params = params })))

abbrev pub heading_step : Option (List ℕ) → Step
heading_step name = either (sign identifier) close_paren refl
    (λ a. goes (may_comma
    (λ t. expects (sign identifier) (λ b. goes (may_comma
    (λ u. expects (sign identifier) (λ c. goes (closes close_paren refl (params_step name (a.text ∷ b.text ∷ c.text ∷ [])))))
    (closes close_paren refl (params_step name (a.text ∷ b.text ∷ []))))))
    (closes close_paren refl (params_step name (a.text ∷ [])))))
    (params_step name [])

abbrev pub at_start : Step
at_start = expects (sign function_word) (λ f. either (sign identifier) open_paren refl
    (λ n. expects (sign open_paren) (λ t. heading_step (Some n.text)))
    (heading_step None))
