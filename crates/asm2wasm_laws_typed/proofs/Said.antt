-- What holds of modules that texts say: labels stand together, and each call of a foreign function is imported.
use Rattle.std.proofs.Common.{◌≡◌, ℕ, ◌+◌, Bool, true, false, List, [], ◌∷◌, ◌++◌, length, refl, ap, subst, arith}
use Rattle.std.specs.Prelude.{if◌then◌else◌, ◌||◌, ◌&&◌, ◌==◌, bytes_eq, map}
use Rattle.std.specs.List.{AllByRecursion}
use Rattle.std.proofs.lemmas.Bool.{and_from}
use Rattle.std.proofs.lemmas.Bool.Decides.{nat_tests}
use Rattle.std.proofs.lemmas.Slice.Eq.{bytes_eq-Decides}
use Rattle.asm_lang.specs.Lexemes.{Lexeme}
use Rattle.asm_lang.specs.Trees.{StmtTree, labelled, StmtTrees, ClauseTrees, FunctionTree, ModuleTree}
use Rattle.asm_lang.specs.Grammar.{IsStmt, a_block, a_plain, an_empty, an_if_only, an_if_else, a_return, a_while, a_do, a_for, a_break, a_continue, a_labelled, a_switch, IsStmts, no_stmts, more_stmts, IsClauses, no_clauses, a_case, a_default, under, IsFunction, a_function, IsFunctions, no_functions, more_functions, IsModule, a_module}
use Rattle.asm_lang.specs.Modules.{Function, Module, stmt_of, stmts_of, clauses_of, function_of, module_of}
use Rattle.asm_lang_valid.specs.Rows.{function_count, body_at, functions_at, tables_at}
use Rattle.asm_lang_valid.specs.Typed.{scope_of}
use Rattle.asm_lang_valid.specs.Typing.{same}
use Rattle.asm_lang_valid.specs.LimitRows.{ForeignCall, Mark, a_row, a_use, is_same, is_among, distinct_after, foreign_calls, counted, names_marks, stmts_marks, globals_marks, function_marks, functions_marks, tables_marks, marks, most_functions, most_params, most_locals}
use Rattle.asm2wasm_laws_typed.specs.Contexts.{AreListed}
use Rattle.asm2wasm_laws_typed.specs.Labels.{HasJoinedLabels, HaveJoinedLabels, ClausesHaveJoinedLabels}
use Rattle.asm2wasm_laws_typed.specs.Laws.{LabelsAreJoined, UsesAreListed}
use Rattle.asm2wasm_laws_typed.proofs.Known.{listed_left, listed_right}

-- ---- labels

under_joined : (n : Lexeme) (s : StmtTree) → HasJoinedLabels (stmt_of s) → HasJoinedLabels (stmt_of (under n s))
under_joined n (labelled at ls s) h = h
under_joined n _ h = (refl, h)

mutual
  stmt_joined : {s : StmtTree} {xs ys : List Lexeme} → IsStmt s xs ys → HasJoinedLabels (stmt_of s)
  stmt_joined (a_block i ss j) = stmts_joined ss
  stmt_joined (a_plain x e) = tt
  stmt_joined (an_empty i) = tt
  stmt_joined (an_if_only i j x k s n) = stmt_joined s
  stmt_joined (an_if_else i j x k s l r) = (stmt_joined s, stmt_joined r)
  stmt_joined (a_return i o) = tt
  stmt_joined (a_while i j x k s) = stmt_joined s
  stmt_joined (a_do i s j k x l e) = stmt_joined s
  stmt_joined (a_for i j a k b l c n s) = stmt_joined s
  stmt_joined (a_break i l) = tt
  stmt_joined (a_continue i l) = tt
  stmt_joined (a_labelled {n = n} {s = s} i j x) = under_joined n s (stmt_joined x)
  stmt_joined (a_switch i j x k l cs n) = clauses_joined cs

  stmts_joined : {ss : StmtTrees} {xs ys : List Lexeme} → IsStmts ss xs ys → HaveJoinedLabels (stmts_of ss)
  stmts_joined no_stmts = tt
  stmts_joined (more_stmts s ss) = (stmt_joined s, stmts_joined ss)

  clauses_joined : {cs : ClauseTrees} {xs ys : List Lexeme} → IsClauses cs xs ys → ClausesHaveJoinedLabels (clauses_of cs)
  clauses_joined no_clauses = tt
  clauses_joined (a_case i v j ss cs) = (stmts_joined ss, clauses_joined cs)
  clauses_joined (a_default i j ss) = (stmts_joined ss, tt)

function_joined : {f : FunctionTree} {xs ys : List Lexeme} → IsFunction f xs ys → HaveJoinedLabels (function_of f).body
function_joined (a_function i n j ps k ds ls ss l) = stmts_joined ss

functions_joined : {fs : List FunctionTree} {xs ys : List Lexeme} → IsFunctions fs xs ys → AllByRecursion (λ (f : Function). HaveJoinedLabels f.body) (map function_of fs)
functions_joined no_functions = tt
functions_joined (more_functions f fs) = (function_joined f, functions_joined fs)

module_joined : {t : ModuleTree} {xs : List Lexeme} → IsModule t xs → AllByRecursion (λ (f : Function). HaveJoinedLabels f.body) (module_of t).functions
module_joined (a_module h d e gs fs ts ex b l) = functions_joined fs

pub labels_are_joined : LabelsAreJoined
labels_are_joined m w = subst (λ (m : Module). AllByRecursion (λ (f : Function). HaveJoinedLabels f.body) m.functions) w.is_this (module_joined w.is_module)

-- ---- uses

same_itself : (b : Bool) → same b b ≡ true
same_itself true = refl
same_itself false = refl

equals_itself : (n : ℕ) → (n == n) ≡ true
equals_itself n = grind (arith, nat_tests)

is_itself : (f : ForeignCall) → is_same f f ≡ true
is_itself f = and_from (bytes_eq f.name f.name) ((f.params == f.params) && same f.result f.result) ((bytes_eq-Decides f.name f.name).1 refl) (and_from (f.params == f.params) (same f.result f.result) (equals_itself f.params) (same_itself f.result))

either_true : (p q : Bool) → q ≡ true → p || q ≡ true
either_true true q h = refl
either_true false q h = h

or_more : (b p q : Bool) → (p ≡ true → q ≡ true) → b || p ≡ true → b || q ≡ true
or_more true p q f h = refl
or_more false p q f h = f h

among_more : (f g : ForeignCall) (seen : List ForeignCall) → is_among f seen ≡ true → is_among f (seen ++ g ∷ []) ≡ true
among_more f g [] h = absurd (cc h)
among_more f g (x ∷ xs) h = or_more (is_same f x) (is_among f xs) (is_among f (xs ++ g ∷ [])) (among_more f g xs) h

among_last : (f : ForeignCall) (seen : List ForeignCall) → is_among f (seen ++ f ∷ []) ≡ true
among_last f [] = ap (λ b. b || false) (is_itself f)
among_last f (x ∷ xs) = either_true (is_same f x) (is_among f (xs ++ f ∷ [])) (among_last f xs)

either_has : (f : ForeignCall) (b : Bool) (xs ys : List ForeignCall) → is_among f xs ≡ true → is_among f ys ≡ true → is_among f (if b then xs else ys) ≡ true
either_has f true xs ys h i = h
either_has f false xs ys h i = i

still_among : (f : ForeignCall) (seen : List ForeignCall) (ms : List Mark) → is_among f seen ≡ true → is_among f (distinct_after seen ms) ≡ true
still_among f seen [] h = h
still_among f seen (a_row x ∷ ms) h = still_among f seen ms h
still_among f seen (a_use g at ∷ ms) h =
    either_has f (is_among g seen) (distinct_after seen ms) (distinct_after (seen ++ g ∷ []) ms) (still_among f seen ms h) (still_among f (seen ++ g ∷ []) ms (among_more f g seen h))

use_listed : (m : Module) (f : ForeignCall) (at : ℕ) (seen : List ForeignCall) (ms : List Mark) (b : Bool) → is_among f seen ≡ b
    → (distinct_after seen ms ≡ foreign_calls m → AreListed m ms) → (distinct_after (seen ++ f ∷ []) ms ≡ foreign_calls m → AreListed m ms)
    → (if b then distinct_after seen ms else distinct_after (seen ++ f ∷ []) ms) ≡ foreign_calls m → AreListed m (a_use f at ∷ ms)
use_listed m f at seen ms true is g h e = (subst (λ fs. is_among f fs ≡ true) e (still_among f seen ms is), g e)
use_listed m f at seen ms false is g h e = (subst (λ fs. is_among f fs ≡ true) e (still_among f (seen ++ f ∷ []) ms (among_last f seen)), h e)

all_listed : (m : Module) (seen : List ForeignCall) (ms : List Mark) → distinct_after seen ms ≡ foreign_calls m → AreListed m ms
all_listed m seen [] e = tt
all_listed m seen (a_row x ∷ ms) e = all_listed m seen ms e
all_listed m seen (a_use f at ∷ ms) e = use_listed m f at seen ms (is_among f seen) refl (all_listed m seen ms) (all_listed m (seen ++ f ∷ []) ms) e

functions_listed : (m : Module) (before at : ℕ) (fs : List Function) → AreListed m (functions_marks m before at fs)
    → AllByRecursion (λ (f : Function). (place : ℕ) × AreListed m (stmts_marks (scope_of m f) place f.body)) fs
functions_listed m before at [] h = tt
functions_listed m before at (f ∷ fs) h =
    let body = stmts_marks (scope_of m f) (body_at f at) f.body in
    let locals = names_marks (length f.params) most_locals (at + 1 + length f.params) f.locals in
    let params = names_marks 0 most_params (at + 1) f.params in
    let mine = listed_left m (function_marks m before at f) (functions_marks m (before + 1) (at + function_count f) fs) h in
    let inner = listed_right m params (locals ++ body) (listed_right m (counted before most_functions at) (params ++ (locals ++ body)) mine) in
    ((body_at f at, listed_right m locals body inner), functions_listed m (before + 1) (at + function_count f) fs (listed_right m (function_marks m before at f) (functions_marks m (before + 1) (at + function_count f) fs) h))

pub uses_are_listed : UsesAreListed
uses_are_listed m =
    let globals = globals_marks m 0 1 m.globals in
    let functions = functions_marks m 0 (functions_at m) m.functions in
    let tables = tables_marks 0 (tables_at m) m.tables in
    functions_listed m 0 (functions_at m) m.functions (listed_left m functions tables (listed_right m globals (functions ++ tables) (all_listed m [] (marks m) refl)))
