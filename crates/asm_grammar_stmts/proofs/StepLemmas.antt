-- What a token does at a step that asks for others.
use Rattle.std.proofs.Common.{◌≡◌, ℕ, List, Option, Some, None, Result, Ok, Err, IfOk, refl, sym, ap, ◌∙◌}
use Rattle.std.specs.Prelude.{Bool, true, false, if◌then◌else◌}
use Rattle.sem_words.specs.declared.js_value.JsOp.TheVariants.{Add}
use Rattle.asm_lang.specs.Lexemes.{Class, Lexeme, close_paren}
use Rattle.asm_lang.specs.Grammar.{may_miss_before}
use Rattle.asm_lang.specs.Trees.{ExprTree, StmtTree, plain}
use Rattle.asm_lang.specs.Machine.{State, ends, Step, goes, stuck, feed, same_class, begins_expr, end_by, do_end_by, arm_by, expr_by, name_by, stmt_by, stmt_name_by, target_by}
use Rattle.asm_grammar_nodes.specs.declared.lexeme.Class.{Class as CodeClass}
use Rattle.asm_grammar_nodes.specs.declared.lexeme.Class.TheVariants as classes
use Rattle.asm_grammar_nodes.specs.Views.{class_view}
use Rattle.asm_grammar_stmts.specs.declared.state.ForPart.{ForPart}
use Rattle.asm_grammar_stmts.specs.declared.state.ForPart.TheVariants as parts
use Rattle.asm_grammar_stmts.specs.Views.{part_view, part_end, part_after, part_closes}

pub ok_map : {A E : Type 0} {P Q : A → Type 0} (r : Result A E) → ((a : A) → P a → Q a) → IfOk r P → IfOk r Q
ok_map (Ok a) f p = f a p
ok_map (Err e) f p = p

-- ---- choices

if_true : {A : Type 0} (b : Bool) (x y : A) → b ≡ true → (if b then x else y) ≡ x
if_true true x y is = refl
if_true false x y is = absurd cc

if_false : {A : Type 0} (b : Bool) (x y : A) → b ≡ false → (if b then x else y) ≡ y
if_false true x y is = absurd cc
if_false false x y is = refl

-- the token that is wanted, and another
pub wanted : (c : Class) (t : Lexeme) (s : Step) (b : Bool) → b ≡ same_class c t.class → b ≡ true → s ≡ (if same_class c t.class then s else stuck t)
wanted c t s b is taken = sym (if_true (same_class c t.class) s (stuck t) (sym is ∙ taken))

pub unwanted : (c : Class) (t : Lexeme) (s : Step) (b : Bool) → b ≡ same_class c t.class → b ≡ false → stuck t ≡ (if same_class c t.class then s else stuck t)
unwanted c t s b is left = sym (if_false (same_class c t.class) s (stuck t) (sym is ∙ left))

end_goes : (c : CodeClass) (t : Lexeme) (s : State) (last : Step) → (c ≡ classes.Semicolon → ⊥) → (if may_miss_before (class_view c) t.line then last else stuck t) ≡ end_by (class_view c) t s last
end_goes classes.Semicolon t s last no_end = absurd (no_end refl)
end_goes _ t s last no_end = refl

-- ---- tokens that a step doesn't ask for

-- the `;` of a statement is missing
pub end_missing : (c : CodeClass) (t : Lexeme) (s : State) (last : Step) → (c ≡ classes.Semicolon → ⊥) → may_miss_before (class_view c) t.line ≡ true → end_by (class_view c) t s last ≡ last
end_missing c t s last no_end misses = sym (end_goes c t s last no_end) ∙ if_true (may_miss_before (class_view c) t.line) last (stuck t) misses

pub end_wanted : (c : CodeClass) (t : Lexeme) (s : State) (last : Step) → (c ≡ classes.Semicolon → ⊥) → may_miss_before (class_view c) t.line ≡ false → end_by (class_view c) t s last ≡ stuck t
end_wanted c t s last no_end stays = sym (end_goes c t s last no_end) ∙ if_false (may_miss_before (class_view c) t.line) last (stuck t) stays

pub do_ended : (c : CodeClass) (s : State) (last : Step) → (c ≡ classes.Semicolon → ⊥) → do_end_by (class_view c) s last ≡ last
do_ended classes.Semicolon s last no_end = absurd (no_end refl)
do_ended _ s last no_end = refl

-- an `if` without `else` has ended
pub arm_ended : (c : CodeClass) (at : ℕ) (e : ExprTree) (s : StmtTree) (k : StmtTree → State) (last : Step) → (c ≡ classes.Else → ⊥) → arm_by (class_view c) at e s k last ≡ last
arm_ended classes.Else at e s k last no_else = absurd (no_else refl)
arm_ended _ at e s k last no_else = refl

-- a name that is no label begins an expression
pub no_label : (c : CodeClass) (t n : Lexeme) (k : StmtTree → State) (last : Step) → (c ≡ classes.Colon → ⊥) → stmt_name_by (class_view c) t n k last ≡ name_by (class_view c) t 0 n (λ e. ends (k (plain n.at e))) last
no_label classes.Colon t n k last no_colon = absurd (no_colon refl)
no_label _ t n k last no_colon = refl

-- no label follows `break` or `continue`
pub no_target : (c : CodeClass) (t : Lexeme) (k : Option (List ℕ) → State) (last : Step) → (c ≡ classes.Identifier → ⊥) → target_by (class_view c) t k last ≡ last
no_target classes.Identifier t k last no_name = absurd (no_name refl)
no_target _ t k last no_name = refl

pub target_last : (c : CodeClass) (t : Lexeme) (k : Option (List ℕ) → State) (last : Step) → c ≡ classes.Identifier → t.line ≡ true → target_by (class_view c) t k last ≡ last
target_last c t k last is line = ap (λ (d : CodeClass). target_by (class_view d) t k last) is ∙ if_true t.line last (goes (ends (k (Some t.text)))) line

pub target_named : (c : CodeClass) (t : Lexeme) (k : Option (List ℕ) → State) (last : Step) → c ≡ classes.Identifier → t.line ≡ false → target_by (class_view c) t k last ≡ goes (ends (k (Some t.text)))
target_named c t k last is line = ap (λ (d : CodeClass). target_by (class_view d) t k last) is ∙ if_false t.line last (goes (ends (k (Some t.text)))) line

pub closed_wanted : (c : CodeClass) (t : Lexeme) (s : Step) → (c ≡ classes.CloseParen → ⊥) → stuck t ≡ (if same_class close_paren (class_view c) then s else stuck t)
closed_wanted classes.CloseParen t s no_close = absurd (no_close refl)
closed_wanted (classes.Operator Add) t s no_close = refl
closed_wanted _ t s no_close = refl

pub ruleset missing = (end_missing, end_wanted, do_ended, arm_ended, no_label, no_target)

-- ---- the head of a for statement

closed_feed : (p : ForPart) (at : ℕ) (k : StmtTree → State) (e : ExprTree) (t : Lexeme) → feed (part_closes at p k e) t ≡ (if same_class (part_end p) t.class then part_after at p k (Some e) else stuck t)
closed_feed parts.First at k e t = refl
closed_feed (parts.Condition a) at k e t = refl
closed_feed (parts.Step a b) at k e t = refl

-- a part with an expression ends
pub closed_ends : (p : ForPart) (at : ℕ) (k : StmtTree → State) (e : ExprTree) (t : Lexeme) → same_class (part_end p) t.class ≡ true → feed (part_closes at p k e) t ≡ part_after at p k (Some e)
closed_ends p at k e t is = closed_feed p at k e t ∙ if_true (same_class (part_end p) t.class) (part_after at p k (Some e)) (stuck t) is

pub closed_stays : (p : ForPart) (at : ℕ) (k : StmtTree → State) (e : ExprTree) (t : Lexeme) → same_class (part_end p) t.class ≡ false → feed (part_closes at p k e) t ≡ stuck t
closed_stays p at k e t is = closed_feed p at k e t ∙ if_false (same_class (part_end p) t.class) (part_after at p k (Some e)) (stuck t) is

-- what a token does that begins no expression
left_out : ForPart → ℕ → (StmtTree → State) → Lexeme → Step
left_out p at k t = if same_class (part_end p) t.class then part_after at p k None else stuck t

part_feed : (p : ForPart) (at : ℕ) (k : StmtTree → State) (t : Lexeme) → feed (part_view at p k) t ≡ (if begins_expr t.class then expr_by t.class t 0 (part_closes at p k) else left_out p at k t)
unfolding left_out
part_feed parts.First at k t = refl
part_feed (parts.Condition a) at k t = refl
part_feed (parts.Step a b) at k t = refl

pub part_begun : (p : ForPart) (at : ℕ) (k : StmtTree → State) (t : Lexeme) → begins_expr t.class ≡ true → feed (part_view at p k) t ≡ expr_by t.class t 0 (part_closes at p k)
part_begun p at k t is = part_feed p at k t ∙ if_true (begins_expr t.class) (expr_by t.class t 0 (part_closes at p k)) (left_out p at k t) is

-- a part ends without an expression
pub part_ends : (p : ForPart) (at : ℕ) (k : StmtTree → State) (t : Lexeme) → begins_expr t.class ≡ false → same_class (part_end p) t.class ≡ true → feed (part_view at p k) t ≡ part_after at p k None
unfolding left_out
part_ends p at k t no_expr is =
    part_feed p at k t ∙ if_false (begins_expr t.class) (expr_by t.class t 0 (part_closes at p k)) (left_out p at k t) no_expr
    ∙ if_true (same_class (part_end p) t.class) (part_after at p k None) (stuck t) is

pub part_stays : (p : ForPart) (at : ℕ) (k : StmtTree → State) (t : Lexeme) → begins_expr t.class ≡ false → same_class (part_end p) t.class ≡ false → feed (part_view at p k) t ≡ stuck t
unfolding left_out
part_stays p at k t no_expr is =
    part_feed p at k t ∙ if_false (begins_expr t.class) (expr_by t.class t 0 (part_closes at p k)) (left_out p at k t) no_expr
    ∙ if_false (same_class (part_end p) t.class) (part_after at p k None) (stuck t) is

-- ---- a token that begins a statement

-- an expression
pub begin_goes : (c : CodeClass) (t : Lexeme) (k : StmtTree → State)
    → (c ≡ classes.Semicolon → ⊥) → (c ≡ classes.OpenBrace → ⊥) → (c ≡ classes.If → ⊥) → (c ≡ classes.While → ⊥) → (c ≡ classes.Do → ⊥) → (c ≡ classes.For → ⊥)
    → (c ≡ classes.Return → ⊥) → (c ≡ classes.Break → ⊥) → (c ≡ classes.Continue → ⊥) → (c ≡ classes.Switch → ⊥) → (c ≡ classes.Identifier → ⊥)
    → expr_by (class_view c) t 0 (λ e. ends (k (plain t.at e))) ≡ stmt_by (class_view c) t k
begin_goes classes.Semicolon t k n1 n2 n3 n4 n5 n6 n7 n8 n9 n10 n11 = absurd (n1 refl)
begin_goes classes.OpenBrace t k n1 n2 n3 n4 n5 n6 n7 n8 n9 n10 n11 = absurd (n2 refl)
begin_goes classes.If t k n1 n2 n3 n4 n5 n6 n7 n8 n9 n10 n11 = absurd (n3 refl)
begin_goes classes.While t k n1 n2 n3 n4 n5 n6 n7 n8 n9 n10 n11 = absurd (n4 refl)
begin_goes classes.Do t k n1 n2 n3 n4 n5 n6 n7 n8 n9 n10 n11 = absurd (n5 refl)
begin_goes classes.For t k n1 n2 n3 n4 n5 n6 n7 n8 n9 n10 n11 = absurd (n6 refl)
begin_goes classes.Return t k n1 n2 n3 n4 n5 n6 n7 n8 n9 n10 n11 = absurd (n7 refl)
begin_goes classes.Break t k n1 n2 n3 n4 n5 n6 n7 n8 n9 n10 n11 = absurd (n8 refl)
begin_goes classes.Continue t k n1 n2 n3 n4 n5 n6 n7 n8 n9 n10 n11 = absurd (n9 refl)
begin_goes classes.Switch t k n1 n2 n3 n4 n5 n6 n7 n8 n9 n10 n11 = absurd (n10 refl)
begin_goes classes.Identifier t k n1 n2 n3 n4 n5 n6 n7 n8 n9 n10 n11 = absurd (n11 refl)
begin_goes _ t k n1 n2 n3 n4 n5 n6 n7 n8 n9 n10 n11 = refl
