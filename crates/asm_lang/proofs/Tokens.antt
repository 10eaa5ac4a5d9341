-- A token that a grammar asks for is one that the machine takes, and what may follow an expression.
use Rattle.std.proofs.Common.{ℕ, ◌≡◌, ◌≤◌, ◌<◌, Bool, true, false, ◌&&◌, not, List, [], ◌∷◌, refl, sym, ap, subst, ◌∙◌, arith, eq-eqb}
use Rattle.std.proofs.lemmas.Bool.{leb-false, lt-leb, eqb-true}
use Rattle.std.proofs.Math.ListN.{get_or}
use Rattle.std.specs.Prelude.{bytes_eq, ◌==◌, nat_le}
use Rattle.sem_words.specs.declared.js_value.JsOp.{JsOp}
use Rattle.sem_words.specs.declared.js_value.JsOp.TheVariants.{Add, Sub, Mul, Div, Rem, Or, And, Xor, Shl, Sar, Shr, Lt, Le, Gt, Ge, Eq, Ne}
use Rattle.sem_words.specs.declared.js_value.JsUnary.{JsUnary}
use Rattle.asm_lang.specs.Lexemes.{Class, identifier, a_number, open_paren, open_bracket, comma, question, colon, equals, operator, other, Lexeme, is_word, Want, sign, a_property, named, a_zero, a_nonzero, Meets, here, At}
use Rattle.asm_lang.specs.Trees.{ExprTree}
use Rattle.asm_lang.specs.Grammar.{level_of, IsPrefix, a_plus, a_tilde, a_bang, IsExpr, an_operand, a_binary, a_conditional, an_assignment, a_store, a_list, IsOperand, a_literal, a_negative, a_decimal_literal, a_variable, an_element, a_call, a_table_call, in_parens, a_prefix, a_minus, IsIndex, an_index, may_miss_before, may_miss, IsEnd, written, missing}
use Rattle.asm_lang.specs.Machine.{same_class, class_number, classes, meets, excludes, begins_expr}

pub same_self : (c : Class) → same_class c c ≡ true
same_self c = eq-eqb (class_number c) (class_number c) refl

class_back : (c : Class) → get_or classes (class_number c) other ≡ c
class_back (operator Add) = refl
class_back (operator op) = op_back op
  where
    op_back : (op : JsOp) → get_or classes (class_number (operator op)) other ≡ operator op
    op_back Add = refl
    op_back _ = refl
class_back _ = refl

pub same_is : (c d : Class) → same_class c d ≡ true → d ≡ c
same_is c d h = sym (class_back d) ∙ ap (λ n. get_or classes n other) (sym (eqb-true (class_number c) (class_number d) h)) ∙ class_back c

pub and_both : (a b : Bool) → a ≡ true → b ≡ true → a && b ≡ true
and_both a b h k = rw h k

pub and_left : (a b : Bool) → a && b ≡ true → a ≡ true
and_left true b h = refl
and_left false b h = absurd cc

pub and_right : (a b : Bool) → a && b ≡ true → b ≡ true
and_right true b h = h
and_right false b h = absurd cc

pub not_true : (b : Bool) → not b ≡ true → b ≡ false
not_true true h = absurd cc
not_true false h = refl

not_false : (b : Bool) → b ≡ false → not b ≡ true
not_false b h = rw h refl

pub meets_true : (w : Want) (t : Lexeme) → Meets w t → meets w t ≡ true
meets_true (sign c) t h = ap (same_class c) h ∙ same_self c
meets_true a_property t h = h
meets_true (named bs) t h = and_both (same_class identifier t.class) (bytes_eq bs t.text) (ap (same_class identifier) h.0) h.1
meets_true a_zero t h = and_both (same_class a_number t.class) (t.value == 0) (ap (same_class a_number) h.0) h.1
meets_true a_nonzero t h = and_both (same_class a_number t.class) (not (t.value == 0)) (ap (same_class a_number) h.0) (not_false (t.value == 0) h.1)

pub meets_is : (w : Want) (t : Lexeme) → meets w t ≡ true → Meets w t
meets_is (sign c) t h = same_is c t.class h
meets_is a_property t h = h
meets_is (named bs) t h = (same_is identifier t.class (and_left (same_class identifier t.class) (bytes_eq bs t.text) h), and_right (same_class identifier t.class) (bytes_eq bs t.text) h)
meets_is a_zero t h = (same_is a_number t.class (and_left (same_class a_number t.class) (t.value == 0) h), and_right (same_class a_number t.class) (t.value == 0) h)
meets_is a_nonzero t h = (same_is a_number t.class (and_left (same_class a_number t.class) (not (t.value == 0)) h), not_true (t.value == 0) (and_right (same_class a_number t.class) (not (t.value == 0)) h))

and_false : (a b : Bool) → a ≡ false → a && b ≡ false
and_false a b h = rw h refl

pub excluded : (w : Want) (d : Class) (t : Lexeme) → excludes w d ≡ true → t.class ≡ d → meets w t ≡ false
excluded (sign c) d t h e = ap (same_class c) e ∙ not_true (same_class c d) h
excluded a_property d t h e = ap is_word e ∙ not_true (is_word d) h
excluded (named bs) d t h e = and_false (same_class identifier t.class) (bytes_eq bs t.text) (ap (same_class identifier) e ∙ not_true (same_class identifier d) h)
excluded a_zero d t h e = and_false (same_class a_number t.class) (t.value == 0) (ap (same_class a_number) e ∙ not_true (same_class a_number d) h)
excluded a_nonzero d t h e = and_false (same_class a_number t.class) (not (t.value == 0)) (ap (same_class a_number) e ∙ not_true (same_class a_number d) h)

-- ---- what follows an expression

-- how strongly a token goes on with an expression before it
abbrev pub rank : Class → ℕ
rank (operator op) = level_of op
rank question = 2
rank comma = 1
rank open_paren = 14
rank open_bracket = 14
rank equals = 14
rank _ = 0

-- an expression of level p has ended before the token
abbrev pub stops_at : ℕ → Class → Bool
stops_at p (operator op) = not (nat_le p (level_of op))
stops_at p question = not (nat_le p 1)
stops_at p comma = not (nat_le p 0)
stops_at p open_paren = false
stops_at p open_bracket = false
stops_at p equals = false
stops_at p _ = true

abbrev pub Ends : ℕ → List Lexeme → Type 0
Ends q [] = Unit {0}
Ends q (t ∷ ts) = rank t.class ≤ q

abbrev pub Stops : ℕ → List Lexeme → Type 0
Stops p [] = Unit {0}
Stops p (t ∷ ts) = stops_at p t.class ≡ true

pub level_high : (op : JsOp) → 5 ≤ level_of op
level_high Or = omega arith
level_high Xor = omega arith
level_high And = omega arith
level_high Eq = omega arith
level_high Ne = omega arith
level_high Lt = omega arith
level_high Le = omega arith
level_high Gt = omega arith
level_high Ge = omega arith
level_high Shl = omega arith
level_high Sar = omega arith
level_high Shr = omega arith
level_high Add = omega arith
level_high Sub = omega arith
level_high Mul = omega arith
level_high Div = omega arith
level_high Rem = omega arith

pub level_low : (op : JsOp) → level_of op ≤ 12
level_low Or = omega arith
level_low Xor = omega arith
level_low And = omega arith
level_low Eq = omega arith
level_low Ne = omega arith
level_low Lt = omega arith
level_low Le = omega arith
level_low Gt = omega arith
level_low Ge = omega arith
level_low Shl = omega arith
level_low Sar = omega arith
level_low Shr = omega arith
level_low Add = omega arith
level_low Sub = omega arith
level_low Mul = omega arith
level_low Div = omega arith
level_low Rem = omega arith

pub above : (p n : ℕ) → n < p → not (nat_le p n) ≡ true
above p n h = rw (lt-leb p n h) refl

pub not_above : (p n : ℕ) → not (nat_le p n) ≡ true → n < p
not_above p n h = leb-false p n (not_true (nat_le p n) h)

-- below level q no token goes on, if none above q does
pub stops_above : (q p : ℕ) (c : Class) → rank c ≤ q → q < p → p ≤ 13 → stops_at p c ≡ true
stops_above q p (operator op) h lt le = let k : level_of op < p = omega arith in above p (level_of op) k
stops_above q p question h lt le = let k : 1 < p = omega arith in above p 1 k
stops_above q p comma h lt le = let k : 0 < p = omega arith in above p 0 k
stops_above q p open_paren h lt le = absurd (omega arith)
stops_above q p open_bracket h lt le = absurd (omega arith)
stops_above q p equals h lt le = absurd (omega arith)
stops_above q p _ h lt le = refl

-- at level 1 and below, an assignment, a conditional and a list end where no token above goes on
pub stops_low : (q p : ℕ) (c : Class) → rank c ≤ q → q ≤ p → q ≤ 1 → stops_at p c ≡ true
stops_low q p (operator op) h le low = let k = level_high op in absurd (omega arith)
stops_low q p question h le low = absurd (omega arith)
stops_low q p comma h le low = let k : 0 < p = omega arith in above p 0 k
stops_low q p open_paren h le low = absurd (omega arith)
stops_low q p open_bracket h le low = absurd (omega arith)
stops_low q p equals h le low = absurd (omega arith)
stops_low q p _ h le low = refl

pub rank_of_stop : (p : ℕ) (c : Class) → stops_at p c ≡ true → rank c ≤ p
rank_of_stop p (operator op) h = let k = not_above p (level_of op) h in omega arith
rank_of_stop p question h = let k = not_above p 1 h in omega arith
rank_of_stop p comma h = let k = not_above p 0 h in omega arith
rank_of_stop p open_paren h = absurd cc
rank_of_stop p open_bracket h = absurd cc
rank_of_stop p equals h = absurd cc
rank_of_stop p _ h = omega arith

-- at level 0 no operator follows
pub stops_all : (p : ℕ) (c : Class) → stops_at 0 c ≡ true → stops_at p c ≡ true
stops_all p (operator op) h = let k = not_above 0 (level_of op) h in absurd (omega arith)
stops_all p question h = let k = not_above 0 1 h in absurd (omega arith)
stops_all p comma h = let k = not_above 0 0 h in absurd (omega arith)
stops_all p open_paren h = absurd cc
stops_all p open_bracket h = absurd cc
stops_all p equals h = absurd cc
stops_all p _ h = refl

pub Stops-ends : (p : ℕ) (xs : List Lexeme) → Stops p xs → Ends p xs
Stops-ends p [] h = tt
Stops-ends p (t ∷ ts) h = rank_of_stop p t.class h

pub Ends-up : (p q : ℕ) (xs : List Lexeme) → p ≤ q → Ends p xs → Ends q xs
Ends-up p q [] le h = tt
Ends-up p q (t ∷ ts) le h = omega (arith, h)

pub Ends-stop : (q p : ℕ) (xs : List Lexeme) → Ends q xs → q < p → p ≤ 13 → Stops p xs
Ends-stop q p [] h lt le = tt
Ends-stop q p (t ∷ ts) h lt le = stops_above q p t.class h lt le

pub Ends-low : (q p : ℕ) (xs : List Lexeme) → Ends q xs → q ≤ p → q ≤ 1 → Stops p xs
Ends-low q p [] h le low = tt
Ends-low q p (t ∷ ts) h le low = stops_low q p t.class h le low

pub Stops-all : (p : ℕ) (xs : List Lexeme) → Stops 0 xs → Stops p xs
Stops-all p [] h = tt
Stops-all p (t ∷ ts) h = stops_all p t.class h

pub stop_here : {c : Class} {t : Lexeme} {xs ys : List Lexeme} → At c t xs ys → (p : ℕ) → stops_at p c ≡ true → Stops p xs
stop_here (here h) p k = ap (stops_at p) h ∙ k

pub end_here : {c : Class} {t : Lexeme} {xs ys : List Lexeme} → At c t xs ys → (q : ℕ) → rank c ≤ q → Ends q xs
end_here (here h) q k = subst (λ (d : Class). rank d ≤ q) (sym h) k

-- before a missing `;` no operator follows
end_stop : (c : Class) (line : Bool) → may_miss_before c line ≡ true → stops_at 0 c ≡ true
end_stop (operator op) line h = absurd cc
end_stop question line h = absurd cc
end_stop comma line h = absurd cc
end_stop open_paren line h = absurd cc
end_stop open_bracket line h = absurd cc
end_stop equals line h = absurd cc
end_stop _ line h = refl

missing_stop : (xs : List Lexeme) → may_miss xs ≡ true → Stops 0 xs
missing_stop [] h = tt
missing_stop (t ∷ ts) h = end_stop t.class t.line h

pub stop_at_end : {xs ys : List Lexeme} → IsEnd xs ys → Stops 0 xs
stop_at_end (written i) = stop_here i 0 refl
stop_at_end (missing {xs = xs} h) = missing_stop xs h

-- ---- how expressions begin

abbrev pub is_colon : Class → Bool
is_colon colon = true
is_colon _ = false

abbrev pub NoColon : List Lexeme → Type 0
NoColon [] = Unit {0}
NoColon (t ∷ ts) = is_colon t.class ≡ false

-- an expression may begin with the first token, and after a name no colon follows
abbrev pub Begins : List Lexeme → Type 0
Begins [] = ⊥
Begins (t ∷ ts) = (begins_expr t.class ≡ true) × (t.class ≡ identifier → NoColon ts)

pub no_colon : {c : Class} {t : Lexeme} {xs ys : List Lexeme} → At c t xs ys → is_colon c ≡ false → NoColon xs
no_colon (here h) k = ap is_colon h ∙ k

begins_at : {c : Class} {t : Lexeme} {xs ys : List Lexeme} → At c t xs ys → begins_expr c ≡ true → NoColon ys → Begins xs
begins_at (here h) k n = (ap begins_expr h ∙ k, λ is. n)

abbrev is_name : Class → Bool
is_name identifier = true
is_name _ = false

begins_other : {c : Class} {t : Lexeme} {xs ys : List Lexeme} → At c t xs ys → begins_expr c ≡ true → is_name c ≡ false → Begins xs
begins_other (here h) k n = (ap begins_expr h ∙ k, λ is. let clash : true ≡ false = sym (ap is_name is) ∙ ap is_name h ∙ n in absurd cc)

index_colon : {i : ExprTree} {xs ys : List Lexeme} → IsIndex i xs ys → NoColon xs
index_colon (an_index i x j) = no_colon i refl

prefix_begins : {op : JsUnary} {c : Class} → IsPrefix op c → (begins_expr c ≡ true) × (is_name c ≡ false)
prefix_begins a_plus = (refl, refl)
prefix_begins a_tilde = (refl, refl)
prefix_begins a_bang = (refl, refl)

operand_begins : {e : ExprTree} {xs ys : List Lexeme} → IsOperand e xs ys → NoColon ys → Begins xs
operand_begins (a_literal i) n = begins_other i refl refl
operand_begins (a_negative i j) n = begins_other i refl refl
operand_begins (a_decimal_literal i) n = begins_other i refl refl
operand_begins (a_variable i) n = begins_at i refl n
operand_begins (an_element i x) n = begins_at i refl (index_colon x)
operand_begins (a_call i j x) n = begins_at i refl (no_colon j refl)
operand_begins (a_table_call i x j y) n = begins_at i refl (index_colon x)
operand_begins (in_parens i x j) n = begins_other i refl refl
operand_begins (a_prefix q i x) n = let p = prefix_begins q in begins_other i p.0 p.1
operand_begins (a_minus i h x) n = begins_other i refl refl

pub expr_begins : {p : ℕ} {e : ExprTree} {xs ys : List Lexeme} → IsExpr p e xs ys → NoColon ys → Begins xs
expr_begins (an_operand x) n = operand_begins x n
expr_begins (a_binary le x i y) n = expr_begins x (no_colon i refl)
expr_begins (a_conditional le x i y j z) n = expr_begins x (no_colon i refl)
expr_begins (an_assignment le i j x) n = begins_at i refl (no_colon j refl)
expr_begins (a_store le i x j y) n = begins_at i refl (index_colon x)
expr_begins (a_list le x i y z) n = expr_begins x (no_colon i refl)

-- whatever follows, an expression has a first token with which one may begin
abbrev pub BeginsExpr : List Lexeme → Type 0
BeginsExpr [] = ⊥
BeginsExpr (t ∷ ts) = begins_expr t.class ≡ true

first_is : {c : Class} {t : Lexeme} {xs ys : List Lexeme} → At c t xs ys → begins_expr c ≡ true → BeginsExpr xs
first_is (here h) k = ap begins_expr h ∙ k

operand_first : {e : ExprTree} {xs ys : List Lexeme} → IsOperand e xs ys → BeginsExpr xs
operand_first (a_literal i) = first_is i refl
operand_first (a_negative i j) = first_is i refl
operand_first (a_decimal_literal i) = first_is i refl
operand_first (a_variable i) = first_is i refl
operand_first (an_element i x) = first_is i refl
operand_first (a_call i j x) = first_is i refl
operand_first (a_table_call i x j y) = first_is i refl
operand_first (in_parens i x j) = first_is i refl
operand_first (a_prefix q i x) = let p = prefix_begins q in first_is i p.0
operand_first (a_minus i h x) = first_is i refl

pub expr_first : {p : ℕ} {e : ExprTree} {xs ys : List Lexeme} → IsExpr p e xs ys → BeginsExpr xs
expr_first (an_operand x) = operand_first x
expr_first (a_binary le x i y) = expr_first x
expr_first (a_conditional le x i y j z) = expr_first x
expr_first (an_assignment le i j x) = first_is i refl
expr_first (a_store le i x j y) = first_is i refl
expr_first (a_list le x i y z) = expr_first x

missing_colon : (c : Class) (line : Bool) → may_miss_before c line ≡ true → is_colon c ≡ false
missing_colon colon line h = absurd cc
missing_colon _ line h = refl

missing_no_colon : (xs : List Lexeme) → may_miss xs ≡ true → NoColon xs
missing_no_colon [] h = tt
missing_no_colon (t ∷ ts) h = missing_colon t.class t.line h

pub end_no_colon : {xs ys : List Lexeme} → IsEnd xs ys → NoColon xs
end_no_colon (written i) = no_colon i refl
end_no_colon (missing {xs = xs} h) = missing_no_colon xs h
