-- A step over an expression never meets a fault of nesting.
use Rattle.std.proofs.Common.{◌≡◌, ◌≢◌, ℕ, Bool, true, false, List, [], ◌∷◌, Option, Some, None, refl, sym, subst}
use Rattle.std.specs.Prelude.{Result, Ok, Err, slice_get, nat_le}
use Rattle.wasm_lang.specs.declared.types.ValType.{ValType}
use Rattle.wasm_lang.specs.declared.types.ValType.TheVariants.{I32}
use Rattle.wasm_lang_valid.specs.declared.rule.Opening.{Opening}
use Rattle.wasm_lang_valid.specs.declared.rule.Opening.TheVariants.{Straight, Back, FirstArm}
use Rattle.wasm_lang_valid.specs.declared.rule.Rule.{Rule}
use Rattle.wasm_lang_valid.specs.declared.rule.Rule.TheVariants.{Nesting, NoType, NoFunction, NoTable, NoMemory, NoGlobal, NoLocal, NoLabel, OtherType, MissingOperand, Alignment, ConstantGlobal, LabelsDiffer}
use Rattle.wasm_lang.specs.Instructions as code
use Rattle.wasm_lang.specs.Instructions.{Plain, Instruction, block, loop, if_block, else_mark, end_mark, br, br_if, br_table, call, call_indirect, plain, is_simple}
use Rattle.wasm_lang_valid.specs.Typing.{Context, onward, same, unless, all_labels, alike, late, listed, Shape, Fixed, Leaves, AnyOne, TwoAlike, found, plain_shape, plain_late, shape, call_shape, may_set, natural, may_end, may_turn}
use Rattle.wasm_lang_valid.specs.State.{Operand, Level, take_one, take_all, take_any, joined, acted, nothing_left, closes, around, on_top, opened, plainly, step}
use Rattle.wasm_lang_valid.proofs.Nests.{Scans, openings}

-- a refusal by another rule than nesting
abbrev pub Named : {A : Type 0} → Result A Rule → Type 0
Named (Ok x) = Unit {0}
Named (Err r) = r ≢ Nesting

onward_named : {A B : Type 0} (r : Result A Rule) (f : A → Result B Rule) → Named r → ((x : A) → Named (f x)) → Named (onward r f)
onward_named (Ok x) f h g = g x
onward_named (Err r) f h g = h

unless_named : {A : Type 0} (b : Bool) (r : Rule) (x : A) → r ≢ Nesting → Named (unless b r x)
unless_named true r x h = tt
unless_named false r x h = h

found_named : {A B : Type 0} (r : Rule) (o : Option A) (f : A → B) → r ≢ Nesting → Named (found r o f)
found_named r None f h = h
found_named r (Some x) f h = tt

one_named : (t : ValType) (e : Bool) (s : List Operand) → Named (take_one t e s)
one_named t e [] = unless_named e MissingOperand [] (λ q. cc)
one_named t e (None ∷ s) = tt
one_named t e (Some u ∷ s) = unless_named (same t u) OtherType s (λ q. cc)

all_named : (ts : List ValType) (e : Bool) (s : List Operand) → Named (take_all ts e s)
all_named [] e s = tt
all_named (t ∷ ts) e s = onward_named (take_one t e s) (take_all ts e) (one_named t e s) (λ s. all_named ts e s)

any_named : (e : Bool) (s : List Operand) → Named (take_any e s)
any_named e [] = unless_named e MissingOperand (None, []) (λ q. cc)
any_named e (k ∷ s) = tt

joined_named : (k m : Operand) → Named (joined k m)
joined_named None m = tt
joined_named (Some t) None = tt
joined_named (Some t) (Some u) = unless_named (same t u) OtherType (Some t) (λ q. cc)

acted_named : (s : Shape) (e : Bool) (ks : List Operand) → Named (acted s e ks)
acted_named (Fixed ts gs) e ks = onward_named (take_all ts e ks) _ (all_named ts e ks) (λ x. tt)
acted_named (Leaves ts) e ks = onward_named (take_all ts e ks) _ (all_named ts e ks) (λ x. tt)
acted_named AnyOne e ks = onward_named (take_any e ks) _ (any_named e ks) (λ x. tt)
acted_named TwoAlike e ks =
    onward_named (take_one I32 e ks) _ (one_named I32 e ks) (λ s1.
    onward_named (take_any e s1) _ (any_named e s1) (λ p.
    onward_named (take_any e p.1) _ (any_named e p.1) (λ q.
    onward_named (joined p.0 q.0) _ (joined_named p.0 q.0) (λ k. tt))))

closes_named : (r : Option ValType) (e : Bool) (s : List Operand) → Named (closes r e s)
closes_named r e s = onward_named (take_all (listed r) e s) nothing_left (all_named (listed r) e s) left_named
  where
    left_named : (s : List Operand) → Named (nothing_left s)
    left_named [] = tt
    left_named (k ∷ s) = λ q. cc

may_end_named : (o : Opening) (r : Option ValType) → Named (may_end o r)
may_end_named FirstArm (Some t) = λ q. cc
may_end_named FirstArm None = tt
may_end_named Straight r = tt
may_end_named Back r = tt

labels_named : (labels : List (Option ValType)) (ls : List ℕ) → Named (all_labels labels ls)
labels_named labels [] = tt
labels_named labels (l ∷ ls) = onward_named (found NoLabel (slice_get labels l) (λ t. t)) _ (found_named NoLabel _ _ (λ q. cc)) (λ t. labels_named labels ls)

late_plain_named : (c : Context) (p : Plain) → Named (plain_late c p)
late_plain_named c (code.load op align offset) = unless_named (nat_le align (natural op.size)) Alignment tt (λ q. cc)
late_plain_named c (code.store op align offset) = unless_named (nat_le align (natural op.size)) Alignment tt (λ q. cc)
late_plain_named c (code.global_set x) = unless_named (may_set (slice_get c.globals x)) ConstantGlobal tt (λ q. cc)
late_plain_named c p = tt

late_named : (c : Context) (i : Instruction) → Named (late c i)
late_named c (br_table ls d) = unless_named (alike c.labels ls d) LabelsDiffer tt (λ q. cc)
late_named c (plain p) = late_plain_named c p
late_named c i = tt

plain_named : (c : Context) (p : Plain) → Named (plain_shape c p)
plain_named c (code.local_get x) = found_named NoLocal _ _ (λ q. cc)
plain_named c (code.local_set x) = found_named NoLocal _ _ (λ q. cc)
plain_named c (code.local_tee x) = found_named NoLocal _ _ (λ q. cc)
plain_named c (code.global_get x) = found_named NoGlobal _ _ (λ q. cc)
plain_named c (code.global_set x) = found_named NoGlobal _ _ (λ q. cc)
plain_named c (code.load op align offset) = unless_named c.memory NoMemory _ (λ q. cc)
plain_named c (code.store op align offset) = unless_named c.memory NoMemory _ (λ q. cc)
plain_named c code.memory_size = unless_named c.memory NoMemory _ (λ q. cc)
plain_named c code.memory_copy = unless_named c.memory NoMemory _ (λ q. cc)
plain_named c code.memory_fill = unless_named c.memory NoMemory _ (λ q. cc)
plain_named c p = tt

shape_named : (c : Context) (i : Instruction) → is_simple i ≡ true → Named (shape c i)
shape_named c (br l) e = found_named NoLabel _ _ (λ q. cc)
shape_named c (br_if l) e = found_named NoLabel _ _ (λ q. cc)
shape_named c (br_table ls d) e = onward_named (all_labels c.labels ls) _ (labels_named c.labels ls) (λ u. found_named NoLabel _ _ (λ q. cc))
shape_named c (call f) e = found_named NoFunction _ _ (λ q. cc)
shape_named c (call_indirect t) e = onward_named (found NoType (slice_get c.types t) (call_shape (I32 ∷ []))) _ (found_named NoType _ _ (λ q. cc)) (λ s. unless_named c.table NoTable s (λ q. cc))
shape_named c (plain p) e = plain_named c p
shape_named c (block r) e = cc
shape_named c (loop r) e = cc
shape_named c (if_block r) e = cc
shape_named c else_mark e = cc
shape_named c end_mark e = cc
shape_named c i e = tt

top_named : (s : Shape) (l : Level) (ls : List Level) → Named (on_top s (l ∷ ls))
top_named s l ls = onward_named (acted s l.endless l.operands) _ (acted_named s l.endless l.operands) (λ p. tt)

plainly_named : (c : Context) (i : Instruction) (l : Level) (ls : List Level) → Named (shape c i) → Named (plainly c i (l ∷ ls))
plainly_named c i l ls h =
    onward_named (shape c i) _ h (λ s.
    onward_named (on_top s (l ∷ ls)) _ (top_named s l ls) (λ next.
    onward_named (late c i) _ (late_named c i) (λ u. tt)))

opened_named : (o : Opening) (r : Option ValType) (l : Level) (ls : List Level) (s : Shape) → Named (onward (on_top s (l ∷ ls)) (opened o r))
opened_named o r l ls s = by (acted s l.endless l.operands) (acted_named s l.endless l.operands)
  where
    by : (a : Result (Bool × List Operand) Rule) → Named a → Named (onward (onward a (λ p. Ok (record l { endless = p.0; operands = p.1 } ∷ ls))) (opened o r))
    by (Ok p) h = tt
    by (Err e) h = h

pub step_named : (base : Context) (ls : List Level) (i : Instruction) (rest : List Instruction) → Scans (openings ls) (i ∷ rest) → Named (step base ls i)
step_named base [] i rest h = absurd h
step_named base (l ∷ ls) (block r) rest h = tt
step_named base (l ∷ ls) (loop r) rest h = tt
step_named base (l ∷ ls) (if_block r) rest h = opened_named FirstArm r l ls (Fixed (I32 ∷ []) [])
step_named base (l ∷ ls) else_mark rest h =
    onward_named (may_turn l.opening) _ (subst Named (sym h.0) tt) (λ u.
    onward_named (closes l.result l.endless l.operands) _ (closes_named l.result l.endless l.operands) (λ u. tt))
step_named base (l ∷ ls) end_mark rest h =
    onward_named (closes l.result l.endless l.operands) _ (closes_named l.result l.endless l.operands) (λ u.
    onward_named (may_end l.opening l.result) _ (may_end_named l.opening l.result) (λ u. tt))
step_named base (l ∷ ls) i rest h =
    let c = around base (l ∷ ls) in plainly_named c i l ls (shape_named c i refl)

pub err_named : {A : Type 0} (s : Result A Rule) (r : Rule) → Named s → s ≡ Err r → r ≢ Nesting
err_named s r h q = subst Named q h
