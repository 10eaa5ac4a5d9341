-- How many operands stand in a body: each instruction leaves at most one more.
use Rattle.std.proofs.Common.{◌≡◌, ℕ, ◌+◌, ◌≤◌, max, Bool, true, false, List, [], ◌∷◌, ◌++◌, length, Option, Some, None, arith}
use Rattle.std.specs.Prelude.{Result, Ok, Err, slice_get}
use Rattle.std.proofs.lemmas.List.{length-append, length-map}
use Rattle.wasm_lang.specs.declared.types.ValType.{ValType}
use Rattle.wasm_lang.specs.declared.types.ValType.TheVariants.{I32}
use Rattle.wasm_lang.specs.declared.types.GlobalType.{GlobalType}
use Rattle.wasm_lang.specs.Instructions as code
use Rattle.wasm_lang.specs.Instructions.{Plain, Instruction, unreachable, block, loop, if_block, else_mark, end_mark, br, br_if, br_table, return, call, call_indirect, plain}
use Rattle.wasm_lang.specs.Modules.{FunctionType}
use Rattle.wasm_lang_valid.specs.declared.rule.Opening.{Opening}
use Rattle.wasm_lang_valid.specs.declared.rule.Opening.TheVariants.{Straight, Back, FirstArm}
use Rattle.wasm_lang_valid.specs.declared.rule.Rule.{Rule}
use Rattle.wasm_lang_valid.specs.declared.rule.Rule.TheVariants.{NoType, NoFunction, NoTable, NoMemory, NoGlobal, NoLocal, NoLabel, OtherType, MissingOperand}
use Rattle.wasm_lang_valid.specs.Typing.{Context, listed, result_of, type_of, found, onward, unless, same, all_labels, may_end, may_turn, late, Shape, Fixed, Leaves, AnyOne, TwoAlike, plain_shape, call_shape, shape}
use Rattle.wasm_lang_valid.specs.State.{Operand, Level, fresh, around, take_one, take_all, take_any, joined, known, acted, closes, given, on_top, opened, turned, ended, plainly, step}
use Rattle.wasm_lang_valid.specs.Measures.{standing, after, peak}
use Rattle.asm2wasm_laws_profile.specs.Laws.{PeakIsBelowLength}

-- ---- what holds of the value, if there is one

abbrev Holds : {A : Type 0} → (A → Type 0) → Result A Rule → Type 0
Holds P (Ok x) = P x
Holds P (Err r) = Unit {0}

holds_onward : {A B : Type 0} (P : A → Type 0) (Q : B → Type 0) (r : Result A Rule) (f : A → Result B Rule) → Holds P r → ((x : A) → P x → Holds Q (f x)) → Holds Q (onward r f)
holds_onward P Q (Ok x) f p q = q x p
holds_onward P Q (Err r) f p q = tt

holds_found : {A B : Type 0} (Q : B → Type 0) (rule : Rule) (o : Option A) (f : A → B) → ((x : A) → Q (f x)) → Holds Q (found rule o f)
holds_found Q rule None f q = tt
holds_found Q rule (Some x) f q = q x

holds_unless : {A : Type 0} (Q : A → Type 0) (b : Bool) (rule : Rule) (x : A) → Q x → Holds Q (unless b rule x)
holds_unless Q true rule x q = q
holds_unless Q false rule x q = tt

holds_anything : {A : Type 0} (r : Result A Rule) → Holds (λ x. Unit {0}) r
holds_anything (Ok x) = tt
holds_anything (Err r) = tt

-- ---- shapes give at most one

abbrev GivesFew : Shape → Type 0
GivesFew (Fixed takes gives) = length gives ≤ 1
GivesFew _ = Unit {0}

listed_few : (r : Option ValType) → length (listed r) ≤ 1
listed_few None = omega arith
listed_few (Some t) = omega arith

plain_few : (c : Context) (p : Plain) → Holds GivesFew (plain_shape c p)
plain_few c code.nop = omega arith
plain_few c code.drop_operand = tt
plain_few c code.select = tt
plain_few c (code.local_get x) = holds_found GivesFew NoLocal (slice_get c.locals x) (λ t. Fixed [] (t ∷ [])) (λ t. omega arith)
plain_few c (code.local_set x) = holds_found GivesFew NoLocal (slice_get c.locals x) (λ t. Fixed (t ∷ []) []) (λ t. omega arith)
plain_few c (code.local_tee x) = holds_found GivesFew NoLocal (slice_get c.locals x) (λ t. Fixed (t ∷ []) (t ∷ [])) (λ t. omega arith)
plain_few c (code.global_get x) = holds_found GivesFew NoGlobal (slice_get c.globals x) (λ (g : GlobalType). Fixed [] (g.kind ∷ [])) (λ t. omega arith)
plain_few c (code.global_set x) = holds_found GivesFew NoGlobal (slice_get c.globals x) (λ (g : GlobalType). Fixed (g.kind ∷ []) []) (λ t. omega arith)
plain_few c (code.load op align offset) = holds_unless GivesFew c.memory NoMemory _ (omega arith)
plain_few c (code.store op align offset) = holds_unless GivesFew c.memory NoMemory _ (omega arith)
plain_few c code.memory_size = holds_unless GivesFew c.memory NoMemory _ (omega arith)
plain_few c code.memory_copy = holds_unless GivesFew c.memory NoMemory _ (omega arith)
plain_few c code.memory_fill = holds_unless GivesFew c.memory NoMemory _ (omega arith)
plain_few c (code.const32 n) = omega arith
plain_few c (code.const64 n) = omega arith
plain_few c code.eqz32 = omega arith
plain_few c code.eqz64 = omega arith
plain_few c (code.rel32 op) = omega arith
plain_few c (code.rel64 op) = omega arith
plain_few c (code.un32 op) = omega arith
plain_few c (code.un64 op) = omega arith
plain_few c (code.bin32 op) = omega arith
plain_few c (code.bin64 op) = omega arith
plain_few c code.wrap = omega arith
plain_few c code.extend_s = omega arith
plain_few c code.extend_u = omega arith
plain_few c (code.sign_extend wide bits) = omega arith

shape_few : (c : Context) (i : Instruction) → Holds GivesFew (shape c i)
shape_few c unreachable = tt
shape_few c (br l) = holds_found GivesFew NoLabel (slice_get c.labels l) (λ label. Leaves (listed label)) (λ label. tt)
shape_few c (br_if l) = holds_found GivesFew NoLabel (slice_get c.labels l) (λ label. Fixed (I32 ∷ listed label) (listed label)) (λ label. listed_few label)
shape_few c (br_table ls d) =
    holds_onward (λ u. Unit {0}) GivesFew (all_labels c.labels ls) (λ _. found NoLabel (slice_get c.labels d) (λ label. Leaves (I32 ∷ listed label))) (holds_anything (all_labels c.labels ls))
    (λ u p. holds_found GivesFew NoLabel (slice_get c.labels d) (λ label. Leaves (I32 ∷ listed label)) (λ label. tt))
shape_few c return = tt
shape_few c (call f) = holds_found GivesFew NoFunction (type_of c f) (call_shape []) (λ (t : FunctionType). listed_few (result_of t))
shape_few c (call_indirect t) =
    holds_onward GivesFew GivesFew (found NoType (slice_get c.types t) (call_shape (I32 ∷ []))) (unless c.table NoTable)
    (holds_found GivesFew NoType (slice_get c.types t) (call_shape (I32 ∷ [])) (λ (t : FunctionType). listed_few (result_of t)))
    (λ s few. holds_unless GivesFew c.table NoTable s few)
shape_few c (plain p) = plain_few c p
shape_few c (block r) = tt
shape_few c (loop r) = tt
shape_few c (if_block r) = tt
shape_few c else_mark = tt
shape_few c end_mark = tt

-- ---- operands of the innermost block

abbrev AtMost : ℕ → List Operand → Type 0
AtMost n s = length s ≤ n

take_one_few : (t : ValType) (e : Bool) (s : List Operand) (n : ℕ) → length s ≤ n → Holds (AtMost n) (take_one t e s)
take_one_few t e [] n h = holds_unless (AtMost n) e MissingOperand [] h
take_one_few t e (None ∷ s) n h = omega (arith, h)
take_one_few t e (Some u ∷ s) n h = holds_unless (AtMost n) (same t u) OtherType s (omega (arith, h))

take_all_few : (ts : List ValType) (e : Bool) (s : List Operand) (n : ℕ) → length s ≤ n → Holds (AtMost n) (take_all ts e s)
take_all_few [] e s n h = h
take_all_few (t ∷ ts) e s n h = holds_onward (AtMost n) (AtMost n) (take_one t e s) (take_all ts e) (take_one_few t e s n h) (λ left few. take_all_few ts e left n few)

abbrev OthersAtMost : ℕ → (Operand × List Operand) → Type 0
OthersAtMost n p = length p.1 ≤ n

take_any_few : (e : Bool) (s : List Operand) (n : ℕ) → length s ≤ n → Holds (OthersAtMost n) (take_any e s)
take_any_few e [] n h = holds_unless (OthersAtMost n) e MissingOperand (None, []) h
take_any_few e (k ∷ s) n h = omega (arith, h)

abbrev LeavesAtMost : ℕ → (Bool × List Operand) → Type 0
LeavesAtMost n p = length p.1 ≤ n

known_more : (gives : List ValType) (left : List Operand) (n : ℕ) → length gives ≤ 1 → length left ≤ n → length (known gives ++ left) ≤ 1 + n
known_more gives left n few low =
    let all = length-append (known gives) left in
    let many : length (known gives) ≡ length gives = length-map gives Some in
    omega (arith, few, low, all, many)

acted_few : (s : Shape) (e : Bool) (os : List Operand) → GivesFew s → Holds (LeavesAtMost (1 + length os)) (acted s e os)
acted_few (Fixed takes gives) e os few =
    holds_onward (AtMost (length os)) (LeavesAtMost (1 + length os)) (take_all takes e os) (λ left. Ok (e, known gives ++ left)) (take_all_few takes e os (length os) (omega arith))
    (λ left low. known_more gives left (length os) few low)
acted_few (Leaves takes) e os few =
    holds_onward (AtMost (length os)) (LeavesAtMost (1 + length os)) (take_all takes e os) (λ left. Ok (true, [])) (take_all_few takes e os (length os) (omega arith)) (λ left low. omega arith)
acted_few AnyOne e os few =
    holds_onward (OthersAtMost (length os)) (LeavesAtMost (1 + length os)) (take_any e os) (λ p. Ok (e, p.1)) (take_any_few e os (length os) (omega arith)) (λ p low. omega (arith, low))
acted_few TwoAlike e os few =
    let n = length os in
    let most = 1 + length os in
    holds_onward (AtMost n) (LeavesAtMost most) (take_one I32 e os) (λ s1. onward (take_any e s1) (λ p. onward (take_any e p.1) (λ q. onward (joined p.0 q.0) (λ k. Ok (e, k ∷ q.1)))))
    (take_one_few I32 e os n (omega arith))
    (λ s1 first. holds_onward (OthersAtMost n) (LeavesAtMost most) (take_any e s1) (λ p. onward (take_any e p.1) (λ q. onward (joined p.0 q.0) (λ k. Ok (e, k ∷ q.1)))) (take_any_few e s1 n first)
    (λ p second. holds_onward (OthersAtMost n) (LeavesAtMost most) (take_any e p.1) (λ q. onward (joined p.0 q.0) (λ k. Ok (e, k ∷ q.1))) (take_any_few e p.1 n second)
    (λ q third. holds_onward (λ k. Unit {0}) (LeavesAtMost most) (joined p.0 q.0) (λ k. Ok (e, k ∷ q.1)) (holds_anything (joined p.0 q.0)) (λ k any. omega (arith, third)))))

-- ---- all open blocks

abbrev StandAtMost : ℕ → List Level → Type 0
StandAtMost n ls = standing ls ≤ n

on_top_few : (s : Shape) (ls : List Level) → GivesFew s → Holds (StandAtMost (1 + standing ls)) (on_top s ls)
on_top_few s [] few = tt
on_top_few s (l ∷ ls) few =
    holds_onward (LeavesAtMost (1 + length l.operands)) (StandAtMost (1 + standing (l ∷ ls))) (acted s l.endless l.operands) (λ p. Ok (record l { endless = p.0; operands = p.1 } ∷ ls))
    (acted_few s l.endless l.operands few) (λ p low. omega (arith, low))

opened_few : (o : Opening) (r : Option ValType) (ls : List Level) (n : ℕ) → standing ls ≤ n → Holds (StandAtMost n) (opened o r ls)
opened_few o r [] n h = tt
opened_few o r (l ∷ ls) n h = omega (arith, h)

turned_few : (ls : List Level) → Holds (StandAtMost (1 + standing ls)) (turned ls)
turned_few [] = tt
turned_few (l ∷ ls) =
    holds_onward (λ u. Unit {0}) (StandAtMost (1 + standing (l ∷ ls))) (may_turn l.opening) (λ _. onward (closes l.result l.endless l.operands) (λ _. Ok (fresh Straight l.result ∷ ls))) (holds_anything (may_turn l.opening))
    (λ u any. holds_onward (λ u. Unit {0}) (StandAtMost (1 + standing (l ∷ ls))) (closes l.result l.endless l.operands) (λ _. Ok (fresh Straight l.result ∷ ls)) (holds_anything (closes l.result l.endless l.operands))
    (λ u any. omega arith))

given_few : (r : Option ValType) (ls : List Level) → standing (given r ls) ≤ 1 + standing ls
given_few r [] = omega arith
given_few r (l ∷ ls) = let more = known_more (listed r) l.operands (length l.operands) (listed_few r) (omega arith) in omega (arith, more)

ended_few : (ls : List Level) → Holds (StandAtMost (1 + standing ls)) (ended ls)
ended_few [] = tt
ended_few (l ∷ ls) =
    let low = given_few l.result ls in
    holds_onward (λ u. Unit {0}) (StandAtMost (1 + standing (l ∷ ls))) (closes l.result l.endless l.operands) (λ _. onward (may_end l.opening l.result) (λ _. Ok (given l.result ls))) (holds_anything (closes l.result l.endless l.operands))
    (λ u any. holds_onward (λ u. Unit {0}) (StandAtMost (1 + standing (l ∷ ls))) (may_end l.opening l.result) (λ _. Ok (given l.result ls)) (holds_anything (may_end l.opening l.result))
    (λ u any. omega (arith, low)))

plainly_few : (c : Context) (i : Instruction) (ls : List Level) → Holds (StandAtMost (1 + standing ls)) (plainly c i ls)
plainly_few c i ls =
    let most = StandAtMost (1 + standing ls) in
    holds_onward GivesFew most (shape c i) (λ s. onward (on_top s ls) (λ next. onward (late c i) (λ _. Ok next))) (shape_few c i)
    (λ s few. holds_onward most most (on_top s ls) (λ next. onward (late c i) (λ _. Ok next)) (on_top_few s ls few)
    (λ next low. holds_onward (λ u. Unit {0}) most (late c i) (λ _. Ok next) (holds_anything (late c i)) (λ u any. low)))

step_few : (base : Context) (ls : List Level) (i : Instruction) → Holds (StandAtMost (1 + standing ls)) (step base ls i)
step_few base ls (block r) = opened_few Straight r ls (1 + standing ls) (omega arith)
step_few base ls (loop r) = opened_few Back r ls (1 + standing ls) (omega arith)
step_few base ls (if_block r) =
    let most = StandAtMost (1 + standing ls) in
    holds_onward most most (on_top (Fixed (I32 ∷ []) []) ls) (opened FirstArm r) (on_top_few (Fixed (I32 ∷ []) []) ls (omega arith)) (λ next low. opened_few FirstArm r next (1 + standing ls) low)
step_few base ls else_mark = turned_few ls
step_few base ls end_mark = ended_few ls
step_few base ls i = plainly_few (around base ls) i ls

-- ---- a body

further : (a b n k : ℕ) → a ≤ n → b ≤ n + k → max a b ≤ n + k
further a b n k h j = omega (arith, h, j)

pub peak_is_below_length : PeakIsBelowLength
peak_is_below_length base ls [] = omega arith
peak_is_below_length base ls (i ∷ is) = by (step base ls i) (step_few base ls i) (λ next. peak_is_below_length base next is)
  where
    by : (r : Result (List Level) Rule) → Holds (StandAtMost (1 + standing ls)) r → ((next : List Level) → peak base next is ≤ standing next + length is)
        → max (standing ls) (after r (λ next. peak base next is)) ≤ standing ls + length (i ∷ is)
    by (Err rule) h rest = omega arith
    by (Ok next) h rest =
        let low = rest next in
        further (standing ls) (peak base next is) (standing ls) (length (i ∷ is)) (omega arith) (omega (arith, h, low))
