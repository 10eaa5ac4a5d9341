-- What typed code names is in its context.
use Rattle.std.proofs.Common.{◌≡◌, ℕ, ◌<◌, ◌≤◌, Bool, true, false, List, [], ◌∷◌, ◌++◌, length, Option, Some, None, Result, Ok, Err, refl, ap, arith}
use Rattle.std.specs.Prelude.{slice_get, cond, nat_le}
use Rattle.std.specs.List.{AllByRecursion}
use Rattle.std.proofs.lemmas.Bool.Decides.{nat_tests}
use Rattle.std.proofs.lemmas.List.Elements.{All-from_recursion}
use Rattle.std.proofs.lemmas.Option.{slice_get_within}
use Rattle.wasm_lang.specs.declared.types.ValType.{ValType}
use Rattle.wasm_lang.specs.declared.types.ValType.TheVariants.{I32}
use Rattle.wasm_lang.specs.declared.types.GlobalType.{GlobalType}
use Rattle.wasm_lang.specs.declared.types.MemOp.{MemOp}
use Rattle.wasm_lang.specs.Instructions as flat
use Rattle.wasm_lang.specs.Instructions.{Plain, local_get, local_set, local_tee, global_get, global_set, load, store}
use Rattle.wasm_lang.specs.Modules.{FunctionType}
use Rattle.wasm_lang_valid.specs.declared.rule.Rule.{Rule}
use Rattle.wasm_lang_valid.specs.declared.rule.Rule.TheVariants.{NoType, NoFunction, NoTable, NoLocal, NoGlobal, NoLabel, Alignment}
use Rattle.wasm_lang_valid.specs.Typing as machine
use Rattle.wasm_lang_valid.specs.Typing.{Context, Shape, Fixed, Leaves, shape, plain_shape, plain_late, call_shape, found, onward, unless, all_labels, listed, inside, natural}
use Rattle.wasm_lang_exec.specs.Code.{unreachable, block, loop, if_block, br, br_if, br_table, return, call, call_indirect, plain, ε, ◌▹◌}
use Rattle.asm2wasm_laws_writable.specs.Parts.{PlainNamesBelow, HasAtMost}
use Rattle.asm2wasm_laws_writable.specs.Laws.{TypedNamesAreBelow}

-- ---- what is found is there

found_within : {A B : Type 0} (rule : Rule) (xs : List A) (x : ℕ) (f : A → B) (y : B) → found rule (slice_get xs x) f ≡ Ok y → x < length xs
found_within {A = A} rule xs x f y h = by (slice_get xs x) refl h
  where
    by : (o : Option A) → slice_get xs x ≡ o → found rule o f ≡ Ok y → x < length xs
    by None e h = absurd (cc h)
    by (Some a) e h = slice_get_within xs x a e

labels_within : (labels : List (Option ValType)) (ls : List ℕ) (u : Unit {0}) → all_labels labels ls ≡ Ok u → AllByRecursion (λ l. l < length labels) ls
labels_within labels [] u h = tt
labels_within labels (l ∷ ls) u h = by (slice_get labels l) refl (labels_within labels ls u) h
  where
    by : (o : Option (Option ValType)) → slice_get labels l ≡ o → (all_labels labels ls ≡ Ok u → AllByRecursion (λ l. l < length labels) ls) → onward (found NoLabel o (λ t. t)) (λ t. all_labels labels ls) ≡ Ok u
        → AllByRecursion (λ l. l < length labels) (l ∷ ls)
    by None e rest h = absurd (cc h)
    by (Some t) e rest h = (slice_get_within labels l t e, rest h)

table_within : (labels : List (Option ValType)) (ls : List ℕ) (d : ℕ) (f : Option ValType → Shape) (s : Shape) → onward (all_labels labels ls) (λ _. found NoLabel (slice_get labels d) f) ≡ Ok s
    → AllByRecursion (λ l. l < length labels) ls × (d < length labels)
table_within labels ls d f s h = by (all_labels labels ls) refl h
  where
    by : (r : Result (Unit {0}) Rule) → all_labels labels ls ≡ r → onward r (λ _. found NoLabel (slice_get labels d) f) ≡ Ok s → AllByRecursion (λ l. l < length labels) ls × (d < length labels)
    by (Err rule) e h = absurd (cc h)
    by (Ok u) e h = (labels_within labels ls u e, found_within NoLabel labels d f s h)

function_within : (c : Context) (f : ℕ) (s : Shape) → shape c (flat.call f) ≡ Ok s → f < length c.functions
function_within c f s h = by (slice_get c.functions f) refl
  where
    no_type : slice_get c.functions f ≡ None → machine.type_of c f ≡ None
    no_type e = rw e refl

    by : (o : Option ℕ) → slice_get c.functions f ≡ o → f < length c.functions
    by None e = let none = ap (λ o. found NoFunction o (call_shape [])) (no_type e) in absurd (cc (none, h))
    by (Some t) e = slice_get_within c.functions f t e

type_within : (c : Context) (t : ℕ) (s : Shape) → shape c (flat.call_indirect t) ≡ Ok s → t < length c.types
type_within c t s h = by (slice_get c.types t) refl h
  where
    by : (o : Option FunctionType) → slice_get c.types t ≡ o → onward (found NoType o (call_shape (I32 ∷ []))) (unless c.table NoTable) ≡ Ok s → t < length c.types
    by None e h = absurd (cc h)
    by (Some f) e h = slice_get_within c.types t f e

-- ---- alignments are those of at most eight bytes

natural_low : (n : ℕ) → natural n ≤ 3
natural_low n = by (nat_le 8 n) (nat_le 4 n) (nat_le 2 n)
  where
    by : (a b c : Bool) → cond a 3 (cond b 2 (cond c 1 0)) ≤ 3
    by true b c = omega arith
    by false true c = omega arith
    by false false true = omega arith
    by false false false = omega arith

abbrev Kept : Result (Unit {0}) Rule → Type 0
Kept r = r ≡ Ok tt

align_low : (op : MemOp) (align : ℕ) → Kept (unless (nat_le align (natural op.size)) Alignment tt) → align < 128
align_low op align h = by (nat_le align (natural op.size)) refl h
  where
    by : (b : Bool) → nat_le align (natural op.size) ≡ b → Kept (unless b Alignment tt) → align < 128
    by false e h = absurd (cc h)
    by true e h =
        let low = natural_low op.size in
        let le : align ≤ natural op.size = grind (arith, nat_tests) in
        omega (arith, low, le)

-- ---- instructions

lower : (n k : ℕ) (ls : List ℕ) → k ≤ n → AllByRecursion (λ l. l < k) ls → AllByRecursion (λ l. l < n) ls
lower n k [] le a = tt
lower n k (l ∷ ls) le a = ((let here = a.0 in omega (arith, le, here)), lower n k ls le a.1)

plain_below : (n : ℕ) (c : Context) (p : Plain) (s : Shape) → HasAtMost n c → plain_shape c p ≡ Ok s → plain_late c p ≡ Ok tt → PlainNamesBelow n p
plain_below n c (local_get x) s most h l = let within = found_within NoLocal c.locals x (λ t. Fixed [] (t ∷ [])) s h in let few = most.locals in omega (arith, within, few)
plain_below n c (local_set x) s most h l = let within = found_within NoLocal c.locals x (λ t. Fixed (t ∷ []) []) s h in let few = most.locals in omega (arith, within, few)
plain_below n c (local_tee x) s most h l = let within = found_within NoLocal c.locals x (λ t. Fixed (t ∷ []) (t ∷ [])) s h in let few = most.locals in omega (arith, within, few)
plain_below n c (global_get x) s most h l = let within = found_within NoGlobal c.globals x (λ (g : GlobalType). Fixed [] (g.kind ∷ [])) s h in let few = most.globals in omega (arith, within, few)
plain_below n c (global_set x) s most h l = let within = found_within NoGlobal c.globals x (λ (g : GlobalType). Fixed (g.kind ∷ []) []) s h in let few = most.globals in omega (arith, within, few)
plain_below n c (load op align offset) s most h l = align_low op align l
plain_below n c (store op align offset) s most h l = align_low op align l
plain_below n c p s most h l = tt

-- ---- code

inside_too : (n : ℕ) (r : Option ValType) (c : Context) → HasAtMost n c → HasAtMost n (inside r c)
inside_too n r c most = record { types = most.types; functions = most.functions; globals = most.globals; locals = most.locals }

pub typed_names_are_below : TypedNamesAreBelow
typed_names_are_below n c ε before after most room t = tt
typed_names_are_below n c (block r body ▹ code) before after most room t =
    (tt, typed_names_are_below n (inside r c) body [] (listed r) (inside_too n r c most) (omega (arith, room)) t.0, typed_names_are_below n c code (listed r ++ before) after most (omega (arith, room)) t.1)
typed_names_are_below n c (loop r body ▹ code) before after most room t =
    (tt, typed_names_are_below n (inside None c) body [] (listed r) (inside_too n None c most) (omega (arith, room)) t.0, typed_names_are_below n c code (listed r ++ before) after most (omega (arith, room)) t.1)
typed_names_are_below n c (if_block r first second ▹ code) before after most room t = (
  tt,
  typed_names_are_below n (inside r c) first [] (listed r) (inside_too n r c most) (omega (arith, room)) t.2,
  typed_names_are_below n (inside r c) second [] (listed r) (inside_too n r c most) (omega (arith, room)) t.3,
  typed_names_are_below n c code (listed r ++ t.0) after most (omega (arith, room)) t.4,
)
typed_names_are_below n c (unreachable ▹ code) before after most room t = (tt, typed_names_are_below n c code (t.gives ++ t.below) after most (omega (arith, room)) t.goes_on)
typed_names_are_below n c (br l ▹ code) before after most room t =
    let within = found_within NoLabel c.labels l (λ label. Leaves (listed label)) t.form t.has_form in
    (omega (arith, room, within), typed_names_are_below n c code (t.gives ++ t.below) after most (omega (arith, room)) t.goes_on)
typed_names_are_below n c (br_if l ▹ code) before after most room t =
    let within = found_within NoLabel c.labels l (λ label. Fixed (I32 ∷ listed label) (listed label)) t.form t.has_form in
    (omega (arith, room, within), typed_names_are_below n c code (t.gives ++ t.below) after most (omega (arith, room)) t.goes_on)
typed_names_are_below n c (br_table ls d ▹ code) before after most room t =
    let within = table_within c.labels ls d (λ label. Leaves (I32 ∷ listed label)) t.form t.has_form in
    let last = within.1 in
    let few : length c.labels ≤ n = omega (arith, room) in (
      (All-from_recursion (λ k. k < n) ls (lower n (length c.labels) ls few within.0), omega (arith, few, last)),
      typed_names_are_below n c code (t.gives ++ t.below) after most (omega (arith, room)) t.goes_on,
    )
typed_names_are_below n c (return ▹ code) before after most room t = (tt, typed_names_are_below n c code (t.gives ++ t.below) after most (omega (arith, room)) t.goes_on)
typed_names_are_below n c (call f ▹ code) before after most room t =
    let within = function_within c f t.form t.has_form in
    let few = most.functions in
    (omega (arith, within, few), typed_names_are_below n c code (t.gives ++ t.below) after most (omega (arith, room)) t.goes_on)
typed_names_are_below n c (call_indirect i ▹ code) before after most room t =
    let within = type_within c i t.form t.has_form in
    let few = most.types in
    (omega (arith, within, few), typed_names_are_below n c code (t.gives ++ t.below) after most (omega (arith, room)) t.goes_on)
typed_names_are_below n c (plain p ▹ code) before after most room t =
    (plain_below n c p t.form most t.has_form t.keeps_rules, typed_names_are_below n c code (t.gives ++ t.below) after most (omega (arith, room)) t.goes_on)
