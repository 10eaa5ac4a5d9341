-- The code of an expression from that of its parts.
use Rattle.std.proofs.Common.{◌≡◌, ℕ, Bool, true, false, List, ◌++◌, Result, Ok, Err, OnOk, refl, sym, ap, subst, ◌∙◌, append-nil}
use Rattle.std.specs.Prelude.{if◌then◌else◌}
use Rattle.wasm_lang.specs.Instructions.{Instruction, drop_operand}
use Rattle.wasm_lang_exec.specs.Code.{Trees, ε, ◌▹◌, ◌⊕◌}
use Rattle.wasm_laws_trees.specs.Spelled.{flat}
use Rattle.wasm_laws_write.specs.Lengths.{IsNarrow}
use Rattle.wasm_laws_write.specs.Each.{EachIn}
use Rattle.asm_lang.specs.Modules.{Expr}
use Rattle.asm_lang_valid.specs.Typing.{Scope}
use Rattle.asm2wasm_translation.specs.Values.{one, finished, expr_code}
use Rattle.asm2wasm_emit_pieces.proofs.Joined.{joined}
use Rattle.asm2wasm_emit_pieces.proofs.Parts.{first_part}

-- what the last call gave leads on to what is told
pub on_ok : {E : Type 0} (r : Result (Unit {0}) E) (P Q : Type 0) → (P → Q) → OnOk r P → OnOk r Q
on_ok (Ok u) P Q f h = f h
on_ok (Err e) P Q f h = tt

-- ---- an expression of a form

module _ (size : ℕ) (c : Scope) (w : Bool) (d : ℕ) (e x : Expr) (is : e ≡ x) where
  pub given : EachIn IsNarrow (expr_code size c w d e) → EachIn IsNarrow (expr_code size c w d x)
  given h = subst (λ y. EachIn IsNarrow (expr_code size c w d y)) is h

  pub told : {E : Type 0} (r : Result (Unit {0}) E) (o b : List Instruction) → OnOk r (b ≡ o ++ flat (expr_code size c w d x)) → OnOk r (b ≡ o ++ flat (expr_code size c w d e))
  told r o b h = subst (λ y. OnOk r (b ≡ o ++ flat (expr_code size c w d y))) (sym is) h

-- ---- values that aren't wanted

pub value_part : (w : Bool) (x : Trees) → EachIn IsNarrow (finished w x) → EachIn IsNarrow x
value_part true x h = h
value_part false x h = first_part IsNarrow x (one drop_operand) h

pub finished_by : (w : Bool) (o a b : List Instruction) (x : Trees) → a ≡ o ++ flat x → b ≡ a ++ flat (finished w ε) → b ≡ o ++ flat (finished w x)
finished_by true o a b x h k = k ∙ append-nil a ∙ h
finished_by false o a b x h k = joined o a b x (one drop_operand) h k

-- .. where the last call drops it
pub finished_last : {E : Type 0} (r : Result (Unit {0}) E) (w : Bool) (o a b : List Instruction) (x : Trees) → a ≡ o ++ flat x → OnOk r (b ≡ a ++ flat (finished w ε)) → OnOk r (b ≡ o ++ flat (finished w x))
finished_last r w o a b x h k = on_ok r (b ≡ a ++ flat (finished w ε)) (b ≡ o ++ flat (finished w x)) (finished_by w o a b x h) k

pub joined_last : {E : Type 0} (r : Result (Unit {0}) E) (o a b : List Instruction) (x y : Trees) → a ≡ o ++ flat x → OnOk r (b ≡ a ++ flat y) → OnOk r (b ≡ o ++ flat (x ⊕ y))
joined_last r o a b x y h k = on_ok r (b ≡ a ++ flat y) (b ≡ o ++ flat (x ⊕ y)) (joined o a b x y h) k

-- ---- the operands of an operator, of which the right may be a zero that isn't there

pub left_part : (z : Bool) (x y : Trees) → EachIn IsNarrow (if z then x else x ⊕ y) → EachIn IsNarrow x
left_part true x y h = h
left_part false x y h = first_part IsNarrow x y h

-- ---- the entry of a table

together : (x y z : Trees) → (x ⊕ y) ⊕ z ≡ x ⊕ (y ⊕ z)
together ε y z = refl
together (t ▹ x) y z = ap (λ l. t ▹ l) (together x y z)

pub front_part : (x y z : Trees) → EachIn IsNarrow (x ⊕ (y ⊕ z)) → EachIn IsNarrow (x ⊕ y)
front_part x y z h = first_part IsNarrow (x ⊕ y) z (subst (λ l. EachIn IsNarrow l) (sym (together x y z)) h)

pub as_pair : {E : Type 0} (r : Result (Unit {0}) E) (o b : List Instruction) (x y z : Trees) → OnOk r (b ≡ o ++ flat ((x ⊕ y) ⊕ z)) → OnOk r (b ≡ o ++ flat (x ⊕ (y ⊕ z)))
as_pair r o b x y z h = subst (λ l. OnOk r (b ≡ o ++ flat l)) (together x y z) h
