-- One piece of code after another.
use Rattle.std.proofs.Common.{◌≡◌, List, ◌++◌, sym, ap, ◌∙◌, append_assoc, append-nil}
use Rattle.wasm_lang.specs.Instructions.{Instruction}
use Rattle.wasm_lang_exec.specs.Code.{Trees, ε, ◌⊕◌}
use Rattle.wasm_laws_trees.specs.Spelled.{flat}
use Rattle.wasm_laws_trees.proofs.Joined.{flat_joins}

module _ (o a b : List Instruction) where
  -- instructions after instructions
  pub then_ : (xs ys : List Instruction) → a ≡ o ++ xs → b ≡ a ++ ys → b ≡ o ++ (xs ++ ys)
  then_ xs ys h k = k ∙ ap (λ l. l ++ ys) h ∙ append_assoc o xs ys

  -- a piece after a piece
  pub joined : (x y : Trees) → a ≡ o ++ flat x → b ≡ a ++ flat y → b ≡ o ++ flat (x ⊕ y)
  joined x y h k = then_ (flat x) (flat y) h k ∙ ap (λ l. o ++ l) (sym (flat_joins x y))

-- nothing
pub same : (o : List Instruction) → o ≡ o ++ flat ε
same o = sym (append-nil o)
