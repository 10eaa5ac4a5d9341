-- The bodies of a valid module are trees, and those of one that can be translated multiply and divide no words of 64 bits.
use Rattle.std.proofs.Common.{◌≡◌, ℕ, zero, suc, ◌+◌, Bool, true, false, List, [], ◌∷◌, Option, Some, None, refl, subst, sym}
use Rattle.std.specs.Prelude.{slice_get, cond, IsSome}
use Rattle.std.proofs.lemmas.Option.{slice_get_within}
use Rattle.wasm_lang.specs.Modules.{FunctionBody, WasmModule}
use Rattle.wasm_lang_valid.specs.declared.section.Section.TheVariants as sections
use Rattle.wasm_lang_valid.specs.Measures.{has_mul_div, first_mul_div}
use Rattle.wasm_lang_valid.specs.Validity.{body_context, IsValidBody, IsValidModule}
use Rattle.wasm_lang_exec.specs.Code.{Trees, tree_of}
use Rattle.wasm_laws_sound.proofs.Nesting.{tree_is_typed}

pub record IsTree (b : FunctionBody) : Type 0 where
  pub tree : Trees
  pub is : tree_of b.code ≡ Some tree

pub is_tree : (m : WasmModule) → IsValidModule m → (k : ℕ) (b : FunctionBody) → slice_get m.bodies k ≡ Some b → IsTree b
is_tree m valid k b there =
    let fine : IsValidBody m k (slice_get m.bodies k) = valid sections.Code k (slice_get_within m.bodies k b there) in
    let it = tree_is_typed (body_context m k b) b.code (subst (IsValidBody m k) there fine) in
    record { tree = it.0; is = it.1 }

pub some_tree : (b : FunctionBody) → IsTree b → IsSome (tree_of b.code)
some_tree b t = subst (λ (o : Option Trees). IsSome o) (sym t.is) refl

first_is_none : (t : Bool) (n : ℕ) (o : Option ℕ) → cond t (Some n) o ≡ None → (t ≡ false) × (o ≡ None)
first_is_none true n o h = absurd (cc h)
first_is_none false n o h = (refl, h)

pub translated_there : (bs : List FunctionBody) (n k : ℕ) (b : FunctionBody) → first_mul_div n bs ≡ None → slice_get bs k ≡ Some b → has_mul_div b.code ≡ false
translated_there [] n k b h there = absurd (cc there)
translated_there (x ∷ xs) n zero b h there = let same : x ≡ b = cc there in subst (λ b. has_mul_div b.code ≡ false) same (first_is_none (has_mul_div x.code) n (first_mul_div (n + 1) xs) h).0
translated_there (x ∷ xs) n (suc k) b h there = translated_there xs (n + 1) k b (first_is_none (has_mul_div x.code) n (first_mul_div (n + 1) xs) h).1 there
