-- Limits by their parts.
use Rattle.std.proofs.Common.{◌≡◌, ℕ, Bool, true, false, sym, ap, ◌∙◌, subst}
use Rattle.std.specs.Prelude.{Result, Ok}
use Rattle.wasm_lang.specs.declared.fault.Fault.{Fault}
use Rattle.wasm_lang.specs.Limits.{most_entries}
use Rattle.wasm_lang.specs.Reading.{Input, Field, ◌>>=◌, u32, exactly, count_field}
use Rattle.wasm_lang.specs.ReadingModule.{flag_field, limits_by, memory_field, table_field}
use Rattle.wasm_tree.specs.declared.input.Input.{Input as Place}
use Rattle.wasm_tree.specs.Inputs.{IsField}
use Rattle.wasm_binary_entries.specs.Kinds.{maximum_field}

-- what is read, by an equation of fields
pub field_as : {A X : Type 0} (view : A → X) (r : Result (A × Place) Fault) (f g : Field X) → g ≡ f → IsField view r f → IsField view r g
field_as view r f g e h = subst (λ g. IsField view r g) (sym e) h

limits_step : (min : Input → Field ℕ) (i j k : Input) (more : Bool) (n : ℕ) → flag_field i ≡ Ok (more, j) → min j ≡ Ok (n, k) → limits_by min i ≡ maximum_field more n k
limits_step min i j k false n e f = ap (λ r. r >>= λ more. min more.1 >>= λ n. maximum_field more.0 n.0 n.1) e ∙ ap (λ r. r >>= λ n. maximum_field false n.0 n.1) f
limits_step min i j k true n e f = ap (λ r. r >>= λ more. min more.1 >>= λ n. maximum_field more.0 n.0 n.1) e ∙ ap (λ r. r >>= λ n. maximum_field true n.0 n.1) f

pub memory_step : (i j k : Input) (more : Bool) (n : ℕ) → flag_field i ≡ Ok (more, j) → u32 j ≡ Ok (n, k) → memory_field i ≡ maximum_field more n k
memory_step i j k more n e f = limits_step u32 i j k more n e f

pub table_step : (h i j k : Input) (b : ℕ) (more : Bool) (n : ℕ) → exactly 0x70 h ≡ Ok (b, i) → flag_field i ≡ Ok (more, j) → count_field 0 most_entries j ≡ Ok (n, k) → table_field h ≡ maximum_field more n k
table_step h i j k b more n d e f = ap (λ r. r >>= λ b. limits_by (count_field 0 most_entries) b.1) d ∙ limits_step (count_field 0 most_entries) i j k more n e f
