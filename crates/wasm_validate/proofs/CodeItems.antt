-- The bodies of the code section, one after another.
use Rattle.std.proofs.Common.{◌≡◌, ℕ, ◌+◌, List, All, Some, sym, subst, arith}
use Rattle.std.specs.Prelude.{slice_get}
use Rattle.std.proofs.lemmas.Option.{slice_get_within, get_or_from_slice_get}
use Rattle.std.proofs.lemmas.List.Elements.{All-get_or}
use Rattle.wasm_lang.specs.Modules.{FunctionBody, WasmModule}
use Rattle.wasm_lang_valid.specs.Typing.{IsValid}
use Rattle.wasm_lang_valid.specs.declared.section.Section.TheVariants as sections
use Rattle.wasm_lang_valid.specs.Validity.{body_context, IsFine, IsValidBody, BodyRefuses}
use Rattle.wasm_validate_bodies.specs.declared.fault.BodyFault.{BodyFault}
use Rattle.wasm_validate_bodies.specs.declared.fault.BodyFault.TheVariants.{Broken, Memory}
use Rattle.wasm_validate_bodies.specs.Bodies.{IsRefusal}
use Rattle.wasm_validate.specs.Bodies.{FineBodies, IsCodeFault, at_body}

pub all_at : {A : Type 0} (P : A → Type 0) (xs : List A) (i : ℕ) (x : A) → slice_get xs i ≡ Some x → All P xs → P x
all_at P xs i x e all = subst P (get_or_from_slice_get xs i x x e) (All-get_or P xs i x (slice_get_within xs i x e) all)

fine_more : (m : WasmModule) (i : ℕ) → FineBodies m i → IsFine m sections.Code i → FineBodies m (i + 1)
fine_more m i fine here k h = grind (arith, fine, here)

pub body_fine : (m : WasmModule) (i : ℕ) (b : FunctionBody) → slice_get m.bodies i ≡ Some b → FineBodies m i → IsValid (body_context m i b) b.code → FineBodies m (i + 1)
body_fine m i b e fine v = fine_more m i fine (subst (IsValidBody m i) (sym e) v)

pub body_fault : (m : WasmModule) (i : ℕ) (b : FunctionBody) (fault : BodyFault) → slice_get m.bodies i ≡ Some b → FineBodies m i → IsRefusal (body_context m i b) b.code fault → IsCodeFault m (at_body fault i)
body_fault m i b (Broken rule place) e fine r = (slice_get_within m.bodies i b e, fine, subst (λ o. BodyRefuses m i o rule place) (sym e) r)
body_fault m i b Memory e fine r = tt
