-- What one more function adds, of which the heads and the code are there.
use Rattle.std.proofs.Common.{◌≡◌, ℕ, List, [], ◌∷◌, ◌++◌, map, ap, ◌∙◌}
use Rattle.std.proofs.lemmas.List.{map-append}
use Rattle.sem_words.specs.Lists.{list_items}
use Rattle.wasm_lang.specs.declared.types.ValType.{ValType}
use Rattle.wasm_lang.specs.Instructions.{Instruction}
use Rattle.wasm_lang.specs.Limits.{params_of}
use Rattle.wasm_lang.specs.Modules.{FunctionType, FunctionBody}
use Rattle.wasm_tree.specs.Views as views
use Rattle.wasm_tree.specs.declared.module.Body.{Body}
use Rattle.wat_lang.specs.declared.parts.Space.{Space}
use Rattle.wat_lang.specs.declared.parts.Space.TheVariants as spaces
use Rattle.wat_lang.specs.declared.parts.Part.TheVariants.{Local}
use Rattle.wat_lang.specs.declared.parts.FieldKind.{FieldKind}
use Rattle.wat_lang.specs.declared.parts.FieldKind.TheVariants as kinds
use Rattle.wat_lang.specs.Grammar.{Marked}
use Rattle.wat_lang.specs.Names.{Names, Field, types_in, local_names}
use Rattle.wat_lang.specs.Modules.{function_type_in, body_of, code_in}
use Rattle.wat_lang.specs.Rows.{locals_of}
use Rattle.wat_laws_kept.specs.Heads.{heads}
use Rattle.wat_laws_kept.proofs.Heads.{function_type_of_heads, types_of_heads}
use Rattle.wat_read_fields.specs.Fit.{defines_in}
use Rattle.wat_read_fields.specs.Lists.{HasFunctions}
use Rattle.wat_read_fields.specs.declared.lists.Functions.{Functions}
use Rattle.wat_read_fields.proofs.OneMore.{one_added, function_defined}

locals_of_function : (names_of : Space → Names) (types : List FunctionType) (f : Field) → f.kind ≡ kinds.Func → locals_of names_of types f ≡ local_names (params_of types (function_type_in names_of f.parts)) f.parts
locals_of_function names_of types f e = ap (λ (kind : FieldKind). locals_of names_of types (record { kind = kind; at = f.at; parts = f.parts })) e

abbrev body : List ValType → List Instruction → FunctionBody
body locals code = record { locals = locals; code = code }

-- a body that has the function's locals and its code
pub same_body : (names_of : Space → Names) (types : List FunctionType) (f : Field) (ms : List Marked) (b : Body) → f.kind ≡ kinds.Func → ms ≡ heads f.parts
    → views.locals_in (list_items b.locals) ≡ types_in Local ms → views.code_of b.code ≡ code_in names_of (locals_of names_of types f) f.parts → views.body_of b ≡ body_of names_of types f.parts
same_body names_of types f ms b is e locals code =
    ap (λ (ts : List ValType). body ts (views.code_of b.code)) (locals ∙ ap (types_in Local) e ∙ types_of_heads Local f.parts)
    ∙ ap (body (types_in Local f.parts)) (code ∙ ap (λ (ids : Names). code_in names_of ids f.parts) (locals_of_function names_of types f is))

pub function_added : (names_of : Space → Names) (types : List FunctionType) (old new : Functions) (fs : List Field) (f : Field) (ms : List Marked) (n : ℕ) (b : Body) → f.kind ≡ kinds.Func → ms ≡ heads f.parts
    → n ≡ function_type_in names_of ms → list_items new.types ≡ list_items old.types ++ n ∷ []
    → views.body_of b ≡ body_of names_of types f.parts → list_items new.bodies ≡ list_items old.bodies ++ b ∷ []
    → HasFunctions names_of types old fs → HasFunctions names_of types new (fs ++ f ∷ [])
function_added names_of types old new fs f ms n b is e type put_type has_body put_body h =
    let holds = function_defined f is in
    record {
      types = one_added (defines_in spaces.Func) (function_type_in names_of) fs f _ _ n holds (type ∙ ap (function_type_in names_of) e ∙ function_type_of_heads names_of f.parts) h.types put_type;
      bodies = one_added (defines_in spaces.Func) (body_of names_of types) fs f _ _ (views.body_of b) holds has_body h.bodies
          (ap (map views.body_of) put_body ∙ map-append views.body_of (list_items old.bodies) (b ∷ []));
    }
