-- The first row of the phases in their order.
use Rattle.std.proofs.Common.{◌≡◌, List, [], ◌∷◌, ◌++◌, Option, Some, None, Result, Err, ℕ, ◌<◌, ◌≤◌, ◌^◌, length, refl, sym, ap, ◌∙◌, subst, arith}
use Rattle.std.specs.Prelude.{MatchResult, slice_get}
use Rattle.std.specs.Option.{option_map}
use Rattle.std.proofs.lemmas.Option.{slice_get-map}
use Rattle.sem_words.specs.Lists.{list_items}
use Rattle.asm_tree.specs.declared.tree.Module.{Module as Tree}
use Rattle.asm_tree.specs.declared.tree.Function.{Function as CodeFunction}
use Rattle.asm_tree.specs.Views.{module_view, function_view}
use Rattle.asm_lang_valid.specs.Scope.{signature_of}
use Rattle.asm_validate.specs.declared.checked.Signature.{Signature}
use Rattle.asm_validate.specs.Signatures.{signature_said}
use Rattle.asm_lang.specs.Modules.{Function, Module}
use Rattle.asm_lang_valid.specs.declared.rule.Met.{Met}
use Rattle.asm_lang_valid.specs.Rows.{first}
use Rattle.asm_lang_valid.specs.NameRows.{name_rows}
use Rattle.asm_lang_valid.specs.TypeRows.{type_rows}
use Rattle.asm_lang_valid.specs.LimitRows.{limit_rows}
use Rattle.asm_lang_valid.specs.Refusal.{refusal, IsAccepted}
use Rattle.asm_validate_names.specs.declared.refusal.AsmRefusal.{AsmRefusal}
use Rattle.asm_validate_names.specs.declared.refusal.AsmRefusal.TheVariants.{Refused, Memory}
use Rattle.asm_validate_names.specs.Refusals.{IsRow}
use Rattle.asm_validate_names.proofs.Found.{first_before}
use Rattle.asm_validate_limits.proofs.Few as few
use Rattle.asm_validate.specs.Refusals.{IsRefused}

module _ (m : Module) where
  pub by_names : (f : AsmRefusal) → IsRow (name_rows m) f → IsRefused m f
  by_names (Refused r n) h = first_before (name_rows m) (type_rows m ++ limit_rows m) _ h
  by_names Memory h = tt

  module _ (named : name_rows m ≡ []) where
    rest : refusal m ≡ first (type_rows m ++ limit_rows m)
    rest = ap (λ l. first (l ++ (type_rows m ++ limit_rows m))) named

    pub by_types : (f : AsmRefusal) → IsRow (type_rows m) f → IsRefused m f
    by_types (Refused r n) h = rest ∙ first_before (type_rows m) (limit_rows m) _ h
    by_types Memory h = tt

    module _ (typed : type_rows m ≡ []) where
      last : refusal m ≡ first (limit_rows m)
      last = rest ∙ ap (λ l. first (l ++ limit_rows m)) typed

      pub by_limits : (f : AsmRefusal) → IsRow (limit_rows m) f → IsRefused m f
      by_limits (Refused r n) h = last ∙ h
      by_limits Memory h = tt

      pub accepted : limit_rows m ≡ [] → IsAccepted m
      accepted h = last ∙ ap first h

pub refused_by : {A : Type 0} (m : Module) (r : Result A AsmRefusal) (f : AsmRefusal) → r ≡ Err f → IsRefused m f → MatchResult r (λ u. IsAccepted m) (IsRefused m)
refused_by m r f e h = subst (λ r. MatchResult r (λ u. IsAccepted m) (IsRefused m)) (sym e) h

-- ---- what an accepted module has

both_none : (xs ys : List Met) → xs ++ ys ≡ [] → ys ≡ []
both_none [] ys h = h
both_none (x ∷ xs) ys h = cc

no_first : (xs : List Met) → first xs ≡ None → xs ≡ []
no_first [] h = refl
no_first (x ∷ xs) h = cc

pub within_limits : (m : Module) → IsAccepted m → limit_rows m ≡ []
within_limits m h = both_none (type_rows m) (limit_rows m) (both_none (name_rows m) (type_rows m ++ limit_rows m) (no_first (name_rows m ++ (type_rows m ++ limit_rows m)) h))

pub few_functions : (m : Module) → IsAccepted m → length m.functions < 2 ^ 32
few_functions m h =
    let few : length m.functions ≤ 50000 = few.few_functions m (within_limits m h) in
    omega arith

pub few_params : (m : Module) (i : ℕ) (f : Function) → IsAccepted m → slice_get m.functions i ≡ Some f → length f.params < 2 ^ 32
few_params m i f h is =
    let few : length f.params ≤ 2000 = few.few_params m i f (within_limits m h) is in
    omega arith

-- ---- signatures by number

module _ (t m : Tree) (i : ℕ) (same : t ≡ m) where
  functions_same : slice_get (module_view m).functions i ≡ option_map function_view (slice_get (list_items t.functions) i)
  functions_same = ap (λ (x : Tree). slice_get (module_view x).functions i) (sym same) ∙ slice_get-map function_view (list_items t.functions) i

  pub few_there : (f : CodeFunction) → IsAccepted (module_view t) → Some f ≡ slice_get (list_items t.functions) i → length (function_view f).params < 2 ^ 32
  few_there f h is = few_params (module_view t) i (function_view f) h (slice_get-map function_view (list_items t.functions) i ∙ ap (option_map function_view) (sym is))

  pub signature_there : (f : CodeFunction) (s : Signature) → Some f ≡ slice_get (list_items t.functions) i → signature_said s ≡ signature_of (function_view f) → Some (signature_said s) ≡ option_map signature_of (slice_get (module_view m).functions i)
  signature_there f s is said = ap Some said ∙ ap (λ (o : Option CodeFunction). option_map signature_of (option_map function_view o)) is ∙ ap (option_map signature_of) (sym functions_same)

  pub signature_past : None ≡ slice_get (list_items t.functions) i → None ≡ option_map signature_of (slice_get (module_view m).functions i)
  signature_past is = ap (λ (o : Option CodeFunction). option_map signature_of (option_map function_view o)) is ∙ ap (option_map signature_of) (sym functions_same)
