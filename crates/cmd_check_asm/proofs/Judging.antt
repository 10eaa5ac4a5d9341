-- What reading a text and validating its module tell of the text.
use Rattle.std.proofs.Common.{◌≡◌, ℕ, ◌<◌, List, length, map, Result, Ok, Err, Some, refl, sym, ap, ◌∙◌, subst, arith}
use Rattle.std.proofs.lemmas.List.{length-map}
use Rattle.std.proofs.lemmas.Option.{slice_get-get_or}
use Rattle.std.specs.Prelude.{IfOk, IfErr}
use Rattle.asm_lang.specs.Trees.{ModuleTree}
use Rattle.asm_lang.specs.Modules.{Module, Export, Exports, one, many, module_of, module_places}
use Rattle.asm_lang.specs.Texts.{SaysModule}
use Rattle.asm_lang.specs.Heights.{IsWellFormed}
use Rattle.asm_laws_print.proofs.Printed.{text_fits, fits_well_formed}
use Rattle.asm_laws_fault.proofs.Refusal.Within.{refused_within}
use Rattle.asm_tree.specs.declared.tree.Module.{Module as Tree}
use Rattle.asm_tree.specs.Views.{module_view}
use Rattle.asm_lang_valid.specs.declared.rule.Met.{Met}
use Rattle.asm_lang_valid.specs.Rows.{module_count, exports_count}
use Rattle.asm_lang_valid.specs.Refusal.{refusal, exported, exported_from}
use Rattle.asm_lang_valid.specs.Texts.{IsAcceptedText}
use Rattle.asm_text.specs.declared.fault.TextFault.{TextFault}
use Rattle.asm_text.specs.declared.fault.TextFault.TheVariants as texts
use Rattle.asm_text.specs.Faults.{IsFault}
use Rattle.asm_text.specs.Said.{IsAnswer}
use Rattle.asm_validate_names.specs.declared.refusal.AsmRefusal.{AsmRefusal}
use Rattle.asm_validate_names.specs.declared.refusal.AsmRefusal.TheVariants as refusals
use Rattle.asm_validate.specs.Refusals.{IsRefused}
use Rattle.bridge_lang.specs.declared.asm_rows.AsmRow.TheVariants as rows
use Rattle.cmd_check_asm.specs.declared.fault.CheckFault.{CheckFault}
use Rattle.cmd_check_asm.specs.declared.fault.CheckFault.TheVariants.{Refused, Memory}
use Rattle.cmd_check_asm.specs.Refusals.{of_text, of_module, IsWithin}
use Rattle.cmd_check_asm.specs.Judged.{IsVerdict}
use Rattle.cmd_check_asm.specs.Verdicts.{IsRefusal}

-- ---- a module that was read

counted : (text places : List ℕ) (m : Module) → ((t : ModuleTree) → length (module_places t) ≡ module_count (module_of t)) → SaysModule text m places → length places ≡ module_count m
counted text places m law says = ap length says.have_places ∙ law says.said.tree ∙ ap module_count says.said.is_this

pub well_formed : (text places : List ℕ) (m : Module) → SaysModule text m places → IsWellFormed m
well_formed text places m says = fits_well_formed m (text_fits text m says.said) says.within

-- the node that it is refused at has a place
pub refused_there : (text places : List ℕ) (m : Module) → ((t : ModuleTree) → length (module_places t) ≡ module_count (module_of t)) → SaysModule text m places → (x : Met) → refusal m ≡ Some x → x.node < length places
refused_there text places m law says x is =
    let count = counted text places m law says in
    let within : x.node < module_count m = refused_within m x (text_fits text m says.said) is in
    omega arith

pub accepted_text : (text places : List ℕ) (m : Module) (r : Result Tree CheckFault) → SaysModule text m places → IsVerdict m places r → IfOk r (λ (t : Tree). IsAcceptedText text (module_view t))
accepted_text text places m (Ok checked) says v = subst (IsAcceptedText text) (sym v.0) (record { places = places; says = says; accepted = v.1 })
accepted_text text places m (Err fault) says v = tt

pub refused_text : (text places : List ℕ) (m : Module) (r : Result Tree CheckFault) → SaysModule text m places → IsVerdict m places r → IfErr r (IsRefusal text)
refused_text text places m (Ok checked) says v = tt
refused_text text places m (Err (Refused (rows.Rule rule) at)) says v = record { «module» = m; places = places; says = says; node = v.node; first = v.first; is_there = v.is_there }
refused_text text places m (Err (Refused rows.NonAscii at)) says v = absurd v
refused_text text places m (Err (Refused rows.BadToken at)) says v = absurd v
refused_text text places m (Err (Refused rows.OpenComment at)) says v = absurd v
refused_text text places m (Err (Refused rows.LiteralForm at)) says v = absurd v
refused_text text places m (Err (Refused rows.Grammar at)) says v = absurd v
refused_text text places m (Err (Refused rows.NoUseAsm at)) says v = absurd v
refused_text text places m (Err (Refused rows.Height at)) says v = absurd v
refused_text text places m (Err Memory) says v = tt

pub same_module : (m n : Module) (ps qs : List ℕ) (r : Result Tree CheckFault) → n ≡ m → qs ≡ ps → IsVerdict n qs r → IsVerdict m ps r
same_module m n ps qs r e d v = subst (λ x. IsVerdict x ps r) e (subst (λ l. IsVerdict n l r) d v)

-- ---- a text that says no module

pub fault_of_text : (text : List ℕ) (fault : TextFault) → IsFault text fault → IsRefusal text (of_text fault)
fault_of_text text (texts.NonAscii at) h = h
fault_of_text text (texts.BadToken at) h = h
fault_of_text text (texts.OpenComment at) h = h
fault_of_text text (texts.LiteralForm at) h = h
fault_of_text text (texts.Grammar at) h = h
fault_of_text text (texts.NoUseAsm at) h = h
fault_of_text text (texts.Height at) h = h
fault_of_text text texts.Memory h = tt

pub no_fault : (m : Module) (places : List ℕ) (fault : TextFault) → IsAnswer m places (Err fault) → IsVerdict m places (Err (of_text fault))
no_fault m places (texts.NonAscii at) h = absurd h
no_fault m places (texts.BadToken at) h = absurd h
no_fault m places (texts.OpenComment at) h = absurd h
no_fault m places (texts.LiteralForm at) h = absurd h
no_fault m places (texts.Grammar at) h = absurd h
no_fault m places (texts.NoUseAsm at) h = absurd h
no_fault m places (texts.Height at) h = absurd h
no_fault m places texts.Memory h = tt

-- ---- a module that was validated

pub is_within : (m : Module) (places : List ℕ) (r : AsmRefusal) → ((x : Met) → refusal m ≡ Some x → x.node < length places) → IsRefused m r → IsWithin places r
is_within m places (refusals.Refused rule node) placed h = placed (record { rule = rule; node = node }) h
is_within m places refusals.Memory placed h = tt

pub verdict_of : (m : Module) (places : List ℕ) (r : AsmRefusal) → IsWithin places r → IsRefused m r → IsVerdict m places (Err (of_module places r))
verdict_of m places (refusals.Refused rule node) there h = record { node = node; first = h; is_there = slice_get-get_or places node 0 there }
verdict_of m places refusals.Memory there h = tt

pub exports_length : (m : Module) → length (exported_from m m.exports) ≡ exports_count m.exports
exports_length m = by m.exports
  where
    by : (e : Exports) → length (exported_from m e) ≡ exports_count e
    by (one f) = refl
    by (many es) = length-map es (λ (e : Export). exported m e.key e.function)
