-- The canonical text of a module reads as the module.
use Rattle.std.proofs.Common.{◌≡◌, ◌≤◌, ℕ, false, List, [], Result, Ok, sym, ap, subst, ◌∙◌}
use Rattle.std.specs.List.{AllByRecursion}
use Rattle.asm_lang_tokens.specs.Text.{PlacedToken, PlacedFault, HasForm}
use Rattle.asm_lang_tokens.proofs.Readings.{same_reading, forms_of}
use Rattle.asm_lang.specs.Lexemes.{lexemes_of}
use Rattle.asm_lang.specs.Trees.{ModuleTree}
use Rattle.asm_lang.specs.Grammar.{IsModule}
use Rattle.asm_lang.specs.Machine.{Refusal}
use Rattle.asm_lang.specs.Modules.{Module, module_of}
use Rattle.asm_lang.specs.Printing.{module_pieces, canonical_text}
use Rattle.asm_lang.specs.Heights.{module_height, height_limit, IsWellFormed}
use Rattle.asm_lang.specs.Texts.{IsTextOf}
use Rattle.asm_lang.proofs.CompleteModules.{module_read as module_run}
use Rattle.asm_laws_print.specs.Fitting.{FitsModule}
use Rattle.asm_laws_print.proofs.Modules.{module_read}
use Rattle.asm_laws_print.proofs.FitsModules.{module_fits, are_lexemes}
use Rattle.asm_laws_print.proofs.Joined.{joined_read}
use Rattle.asm_laws_print.proofs.NeatModules.{module_neat}

pub text_of : (m : Module) → FitsModule m → IsTextOf (canonical_text m) m
text_of m fits =
    let r = joined_read [] (module_pieces m) (module_neat m fits) 0 false in
    let x = module_read m fits r.spells in
    record { tokens = r.tokens; is_reading = r.reads; tree = x.tree; is_module = x.is_module; is_this = x.is_this }

-- what tokens spell fits
spelled_fits : (tokens : List PlacedToken) (tree : ModuleTree) (m : Module) → AllByRecursion HasForm tokens → IsModule tree (lexemes_of tokens) → module_of tree ≡ m → FitsModule m
spelled_fits tokens tree m forms is same = subst (λ (n : Module). FitsModule n) same (module_fits is (are_lexemes tokens forms))

pub well_formed_fits : (m : Module) → IsWellFormed m → FitsModule m
well_formed_fits m h = spelled_fits h.tokens h.tree m h.have_forms h.is_module h.is_this

pub fits_well_formed : (m : Module) → FitsModule m → module_height m ≤ height_limit → IsWellFormed m
fits_well_formed m fits low =
    let r = text_of m fits in
    record { tokens = r.tokens; tree = r.tree; have_forms = forms_of r.is_reading; is_module = r.is_module; is_this = r.is_this; within = low }

pub text_fits : (text : List ℕ) (m : Module) → IsTextOf text m → FitsModule m
text_fits text m h = spelled_fits h.tokens h.tree m (forms_of h.is_reading) h.is_module h.is_this

-- ---- a text says one module

same_tokens : (ts us : List PlacedToken) → (let r : Result (List PlacedToken) PlacedFault = Ok ts in r) ≡ Ok us → ts ≡ us
same_tokens ts us e = cc

same_tree : (t u : ModuleTree) → (let r : Result ModuleTree Refusal = Ok t in r) ≡ Ok u → t ≡ u
same_tree t u e = cc

pub one_module : (text : List ℕ) (m n : Module) → IsTextOf text m → IsTextOf text n → m ≡ n
one_module text m n h k =
    let tokens : h.tokens ≡ k.tokens = same_tokens h.tokens k.tokens (same_reading h.is_reading k.is_reading) in
    let is : IsModule k.tree (lexemes_of h.tokens) = subst (λ (ts : List PlacedToken). IsModule k.tree (lexemes_of ts)) (sym tokens) k.is_module in
    sym h.is_this ∙ (ap module_of (same_tree h.tree k.tree (sym (module_run h.is_module) ∙ module_run is)) ∙ k.is_this)
