-- A text is accepted or refused, and that in one way.
use Rattle.std.proofs.Common.{◌≡◌, ℕ, List, Option, Some, None, Result, Ok, refl, sym, ap, subst, ◌∙◌}
use Rattle.std.specs.Prelude.{slice_get, slice_index}
use Rattle.std.proofs.lemmas.Option.{slice_get-get_or}
use Rattle.asm_lang_tokens.specs.Text.{PlacedToken, Reading}
use Rattle.asm_lang_tokens.proofs.Readings.{same_reading}
use Rattle.asm_lang.specs.Lexemes.{lexemes_of}
use Rattle.asm_lang.specs.Trees.{ModuleTree}
use Rattle.asm_lang.specs.Grammar.{IsModule}
use Rattle.asm_lang.specs.Machine.{Refusal}
use Rattle.asm_lang.specs.Modules.{Module, module_of, module_places}
use Rattle.asm_lang.proofs.CompleteModules.{module_read}
use Rattle.asm_lang.specs.Texts as texts
use Rattle.asm_lang.specs.Texts.{IsTextOf, SaysModule, Fault, IsFault}
use Rattle.asm_lang_valid.specs.declared.rule.Met.{Met}
use Rattle.asm_lang_valid.specs.declared.rule.Rule.{Rule}
use Rattle.asm_lang_valid.specs.Refusal.{refusal}
use Rattle.asm_lang_valid.specs.Texts.{IsAcceptedText, IsRefusedModule}
use Rattle.asm_lang_valid.proofs.Places.{module_counted}
use Rattle.asm_laws_fault.specs.TextOutcomes.{TextOutcome, says, a_fault}
use Rattle.asm_laws_fault.proofs.Told.{same, not_both, some}
use Rattle.bridge_lang.specs.declared.asm_rows.AsmRow.{AsmRow}
use Rattle.bridge_lang.specs.declared.asm_rows.AsmRow.TheVariants as rows
use Rattle.cmd_check_asm.specs.declared.fault.CheckFault.{CheckFault}
use Rattle.cmd_check_asm.specs.declared.fault.CheckFault.TheVariants.{Refused, Memory}
use Rattle.bridge_lang.specs.AsmVerdicts.{IsRefusedText}
use Rattle.cmd_check_asm.specs.Verdicts.{HasRefusal, Verdict, accepted, refused}
use Rattle.cmd_check_asm.proofs.Judging.{refused_there}

-- ---- a text says one module, whose nodes have the same places

same_tokens : (ts us : List PlacedToken) → (let r : Reading = Ok ts in r) ≡ Ok us → ts ≡ us
same_tokens ts us e = cc

same_tree : (t u : ModuleTree) → (let r : Result ModuleTree Refusal = Ok t in r) ≡ Ok u → t ≡ u
same_tree t u e = cc

one_tree : (text : List ℕ) (m n : Module) (h : IsTextOf text m) (k : IsTextOf text n) → h.tree ≡ k.tree
one_tree text m n h k =
    let tokens : h.tokens ≡ k.tokens = same_tokens h.tokens k.tokens (same_reading h.is_reading k.is_reading) in
    let is : IsModule k.tree (lexemes_of h.tokens) = subst (λ (ts : List PlacedToken). IsModule k.tree (lexemes_of ts)) (sym tokens) k.is_module in
    same_tree h.tree k.tree (sym (module_read h.is_module) ∙ module_read is)

same_module : (text : List ℕ) (m n : Module) (ps qs : List ℕ) → SaysModule text m ps → SaysModule text n qs → m ≡ n
same_module text m n ps qs h k = sym h.said.is_this ∙ ap module_of (one_tree text m n h.said k.said) ∙ k.said.is_this

same_places : (text : List ℕ) (m n : Module) (ps qs : List ℕ) → SaysModule text m ps → SaysModule text n qs → ps ≡ qs
same_places text m n ps qs h k = h.have_places ∙ ap module_places (one_tree text m n h.said k.said) ∙ sym k.have_places

pub one_module : (text : List ℕ) (m n : Module) → IsAcceptedText text m → IsAcceptedText text n → m ≡ n
one_module text m n h k = same_module text m n h.places k.places h.says k.says

-- ---- why a text is refused: for a fault of its own, or for a rule that its module breaks

abbrev row_of : Fault → AsmRow
row_of texts.non_ascii = rows.NonAscii
row_of texts.bad_token = rows.BadToken
row_of texts.open_comment = rows.OpenComment
row_of texts.literal_form = rows.LiteralForm
row_of texts.grammar = rows.Grammar
row_of texts.no_use_asm = rows.NoUseAsm
row_of texts.height = rows.Height

refused_as : (text : List ℕ) (f : Fault) (at : ℕ) → IsFault text f at → IsRefusedText text (row_of f) at
refused_as text texts.non_ascii at h = h
refused_as text texts.bad_token at h = h
refused_as text texts.open_comment at h = h
refused_as text texts.literal_form at h = h
refused_as text texts.grammar at h = h
refused_as text texts.no_use_asm at h = h
refused_as text texts.height at h = h

data Why (text : List ℕ) (row : AsmRow) (at : ℕ) : Type 0 where
  by_text : (f : Fault) → IsFault text f at → row ≡ row_of f → Why text row at
  by_rule : (rule : Rule) → row ≡ rows.Rule rule → IsRefusedModule text rule at → Why text row at

why : (text : List ℕ) (row : AsmRow) (at : ℕ) → IsRefusedText text row at → Why text row at
why text rows.NonAscii at h = by_text texts.non_ascii h refl
why text rows.BadToken at h = by_text texts.bad_token h refl
why text rows.OpenComment at h = by_text texts.open_comment h refl
why text rows.LiteralForm at h = by_text texts.literal_form h refl
why text rows.Grammar at h = by_text texts.grammar h refl
why text rows.NoUseAsm at h = by_text texts.no_use_asm h refl
why text rows.Height at h = by_text texts.height h refl
why text (rows.Rule rule) at h = by_rule rule refl h

same_met : (x y : Met) → (let o : Option Met = Some x in o) ≡ Some y → x ≡ y
same_met x y e = cc

same_place : (i j : ℕ) → (let o : Option ℕ = Some i in o) ≡ Some j → i ≡ j
same_place i j e = cc

two_rules : (text : List ℕ) (r s : Rule) (i j : ℕ) → IsRefusedModule text r i → IsRefusedModule text s j → (let a : CheckFault = Refused (rows.Rule r) i in a) ≡ Refused (rows.Rule s) j
two_rules text r s i j h k =
    let x : Met = record { rule = r; node = h.node } in
    let y : Met = record { rule = s; node = k.node } in
    let is = same_met x y (sym h.first ∙ ap refusal (same_module text h.«module» k.«module» h.places k.places h.says k.says) ∙ k.first) in
    let there = ap (λ l. slice_get l h.node) (same_places text h.«module» k.«module» h.places k.places h.says k.says) ∙ ap (λ (z : Met). slice_get k.places z.node) is in
    let place = same_place i j (sym h.is_there ∙ there ∙ k.is_there) in
    (λ n. Refused (rows.Rule (is n).rule) (place n))

-- a fault of the text's own, and a rule that its module breaks
apart : (text : List ℕ) (f : Fault) (r : Rule) (i j : ℕ) → IsFault text f i → IsRefusedModule text r j → ⊥
apart text f r i j h k = not_both text k.«module» k.says.said k.says.within f i h

two_faults : (text : List ℕ) (f g : Fault) (i j : ℕ) → IsFault text f i → IsFault text g j → (let a : CheckFault = Refused (row_of f) i in a) ≡ Refused (row_of g) j
two_faults text f g i j h k =
    let is = same text f g i j h k in
    (λ n. Refused (row_of (is.0 n)) (is.1 n))

one_why : (text : List ℕ) (row q : AsmRow) (i j : ℕ) → Why text row i → Why text q j → (let a : CheckFault = Refused row i in a) ≡ Refused q j
one_why text row q i j (by_text f h is) (by_text g k js) = ap (λ (x : AsmRow). Refused x i) is ∙ two_faults text f g i j h k ∙ ap (λ (x : AsmRow). Refused x j) (sym js)
one_why text row q i j (by_text f h is) (by_rule s js k) = absurd (apart text f s i j h k)
one_why text row q i j (by_rule r is h) (by_text f k js) = absurd (apart text f r j i k h)
one_why text row q i j (by_rule r is h) (by_rule s js k) = ap (λ (x : AsmRow). Refused x i) is ∙ two_rules text r s i j h k ∙ ap (λ (x : AsmRow). Refused x j) (sym js)

-- a text is refused for one reason at one offset
pub one_refusal : (text : List ℕ) (row q : AsmRow) (i j : ℕ) → IsRefusedText text row i → IsRefusedText text q j → (let a : CheckFault = Refused row i in a) ≡ Refused q j
one_refusal text row q i j h k = one_why text row q i j (why text row i h) (why text q j k)

pub one_fault : (text : List ℕ) (e f : CheckFault) → HasRefusal text e → HasRefusal text f → e ≡ f
one_fault text (Refused row i) (Refused q j) h k = one_refusal text row q i j h.0 k.0
one_fault text (Refused row i) Memory h k = absurd (k.1 refl)
one_fault text Memory f h k = absurd (h.1 refl)

-- ---- a text that is accepted isn't refused

not_by : (text : List ℕ) (m : Module) (row : AsmRow) (at : ℕ) → IsAcceptedText text m → Why text row at → ⊥
not_by text m row at a (by_text f h is) = not_both text m a.says.said a.says.within f at h
not_by text m row at a (by_rule r is h) =
    let e = sym a.accepted ∙ ap refusal (same_module text m h.«module» a.places h.places a.says h.says) ∙ h.first in
    absurd cc

pub not_refused : (text : List ℕ) (m : Module) (row : AsmRow) (at : ℕ) → IsAcceptedText text m → IsRefusedText text row at → ⊥
not_refused text m row at a h = not_by text m row at a (why text row at h)

pub not_faulty : (text : List ℕ) (m : Module) (e : CheckFault) → IsAcceptedText text m → HasRefusal text e → ⊥
not_faulty text m (Refused row at) a h = not_refused text m row at a h.0
not_faulty text m Memory a h = h.1 refl

-- ---- a text is accepted or refused

of_refusal : (text : List ℕ) (m : Module) (places : List ℕ) (s : SaysModule text m places) (o : Option Met) → refusal m ≡ o → Verdict text
of_refusal text m places s None is = accepted m (record { places = places; says = s; accepted = is })
of_refusal text m places s (Some x) is =
    refused (Refused (rows.Rule x.rule) (slice_index places x.node)) (
      record {
        «module» = m;
        places = places;
        says = s;
        node = x.node;
        first = is;
        is_there = slice_get-get_or places x.node 0 (refused_there text places m module_counted s x is);
      },
      λ e. absurd cc,
    )

of_outcome : (text : List ℕ) → TextOutcome text → Verdict text
of_outcome text (says m places s) = of_refusal text m places s (refusal m) refl
of_outcome text (a_fault f at h) = refused (Refused (row_of f) at) (refused_as text f at h, λ e. absurd cc)

pub verdict : (text : List ℕ) → Verdict text
verdict text = of_outcome text (some text)
