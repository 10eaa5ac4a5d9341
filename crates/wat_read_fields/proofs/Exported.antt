-- What is exported, token by token.
use Rattle.std.proofs.Common.{◌≡◌, ℕ, ◌+◌, ◌-◌, ◌<◌, ◌≤◌, List, length, get_or, take, drop, Option, Some, None, refl, sym, ap, ◌∙◌}
use Rattle.std.proofs.lemmas.List.{take_rest, drop_all}
use Rattle.wasm_lang.specs.declared.types.ExportKind.{ExportKind}
use Rattle.wasm_lang.specs.declared.types.ExportKind.TheVariants as exports
use Rattle.wat_lang.specs.declared.parts.Space.{Space}
use Rattle.wat_lang.specs.declared.parts.Space.TheVariants as spaces
use Rattle.wat_lang.specs.Grammar.{Mark, an_exported, Marked}
use Rattle.wat_lang.specs.Names.{Names}
use Rattle.wat_lang.specs.Modules.{exported_by, export_kind_in}
use Rattle.wat_grammar.specs.Views.{mark_of}
use Rattle.wat_marks.specs.declared.marked.MarkedToken.{MarkedToken}
use Rattle.wat_read_tokens.specs.Marks.{marks_of}
use Rattle.wat_read_tokens.proofs.Steps.{front}
use Rattle.wat_read_fields.specs.Kinds.{exported_as}

abbrev or_others : ExportKind → Option ExportKind → ExportKind
or_others k None = k
or_others k (Some e) = e

exported_is : (names : Space → Names) (ms : List Marked) (k : ExportKind) (m : Mark) → exported_by names ms k m ≡ or_others k (exported_as names ms m)
exported_is names ms k (an_exported spaces.Func) = refl
exported_is names ms k (an_exported spaces.Table) = refl
exported_is names ms k (an_exported spaces.Memory) = refl
exported_is names ms k (an_exported spaces.Global) = refl
exported_is names ms k m = refl

at_token : (names : Space → Names) (ts : List MarkedToken) (n : ℕ) (t : MarkedToken) (o : Option ExportKind) → n < length ts → t ≡ get_or ts n t → o ≡ exported_as names (marks_of (take (length ts - (n + 1)) (drop (n + 1) ts))) (mark_of t.mark)
    → export_kind_in names (marks_of (drop n ts)) ≡ or_others (export_kind_in names (marks_of (drop (n + 1) ts))) o
at_token names ts n t o lt is e =
    ap (λ xs. export_kind_in names (marks_of xs)) (front ts n t lt is)
    ∙ exported_is names (marks_of (drop (n + 1) ts)) (export_kind_in names (marks_of (drop (n + 1) ts))) (mark_of t.mark)
    ∙ ap (λ xs. or_others (export_kind_in names (marks_of (drop (n + 1) ts))) (exported_as names (marks_of xs) (mark_of t.mark))) (sym (take_rest ts (n + 1)))
    ∙ ap (or_others (export_kind_in names (marks_of (drop (n + 1) ts)))) (sym e)

pub exported_here : (names : Space → Names) (ts : List MarkedToken) (n : ℕ) (t : MarkedToken) (k whole : ExportKind) → n < length ts → t ≡ get_or ts n t
    → Some k ≡ exported_as names (marks_of (take (length ts - (n + 1)) (drop (n + 1) ts))) (mark_of t.mark) → export_kind_in names (marks_of (drop n ts)) ≡ whole → k ≡ whole
exported_here names ts n t k whole lt is e h = sym (at_token names ts n t (Some k) lt is e) ∙ h

pub exported_later : (names : Space → Names) (ts : List MarkedToken) (n : ℕ) (t : MarkedToken) (whole : ExportKind) → n < length ts → t ≡ get_or ts n t
    → None ≡ exported_as names (marks_of (take (length ts - (n + 1)) (drop (n + 1) ts))) (mark_of t.mark) → export_kind_in names (marks_of (drop n ts)) ≡ whole → export_kind_in names (marks_of (drop (n + 1) ts)) ≡ whole
exported_later names ts n t whole lt is e h = sym (at_token names ts n t None lt is e) ∙ h

pub none_exported : (names : Space → Names) (ts : List MarkedToken) (n : ℕ) (whole : ExportKind) → length ts ≤ n → export_kind_in names (marks_of (drop n ts)) ≡ whole → exports.Func 0 ≡ whole
none_exported names ts n whole le h = sym (ap (λ xs. export_kind_in names (marks_of xs)) (drop_all n ts le)) ∙ h
